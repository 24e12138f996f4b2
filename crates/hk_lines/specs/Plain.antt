-- What was read, as the definitions name it: values, terms and the statement of a line.
use Rattle.std.specs.Prelude.{List, map}
use Rattle.hk_lines.specs.declared.phrases.Values.{Values as ReadValues}
use Rattle.hk_lines.specs.declared.phrases.Term.{Term as ReadTerm}
use Rattle.hk_lines.specs.declared.counts.Counting.{Counting as ReadCounting}
use Rattle.hk_lines.specs.declared.counts.Row.{Row as ReadRow}
use Rattle.hk_lines.specs.declared.shapes.Shape.{Shape}
use Rattle.hk_lines.specs.declared.shapes.Shape.TheVariants.{Start, Variable as VariableShape, Distinct as DistinctShape, Among as AmongShape, Sequence as SequenceShape, Gcc as GccShape, Total as TotalShape, Objective as ObjectiveShape, NewGroup as NewGroupShape}
use Rattle.hk_lines.specs.Phrases.{Values, Term, Row, Counting}
use Rattle.hk_lines.specs.Statements.{Statement, Header, Variable, Distinct, Among, Sequence, Gcc, Total, Objective, NewGroup}

-- values that were read
abbrev pub plain_values : ReadValues → Values
plain_values values = record { first = values.first; last = values.last }

-- a term that was read
abbrev pub plain_term : ReadTerm → Term
plain_term term = record { coef = term.coef; name = term.name.now }

-- the items of a set, as they are read
abbrev pub values_of : List ReadValues → List Values
values_of set = map plain_values set

-- the terms, as they are read
abbrev pub terms_of : List ReadTerm → List Term
terms_of terms = map plain_term terms

-- how many variables may take values, as it is read
abbrev pub plain_counting : ReadCounting → Counting
plain_counting counting = record { names = map (λ name. name.now) counting.names; set = values_of counting.set; least = counting.least; most = counting.most }

-- a row that was read
abbrev pub plain_row : ReadRow → Row
plain_row row = record { value = row.value; digits = row.digits.now; least = row.least; most = row.most }

-- the rows, as they are read
abbrev pub rows_of : List ReadRow → List Row
rows_of rows = map plain_row rows

-- the statement of a shape
abbrev pub statement_of : Shape → Statement
statement_of Start = Header
statement_of (VariableShape name set) = Variable name.now (values_of set)
statement_of (DistinctShape names) = Distinct (map (λ name. name.now) names)
statement_of (AmongShape counting) = Among (plain_counting counting)
statement_of (SequenceShape window counting) = Sequence window (plain_counting counting)
statement_of (GccShape names rows) = Gcc (map (λ name. name.now) names) (rows_of rows)
statement_of (TotalShape terms least most) = Total (terms_of terms) least most
statement_of (ObjectiveShape terms) = Objective (terms_of terms)
statement_of NewGroupShape = NewGroup
