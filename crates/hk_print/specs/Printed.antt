-- A specification as text: a block of lines.
use Rattle.std.specs.Prelude.{ℕ, List, [], ◌∷◌, ◌++◌, codes, map}
use Rattle.std.specs.List.{flat_map}
use Rattle.hk_kinds.specs.declared.kinds.Kind.{Kind}
use Rattle.hk_kinds.specs.declared.kinds.Kind.TheVariants.{Min, Max, Interval, SomeBits, AllBits}
use Rattle.hk_kinds.specs.declared.properties.Prop.{Prop}
use Rattle.hk_kinds.specs.declared.properties.Prop.TheVariants as property
use Rattle.hk_spec.specs.Specifications.{Specification}
use Rattle.hk_spec.specs.declared.parts.Param.{Param}
use Rattle.hk_spec.specs.declared.parts.ParamKind.{ParamKind}
use Rattle.hk_spec.specs.declared.parts.ParamKind.TheVariants as parameter
use Rattle.hk_spec.specs.declared.parts.PropDecl.{PropDecl}
use Rattle.hk_spec.specs.declared.parts.StepExpr.{StepExpr}
use Rattle.hk_spec.specs.declared.parts.StepExpr.TheVariants as step
use Rattle.hk_print.specs.Expressions.{Naming, naming_of, num_pieces, set_pieces, cond_pieces}
use Rattle.hk_print.specs.Pieces.{piece, signed_pieces, literal_pieces, line_text}

-- the word for a kind of parameters
abbrev pub param_word : ParamKind → List ℕ
param_word parameter.Num = codes "num"
param_word parameter.Set = codes "set"
param_word parameter.List = codes "list"

-- a parameter: its kind and its name
abbrev pub param_pieces : Param → List (List (List ℕ))
param_pieces param = piece (param_word param.kind) ++ piece param.name

-- parameters, each after a comma
abbrev pub comma_params : List Param → List (List (List ℕ))
comma_params = flat_map (λ param. piece (codes ",") ++ param_pieces param)

-- parameters in parentheses, with commas between them
abbrev pub params_pieces : List Param → List (List (List ℕ))
params_pieces [] = (codes "(" ∷ codes ")" ∷ []) ∷ []
params_pieces (param ∷ params) = piece (codes "(") ++ (param_pieces param ++ (comma_params params ++ piece (codes ")")))

-- the first line: the name and the parameters
abbrev pub first_line : Specification → List (List (List ℕ))
first_line s = piece (codes "spec") ++ (piece s.name ++ params_pieces s.params)

-- the word for a kind of properties
abbrev pub kind_word : Kind → List ℕ
kind_word Min = codes "Min"
kind_word Max = codes "Max"
kind_word Interval = codes "Interval"
kind_word SomeBits = codes "SomeBits"
kind_word AllBits = codes "AllBits"

-- a property's value: a number, two of them, or a set
abbrev pub init_pieces : Prop → List (List (List ℕ))
init_pieces (property.Num n) = signed_pieces n
init_pieces (property.Pair low high) = signed_pieces low ++ (piece (codes "..") ++ signed_pieces high)
init_pieces (property.Bits set) = literal_pieces set

-- the line of a property: the word for its side, its name, its kind and its value before the first step
abbrev pub property_line : List ℕ → PropDecl → List (List (List ℕ))
property_line side p = piece side ++ (piece p.name ++ (piece (kind_word p.kind) ++ init_pieces p.init))

-- the line of the test
abbrev pub test_line : Specification → List (List (List ℕ))
test_line s = piece (codes "test") ++ cond_pieces (naming_of s) s.test

-- how a property steps: one number expression, two of them, or a set expression
abbrev pub step_pieces : Naming → StepExpr → List (List (List ℕ))
step_pieces naming (step.Num e) = num_pieces naming e
step_pieces naming (step.Pair low high) = num_pieces naming low ++ num_pieces naming high
step_pieces naming (step.Set e) = set_pieces naming e

-- the line of a step: the property's name and how it steps
abbrev pub step_line : Naming → PropDecl → StepExpr → List (List (List ℕ))
step_line naming p e = piece (codes "step") ++ (piece p.name ++ step_pieces naming e)

-- the lines of the steps of one side, a line for each property that has its step
abbrev pub step_lines : Naming → List PropDecl → List StepExpr → List (List (List (List ℕ)))
step_lines naming [] steps = []
step_lines naming (p ∷ properties) [] = []
step_lines naming (p ∷ properties) (e ∷ steps) = step_line naming p e ∷ step_lines naming properties steps

-- the first lines: the name and the parameters, and the properties of both sides
abbrev pub declaration_lines : Specification → List (List (List (List ℕ)))
declaration_lines s = first_line s ∷ (map (property_line (codes "down")) s.down ++ map (property_line (codes "up")) s.up)

-- the lines after them: the test, and the steps of both sides
abbrev pub rule_lines : Specification → List (List (List (List ℕ)))
rule_lines s = test_line s ∷ (step_lines (naming_of s) s.down s.down_step ++ step_lines (naming_of s) s.up s.up_step)

-- the lines of a specification
abbrev pub spec_lines : Specification → List (List (List (List ℕ)))
spec_lines s = declaration_lines s ++ (rule_lines s ++ piece (codes "end") ∷ [])

-- lines of pieces as text
abbrev pub lines_text : List (List (List (List ℕ))) → List ℕ
lines_text = flat_map line_text

-- the text of a specification
abbrev pub spec_text : Specification → List ℕ
spec_text s = lines_text (spec_lines s)
