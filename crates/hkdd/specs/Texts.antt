-- The fixed texts of the program.
use Rattle.std.specs.Prelude.{ℕ, List, ◌++◌, codes}
use Rattle.std.specs.Fmt.{decimal}
use Rattle.hk_draft.specs.declared.kinds.RefusalKind.{RefusalKind}
use Rattle.hk_draft.specs.declared.kinds.RefusalKind.TheVariants.{Text, Syntax, Name, Limit, Scope, Grade, Unfinished}

-- how the program is called
abbrev pub usage_text : List ℕ
usage_text = codes "usage: hkdd solve FILE\n"

-- that an input could not be read
abbrev pub read_fault_text : List ℕ
read_fault_text = codes "read fault\n"

-- that a model is too long
abbrev pub too_large_text : List ℕ
too_large_text = codes "too large\n"

-- the name of a kind of refusal
abbrev pub kind_text : RefusalKind → List ℕ
kind_text Text = codes "Text"
kind_text Syntax = codes "Syntax"
kind_text Name = codes "Name"
kind_text Limit = codes "Limit"
kind_text Scope = codes "Scope"
kind_text Grade = codes "Grade"
kind_text Unfinished = codes "Unfinished"

-- that a model is refused at a line, and why
abbrev pub refusal_text : ℕ → RefusalKind → List ℕ
refusal_text line kind = codes "refused line " ++ (decimal line ++ (codes " " ++ (kind_text kind ++ codes "\n")))
