-- Why the reader stops at a line.
use Rattle.std.specs.Prelude.{◌≡◌, ℕ, Bool, true, List, [], ◌∷◌, ◌++◌, Option, None, Some}
use Rattle.hk_parse.specs.BlockLines.{Part, whole_spec}
use Rattle.hk_parse.specs.declared.faults.BlockFault.{BlockFault}
use Rattle.hk_parse.specs.declared.faults.BlockFault.TheVariants as block
use Rattle.hk_spec.specs.declared.expressions.Cond.{Cond}
use Rattle.hk_draft.specs.declared.faults.LineFault.{LineFault}
use Rattle.hk_draft.specs.declared.faults.LineFault.TheVariants.{Bad, NoMemory}
use Rattle.hk_model.specs.declared.refusal.ModelError.{ModelError}
use Rattle.hk_model.specs.declared.refusal.ModelError.TheVariants.{Refused, Memory}
use Rattle.hk_draft.specs.declared.kinds.RefusalKind.TheVariants.{Syntax, Name, Limit}
use Rattle.hk_model.specs.LineFaults.{IsFirstFault}
use Rattle.hk_model.specs.Models.{Declared, IsBadLine}
use Rattle.hk_lines.specs.Posts.{Post}
use Rattle.hk_model.specs.Postings.{AddsPost}
use Rattle.hk_model.specs.inside.PostFaults.{IsPostFault}
use Rattle.hk_draft.specs.Drafts.{PlainDraft}

-- why the reader stops at a line, by what was declared before it: it is bad, and has this fault first; want of memory says nothing
abbrev pub IsLineFault : Declared → List ℕ → LineFault → Type 0
IsLineFault before line (Bad kind) = IsBadLine before line × IsFirstFault before line kind
IsLineFault before line NoMemory = Unit {0}

-- the answer where the reader stops at a line of this number
abbrev pub IsErrorAt : ℕ → LineFault → ModelError → Type 0
IsErrorAt number (Bad kind) error = error ≡ Refused (record { line = number; kind = kind })
IsErrorAt number NoMemory error = error ≡ Memory

-- why the reader of a model stops, where a line of a specification is bad
abbrev pub as_line_fault : BlockFault → LineFault
as_line_fault block.Syntax = Bad Syntax
as_line_fault block.Name = Bad Name
as_line_fault block.Limit = Bad Limit
as_line_fault block.Memory = NoMemory

-- the same of a first line, where its name may be that of another specification: this is told before a limit
abbrev pub as_begin_fault : Bool → BlockFault → LineFault
as_begin_fault true block.Limit = Bad Name
as_begin_fault taken fault = as_line_fault fault

-- a post after the header, and what is declared after it
pub record Posts (before : Declared) (post : Post) (after : Declared) : Type 0 where
  pub problem : PlainDraft
  pub next : PlainDraft
  pub started : before.problem ≡ Some problem
  pub adds : AddsPost before.specs post problem next
  pub declared : after ≡ record before { problem = Some next }

-- why the reader stops at a post, by what was declared before it: it stands before the header, or it has this fault first
abbrev pub IsPostFaultAfter : Declared → Post → LineFault → Type 0
IsPostFaultAfter before post fault = IsFaultIn before.problem
  where
    IsFaultIn : Option PlainDraft → Type 0
    IsFaultIn None = fault ≡ Bad Syntax
    IsFaultIn (Some problem) = IsPostFault before.specs problem post fault

-- the open specification is one with this test and is declared, and none is open
pub record EndsBlock (before : Declared) (part : Part) (after : Declared) : Type 0 where
  pub test : Cond
  pub tested : part.test ≡ Some test
  pub declared : after ≡ record before { specs = before.specs ++ whole_spec part test ∷ []; block = None }
