-- Diagrams as the passes of a node keep them: what contracts see of one, and which are for a problem's groups.
use Rattle.std.specs.Prelude.{◌≡◌, ℕ, ◌<◌, Bool, List, length, map, Option, IfSome, slice_index_or}
use Rattle.hk_arena.specs.Diagrams.{DiagramLevels}
use Rattle.hk_group.specs.Groups.{PlainGroup}
use Rattle.hk_group.specs.Problems.{PlainProblem}
use Rattle.hk_sweep.specs.Loose.{group_shape}
use Rattle.hk_sweep.specs.Revising.{BuffersView, AreFor}
use Rattle.hk_prop.specs.Contents.{PlainTable, Content}

-- a diagram, whether its last revision was refused, and the buffers of its revisions, where there are some
pub record WorkView : Type 0 where
  pub diagram : DiagramLevels
  pub refused : Bool
  pub buffers : Option BuffersView

-- the diagram was made for a group, whose variables have these sets of values in the model, and for a width; the buffers,
-- where there are some, are for the group
pub record IsWorkFor (g : PlainGroup) (sets : List ℕ) (width : ℕ) (work : WorkView) : Type 0 where
  pub shape : work.diagram.shape ≡ group_shape g sets
  pub wide : work.diagram.width ≡ width
  pub buffers : IfSome work.buffers (AreFor g)

-- there is a diagram for each group of a problem, in order
pub record AreWorksFor (p : PlainProblem) (width : ℕ) (works : List WorkView) : Type 0 where
  pub one_each : length works ≡ length p.groups
  pub each : (k : ℕ) (g : PlainGroup) (work : WorkView) → k < length works → IsWorkFor (slice_index_or p.groups k g) p.domains width (slice_index_or works k work)

-- the tables of diagrams
abbrev pub tables_of : List WorkView → List PlainTable
tables_of works = map (λ work. work.diagram.table) works

-- the stacks of diagrams
abbrev pub stacks_of : List WorkView → List (List PlainTable)
stacks_of works = map (λ work. work.diagram.stack) works

-- where a node stands: at the domains, and the tables of the diagrams
abbrev pub content_of : List ℕ → List WorkView → Content
content_of domains works = record { domains = domains; tables = tables_of works }

-- of each diagram all but the table and the numbers of its levels is as it was
abbrev pub OnlyTablesChange : List WorkView → List WorkView → Type 0
OnlyTablesChange old new = (k : ℕ) (work : WorkView) → k < length old
    → (slice_index_or new k work).diagram ≡ record (slice_index_or old k work).diagram { table = (slice_index_or new k work).diagram.table; numbers = (slice_index_or new k work).diagram.numbers }
