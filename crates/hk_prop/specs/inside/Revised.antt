-- What a revision makes of a diagram with its buffers, and what holds of the table that it makes.
use Rattle.std.specs.Prelude.{◌≡◌, ℕ, ℤ, ◌<◌, List, length, All, IfSome, IsFalse, slice_index_or}
use Rattle.hk_group.specs.Groups.{PlainGroup}
use Rattle.hk_group.specs.Problems.{PlainProblem}
use Rattle.hk_sweep.specs.Loose.{group_shape}
use Rattle.hk_sweep.specs.Revising.{AreFor}
use Rattle.hk_sweep.specs.Tight.{tight_revision}
use Rattle.hk_sweep.specs.Widths.{NamesRows}
use Rattle.hk_table.specs.Tables.{PlainRow}
use Rattle.hk_prop.specs.Contents.{PlainTable}
use Rattle.hk_prop.specs.Works.{WorkView}

-- what all tables are revised under in a pass
pub record PlainRound : Type 0 where
  pub problem : PlainProblem
  pub domains : List ℕ
  pub best : ℤ
  pub width : ℕ

-- a row comes from some rows, all below 256
pub record ComesFromSome (row : PlainRow) : Type 0 where
  pub some : 0 < length row.from
  pub small : All (λ origin. origin < 256) row.from

-- all rows of a table come from some rows, and each entry that names a row names one of the next layer
pub record IsTellable (table : PlainTable) : Type 0 where
  pub names : NamesRows table
  pub comes : All (λ (layer : List PlainRow). All ComesFromSome layer) table

-- the table is the tight revision, unless the revision was refused; all but it and the numbers of the levels is as it was
pub record IsRevised (g : PlainGroup) (round : PlainRound) (old new : WorkView) : Type 0 where
  pub table : IsFalse new.refused → new.diagram.table ≡ tight_revision g round.problem.domains round.domains round.best round.width old.diagram.table
  pub tellable : IsFalse new.refused → IsTellable new.diagram.table
  pub others : new.diagram ≡ record old.diagram { table = new.diagram.table; numbers = new.diagram.numbers }
  pub buffers : IfSome new.buffers (AreFor g)

-- each diagram has the shape of its group's tables
abbrev pub HaveShapes : PlainProblem → List WorkView → Type 0
HaveShapes p works = (k : ℕ) (g : PlainGroup) (work : WorkView) → k < length works → (slice_index_or works k work).diagram.shape ≡ group_shape (slice_index_or p.groups k g) p.domains
