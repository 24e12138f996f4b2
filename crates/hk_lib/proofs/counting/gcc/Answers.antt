use Rattle.std.proofs.Common.{ℕ, ◌<◌, List, length, slice_index_or, sym, subst}
use Rattle.hk_lib.proofs.LibrarySenses.{gcc_graded}
use Rattle.hk_lib.proofs.counting.gcc.Goals as goal
use Rattle.hk_spec.specs.Grades.{IsGraded}
use Rattle.hk_spec.specs.Specifications.{BoundSpecification}

pub returns-clause-graded : goal.returns-clause-graded
returns-clause-graded c = subst (λ (bounds : List BoundSpecification). (k : ℕ) (other : BoundSpecification) → k < length bounds → IsGraded (slice_index_or bounds k other).spec) (sym c.loop-row.invariant) (gcc_graded c.args.n _)
