-- Each row of `gcc` is an `among` that keeps the rules.
use Rattle.std.proofs.Common.{ℕ, ℤ, ◌^◌, ◌<◌, List, All, get_or}
use Rattle.std.proofs.lemmas.List.Elements.{All-map}
use Rattle.std.proofs.Math.Pow.{pow-lt}
use Rattle.hk_kinds.specs.Limits.{IsWithinLimit}
use Rattle.hk_spec.specs.Grades.{IsGraded}
use Rattle.hk_spec.specs.Library.{gcc_bound, gcc_bounds}
use Rattle.hk_spec.specs.Specifications.{BoundSpecification, IsBound, IsWithoutBest}
use Rattle.hk_lib.proofs.LibraryBounds.{among_fits}
use Rattle.hk_lib.proofs.LibrarySenses.{among_graded}
use Rattle.hk_lib.proofs.LibraryWithoutBest.{among_without}

pub rows_fit : (n : ℕ) (rows : List (ℕ × ℤ × ℤ)) → n < 65536 → All (λ row. row.0 < 128) rows → All (λ row. IsWithinLimit row.1) rows → All (λ row. IsWithinLimit row.2) rows → All IsBound (gcc_bounds n rows)
rows_fit n rows few values least most = All-map IsBound (gcc_bound n) rows (λ k d below. among_fits n (2 ^ (get_or rows k d).0) (get_or rows k d).1 (get_or rows k d).2 few (pow-lt (values k d below)) (least k d below) (most k d below))

pub rows_graded : (n : ℕ) (rows : List (ℕ × ℤ × ℤ)) → All (λ (bound : BoundSpecification). IsGraded bound.spec) (gcc_bounds n rows)
rows_graded n rows = All-map (λ (bound : BoundSpecification). IsGraded bound.spec) (gcc_bound n) rows (λ k d below. among_graded)

pub rows_without : (n : ℕ) (rows : List (ℕ × ℤ × ℤ)) → All (λ (bound : BoundSpecification). IsWithoutBest bound.spec) (gcc_bounds n rows)
rows_without n rows = All-map (λ (bound : BoundSpecification). IsWithoutBest bound.spec) (gcc_bound n) rows (λ k d below. among_without)
