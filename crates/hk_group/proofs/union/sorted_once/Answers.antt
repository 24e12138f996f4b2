use Rattle.std.proofs.Common.{Contains, sym, ◌∙◌, subst}
use Rattle.std.specs.List.Sorted.{IsStrictlyIncreasing}
use Rattle.std.proofs.lemmas.List.Filters.{dedup_is}
use Rattle.std.proofs.lemmas.List.Kept.{Contains-dedup_nat, Contains-from_dedup}
use Rattle.std.proofs.lemmas.List.Sorted.{Contains-permutation, IsPermutation-sym}
use Rattle.std.proofs.lemmas.Map.Keys.{IsStrictlyIncreasing-dedup}
use Rattle.hk_group.proofs.union.sorted_once.Goals as goal

pub returns-clause-rising : goal.returns-clause-rising
returns-clause-rising c =
    let whole = c.from_vec.ensures ∙ dedup_is _ _ _ c.dedup.ensures.filtered in
    subst IsStrictlyIncreasing (sym whole) (IsStrictlyIncreasing-dedup _ c.sort_unstable.ensures.sorted)

pub returns-clause-same : goal.returns-clause-same
returns-clause-same c =
    let whole = c.from_vec.ensures ∙ dedup_is _ _ _ c.dedup.ensures.filtered in
    let moved = c.sort_unstable.ensures.permutation in
    λ x. (
      λ h. subst (λ l. Contains l x) c.into_vec-sorted.ensures (Contains-permutation _ _ x (IsPermutation-sym _ _ moved) (Contains-from_dedup _ _ x (subst (λ l. Contains l x) whole h))),
      λ h. subst (λ l. Contains l x) (sym whole) (Contains-dedup_nat _ x (Contains-permutation _ _ x moved (subst (λ l. Contains l x) (sym c.into_vec-sorted.ensures) h))),
    )
