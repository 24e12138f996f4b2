-- The variables of a valid problem's groups are those of the problem.
use Rattle.std.proofs.Common.{◌≡◌, ℕ, ◌<◌, length, All, ◌∙◌, sym, subst}
use Rattle.std.specs.Prelude.{slice_index_or}
use Rattle.hk_group.specs.Groups.{PlainGroup}
use Rattle.hk_group.specs.Problems.{PlainProblem, IsValid}
use Rattle.hk_group.proofs.GroupScopes.{valid_scopes}

pub group_declared : (p : PlainProblem) (count : ℕ) → IsValid p → count ≡ length p.domains → (k : ℕ) (g : PlainGroup) → k < length p.groups → All (λ variable. variable < count) (slice_index_or p.groups k g).vars
group_declared p count valid same k g within = subst (λ n. All (λ variable. variable < n) (slice_index_or p.groups k g).vars) (valid.named ∙ sym same) ((valid_scopes p valid) k g within).declared
