-- What stands in the scopes of parts, one after the other, is what stands in one of them.
use Rattle.std.proofs.Common.{◌≡◌, ◌↔◌, ℕ, suc, zero, List, [], ◌∷◌, Any, Contains, arith, refl, sym, subst, inl, inr}
use Rattle.std.proofs.lemmas.List.Elements.{Contains-append_left, Contains-append_right, Contains-append_cases}
use Rattle.hk_group.specs.Groups.{Part}
use Rattle.hk_group.specs.inside.Joined.{scopes_joined}

stands_in_first : (part : Part) (parts : List Part) (x : ℕ) → Contains part.scope x → Any (λ (part : Part). Contains part.scope x) (part ∷ parts)
stands_in_first part parts x h = (0, part, omega arith, refl, h)

stands_in_later : (part : Part) (parts : List Part) (x : ℕ) → Any (λ (part : Part). Contains part.scope x) parts → Any (λ (part : Part). Contains part.scope x) (part ∷ parts)
stands_in_later part parts x (k, other, within, is, h) = (suc k, other, omega arith, is, h)

from_joined : (parts : List Part) (x : ℕ) → Contains (scopes_joined parts) x → Any (λ (part : Part). Contains part.scope x) parts
from_joined [] x (k, within, is) = absurd (omega arith)
from_joined (part ∷ parts) x h =
    elim (Contains-append_cases part.scope (scopes_joined parts) x h) [
      | inl mine ↦ stands_in_first part parts x mine
      | inr others ↦ stands_in_later part parts x (from_joined parts x others)
    ]

to_joined : (parts : List Part) (x : ℕ) → Any (λ (part : Part). Contains part.scope x) parts → Contains (scopes_joined parts) x
to_joined [] x (k, other, within, is, h) = absurd (omega arith)
to_joined (part ∷ parts) x (zero, other, within, is, h) = Contains-append_left part.scope (scopes_joined parts) x (subst (λ (p : Part). Contains p.scope x) (sym is) h)
to_joined (part ∷ parts) x (suc k, other, within, is, h) = Contains-append_right part.scope (scopes_joined parts) x (to_joined parts x (k, other, omega arith, is, h))

pub joined_is : (parts : List Part) (x : ℕ) → Contains (scopes_joined parts) x ↔ Any (λ (part : Part). Contains part.scope x) parts
joined_is parts x = (from_joined parts x, to_joined parts x)

-- of the same numbers in another list
pub joined_through : (parts : List Part) (all vars : List ℕ) (x : ℕ) → all ≡ scopes_joined parts → Contains vars x ↔ Contains all x → Contains vars x ↔ Any (λ (part : Part). Contains part.scope x) parts
joined_through parts all vars x is same =
    (λ h. from_joined parts x (subst (λ l. Contains l x) is (same.0 h)), λ h. same.1 (subst (λ l. Contains l x) (sym is) (to_joined parts x h)))
