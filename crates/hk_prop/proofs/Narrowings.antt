-- What the tables of all groups allow, one table after the other.
use Rattle.std.proofs.Common.{◌≡◌, ◌↔◌, ℕ, ◌+◌, ◌<◌, ◌≤◌, ◌==◌, ◌&&◌, Bool, true, false, List, ◌∷◌, length, get_or, drop, slice_index, Option, None, Some, refl, sym, ap, ap₂, ◌∙◌, subst, arith}
use Rattle.std.proofs.lemmas.Bool.{eqb-true}
use Rattle.std.proofs.lemmas.List.{drop_all}
use Rattle.std.proofs.lemmas.List.Kept.{AllPairs-from_increasing}
use Rattle.std.proofs.lemmas.List.Quantifiers.{position-Some}
use Rattle.std.specs.List.Sorted.{IsStrictlyIncreasing}
use Rattle.hk_base.specs.Sets.{Has}
use Rattle.hk_group.specs.Groups.{PlainGroup, place_in}
use Rattle.hk_group.proofs.Places.{place_found}
use Rattle.hk_sweep.specs.Loose.{group_shape}
use Rattle.hk_table.specs.Keeps.{Supports}
use Rattle.hk_prop.specs.Contents.{PlainTable}
use Rattle.hk_prop.specs.Supports.{allows_at, allows, all_allow}
use Rattle.hk_prop.specs.inside.Narrowed.{AreMet}
use Rattle.hk_prop.proofs.SupportTests.{supports_is}

module _ (sets : List ℕ) (g : PlainGroup) (table : PlainTable) (rises : IsStrictlyIncreasing g.vars) where
  place_of : (x layer : ℕ) → layer < length g.vars → slice_index g.vars layer ≡ x → place_in g.vars x ≡ Some layer
  place_of x layer within is = place_found g.vars x layer within (λ j low same.
      let below : get_or g.vars j 0 < get_or g.vars layer 0 = AllPairs-from_increasing g.vars rises j layer 0 low within in omega (arith, below, same, is)) is

  -- sets that are met with what a group's table supports have what the table allows
  pub met_allows : (supported old new : List ℕ) → AreMet g.vars supported (length g.vars) old new
      → ((level value : ℕ) → level < length g.vars → Has (slice_index supported level) value ↔ Supports (group_shape g sets) table level value)
      → (x value : ℕ) → x < length old → Has (slice_index new x) value ↔ (Has (slice_index old x) value × (allows sets g table x value ≡ true))
  met_allows supported old new met says x value within = (
    λ has. let before = (met x value within).0 has in (before.0, allowed (place_in g.vars x) refl before.1),
    λ both. (met x value within).1 (
      both.0,
      λ layer low is.
          (says layer value low).1 ((supports_is (group_shape g sets) table layer value).0 (subst (λ o. allows_at (group_shape g sets) table o value ≡ true) (place_of x layer low is) both.1)),
    ),
  )
    where
      allowed : (o : Option ℕ) → place_in g.vars x ≡ o → ((layer : ℕ) → layer < length g.vars → slice_index g.vars layer ≡ x → Has (slice_index supported layer) value) → allows_at (group_shape g sets) table o value ≡ true
      allowed None none stand = refl
      allowed (Some layer) is stand =
          let found = position-Some (λ other. other == x) g.vars layer 0 is in
          (supports_is (group_shape g sets) table layer value).1 ((says layer value found.0).0 (stand layer found.0 (eqb-true (get_or g.vars layer 0) x found.1)))

both_true : (a b : Bool) → (a && b) ≡ true → (a ≡ true) × (b ≡ true)
both_true true b e = (refl, e)
both_true false b e = cc

true_both : (a b : Bool) → a ≡ true → b ≡ true → (a && b) ≡ true
true_both a b e f = ap (λ c. c && b) e ∙ f

-- what tables allow of old sets is what those from a place on allow of the sets now
abbrev pub IsSame : List ℕ → List PlainGroup → List PlainTable → ℕ → List ℕ → List ℕ → Type 0
IsSame sets groups tables i old now = (x value : ℕ) → x < length old
    → (Has (slice_index old x) value × (all_allow sets groups tables x value ≡ true)) ↔ (Has (slice_index now x) value × (all_allow sets (drop i groups) (drop i tables) x value ≡ true))

module _ (sets : List ℕ) (groups : List PlainGroup) (tables : List PlainTable) (i : ℕ) (g : PlainGroup) (table : PlainTable) where
  split : (x value : ℕ) → drop i groups ≡ g ∷ drop (i + 1) groups → drop i tables ≡ table ∷ drop (i + 1) tables
      → all_allow sets (drop i groups) (drop i tables) x value ≡ (allows sets g table x value && all_allow sets (drop (i + 1) groups) (drop (i + 1) tables) x value)
  split x value gs ts = ap₂ (λ (a : List PlainGroup) (b : List PlainTable). all_allow sets a b x value) gs ts

  -- one table more
  pub narrow_turn : drop i groups ≡ g ∷ drop (i + 1) groups → drop i tables ≡ table ∷ drop (i + 1) tables → (old now new : List ℕ) → length now ≡ length old
      → ((x value : ℕ) → x < length now → Has (slice_index new x) value ↔ (Has (slice_index now x) value × (allows sets g table x value ≡ true)))
      → IsSame sets groups tables i old now → IsSame sets groups tables (i + 1) old new
  narrow_turn gs ts old now new long one same x value within =
      let rest : Bool = all_allow sets (drop (i + 1) groups) (drop (i + 1) tables) x value in
      let own : Bool = allows sets g table x value in
      let parted = split x value gs ts in (
        λ whole.
            let left = (same x value within).0 whole in
            let both = both_true own rest (sym parted ∙ left.1) in
            ((one x value (omega (arith, within, long))).1 (left.0, both.0), both.1),
        λ left.
            let had = (one x value (omega (arith, within, long))).0 left.0 in
            (same x value within).1 (had.0, parted ∙ true_both own rest had.1 left.1),
      )

-- no table is left
pub narrow_end : (sets : List ℕ) (groups : List PlainGroup) (tables : List PlainTable) (i : ℕ) (old now : List ℕ) → length groups ≤ i → IsSame sets groups tables i old now
    → (x value : ℕ) → x < length old → Has (slice_index now x) value ↔ (Has (slice_index old x) value × (all_allow sets groups tables x value ≡ true))
narrow_end sets groups tables i old now past same x value within =
    let none : all_allow sets (drop i groups) (drop i tables) x value ≡ true = ap (λ (a : List PlainGroup). all_allow sets a (drop i tables) x value) (drop_all i groups past) in (
      λ has. (same x value within).1 (has, none),
      λ both. ((same x value within).0 both).0,
    )
