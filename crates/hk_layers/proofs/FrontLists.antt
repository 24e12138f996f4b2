-- Rows on the way down, by the list of their down states and that of their sets of old rows.
use Rattle.std.proofs.Common.{◌≡◌, ◌<◌, ℕ, zero, suc, List, [], ◌∷◌, length, get_or, refl, sym, ◌∙◌, ap, arith}
use Rattle.std.proofs.lemmas.List.{get_or_default}
use Rattle.hk_kinds.specs.declared.properties.Prop.{Prop}
use Rattle.hk_layers.specs.Flat.{halves_of, half_at}
use Rattle.hk_layers.specs.Views.{FrontView}
use Rattle.hk_text.specs.Sets.{members_below}

-- there are as many rows as down states
pub length-halves_of : (downs : List (List Prop)) (froms : List ℕ) → length downs ≡ length froms → length (halves_of downs froms) ≡ length downs
length-halves_of [] froms long = refl
length-halves_of (down ∷ downs) [] long = absurd (omega arith)
length-halves_of (down ∷ downs) (from ∷ froms) long = ap (λ n. suc n) (length-halves_of downs froms (omega arith))

-- the row at a place has the down state there
pub halves_of-down : (downs : List (List Prop)) (froms : List ℕ) (i : ℕ) → length downs ≡ length froms → (half_at (halves_of downs froms) i).down ≡ get_or downs i []
halves_of-down [] froms i long = refl
halves_of-down (down ∷ downs) [] i long = absurd (omega arith)
halves_of-down (down ∷ downs) (from ∷ froms) zero long = refl
halves_of-down (down ∷ downs) (from ∷ froms) (suc i) long = halves_of-down downs froms i (omega arith)

-- and comes from the old rows of the set there
pub halves_of-from : (downs : List (List Prop)) (froms : List ℕ) (i : ℕ) → length downs ≡ length froms → i < length froms → (half_at (halves_of downs froms) i).from ≡ members_below (get_or froms i 0) 256
halves_of-from downs [] i long within = absurd (omega arith)
halves_of-from [] (from ∷ froms) i long within = absurd (omega arith)
halves_of-from (down ∷ downs) (from ∷ froms) zero long within = refl
halves_of-from (down ∷ downs) (from ∷ froms) (suc i) long within = halves_of-from downs froms i (omega arith) (omega arith)

-- what contracts see of down states and sets
abbrev pub front_by : ℕ → List (List Prop) → List ℕ → FrontView
front_by width downs froms = record { width = width; halves = halves_of downs froms }

module _ (width : ℕ) (downs : List (List Prop)) (froms : List ℕ) (now : FrontView) (seen : front_by width downs froms ≡ now) (long : length downs ≡ length froms) where
  pub front_length : length froms ≡ length now.halves
  front_length = sym long ∙ (sym (length-halves_of downs froms long) ∙ ap (λ (f : FrontView). length f.halves) seen)

  pub front_down : (i : ℕ) → get_or downs i [] ≡ (half_at now.halves i).down
  front_down i = sym (halves_of-down downs froms i long) ∙ ap (λ (f : FrontView). (half_at f.halves i).down) seen

  pub front_from : (i : ℕ) → i < length froms → members_below (get_or froms i 0) 256 ≡ (half_at now.halves i).from
  front_from i within = sym (halves_of-from downs froms i long within) ∙ ap (λ (f : FrontView). (half_at f.halves i).from) seen

  pub front_set : (i set : ℕ) (items : List ℕ) → items ≡ froms → set ≡ get_or items i set → i < length now.halves → members_below set 256 ≡ (half_at now.halves i).from
  front_set i set items same read within =
      let there : i < length froms = omega (arith, front_length) in
      let at : set ≡ get_or froms i 0 = read ∙ ap (λ xs. get_or xs i set) same ∙ get_or_default froms i set 0 there in
      ap (λ s. members_below s 256) at ∙ front_from i there
