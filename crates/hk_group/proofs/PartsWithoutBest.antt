-- Where no part's test names the bound on the cost, a group's tests and its run are the same for every bound.
use Rattle.std.proofs.Common.{◌≡◌, ◌↔◌, ℕ, ℤ, ◌&&◌, false, List, [], ◌∷◌, take, drop, slice_index, Option, None, Some, All, ap₂, refl, sym, ◌∙◌}
use Rattle.std.proofs.lemmas.List.Elements.{All-head, All-tail}
use Rattle.hk_kinds.specs.declared.properties.Prop.{Prop}
use Rattle.hk_spec.specs.Specifications.{BoundSpecification, IsWithoutBest, test_scope}
use Rattle.hk_spec.specs.Steps.{test_passes, test_setting}
use Rattle.hk_spec.proofs.WithoutBest.{condition_same}
use Rattle.hk_group.specs.Groups.{PlainGroup, Part, place_in, passes_at, down_width, up_width, passes_of, group_passes}
use Rattle.hk_group.specs.GroupRuns.{GroupAccepts, GroupAcceptsFrom, at_last, one_layer}

-- the part's test does not name the bound
abbrev pub is_without_best : Part → Type 0
is_without_best part = IsWithoutBest part.bound.spec

module _ (best other : ℤ) where
  test_same : (b : BoundSpecification) (place value : ℕ) (down up : List Prop) → IsWithoutBest b.spec → test_passes b place value down up best ≡ test_passes b place value down up other
  test_same b place value down up without = condition_same (record (test_scope b.spec) { best = false }) b.spec.test (test_setting b place value down up other) best refl without

  passes_at_same : (part : Part) → is_without_best part → (place : Option ℕ) (value : ℕ) (down up : List Prop) → passes_at part place value best down up ≡ passes_at part place value other down up
  passes_at_same part without None value down up = refl
  passes_at_same part without (Some place) value down up = test_same part.bound place value down up without

  pub passes_of_same : (parts : List Part) → All is_without_best parts → (variable value : ℕ) (down up : List Prop) → passes_of parts variable value best down up ≡ passes_of parts variable value other down up
  passes_of_same [] without variable value down up = refl
  passes_of_same (part ∷ parts) without variable value down up =
      ap₂ (λ p q. p && q) (passes_at_same part (All-head is_without_best part parts without) (place_in part.scope variable) value (take (down_width part) down) (take (up_width part) up))
      (passes_of_same parts (All-tail is_without_best part parts without) variable value (drop (down_width part) down) (drop (up_width part) up))

  pub group_passes_same : (g : PlainGroup) (layer value : ℕ) (down up : List Prop) → All is_without_best g.parts → group_passes g layer value best down up ≡ group_passes g layer value other down up
  group_passes_same g layer value down up without = passes_of_same g.parts without (slice_index g.vars layer) value down up

accepts_for : (g : PlainGroup) (best other : ℤ) → All is_without_best g.parts → {layer : ℕ} {down : List Prop} {values : List ℕ} → GroupAcceptsFrom g best layer down values → GroupAcceptsFrom g other layer down values
accepts_for g best other without at_last = at_last
accepts_for g best other without {layer = layer} {down = down} (one_layer {value = value} holds more) = one_layer (sym (group_passes_same best other g layer value down _ without) ∙ holds) (accepts_for g best other without more)

pub group_accepts_same : (g : PlainGroup) (best other : ℤ) (values : List ℕ) → All is_without_best g.parts → GroupAccepts g best values ↔ GroupAccepts g other values
group_accepts_same g best other values without = (accepts_for g best other without, accepts_for g other best without)
