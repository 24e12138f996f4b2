-- A group's exact run is the exact runs of its parts.
use Rattle.std.proofs.Common.{◌≡◌, ◌↔◌, ℕ, ℤ, zero, suc, true, ◌+◌, ◌<◌, ◌&&◌, List, [], ◌∷◌, ◌++◌, length, map, drop, slice_index, slice_index_or, All, Some, arith, ap, refl, sym, ◌∙◌, subst}
use Rattle.std.proofs.lemmas.List.{length-map}
use Rattle.std.proofs.lemmas.List.Elements.{All-nil, All-cons, All-head, All-tail}
use Rattle.hk_kinds.specs.NumberLattices.{both_true, first_true, second_true}
use Rattle.hk_kinds.specs.declared.properties.Prop.{Prop}
use Rattle.hk_spec.specs.Runs.{Accepts, AcceptsFrom, at_end, one_more, exact_up}
use Rattle.hk_spec.specs.Specifications.{IsBound, initial_values}
use Rattle.hk_group.specs.Groups.{PlainGroup, Part, IsPart, IsGroup, down_at, up_at, passes_at, part_down, part_up, part_passes, down_width, up_width, down_of, up_of, passes_of, initial_down_of, initial_up_of, place_in, group_down}
use Rattle.hk_group.specs.GroupRuns.{GroupAccepts, GroupAcceptsFrom, at_last, one_layer, exact_group_up}
use Rattle.hk_group.proofs.PartStates.{down_side_by_side, up_side_by_side, passes_side_by_side, length-part_down, length-part_up}
use Rattle.hk_group.proofs.Places.{Along, finished, outside, inside, along_whole, head_at, tail_at}

-- the up state of parts before the values of variables
abbrev pub parts_up : List Part → (ℕ → ℕ) → List ℕ → List Prop
parts_up parts value [] = initial_up_of parts
parts_up parts value (x ∷ vars) = up_of parts x (value x) (parts_up parts value vars)

-- the same of one part
abbrev pub part_run_up : Part → (ℕ → ℕ) → List ℕ → List Prop
part_run_up part value [] = initial_values part.bound.spec.up
part_run_up part value (x ∷ vars) = part_up part x (value x) (part_run_up part value vars)

-- the run of parts over variables
pub data PartsAccept (parts : List Part) (best : ℤ) (value : ℕ → ℕ) : List Prop → List ℕ → Type 0 where
  parts_end : {down : List Prop} → PartsAccept parts best value down []
  parts_more : {down : List Prop} {x : ℕ} {vars : List ℕ} → passes_of parts x (value x) best down (parts_up parts value vars) ≡ true → PartsAccept parts best value (down_of parts x (value x) down) vars → PartsAccept parts best value down (x ∷ vars)

-- the run of one part
pub data PartAccepts (part : Part) (best : ℤ) (value : ℕ → ℕ) : List Prop → List ℕ → Type 0 where
  part_end : {down : List Prop} → PartAccepts part best value down []
  part_more : {down : List Prop} {x : ℕ} {vars : List ℕ} → part_passes part x (value x) best down (part_run_up part value vars) ≡ true → PartAccepts part best value (part_down part x (value x) down) vars → PartAccepts part best value down (x ∷ vars)

length-part_run_up : (part : Part) (value : ℕ → ℕ) (vars : List ℕ) → IsBound part.bound → length (part_run_up part value vars) ≡ up_width part
length-part_run_up part value [] rules = length-map part.bound.spec.up _
length-part_run_up part value (x ∷ vars) rules = length-part_up part x (value x) (part_run_up part value vars) rules (length-part_run_up part value vars rules)

parts_up_split : (part : Part) (parts : List Part) (value : ℕ → ℕ) (vars : List ℕ) → IsBound part.bound → parts_up (part ∷ parts) value vars ≡ part_run_up part value vars ++ parts_up parts value vars
parts_up_split part parts value [] rules = refl
parts_up_split part parts value (x ∷ vars) rules = ap (up_of (part ∷ parts) x (value x)) (parts_up_split part parts value vars rules) ∙ up_side_by_side part parts x (value x) _ _ (length-part_run_up part value vars rules)

module _ (part : Part) (parts : List Part) (best : ℤ) (value : ℕ → ℕ) (rules : IsBound part.bound) where
  tests : (x : ℕ) (vars : List ℕ) (mine others : List Prop) → length mine ≡ down_width part → passes_of (part ∷ parts) x (value x) best (mine ++ others) (parts_up (part ∷ parts) value vars) ≡ (part_passes part x (value x) best mine (part_run_up part value vars) && passes_of parts x (value x) best others (parts_up parts value vars))
  tests x vars mine others long = ap (passes_of (part ∷ parts) x (value x) best (mine ++ others)) (parts_up_split part parts value vars rules) ∙ passes_side_by_side part parts x (value x) best mine others _ _ long (length-part_run_up part value vars rules)

  first_accepts : (mine others : List Prop) (vars : List ℕ) → length mine ≡ down_width part → PartsAccept (part ∷ parts) best value (mine ++ others) vars → PartAccepts part best value mine vars
  first_accepts mine others [] long parts_end = part_end
  first_accepts mine others (x ∷ vars) long (parts_more holds more) =
      part_more (first_true _ _ (sym (tests x vars mine others long) ∙ holds)) (first_accepts (part_down part x (value x) mine) (down_of parts x (value x) others) vars (length-part_down part x (value x) mine rules long) (subst (λ s. PartsAccept (part ∷ parts) best value s vars) (down_side_by_side part parts x (value x) mine others long) more))

  others_accept : (mine others : List Prop) (vars : List ℕ) → length mine ≡ down_width part → PartsAccept (part ∷ parts) best value (mine ++ others) vars → PartsAccept parts best value others vars
  others_accept mine others [] long parts_end = parts_end
  others_accept mine others (x ∷ vars) long (parts_more holds more) =
      parts_more (second_true _ _ (sym (tests x vars mine others long) ∙ holds)) (others_accept (part_down part x (value x) mine) (down_of parts x (value x) others) vars (length-part_down part x (value x) mine rules long) (subst (λ s. PartsAccept (part ∷ parts) best value s vars) (down_side_by_side part parts x (value x) mine others long) more))

  both_accept : (mine others : List Prop) (vars : List ℕ) → length mine ≡ down_width part → PartAccepts part best value mine vars → PartsAccept parts best value others vars → PartsAccept (part ∷ parts) best value (mine ++ others) vars
  both_accept mine others [] long part_end parts_end = parts_end
  both_accept mine others (x ∷ vars) long (part_more holds more) (parts_more hold mores) =
      parts_more (tests x vars mine others long ∙ both_true _ _ holds hold) (subst (λ s. PartsAccept (part ∷ parts) best value s vars) (sym (down_side_by_side part parts x (value x) mine others long)) (both_accept (part_down part x (value x) mine) (down_of parts x (value x) others) vars (length-part_down part x (value x) mine rules long) more mores))

-- no parts accept everything
none_accept : (best : ℤ) (value : ℕ → ℕ) (down : List Prop) (vars : List ℕ) → PartsAccept [] best value down vars
none_accept best value down [] = parts_end
none_accept best value down (x ∷ vars) = parts_more refl (none_accept best value [] vars)

-- where a part goes along the variables, its run over them is its specification's over its scope
module _ (part : Part) (best : ℤ) (value : ℕ → ℕ) where
  run_up_along : (k : ℕ) (vars : List ℕ) → Along part.scope k vars → exact_up part.bound k (map value (drop k part.scope)) ≡ part_run_up part value vars
  run_up_along k [] (finished none) = ap (λ rest. exact_up part.bound k (map value rest)) none
  run_up_along k (x ∷ vars) (outside missing more) = run_up_along k vars more ∙ sym (ap (λ place. up_at part place (value x) (part_run_up part value vars)) missing)
  run_up_along k (x ∷ vars) (inside {rest = rest} found at more) =
      ap (λ l. exact_up part.bound k (map value l)) at
      ∙ (ap (λ l. up_at part (Some k) (value x) (exact_up part.bound (k + 1) (map value l))) (sym (tail_at k part.scope x rest at))
      ∙ (ap (up_at part (Some k) (value x)) (run_up_along (k + 1) vars more)
      ∙ sym (ap (λ place. up_at part place (value x) (part_run_up part value vars)) found)))

  accepts_along : (k : ℕ) (down : List Prop) (vars : List ℕ) → Along part.scope k vars → PartAccepts part best value down vars → AcceptsFrom part.bound best k down (map value (drop k part.scope))
  accepts_along k down [] (finished none) part_end = subst (λ l. AcceptsFrom part.bound best k down (map value l)) (sym none) at_end
  accepts_along k down (x ∷ vars) (outside missing more) (part_more holds runs) = accepts_along k down vars more (subst (λ s. PartAccepts part best value s vars) (ap (λ place. down_at part place (value x) down) missing) runs)
  accepts_along k down (x ∷ vars) (inside {rest = rest} found at more) (part_more holds runs) =
      let tail : drop (k + 1) part.scope ≡ rest = tail_at k part.scope x rest at in
      let stepped : AcceptsFrom part.bound best (k + 1) (down_at part (Some k) (value x) down) (map value (drop (k + 1) part.scope)) = accepts_along (k + 1) _ vars more (subst (λ s. PartAccepts part best value s vars) (ap (λ place. down_at part place (value x) down) found) runs) in
      let tested : passes_at part (Some k) (value x) best down (exact_up part.bound (k + 1) (map value (drop (k + 1) part.scope))) ≡ true = ap (passes_at part (Some k) (value x) best down) (run_up_along (k + 1) vars more) ∙ (sym (ap (λ place. passes_at part place (value x) best down (part_run_up part value vars)) found) ∙ holds) in
      subst (λ l. AcceptsFrom part.bound best k down (map value l)) (sym at) (one_more (ap (λ l. passes_at part (Some k) (value x) best down (exact_up part.bound (k + 1) (map value l))) (sym tail) ∙ tested) (subst (λ l. AcceptsFrom part.bound best (k + 1) (down_at part (Some k) (value x) down) (map value l)) tail stepped))

  inside_accepts : (k x : ℕ) (vars rest : List ℕ) (down : List Prop) → place_in part.scope x ≡ Some k → drop k part.scope ≡ x ∷ rest → Along part.scope (k + 1) vars
      → ((stepped : List Prop) → AcceptsFrom part.bound best (k + 1) stepped (map value (drop (k + 1) part.scope)) → PartAccepts part best value stepped vars)
      → AcceptsFrom part.bound best k down (value x ∷ map value rest) → PartAccepts part best value down (x ∷ vars)
  inside_accepts k x vars rest down found at more later (one_more holds runs) =
      let tail : drop (k + 1) part.scope ≡ rest = tail_at k part.scope x rest at in
      let tested : passes_at part (Some k) (value x) best down (part_run_up part value vars) ≡ true = ap (passes_at part (Some k) (value x) best down) (sym (run_up_along (k + 1) vars more)) ∙ (ap (λ l. passes_at part (Some k) (value x) best down (exact_up part.bound (k + 1) (map value l))) tail ∙ holds) in
      let stepped : PartAccepts part best value (down_at part (Some k) (value x) down) vars = later _ (subst (λ l. AcceptsFrom part.bound best (k + 1) (down_at part (Some k) (value x) down) (map value l)) (sym tail) runs) in
      part_more (ap (λ place. passes_at part place (value x) best down (part_run_up part value vars)) found ∙ tested) (subst (λ s. PartAccepts part best value s vars) (sym (ap (λ place. down_at part place (value x) down) found)) stepped)

  along_accepts : (k : ℕ) (down : List Prop) (vars : List ℕ) → Along part.scope k vars → AcceptsFrom part.bound best k down (map value (drop k part.scope)) → PartAccepts part best value down vars
  along_accepts k down [] (finished none) run = part_end
  along_accepts k down (x ∷ vars) (outside missing more) run =
      part_more (ap (λ place. passes_at part place (value x) best down (part_run_up part value vars)) missing) (subst (λ s. PartAccepts part best value s vars) (sym (ap (λ place. down_at part place (value x) down) missing)) (along_accepts k down vars more run))
  along_accepts k down (x ∷ vars) (inside {rest = rest} found at more) run = inside_accepts k x vars rest down found at more (λ stepped runs. along_accepts (k + 1) stepped vars more runs) (subst (λ l. AcceptsFrom part.bound best k down (map value l)) at run)

-- each part of a group goes along the group's variables
abbrev goes_along : (vars : List ℕ) (part : Part) → Type 0
goes_along vars part = IsBound part.bound × Along part.scope 0 vars

parts_accept : (parts : List Part) (best : ℤ) (value : ℕ → ℕ) (vars : List ℕ) → All (goes_along vars) parts → All (λ (part : Part). Accepts part.bound best (map value part.scope)) parts → PartsAccept parts best value (initial_down_of parts) vars
parts_accept [] best value vars known all = none_accept best value [] vars
parts_accept (part ∷ parts) best value vars known all =
    let mine = All-head (goes_along vars) part parts known in
    both_accept part parts best value mine.0 _ _ vars (length-map part.bound.spec.down _) (along_accepts part best value 0 _ vars mine.1 (All-head (λ (part : Part). Accepts part.bound best (map value part.scope)) part parts all)) (parts_accept parts best value vars (All-tail (goes_along vars) part parts known) (All-tail (λ (part : Part). Accepts part.bound best (map value part.scope)) part parts all))

all_accept : (parts : List Part) (best : ℤ) (value : ℕ → ℕ) (vars : List ℕ) → All (goes_along vars) parts → PartsAccept parts best value (initial_down_of parts) vars → All (λ (part : Part). Accepts part.bound best (map value part.scope)) parts
all_accept [] best value vars known run = All-nil (λ (part : Part). Accepts part.bound best (map value part.scope))
all_accept (part ∷ parts) best value vars known run =
    let mine = All-head (goes_along vars) part parts known in
    let long : length (initial_values part.bound.spec.down) ≡ down_width part = length-map part.bound.spec.down _ in
    All-cons (λ (part : Part). Accepts part.bound best (map value part.scope)) part parts
    (accepts_along part best value 0 _ vars mine.1 (first_accepts part parts best value mine.0 _ _ vars long run))
    (all_accept parts best value vars (All-tail (goes_along vars) part parts known) (others_accept part parts best value mine.0 _ _ vars long run))

-- the layers of a group are its variables one after the other
module _ (g : PlainGroup) (best : ℤ) (value : ℕ → ℕ) where
  layers_up : (layer : ℕ) (vars : List ℕ) → drop layer g.vars ≡ vars → exact_group_up g layer (map value vars) ≡ parts_up g.parts value vars
  layers_up layer [] at = refl
  layers_up layer (x ∷ vars) at =
      ap (λ variable. up_of g.parts variable (value x) (exact_group_up g (layer + 1) (map value vars))) (head_at layer g.vars x vars at)
      ∙ ap (up_of g.parts x (value x)) (layers_up (layer + 1) vars (tail_at layer g.vars x vars at))

  tested_at : (layer x : ℕ) (vars : List ℕ) (down : List Prop) → drop layer g.vars ≡ x ∷ vars → passes_of g.parts (slice_index g.vars layer) (value x) best down (exact_group_up g (layer + 1) (map value vars)) ≡ passes_of g.parts x (value x) best down (parts_up g.parts value vars)
  tested_at layer x vars down at =
      ap (λ variable. passes_of g.parts variable (value x) best down (exact_group_up g (layer + 1) (map value vars))) (head_at layer g.vars x vars at)
      ∙ ap (passes_of g.parts x (value x) best down) (layers_up (layer + 1) vars (tail_at layer g.vars x vars at))

  stepped_at : (layer x : ℕ) (vars : List ℕ) (down : List Prop) → drop layer g.vars ≡ x ∷ vars → group_down g layer (value x) down ≡ down_of g.parts x (value x) down
  stepped_at layer x vars down at = ap (λ variable. down_of g.parts variable (value x) down) (head_at layer g.vars x vars at)

  from_layers : (layer : ℕ) (vars : List ℕ) (down : List Prop) → drop layer g.vars ≡ vars → GroupAcceptsFrom g best layer down (map value vars) → PartsAccept g.parts best value down vars
  from_layers layer [] down at run = parts_end
  from_layers layer (x ∷ vars) down at (one_layer holds more) = parts_more (sym (tested_at layer x vars down at) ∙ holds) (subst (λ s. PartsAccept g.parts best value s vars) (stepped_at layer x vars down at) (from_layers (layer + 1) vars _ (tail_at layer g.vars x vars at) more))

  to_layers : (layer : ℕ) (vars : List ℕ) (down : List Prop) → drop layer g.vars ≡ vars → PartsAccept g.parts best value down vars → GroupAcceptsFrom g best layer down (map value vars)
  to_layers layer [] down at run = at_last
  to_layers layer (x ∷ vars) down at (parts_more holds more) = one_layer (tested_at layer x vars down at ∙ holds) (to_layers (layer + 1) vars _ (tail_at layer g.vars x vars at) (subst (λ s. PartsAccept g.parts best value s vars) (sym (stepped_at layer x vars down at)) more))

-- each part of a group has its rules and goes along the group's variables
parts_go_along : (g : PlainGroup) → IsGroup g → All (goes_along g.vars) g.parts
parts_go_along g h k d within =
    let part : IsPart (slice_index_or g.parts k d) = h.parts k d within in
    (part.rules, along_whole _ _ part.rising h.rising (λ v there. (h.union v).1 (k, slice_index_or g.parts k d, within, same_default g.parts k d within, there)))
  where
    same_default : (xs : List Part) (i : ℕ) (d : Part) → i < length xs → slice_index_or xs i (slice_index_or xs i d) ≡ slice_index_or xs i d
    same_default [] i d lt = absurd (omega arith)
    same_default (y ∷ ys) zero d lt = refl
    same_default (y ∷ ys) (suc i) d lt = same_default ys i d (omega arith)

-- a group accepts the values of its variables exactly where each part accepts those of its scope
pub accepts_where_parts_do : (g : PlainGroup) (best : ℤ) (value : ℕ → ℕ) → IsGroup g → GroupAccepts g best (map value g.vars) ↔ All (λ (part : Part). Accepts part.bound best (map value part.scope)) g.parts
accepts_where_parts_do g best value h = (
  λ run. all_accept g.parts best value g.vars (parts_go_along g h) (from_layers g best value 0 g.vars _ refl run),
  λ all. to_layers g best value 0 g.vars _ refl (parts_accept g.parts best value g.vars (parts_go_along g h) all),
)
