-- What a revision asks of a group follows from what it asks of each part.
use Rattle.std.proofs.Common.{◌≡◌, ℕ, ℤ, true, ◌<◌, ◌==◌, List, [], ◌∷◌, ◌++◌, length, take, drop, slice_index, Option, None, Some, All, arith, ap, refl, sym, subst}
use Rattle.std.proofs.lemmas.List.{length-map, map-append}
use Rattle.std.proofs.lemmas.List.Elements.{All-head, All-tail}
use Rattle.std.proofs.lemmas.List.Quantifiers.{position-Some}
use Rattle.hk_kinds.specs.Covers.{StateCovers, covers_none, covers_more}
use Rattle.hk_kinds.specs.NumberLattices.{both_true, first_true, second_true}
use Rattle.hk_kinds.specs.Shapes.{HasShape, no_kinds, one_more}
use Rattle.hk_kinds.specs.Tops.{top_state, top_property}
use Rattle.hk_kinds.specs.declared.kinds.Kind.{Kind}
use Rattle.hk_kinds.specs.declared.properties.Prop.{Prop}
use Rattle.hk_spec.specs.Monotone.{IsMonotone, IsRevisable}
use Rattle.hk_spec.specs.Specifications.{down_shape, up_shape}
use Rattle.hk_spec.proofs.StepLaws.{down_step_has_shape, up_step_has_shape}
use Rattle.hk_group.specs.Groups.{PlainGroup, Part, IsPart, IsGroup, place_in, down_at, up_at, passes_at, down_width, up_width, down_of, up_of, passes_of, down_shape_of, up_shape_of, initial_down_of, initial_up_of}
use Rattle.hk_group.specs.GroupRevisions.{IsMonotoneGroup, IsRevisableGroup}

-- states side by side cover and have their shapes where each does
covers_append : {ks ls : List Kind} {a b c d : List Prop} → StateCovers ks a b → StateCovers ls c d → StateCovers (ks ++ ls) (a ++ c) (b ++ d)
covers_append covers_none k = k
covers_append (covers_more h hs) k = covers_more h (covers_append hs k)

covers_front : (ks ls : List Kind) (a b : List Prop) → StateCovers (ks ++ ls) a b → StateCovers ks (take (length ks) a) (take (length ks) b)
covers_front [] ls a b h = covers_none
covers_front (k ∷ ks) ls _ _ (covers_more h hs) = covers_more h (covers_front ks ls _ _ hs)

covers_back : (ks ls : List Kind) (a b : List Prop) → StateCovers (ks ++ ls) a b → StateCovers ls (drop (length ks) a) (drop (length ks) b)
covers_back [] ls a b h = h
covers_back (k ∷ ks) ls _ _ (covers_more h hs) = covers_back ks ls _ _ hs

pub shape_append : {ks ls : List Kind} {a c : List Prop} → HasShape ks a → HasShape ls c → HasShape (ks ++ ls) (a ++ c)
shape_append no_kinds k = k
shape_append (one_more h hs) k = one_more h (shape_append hs k)

shape_front : (ks ls : List Kind) (a : List Prop) → HasShape (ks ++ ls) a → HasShape ks (take (length ks) a)
shape_front [] ls a h = no_kinds
shape_front (k ∷ ks) ls _ (one_more h hs) = one_more h (shape_front ks ls _ hs)

shape_back : (ks ls : List Kind) (a : List Prop) → HasShape (ks ++ ls) a → HasShape ls (drop (length ks) a)
shape_back [] ls a h = h
shape_back (k ∷ ks) ls _ (one_more h hs) = shape_back ks ls _ hs

top_front : (ks ls : List Kind) → take (length ks) (top_state (ks ++ ls)) ≡ top_state ks
top_front [] ls = refl
top_front (k ∷ ks) ls = ap (λ l. top_property k ∷ l) (top_front ks ls)

top_back : (ks ls : List Kind) → drop (length ks) (top_state (ks ++ ls)) ≡ top_state ls
top_back [] ls = refl
top_back (k ∷ ks) ls = top_back ks ls

-- the first part's properties and the others', by the part's numbers of properties
module _ (part : Part) (ls : List Kind) where
  down_long : length (down_shape part.bound.spec) ≡ down_width part
  down_long = length-map part.bound.spec.down _

  up_long : length (up_shape part.bound.spec) ≡ up_width part
  up_long = length-map part.bound.spec.up _

  pub down_shape_front : (a : List Prop) → HasShape (down_shape part.bound.spec ++ ls) a → HasShape (down_shape part.bound.spec) (take (down_width part) a)
  down_shape_front a h = subst (λ n. HasShape (down_shape part.bound.spec) (take n a)) down_long (shape_front _ ls a h)

  pub down_shape_back : (a : List Prop) → HasShape (down_shape part.bound.spec ++ ls) a → HasShape ls (drop (down_width part) a)
  down_shape_back a h = subst (λ n. HasShape ls (drop n a)) down_long (shape_back (down_shape part.bound.spec) ls a h)

  pub up_shape_front : (a : List Prop) → HasShape (up_shape part.bound.spec ++ ls) a → HasShape (up_shape part.bound.spec) (take (up_width part) a)
  up_shape_front a h = subst (λ n. HasShape (up_shape part.bound.spec) (take n a)) up_long (shape_front _ ls a h)

  pub up_shape_back : (a : List Prop) → HasShape (up_shape part.bound.spec ++ ls) a → HasShape ls (drop (up_width part) a)
  up_shape_back a h = subst (λ n. HasShape ls (drop n a)) up_long (shape_back (up_shape part.bound.spec) ls a h)

  down_covers_front : (a b : List Prop) → StateCovers (down_shape part.bound.spec ++ ls) a b → StateCovers (down_shape part.bound.spec) (take (down_width part) a) (take (down_width part) b)
  down_covers_front a b h = subst (λ n. StateCovers (down_shape part.bound.spec) (take n a) (take n b)) down_long (covers_front _ ls a b h)

  down_covers_back : (a b : List Prop) → StateCovers (down_shape part.bound.spec ++ ls) a b → StateCovers ls (drop (down_width part) a) (drop (down_width part) b)
  down_covers_back a b h = subst (λ n. StateCovers ls (drop n a) (drop n b)) down_long (covers_back (down_shape part.bound.spec) ls a b h)

  up_covers_front : (a b : List Prop) → StateCovers (up_shape part.bound.spec ++ ls) a b → StateCovers (up_shape part.bound.spec) (take (up_width part) a) (take (up_width part) b)
  up_covers_front a b h = subst (λ n. StateCovers (up_shape part.bound.spec) (take n a) (take n b)) up_long (covers_front _ ls a b h)

  up_covers_back : (a b : List Prop) → StateCovers (up_shape part.bound.spec ++ ls) a b → StateCovers ls (drop (up_width part) a) (drop (up_width part) b)
  up_covers_back a b h = subst (λ n. StateCovers ls (drop n a) (drop n b)) up_long (covers_back (up_shape part.bound.spec) ls a b h)

  down_top_front : (s : List Prop) → StateCovers (down_shape part.bound.spec ++ ls) (top_state (down_shape part.bound.spec ++ ls)) s → StateCovers (down_shape part.bound.spec) (top_state (down_shape part.bound.spec)) (take (down_width part) s)
  down_top_front s h = subst (λ n. StateCovers (down_shape part.bound.spec) (top_state (down_shape part.bound.spec)) (take n s)) down_long (subst (λ t. StateCovers (down_shape part.bound.spec) t (take (length (down_shape part.bound.spec)) s)) (top_front (down_shape part.bound.spec) ls) (covers_front _ ls _ s h))

  down_top_back : (s : List Prop) → StateCovers (down_shape part.bound.spec ++ ls) (top_state (down_shape part.bound.spec ++ ls)) s → StateCovers ls (top_state ls) (drop (down_width part) s)
  down_top_back s h = subst (λ n. StateCovers ls (top_state ls) (drop n s)) down_long (subst (λ t. StateCovers ls t (drop (length (down_shape part.bound.spec)) s)) (top_back (down_shape part.bound.spec) ls) (covers_back (down_shape part.bound.spec) ls _ s h))

  up_top_front : (s : List Prop) → StateCovers (up_shape part.bound.spec ++ ls) (top_state (up_shape part.bound.spec ++ ls)) s → StateCovers (up_shape part.bound.spec) (top_state (up_shape part.bound.spec)) (take (up_width part) s)
  up_top_front s h = subst (λ n. StateCovers (up_shape part.bound.spec) (top_state (up_shape part.bound.spec)) (take n s)) up_long (subst (λ t. StateCovers (up_shape part.bound.spec) t (take (length (up_shape part.bound.spec)) s)) (top_front (up_shape part.bound.spec) ls) (covers_front _ ls _ s h))

  up_top_back : (s : List Prop) → StateCovers (up_shape part.bound.spec ++ ls) (top_state (up_shape part.bound.spec ++ ls)) s → StateCovers ls (top_state ls) (drop (up_width part) s)
  up_top_back s h = subst (λ n. StateCovers ls (top_state ls) (drop n s)) up_long (subst (λ t. StateCovers ls t (drop (length (up_shape part.bound.spec)) s)) (top_back (up_shape part.bound.spec) ls) (covers_back (up_shape part.bound.spec) ls _ s h))

top_append : (ks ls : List Kind) (s : List Prop) → StateCovers (ks ++ ls) (top_state ks ++ top_state ls) s → StateCovers (ks ++ ls) (top_state (ks ++ ls)) s
top_append ks ls s h = subst (λ t. StateCovers (ks ++ ls) t s) (sym (map-append top_property ks ls)) h

-- a part whose specification is monotone
abbrev pub IsMonotonePart : Part → Type 0
IsMonotonePart part = IsMonotone part.bound

-- a part that keeps its rules and is revisable
pub record IsGood (part : Part) : Type 0 where
  pub rules : IsPart part
  pub revisable : IsRevisable part.bound

-- a place of a variable in a part's scope is a position of its specification
pub place_within : (part : Part) → IsPart part → (variable place : ℕ) → place_in part.scope variable ≡ Some place → place < part.bound.len
place_within part rules variable place at = let within = position-Some (λ other. other == variable) part.scope place 0 at in omega (arith, within.0, rules.len)

-- a step keeps the shape of the states of parts
down_at_shape : (part : Part) → IsPart part → (variable value : ℕ) → value < 128 → (place : Option ℕ) (state : List Prop) → place_in part.scope variable ≡ place → HasShape (down_shape part.bound.spec) state → HasShape (down_shape part.bound.spec) (down_at part place value state)
down_at_shape part rules variable value small None state at h = h
down_at_shape part rules variable value small (Some place) state at h = down_step_has_shape part.bound place value state rules.rules (place_within part rules variable place at) small h

up_at_shape : (part : Part) → IsPart part → (variable value : ℕ) → value < 128 → (place : Option ℕ) (state : List Prop) → place_in part.scope variable ≡ place → HasShape (up_shape part.bound.spec) state → HasShape (up_shape part.bound.spec) (up_at part place value state)
up_at_shape part rules variable value small None state at h = h
up_at_shape part rules variable value small (Some place) state at h = up_step_has_shape part.bound place value state rules.rules (place_within part rules variable place at) small h

pub down_of_shape : (variable value : ℕ) → value < 128 → (parts : List Part) → All IsPart parts → (state : List Prop) → HasShape (down_shape_of parts) state → HasShape (down_shape_of parts) (down_of parts variable value state)
down_of_shape variable value small [] rules state h = no_kinds
down_of_shape variable value small (part ∷ parts) rules state h =
    shape_append (down_at_shape part (All-head IsPart part parts rules) variable value small _ _ refl (down_shape_front part (down_shape_of parts) state h))
    (down_of_shape variable value small parts (All-tail IsPart part parts rules) _ (down_shape_back part (down_shape_of parts) state h))

pub up_of_shape : (variable value : ℕ) → value < 128 → (parts : List Part) → All IsPart parts → (state : List Prop) → HasShape (up_shape_of parts) state → HasShape (up_shape_of parts) (up_of parts variable value state)
up_of_shape variable value small [] rules state h = no_kinds
up_of_shape variable value small (part ∷ parts) rules state h =
    shape_append (up_at_shape part (All-head IsPart part parts rules) variable value small _ _ refl (up_shape_front part (up_shape_of parts) state h))
    (up_of_shape variable value small parts (All-tail IsPart part parts rules) _ (up_shape_back part (up_shape_of parts) state h))

-- one part at a place or none
module _ (part : Part) (monotone : IsMonotonePart part) where
  down_at_covers : (value : ℕ) (place : Option ℕ) (wider state : List Prop) → StateCovers (down_shape part.bound.spec) wider state → StateCovers (down_shape part.bound.spec) (down_at part place value wider) (down_at part place value state)
  down_at_covers value None wider state h = h
  down_at_covers value (Some place) wider state h = monotone.down_steps place value wider state h

  up_at_covers : (value : ℕ) (place : Option ℕ) (wider state : List Prop) → StateCovers (up_shape part.bound.spec) wider state → StateCovers (up_shape part.bound.spec) (up_at part place value wider) (up_at part place value state)
  up_at_covers value None wider state h = h
  up_at_covers value (Some place) wider state h = monotone.up_steps place value wider state h

  passes_at_wider : (value : ℕ) (place : Option ℕ) (best : ℤ) (wider_down down wider_up up : List Prop) → StateCovers (down_shape part.bound.spec) wider_down down → StateCovers (up_shape part.bound.spec) wider_up up → passes_at part place value best down up ≡ true → passes_at part place value best wider_down wider_up ≡ true
  passes_at_wider value None best wider_down down wider_up up h k holds = refl
  passes_at_wider value (Some place) best wider_down down wider_up up h k holds = monotone.test place value best wider_down down wider_up up h k holds

module _ (part : Part) (good : IsGood part) (variable value : ℕ) where
  down_at_top : value < 128 → (place : Option ℕ) (state : List Prop) → place_in part.scope variable ≡ place → StateCovers (down_shape part.bound.spec) (top_state (down_shape part.bound.spec)) state → StateCovers (down_shape part.bound.spec) (top_state (down_shape part.bound.spec)) (down_at part place value state)
  down_at_top small None state at h = h
  down_at_top small (Some place) state at h = good.revisable.down_top_steps place value state (place_within part good.rules variable place at) small h

  up_at_top : value < 128 → (place : Option ℕ) (state : List Prop) → place_in part.scope variable ≡ place → StateCovers (up_shape part.bound.spec) (top_state (up_shape part.bound.spec)) state → StateCovers (up_shape part.bound.spec) (top_state (up_shape part.bound.spec)) (up_at part place value state)
  up_at_top small None state at h = h
  up_at_top small (Some place) state at h = good.revisable.up_top_steps place value state (place_within part good.rules variable place at) small h

-- all parts together
module _ (variable value : ℕ) where
  down_of_covers : (parts : List Part) → All IsMonotonePart parts → (wider state : List Prop) → StateCovers (down_shape_of parts) wider state → StateCovers (down_shape_of parts) (down_of parts variable value wider) (down_of parts variable value state)
  down_of_covers [] monotone wider state h = covers_none
  down_of_covers (part ∷ parts) monotone wider state h =
      covers_append (down_at_covers part (All-head IsMonotonePart part parts monotone) value (place_in part.scope variable) _ _ (down_covers_front part (down_shape_of parts) wider state h))
      (down_of_covers parts (All-tail IsMonotonePart part parts monotone) _ _ (down_covers_back part (down_shape_of parts) wider state h))

  up_of_covers : (parts : List Part) → All IsMonotonePart parts → (wider state : List Prop) → StateCovers (up_shape_of parts) wider state → StateCovers (up_shape_of parts) (up_of parts variable value wider) (up_of parts variable value state)
  up_of_covers [] monotone wider state h = covers_none
  up_of_covers (part ∷ parts) monotone wider state h =
      covers_append (up_at_covers part (All-head IsMonotonePart part parts monotone) value (place_in part.scope variable) _ _ (up_covers_front part (up_shape_of parts) wider state h))
      (up_of_covers parts (All-tail IsMonotonePart part parts monotone) _ _ (up_covers_back part (up_shape_of parts) wider state h))

  passes_of_wider : (parts : List Part) → All IsMonotonePart parts → (best : ℤ) (wider_down down wider_up up : List Prop) → StateCovers (down_shape_of parts) wider_down down → StateCovers (up_shape_of parts) wider_up up → passes_of parts variable value best down up ≡ true → passes_of parts variable value best wider_down wider_up ≡ true
  passes_of_wider [] monotone best wider_down down wider_up up h k holds = refl
  passes_of_wider (part ∷ parts) monotone best wider_down down wider_up up h k holds =
      both_true _ _
      (passes_at_wider part (All-head IsMonotonePart part parts monotone) value (place_in part.scope variable) best _ _ _ _ (down_covers_front part (down_shape_of parts) wider_down down h) (up_covers_front part (up_shape_of parts) wider_up up k) (first_true _ _ holds))
      (passes_of_wider parts (All-tail IsMonotonePart part parts monotone) best _ _ _ _ (down_covers_back part (down_shape_of parts) wider_down down h) (up_covers_back part (up_shape_of parts) wider_up up k) (second_true _ _ holds))

  module _ (small : value < 128) where
    down_of_top : (parts : List Part) → All IsGood parts → (state : List Prop) → StateCovers (down_shape_of parts) (top_state (down_shape_of parts)) state → StateCovers (down_shape_of parts) (top_state (down_shape_of parts)) (down_of parts variable value state)
    down_of_top [] good state h = covers_none
    down_of_top (part ∷ parts) good state h =
        top_append (down_shape part.bound.spec) (down_shape_of parts) _ (covers_append (down_at_top part (All-head IsGood part parts good) variable value small _ _ refl (down_top_front part (down_shape_of parts) state h))
        (down_of_top parts (All-tail IsGood part parts good) _ (down_top_back part (down_shape_of parts) state h)))

    up_of_top : (parts : List Part) → All IsGood parts → (state : List Prop) → StateCovers (up_shape_of parts) (top_state (up_shape_of parts)) state → StateCovers (up_shape_of parts) (top_state (up_shape_of parts)) (up_of parts variable value state)
    up_of_top [] good state h = covers_none
    up_of_top (part ∷ parts) good state h =
        top_append (up_shape part.bound.spec) (up_shape_of parts) _ (covers_append (up_at_top part (All-head IsGood part parts good) variable value small _ _ refl (up_top_front part (up_shape_of parts) state h))
        (up_of_top parts (All-tail IsGood part parts good) _ (up_top_back part (up_shape_of parts) state h)))

-- the initial states
pub initial_down_shape : (parts : List Part) → All IsPart parts → HasShape (down_shape_of parts) (initial_down_of parts)
initial_down_shape [] rules = no_kinds
initial_down_shape (part ∷ parts) rules = let mine : IsPart part = All-head IsPart part parts rules in shape_append mine.rules.rules.initial_down (initial_down_shape parts (All-tail IsPart part parts rules))

pub initial_up_shape : (parts : List Part) → All IsPart parts → HasShape (up_shape_of parts) (initial_up_of parts)
initial_up_shape [] rules = no_kinds
initial_up_shape (part ∷ parts) rules = let mine : IsPart part = All-head IsPart part parts rules in shape_append mine.rules.rules.initial_up (initial_up_shape parts (All-tail IsPart part parts rules))

initial_down_top : (parts : List Part) → All IsGood parts → StateCovers (down_shape_of parts) (top_state (down_shape_of parts)) (initial_down_of parts)
initial_down_top [] good = covers_none
initial_down_top (part ∷ parts) good = top_append (down_shape part.bound.spec) (down_shape_of parts) _ (covers_append (All-head IsGood part parts good).revisable.down_top_begins (initial_down_top parts (All-tail IsGood part parts good)))

initial_up_top : (parts : List Part) → All IsGood parts → StateCovers (up_shape_of parts) (top_state (up_shape_of parts)) (initial_up_of parts)
initial_up_top [] good = covers_none
initial_up_top (part ∷ parts) good = top_append (up_shape part.bound.spec) (up_shape_of parts) _ (covers_append (All-head IsGood part parts good).revisable.up_top_begins (initial_up_top parts (All-tail IsGood part parts good)))

-- a group of parts that are monotone is monotone
pub monotone_group : (g : PlainGroup) → All IsMonotonePart g.parts → IsMonotoneGroup g
monotone_group g monotone = record {
  down_steps = λ layer value wider state h. down_of_covers (slice_index g.vars layer) value g.parts monotone wider state h;
  up_steps = λ layer value wider state h. up_of_covers (slice_index g.vars layer) value g.parts monotone wider state h;
  test = λ layer value best wider_down down wider_up up h k holds. passes_of_wider (slice_index g.vars layer) value g.parts monotone best wider_down down wider_up up h k holds;
}

-- a group of parts that are revisable is revisable
pub revisable_group : (g : PlainGroup) → IsGroup g → All (λ (part : Part). IsRevisable part.bound) g.parts → IsRevisableGroup g
revisable_group g rules revisable = let good : All IsGood g.parts = λ k d within. record { rules = rules.parts k d within; revisable = revisable k d within } in record {
  monotone = monotone_group g (λ k d within. (revisable k d within).monotone);
  initial_down = initial_down_shape g.parts rules.parts;
  initial_up = initial_up_shape g.parts rules.parts;
  down_shapes = λ layer value state within small h. down_of_shape (slice_index g.vars layer) value small g.parts rules.parts state h;
  up_shapes = λ layer value state within small h. up_of_shape (slice_index g.vars layer) value small g.parts rules.parts state h;
  down_top_begins = initial_down_top g.parts good;
  up_top_begins = initial_up_top g.parts good;
  down_top_steps = λ layer value state within small h. down_of_top (slice_index g.vars layer) value small g.parts good state h;
  up_top_steps = λ layer value state within small h. up_of_top (slice_index g.vars layer) value small g.parts good state h;
}
