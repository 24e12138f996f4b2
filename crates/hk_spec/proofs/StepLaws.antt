-- A step keeps the shape of a state, and the part of a longer state that it is written over.
use Rattle.std.proofs.Common.{◌≡◌, ℕ, ℤ, true, ◌+◌, ◌<◌, ◌≤◌, min, List, [], ◌∷◌, ◌++◌, length, map, take, drop, suc, arith, ap, sym, ◌∙◌, subst, refl, inl, inr}
use Rattle.std.proofs.lemmas.Bool.{cases_lt}
use Rattle.std.proofs.lemmas.List.{append-nil, length-append, length-drop, length-map, length-take, length-take-le}
use Rattle.std.proofs.Math.Seq.{drop-append_seam, take-append_seam}
use Rattle.hk_kinds.proofs.StateLaws.{length-HasShape}
use Rattle.hk_kinds.specs.NumberLattices.{first_true, second_true}
use Rattle.hk_kinds.specs.Parts.{part_at, with_part}
use Rattle.hk_kinds.specs.Shapes.{IsOfKind, HasShape, is_min, is_max, is_interval, is_some, is_all, no_kinds, one_more}
use Rattle.hk_kinds.specs.declared.kinds.Kind.{Kind}
use Rattle.hk_kinds.specs.declared.kinds.Kind.TheVariants.{Min, Max, Interval, SomeBits, AllBits}
use Rattle.hk_kinds.specs.declared.properties.Prop.{Prop}
use Rattle.hk_spec.specs.Scopes.{Scope}
use Rattle.hk_spec.specs.Settings.{Setting}
use Rattle.hk_spec.specs.Specifications.{BoundSpecification, IsBound, down_shape, up_shape, down_scope, up_scope, is_step, are_steps}
use Rattle.hk_spec.specs.Steps.{step_value, down_step, up_step, test_passes, down_setting, up_setting, down_part, up_part}
use Rattle.hk_spec.specs.declared.parts.PropDecl.{PropDecl}
use Rattle.hk_spec.specs.declared.parts.StepExpr.{StepExpr}
use Rattle.hk_spec.specs.declared.parts.StepExpr.TheVariants as step
use Rattle.hk_spec.proofs.ValueLaws.{IsSettingOf, num_value_within, set_value_within}

-- a good step gives a property of its kind
value_of_kind : {scope : Scope} {at : Setting} → IsSettingOf scope at → (kind : Kind) (e : StepExpr) → is_step scope kind e ≡ true → IsOfKind kind (step_value at e)
value_of_kind known Min (step.Num e) good = is_min (num_value_within known e (first_true _ _ good))
value_of_kind known Max (step.Num e) good = is_max (num_value_within known e (first_true _ _ good))
value_of_kind known Interval (step.Pair low high) good = is_interval (num_value_within known low (first_true _ _ (first_true _ _ good))) (num_value_within known high (first_true _ _ (second_true _ _ good)))
value_of_kind known SomeBits (step.Set e) good = is_some (set_value_within known e (first_true _ _ good))
value_of_kind known AllBits (step.Set e) good = is_all (set_value_within known e (first_true _ _ good))
value_of_kind known _ _ good = cc

-- good steps give a state of the shape
steps_have_shape : {scope : Scope} {at : Setting} → IsSettingOf scope at → (kinds : List Kind) (steps : List StepExpr) → are_steps scope kinds steps ≡ true → HasShape kinds (map (step_value at) steps)
steps_have_shape known [] [] good = no_kinds
steps_have_shape known (kind ∷ kinds) (e ∷ steps) good = one_more (value_of_kind known kind e (first_true _ _ good)) (steps_have_shape known kinds steps (second_true _ _ good))
steps_have_shape known _ _ good = cc

length-are_steps : (scope : Scope) (kinds : List Kind) (steps : List StepExpr) → are_steps scope kinds steps ≡ true → length steps ≡ length kinds
length-are_steps scope [] [] good = refl
length-are_steps scope (kind ∷ kinds) (e ∷ steps) good = ap (λ n. suc n) (length-are_steps scope kinds steps (second_true _ _ good))
length-are_steps scope _ _ good = cc

-- a part is told by the properties that it is one of, and by the state
pub same_part : (first : ℕ) {declared others : List PropDecl} {state other : List Prop} → declared ≡ others → state ≡ other → part_at first (length declared) state ≡ part_at first (length others) other
same_part first h k = cc

-- a part of a shape has the room of the shape's kinds
room-HasShape : (declared : List PropDecl) (first : ℕ) (state : List Prop) → HasShape (map (λ (p : PropDecl). p.kind) declared) (part_at first (length declared) state) → length declared ≤ length (drop first state)
room-HasShape declared first state h =
    let long : min (length declared) (length (drop first state)) ≡ length declared = sym (length-take (length declared) (drop first state)) ∙ (length-HasShape h ∙ length-map declared _) in
    omega (arith, long)

drop-append_at : (n : ℕ) (xs ys : List Prop) → length xs ≡ n → drop n (xs ++ ys) ≡ ys
drop-append_at n xs ys long = ap (λ m. drop m (xs ++ ys)) (sym long) ∙ drop-append_seam xs ys

no_items : (xs : List Prop) → length xs ≡ 0 → xs ≡ []
no_items [] h = refl
no_items (x ∷ xs) h = absurd (omega arith)

drop_past : (n : ℕ) (xs : List Prop) → length xs ≤ n → drop n xs ≡ []
drop_past n xs h = no_items (drop n xs) (omega (arith, length-drop n xs))

-- past the end of the state nothing is written and nothing stands
past_end : (first : ℕ) (part state : List Prop) → length part ≡ 0 → length state < first → drop first (with_part first part state) ≡ part ++ drop (first + length part) state
past_end first part state none short =
    let after : length (drop (first + length part) state) ≡ 0 = omega (arith, length-drop (first + length part) state) in
    let rest : length (part ++ drop (first + length part) state) ≡ 0 = omega (arith, length-append part (drop (first + length part) state)) in
    let whole : length (with_part first part state) ≤ first = omega (arith, length-append (take first state) (part ++ drop (first + length part) state), length-take first state) in
    drop_past first (with_part first part state) whole ∙ sym (no_items _ rest)

-- what stands from a place on where a part was written is the part and the rest
drop_front : (first : ℕ) (part state : List Prop) (count : ℕ) → length part ≡ count → count ≤ length (drop first state) → drop first (with_part first part state) ≡ part ++ drop (first + length part) state
drop_front first part state count long room =
    elim (cases_lt (length state) first) [
      | inl short ↦ past_end first part state (omega (arith, length-drop first state)) short
      | inr within ↦ drop-append_at first (take first state) _ (length-take-le first state within)
    ]

-- the part that was written is what was written
pub part-with_part : (first : ℕ) (part state : List Prop) (count : ℕ) → length part ≡ count → count ≤ length (drop first state) → part_at first count (with_part first part state) ≡ part
part-with_part first part state count long room = ap (take count) (drop_front first part state count long room) ∙ (ap (λ n. take n (part ++ drop (first + length part) state)) (sym long) ∙ take-append_seam part (drop (first + length part) state))

-- a bound specification has one down step a down property, and one up step an up property
pub length-down_step : (b : BoundSpecification) → IsBound b → length b.spec.down_step ≡ length b.spec.down
length-down_step b h = length-are_steps _ _ _ h.rules.good_down_steps ∙ length-map b.spec.down _

pub length-up_step : (b : BoundSpecification) → IsBound b → length b.spec.up_step ≡ length b.spec.up
length-up_step b h = length-are_steps _ _ _ h.rules.good_up_steps ∙ length-map b.spec.up _

-- a down step of a down state is a down state, and an up step of an up state is an up state
pub down_step_has_shape : (b : BoundSpecification) (position value : ℕ) (state : List Prop) → IsBound b → position < b.len → value < 128 → HasShape (down_shape b.spec) state → HasShape (down_shape b.spec) (down_step b position value state)
down_step_has_shape b position value state h within small shape =
    let known : IsSettingOf (down_scope b.spec) (down_setting b position value state) = record { value = small; position = omega (arith, h.few); positions = h.few; arguments = h.arguments; down = shape; up = no_kinds; best = λ no_best. cc } in
    steps_have_shape known (down_shape b.spec) b.spec.down_step h.rules.good_down_steps

pub up_step_has_shape : (b : BoundSpecification) (position value : ℕ) (state : List Prop) → IsBound b → position < b.len → value < 128 → HasShape (up_shape b.spec) state → HasShape (up_shape b.spec) (up_step b position value state)
up_step_has_shape b position value state h within small shape =
    let known : IsSettingOf (up_scope b.spec) (up_setting b position value state) = record { value = small; position = omega (arith, h.few); positions = h.few; arguments = h.arguments; down = no_kinds; up = shape; best = λ no_best. cc } in
    steps_have_shape known (up_shape b.spec) b.spec.up_step h.rules.good_up_steps

-- what a step in place owes and gives within a longer state
pub down_room : (b : BoundSpecification) (first : ℕ) (state : List Prop) → HasShape (down_shape b.spec) (down_part b first state) → length b.spec.down ≤ length (drop first state)
down_room b first state h = room-HasShape b.spec.down first state h

pub up_room : (b : BoundSpecification) (first : ℕ) (state : List Prop) → HasShape (up_shape b.spec) (up_part b first state) → length b.spec.up ≤ length (drop first state)
up_room b first state h = room-HasShape b.spec.up first state h

pub down_part_has_shape : (b : BoundSpecification) (position value first : ℕ) (state to : List Prop) → IsBound b → position < b.len → value < 128 → HasShape (down_shape b.spec) state → HasShape (down_shape b.spec) (down_part b first to) → HasShape (down_shape b.spec) (down_part b first (with_part first (down_step b position value state) to))
down_part_has_shape b position value first state to h within small shape room =
    let long : length (down_step b position value state) ≡ length b.spec.down = length-map b.spec.down_step _ ∙ length-down_step b h in
    subst (HasShape (down_shape b.spec)) (sym (part-with_part first (down_step b position value state) to (length b.spec.down) long (down_room b first to room))) (down_step_has_shape b position value state h within small shape)

pub up_part_has_shape : (b : BoundSpecification) (position value first : ℕ) (state to : List Prop) → IsBound b → position < b.len → value < 128 → HasShape (up_shape b.spec) state → HasShape (up_shape b.spec) (up_part b first to) → HasShape (up_shape b.spec) (up_part b first (with_part first (up_step b position value state) to))
up_part_has_shape b position value first state to h within small shape room =
    let long : length (up_step b position value state) ≡ length b.spec.up = length-map b.spec.up_step _ ∙ length-up_step b h in
    subst (HasShape (up_shape b.spec)) (sym (part-with_part first (up_step b position value state) to (length b.spec.up) long (up_room b first to room))) (up_step_has_shape b position value state h within small shape)

with_whole : (part state : List Prop) → length part ≡ length state → with_part 0 part state ≡ part
with_whole part state long = ap (λ rest. part ++ rest) (drop_past (0 + length part) state (omega arith)) ∙ append-nil part

-- a state of the shape has room for a step from its first place on
pub down_room_alone : (b : BoundSpecification) (state : List Prop) → HasShape (down_shape b.spec) state → length b.spec.down ≤ length state
down_room_alone b state h = omega (arith, length-HasShape h, length-map b.spec.down (λ (p : PropDecl). p.kind))

pub up_room_alone : (b : BoundSpecification) (state : List Prop) → HasShape (up_shape b.spec) state → length b.spec.up ≤ length state
up_room_alone b state h = omega (arith, length-HasShape h, length-map b.spec.up (λ (p : PropDecl). p.kind))

-- a step written over a state of its own is the step
pub down_step_alone : (b : BoundSpecification) (position value : ℕ) (state to : List Prop) → IsBound b → HasShape (down_shape b.spec) to → with_part 0 (down_step b position value state) to ≡ down_step b position value state
down_step_alone b position value state to h room =
    let long : length (down_step b position value state) ≡ length to = length-map b.spec.down_step _ ∙ (length-down_step b h ∙ (sym (length-map b.spec.down _) ∙ sym (length-HasShape room))) in
    with_whole (down_step b position value state) to long

pub up_step_alone : (b : BoundSpecification) (position value : ℕ) (state to : List Prop) → IsBound b → HasShape (up_shape b.spec) to → with_part 0 (up_step b position value state) to ≡ up_step b position value state
up_step_alone b position value state to h room =
    let long : length (up_step b position value state) ≡ length to = length-map b.spec.up_step _ ∙ (length-up_step b h ∙ (sym (length-map b.spec.up _) ∙ sym (length-HasShape room))) in
    with_whole (up_step b position value state) to long

-- a test is told by its states and its bound on the cost
pub same_test : (b : BoundSpecification) (position value : ℕ) (down down' up up' : List Prop) (best best' : ℤ) → down ≡ down' → up ≡ up' → best ≡ best' → test_passes b position value down up best ≡ test_passes b position value down' up' best'
same_test b position value down down' up up' best best' d u same =
    ap (λ state. test_passes b position value state up best) d
    ∙ (ap (λ state. test_passes b position value down' state best) u
    ∙ ap (test_passes b position value down' up') same)
