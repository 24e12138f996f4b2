-- The last of ascending states, and a state that is put in behind it.
use Rattle.std.proofs.Common.{◌≡◌, Bool, false, IsTrue, ℕ, suc, ◌-◌, ◌<◌, List, [], ◌∷◌, ◌++◌, length, get_or, arith, ap, refl, sym, ◌∙◌, subst}
use Rattle.std.specs.declared.cmp.Ordering.{Ordering}
use Rattle.std.specs.declared.cmp.Ordering.TheVariants.{Less, Equal, Greater}
use Rattle.std.proofs.lemmas.Cmp.{tied_itself}
use Rattle.hk_kinds.specs.Distinct.{put_by, insert_state, Ascends, ascends_none, ascends_one, ascends_more}
use Rattle.hk_kinds.specs.inside.Keys.{IsLast}
use Rattle.hk_kinds.specs.Orders.{state_order}
use Rattle.hk_kinds.specs.declared.properties.Prop.{Prop}
use Rattle.hk_kinds.proofs.StateOrder.{state_total, state_apart}
use Rattle.hk_kinds.proofs.DistinctLaws.{above_in, Rises, rises_more, rises_from_ascends, in_at, less_turned, greater_turned}

-- the last state of a list
abbrev pub last_of : List (List Prop) → List Prop
last_of states = get_or states (length states - 1) []

last_more : (first next : List Prop) (rest : List (List Prop)) → last_of (first ∷ (next ∷ rest)) ≡ last_of (next ∷ rest)
last_more first next rest =
    let e : length (first ∷ (next ∷ rest)) - 1 ≡ suc (length rest) = omega arith in
    let f : length (next ∷ rest) - 1 ≡ length rest = omega arith in
    rw (e, f) refl

-- the last state comes after the first
first_below : (first next : List Prop) (rest : List (List Prop)) → Rises (first ∷ (next ∷ rest)) → state_order first (last_of (next ∷ rest)) ≡ Less
first_below first next rest (rises_more above more) = above_in first _ (next ∷ rest) above (in_at (next ∷ rest) (length (next ∷ rest) - 1) (omega arith))

-- a state that isn't less than another comes after what is less than that
after_less : (o : Ordering) (state last first : List Prop) → o ≡ state_order state last → (state_order state last ≡ Less → ⊥) → state_order first last ≡ Less → state_order state first ≡ Greater
after_less Less state last first h not_less less = absurd (not_less (sym h))
after_less Equal state last first h not_less less = less_turned first state (subst (λ s. state_order first s ≡ Less) (sym (state_apart state last (sym h))) less)
after_less Greater state last first h not_less less = less_turned first state (state_total.trans first last state less (greater_turned state last (sym h)))

-- a state put into a list whose first state it comes after
put_after : (state first : List Prop) (rest : List (List Prop)) → state_order state first ≡ Greater → insert_state state (first ∷ rest) ≡ first ∷ insert_state state rest
put_after state first rest h = ap (λ o. put_by o state first rest (insert_state state rest)) h

-- the last state put in again changes nothing
pub insert_last : (state : List Prop) (states : List (List Prop)) → Ascends states → IsLast state states → states ≡ insert_state state states
insert_last state _ ascends_none last = absurd (omega (arith, last.some))
insert_last state _ (ascends_one {state = first}) last =
    let tied : state_order state first ≡ Equal = ap (state_order state) last.same ∙ tied_itself state_total state in
    sym (ap (λ o. put_by o state first [] (state ∷ [])) tied)
insert_last state _ (ascends_more {state = first} {next = next} {states = rest} h more) last =
    let is_last : last_of (next ∷ rest) ≡ state = sym (last_more first next rest) ∙ last.same in
    let later : next ∷ rest ≡ insert_state state (next ∷ rest) = insert_last state (next ∷ rest) more (record { some = omega arith; same = is_last }) in
    let less : state_order first state ≡ Less = subst (λ s. state_order first s ≡ Less) is_last (first_below first next rest (rises_from_ascends _ (ascends_more h more))) in
    ap (λ r. first ∷ r) later ∙ sym (put_after state first (next ∷ rest) (less_turned first state less))

alone_after : (o : Ordering) (state first : List Prop) → o ≡ state_order state first → (state_order state first ≡ Less → ⊥) → (first ≡ state → ⊥) → first ∷ (state ∷ []) ≡ put_by o state first [] (state ∷ [])
alone_after Less state first h not_less other = absurd (not_less (sym h))
alone_after Equal state first h not_less other = absurd (other (sym (state_apart state first (sym h))))
alone_after Greater state first h not_less other = refl

-- a state put in that comes after all stands at the end
pub insert_after : (state : List Prop) (states : List (List Prop)) → Ascends states → (0 < length states → state_order state (last_of states) ≡ Less → ⊥) → (IsLast state states → ⊥) → states ++ state ∷ [] ≡ insert_state state states
insert_after state _ ascends_none _ _ = refl
insert_after state _ (ascends_one {state = first}) after other = alone_after (state_order state first) state first refl (after (omega arith)) (λ same. other (record { some = omega arith; same = same }))
insert_after state _ (ascends_more {state = first} {next = next} {states = rest} h more) after other =
    let same : last_of (first ∷ (next ∷ rest)) ≡ last_of (next ∷ rest) = last_more first next rest in
    let not_less : state_order state (last_of (next ∷ rest)) ≡ Less → ⊥ = λ less. after (omega arith) (ap (state_order state) same ∙ less) in
    let later : (next ∷ rest) ++ state ∷ [] ≡ insert_state state (next ∷ rest) = insert_after state (next ∷ rest) more (λ _. not_less) (λ last. other (record { some = omega arith; same = same ∙ last.same })) in
    let greater : state_order state first ≡ Greater = after_less (state_order state (last_of (next ∷ rest))) state (last_of (next ∷ rest)) first refl not_less (first_below first next rest (rises_from_ascends _ (ascends_more h more))) in
    ap (λ r. first ∷ r) later ∙ sym (put_after state first (next ∷ rest) greater)

-- what the comparison with the last state says
pub is_last_from : (state last : List Prop) (states : List (List Prop)) (count : ℕ) → count ≡ length states → (count ≡ 0 → ⊥) → last ≡ get_or states (count - 1) [] → state_order last state ≡ Equal → IsLast state states
is_last_from state last states count is some there tied = record {
  some = omega arith;
  same = ap (λ n. get_or states (n - 1) []) (sym is) ∙ (sym there ∙ state_apart last state tied);
}

pub not_last_from : (state last : List Prop) (states : List (List Prop)) (count : ℕ) → count ≡ length states → last ≡ get_or states (count - 1) [] → (state_order last state ≡ Equal → ⊥) → IsLast state states → ⊥
not_last_from state last states count is there apart is_last =
    let same : last ≡ state = there ∙ (ap (λ n. get_or states (n - 1) []) is ∙ is_last.same) in
    apart (ap (λ s. state_order s state) same ∙ tied_itself state_total state)

-- a test that failed did not pass
pub not_true : (answer : Bool) → answer ≡ false → IsTrue answer → ⊥
not_true answer failed passed = cc
