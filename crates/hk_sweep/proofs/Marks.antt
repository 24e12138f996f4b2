-- The rows that a value leads to, and what becomes of a value at a row.
use Rattle.std.proofs.Common.{◌≡◌, ℕ, ℤ, ◌<◌, ◌==◌, inl, inr, Bool, true, false, if◌then◌else◌, List, [], ◌∷◌, length, map, slice_get, Option, None, Some, IsFalse, arith, refl, sym, ap, ◌∙◌, subst}
use Rattle.std.specs.Int.{bit_at}
use Rattle.std.specs.List.{list_any, range_with_len}
use Rattle.std.proofs.lemmas.Bool.{eq-eqb, eqb-true}
use Rattle.hk_kinds.specs.Tops.{top_state}
use Rattle.hk_kinds.specs.declared.properties.Prop.{Prop}
use Rattle.hk_table.specs.Members.{Member, first, later}
use Rattle.hk_table.specs.Tables.{PlainRow, entry_for}
use Rattle.hk_table.specs.declared.entries.Entry.{Entry}
use Rattle.hk_table.specs.declared.entries.Entry.TheVariants.{Gone, Cut, Dead, Live}
use Rattle.hk_sweep.specs.Loose.{LeadsTo, GoesOn}
use Rattle.hk_layers.specs.Layers.{Half, Mark, is_gone, is_cut, goes_on, is_live_to, old_entry, targets, mark_by, mark}
use Rattle.hk_layers.specs.Transitions.{Transitions}
use Rattle.hk_sweep.proofs.Lists.{any_from, any_has, filter_from, filter_has, head_or, range_has, range_within}

-- ---- entries that stand for values

member_by : (v value : ℕ) (values : List ℕ) (entry rest : Entry) (c : ℕ) (b : Bool) → (v == value) ≡ b → (if b then entry else rest) ≡ Live c → (rest ≡ Live c → Member value values) → Member value (v ∷ values)
member_by v value values entry rest c true same is more = subst (λ n. Member value (n ∷ values)) (sym (eqb-true v value same)) first
member_by v value values entry rest c false other is more = later (more is)

-- a value with a Live entry is one of those that entries stand for
pub live_has_value : (values : List ℕ) (entries : List Entry) (value c : ℕ) → entry_for values entries value ≡ Live c → Member value values
live_has_value [] entries value c is = cc
live_has_value (v ∷ values) [] value c is = cc
live_has_value (v ∷ values) (entry ∷ entries) value c is = member_by v value values entry (entry_for values entries value) c (v == value) refl is (λ h. live_has_value values entries value c h)

-- what stands for a value, where each value has the entry that is made of it
pub data StandsFor (values : List ℕ) (make : ℕ → Entry) (value : ℕ) (entry : Entry) : Type 0 where
  stands_made : Member value values → entry ≡ make value → StandsFor values make value entry
  stands_not : (Member value values → ⊥) → entry ≡ Gone → StandsFor values make value entry

stands_by : (v value : ℕ) (values : List ℕ) (make : ℕ → Entry) (rest : Entry) (b : Bool) → (v == value) ≡ b → StandsFor values make value rest → StandsFor (v ∷ values) make value (if b then make v else rest)
stands_by v value values make rest true same more =
    let is : v ≡ value = eqb-true v value same in
    stands_made (subst (λ n. Member value (n ∷ values)) (sym is) first) (ap make is)
stands_by v value values make rest false other (stands_made m is) = stands_made (later m) is
stands_by v value values make rest false other (stands_not none is) =
    let apart : v ≡ value → ⊥ = λ same. let equal : (v == value) ≡ true = eq-eqb v value same in cc in
    stands_not (λ m. elim (head_or value v values m) [ inl same ↦ apart (sym same) | inr n ↦ none n ]) is

pub stands_for : (values : List ℕ) (make : ℕ → Entry) (value : ℕ) → StandsFor values make value (entry_for values (map make values) value)
stands_for [] make value = stands_not (λ m. elim m [ ]) refl
stands_for (v ∷ values) make value = stands_by v value values make (entry_for values (map make values) value) (v == value) refl (stands_for values make value)

live_by : (values : List ℕ) (make : ℕ → Entry) (value c : ℕ) (entry : Entry) → StandsFor values make value entry → entry ≡ Live c → make value ≡ Live c
live_by values make value c entry (stands_made _ is) live = sym is ∙ live
live_by values make value c entry (stands_not _ is) live = cc

-- a Live entry that stands for a value is made of it
pub live_made : (values : List ℕ) (make : ℕ → Entry) (value c : ℕ) → entry_for values (map make values) value ≡ Live c → make value ≡ Live c
live_made values make value c live = live_by values make value c _ (stands_for values make value) live

-- ---- the old rows that a value leads to

live_to : (entry : Entry) (c : ℕ) → is_live_to entry c ≡ true → entry ≡ Live c
live_to Gone c is = cc
live_to Cut c is = cc
live_to (Dead other) c is = cc
live_to (Live other) c is = ap (λ n. Live n) (eqb-true other c is)

module _ (values : List ℕ) (old old_next : List PlainRow) (from : List ℕ) (value : ℕ) where
  leads_by : (c origin : ℕ) (found : Option PlainRow) → Member origin from → c < length old_next → slice_get old origin ≡ found → is_live_to (old_entry values found value) c ≡ true → LeadsTo values old old_next from value c
  leads_by c origin None named there at live = cc
  leads_by c origin (Some row) named there at live = record { origin = origin; named = named; row = row; is = at; live = live_to _ c live; there = there }

  abbrev pub is_origin : ℕ → ℕ → Bool
  is_origin c origin = is_live_to (old_entry values (slice_get old origin) value) c

  -- a value leads to each of its targets
  pub target_leads : (c : ℕ) → Member c (targets values old old_next from value) → LeadsTo values old old_next from value c
  target_leads c m =
      let kept = filter_from (λ c. list_any (is_origin c) from) c (range_with_len 0 (length old_next)) m in
      let found = any_from (is_origin c) from kept.passes in
      let below = range_within 0 (length old_next) c kept.stands in
      leads_by c found.item (slice_get old found.item) found.stands (omega (arith, below.1)) refl found.passes

  -- and each row that it leads to is a target
  pub leads_target : (c : ℕ) → LeadsTo values old old_next from value c → Member c (targets values old old_next from value)
  leads_target c h =
      let live : is_origin c h.origin ≡ true = ap (λ found. is_live_to (old_entry values found value) c) h.is ∙ ap (λ entry. is_live_to entry c) h.live ∙ eq-eqb c c refl in
      filter_has (λ c. list_any (is_origin c) from) c (range_with_len 0 (length old_next)) (range_has 0 (length old_next) c (omega arith) (omega (arith, h.there)))
      (any_has (is_origin c) h.origin from h.named live)

-- ---- marks

module _ (t : Transitions) (best : ℤ) (layer : ℕ) (values : List ℕ) (domain : ℕ) (old old_next : List PlainRow) where
  -- the marks of the layer
  abbrev pub marks : Half → ℕ → Mark
  marks = mark t best layer values domain old old_next

  -- the value goes on from the row
  abbrev pub Goes : Half → ℕ → Type 0
  Goes half value = GoesOn values domain old old_next half.from value

  abbrev pub step_by : Half → ℕ → List Prop
  step_by half value = t.down layer value half.down

  abbrev pub targets_by : Half → ℕ → List ℕ
  targets_by half value = targets values old old_next half.from value

  -- a mark is gone where its value doesn't go on, cut where the test fails with the top up state, and else goes on
  pub data MarkIs (half : Half) (value : ℕ) (m : Mark) : Type 0 where
    marked_gone : (Goes half value → ⊥) → m ≡ is_gone → MarkIs half value m
    marked_cut : Goes half value → IsFalse (t.passes layer value best half.down (top_state t.up_shape)) → m ≡ is_cut → MarkIs half value m
    marked_on : Goes half value → m ≡ goes_on (step_by half value) (targets_by half value) → MarkIs half value m

  goes_by : (half : Half) (value c : ℕ) (more : List ℕ) → targets_by half value ≡ c ∷ more → (bit_at domain value == 1) ≡ true → Goes half value
  goes_by half value c more is allowed = record {
    allowed = eqb-true (bit_at domain value) 1 allowed;
    to = c;
    leads = target_leads values old old_next half.from value c (subst (Member c) (sym is) first);
  }

  marked_by : (half : Half) (value c : ℕ) (more : List ℕ) (allowed passes : Bool) → targets_by half value ≡ c ∷ more → (bit_at domain value == 1) ≡ allowed
      → t.passes layer value best half.down (top_state t.up_shape) ≡ passes
      → MarkIs half value (if allowed then (if passes then goes_on (step_by half value) (c ∷ more) else is_cut) else is_gone)
  marked_by half value c more true true is allowed holds = marked_on (goes_by half value c more is allowed) (ap (goes_on (step_by half value)) (sym is))
  marked_by half value c more true false is allowed fails = marked_cut (goes_by half value c more is allowed) fails refl
  marked_by half value c more false passes is lacks _ =
      marked_gone (λ goes. let has : (bit_at domain value == 1) ≡ true = eq-eqb (bit_at domain value) 1 goes.allowed in cc) refl

  marked_from : (half : Half) (value : ℕ) (found : List ℕ) → targets_by half value ≡ found → MarkIs half value (mark_by t best layer domain half value found)
  marked_from half value [] is = marked_gone (λ goes. elim (subst (Member goes.to) is (leads_target values old old_next half.from value goes.to goes.leads)) [ ]) refl
  marked_from half value (c ∷ more) is = marked_by half value c more (bit_at domain value == 1) (t.passes layer value best half.down (top_state t.up_shape)) is refl refl

  pub mark_is : (half : Half) (value : ℕ) → MarkIs half value (marks half value)
  mark_is half value = marked_from half value (targets_by half value) refl

  -- a mark that goes on to a step
  pub record GoesOnTo (half : Half) (value : ℕ) (step : List Prop) (found : List ℕ) : Type 0 where
    pub goes : Goes half value
    pub step_is : step ≡ step_by half value
    pub found_is : found ≡ targets_by half value

  goes_on_from : (half : Half) (value : ℕ) (m : Mark) (step : List Prop) (found : List ℕ) → MarkIs half value m → m ≡ goes_on step found → GoesOnTo half value step found
  goes_on_from half value m step found (marked_gone _ is) also = cc
  goes_on_from half value m step found (marked_cut _ _ is) also = cc
  goes_on_from half value m step found (marked_on goes is) also =
      let same : goes_on step found ≡ goes_on (step_by half value) (targets_by half value) = sym also ∙ is in
      record { goes = goes; step_is = cc; found_is = cc }

  pub mark_goes_on : (half : Half) (value : ℕ) (step : List Prop) (found : List ℕ) → marks half value ≡ goes_on step found → GoesOnTo half value step found
  mark_goes_on half value step found is = goes_on_from half value (marks half value) step found (mark_is half value) is
