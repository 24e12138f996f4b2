-- The entries of a row of the tight revision: when each is Gone, Cut, Dead or Live.
use Rattle.std.proofs.Common.{◌≡◌, ℕ, ℤ, Bool, true, false, if◌then◌else◌, List, slice_get, Option, None, Some, IsTrue, IsFalse, refl, sym, ap, ◌∙◌, subst}
use Rattle.hk_kinds.specs.Tops.{top_state}
use Rattle.hk_kinds.specs.declared.properties.Prop.{Prop}
use Rattle.hk_table.specs.Members.{Member}
use Rattle.hk_table.specs.Tables.{PlainRow, NamesRow, by_live, by_dead, entry_for}
use Rattle.hk_table.specs.declared.entries.Entry.{Entry}
use Rattle.hk_table.specs.declared.entries.Entry.TheVariants.{Gone, Cut, Dead, Live}
use Rattle.hk_layers.specs.Layers.{Half, goes_on, up_state, judged_by, entry_of_mark, finished, row_of_step}
use Rattle.hk_layers.specs.Transitions.{Transitions}
use Rattle.hk_sweep.proofs.Marks.{StandsFor, stands_made, stands_not, stands_for, live_has_value, marks, Goes, step_by, targets_by, MarkIs, marked_gone, marked_cut, marked_on, mark_is}

module _ (t : Transitions) (best : ℤ) (width layer : ℕ) (values : List ℕ) (domain : ℕ) (old old_next : List PlainRow) (steps : List (List Prop)) (next : List PlainRow) where
  -- the entry of a value at a row, and the row with all of them
  abbrev pub entry_at : Half → ℕ → Entry
  entry_at half value = entry_of_mark t best layer width steps next half value (marks t best layer values domain old old_next half value)

  abbrev pub row_at : Half → PlainRow
  row_at half = finished t best width layer values (marks t best layer values domain old old_next) steps next half

  -- the value goes on from the row, by an arc that leads to this row of the next layer
  pub record GoesTo (half : Half) (value c : ℕ) : Type 0 where
    pub goes : Goes t best layer values domain old old_next half value
    pub marked : marks t best layer values domain old old_next half value ≡ goes_on (step_by t best layer values domain old old_next half value) (targets_by t best layer values domain old old_next half value)
    pub leads : row_of_step width steps (step_by t best layer values domain old old_next half value) ≡ c

  -- it goes to a row with this up state, and the test holds with it
  pub record Lives (half : Half) (value c : ℕ) : Type 0 where
    pub to : GoesTo half value c
    pub up : List Prop
    pub above : up_state (slice_get next c) ≡ Some up
    pub holds : IsTrue (t.passes layer value best half.down up)

  -- it goes to a row without an up state, or to one with an up state with which the test fails
  pub data Dies (half : Half) (value c : ℕ) : Type 0 where
    dies_nowhere : GoesTo half value c → up_state (slice_get next c) ≡ None → Dies half value c
    dies_by_test : {up : List Prop} → GoesTo half value c → up_state (slice_get next c) ≡ Some up → IsFalse (t.passes layer value best half.down up) → Dies half value c

  pub data EntryIs (half : Half) (value : ℕ) (entry : Entry) : Type 0 where
    entry_gone : (Goes t best layer values domain old old_next half value → ⊥) → entry ≡ Gone → EntryIs half value entry
    entry_cut : Goes t best layer values domain old old_next half value → IsFalse (t.passes layer value best half.down (top_state t.up_shape)) → entry ≡ Cut → EntryIs half value entry
    entry_dead : {c : ℕ} → Dies half value c → entry ≡ Dead c → EntryIs half value entry
    entry_live : {c : ℕ} → Lives half value c → entry ≡ Live c → EntryIs half value entry

  judged_if : (half : Half) (value c : ℕ) (up : List Prop) (passes : Bool) (entry : Entry) → GoesTo half value c → up_state (slice_get next c) ≡ Some up
      → t.passes layer value best half.down up ≡ passes → entry ≡ (if passes then Live c else Dead c) → EntryIs half value entry
  judged_if half value c up true entry to above holds is = entry_live (record { to = to; up = up; above = above; holds = holds }) is
  judged_if half value c up false entry to above fails is = entry_dead (dies_by_test to above fails) is

  judged : (half : Half) (value c : ℕ) (found : Option (List Prop)) (entry : Entry) → GoesTo half value c → up_state (slice_get next c) ≡ found
      → entry ≡ judged_by (t.passes layer value best half.down) found c → EntryIs half value entry
  judged half value c None entry to above is = entry_dead (dies_nowhere to above) is
  judged half value c (Some up) entry to above is = judged_if half value c up (t.passes layer value best half.down up) entry to above refl is

  entry_from : (half : Half) (value : ℕ) → MarkIs t best layer values domain old old_next half value (marks t best layer values domain old old_next half value) → EntryIs half value (entry_at half value)
  entry_from half value (marked_gone none is) = entry_gone none (ap (entry_of_mark t best layer width steps next half value) is)
  entry_from half value (marked_cut goes fails is) = entry_cut goes fails (ap (entry_of_mark t best layer width steps next half value) is)
  entry_from half value (marked_on goes is) =
      let c = row_of_step width steps (step_by t best layer values domain old old_next half value) in
      judged half value c (up_state (slice_get next c)) (entry_at half value) (record { goes = goes; marked = is; leads = refl }) refl
      (ap (entry_of_mark t best layer width steps next half value) is)

  -- what the entry of a value is made of
  pub made_is : (half : Half) (value : ℕ) → EntryIs half value (entry_at half value)
  made_is half value = entry_from half value (mark_is t best layer values domain old old_next half value)

  -- a value that goes on is one of the layer
  pub goes_value : (half : Half) (value : ℕ) → Goes t best layer values domain old old_next half value → Member value values
  goes_value half value goes = live_has_value values goes.leads.row.entries value goes.to goes.leads.live

  row_entry_from : (half : Half) (value : ℕ) (entry : Entry) → StandsFor values (entry_at half) value entry → EntryIs half value entry
  row_entry_from half value entry (stands_made m is) = subst (EntryIs half value) (sym is) (made_is half value)
  row_entry_from half value entry (stands_not none is) = entry_gone (λ goes. none (goes_value half value goes)) is

  -- what the entry that stands for a value in the row is
  pub row_entry_is : (half : Half) (value : ℕ) → EntryIs half value (entry_for values (row_at half).entries value)
  row_entry_is half value = row_entry_from half value _ (stands_for values (entry_at half) value)

  -- ---- what is known where an entry is of one of the four

  lives_from : (half : Half) (value c : ℕ) (entry : Entry) → EntryIs half value entry → entry ≡ Live c → Lives half value c
  lives_from half value c entry (entry_gone _ is) also = cc
  lives_from half value c entry (entry_cut _ _ is) also = cc
  lives_from half value c entry (entry_dead _ is) also = cc
  lives_from half value c entry (entry_live {c = other} lives is) also =
      let both : Live other ≡ Live c = sym is ∙ also in
      let same : other ≡ c = cc in
      subst (Lives half value) same lives

  dies_from : (half : Half) (value c : ℕ) (entry : Entry) → EntryIs half value entry → entry ≡ Dead c → Dies half value c
  dies_from half value c entry (entry_gone _ is) also = cc
  dies_from half value c entry (entry_cut _ _ is) also = cc
  dies_from half value c entry (entry_live _ is) also = cc
  dies_from half value c entry (entry_dead {c = other} dies is) also =
      let both : Dead other ≡ Dead c = sym is ∙ also in
      let same : other ≡ c = cc in
      subst (Dies half value) same dies

  -- a Live entry of a value: where it leads, with which up state, and that the test holds with it
  pub lived : (half : Half) (value c : ℕ) → entry_for values (row_at half).entries value ≡ Live c → Lives half value c
  lived half value c is = lives_from half value c _ (row_entry_is half value) is

  pub lived_at : (half : Half) (value c : ℕ) → entry_at half value ≡ Live c → Lives half value c
  lived_at half value c is = lives_from half value c _ (made_is half value) is

  pub died : (half : Half) (value c : ℕ) → entry_for values (row_at half).entries value ≡ Dead c → Dies half value c
  died half value c is = dies_from half value c _ (row_entry_is half value) is

  pub dies_to : (half : Half) (value c : ℕ) → Dies half value c → GoesTo half value c
  dies_to half value c (dies_nowhere to _) = to
  dies_to half value c (dies_by_test to _ _) = to

  named_from : (half : Half) (value c : ℕ) (entry : Entry) → EntryIs half value entry → NamesRow entry c → GoesTo half value c
  named_from half value c _ is by_live = (lives_from half value c _ is refl).to
  named_from half value c _ is by_dead = dies_to half value c (dies_from half value c _ is refl)

  -- a Live or Dead entry of a value: where it leads
  pub named : (half : Half) (value c : ℕ) → NamesRow (entry_for values (row_at half).entries value) c → GoesTo half value c
  named half value c names = named_from half value c _ (row_entry_is half value) names

  pub named_at : (half : Half) (value c : ℕ) → NamesRow (entry_at half value) c → GoesTo half value c
  named_at half value c names = named_from half value c _ (made_is half value) names

  cut_from : (half : Half) (value : ℕ) (entry : Entry) → EntryIs half value entry → entry ≡ Cut → IsFalse (t.passes layer value best half.down (top_state t.up_shape))
  cut_from half value entry (entry_gone _ is) also = cc
  cut_from half value entry (entry_cut _ fails _) also = fails
  cut_from half value entry (entry_dead _ is) also = cc
  cut_from half value entry (entry_live _ is) also = cc

  pub was_cut : (half : Half) (value : ℕ) → entry_for values (row_at half).entries value ≡ Cut → IsFalse (t.passes layer value best half.down (top_state t.up_shape))
  was_cut half value is = cut_from half value _ (row_entry_is half value) is

  gone_from : (half : Half) (value : ℕ) (entry : Entry) → EntryIs half value entry → entry ≡ Gone → Goes t best layer values domain old old_next half value → ⊥
  gone_from half value entry (entry_gone none _) also = none
  gone_from half value entry (entry_cut _ _ is) also = λ goes. cc
  gone_from half value entry (entry_dead _ is) also = λ goes. cc
  gone_from half value entry (entry_live _ is) also = λ goes. cc

  gone_where : (half : Half) (value : ℕ) (entry : Entry) → EntryIs half value entry → (Goes t best layer values domain old old_next half value → ⊥) → entry ≡ Gone
  gone_where half value entry (entry_gone _ is) none = is
  gone_where half value entry (entry_cut goes _ _) none = absurd (none goes)
  gone_where half value entry (entry_dead {c = c} dies _) none = absurd (none (dies_to half value c dies).goes)
  gone_where half value entry (entry_live lives _) none = absurd (none lives.to.goes)

  pub was_gone : (half : Half) (value : ℕ) → entry_for values (row_at half).entries value ≡ Gone → Goes t best layer values domain old old_next half value → ⊥
  was_gone half value is = gone_from half value _ (row_entry_is half value) is

  pub is_gone_where : (half : Half) (value : ℕ) → (Goes t best layer values domain old old_next half value → ⊥) → entry_for values (row_at half).entries value ≡ Gone
  is_gone_where half value none = gone_where half value _ (row_entry_is half value) none
