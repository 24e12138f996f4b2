-- The up states of rows of the tight revision: the joins of the up steps of their Live entries.
use Rattle.std.proofs.Common.{◌≡◌, ℕ, ⊎_elim, List, [], ◌∷◌, map, slice_get, Option, None, Some, refl, sym, subst}
use Rattle.hk_kinds.specs.declared.properties.Prop.{Prop}
use Rattle.hk_table.specs.Members.{Member, first, later}
use Rattle.hk_table.specs.Tables.{PlainRow}
use Rattle.hk_table.specs.declared.entries.Entry.{Entry}
use Rattle.hk_table.specs.declared.entries.Entry.TheVariants.{Gone, Cut, Dead, Live}
use Rattle.hk_layers.specs.Layers.{up_state, up_step_by, up_step_of, up_steps}
use Rattle.hk_layers.specs.Transitions.{Transitions}
use Rattle.hk_sweep.proofs.Lists.{append_left, append_right, append_or, head_or}

-- a row that is there, with this up state
pub record HasUp (rows : List PlainRow) (c : ℕ) (up : List Prop) : Type 0 where
  pub row : PlainRow
  pub is : slice_get rows c ≡ Some row
  pub has : row.up ≡ Some up

has_up_by : (rows : List PlainRow) (c : ℕ) (up : List Prop) (found : Option PlainRow) → slice_get rows c ≡ found → up_state found ≡ Some up → HasUp rows c up
has_up_by rows c up None at is = cc
has_up_by rows c up (Some row) at is = record { row = row; is = at; has = is }

pub has_up : (rows : List PlainRow) (c : ℕ) (up : List Prop) → up_state (slice_get rows c) ≡ Some up → HasUp rows c up
has_up rows c up is = has_up_by rows c up (slice_get rows c) refl is

module _ (t : Transitions) (layer : ℕ) (next : List PlainRow) where
  -- an up step of an entry that stands for a value: the entry is Live, and leads to a row with an up state
  pub record IsUpStep (value : ℕ) (entry : Entry) (step : List Prop) : Type 0 where
    pub c : ℕ
    pub live : entry ≡ Live c
    pub up : List Prop
    pub above : up_state (slice_get next c) ≡ Some up
    pub is : step ≡ t.up layer value up

  up_step_from : (value c : ℕ) (found : Option (List Prop)) (step : List Prop) → up_state (slice_get next c) ≡ found → Member step (up_step_by t layer value found) → IsUpStep value (Live c) step
  up_step_from value c None step above m = elim m [ ]
  up_step_from value c (Some up) step above m = record {
    c = c;
    live = refl;
    up = up;
    above = above;
    is = ⊎_elim (λ same. same) (λ none. elim none [ ]) (head_or step (t.up layer value up) [] m);
  }

  step_of_entry_from : (value : ℕ) (entry : Entry) (step : List Prop) → Member step (up_step_of t layer next value entry) → IsUpStep value entry step
  step_of_entry_from value Gone step m = elim m [ ]
  step_of_entry_from value Cut step m = elim m [ ]
  step_of_entry_from value (Dead c) step m = elim m [ ]
  step_of_entry_from value (Live c) step m = up_step_from value c (up_state (slice_get next c)) step refl m

  -- where entries are made of values: an up step of one of them
  pub record IsUpStepOf (values : List ℕ) (make : ℕ → Entry) (step : List Prop) : Type 0 where
    pub value : ℕ
    pub has : Member value values
    pub of : IsUpStep value (make value) step

  step_later : (value : ℕ) (values : List ℕ) (make : ℕ → Entry) (step : List Prop) → IsUpStepOf values make step → IsUpStepOf (value ∷ values) make step
  step_later value values make step h = record { value = h.value; has = later h.has; of = h.of }

  pub up_steps_from : (values : List ℕ) (make : ℕ → Entry) (step : List Prop) → Member step (up_steps t layer next values (map make values)) → IsUpStepOf values make step
  up_steps_from [] make step m = elim m [ ]
  up_steps_from (value ∷ values) make step m =
      ⊎_elim
      (λ here. record { value = value; has = first; of = step_of_entry_from value (make value) step here })
      (λ more. step_later value values make step (up_steps_from values make step more))
      (append_or step (up_step_of t layer next value (make value)) (up_steps t layer next values (map make values)) m)

  step_of_live : (value c : ℕ) (entry : Entry) (up : List Prop) → entry ≡ Live c → up_state (slice_get next c) ≡ Some up → Member (t.up layer value up) (up_step_of t layer next value entry)
  step_of_live value c entry up live above =
      let at : Member (t.up layer value up) (up_step_of t layer next value (Live c)) = subst (λ found. Member (t.up layer value up) (up_step_by t layer value found)) (sym above) first in
      subst (λ e. Member (t.up layer value up) (up_step_of t layer next value e)) (sym live) at

  pub up_steps_have : (value : ℕ) (values : List ℕ) (make : ℕ → Entry) (c : ℕ) (up : List Prop) → Member value values → make value ≡ Live c → up_state (slice_get next c) ≡ Some up
      → Member (t.up layer value up) (up_steps t layer next values (map make values))
  up_steps_have value _ make c up (first {xs = values}) live above = append_left _ (up_step_of t layer next value (make value)) _ (step_of_live value c (make value) up live above)
  up_steps_have value _ make c up (later {y = other} {xs = values} m) live above = append_right _ (up_step_of t layer next other (make other)) _ (up_steps_have value values make c up m live above)
