-- A loose revision keeps each assignment that the old table keeps, that lies in the domains and that is accepted.
use Rattle.std.proofs.Common.{◌≡◌, ℕ, ℤ, Bool, true, false, ◌+◌, ◌<◌, ◌==◌, if◌then◌else◌, List, [], ◌∷◌, length, slice_get, All, Some, IsTrue, IsFalse, arith, sym, refl, ◌∙◌, subst}
use Rattle.std.proofs.lemmas.Option.{same_Some, slice_get_within, get_or_from_slice_get}
use Rattle.hk_base.specs.Sets.{Has}
use Rattle.hk_kinds.specs.Covers.{StateCovers}
use Rattle.hk_kinds.specs.Shapes.{HasShape}
use Rattle.hk_kinds.specs.Tops.{top_state}
use Rattle.hk_kinds.specs.declared.properties.Prop.{Prop}
use Rattle.hk_kinds.proofs.Covering.{state_along}
use Rattle.hk_kinds.proofs.StateLaws.{top_covers}
use Rattle.hk_table.specs.Keeps.{KeepsFrom, keeps_last, keeps_layer, LieIn, lie_none, lie_more}
use Rattle.hk_table.specs.Members.{Member, first, later}
use Rattle.hk_table.specs.Tables.{PlainRow, NamesRow, by_live, by_dead, entry_for}
use Rattle.hk_table.specs.declared.entries.Entry.{Entry}
use Rattle.hk_table.specs.declared.entries.Entry.TheVariants.{Gone, Cut, Dead, Live}
use Rattle.hk_sweep.specs.Loose.{LeadsTo, ReceivesStep, DeadCause, leads_nowhere, test_fails, IsDeadEnd, CoversUp, Begins, RowIsLoose, LastRowIsLoose, LayersAreLoose, last_is_loose, layer_is_loose, IsLoose}
use Rattle.hk_layers.specs.Transitions.{Transitions}
use Rattle.hk_sweep.proofs.ExactRuns.{up_along, AcceptsFrom, accepts_layer}

-- what keeping needs of transitions: the steps of a state that covers another cover the other's, a test that holds goes
-- on holding of states that cover, and the up states keep their shape
pub record AreRevisable (t : Transitions) : Type 0 where
  pub down_steps : (layer value : ℕ) (wider state : List Prop) → StateCovers t.down_shape wider state → StateCovers t.down_shape (t.down layer value wider) (t.down layer value state)
  pub up_steps : (layer value : ℕ) (wider state : List Prop) → StateCovers t.up_shape wider state → StateCovers t.up_shape (t.up layer value wider) (t.up layer value state)
  pub test : (layer value : ℕ) (best : ℤ) (wider_down down wider_up up : List Prop) → StateCovers t.down_shape wider_down down → StateCovers t.up_shape wider_up up → IsTrue (t.passes layer value best down up) → IsTrue (t.passes layer value best wider_down wider_up)
  pub initial_up : HasShape t.up_shape t.initial_up
  pub up_shapes : (layer value : ℕ) (state : List Prop) → value < 128 → HasShape t.up_shape state → HasShape t.up_shape (t.up layer value state)

-- what holds of all items holds of the one at a place
pub at_place : {X : Type 0} (P : X → Type 0) (xs : List X) (k : ℕ) (x : X) → slice_get xs k ≡ Some x → All P xs → P x
at_place P xs k x is all = subst P (get_or_from_slice_get xs k x x is) (all k x (slice_get_within xs k x is))

-- an entry that is found for a value stands among the entries
live_by : (b : Bool) (entry other : Entry) (entries : List Entry) (c : ℕ) → (if b then entry else other) ≡ Live c → (other ≡ Live c → Member (Live c) entries) → Member (Live c) (entry ∷ entries)
live_by true entry other entries c is rest = subst (λ e. Member e (entry ∷ entries)) is first
live_by false entry other entries c is rest = later (rest is)

pub live_member : (values : List ℕ) (entries : List Entry) (value c : ℕ) → entry_for values entries value ≡ Live c → Member (Live c) entries
live_member [] entries value c is = cc
live_member (v ∷ values) [] value c is = cc
live_member (v ∷ values) (entry ∷ entries) value c is = live_by (v == value) entry (entry_for values entries value) entries c is (live_member values entries value c)

-- a path that is kept stands on a row that is there
pub kept_within : {values : List (List ℕ)} {layer : List PlainRow} {layers : List (List PlainRow)} {c : ℕ} {assignment : List ℕ} → KeepsFrom values (layer ∷ layers) c assignment → c < length layer
kept_within (keeps_last within) = within
kept_within (keeps_layer {layer = layer} {c = c} {row = row} is live kept) = slice_get_within layer c row is

-- and this row has a Live entry where it isn't on the last layer
kept_lives : {values : List (List ℕ)} {layer : List PlainRow} {layers : List (List PlainRow)} {c : ℕ} {assignment : List ℕ} (row : PlainRow) → KeepsFrom values (layer ∷ layers) c assignment → 0 < length values → slice_get layer c ≡ Some row → ((next : ℕ) → Member (Live next) row.entries → ⊥) → ⊥
kept_lives row (keeps_last within) some at none_live = absurd (omega arith)
kept_lives row (keeps_layer {values = values} {next = next} {value = value} {row = found} is live kept) some at none_live =
    none_live next (live_member values row.entries value next (subst (λ (r : PlainRow). entry_for values r.entries value ≡ Live next) (same_Some found row (sym is ∙ at)) live))

refuted : {b : Bool} → IsTrue b → IsFalse b → ⊥
refuted h k = cc

-- a row keeps the values from its layer on, and its up state covers their exact one
pub record Follows (t : Transitions) (layer : ℕ) (values : List (List ℕ)) (layers : List (List PlainRow)) (c : ℕ) (row : PlainRow) (assignment : List ℕ) : Type 0 where
  pub kept : KeepsFrom values layers c assignment
  pub up : List Prop
  pub own : row.up ≡ Some up
  pub covers : StateCovers t.up_shape up (up_along t layer assignment)

module _ (t : Transitions) (revisable : AreRevisable t) (best : ℤ) where
  -- exact up states have the shape
  up_along_shape : (layer : ℕ) {sets values : List ℕ} → LieIn sets values → HasShape t.up_shape (up_along t layer values)
  up_along_shape layer lie_none = revisable.initial_up
  up_along_shape layer (lie_more {value = value} {values = values} has small more) = revisable.up_shapes layer value (up_along t (layer + 1) values) small (up_along_shape (layer + 1) more)

  -- one layer: a row that comes from the old path's row, with a down state that covers the exact one
  module _ (layer : ℕ) (values : List ℕ) (more : List (List ℕ)) (domain : ℕ) (old old_next new next : List PlainRow) (news : List (List PlainRow)) (row : PlainRow)
      (loose : RowIsLoose t best layer values domain old old_next next (length more) row) (c value q : ℕ) (rest : List ℕ) (down : List Prop)
      (at : slice_get new c ≡ Some row) (wider : StateCovers t.down_shape row.down down) (allowed : Has domain value) (leads : LeadsTo values old old_next row.from value q)
      (shape : HasShape t.up_shape (up_along t (layer + 1) rest)) (holds : IsTrue (t.passes layer value best down (up_along t (layer + 1) rest)))
      (follow : (c : ℕ) (target : PlainRow) → slice_get next c ≡ Some target → Member q target.from → StateCovers t.down_shape target.down (t.down layer value down) → Follows t (layer + 1) more (next ∷ news) c target rest) where
    -- the row that the entry names follows the rest
    target_follows : (n : ℕ) (target : PlainRow) → slice_get next n ≡ Some target → NamesRow (entry_for values row.entries value) n → Follows t (layer + 1) more (next ∷ news) n target rest
    target_follows n target is named =
        let received : ReceivesStep t layer values old old_next next row value n = loose.steps value n named in
        let same : received.target ≡ target = same_Some _ _ (sym received.is ∙ is) in
        subst (λ r. Follows t (layer + 1) more (next ∷ news) n r rest) same (follow n received.target received.is (received.comes q leads) (state_along received.covers (revisable.down_steps layer value row.down down wider)))

    -- so the test holds with each up state that covers the exact one
    passes_with : (up : List Prop) → StateCovers t.up_shape up (up_along t (layer + 1) rest) → IsTrue (t.passes layer value best row.down up)
    passes_with up covers = revisable.test layer value best row.down down up (up_along t (layer + 1) rest) wider covers holds

    not_dead : (n : ℕ) (target : PlainRow) → slice_get next n ≡ Some target → Follows t (layer + 1) more (next ∷ news) n target rest → DeadCause t best layer (length more) row value target → ⊥
    not_dead n target is follows (leads_nowhere some none_live) = kept_lives target follows.kept some is none_live
    not_dead n target is follows (test_fails {up = up} has fails) =
        let same : follows.up ≡ up = same_Some _ _ (sym follows.own ∙ has) in
        refuted (passes_with up (subst (λ u. StateCovers t.up_shape u (up_along t (layer + 1) rest)) same follows.covers)) fails

    live_follows : (n : ℕ) → entry_for values row.entries value ≡ Live n → (ups : CoversUp t layer next row value n) → Follows t (layer + 1) more (next ∷ news) n ups.target rest → Follows t layer (values ∷ more) (new ∷ (next ∷ news)) c row (value ∷ rest)
    live_follows n is ups follows =
        let same : follows.up ≡ ups.later = same_Some _ _ (sym follows.own ∙ ups.has) in
        let covers : StateCovers t.up_shape ups.later (up_along t (layer + 1) rest) = subst (λ u. StateCovers t.up_shape u (up_along t (layer + 1) rest)) same follows.covers in
        record {
          kept = keeps_layer at is follows.kept;
          up = ups.up;
          own = ups.own;
          covers = state_along ups.covers (revisable.up_steps layer value ups.later (up_along t (layer + 1) rest) covers);
        }

    -- the entry is neither Gone nor Cut nor Dead
    follows_by : (e : Entry) → entry_for values row.entries value ≡ e → Follows t layer (values ∷ more) (new ∷ (next ∷ news)) c row (value ∷ rest)
    follows_by Gone is = absurd ((loose.gone value).0 is (record { allowed = allowed; to = q; leads = leads }))
    follows_by Cut is = absurd (refuted (passes_with (top_state t.up_shape) (top_covers _ _ shape)) (loose.cut value is))
    follows_by (Dead n) is =
        let dead : IsDeadEnd t best layer (length more) next row value n = loose.dead value n is in
        absurd (not_dead n dead.target dead.is (target_follows n dead.target dead.is (subst (λ e. NamesRow e n) (sym is) by_dead)) dead.cause)
    follows_by (Live n) is =
        let ups : CoversUp t layer next row value n = loose.ups value n is in
        live_follows n is ups (target_follows n ups.target ups.is (subst (λ e. NamesRow e n) (sym is) by_live))

  -- each row of the new layer that comes from the old path's row follows the path
  follows : (layer : ℕ) {values : List (List ℕ)} {domains : List ℕ} {olds : List (List PlainRow)} {new : List PlainRow} {news : List (List PlainRow)} {p : ℕ} {assignment : List ℕ}
      → LayersAreLoose t best layer values domains olds (new ∷ news) → KeepsFrom values olds p assignment → LieIn domains assignment → (down : List Prop) → AcceptsFrom t best layer down assignment
      → (c : ℕ) (row : PlainRow) → slice_get new c ≡ Some row → Member p row.from → StateCovers t.down_shape row.down down → Follows t layer values (new ∷ news) c row assignment
  follows layer (last_is_loose {old = old} {new = new} all) (keeps_last within) lie_none down accepts c row at from wider =
      let loose : LastRowIsLoose t old row = at_place (LastRowIsLoose t old) new c row at all in
      record { kept = keeps_last (slice_get_within new c row at); up = loose.up; own = loose.own; covers = loose.covers }
  follows layer (layer_is_loose {values = values} {more = more} {domain = domain} {old = old} {old_next = old_next} {new = new} {next = next} {news = news} all loose)
      (keeps_layer {c = p} {next = q} {value = value} {rest = rest} {row = origin} is live kept) (lie_more allowed small lie) down (accepts_layer holds accepts) c row at from wider =
      let mine : RowIsLoose t best layer values domain old old_next next (length more) row = at_place (RowIsLoose t best layer values domain old old_next next (length more)) new c row at all in
      let leads : LeadsTo values old old_next row.from value q = record { origin = p; named = from; row = origin; is = is; live = live; there = kept_within kept } in
      follows_by layer values more domain old old_next new next news row mine c value q rest down at wider allowed leads (up_along_shape (layer + 1) lie) holds
      (λ n target there comes covers. follows (layer + 1) loose kept lie (t.down layer value down) accepts n target there comes covers) (entry_for values row.entries value) refl

  -- what the old table keeps, lies in the domains and is accepted, a loose revision keeps
  pub keeps : {values : List (List ℕ)} {domains : List ℕ} {old new : List (List PlainRow)} {assignment : List ℕ}
      → IsLoose t values domains best old new → KeepsFrom values old 0 assignment → LieIn domains assignment → AcceptsFrom t best 0 t.initial_down assignment → KeepsFrom values new 0 assignment
  keeps {values} {domains} {old} {new} {assignment} loose kept lie accepts =
      let begins : Begins t new = loose.begins in
      let rows : LayersAreLoose t best 0 values domains old ((begins.row ∷ []) ∷ begins.layers) = subst (λ table. LayersAreLoose t best 0 values domains old table) begins.one loose.rows in
      let from : Member 0 begins.row.from = subst (λ l. Member 0 l) (sym begins.comes) first in
      subst (λ table. KeepsFrom values table 0 assignment) (sym begins.one) (follows 0 rows kept lie t.initial_down accepts 0 begins.row refl from begins.covers).kept
