-- The tight revision of a table whose first layer has a row is a loose revision of it.
use Rattle.std.proofs.Common.{◌≡◌, ℕ, ℤ, ◌+◌, ◌<◌, List, [], ◌∷◌, length, All, None, refl, sym, ap, ◌∙◌, subst}
use Rattle.std.specs.List.Sorted.{IsStrictlyIncreasing}
use Rattle.hk_kinds.specs.Covers.{StateCovers}
use Rattle.hk_kinds.specs.declared.properties.Prop.{Prop}
use Rattle.hk_table.specs.Members.{Member}
use Rattle.hk_table.specs.Tables.{PlainRow, entry_for}
use Rattle.hk_table.specs.declared.entries.Entry.TheVariants.{Live}
use Rattle.hk_sweep.specs.Loose.{ReceivesStep, leads_nowhere, test_fails, IsDeadEnd, CoversUp, Begins, Comes, RowIsLoose, LastRowIsLoose, LayersAreLoose, last_is_loose, layer_is_loose, IsLoose}
use Rattle.hk_layers.specs.Layers.{Half, last_row, up_state}
use Rattle.hk_sweep.specs.Tight.{first_half, tight, tight_from}
use Rattle.hk_layers.specs.Transitions.{Transitions}
use Rattle.hk_sweep.proofs.Entries.{Dies, dies_nowhere, dies_by_test, GoesTo, died, entry_at, goes_value, is_gone_where, lived, named, was_cut, was_gone}
use Rattle.hk_sweep.proofs.Joins.{covers_itself}
use Rattle.hk_sweep.proofs.Lists.{all_made, get_within, only_one}
use Rattle.hk_sweep.proofs.Marks.{leads_target, live_made}
use Rattle.hk_sweep.proofs.Rows.{AreShapedHalves, ComesFrom, AllComeFrom, AreFinished, live_covered, lower_shaped, lower_comes, received}
use Rattle.hk_sweep.proofs.Shapes.{AreSmall, KeepsShapes, ForLayers, for_none, for_more}
use Rattle.hk_sweep.proofs.TightFits.{first_comes, first_shaped, layers_finished, layers_of, lower, lower_finished, lower_layers, lower_steps, own_row, tight_fits}
use Rattle.hk_sweep.proofs.Ups.{has_up}

-- the rows that a row of the way down comes from, as the rules ask
comes_of : (old : List PlainRow) (half : Half) (row : PlainRow) → row.from ≡ half.from → ComesFrom old half → Comes old row
comes_of old half row same h = record {
  ascend = subst IsStrictlyIncreasing (sym same) h.ascend;
  there = subst (λ from. All (λ origin. origin < length old) from) (sym same) h.there;
}

module _ (t : Transitions) (keeps : KeepsShapes t) (best : ℤ) (width : ℕ) (some : 0 < width) where
  -- ---- the rules of one row of a layer before the last, over the layers below it

  module _ (layer : ℕ) (values : List ℕ) (small : AreSmall values) (more : List (List ℕ)) (domain : ℕ) (domains : List ℕ) (old old_next : List PlainRow) (olds : List (List PlainRow)) (halves : List Half) (shaped : AreShapedHalves t halves)
      (finished : AreFinished t (length more) (lower t keeps best width some layer values small more domain domains old old_next olds halves shaped) (lower_layers t keeps best width some layer values small more domain domains old old_next olds halves shaped).first)
      (half : Half) (stands : Member half halves) (comes : ComesFrom old half) where
    abbrev next : List PlainRow
    next = (lower_layers t keeps best width some layer values small more domain domains old old_next olds halves shaped).first

    abbrev steps : List (List Prop)
    steps = lower_steps t keeps best width some layer values small more domain domains old old_next olds halves shaped

    abbrev row : PlainRow
    row = own_row t keeps best width some layer values small more domain domains old old_next olds halves shaped half

    abbrev IsTo : ℕ → ℕ → Type 0
    IsTo value c = GoesTo t best width layer values domain old old_next steps next half value c

    -- rule 5, and the second half of rule 2
    receives : (value c : ℕ) → IsTo value c → ReceivesStep t layer values old old_next next row value c
    receives value c to =
        let at = received t keeps best width layer values small domain old old_next some halves shaped next half value c stands to in
        let there = finished.each c at.target at.is in
        record {
          target = there.row;
          is = there.is;
          comes = λ other leads. subst (Member other) (sym there.finished.from) (at.comes other (leads_target values old old_next half.from value other leads) leads.there);
          covers = subst (λ down. StateCovers t.down_shape down (t.down layer value half.down)) (sym there.finished.down) at.covers;
        }

    names_next : (value c : ℕ) → IsTo value c → c < length next
    names_next value c to = let at = receives value c to in get_within next c at.target at.is

    -- rule 6
    dead_end : (value c : ℕ) → Dies t best width layer values domain old old_next steps next half value c → IsDeadEnd t best layer (length more) next row value c
    dead_end value c (dies_nowhere to above) =
        let at = received t keeps best width layer values small domain old old_next some halves shaped next half value c stands to in
        let there = finished.each c at.target at.is in
        let none : there.row.up ≡ None = ap up_state (sym there.is) ∙ above in
        record { target = there.row; is = there.is; cause = leads_nowhere (there.finished.before_last none) (there.finished.no_live none) }
    dead_end value c (dies_by_test {up = up} to above fails) =
        let has = has_up next c up above in
        record { target = has.row; is = has.is; cause = test_fails has.has fails }

    -- rule 7
    covers_up : (value c : ℕ) → entry_for values row.entries value ≡ Live c → CoversUp t layer next row value c
    covers_up value c live =
        let lives = lived t best width layer values domain old old_next steps next half value c live in
        let has = goes_value t best width layer values domain old old_next steps next half value lives.to.goes in
        let made = live_made values (entry_at t best width layer values domain old old_next steps next half) value c live in
        let covered = live_covered t keeps best width layer values small domain old old_next steps (length more)
        (lower t keeps best width some layer values small more domain domains old old_next olds halves shaped) next finished half value c has lives made in
        let above = has_up next c lives.up lives.above in
        record { up = covered.own; own = covered.is; target = above.row; is = above.is; later = lives.up; has = above.has; covers = covered.covers }

    pub row_is_loose : RowIsLoose t best layer values domain old old_next next (length more) row
    row_is_loose = record {
      comes = comes_of old half row refl comes;
      names = λ value c h. names_next value c (named t best width layer values domain old old_next steps next half value c h);
      gone = λ value. (was_gone t best width layer values domain old old_next steps next half value, is_gone_where t best width layer values domain old old_next steps next half value);
      cut = λ value is. was_cut t best width layer values domain old old_next steps next half value is;
      steps = λ value c h. receives value c (named t best width layer values domain old old_next steps next half value c h);
      dead = λ value c is. dead_end value c (died t best width layer values domain old old_next steps next half value c is);
      ups = covers_up;
    }

  last_row_is_loose : (old : List PlainRow) (half : Half) → ComesFrom old half → LastRowIsLoose t old (last_row t half)
  last_row_is_loose old half comes = record { comes = comes_of old half (last_row t half) refl comes; up = t.initial_up; own = refl; covers = covers_itself t.up_shape t.initial_up keeps.initial_up }

  -- ---- all layers from one on

  pub layers_are_loose : (layer : ℕ) (values : List (List ℕ)) (domains : List ℕ) (halves : List Half) (old : List PlainRow) (olds : List (List PlainRow)) → ForLayers values domains olds → AreShapedHalves t halves → AllComeFrom old halves
      → LayersAreLoose t best layer values domains (old ∷ olds) (layers_of t keeps best width some (tight_from t best width layer values domains halves old olds))
  layers_are_loose layer _ _ halves old _ for_none shaped come =
      last_is_loose (all_made (LastRowIsLoose t old) (last_row t) halves (λ half m. last_row_is_loose old half (come.each half m)))
  layers_are_loose layer _ _ halves old _ (for_more {values = values} {more = more} {domain = domain} {domains = domains} {old = old_next} {olds = olds} small rest) shaped come =
      let finished = lower_finished t keeps best width some layer values small more domain domains old old_next olds halves shaped rest in
      let next = (lower_layers t keeps best width some layer values small more domain domains old old_next olds halves shaped).first in
      layer_is_loose
      (all_made (RowIsLoose t best layer values domain old old_next next (length more)) (own_row t keeps best width some layer values small more domain domains old old_next olds halves shaped) halves
      (λ half m. row_is_loose layer values small more domain domains old old_next olds halves shaped finished half m (come.each half m)))
      (layers_are_loose (layer + 1) more domains (lower t keeps best width some layer values small more domain domains old old_next olds halves shaped) old_next olds rest
      (lower_shaped t keeps best width layer values small domain old old_next some halves shaped) (lower_comes t keeps best width layer values small domain old old_next some halves shaped))

  -- ---- the whole table

  module _ (values : List (List ℕ)) (domains : List ℕ) (old : List PlainRow) (olds : List (List PlainRow)) (for : ForLayers values domains olds) where
    pub tight_begins : Begins t (tight t values domains best width (old ∷ olds))
    tight_begins =
        let layers = tight_from t best width 0 values domains (first_half t ∷ []) old olds in
        let finished = layers_finished t keeps best width some 0 values domains (first_half t ∷ []) old olds for (first_shaped t keeps best width some) in
        let at = finished.each 0 (first_half t) refl in
        let one : layers.first ≡ at.row ∷ [] = only_one layers.first at.row finished.long at.is in
        record {
          row = at.row;
          layers = layers.rest;
          one = ap (λ rows. rows ∷ layers.rest) one;
          comes = at.finished.from;
          covers = subst (λ down. StateCovers t.down_shape down t.initial_down) (sym at.finished.down) (covers_itself t.down_shape t.initial_down keeps.initial_down);
        }

  pub tight_is_loose : (values : List (List ℕ)) (domains : List ℕ) (row : PlainRow) (rows : List PlainRow) (olds : List (List PlainRow)) → ForLayers values domains olds
      → IsLoose t values domains best ((row ∷ rows) ∷ olds) (tight t values domains best width ((row ∷ rows) ∷ olds))
  tight_is_loose values domains row rows olds for = record {
    fits = tight_fits t keeps best width some values domains (row ∷ rows) olds for;
    begins = tight_begins values domains (row ∷ rows) olds for;
    rows = layers_are_loose 0 values domains (first_half t ∷ []) (row ∷ rows) olds for (first_shaped t keeps best width some) (first_comes t keeps best width some row rows);
  }
