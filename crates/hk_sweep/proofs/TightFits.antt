-- The tight revision fits, keeps within its width, and names rows that are there.
use Rattle.std.proofs.Common.{◌≡◌, ℕ, ℤ, suc, ◌+◌, ◌<◌, ◌≤◌, List, [], ◌∷◌, length, map, All, Some, inl, inr, arith, refl, sym, ap, ◌∙◌, subst}
use Rattle.std.proofs.lemmas.List.{length-map}
use Rattle.std.proofs.lemmas.List.Elements.{All-cons, All-nil}
use Rattle.hk_kinds.specs.Shapes.{HasShape}
use Rattle.hk_kinds.specs.declared.properties.Prop.{Prop}
use Rattle.hk_table.specs.Fits.{RowFits, LayersFit, last_fits, layer_fits}
use Rattle.hk_table.specs.Members.{Member}
use Rattle.hk_table.specs.Tables.{PlainRow, NamesRow, entry_for}
use Rattle.hk_table.specs.declared.entries.Entry.TheVariants.{Live}
use Rattle.hk_layers.specs.Layers.{Half, last_row, up_state}
use Rattle.hk_sweep.specs.Tight.{Layers, first_half, tight, tight_from}
use Rattle.hk_layers.specs.Transitions.{Transitions}
use Rattle.hk_sweep.specs.Widths.{IsWithinWidth, NamesRows, names_last, names_layer, ComesFromRows, AllComeFromRows, come_none, come_layer}
use Rattle.hk_sweep.proofs.Entries.{Lives, entry_at, goes_value, lived, named_at, row_at}
use Rattle.hk_sweep.proofs.Lists.{all_made, get_within, head_or}
use Rattle.hk_sweep.proofs.Rows.{AreShapedHalves, ComesFrom, AllComeFrom, IsFinished, AreFinished, FinishedAt, Receives, finished_by, last_is_finished, row_is_finished, layer_steps, lower_halves, lower_shaped, lower_comes, lower_within, received}
use Rattle.hk_sweep.proofs.Shapes.{AreSmall, KeepsShapes, ForLayers, for_none, for_more}

-- a row of which some was said on the way down
pub comes_from_rows : (old : List PlainRow) (half : Half) (row : PlainRow) → row.from ≡ half.from → ComesFrom old half → ComesFromRows old row
comes_from_rows old half row same h = record {
  some = subst (λ from. 0 < length from) (sym same) h.some;
  there = subst (λ from. All (λ origin. origin < length old) from) (sym same) h.there;
}

module _ (t : Transitions) (keeps : KeepsShapes t) (best : ℤ) (width : ℕ) (some : 0 < width) where
  -- ---- one layer before the last, over the layers below it

  module _ (layer : ℕ) (values : List ℕ) (small : AreSmall values) (more : List (List ℕ)) (domain : ℕ) (domains : List ℕ) (old old_next : List PlainRow) (olds : List (List PlainRow)) (halves : List Half) (shaped : AreShapedHalves t halves) where
    abbrev pub lower : List Half
    lower = lower_halves t keeps best width layer values small domain old old_next some halves shaped

    abbrev pub lower_steps : List (List Prop)
    lower_steps = layer_steps t keeps best width layer values small domain old old_next some halves shaped

    abbrev pub lower_layers : Layers
    lower_layers = tight_from t best width (layer + 1) more domains lower old_next olds

    abbrev pub own_row : Half → PlainRow
    own_row = row_at t best width layer values domain old old_next lower_steps lower_layers.first

    module _ (finished : AreFinished t (length more) lower lower_layers.first) where
      pub own_finished : (half : Half) → IsFinished t (suc (length more)) half (own_row half)
      own_finished half = row_is_finished t keeps best width layer values small domain old old_next lower_steps (length more) lower lower_layers.first finished half (length more)

      pub turn_finished : AreFinished t (suc (length more)) halves (map own_row halves)
      turn_finished = finished_by t (suc (length more)) own_row halves (λ half m. own_finished half)

      pub turn_fits : All (RowFits t.down_shape t.up_shape values) (map own_row halves)
      turn_fits = all_made (RowFits t.down_shape t.up_shape values) own_row halves (λ half m. record {
        down_shape = shaped.each half m;
        up_shape = (own_finished half).up_shape;
        long = length-map values (entry_at t best width layer values domain old old_next lower_steps lower_layers.first half);
      })

      names_below : (half : Half) → Member half halves → (value c : ℕ) → NamesRow (entry_at t best width layer values domain old old_next lower_steps lower_layers.first half value) c → c < length lower_layers.first
      names_below half m value c names =
          let to = named_at t best width layer values domain old old_next lower_steps lower_layers.first half value c names in
          let at = received t keeps best width layer values small domain old old_next some halves shaped lower_layers.first half value c m to in
          omega (arith, get_within lower c at.target at.is, finished.long)

      pub turn_names : All (λ row. All (λ entry. (c : ℕ) → NamesRow entry c → c < length lower_layers.first) row.entries) (map own_row halves)
      turn_names = all_made (λ row. All (λ entry. (c : ℕ) → NamesRow entry c → c < length lower_layers.first) row.entries) own_row halves
          (λ half m. all_made (λ entry. (c : ℕ) → NamesRow entry c → c < length lower_layers.first)
          (entry_at t best width layer values domain old old_next lower_steps lower_layers.first half) values (λ value n c names. names_below half m value c names))

      -- a Live entry at a value, and the row of the next layer that it leads to: as it was on the way down, and finished,
      -- with the up state that the test holds with
      pub record LivesOn (half : Half) (value c : ℕ) : Type 0 where
        pub has : Member value values
        pub lives : Lives t best width layer values domain old old_next lower_steps lower_layers.first half value c
        pub receives : Receives t keeps best width layer values small domain old old_next some halves shaped half value c
        pub there : FinishedAt t (length more) receives.target lower_layers.first c
        pub has_up : there.row.up ≡ Some lives.up

      pub lives_on : (half : Half) → Member half halves → (value c : ℕ) → entry_for values (own_row half).entries value ≡ Live c → LivesOn half value c
      lives_on half m value c live =
          let lives = lived t best width layer values domain old old_next lower_steps lower_layers.first half value c live in
          let receives = received t keeps best width layer values small domain old old_next some halves shaped lower_layers.first half value c m lives.to in
          let there = finished.each c receives.target receives.is in
          record {
            has = goes_value t best width layer values domain old old_next lower_steps lower_layers.first half value lives.to.goes;
            lives = lives;
            receives = receives;
            there = there;
            has_up = ap up_state (sym there.is) ∙ lives.above;
          }

  -- ---- all layers from one on

  pub layers_finished : (layer : ℕ) (values : List (List ℕ)) (domains : List ℕ) (halves : List Half) (old : List PlainRow) (olds : List (List PlainRow)) → ForLayers values domains olds → AreShapedHalves t halves
      → AreFinished t (length values) halves (tight_from t best width layer values domains halves old olds).first
  layers_finished layer _ _ halves old _ for_none shaped = finished_by t 0 (last_row t) halves (λ half m. last_is_finished t keeps half)
  layers_finished layer _ _ halves old _ (for_more {values = values} {more = more} {domain = domain} {domains = domains} {old = old_next} {olds = olds} small rest) shaped =
      turn_finished layer values small more domain domains old old_next olds halves shaped
      (layers_finished (layer + 1) more domains (lower layer values small more domain domains old old_next olds halves shaped) old_next olds rest
      (lower_shaped t keeps best width layer values small domain old old_next some halves shaped))

  -- the rows of the layers below one are finished
  pub lower_finished : (layer : ℕ) (values : List ℕ) (small : AreSmall values) (more : List (List ℕ)) (domain : ℕ) (domains : List ℕ) (old old_next : List PlainRow) (olds : List (List PlainRow)) (halves : List Half) (shaped : AreShapedHalves t halves)
      → ForLayers more domains olds → AreFinished t (length more) (lower layer values small more domain domains old old_next olds halves shaped) (lower_layers layer values small more domain domains old old_next olds halves shaped).first
  lower_finished layer values small more domain domains old old_next olds halves shaped rest =
      layers_finished (layer + 1) more domains (lower layer values small more domain domains old old_next olds halves shaped) old_next olds rest
      (lower_shaped t keeps best width layer values small domain old old_next some halves shaped)

  -- what the layers are, first and rest
  abbrev pub layers_of : Layers → List (List PlainRow)
  layers_of layers = layers.first ∷ layers.rest

  last_rows_fit : (halves : List Half) → AreShapedHalves t halves → All (RowFits t.down_shape t.up_shape []) (map (last_row t) halves)
  last_rows_fit halves shaped = all_made (RowFits t.down_shape t.up_shape []) (last_row t) halves
      (λ half m. record { down_shape = shaped.each half m; up_shape = (last_is_finished t keeps half).up_shape; long = refl })

  pub layers_fit : (layer : ℕ) (values : List (List ℕ)) (domains : List ℕ) (halves : List Half) (old : List PlainRow) (olds : List (List PlainRow)) → ForLayers values domains olds → AreShapedHalves t halves
      → LayersFit t.down_shape t.up_shape values (layers_of (tight_from t best width layer values domains halves old olds))
  layers_fit layer _ _ halves old _ for_none shaped = last_fits (last_rows_fit halves shaped)
  layers_fit layer _ _ halves old _ (for_more {values = values} {more = more} {domain = domain} {domains = domains} {old = old_next} {olds = olds} small rest) shaped =
      layer_fits
      (turn_fits layer values small more domain domains old old_next olds halves shaped (lower_finished layer values small more domain domains old old_next olds halves shaped rest))
      (layers_fit (layer + 1) more domains (lower layer values small more domain domains old old_next olds halves shaped) old_next olds rest
      (lower_shaped t keeps best width layer values small domain old old_next some halves shaped))

  pub layers_name_rows : (layer : ℕ) (values : List (List ℕ)) (domains : List ℕ) (halves : List Half) (old : List PlainRow) (olds : List (List PlainRow)) → ForLayers values domains olds → AreShapedHalves t halves
      → NamesRows (layers_of (tight_from t best width layer values domains halves old olds))
  layers_name_rows layer _ _ halves old _ for_none shaped = names_last
  layers_name_rows layer _ _ halves old _ (for_more {values = values} {more = more} {domain = domain} {domains = domains} {old = old_next} {olds = olds} small rest) shaped =
      names_layer
      (turn_names layer values small more domain domains old old_next olds halves shaped (lower_finished layer values small more domain domains old old_next olds halves shaped rest))
      (layers_name_rows (layer + 1) more domains (lower layer values small more domain domains old old_next olds halves shaped) old_next olds rest
      (lower_shaped t keeps best width layer values small domain old old_next some halves shaped))

  pub layers_within : (layer : ℕ) (values : List (List ℕ)) (domains : List ℕ) (halves : List Half) (old : List PlainRow) (olds : List (List PlainRow)) → ForLayers values domains olds → AreShapedHalves t halves → length halves ≤ width
      → IsWithinWidth width (layers_of (tight_from t best width layer values domains halves old olds))
  layers_within layer _ _ halves old _ for_none shaped within =
      All-cons (λ rows. length rows ≤ width) (map (last_row t) halves) [] (omega (arith, length-map halves (last_row t))) (All-nil (λ rows. length rows ≤ width))
  layers_within layer _ _ halves old _ (for_more {values = values} {more = more} {domain = domain} {domains = domains} {old = old_next} {olds = olds} small rest) shaped within =
      let own = own_row layer values small more domain domains old old_next olds halves shaped in
      All-cons (λ rows. length rows ≤ width) (map own halves) (layers_of (lower_layers layer values small more domain domains old old_next olds halves shaped)) (omega (arith, length-map halves own))
      (layers_within (layer + 1) more domains (lower layer values small more domain domains old old_next olds halves shaped) old_next olds rest
      (lower_shaped t keeps best width layer values small domain old old_next some halves shaped) (lower_within t keeps best width layer values small domain old old_next some halves shaped))

  pub layers_come : (layer : ℕ) (values : List (List ℕ)) (domains : List ℕ) (halves : List Half) (old : List PlainRow) (olds : List (List PlainRow)) → ForLayers values domains olds → AreShapedHalves t halves → AllComeFrom old halves
      → AllComeFromRows (old ∷ olds) (layers_of (tight_from t best width layer values domains halves old olds))
  layers_come layer _ _ halves old _ for_none shaped come =
      come_layer (all_made (ComesFromRows old) (last_row t) halves (λ half m. comes_from_rows old half (last_row t half) refl (come.each half m))) come_none
  layers_come layer _ _ halves old _ (for_more {values = values} {more = more} {domain = domain} {domains = domains} {old = old_next} {olds = olds} small rest) shaped come =
      let own = own_row layer values small more domain domains old old_next olds halves shaped in
      come_layer
      (all_made (ComesFromRows old) own halves (λ half m. comes_from_rows old half (own half) refl (come.each half m)))
      (layers_come (layer + 1) more domains (lower layer values small more domain domains old old_next olds halves shaped) old_next olds rest
      (lower_shaped t keeps best width layer values small domain old old_next some halves shaped) (lower_comes t keeps best width layer values small domain old old_next some halves shaped))

  -- ---- the whole table

  pub first_shaped : AreShapedHalves t (first_half t ∷ [])
  first_shaped = record {
    each = λ half m. elim (head_or half (first_half t) [] m) [ inl same ↦ subst (λ (h : Half). HasShape t.down_shape h.down) (sym same) keeps.initial_down | inr none ↦ elim none [ ] ];
  }

  first_comes_from : (row : PlainRow) (rows : List PlainRow) → ComesFrom (row ∷ rows) (first_half t)
  first_comes_from row rows = record { some = omega arith; ascend = λ k within. absurd (omega arith); there = All-cons (λ origin. origin < length (row ∷ rows)) 0 [] (omega arith) (All-nil (λ origin. origin < length (row ∷ rows))) }

  pub first_comes : (row : PlainRow) (rows : List PlainRow) → AllComeFrom (row ∷ rows) (first_half t ∷ [])
  first_comes row rows = record {
    each = λ half m. elim (head_or half (first_half t) [] m) [ inl same ↦ subst (ComesFrom (row ∷ rows)) (sym same) (first_comes_from row rows) | inr none ↦ elim none [ ] ];
  }

  module _ (values : List (List ℕ)) (domains : List ℕ) (old : List PlainRow) (olds : List (List PlainRow)) (for : ForLayers values domains olds) where
    pub tight_fits : LayersFit t.down_shape t.up_shape values (tight t values domains best width (old ∷ olds))
    tight_fits = layers_fit 0 values domains (first_half t ∷ []) old olds for first_shaped

    pub tight_within : IsWithinWidth width (tight t values domains best width (old ∷ olds))
    tight_within = layers_within 0 values domains (first_half t ∷ []) old olds for first_shaped (omega arith)

    pub tight_names_rows : NamesRows (tight t values domains best width (old ∷ olds))
    tight_names_rows = layers_name_rows 0 values domains (first_half t ∷ []) old olds for first_shaped

  pub tight_comes : (values : List (List ℕ)) (domains : List ℕ) (row : PlainRow) (rows : List PlainRow) (olds : List (List PlainRow)) → ForLayers values domains olds → AllComeFromRows ((row ∷ rows) ∷ olds) (tight t values domains best width ((row ∷ rows) ∷ olds))
  tight_comes values domains row rows olds for = layers_come 0 values domains (first_half t ∷ []) (row ∷ rows) olds for first_shaped (first_comes row rows)
