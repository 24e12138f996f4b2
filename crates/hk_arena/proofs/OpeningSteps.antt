-- A diagram on its way to the opening table.
use Rattle.std.proofs.Common.{◌≡◌, ◌≢◌, ℕ, zero, suc, ◌+◌, ◌<◌, ◌≤◌, List, [], ◌∷◌, ◌++◌, None, Some, length, get_or, set, drop, replicate, refl, sym, ◌∙◌, ap, ap₂, subst, inl, inr, arith, add-one}
use Rattle.std.proofs.lemmas.Bool.{cases_eq}
use Rattle.std.proofs.lemmas.List.{append-nil, drop_all, ext_get_or, length-map}
use Rattle.hk_kinds.proofs.StateLaws.{HasShape-top}
use Rattle.hk_kinds.specs.Shapes.{HasShape}
use Rattle.hk_kinds.specs.Tops.{top_state}
use Rattle.hk_kinds.specs.declared.kinds.Kind.{Kind}
use Rattle.hk_kinds.specs.declared.properties.Prop.{Prop}
use Rattle.hk_table.specs.Opening.{opening_layers, opening_row, opening_table}
use Rattle.hk_table.specs.Tables.{PlainRow, PlainShape, layer_values}
use Rattle.hk_table.specs.declared.entries.Entry.{Entry}
use Rattle.hk_table.specs.declared.entries.Entry.TheVariants.{Live}
use Rattle.hk_text.specs.Sets.{members}
use Rattle.hk_trail.specs.Places.{on_highest}
use Rattle.hk_arena.proofs.RowChanges.{with_row-twice, with_row-alike, with_row-none, rows_of-with_row, rows_of-with_row_other, length-with_row}
use Rattle.hk_arena.specs.Changes.{changed, with_row, with_entry, with_down, with_up, with_from, IsResized}
use Rattle.hk_arena.specs.Diagrams.{DiagramLevels, IsRow, row_in, rows_of, values_of}
use Rattle.hk_arena.specs.Numbers.{IsRaised}
use Rattle.hk_arena.specs.declared.ids.RowId.{RowId}
use Rattle.hk_arena.specs.inside.Openings.{IsOpening, live_row, opened_row}

-- ---- what else a call changes

-- where no push is open a call changes the table alone
pub table_alone : (most : ℕ) (old new : DiagramLevels) → IsRaised most old.numbers new.numbers → old.numbers ≡ [] → new ≡ record old { table = new.table; numbers = new.numbers } → new ≡ record old { table = new.table }
table_alone most old new raised closed others =
    let none : new.numbers ≡ old.numbers = raised.numbers ∙ ap (on_highest (λ number. number + raised.more)) closed ∙ sym closed in
    others ∙ ap (λ numbers. record old { table = new.table; numbers = numbers }) none

pub table_alone-trans : (old middle new : DiagramLevels) → middle ≡ record old { table = middle.table } → new ≡ record middle { table = new.table } → new ≡ record old { table = new.table }
table_alone-trans old middle new first second = second ∙ ap (λ (d : DiagramLevels). record d { table = new.table }) first

-- ---- one row

pub opened_row_is : (row : RowId) (down up : List Prop) (t0 t1 t2 t3 : List (List PlainRow)) → t1 ≡ with_row row (with_down down) t0 → t2 ≡ with_row row (with_up (Some up)) t1 → t3 ≡ with_row row (with_from (0 ∷ [])) t2 → t3 ≡ with_row row (opened_row down up) t0
opened_row_is row down up t0 t1 t2 t3 first second third =
    third
    ∙ ap (with_row row (with_from (0 ∷ []))) (second ∙ ap (with_row row (with_up (Some up))) first ∙ with_row-twice row t0 (with_down down) (with_up (Some up)))
    ∙ with_row-twice row t0 (λ r. with_up (Some up) (with_down down r)) (with_from (0 ∷ []))

-- a row whose first entries are Live ones that name row 0
abbrev pub filled : ℕ → PlainRow → PlainRow
filled count row = record row { entries = replicate count (Live 0) ++ drop count row.entries }

filled_suc : (count : ℕ) (entries : List Entry) → count < length entries → set (replicate count (Live 0) ++ drop count entries) count (Live 0) ≡ replicate (suc count) (Live 0) ++ drop (suc count) entries
filled_suc count [] within = absurd (omega arith)
filled_suc zero (entry ∷ entries) within = refl
filled_suc (suc count) (entry ∷ entries) within = ap (λ more. Live 0 ∷ more) (filled_suc count entries (omega arith))

module _ (row : RowId) (table : List (List PlainRow)) where
  pub filled_none : table ≡ with_row row (filled 0) table
  filled_none = sym (with_row-none row table (filled 0) refl)

  pub filled_more : (count : ℕ) (old new : List (List PlainRow)) → count < length (row_in table row).entries → old ≡ with_row row (filled count) table → new ≡ with_row row (with_entry count (Live 0)) old → new ≡ with_row row (filled (count + 1)) table
  filled_more count old new within so_far entry =
      let entries = (row_in table row).entries in
      let more : set (replicate count (Live 0) ++ drop count entries) count (Live 0) ≡ replicate (count + 1) (Live 0) ++ drop (count + 1) entries = rw (add-one count) (filled_suc count entries within) in
      entry
      ∙ ap (with_row row (with_entry count (Live 0))) so_far
      ∙ with_row-twice row table (filled count) (with_entry count (Live 0))
      ∙ with_row-alike row table (λ r. with_entry count (Live 0) (filled count r)) (filled (count + 1)) (ap (λ es. record (row_in table row) { entries = es }) more)

  pub filled_all : (count : ℕ) → length (row_in table row).entries ≤ count → with_row row (filled count) table ≡ with_row row (live_row count) table
  filled_all count past =
      let entries = (row_in table row).entries in
      with_row-alike row table (filled count) (live_row count)
      (ap (λ es. record (row_in table row) { entries = es }) (ap (λ es. replicate count (Live 0) ++ es) (drop_all count entries past) ∙ append-nil (replicate count (Live 0))))

-- ---- one layer

-- a layer has one row, this one, and the other layers are as they were
pub record HasOnlyRow (layer : ℕ) (row : PlainRow) (old new : List (List PlainRow)) : Type 0 where
  pub layers : length new ≡ length old
  pub others : (other : ℕ) → other ≢ layer → rows_of new other ≡ rows_of old other
  pub only : rows_of new layer ≡ row ∷ []

single : (rows : List PlainRow) (d : PlainRow) → length rows ≡ 1 → rows ≡ get_or rows 0 d ∷ []
single [] d one = absurd (omega arith)
single (row ∷ []) d one = refl
single (row ∷ other ∷ rows) d one = absurd (omega arith)

pub layer_opened : (shape : PlainShape) (layer count : ℕ) (down up : List Prop) (t0 t1 t2 t3 : List (List PlainRow)) → IsResized shape layer 1 t0 t1 → t2 ≡ with_row (record { layer = layer; at = 0 }) (opened_row down up) t1 → t3 ≡ with_row (record { layer = layer; at = 0 }) (live_row count) t2
    → HasOnlyRow layer (record { down = down; up = Some up; from = 0 ∷ []; entries = replicate count (Live 0) }) t0 t3
layer_opened shape layer count down up t0 t1 t2 t3 resized states entries =
    let row : RowId = record { layer = layer; at = 0 } in
    let first = row_in t1 row in
    let one : rows_of t1 layer ≡ first ∷ [] = single (rows_of t1 layer) (record { down = []; up = None; from = []; entries = [] }) resized.count in
    let there : IsRow t1 row = omega (arith, resized.count) in
    let both : t3 ≡ with_row row (λ r. live_row count (opened_row down up r)) t1 = entries ∙ ap (with_row row (live_row count)) states ∙ with_row-twice row t1 (opened_row down up) (live_row count) in record {
      layers = ap length both ∙ length-with_row row t1 (λ r. live_row count (opened_row down up r)) ∙ resized.layers;
      others = λ other apart. ap (λ t. rows_of t other) both ∙ rows_of-with_row_other row t1 (λ r. live_row count (opened_row down up r)) other apart ∙ resized.others other apart;
      only =
          ap (λ t. rows_of t layer) both
          ∙ rows_of-with_row row t1 (λ r. live_row count (opened_row down up r)) there
          ∙ ap (changed 0 (λ r. live_row count (opened_row down up r))) one;
    }

-- ---- all layers

-- its row, and that its states have the shape
pub opening_row_is : (shape two : PlainShape) (layer : ℕ) (down up : List Prop) → two ≡ shape → down ≡ top_state shape.down → up ≡ top_state shape.up → record { down = down; up = Some up; from = 0 ∷ []; entries = replicate (length (values_of two layer)) (Live 0) } ≡ opening_row shape.down shape.up (values_of shape layer)
opening_row_is shape two layer down up same down_is up_is =
    ap₂ (λ d u. record { down = d; up = Some u; from = 0 ∷ []; entries = replicate (length (values_of two layer)) (Live 0) }) down_is up_is
    ∙ ap (λ s. record { down = top_state shape.down; up = Some (top_state shape.up); from = 0 ∷ []; entries = replicate (length (values_of s layer)) (Live 0) }) same

pub top_fits : (kinds same : List Kind) (state : List Prop) → same ≡ kinds → state ≡ top_state kinds → HasShape same state
top_fits kinds same state same_is is = rw (is, same_is) (HasShape-top kinds)

pub opening_more : (layer : ℕ) (row : PlainRow) (old new : DiagramLevels) → IsOpening layer old → row ≡ opening_row old.shape.down old.shape.up (values_of old.shape layer) → HasOnlyRow layer row old.table new.table → new ≡ record old { table = new.table } → IsOpening (layer + 1) new
opening_more layer row old new opening row_is has others =
    let same : new.shape ≡ old.shape = ap (λ (d : DiagramLevels). d.shape) others in record {
      some_width = subst (λ (d : DiagramLevels). 0 < d.width) (sym others) opening.some_width;
      closed = ap (λ (d : DiagramLevels). d.numbers) others ∙ opening.closed;
      layers = has.layers ∙ opening.layers ∙ ap (λ (s : PlainShape). suc (length s.domains)) (sym same);
      opened = λ l below. elim (cases_eq l layer) [
        | inl here ↦ ap (rows_of new.table) here ∙ has.only ∙ ap (λ r. r ∷ []) (row_is ∙ ap₂ (λ (s : PlainShape) k. opening_row s.down s.up (values_of s k)) (sym same) (sym here))
        | inr apart ↦ has.others l apart ∙ opening.opened l (omega arith) ∙ ap (λ (s : PlainShape). opening_row s.down s.up (values_of s l) ∷ []) (sym same)
      ];
      empty = λ l above. has.others l (omega arith) ∙ opening.empty l (omega arith);
    }

length_opening : (down up : List Kind) (values : List (List ℕ)) → length (opening_layers down up values) ≡ suc (length values)
length_opening down up [] = refl
length_opening down up (first ∷ values) = ap suc (length_opening down up values)

opening_layer : (down up : List Kind) (values : List (List ℕ)) (l : ℕ) → l < suc (length values) → get_or (opening_layers down up values) l [] ≡ opening_row down up (get_or values l []) ∷ []
opening_layer down up [] zero below = refl
opening_layer down up [] (suc l) below = absurd (omega arith)
opening_layer down up (first ∷ values) zero below = refl
opening_layer down up (first ∷ values) (suc l) below = opening_layer down up values l (omega arith)

pub opening_all : (diagram : DiagramLevels) → IsOpening (suc (length diagram.shape.domains)) diagram → diagram.table ≡ opening_table diagram.shape
opening_all diagram opening =
    let shape = diagram.shape in
    let count = length-map shape.domains members in
    ext_get_or [] diagram.table (opening_table shape) (opening.layers ∙ sym (length_opening shape.down shape.up (layer_values shape) ∙ ap suc count))
    (λ l below. opening.opened l (omega (arith, opening.layers)) ∙ sym (opening_layer shape.down shape.up (layer_values shape) l (omega (arith, opening.layers, count))))
