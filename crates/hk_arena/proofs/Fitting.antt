-- What cells hold fits what the form is made for.
use Rattle.std.proofs.Common.{◌≡◌, ℕ, suc, ◌+◌, ◌==◌, ◌<◌, ◌≤◌, Bool, true, false, cond, List, [], ◌∷◌, length, get_or, None, Some, ◌∙◌, ap, subst, inl, inr, arith, All}
use Rattle.std.proofs.lemmas.Bool.{cases_lt}
use Rattle.std.proofs.lemmas.List.{length-map}
use Rattle.hk_kinds.specs.Limits.{IsWithinLimit}
use Rattle.hk_kinds.specs.Sets.{IsSet}
use Rattle.hk_kinds.specs.Shapes.{HasShape}
use Rattle.hk_kinds.specs.declared.kinds.Kind.{Kind}
use Rattle.hk_kinds.specs.declared.properties.Prop.{Prop}
use Rattle.hk_table.specs.Fits.{RowFits, LayersFit, last_fits, layer_fits, Fits}
use Rattle.hk_table.specs.Tables.{PlainRow, layer_values}
use Rattle.hk_text.specs.Sets.{members}
use Rattle.hk_trail.specs.Pools.{Content}
use Rattle.hk_arena.proofs.Framing.{length-rows_of, rows_of-past}
use Rattle.hk_arena.proofs.Listing.{All-listed}
use Rattle.hk_arena.proofs.Parts.{length-part, All-part}
use Rattle.hk_arena.proofs.Places.{words_within}
use Rattle.hk_arena.proofs.Properties.{state_fits}
use Rattle.hk_arena.specs.Diagrams.{rows_of, values_of}
use Rattle.hk_arena.specs.Cells.{listed, entry_of, rest_of, cells_of, row_at, row_count, table_of}
use Rattle.hk_arena.specs.Forms.{Form, layer_count, nums_in, sets_in, row_nums, row_bits, row_words, nums_at, bits_at, words_at}
use Rattle.hk_arena.specs.Kept.{IsKept}
use Rattle.hk_arena.specs.inside.OneRow.{IsPlace}
use Rattle.hk_arena.specs.Properties.{state_at}

length-rest_of : {X : Type 0} (items : List X) (count : ℕ) → length items ≡ 1 + count → length (rest_of items) ≡ count
length-rest_of [] count long = absurd (omega arith)
length-rest_of (first ∷ items) count long = omega arith

-- a state that is there or not is the one that is given, where it is there
given_state : (test : Bool) (given state : List Prop) → cond test None (Some given) ≡ Some state → given ≡ state
given_state true given state is = cc
given_state false given state is = cc

-- a row of the form has the shapes of its states, and an entry for each value, whether it is there or not
pub row_fits : (form : Form) (content : Content) (layer at : ℕ) → IsKept form content → IsPlace form layer at → RowFits form.shape.down form.shape.up (values_of form.shape layer) (row_at form content layer at)
unfolding row_at
row_fits form content layer at kept place =
    let cells = cells_of form content layer at in
    let limits = All-part IsWithinLimit (nums_at form layer at) (row_nums form) content.nums kept.limits in
    let sets = All-part IsSet (bits_at form layer at) (row_bits form) content.bits kept.sets in
    record {
      down_shape = state_fits form.shape.down 0 2 cells.nums cells.bits limits sets;
      up_shape = λ state is.
          let up = state_at form.shape.up (nums_in form.shape.down) (2 + sets_in form.shape.down) cells.nums cells.bits in
          subst (HasShape form.shape.up) (given_state (get_or cells.words 0 0 == 0) up state is)
          (state_fits form.shape.up (nums_in form.shape.down) (2 + sets_in form.shape.down) cells.nums cells.bits limits sets);
      long =
          let within = words_within form layer at place in
          length-map (rest_of cells.words) entry_of
          ∙ length-rest_of cells.words (length (values_of form.shape layer)) (length-part (words_at form layer at) (row_words form layer) content.words (omega (arith, kept.words)));
    }

-- no layer has more rows than the width
pub few_rows : (form : Form) (content : Content) (layer : ℕ) → IsKept form content → length (rows_of (table_of form content) layer) ≤ form.width
few_rows form content layer kept = elim (cases_lt layer (layer_count form)) [
  | inl within ↦ let long = length-rows_of form content layer within in let few = kept.counts layer within in omega arith
  | inr past ↦ let none = ap length (rows_of-past form content layer past) in omega arith
]

-- layers whose rows fit
layers_fit : (down up : List Kind) (values : List (List ℕ)) (layers : ℕ → List PlainRow) → ((layer : ℕ) → layer < suc (length values) → All (RowFits down up (get_or values layer [])) (layers layer)) → LayersFit down up values (listed (suc (length values)) layers)
layers_fit down up [] layers all = last_fits (all 0 (omega arith))
layers_fit down up (first ∷ values) layers all = layer_fits (all 0 (omega arith)) (layers_fit down up values (λ layer. layers (suc layer)) (λ layer below. all (suc layer) (omega arith)))

-- the table fits
pub table_fits : (form : Form) (content : Content) → IsKept form content → Fits form.shape (table_of form content)
unfolding table_of
table_fits form content kept =
    let values = layer_values form.shape in
    let count : length values ≡ length form.shape.domains = length-map form.shape.domains members in
    let layers : ℕ → List PlainRow = λ layer. listed (row_count content layer) (row_at form content layer) in
    subst (λ n. LayersFit form.shape.down form.shape.up values (listed (suc n) layers)) count
    (layers_fit form.shape.down form.shape.up values layers (λ layer below.
    All-listed (RowFits form.shape.down form.shape.up (get_or values layer [])) (row_count content layer) (row_at form content layer) (λ at within.
    let few = kept.counts layer (omega arith) in
    row_fits form content layer at kept (record { layer_within = omega arith; row_within = omega arith }))))
