-- The table that a tight revision makes can be told: its rows come from some rows, and name rows that are there.
use Rattle.std.proofs.Common.{◌≡◌, ℕ, ℤ, ◌+◌, ◌<◌, ◌≤◌, List, [], ◌∷◌, length, get_or, map, All, inl, inr, arith, refl, sym, ap, ◌∙◌, subst}
use Rattle.std.proofs.lemmas.List.Elements.{All-cons, All-nil, All-head, All-tail, All-from_get_or}
use Rattle.std.specs.Prelude.{Result, Ok, Err, OnOk}
use Rattle.hk_arena.specs.Diagrams.{rows_of}
use Rattle.hk_group.specs.Groups.{PlainGroup, IsGroup}
use Rattle.hk_layers.specs.Layers.{Half, last_row}
use Rattle.hk_layers.specs.Transitions.{Transitions, transitions_of, layer_sets}
use Rattle.hk_sweep.specs.Loose.{group_shape}
use Rattle.hk_sweep.specs.Tight.{first_half, tight, tight_revision}
use Rattle.hk_sweep.specs.Widths.{ComesFromRows, AllComeFromRows, come_none, come_layer}
use Rattle.hk_sweep.proofs.Lists.{all_made, head_or}
use Rattle.hk_sweep.proofs.Rows.{lower_comes, lower_shaped}
use Rattle.hk_sweep.proofs.Shapes.{KeepsShapes, ForLayers, for_none, for_more, for_group, group_keeps_shapes, layer_sets_long}
use Rattle.hk_sweep.proofs.TightFits.{first_shaped, layers_come, layers_of, lower, lower_layers, own_row}
use Rattle.hk_sweep.proofs.TightGroups.{group_names_rows}
use Rattle.hk_table.specs.Fits.{Fits}
use Rattle.hk_table.specs.Tables.{PlainRow, layer_values}
use Rattle.hk_prop.specs.Contents.{PlainTable}
use Rattle.hk_prop.specs.inside.Revised.{ComesFromSome, IsTellable}
use Rattle.hk_prop.proofs.TableRows.{table_long}

-- rows that come from rows of a small layer
few_rows : (old : List PlainRow) → length old ≤ 256 → (new : List PlainRow) → All (ComesFromRows old) new → All ComesFromSome new
few_rows old small new come k d within =
    let row = come k d within in
    record { some = row.some; small = λ i e inside. let there : get_or (get_or new k d).from i e < length old = row.there i e inside in omega (arith, small, there) }

AreSome : List PlainRow → Type 0
AreSome layer = All ComesFromSome layer

all_few : {olds news : PlainTable} → All (λ (layer : List PlainRow). length layer ≤ 256) olds → AllComeFromRows olds news → All (λ (layer : List PlainRow). All ComesFromSome layer) news
all_few small come_none = All-nil (λ (layer : List PlainRow). All ComesFromSome layer)
all_few small (come_layer {old = old} {new = new} {olds = olds} {news = news} rows rest) =
    All-cons (λ (layer : List PlainRow). All ComesFromSome layer) new news
    (few_rows old (All-head (λ (layer : List PlainRow). length layer ≤ 256) old olds small) new rows)
    (all_few (All-tail (λ (layer : List PlainRow). length layer ≤ 256) old olds small) rest)

module _ (t : Transitions) (keeps : KeepsShapes t) (best : ℤ) (width : ℕ) (some : 0 < width) where
  -- what is made of the first row comes from row 0
  first_some : (row_of : Half → PlainRow) → ((half : Half) → (row_of half).from ≡ half.from) → All ComesFromSome (map row_of (first_half t ∷ []))
  first_some row_of same = all_made ComesFromSome row_of (first_half t ∷ []) (λ half m. elim (head_or half (first_half t) [] m) [
    | inl is ↦
        let from : (row_of half).from ≡ 0 ∷ [] = same half ∙ ap (λ (h : Half). h.from) is in
        record {
          some = subst (λ rows. 0 < length rows) (sym from) (omega arith);
          small = subst (λ rows. All (λ origin. origin < 256) rows) (sym from) (All-cons (λ origin. origin < 256) 0 [] (omega arith) (All-nil (λ origin. origin < 256)));
        }
    | inr none ↦ elim none [ ]
  ])

  tight_some : (values : List (List ℕ)) (domains : List ℕ) (old : List PlainRow) (olds : PlainTable) → ForLayers values domains olds → All (λ (layer : List PlainRow). length layer ≤ 256) olds
      → All (λ (layer : List PlainRow). All ComesFromSome layer) (tight t values domains best width (old ∷ olds))
  tight_some _ _ old _ for_none small = All-cons (λ (layer : List PlainRow). All ComesFromSome layer) (map (last_row t) (first_half t ∷ [])) [] (first_some (last_row t) (λ half. refl)) (All-nil (λ (layer : List PlainRow). All ComesFromSome layer))
  tight_some _ _ old _ (for_more {values = values} {more = more} {domain = domain} {domains = domains} {old = old_next} {olds = olds} within rest) small =
      let halves : List Half = first_half t ∷ [] in
      let shaped = first_shaped t keeps best width some in
      let own = own_row t keeps best width some 0 values within more domain domains old old_next olds halves shaped in
      let below = lower t keeps best width some 0 values within more domain domains old old_next olds halves shaped in
      All-cons (λ (layer : List PlainRow). All ComesFromSome layer) (map own halves) (layers_of t keeps best width some (lower_layers t keeps best width some 0 values within more domain domains old old_next olds halves shaped))
      (first_some own (λ half. refl))
      (all_few small
      (layers_come t keeps best width some 1 more domains below old_next olds rest
      (lower_shaped t keeps best width 0 values within domain old old_next some halves shaped) (lower_comes t keeps best width 0 values within domain old old_next some halves shaped)))

-- the table of a group
pub tight_tellable : (g : PlainGroup) (sets domains : List ℕ) (best : ℤ) (width : ℕ) (old : PlainTable) → IsGroup g → 0 < width → length old ≡ length g.vars + 1 → All (λ (layer : List PlainRow). length layer ≤ 256) old
    → IsTellable (tight_revision g sets domains best width old)
tight_tellable g sets domains best width [] rules some long small = absurd (omega arith)
tight_tellable g sets domains best width (old ∷ olds) rules some long small = record {
  names = group_names_rows g sets domains best width (old ∷ olds) rules some long;
  comes = tight_some (transitions_of g) (group_keeps_shapes g rules) best width some (layer_values (group_shape g sets)) (layer_sets g domains) old olds (for_group g sets domains old olds long)
      (All-tail (λ (layer : List PlainRow). length layer ≤ 256) old olds small);
}

-- after a revision that wasn't refused
pub revised_tellable : {X E : Type 0} (result : Result X E) (g : PlainGroup) (sets domains : List ℕ) (best : ℤ) (width : ℕ) (old new : PlainTable) → IsGroup g → 0 < width → Fits (group_shape g sets) old → ((layer : ℕ) → length (rows_of old layer) ≤ 256)
    → OnOk result (new ≡ tight_revision g sets domains best width old) → OnOk result (IsTellable new)
revised_tellable (Err e) g sets domains best width old new rules some fits few is = tt
revised_tellable (Ok x) g sets domains best width old new rules some fits few is =
    let long : length old ≡ length g.vars + 1 = omega (arith, table_long (group_shape g sets) old fits, layer_sets_long g sets) in
    subst IsTellable (sym is) (tight_tellable g sets domains best width old rules some long (All-from_get_or (λ (layer : List PlainRow). length layer ≤ 256) old [] (λ layer within. few layer)))
