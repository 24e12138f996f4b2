-- The opening table fits its shape and keeps all.
use Rattle.std.proofs.Common.{◌≡◌, ℕ, ◌==◌, List, [], ◌∷◌, length, map, replicate, true, refl, sym, subst, inl, inr, arith, All}
use Rattle.std.proofs.lemmas.Bool.{cases_Bool, eq-eqb}
use Rattle.std.proofs.lemmas.List.{length-replicate}
use Rattle.std.proofs.lemmas.List.Elements.{All-cons, All-nil}
use Rattle.hk_kinds.proofs.StateLaws.{HasShape-top}
use Rattle.hk_kinds.specs.Shapes.{HasShape}
use Rattle.hk_kinds.specs.Tops.{top_state}
use Rattle.hk_kinds.specs.declared.kinds.Kind.{Kind}
use Rattle.hk_table.proofs.Members.{Member-cases, Member-members}
use Rattle.hk_table.specs.Fits.{RowFits, LayersFit, last_fits, layer_fits}
use Rattle.hk_table.specs.Keeps.{KeepsFrom, keeps_last, keeps_layer, LieIn, lie_none, lie_more}
use Rattle.hk_table.specs.Members.{Member}
use Rattle.hk_table.specs.Opening.{opening_row, opening_layers}
use Rattle.hk_table.specs.Tables.{entry_for}
use Rattle.hk_table.specs.declared.entries.Entry.TheVariants.{Live}
use Rattle.hk_text.specs.Sets.{members}

-- its rows fit
opening_row_fits : (down up : List Kind) (values : List ℕ) → RowFits down up values (opening_row down up values)
opening_row_fits down up values = record {
  down_shape = HasShape-top down;
  up_shape = λ state is. let same : top_state up ≡ state = cc in subst (λ s. HasShape up s) same (HasShape-top up);
  long = length-replicate (length values) (Live 0);
}

opening_layer_fits : (down up : List Kind) (values : List ℕ) → All (RowFits down up values) (opening_row down up values ∷ [])
opening_layer_fits down up values = All-cons (RowFits down up values) (opening_row down up values) [] (opening_row_fits down up values) (All-nil (RowFits down up values))

-- and so do its layers
pub opening_layers_fit : (down up : List Kind) (layers_values : List (List ℕ)) → LayersFit down up layers_values (opening_layers down up layers_values)
opening_layers_fit down up [] = last_fits (opening_layer_fits down up [])
opening_layers_fit down up (values ∷ more) = layer_fits (opening_layer_fits down up values) (opening_layers_fit down up more)

-- the entry at each value is Live
all_live : (values : List ℕ) (value : ℕ) → Member value values → entry_for values (replicate (length values) (Live 0)) value ≡ Live 0
all_live [] value m = elim m [ ]
all_live (v ∷ values) value m = elim (cases_Bool (v == value)) [
  | inl same ↦ rw same refl
  | inr apart ↦ elim (Member-cases m) [
    | inl is ↦ let same : (v == value) ≡ true = eq-eqb v value (sym is) in cc
    | inr m ↦ rw apart (all_live values value m)
  ]
]

-- values that lie in the sets are kept
pub opening_keeps : (down up : List Kind) {sets values : List ℕ} → LieIn sets values → KeepsFrom (map members sets) (opening_layers down up (map members sets)) 0 values
opening_keeps down up lie_none = keeps_last (omega arith)
opening_keeps down up (lie_more {set = set} {value = value} has within rest) =
    keeps_layer refl (all_live (members set) value (Member-members set value within has)) (opening_keeps down up rest)
