-- The tight revision of a table of a group: it fits, and it is a loose revision where the first layer has a row.
use Rattle.std.proofs.Common.{◌≡◌, ℕ, ℤ, ◌+◌, ◌<◌, List, [], ◌∷◌, length, arith}
use Rattle.hk_group.specs.Groups.{PlainGroup, IsGroup}
use Rattle.hk_table.specs.Fits.{Fits}
use Rattle.hk_table.specs.Tables.{PlainRow, layer_values}
use Rattle.hk_sweep.specs.Loose.{IsLooseRevision, group_shape}
use Rattle.hk_sweep.specs.Tight.{tight_revision}
use Rattle.hk_layers.specs.Transitions.{transitions_of, layer_sets}
use Rattle.hk_sweep.specs.Widths.{HasFirstRow, has_first_row, IsWithinWidth, NamesRows, AllComeFromRows}
use Rattle.hk_sweep.proofs.Shapes.{for_group, group_keeps_shapes}
use Rattle.hk_sweep.proofs.TightFits.{tight_comes, tight_fits, tight_names_rows, tight_within}
use Rattle.hk_sweep.proofs.TightLoose.{tight_is_loose}

module _ (g : PlainGroup) (sets domains : List ℕ) (best : ℤ) (width : ℕ) where
  pub group_is_loose : (old : List (List PlainRow)) → IsGroup g → 0 < width → length old ≡ length g.vars + 1 → HasFirstRow old → IsLooseRevision g sets domains best old (tight_revision g sets domains best width old)
  group_is_loose _ rules some long (has_first_row {row = row} {rows = rows} {layers = olds}) =
      tight_is_loose (transitions_of g) (group_keeps_shapes g rules) best width some (layer_values (group_shape g sets)) (layer_sets g domains) row rows olds (for_group g sets domains (row ∷ rows) olds long)

  pub group_fits : (old : List (List PlainRow)) → IsGroup g → 0 < width → length old ≡ length g.vars + 1 → Fits (group_shape g sets) (tight_revision g sets domains best width old)
  group_fits [] rules some long = absurd (omega arith)
  group_fits (old ∷ olds) rules some long = tight_fits (transitions_of g) (group_keeps_shapes g rules) best width some (layer_values (group_shape g sets)) (layer_sets g domains) old olds (for_group g sets domains old olds long)

  pub group_within : (old : List (List PlainRow)) → IsGroup g → 0 < width → length old ≡ length g.vars + 1 → IsWithinWidth width (tight_revision g sets domains best width old)
  group_within [] rules some long = absurd (omega arith)
  group_within (old ∷ olds) rules some long = tight_within (transitions_of g) (group_keeps_shapes g rules) best width some (layer_values (group_shape g sets)) (layer_sets g domains) old olds (for_group g sets domains old olds long)

  pub group_names_rows : (old : List (List PlainRow)) → IsGroup g → 0 < width → length old ≡ length g.vars + 1 → NamesRows (tight_revision g sets domains best width old)
  group_names_rows [] rules some long = absurd (omega arith)
  group_names_rows (old ∷ olds) rules some long = tight_names_rows (transitions_of g) (group_keeps_shapes g rules) best width some (layer_values (group_shape g sets)) (layer_sets g domains) old olds (for_group g sets domains old olds long)

  pub group_comes : (old : List (List PlainRow)) → IsGroup g → 0 < width → length old ≡ length g.vars + 1 → HasFirstRow old → AllComeFromRows old (tight_revision g sets domains best width old)
  group_comes _ rules some long (has_first_row {row = row} {rows = rows} {layers = olds}) =
      tight_comes (transitions_of g) (group_keeps_shapes g rules) best width some (layer_values (group_shape g sets)) (layer_sets g domains) row rows olds (for_group g sets domains (row ∷ rows) olds long)
