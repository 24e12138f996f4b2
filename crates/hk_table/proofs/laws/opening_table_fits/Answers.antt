use Rattle.hk_table.proofs.Openings.{opening_layers_fit}
use Rattle.hk_table.specs.Tables.{layer_values}
use Rattle.hk_table.proofs.laws.opening_table_fits.Goals as goal

pub returns : goal.returns
returns c = λ shape. opening_layers_fit shape.down shape.up (layer_values shape)
