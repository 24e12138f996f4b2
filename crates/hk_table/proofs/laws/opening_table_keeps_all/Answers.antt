use Rattle.hk_table.proofs.Openings.{opening_keeps}
use Rattle.hk_table.proofs.laws.opening_table_keeps_all.Goals as goal

pub returns : goal.returns
returns c = λ shape assignment lie. opening_keeps shape.down shape.up lie
