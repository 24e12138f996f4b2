use Rattle.hk_table.proofs.RowSets.{bit_more}
use Rattle.hk_table.proofs.Steps.{TakesIn-one}
use Rattle.hk_table.proofs.support.Found.add.Goals as goal

pub returns : goal.returns
returns c =
    TakesIn-one c.args.value c.args.row c.args.self.now.values c.args.self.now.rows _ c.insert.new.self
    (λ v. bit_more c.args.self.now.values c.args.value v c.requires.value) c.insert.ensures
