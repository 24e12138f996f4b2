use Rattle.hk_sweep.proofs.RowsMade.{made_same}
use Rattle.hk_sweep.proofs.writing.write_row.Goals as goal

pub returns-clause-ok : goal.returns-clause-ok
returns-clause-ok g c =
    let halves = c.args.front.now.halves in
    made_same _ _ _ _ _ halves c.args.ups.now.ups c.args.at _ _ _ c.args.entries.now c.row-row.ensures c.down.ensures c.at.ensures c.from.ensures c.in_ok-set_row.ensures.ok
