use Rattle.hk_kinds.proofs.RowLists.{laid_length}
use Rattle.hk_kinds.proofs.rows.States.len.Goals as goal

pub returns : goal.returns
returns c = laid_length _ _ _ _ c.self.view_is
