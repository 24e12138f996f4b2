use Rattle.hk_kinds.proofs.StateLaws.{top_covers}
use Rattle.hk_kinds.proofs.laws.tops_cover_all.Goals as goal

pub returns : goal.returns
returns c = top_covers
