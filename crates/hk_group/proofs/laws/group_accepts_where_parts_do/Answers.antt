use Rattle.std.proofs.Common.{slice_index}
use Rattle.hk_group.proofs.laws.group_accepts_where_parts_do.Goals as goal
use Rattle.hk_group.proofs.PartRuns.{accepts_where_parts_do}

pub returns : goal.returns
returns c = λ g best assignment h. accepts_where_parts_do g best (λ variable. slice_index assignment variable) h
