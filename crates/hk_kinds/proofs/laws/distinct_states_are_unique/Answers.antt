use Rattle.hk_kinds.proofs.DistinctLaws.{distinct_ascends, distinct_members, distinct_alone}
use Rattle.hk_kinds.proofs.laws.distinct_states_are_unique.Goals as goal

pub returns-clause-ascend : goal.returns-clause-ascend
returns-clause-ascend c = distinct_ascends

pub returns-clause-members : goal.returns-clause-members
returns-clause-members c = distinct_members

pub returns-clause-alone : goal.returns-clause-alone
returns-clause-alone c = distinct_alone
