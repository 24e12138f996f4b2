-- A statement with a fault may stand after the header.
use Rattle.std.proofs.Common.{Some}
use Rattle.hk_draft.specs.Drafts.{PlainDraft}
use Rattle.hk_lines.specs.Statements.{Statement, Header, Variable, Distinct, Among, Sequence, Gcc, Total, Objective, NewGroup}
use Rattle.hk_draft.specs.Declares.{MayStand}
use Rattle.hk_draft.specs.Faults.{IsNameFault, declared_twice, not_declared, listed_twice, second_objective, IsContent, IsLimitFault, long_name, large_value, turned_range, no_value, many_variables, many_differ, many_amongs, large_among, many_sequences, odd_window, large_sequence, many_gccs, large_row, no_row, many_totals, large_least, large_most, large_total_coef, large_coef, no_group, IsScopeFault}
use Rattle.hk_draft.proofs.Effects.{no_places_rise}
use Rattle.hk_lines.proofs.Elements.{any_nil}

-- a statement with a fault of a name may stand after the header
pub named_stands : {problem : PlainDraft} {s : Statement} → IsNameFault problem s → MayStand (Some problem) s
named_stands (declared_twice x) = tt
named_stands (not_declared {statement = Header} x) = absurd (any_nil _ x)
named_stands (not_declared {statement = Variable name set} x) = tt
named_stands (not_declared {statement = Distinct names} x) = tt
named_stands (not_declared {statement = Among counting} x) = tt
named_stands (not_declared {statement = Sequence window counting} x) = tt
named_stands (not_declared {statement = Gcc names rows} x) = tt
named_stands (not_declared {statement = Total terms least most} x) = tt
named_stands (not_declared {statement = Objective terms} x) = tt
named_stands (not_declared {statement = NewGroup} x) = tt
named_stands (listed_twice x) = tt
named_stands (second_objective x) = tt

-- so may a constraint and the objective
content_stands : (problem : PlainDraft) (s : Statement) → IsContent s → MayStand (Some problem) s
content_stands problem Header content = content
content_stands problem (Variable name set) content = tt
content_stands problem (Distinct names) content = tt
content_stands problem (Among counting) content = tt
content_stands problem (Sequence window counting) content = tt
content_stands problem (Gcc names rows) content = tt
content_stands problem (Total terms least most) content = tt
content_stands problem (Objective terms) content = tt
content_stands problem NewGroup content = tt

-- so may one with a fault of a limit
pub limited_stands : {problem : PlainDraft} {s : Statement} → IsLimitFault problem s → MayStand (Some problem) s
limited_stands (long_name x) = tt
limited_stands (large_value x) = tt
limited_stands (turned_range x) = tt
limited_stands no_value = tt
limited_stands (many_variables x) = tt
limited_stands (many_differ x) = tt
limited_stands (many_amongs x) = tt
limited_stands (large_among x) = tt
limited_stands (many_sequences x) = tt
limited_stands (odd_window x) = tt
limited_stands (large_sequence x) = tt
limited_stands (many_gccs x) = tt
limited_stands (large_row x) = tt
limited_stands no_row = tt
limited_stands (many_totals x) = tt
limited_stands (large_least x) = tt
limited_stands (large_most x) = tt
limited_stands (large_total_coef x) = tt
limited_stands (large_coef x) = tt
limited_stands {problem = problem} (no_group {statement = s} content x) = content_stands problem s content

-- so may one with a fault of its scope
pub unordered_stands : {problem : PlainDraft} (s : Statement) → IsScopeFault problem s → MayStand (Some problem) s
unordered_stands Header x = absurd (no_places_rise x.scope x.places x.falls)
unordered_stands (Variable name set) x = tt
unordered_stands (Distinct names) x = tt
unordered_stands (Among counting) x = tt
unordered_stands (Sequence window counting) x = tt
unordered_stands (Gcc names rows) x = tt
unordered_stands (Total terms least most) x = tt
unordered_stands (Objective terms) x = tt
unordered_stands NewGroup x = tt
