-- Whether there is room for a constraint and for the group that it begins, and what is declared after one.
use Rattle.std.proofs.Common.{◌≡◌, ◌<◌, ◌≤◌, Bool, true, false, true≢false, length, refl, sym, ◌∙◌, arith}
use Rattle.std.proofs.Math.Decide.{map_dec, dec_lt}
use Rattle.hk_group.specs.declared.problem.Constraint.{Constraint}
use Rattle.hk_group.specs.Limits.{most_constraints, most_groups}
use Rattle.hk_lines.specs.Statements.{Statement}
use Rattle.hk_draft.specs.Declares.{AddsConstraint}
use Rattle.hk_draft.specs.Drafts.{PlainDraft, HasGroup}
use Rattle.hk_draft.specs.Faults.{IsContent, IsLimitFault, no_group}
use Rattle.hk_draft.proofs.CountDecisions.{since}
use Rattle.hk_draft.proofs.OneEffect.{with_constraint}

-- whether there is room for a group, where one begins
pub dec_group : (before : PlainDraft) → Dec (HasGroup before)
dec_group before = by before.fresh refl
  where
    by : (fresh : Bool) → before.fresh ≡ fresh → Dec (HasGroup before)
    by true is = map_dec (λ room _. room) (λ has. has is) (dec_lt (length before.groups) most_groups)
    by false is = yes (λ fresh. absurd (true≢false (sym fresh ∙ is)))

-- what finds no room passes a limit
pub no_room : {before : PlainDraft} {s : Statement} → IsContent s → (most_constraints ≤ length before.constraints → IsLimitFault before s)
    → ((length before.constraints < most_constraints) × HasGroup before → ⊥) → IsLimitFault before s
no_room {before = before} {s = s} content many none = by (dec_lt (length before.constraints) most_constraints)
  where
    by : Dec (length before.constraints < most_constraints) → IsLimitFault before s
    by (yes room) = no_group content (λ group. none (room, group))
    by (no full) = many (omega (arith, full))

-- what passes no limit finds room for its group
pub group_since : {before : PlainDraft} {s : Statement} → IsContent s → (IsLimitFault before s → ⊥) → HasGroup before
group_since {before = before} content fits = since (dec_group before) (λ none. fits (no_group content none))

-- a constraint that passes no limit is declared
pub constraint_effect : (before : PlainDraft) (s : Statement) (constraint : Constraint) → IsContent s → (most_constraints ≤ length before.constraints → IsLimitFault before s)
    → (IsLimitFault before s → ⊥) → AddsConstraint constraint before (with_constraint before constraint)
constraint_effect before s constraint content many fits = record { room = room (dec_lt (length before.constraints) most_constraints); group = group_since content fits; added = refl }
  where
    room : Dec (length before.constraints < most_constraints) → length before.constraints < most_constraints
    room (yes less) = less
    room (no full) = absurd (fits (many (omega (arith, full))))
