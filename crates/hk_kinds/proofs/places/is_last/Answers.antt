use Rattle.std.proofs.Common.{refl, sym, ◌∙◌}
use Rattle.hk_kinds.proofs.LastStates.{is_last_from, not_last_from, not_true}
use Rattle.hk_kinds.proofs.places.is_last.Goals as goal

pub returns-in-Equal : goal.returns-in-Equal
returns-in-Equal c = (λ _. is_last_from _ _ _ _ c.len-count.ensures c.if-count-eq0.false c.at.ensures.row (sym c.compare.ensures ∙ c.in-Equal.is), λ _. refl)

pub returns-in_default : goal.returns-in_default
returns-in_default c = (λ h. absurd (not_true _ refl h), λ last. absurd (not_last_from _ _ _ _ c.len-count.ensures c.at.ensures.row (λ tied. c.in_default.not-Equal (c.compare.ensures ∙ tied)) last))
