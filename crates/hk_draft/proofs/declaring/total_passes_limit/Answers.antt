use Rattle.std.proofs.Common.{◌≡◌, true≢false, false, true, Bool, sym, ◌∙◌, ap, not, subst, refl}
use Rattle.std.proofs.Math.Facts.{to_z-of_z}
use Rattle.hk_draft.specs.Faults.{many_totals, large_least, large_most, large_total_coef}
use Rattle.hk_group.specs.Problems.{IsWithin}
use Rattle.hk_base.specs.Limits.{number_limit}
use Rattle.hk_draft.proofs.Fitting.{some_large}
use Rattle.hk_draft.proofs.Rooms.{no_room}
use Rattle.hk_draft.proofs.declaring.total_passes_limit.Goals as goal

-- what is false when it is turned is true
from_turned : (b : Bool) → not b ≡ false → b ≡ true
from_turned true is = refl
from_turned false is = sym is

pub returns-then-not-has_room-clause-passes : goal.returns-then-not-has_room-clause-passes
returns-then-not-has_room-clause-passes c passes = no_room tt (λ many. many_totals many) (λ room. true≢false (sym (c.has_room.ensures.1 room) ∙ c.if-not-has_room.true))

pub returns-then-not-is_within_limit-clause-passes :
    goal.returns-then-not-is_within_limit-clause-passes
returns-then-not-is_within_limit-clause-passes c passes =
    large_least (λ within. true≢false (sym (c.is_within_limit.ensures.1 (subst (IsWithin number_limit) (sym (to_z-of_z c.ranges.least)) within)) ∙ c.if-not-is_within_limit.true))

pub returns-then-not-is_within_limit-2-clause-passes :
    goal.returns-then-not-is_within_limit-2-clause-passes
returns-then-not-is_within_limit-2-clause-passes c passes =
    large_most (λ within. true≢false (sym (c.is_within_limit-2.ensures.1 (subst (IsWithin number_limit) (sym (to_z-of_z c.ranges.most)) within)) ∙ c.if-not-is_within_limit-2.true))

pub returns-clause-passes : goal.returns-clause-passes
returns-clause-passes c passes = large_total_coef (some_large c.args.terms.now (λ all. true≢false (sym passes ∙ ap not (c.are_coefficients.ensures.1 all))))

pub returns-clause-fits : goal.returns-clause-fits
returns-clause-fits c fits = record {
  room = (c.has_room.ensures.0 c.if-not-has_room.false).0;
  group = (c.has_room.ensures.0 c.if-not-has_room.false).1;
  least_fits = subst (IsWithin number_limit) (to_z-of_z c.ranges.least) (c.is_within_limit.ensures.0 c.if-not-is_within_limit.false);
  most_fits = subst (IsWithin number_limit) (to_z-of_z c.ranges.most) (c.is_within_limit-2.ensures.0 c.if-not-is_within_limit-2.false);
  coefs_fit = c.are_coefficients.ensures.0 (from_turned c.are_coefficients.result fits);
}
