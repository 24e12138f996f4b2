use Rattle.std.proofs.Common.{true≢false, sym, ◌∙◌}
use Rattle.hk_draft.specs.Faults.{large_coef, no_group}
use Rattle.hk_draft.proofs.Fitting.{some_large}
use Rattle.hk_draft.proofs.declaring.objective_fits.Goals as goal

pub returns-then-not-has_group-clause-large : goal.returns-then-not-has_group-clause-large
returns-then-not-has_group-clause-large c = λ _. no_group tt (λ group. true≢false (sym (c.has_group.ensures.1 group) ∙ c.if-not-has_group.true))

pub returns-clause-fits : goal.returns-clause-fits
returns-clause-fits c = λ small. (c.has_group.ensures.0 c.if-not-has_group.false, c.are_coefficients.ensures.0 small)

pub returns-clause-large : goal.returns-clause-large
returns-clause-large c = λ large. large_coef (some_large c.args.terms.now (λ all. true≢false (sym (c.are_coefficients.ensures.1 all) ∙ large)))
