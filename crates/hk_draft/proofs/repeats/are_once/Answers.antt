use Rattle.std.proofs.Common.{◌≢◌, List, ℕ, AllPairs, true≢false, sym, ◌∙◌, subst}
use Rattle.hk_draft.proofs.CountTests.{digits_read}
use Rattle.hk_draft.proofs.repeats.are_once.Goals as goal

pub returns-clause-once : goal.returns-clause-once
returns-clause-once c = λ once.
    subst (AllPairs (λ (digits other : List ℕ). digits ≢ other)) (digits_read c.args.rows.now c.as_mut_slice.result.now (c.as_mut_slice.ensures.value ∙ c.in_ok-texts.ensures)) (c.all_differ.ensures.0 once)

pub returns-clause-twice : goal.returns-clause-twice
returns-clause-twice c = λ twice once. true≢false
    (sym (c.all_differ.ensures.1 (subst (AllPairs (λ (digits other : List ℕ). digits ≢ other)) (sym (digits_read c.args.rows.now c.as_mut_slice.result.now (c.as_mut_slice.ensures.value ∙ c.in_ok-texts.ensures))) once)) ∙ twice)
