use Rattle.std.proofs.Common.{◌≡◌, [], length, refl, sym, ◌∙◌, subst, arith, rules}
use Rattle.std.specs.Prelude.{IfOk}
use Rattle.std.proofs.lemmas.Result.{IfOk-weaker}
use Rattle.hk_model.specs.Models.{no_line, Spells}
use Rattle.hk_draft.specs.Drafts.{IsOf}
use Rattle.hk_model.proofs.FaultRanks.{zero_from_test}
use Rattle.hk_model.proofs.Reaching.{Reached, reached_more, refused_at, unfinished, all_spelled, all_valid}
use Rattle.hk_model.proofs.reading.read_model.Goals as goal

pub lines-init : goal.lines-init
lines-init c = subst (λ declared. Reached c.args.bytes.now declared c.args.bytes.now 1) (sym c.new-declared.ensures)
    (record { done = []; parts = refl; good = no_line; counted = refl; room = omega (arith, c.requires) })

pub lines-preserved : goal.lines-preserved
lines-preserved c = reached_more c.lines.invariant c.split_line.ensures.first c.split_line.ensures.shorter c.in-Ok.ensures.ok

pub returns-in-Err-clause-refused : goal.returns-in-Err-clause-refused
returns-in-Err-clause-refused c =
    refused_at c.split_line.result.1.now c.in-Err.fault c.error_at.result c.lines.invariant c.split_line.ensures.first c.in-Err.ensures.err c.error_at.ensures

pub finish-requires-in-Some : goal.finish-requires-in-Some
finish-requires-in-Some c = all_valid c.in-Some.draft c.lines.invariant c.in-Some.ensures.some.0

pub returns-in-None-clause-refused : goal.returns-in-None-clause-refused
returns-in-None-clause-refused c =
    let over : length c.lines.rest.now ≡ 0 = zero_from_test (length c.lines.rest.now) (sym c.is_empty.ensures ∙ c.lines-test.false) in
    unfinished c.error_at-in-None.result c.lines.invariant over (c.in-None.ensures.none refl) c.error_at-in-None.ensures

pub returns-in-Some-clause-spells : goal.returns-in-Some-clause-spells
returns-in-Some-clause-spells c =
    let over : length c.lines.rest.now ≡ 0 = zero_from_test (length c.lines.rest.now) (sym c.is_empty.ensures ∙ c.lines-test.false) in
    let kept : IfOk c.map_err.result (IsOf c.in-Some.draft) = search rules in
    IfOk-weaker c.map_err.result (IsOf c.in-Some.draft) (Spells c.args.bytes.now) (λ problem is. all_spelled c.lines.invariant over c.in-Some.ensures.some is) kept
