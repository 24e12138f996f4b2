use Rattle.std.proofs.Common.{[], refl, subst, arith}
use Rattle.std.proofs.lemmas.List.{append-nil}
use Rattle.hk_text.specs.Tokens.{AreTokensOf, Splits, Quietly, Badly}
use Rattle.hk_text.proofs.Spans.{Splits-within, Splits-lexemes}
use Rattle.hk_text.proofs.Splitting.{fault_of_bad}
use Rattle.hk_text.proofs.tokenizer.tokens.Goals as goal

pub returns-in-Quiet-clause-ok : goal.returns-in-Quiet-clause-ok
returns-in-Quiet-clause-ok c = subst (AreTokensOf c.args.line.now) (append-nil c.tokens.found) (c.tokens.invariant.splits Quietly [] c.in-Quiet.ensures)

pub returns-in-Quiet-clause-within : goal.returns-in-Quiet-clause-within
returns-in-Quiet-clause-within c =
    Splits-within c.args.line.now Quietly 0 c.args.line.now c.tokens.found (omega arith)
    (subst (AreTokensOf c.args.line.now) (append-nil c.tokens.found) (c.tokens.invariant.splits Quietly [] c.in-Quiet.ensures))

pub returns-in-Quiet-clause-lexemes : goal.returns-in-Quiet-clause-lexemes
returns-in-Quiet-clause-lexemes c =
    Splits-lexemes c.args.line.now [] Quietly c.args.line.now c.tokens.found refl
    (subst (AreTokensOf c.args.line.now) (append-nil c.tokens.found) (c.tokens.invariant.splits Quietly [] c.in-Quiet.ensures))

pub returns-in-Stuck-clause-err : goal.returns-in-Stuck-clause-err
returns-in-Stuck-clause-err c =
    fault_of_bad c.args.line.now c.in-Stuck.column c.in-Stuck.byte c.fault_at.result
    (record { before = c.tokens.found; splits = subst (Splits (Badly c.in-Stuck.column c.in-Stuck.byte) 0 c.args.line.now) (append-nil c.tokens.found) (c.tokens.invariant.splits (Badly c.in-Stuck.column c.in-Stuck.byte) [] c.in-Stuck.ensures) })
    c.fault_at.ensures
