use Rattle.std.proofs.Common.{◌≡◌, sym, subst}
use Rattle.std.specs.List.{All}
use Rattle.hk_text.specs.Texts.{texts_of}
use Rattle.hk_text.specs.Tokens.{HasTexts, IsTokenIn}
use Rattle.hk_model.proofs.FaultRanks.{has_texts, first_text, text_bad}
use Rattle.hk_model.proofs.reading.read_line.Goals as goal

pub read-requires-clause-has : goal.read-requires-clause-has
read-requires-clause-has c =
    let slice : c.as_slice.result.now ≡ c.in-Ok.found = c.as_slice.ensures in
    subst (λ tokens. HasTexts c.args.line.now (texts_of c.args.line.now tokens)) (sym slice) (has_texts c.args.line.now c.in-Ok.found c.in-Ok.ensures.ok)

pub read-requires-clause-within : goal.read-requires-clause-within
read-requires-clause-within c =
    let slice : c.as_slice.result.now ≡ c.in-Ok.found = c.as_slice.ensures in
    let found = c.in-Ok.ensures in
    subst (All (IsTokenIn c.args.line.now)) (sym slice) (λ index any within. record {
      within = found.within index any within;
      lexeme = found.lexemes index any within;
    })

pub returns-in-Err-NotAscii-clause-err : goal.returns-in-Err-NotAscii-clause-err
returns-in-Err-NotAscii-clause-err c =
    let fault = rw c.in-Err-NotAscii.field-0-is at c.in-Err-NotAscii.ensures.err in
    (text_bad fault.1, first_text fault.1)

pub returns-in-Err-BadByte-clause-err : goal.returns-in-Err-BadByte-clause-err
returns-in-Err-BadByte-clause-err c =
    let fault = rw c.in-Err-BadByte.field-0-is at c.in-Err-BadByte.ensures.err in
    (text_bad fault.1, first_text fault.1)
