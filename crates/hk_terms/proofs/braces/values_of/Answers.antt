use Rattle.std.proofs.Common.{◌∙◌, ◌∷◌, refl, ap, arith}
use Rattle.std.specs.Prelude.{codes}
use Rattle.hk_terms.proofs.NumbersRead.{reading_first, reading_next, reading_over, reading_none, none_first, none_comma, none_number, none_above}
use Rattle.hk_text.specs.Texts.{texts_of}
use Rattle.hk_terms.proofs.braces.values_of.Goals as goal

pub returns-in-Some-clause-some : goal.returns-in-Some-clause-some
returns-in-Some-clause-some c = reading_none c.in-Some.ensures.some

pub returns-in_err-first-clause-none : goal.returns-in_err-first-clause-none
returns-in_err-first-clause-none c = λ _ numbers rest. none_first (c.in_default.ensures.none refl) (c.in_err-first.ensures.none refl) numbers rest

pub numbers-init : goal.numbers-init
numbers-init c =
    let found = c.in_ok-first.ensures in
    record {
      reading = reading_first (texts_of c.args.line.now c.args.tokens.now) c.with_digits-made.result found.some found.number.1 (c.with_digits-made.ensures found.number.0 found.number.1);
      tokens = found.tokens;
      shorter = omega (arith, found.shorter);
    }

pub returns-in-Some-after_text-clause-some : goal.returns-in-Some-after_text-clause-some
returns-in-Some-after_text-clause-some c = reading_over c.numbers.invariant.reading c.in-Some-after_text.ensures.some

pub returns-in_err-after-clause-none : goal.returns-in_err-after-clause-none
returns-in_err-after-clause-none c = λ _ numbers rest. none_comma c.numbers.invariant.reading (c.in_default-after_text.ensures.none refl) (c.in_err-after.ensures.none refl) numbers rest

pub returns-in_err-next-clause-none : goal.returns-in_err-next-clause-none
returns-in_err-next-clause-none c = λ _ numbers rest. none_number c.numbers.invariant.reading c.in_ok-after.ensures.some (c.in_err-next.ensures.none refl) numbers rest

pub returns-then-not-is_below-clause-none : goal.returns-then-not-is_below-clause-none
returns-then-not-is_below-clause-none c =
    let reading = c.numbers.invariant.reading in
    let found = c.in_ok-next.ensures in
    let begins = c.in_ok-after.ensures.some ∙ ap (λ texts. codes "," ∷ texts) found.some in
    λ _ numbers rest. none_above reading begins found.number.1 (λ less. let test = (c.is_below.ensures reading.value found.number.0 reading.number found.number.1).1 less in let not = c.if-not-is_below.true in cc) numbers rest

pub numbers-preserved : goal.numbers-preserved
numbers-preserved c =
    let reading = c.numbers.invariant.reading in
    let found = c.in_ok-next.ensures in
    let begins = c.in_ok-after.ensures.some ∙ ap (λ texts. codes "," ∷ texts) found.some in
    let above = (c.is_below.ensures reading.value found.number.0 reading.number found.number.1).0 c.if-not-is_below.false in
    record {
      reading = reading_next c.with_digits-made-in-numbers.result reading begins found.number.1 above (c.with_digits-made-in-numbers.ensures found.number.0 found.number.1);
      tokens = found.tokens;
      shorter = omega (arith, c.numbers.invariant.shorter, c.in_ok-after.ensures.shorter, found.shorter);
    }
