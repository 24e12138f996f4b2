use Rattle.std.proofs.Common.{◌+◌, ◌-◌, ◌*◌, ◌^◌, refl, sym, ◌∙◌, arith, ap, min, take, get_or}
use Rattle.std.specs.Str.Parse.{digits_value}
use Rattle.hk_text.proofs.Digits.{digits_next, digits_value_next, capped_next, no_number}
use Rattle.hk_text.proofs.numbers.number_up_to.Goals as goal

pub returns-then-not-is_ascii_digit-clause-none : goal.returns-then-not-is_ascii_digit-clause-none
returns-then-not-is_ascii_digit-clause-none c = λ _ n number.
    absurd (no_number c.args.text.now c.loop-digit.digit-index n (omega arith) (sym c.is_ascii_digit.ensures.value ∙ c.if-not-is_ascii_digit.true) number)

pub loop-digit-preserved : goal.loop-digit-preserved
loop-digit-preserved c =
    let digit = sym c.is_ascii_digit.ensures.value ∙ c.if-not-is_ascii_digit.false in
    let whole = digits_value 10 (take c.loop-digit.digit-index c.args.text.now) in
    record {
      digits = digits_next c.args.text.now c.loop-digit.digit-index (omega arith) digit c.loop-digit.invariant.digits;
      value =
          c.min-value.ensures
          ∙ ap (λ n. min n c.args.most) (c.saturating_add.ensures ∙ ap (λ n. min n (2 ^ 64 - 1)) (ap (λ n. n + c.from.result) c.saturating_mul.ensures ∙ ap (λ n. min (c.loop-digit.value * 10) (2 ^ 64 - 1) + n) c.from.ensures))
          ∙ capped_next whole c.loop-digit.value c.args.most (get_or c.args.text.now c.loop-digit.digit-index 0 - 48) c.ranges.most.fits c.loop-digit.invariant.value
          ∙ ap (λ n. min n c.args.most) (sym (digits_value_next c.args.text.now c.loop-digit.digit-index whole (omega arith) digit refl));
    }
