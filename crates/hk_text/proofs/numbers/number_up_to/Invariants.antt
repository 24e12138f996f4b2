use Rattle.std.proofs.Common.{◌≡◌, min, take}
use Rattle.std.specs.Str.Parse.{AllDigits, digits_value}
use Rattle.hk_text.proofs.numbers.number_up_to.Given as goal

abbrev pub invariant-loop-digit : goal.invariant-loop-digit
invariant-loop-digit l = record {
  digits : AllDigits 10 (take l.digit-index l.text);
  value : l.value ≡ min (digits_value 10 (take l.digit-index l.text)) l.most;
}
