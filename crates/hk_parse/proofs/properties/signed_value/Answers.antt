use Rattle.std.proofs.Common.{Some, pos, to_z, of_z, w64, ◌-ℤ◌, sym, subst, arith}
use Rattle.std.proofs.lemmas.Int.{ints}
use Rattle.hk_parse.specs.inside.Headers.{IsSignedOf}
use Rattle.hk_terms.specs.NumTexts.{IsSigned}
use Rattle.hk_terms.proofs.LiteralTexts.{negated_in_word}
use Rattle.hk_parse.proofs.SignedTexts.{plain_value, minus_value}
use Rattle.hk_parse.proofs.properties.signed_value.Goals as goal

pub returns-in-Some : goal.returns-in-Some
returns-in-Some c =
    let found = c.in-Some.ensures in
    subst (λ negative. IsSignedOf negative c.args.digits.now (Some (to_z w64 (of_z w64 (pos 0 -ℤ to_z w64 c.in-Some.value))))) (sym c.if-negative.true)
    (minus_value _ (subst (λ negative. IsSigned negative c.args.digits.now) c.if-negative.true c.requires) found.some found.small (negated_in_word (pos 0 -ℤ to_z w64 c.in-Some.value) c.in-Some.value (omega (arith, ints, found.small)) found.small))

pub returns-in-Some-2 : goal.returns-in-Some-2
returns-in-Some-2 c =
    let found = c.in-Some.ensures in
    subst (λ negative. IsSignedOf negative c.args.digits.now (Some (to_z w64 c.in-Some.value))) (sym c.if-negative.false)
    (plain_value _ found.some found.small (omega (arith, ints)))
