use Rattle.std.proofs.Common.{pos, to_z, of_z, w64, ◌-ℤ◌, sym, subst, arith, Ok}
use Rattle.std.proofs.lemmas.Int.{ints}
use Rattle.hk_spec.specs.declared.expressions.NumExpr.TheVariants.{Lit}
use Rattle.hk_terms.specs.NumTexts.{Number, IsSigned}
use Rattle.hk_terms.specs.Outcomes.{IsNumOf}
use Rattle.hk_terms.proofs.LiteralTexts.{negated_in_word, plain_literal, minus_literal}
use Rattle.hk_terms.proofs.literals.literal.Goals as goal

pub returns-in-Some : goal.returns-in-Some
returns-in-Some c names =
    let found = c.in-Some.ensures in
    subst (λ negative. IsNumOf names (Number negative c.args.digits.now) (Ok (Lit (to_z w64 (of_z w64 (pos 0 -ℤ to_z w64 c.in-Some.value)))))) (sym c.if-negative.true)
    (minus_literal names _ (subst (λ negative. IsSigned negative c.args.digits.now) c.if-negative.true c.requires) found.some found.small (negated_in_word (pos 0 -ℤ to_z w64 c.in-Some.value) c.in-Some.value (omega (arith, ints, found.small)) found.small))

pub returns-in-Some-2 : goal.returns-in-Some-2
returns-in-Some-2 c names =
    let found = c.in-Some.ensures in
    subst (λ negative. IsNumOf names (Number negative c.args.digits.now) (Ok (Lit (to_z w64 c.in-Some.value)))) (sym c.if-negative.false)
    (plain_literal names _ found.some found.small (omega (arith, ints)))
