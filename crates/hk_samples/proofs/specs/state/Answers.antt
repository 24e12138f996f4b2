use Rattle.std.proofs.Common.{◌≡◌, ℕ, ◌<◌, pos, List, [], ◌∷◌, arith, subst, sym}
use Rattle.std.proofs.lemmas.Grind.{common_steps}
use Rattle.std.proofs.lemmas.Int.{ints}
use Rattle.hk_kinds.specs.Limits.{IsWithinLimit}
use Rattle.hk_kinds.specs.Parts.{part_at}
use Rattle.hk_kinds.specs.Shapes.{HasShape, is_min, no_kinds, one_more}
use Rattle.hk_kinds.specs.declared.kinds.Kind.TheVariants.{Min}
use Rattle.hk_kinds.specs.declared.properties.Prop.{Prop}
use Rattle.hk_kinds.specs.declared.properties.Prop.TheVariants.{Num}
use Rattle.hk_samples.proofs.specs.state.Goals as goal

small_within : (n : ℕ) → n < 256 → IsWithinLimit (pos n)
small_within n small = record { least = omega (arith, ints); most = omega (arith, ints) }

-- the second of three properties has the shape of one number where it is a small one
second_has_shape : (first third : Prop) (n : ℕ) (state : List Prop) → state ≡ first ∷ Num (pos n) ∷ third ∷ [] → n < 256 → HasShape (Min ∷ []) (part_at 1 1 state)
second_has_shape first third n state is small = subst (λ whole. HasShape (Min ∷ []) (part_at 1 1 whole)) (sym is) (one_more (is_min (small_within n small)) no_kinds)

pub returns : goal.returns
returns c =
    let is : c.push-3.new.self ≡ c.args.first ∷ Num (pos c.args.second) ∷ c.args.third ∷ [] = grind (arith, common_steps) in
    second_has_shape c.args.first c.args.third c.args.second _ is c.ranges.second.fits
