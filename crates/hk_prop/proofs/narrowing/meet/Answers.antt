use Rattle.std.proofs.Common.{◌<◌, ◌^◌, bit_and, length, arith, ◌∙◌, slice_index}
use Rattle.std.proofs.lemmas.List.{length-set}
use Rattle.std.proofs.lemmas.List.Elements.{All-set, All-get_or}
use Rattle.std.proofs.lemmas.Nat.{and_le_l}
use Rattle.hk_prop.proofs.Meetings.{meet_turn}
use Rattle.hk_prop.proofs.narrowing.meet.Goals as goal

pub layers-preserved : goal.layers-preserved
layers-preserved c =
    let sets = c.layers.sets in
    let variable = c.from-variable.result in
    let layer = c.layers.layer in
    let supported = c.args.supported.now in
    let one = slice_index sets variable in
    let other = slice_index supported layer in
    let within : layer < length c.args.vars.now = omega (arith, c.layers-test.true, c.layers.auto.layer-end) in
    let declared = All-get_or (λ v. v < length c.args.sets.now) c.args.vars.now layer 0 within c.requires.declared in
    let inside : variable < length sets = omega (arith, declared, c.from-variable.ensures, c.layers.invariant.long) in
    let small : one < 2 ^ 128 = All-get_or (λ s. s < 2 ^ 128) sets variable 0 inside c.layers.invariant.small in
    record {
      long = length-set sets variable (bit_and one other) ∙ c.layers.invariant.long;
      small = All-set (λ s. s < 2 ^ 128) sets variable (bit_and one other) (omega (arith, and_le_l one other, small)) c.layers.invariant.small;
      met = meet_turn c.args.vars.now supported c.args.sets.now sets layer variable c.from-variable.ensures inside c.layers.invariant.long c.layers.invariant.met;
    }
