use Rattle.std.proofs.Common.{◌<◌, length, arith, sym, ◌∙◌, subst}
use Rattle.std.proofs.lemmas.List.{ext_get_or}
use Rattle.hk_base.specs.Sets.{Has}
use Rattle.hk_prop.proofs.Removals.{done_turn, left_turn}
use Rattle.hk_prop.proofs.narrowing.reduce_all.Goals as goal

pub reduce-requires-clause-inside : goal.reduce-requires-clause-inside
reduce-requires-clause-inside c = λ value has.
    let x = c.variables.variable in
    let within : x < length c.args.sets.now = omega (arith, c.variables-test.true, c.variables.auto.variable-end) in
    subst (λ s. Has s value) (sym (c.variables.invariant.left x (omega arith))) (c.requires.inside x value within has)

pub variables-preserved : goal.variables-preserved
variables-preserved c =
    let x = c.variables.variable in
    let sets = c.args.sets.now in
    let old = c.args.domains.now.sets in
    let now = c.variables.domains.sets in
    let new = c.reduce.new.domains.sets in
    let i = c.variables.invariant in
    let is = c.in_ok-reduce.ensures.sets in
    let inside : x < length now = omega (arith, c.variables-test.true, c.variables.auto.variable-end, i.long) in
    record {
      long = c.in_ok-reduce.ensures.long ∙ i.long;
      done = done_turn sets old now new x inside is i.done;
      left = left_turn sets old now new x inside is i.left;
      stack = c.in_ok-reduce.ensures.stack ∙ i.stack;
    }

pub returns-clause-sets : goal.returns-clause-sets
returns-clause-sets c =
    let i = c.variables.invariant in
    ext_get_or 0 c.variables.domains.sets c.args.sets.now i.long (λ k within. i.done k (omega (arith, within, i.long, c.variables-test.false)))
