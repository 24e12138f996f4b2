use Rattle.std.proofs.Common.{subst}
use Rattle.std.proofs.lemmas.List.{take_all}
use Rattle.hk_lines.specs.Plain.{values_of}
use Rattle.hk_lines.specs.ValueSets.{IsSetOf}
use Rattle.hk_lines.proofs.Domains.{empty_set, more_of_set}
use Rattle.hk_lines.proofs.sets.set_of_values.Goals as goal

pub loop-values-init : goal.loop-values-init
loop-values-init c = empty_set

pub loop-values-preserved : goal.loop-values-preserved
loop-values-preserved c = more_of_set c.args.set.now c.loop-values.values-index _ c.loop-values.domain c.range_set-domain.result c.loop-values-test.true c.loop-values.invariant c.range_set-domain.ensures

pub returns : goal.returns
returns c = subst (λ set. IsSetOf (values_of set) c.loop-values.domain) (take_all c.loop-values.values-index c.args.set.now c.loop-values-test.false) c.loop-values.invariant
