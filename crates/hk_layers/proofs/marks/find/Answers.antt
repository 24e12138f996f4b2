use Rattle.std.proofs.Common.{rules, sym, ◌∙◌}
use Rattle.hk_layers.proofs.Candidates.{is_equal, told_apart, not_later, not_past}
use Rattle.hk_layers.proofs.marks.find.Goals as goal

pub returns-then-eq-clause-found : goal.returns-then-eq-clause-found
returns-then-eq-clause-found c = record {
  within = search rules;
  same = sym c.at.ensures.row ∙ is_equal _ _ _ _ c.compare.ensures c.eq.ensures c.if-eq.true;
}

pub loop-number-preserved : goal.loop-number-preserved
loop-number-preserved c = not_later _ _ _ _ c.loop-number.invariant (told_apart _ _ _ _ _ _ c.at.ensures.row c.compare.ensures c.eq.ensures c.if-eq.false)

pub returns-clause-alone : goal.returns-clause-alone
returns-clause-alone c = not_past _ _ _ _ c.loop-number.invariant (search rules)
