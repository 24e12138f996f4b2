use Rattle.hk_sweep.proofs.TightSteps.{framed}
use Rattle.hk_sweep.proofs.revising.revise_in.Goals as goal

pub fall-requires-clause-framed : goal.fall-requires-clause-framed
fall-requires-clause-framed g c = framed c.args.group.now c.args.domains.now _ c.args.width c.args.diagram.now c.vars-variables.ensures.rules c.requires.domains c.requires.made

pub rise-requires-clause-framed : goal.rise-requires-clause-framed
rise-requires-clause-framed g c = framed c.args.group.now c.args.domains.now _ c.args.width c.args.diagram.now c.vars-variables.ensures.rules c.requires.domains c.requires.made
