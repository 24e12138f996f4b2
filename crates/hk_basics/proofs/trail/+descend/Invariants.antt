use Rattle.hk_basics.proofs.trail.+descend.Given as goal

abbrev pub decreases-descend : goal.decreases-descend
decreases-descend g l = l.levels
