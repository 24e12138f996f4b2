use Rattle.std.proofs.Common.{◌∙◌, arith}
use Rattle.hk_layers.proofs.FrontLists.{front_length, front_down}
use Rattle.hk_layers.proofs.fronts.Front.down.Goals as goal

pub at-requires : goal.at-requires
at-requires c = omega (arith, c.requires, c.self.invariant, front_length _ _ _ _ c.self.view_is c.self.invariant)

pub returns : goal.returns
returns c = c.at.ensures.row ∙ front_down _ _ _ _ c.self.view_is c.self.invariant c.args.at
