use Rattle.std.proofs.Common.{◌<◌, length, ap, arith}
use Rattle.hk_layers.proofs.FrontLists.{front_length, front_set}
use Rattle.hk_layers.proofs.fronts.Front.from.Goals as goal

-- the row's set is there
within : (c : goal.After-as_slice) → c.args.at < length c.as_slice.result.now
within c = omega (arith, c.requires, ap length c.as_slice.ensures.value, front_length _ _ _ _ c.self.view_is c.self.invariant)

pub bounds-as_slice-at : goal.bounds-as_slice-at
bounds-as_slice-at c = within c

pub offset_bounds-as_slice-at : goal.offset_bounds-as_slice-at
offset_bounds-as_slice-at c = omega (arith, within c, c.as_slice.type_inv.1)

pub returns : goal.returns
returns c = front_set _ _ _ _ c.self.view_is c.self.invariant c.args.at c.index-as_slice-at.result _ c.as_slice.ensures.value c.index-as_slice-at.is c.requires
