use Rattle.std.proofs.Common.{◌≡◌, ◌++◌, length, drop}
use Rattle.hk_group.specs.Groups.{group_up_shape}
use Rattle.hk_layers.specs.Climbing.{RisesAt}
use Rattle.hk_layers.specs.inside.Rising.{join_ups, row_entries, row_steps, row_up}
use Rattle.hk_layers.proofs.way_up.raise_row.Given as goal
use Rattle.hk_text.specs.Sets.{members}

-- the entries and the up state are those so far and what is left of them for the values and leads that are left
abbrev pub invariant-loop-at : goal.invariant-loop-at
invariant-loop-at l =
    let values = members l.spot.values in
    let left = members l.left in
    let ahead = drop l.at l.leads in
    let whole = row_entries l.spot l.below.ups l.down values l.leads in
    let rest = row_entries l.spot l.below.ups l.down left ahead in record {
      long : length ahead ≡ length left;
      entries : l.fn.entries.items ++ whole ≡ l.entries.items ++ rest;
      up : row_up l.spot l.below.ups values whole ≡ join_ups (group_up_shape l.spot.group) l.rising.up (row_steps l.spot l.below.ups left rest);
      rises : RisesAt l.spot l.rising;
    }
