use Rattle.std.proofs.Common.{◌≡◌, ◌*◌, ◌++◌, length, drop}
use Rattle.hk_group.specs.Groups.{group_up_shape}
use Rattle.hk_layers.specs.Flat.{AreShapedUps}
use Rattle.hk_layers.specs.inside.Rising.{layer_entries, layer_ups}
use Rattle.hk_layers.proofs.way_up.raise_rows.Given as goal
use Rattle.hk_text.specs.Sets.{members}

-- the entries and up states are those so far and those of the rows and leads that are left
abbrev pub invariant-loop-i : goal.invariant-loop-i
invariant-loop-i l =
    let values = members l.spot.values in
    let left = drop l.i l.downs.rows in
    let ahead = drop (l.i * length values) l.leads in record {
      entries : layer_entries l.spot l.below.ups values l.downs.rows l.leads ≡ l.entries.items ++ layer_entries l.spot l.below.ups values left ahead;
      ups : layer_ups l.spot l.below.ups values l.downs.rows l.leads ≡ l.ups.ups ++ layer_ups l.spot l.below.ups values left ahead;
      long : length l.ups.ups ≡ l.i;
      shapes : AreShapedUps (group_up_shape l.spot.group) l.ups.ups;
      ups_width : l.ups.width ≡ length (group_up_shape l.spot.group);
      rising_width : l.rising.width ≡ length (group_up_shape l.spot.group);
    }
