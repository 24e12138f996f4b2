-- Which widths the diagrams of a problem may have.
use Rattle.std.specs.Prelude.{ℕ, ◌+◌, ◌*◌, ◌≤◌, List, length, slice_index, All}
use Rattle.std.specs.List.{sum_by}
use Rattle.hk_text.specs.Sets.{members}
use Rattle.hk_group.specs.Groups.{PlainGroup, group_down_shape, group_up_shape}
use Rattle.hk_group.specs.Limits.{most_rows, most_group_entries, most_entries, most_properties}
use Rattle.hk_group.specs.Problems.{PlainProblem}

-- how many values the variables of a group have, added up
abbrev pub group_values : List ℕ → PlainGroup → ℕ
group_values domains g = sum_by (λ (variable : ℕ). length (members (slice_index domains variable))) g.vars

-- how many properties one row in each layer of a group has, added up: a layer for each variable, and a last one
abbrev pub group_properties : PlainGroup → ℕ
group_properties g = (length g.vars + 1) * (length (group_down_shape g) + length (group_up_shape g))

-- the width is 1 to 256; so many rows in each layer have at most 1,000,000 entries in each group, 4,000,000 in all
-- groups, and 8,000,000 properties in all groups
pub record FitsWidth (p : PlainProblem) (width : ℕ) : Type 0 where
  pub some : 1 ≤ width
  pub few : width ≤ most_rows
  pub each : All (λ (g : PlainGroup). width * group_values p.domains g ≤ most_group_entries) p.groups
  pub entries : width * sum_by (group_values p.domains) p.groups ≤ most_entries
  pub properties : width * sum_by group_properties p.groups ≤ most_properties
