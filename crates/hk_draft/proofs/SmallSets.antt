-- A set whose values are small, as it was read and as it is written.
use Rattle.std.proofs.Common.{◌<◌, ◌≤◌, List, [], ◌∷◌}
use Rattle.std.specs.Prelude.{All}
use Rattle.std.proofs.lemmas.List.Elements.{All-nil, All-cons, All-head, All-tail, All-map, All-weaker}
use Rattle.hk_group.specs.Limits.{value_count}
use Rattle.hk_lines.specs.declared.phrases.Values.{Values as ReadValues}
use Rattle.hk_lines.specs.Phrases.{Values}
use Rattle.hk_lines.specs.Plain.{values_of, plain_values}

-- no range of a set is turned, and no value passes the limit
abbrev pub AreSmallValues : List ReadValues → Type 0
AreSmallValues set = All (λ values. (values.first ≤ values.last) × (values.last < value_count)) set

-- the values of a set as they were read are small where the items are
pub small_items : (set : List ReadValues) → AreSmallValues set → All (λ values. values.first ≤ values.last) (values_of set) × All (λ values. values.last < value_count) (values_of set)
small_items set all = (
  All-map (λ (values : Values). values.first ≤ values.last) plain_values set (All-weaker (λ values. (values.first ≤ values.last) × (values.last < value_count)) (λ values. values.first ≤ values.last) (λ values both. both.0) set all),
  All-map (λ (values : Values). values.last < value_count) plain_values set (All-weaker (λ values. (values.first ≤ values.last) × (values.last < value_count)) (λ values. values.last < value_count) (λ values both. both.1) set all),
)

pub items_small : (set : List ReadValues) → All (λ values. values.first ≤ values.last) (values_of set) → All (λ values. values.last < value_count) (values_of set) → AreSmallValues set
items_small [] ordered within = All-nil (λ values. (values.first ≤ values.last) × (values.last < value_count))
items_small (values ∷ set) ordered within = All-cons (λ values. (values.first ≤ values.last) × (values.last < value_count)) values set
    (All-head (λ values. values.first ≤ values.last) (plain_values values) (values_of set) ordered, All-head (λ values. values.last < value_count) (plain_values values) (values_of set) within)
    (items_small set (All-tail (λ values. values.first ≤ values.last) (plain_values values) (values_of set) ordered) (All-tail (λ values. values.last < value_count) (plain_values values) (values_of set) within))
