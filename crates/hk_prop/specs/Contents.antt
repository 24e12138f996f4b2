-- Where a node of a search stands.
use Rattle.std.specs.Prelude.{ℕ, ◌+◌, ◌==◌, Bool, List, [], ◌∷◌, length, map, position, Option}
use Rattle.std.specs.List.{list_any}
use Rattle.hk_group.specs.Problems.{PlainProblem}
use Rattle.hk_sweep.specs.Loose.{group_shape}
use Rattle.hk_table.specs.Opening.{opening_table}
use Rattle.hk_table.specs.Tables.{PlainRow}
use Rattle.hk_text.specs.Sets.{members}

-- a table, as its layers of rows
abbrev pub PlainTable : Type 0
PlainTable = List (List PlainRow)

-- the set of values of each variable, and a table for each group
pub record Content : Type 0 where
  pub domains : List ℕ
  pub tables : List PlainTable

-- where the root stands: at the problem's own sets, and the opening table of each group
abbrev pub opening_content : PlainProblem → Content
opening_content p = record { domains = p.domains; tables = map (λ g. opening_table (group_shape g p.domains)) p.groups }

-- how many values the variables have left, added up
abbrev pub values_left : List ℕ → ℕ
values_left [] = 0
values_left (set ∷ sets) = length (members set) + values_left sets

-- the first variable without a value
abbrev pub first_empty : List ℕ → Option ℕ
first_empty domains = position (λ set. set == 0) domains

-- some variable has no value
abbrev pub has_empty : List ℕ → Bool
has_empty domains = list_any (λ set. set == 0) domains
