-- The passes of a node: revise all tables, remove what they don't support, and again while that removes something.
use Rattle.std.specs.Prelude.{ℕ, zero, suc, ◌+◌, ◌==◌, ◌||◌, ℤ, Bool, if◌then◌else◌, List, [], ◌∷◌}
use Rattle.std.specs.List.{filter}
use Rattle.hk_group.specs.Groups.{PlainGroup}
use Rattle.hk_group.specs.Problems.{PlainProblem}
use Rattle.hk_spec.specs.Meanings.{set_of}
use Rattle.hk_sweep.specs.Tight.{tight_revision}
use Rattle.hk_text.specs.Sets.{members}
use Rattle.hk_prop.specs.Contents.{PlainTable, Content, values_left, has_empty}
use Rattle.hk_prop.specs.Supports.{all_allow}

-- the tight revision of each group's table, all under the same domains
abbrev pub tight_tables : List PlainGroup → List ℕ → List ℕ → ℤ → ℕ → List PlainTable → List PlainTable
tight_tables (g ∷ groups) sets domains best width (table ∷ tables) = tight_revision g sets domains best width table ∷ tight_tables groups sets domains best width tables
tight_tables _ sets domains best width _ = []

-- the values of a set that pass a test, as a set
abbrev pub values_that : (ℕ → Bool) → ℕ → ℕ
values_that passes set = set_of (filter passes (members set))

-- of the sets of this variable and of the ones after it, the values that are allowed
abbrev pub pruned_from : (ℕ → ℕ → Bool) → ℕ → List ℕ → List ℕ
pruned_from allowed variable [] = []
pruned_from allowed variable (set ∷ sets) = values_that (allowed variable) set ∷ pruned_from allowed (variable + 1) sets

-- of each variable the values that the tables of all groups allow
abbrev pub pruned : List ℕ → List PlainGroup → List PlainTable → List ℕ → List ℕ
pruned sets groups tables domains = pruned_from (all_allow sets groups tables) 0 domains

-- one pass: each table becomes its tight revision under the domains at the opening of the pass, and then each value that
-- some group with its variable doesn't support is removed
abbrev pub pass : PlainProblem → ℕ → ℤ → Content → Content
pass p width best at =
    let tables = tight_tables p.groups p.domains at.domains best width at.tables in
    record { domains = pruned p.domains p.groups tables at.domains; tables = tables }

-- the passes of a node end with the one that leaves a domain empty, or removes nothing: as many values are left as before
abbrev pub ends_with : Content → Content → Bool
ends_with before after = has_empty after.domains || values_left after.domains == values_left before.domains

-- the passes of a node: the tables of each, first to last, and where the last one leaves the node
pub record NodePasses : Type 0 where
  pub each : List (List PlainTable)
  pub last : Content

-- a pass, and the passes after it, unless the passes end with it
abbrev pub followed_by : Content → Content → NodePasses → NodePasses
followed_by before after later = if ends_with before after then record { each = after.tables ∷ []; last = after } else record { each = after.tables ∷ later.each; last = later.last }

-- the passes from a content on, of which there are so many and one more at most
abbrev pub passes_from : PlainProblem → ℕ → ℤ → ℕ → Content → NodePasses
passes_from p width best zero at = let next = pass p width best at in record { each = next.tables ∷ []; last = next }
passes_from p width best (suc more) at = let next = pass p width best at in followed_by at next (passes_from p width best more next)

-- the passes of a node that begins at a content. Each but the last removes a value, so that there are no more than there
-- are values, and one more
abbrev pub node_passes : PlainProblem → ℕ → ℤ → Content → NodePasses
node_passes p width best at = passes_from p width best (values_left at.domains) at
