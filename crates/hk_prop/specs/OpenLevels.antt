-- The levels of domains and diagrams in the middle of a search: one at the root, and one for each open branch.
use Rattle.std.specs.Prelude.{◌≡◌, List, [], ◌∷◌, Option, IfSome}
use Rattle.hk_table.specs.OpenBranches.{OpenBranch, open_branches}
use Rattle.hk_table.specs.declared.items.TraceItem.{TraceItem}
use Rattle.hk_prop.specs.Contents.{Content}

-- levels, the latest first, are those of open branches, the latest first: a level for each, with the tables that the list
-- holds before the branch, and the root's level below them
pub data AreLevelsOf : List OpenBranch → List Content → Type 0 where
  root_level : {root : Content} → AreLevelsOf [] (root ∷ [])
  branch_level : {branch : OpenBranch} {branches : List OpenBranch} {saved : Content} {below : List Content}
      → saved.tables ≡ branch.tables → AreLevelsOf branches below → AreLevelsOf (branch ∷ branches) (saved ∷ below)

-- where the list is told, the levels are those of its open branches
abbrev pub StandOpen : Option (List TraceItem) → List Content → Type 0
StandOpen told levels = IfSome told (λ items. AreLevelsOf (open_branches items) levels)
