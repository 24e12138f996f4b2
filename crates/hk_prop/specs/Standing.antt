-- What holds of every content in a search.
use Rattle.std.specs.Prelude.{◌≡◌, ◌+◌, ℤ, List, [], ◌∷◌, length}
use Rattle.hk_domains.specs.Domains.{AreSets}
use Rattle.hk_group.specs.Groups.{PlainGroup}
use Rattle.hk_group.specs.Problems.{PlainProblem}
use Rattle.hk_prop.specs.Contents.{PlainTable, Content}
use Rattle.hk_prop.specs.Keeping.{KeepsSolutions, AreInside}

-- each table has a layer for each variable of its group, and a last one
pub data AreLayered : List PlainGroup → List PlainTable → Type 0 where
  layered_none : AreLayered [] []
  layered_more : {g : PlainGroup} {groups : List PlainGroup} {table : PlainTable} {tables : List PlainTable} → length table ≡ length g.vars + 1 → AreLayered groups tables → AreLayered (g ∷ groups) (table ∷ tables)

-- every table keeps every solution in the domains below the bound; the domains are sets of values from 0 to 127, inside those
-- of the problem; and each table has the layers of its group
pub record IsStanding (p : PlainProblem) (best : ℤ) (at : Content) : Type 0 where
  pub keeps : KeepsSolutions p best at
  pub small : AreSets at.domains
  pub inside : AreInside at.domains p.domains
  pub layers : AreLayered p.groups at.tables
