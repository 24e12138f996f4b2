-- What is made of an expression as it is written: the tree, or its flaw.
use Rattle.std.specs.Prelude.{◌≡◌, ◌≤◌, length, Result, Ok, Err, IsTrue}
use Rattle.hk_spec.specs.Scopes.{is_good_num, is_good_set, is_good_cond}
use Rattle.hk_spec.specs.declared.expressions.NumExpr.{NumExpr}
use Rattle.hk_spec.specs.declared.expressions.SetExpr.{SetExpr}
use Rattle.hk_spec.specs.declared.expressions.Cond.{Cond}
use Rattle.hk_terms.specs.declared.flaws.Flaw.{Flaw}
use Rattle.hk_terms.specs.declared.flaws.Flaw.TheVariants.{Name, Limit}
use Rattle.hk_terms.specs.CondTexts.{CondText}
use Rattle.hk_terms.specs.Names.{Names, scope_of, NamesSet, NamesNum, NamesCond, SmallSet, SmallNum, SmallCond, set_depth, num_depth, cond_depth}
use Rattle.hk_terms.specs.NumTexts.{NumText}
use Rattle.hk_terms.specs.SetTexts.{SetText}
use Rattle.hk_terms.specs.Trees.{set_text, num_text, cond_text}

-- few enough names that their places fit
pub record IsFew (names : Names) : Type 0 where
  pub params : length names.params ≤ 16
  pub down : length names.down ≤ 32
  pub up : length names.up ≤ 32

-- what is made of a condition as it is written: the condition; or Name where a name doesn't stand for what its place asks; or else Limit where a number or the depth passes its limit
abbrev pub IsCondOf : Names → CondText → Result Cond Flaw → Type 0
IsCondOf names text (Ok c) = (cond_text names c ≡ text) × IsTrue (is_good_cond (scope_of names) c) × NamesCond names text × SmallCond text
IsCondOf names text (Err Name) = NamesCond names text → ⊥
IsCondOf names text (Err Limit) = NamesCond names text × (SmallCond text × (cond_depth text ≤ 32) → ⊥)

-- the same of an expression of a number
abbrev pub IsNumOf : Names → NumText → Result NumExpr Flaw → Type 0
IsNumOf names text (Ok e) = (num_text names e ≡ text) × IsTrue (is_good_num (scope_of names) e) × NamesNum names text × SmallNum text
IsNumOf names text (Err Name) = NamesNum names text → ⊥
IsNumOf names text (Err Limit) = NamesNum names text × (SmallNum text × (num_depth text ≤ 32) → ⊥)

-- the same of an expression of a set
abbrev pub IsSetOf : Names → SetText → Result SetExpr Flaw → Type 0
IsSetOf names text (Ok e) = (set_text names e ≡ text) × IsTrue (is_good_set (scope_of names) e) × NamesSet names text × SmallSet text
IsSetOf names text (Err Name) = NamesSet names text → ⊥
IsSetOf names text (Err Limit) = NamesSet names text × (SmallSet text × (set_depth text ≤ 32) → ⊥)
