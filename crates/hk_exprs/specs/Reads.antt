-- What the reader of expressions answers.
pub use Rattle.hk_terms.specs.Outcomes.{IsFew, IsCondOf, IsNumOf, IsSetOf}
use Rattle.std.specs.Prelude.{◌≡◌, ◌≤◌, ◌++◌, ℕ, List, Result, Ok, Err}
use Rattle.hk_spec.specs.declared.expressions.NumExpr.{NumExpr}
use Rattle.hk_spec.specs.declared.expressions.SetExpr.{SetExpr}
use Rattle.hk_spec.specs.declared.expressions.Cond.{Cond}
use Rattle.hk_terms.specs.declared.flaws.Flaw.{Flaw}
use Rattle.hk_terms.specs.declared.flaws.Flaw.TheVariants.{Name, Limit}
use Rattle.hk_terms.specs.CondTexts.{CondText, cond_texts, IsCondText}
use Rattle.hk_terms.specs.Names.{Names, NamesNum, SmallNum, num_depth}
use Rattle.hk_terms.specs.NumTexts.{NumText, num_texts, IsNumText}
use Rattle.hk_terms.specs.SetTexts.{SetText, set_texts, IsSetText}

-- the texts are those of a condition, of which this is made
pub record ReadsCond (names : Names) (texts : List (List ℕ)) (made : Result Cond Flaw) : Type 0 where
  pub text : CondText
  pub written : IsCondText text
  pub texts_are : texts ≡ cond_texts text
  pub is_made : IsCondOf names text made

pub record ReadsNum (names : Names) (texts : List (List ℕ)) (made : Result NumExpr Flaw) : Type 0 where
  pub text : NumText
  pub written : IsNumText text
  pub texts_are : texts ≡ num_texts text
  pub is_made : IsNumOf names text made

pub record ReadsSet (names : Names) (texts : List (List ℕ)) (made : Result SetExpr Flaw) : Type 0 where
  pub text : SetText
  pub written : IsSetText text
  pub texts_are : texts ≡ set_texts text
  pub is_made : IsSetOf names text made

-- what is made of two expressions of numbers: both; or Name where a name of one doesn't stand for what its place asks; or else Limit
abbrev pub IsPairOf : Names → NumText → NumText → Result (NumExpr × NumExpr) Flaw → Type 0
IsPairOf names low high (Ok e) = IsNumOf names low (Ok e.0) × IsNumOf names high (Ok e.1)
IsPairOf names low high (Err Name) = NamesNum names low × NamesNum names high → ⊥
IsPairOf names low high (Err Limit) = (NamesNum names low × NamesNum names high) × ((SmallNum low × (num_depth low ≤ 32)) × (SmallNum high × (num_depth high ≤ 32)) → ⊥)

-- the texts are those of two expressions of numbers, one after the other, of which this is made
pub record ReadsPair (names : Names) (texts : List (List ℕ)) (made : Result (NumExpr × NumExpr) Flaw) : Type 0 where
  pub low : NumText
  pub high : NumText
  pub low_written : IsNumText low
  pub high_written : IsNumText high
  pub texts_are : texts ≡ num_texts low ++ num_texts high
  pub is_made : IsPairOf names low high made
