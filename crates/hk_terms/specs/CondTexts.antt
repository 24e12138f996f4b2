-- Conditions as they are written, with words in the places of names.
use Rattle.std.specs.Prelude.{ℕ, Bool, true, false, List, [], ◌∷◌, ◌++◌, codes}
use Rattle.hk_terms.specs.SetTexts.{SetText, set_texts, in_parentheses, IsSetText}
use Rattle.hk_terms.specs.NumTexts.{NumText, num_texts, IsNumText}

-- how two numbers compare
pub data Comparison : Type 0 where
  AtMost : Comparison
  Below : Comparison
  AtLeast : Comparison
  Above : Comparison
  Equal : Comparison

-- always or never; two numbers compared; the value at hand is in a set, or not; a set is within another; both conditions, or one or both; not
pub data CondText : Type 0 where
  Truth : (holds : Bool) → CondText
  Compared : (comparison : Comparison) (a b : NumText) → CondText
  Member : (inside : Bool) (set : SetText) → CondText
  Subset : (a b : SetText) → CondText
  Joined : (both : Bool) (a b : CondText) → CondText
  Not : (a : CondText) → CondText

-- the word of a truth
abbrev pub truth_word : Bool → List ℕ
truth_word true = codes "true"
truth_word false = codes "false"

-- the token of a comparison
abbrev pub comparison_mark : Comparison → List ℕ
comparison_mark AtMost = codes "<="
comparison_mark Below = codes "<"
comparison_mark AtLeast = codes ">="
comparison_mark Above = codes ">"
comparison_mark Equal = codes "=="

-- the word between the value and a set
abbrev pub member_word : Bool → List ℕ
member_word true = codes "in"
member_word false = codes "notin"

-- the word between two conditions
abbrev pub joining_word : Bool → List ℕ
joining_word true = codes "and"
joining_word false = codes "or"

-- the tokens of a condition
abbrev pub cond_texts : CondText → List (List ℕ)
cond_texts (Truth holds) = truth_word holds ∷ []
cond_texts (Compared comparison a b) = in_parentheses (num_texts a ++ (comparison_mark comparison ∷ num_texts b))
cond_texts (Member inside set) = in_parentheses (codes "v" ∷ member_word inside ∷ set_texts set)
cond_texts (Subset a b) = in_parentheses (set_texts a ++ (codes "sub" ∷ set_texts b))
cond_texts (Joined both a b) = in_parentheses (cond_texts a ++ (joining_word both ∷ cond_texts b))
cond_texts (Not a) = in_parentheses (codes "not" ∷ cond_texts a)

-- the condition is well written
abbrev pub IsCondText : CondText → Type 0
IsCondText (Truth holds) = Unit {0}
IsCondText (Compared comparison a b) = IsNumText a × IsNumText b
IsCondText (Member inside set) = IsSetText set
IsCondText (Subset a b) = IsSetText a × IsSetText b
IsCondText (Joined both a b) = IsCondText a × IsCondText b
IsCondText (Not a) = IsCondText a
