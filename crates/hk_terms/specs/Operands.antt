-- The marks between operands, and the operands that no parenthesis stands around.
use Rattle.std.specs.Prelude.{◌≡◌, ℕ, true, false, if◌then◌else◌, List, ◌∷◌, ◌++◌, codes}
use Rattle.hk_text.specs.Lexemes.{IsWord}
use Rattle.hk_text.specs.Numbers.{IsNumber}
use Rattle.hk_terms.specs.declared.marks.Mark.{Mark}
use Rattle.hk_terms.specs.declared.marks.Mark.TheVariants.{Union, Common, Without, Plus, Minus, Times, AtMost, Below, AtLeast, Above, Equal, In, NotIn, Sub, And, Or, Comma}
use Rattle.hk_terms.specs.SetTexts as sets
use Rattle.hk_terms.specs.SetTexts.{SetText, set_mark, listed, AreRisingNumbers}
use Rattle.hk_terms.specs.NumTexts as nums
use Rattle.hk_terms.specs.NumTexts.{NumText, num_mark}
use Rattle.hk_terms.specs.CondTexts as conds
use Rattle.hk_terms.specs.CondTexts.{CondText, comparison_mark, member_word, joining_word}

-- the text of a mark
abbrev pub mark_text : Mark → List ℕ
mark_text Union = set_mark sets.Union
mark_text Common = set_mark sets.Common
mark_text Without = set_mark sets.Without
mark_text Plus = num_mark nums.Plus
mark_text Minus = num_mark nums.Minus
mark_text Times = num_mark nums.Times
mark_text AtMost = comparison_mark conds.AtMost
mark_text Below = comparison_mark conds.Below
mark_text AtLeast = comparison_mark conds.AtLeast
mark_text Above = comparison_mark conds.Above
mark_text Equal = comparison_mark conds.Equal
mark_text In = member_word true
mark_text NotIn = member_word false
mark_text Sub = codes "sub"
mark_text And = joining_word true
mark_text Or = joining_word false
mark_text Comma = codes ","

-- an operand that was taken: a word, of which it isn't known yet what it stands for; `-` and digits; or an expression
pub data Operand : Type 0 where
  Word : (word : List ℕ) → Operand
  Signed : (digits : List ℕ) → Operand
  Num : (e : NumText) → Operand
  Set : (e : SetText) → Operand
  Cond : (c : CondText) → Operand

-- an operand that no parenthesis stands around, and the rest. A word goes on into `[i]`, `.lo` or `.hi` where `[` or `.` follows
pub data AtomThen : List (List ℕ) → Operand → List (List ℕ) → Type 0 where
  atom_word : {texts rest : List (List ℕ)} {word : List ℕ}
      → texts ≡ word ∷ rest → IsWord word
      → ((more : List (List ℕ)) → rest ≡ codes "[" ∷ more → ⊥) → ((more : List (List ℕ)) → rest ≡ codes "." ∷ more → ⊥)
      → AtomThen texts (Word word) rest
  atom_item : {texts rest : List (List ℕ)} {word : List ℕ}
      → texts ≡ word ∷ codes "[" ∷ codes "i" ∷ codes "]" ∷ rest → IsWord word → AtomThen texts (Num (nums.Item word)) rest
  atom_low : {texts rest : List (List ℕ)} {word : List ℕ}
      → texts ≡ word ∷ codes "." ∷ codes "lo" ∷ rest → IsWord word → AtomThen texts (Num (nums.Low word)) rest
  atom_high : {texts rest : List (List ℕ)} {word : List ℕ}
      → texts ≡ word ∷ codes "." ∷ codes "hi" ∷ rest → IsWord word → AtomThen texts (Num (nums.High word)) rest
  atom_number : {texts rest : List (List ℕ)} {digits : List ℕ} {n : ℕ}
      → texts ≡ digits ∷ rest → IsNumber digits n → AtomThen texts (Num (nums.Number false digits)) rest
  atom_one : {texts rest : List (List ℕ)}
      → texts ≡ codes "{" ∷ codes "v" ∷ codes "}" ∷ rest → AtomThen texts (Set sets.One) rest
  atom_values : {texts numbers rest : List (List ℕ)}
      → texts ≡ codes "{" ∷ (listed numbers ++ (codes "}" ∷ rest)) → AreRisingNumbers numbers → AtomThen texts (Set (sets.Values numbers)) rest
