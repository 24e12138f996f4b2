-- What is read of an operand that no parenthesis stands around.
use Rattle.std.specs.Prelude.{ℕ, ◌^◌, false, if◌then◌else◌, List, Result, Ok, Err}
use Rattle.hk_spec.specs.declared.expressions.SetExpr.TheVariants.{Lit}
use Rattle.hk_terms.specs.declared.flaws.Flaw.{Flaw}
use Rattle.hk_terms.specs.declared.flaws.Flaw.TheVariants.{Name, Limit}
use Rattle.hk_terms.specs.declared.atoms.Atom.{Atom}
use Rattle.hk_terms.specs.declared.atoms.Atom.TheVariants as atom
use Rattle.hk_terms.specs.Operands.{AtomThen, Word, Num, Set}
use Rattle.hk_terms.specs.Names.{Names, SmallSet}
use Rattle.hk_terms.specs.NumTexts as nums
use Rattle.hk_terms.specs.Outcomes.{IsSetOf}
use Rattle.hk_terms.specs.SetTexts as sets

-- what is made of numbers in braces: the set that is written so; or Limit where a number passes its limit
abbrev pub IsBitsOf : List (List ℕ) → Result ℕ Flaw → Type 0
IsBitsOf numbers (Ok bits) = (names : Names) → IsSetOf names (sets.Values numbers) (Ok (Lit bits))
IsBitsOf numbers (Err Name) = ⊥
IsBitsOf numbers (Err Limit) = SmallSet (sets.Values numbers) → ⊥

-- the texts begin with numbers in braces, of which this is made
pub record ReadsValues (texts : List (List ℕ)) (made : Result ℕ Flaw) (rest : List (List ℕ)) : Type 0 where
  pub numbers : List (List ℕ)
  pub begins : AtomThen texts (Set (sets.Values numbers)) rest
  pub is_made : IsBitsOf numbers made

-- the texts begin with the operand that the atom stands for
abbrev pub ReadsAtom : List (List ℕ) → Atom → List (List ℕ) → Type 0
ReadsAtom texts (atom.Word word) rest = AtomThen texts (Word word.now) rest
ReadsAtom texts (atom.Number digits) rest = AtomThen texts (Num (nums.Number false digits.now)) rest
ReadsAtom texts (atom.Item word) rest = AtomThen texts (Num (nums.Item word.now)) rest
ReadsAtom texts (atom.Low word) rest = AtomThen texts (Num (nums.Low word.now)) rest
ReadsAtom texts (atom.High word) rest = AtomThen texts (Num (nums.High word.now)) rest
ReadsAtom texts atom.One rest = AtomThen texts (Set sets.One) rest
ReadsAtom texts (atom.Values made) rest = ReadsValues texts made rest
