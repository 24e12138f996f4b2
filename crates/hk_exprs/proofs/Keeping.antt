-- What an operand, a frame or a content of the machine is, where it is known what is kept of it.
use Rattle.std.proofs.Common.{◌≡◌, ℕ, List, Result, subst}
use Rattle.std.specs.Borrow.{Bor}
use Rattle.hk_spec.specs.declared.expressions.NumExpr.{NumExpr}
use Rattle.hk_spec.specs.declared.expressions.SetExpr.{SetExpr}
use Rattle.hk_spec.specs.declared.expressions.Cond.{Cond}
use Rattle.hk_text.specs.Numbers.{IsNumber}
use Rattle.hk_terms.specs.CondTexts.{CondText}
use Rattle.hk_exprs.specs.inside.Machines as machine
use Rattle.hk_terms.specs.Names.{Names}
use Rattle.hk_terms.specs.NumTexts.{NumText}
use Rattle.hk_terms.specs.SetTexts.{SetText}
use Rattle.hk_exprs.specs.inside.Standing.{IsKept, IsMadeNum, IsMadeSet, IsMadeCond, kept_word, kept_signed, kept_num, kept_set, kept_cond}
use Rattle.hk_terms.specs.declared.flaws.Flaw.{Flaw}
use Rattle.hk_exprs.specs.declared.operands.Operand.{Operand}
use Rattle.hk_exprs.specs.declared.operands.Operand.TheVariants as operand
use Rattle.hk_exprs.specs.declared.operands.Tree.{Tree}

module _ {names : Names} (P : machine.Operand → Type 0) where
  word_case : (word : Bor (List ℕ)) → P (machine.Word word.now) → (x : machine.Operand) → IsKept names x (operand.Word word) → P x
  word_case word is x kept_word = is

  -- what holds of a word
  pub from_word : {a : Operand} {word : Bor (List ℕ)} → a ≡ operand.Word word → P (machine.Word word.now) → (x : machine.Operand) → IsKept names x a → P x
  from_word {word = word} same is x kept = word_case word is x (subst (IsKept names x) same kept)

  signed_case : (digits : Bor (List ℕ)) → ((n : ℕ) → IsNumber digits.now n → P (machine.Signed digits.now)) → (x : machine.Operand) → IsKept names x (operand.Signed digits) → P x
  signed_case digits is x (kept_signed {n = n} number) = is n number

  -- what holds of `-` and digits
  pub from_signed : {a : Operand} {digits : Bor (List ℕ)} → a ≡ operand.Signed digits → ((n : ℕ) → IsNumber digits.now n → P (machine.Signed digits.now)) → (x : machine.Operand) → IsKept names x a → P x
  from_signed {digits = digits} same is x kept = signed_case digits is x (subst (IsKept names x) same kept)

  num_case : (made : Result (Tree NumExpr) Flaw) → ((text : NumText) → IsMadeNum names text made → P (machine.Num text)) → (x : machine.Operand) → IsKept names x (operand.Num made) → P x
  num_case made is x (kept_num {text = text} made_of) = is text made_of

  -- what holds of a number
  pub from_num : {a : Operand} {made : Result (Tree NumExpr) Flaw} → a ≡ operand.Num made → ((text : NumText) → IsMadeNum names text made → P (machine.Num text)) → (x : machine.Operand) → IsKept names x a → P x
  from_num {made = made} same is x kept = num_case made is x (subst (IsKept names x) same kept)

  set_case : (made : Result (Tree SetExpr) Flaw) → ((text : SetText) → IsMadeSet names text made → P (machine.Set text)) → (x : machine.Operand) → IsKept names x (operand.Set made) → P x
  set_case made is x (kept_set {text = text} made_of) = is text made_of

  -- what holds of a set
  pub from_set : {a : Operand} {made : Result (Tree SetExpr) Flaw} → a ≡ operand.Set made → ((text : SetText) → IsMadeSet names text made → P (machine.Set text)) → (x : machine.Operand) → IsKept names x a → P x
  from_set {made = made} same is x kept = set_case made is x (subst (IsKept names x) same kept)

  cond_case : (made : Result (Tree Cond) Flaw) → ((text : CondText) → IsMadeCond names text made → P (machine.Cond text)) → (x : machine.Operand) → IsKept names x (operand.Cond made) → P x
  cond_case made is x (kept_cond {text = text} made_of) = is text made_of

  -- what holds of a condition
  pub from_cond : {a : Operand} {made : Result (Tree Cond) Flaw} → a ≡ operand.Cond made → ((text : CondText) → IsMadeCond names text made → P (machine.Cond text)) → (x : machine.Operand) → IsKept names x a → P x
  from_cond {made = made} same is x kept = cond_case made is x (subst (IsKept names x) same kept)
