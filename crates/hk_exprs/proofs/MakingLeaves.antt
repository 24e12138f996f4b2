-- Trees without parts.
use Rattle.std.proofs.Common.{◌≡◌, ℕ, List, Bool, true, false, Result, Ok, Err, Option, None, Some, bytes_eq, codes, if◌then◌else◌, arith, refl, sym, subst, ap, ◌∙◌}
use Rattle.hk_spec.specs.declared.expressions.NumExpr.{NumExpr}
use Rattle.hk_spec.specs.declared.expressions.SetExpr.{SetExpr}
use Rattle.hk_spec.specs.declared.expressions.Cond.{Cond}
use Rattle.hk_spec.specs.declared.expressions.Cond.TheVariants.{Always, Never}
use Rattle.hk_text.specs.Numbers.{IsNumber}
use Rattle.hk_exprs.proofs.MakingConds.{cond_always, cond_never}
use Rattle.hk_text.proofs.TokenTexts.{nonzero_text}
use Rattle.hk_terms.specs.CondTexts as conds
use Rattle.hk_exprs.specs.inside.Machines as machine
use Rattle.hk_exprs.specs.inside.Machines.{as_num, as_cond}
use Rattle.hk_terms.specs.Names.{Names, IsNumName, IsSetName, num_depth, set_depth}
use Rattle.hk_terms.specs.NumTexts as nums
use Rattle.hk_terms.specs.NumTexts.{NumText, IsSigned}
use Rattle.hk_terms.specs.Outcomes.{IsNumOf, IsSetOf}
use Rattle.hk_terms.specs.SetTexts as sets
use Rattle.hk_terms.specs.SetTexts.{SetText}
use Rattle.hk_exprs.specs.inside.Standing.{BothOrNone, neither, both_there, IsMadeNum, IsMadeSet, IsMadeCond, made_well, made_misnamed, made_large}
use Rattle.hk_terms.specs.declared.flaws.Flaw.{Flaw}
use Rattle.hk_terms.specs.declared.flaws.Flaw.TheVariants.{Name, Limit}
use Rattle.hk_exprs.specs.declared.operands.Tree.{Tree}

-- a number without parts
pub num_leaf : (names : Names) (text : NumText) (e : NumExpr) {tree : Tree NumExpr} → num_depth text ≡ 1 → IsNumOf names text (Ok e) → tree ≡ record { root = e; depth = 1 } → IsMadeNum names text (Ok tree)
num_leaf names text e one is same = subst (λ tree. IsMadeNum names text (Ok tree)) (sym same) (made_well (record { text_is = is.0; good = is.1 }) is.2 is.3 (sym one) (omega (arith, one)))

-- a set without parts
pub set_leaf : (names : Names) (text : SetText) (e : SetExpr) {tree : Tree SetExpr} → set_depth text ≡ 1 → IsSetOf names text (Ok e) → tree ≡ record { root = e; depth = 1 } → IsMadeSet names text (Ok tree)
set_leaf names text e one is same = subst (λ tree. IsMadeSet names text (Ok tree)) (sym same) (made_well (record { text_is = is.0; good = is.1 }) is.2 is.3 (sym one) (omega (arith, one)))

-- a number or a set whose word stands for none
pub num_misnamed : (names : Names) (word : List ℕ) → (IsNumName names word → ⊥) → IsMadeNum names (nums.Named word) (Err Name)
num_misnamed names word none = made_misnamed none

pub set_misnamed : (names : Names) (word : List ℕ) → (IsSetName names word → ⊥) → IsMadeSet names (sets.Named word) (Err Name)
set_misnamed names word none = made_misnamed none

-- what is wrong with an expression of a number, of a set
pub num_flawed : (names : Names) (text : NumText) (flaw : Flaw) → IsNumOf names text (Err flaw) → IsMadeNum names text (Err flaw)
num_flawed names text Name is = made_misnamed is
num_flawed names text Limit is = made_large is.0 is.1

-- `-` before 0 is no number
pub signed_none : (names : Names) (digits : List ℕ) → bytes_eq digits (codes "0") ≡ true → BothOrNone (IsMadeNum names) (as_num (machine.Signed digits)) None
signed_none names digits same = subst (λ (test : Bool). BothOrNone (IsMadeNum names) (if test then None else Some (nums.Number true digits)) None) (sym same) neither

-- `-` before the digits of another number
pub signed_some : (names : Names) (digits : List ℕ) {made : Result (Tree NumExpr) Flaw} → bytes_eq digits (codes "0") ≡ false → IsMadeNum names (nums.Number true digits) made → BothOrNone (IsMadeNum names) (as_num (machine.Signed digits)) (Some made)
signed_some names digits {made = made} none is = subst (λ (test : Bool). BothOrNone (IsMadeNum names) (if test then None else Some (nums.Number true digits)) (Some made)) (sym none) (both_there is)

-- another number than 0
pub not_zero : (digits : List ℕ) {n : ℕ} → IsNumber digits n → bytes_eq digits (codes "0") ≡ false → IsSigned true digits
not_zero digits number none = nonzero_text number none

abbrev truth_of : Bool → Bool → Option conds.CondText
truth_of true other = Some (conds.Truth true)
truth_of false true = Some (conds.Truth false)
truth_of false false = None

truth_is : (word : List ℕ) (test other : Bool) → bytes_eq word (codes "true") ≡ test → bytes_eq word (codes "false") ≡ other → truth_of test other ≡ as_cond (machine.Word word)
truth_is word true other is also = ap (λ (t : Bool). if t then Some (conds.Truth true) else (if bytes_eq word (codes "false") then Some (conds.Truth false) else None)) (sym is)
truth_is word false true is also =
    ap (λ (t : Bool). if t then Some (conds.Truth false) else None) (sym also) ∙ ap (λ (t : Bool). if t then Some (conds.Truth true) else (if bytes_eq word (codes "false") then Some (conds.Truth false) else None)) (sym is)
truth_is word false false is also =
    ap (λ (t : Bool). if t then Some (conds.Truth false) else None) (sym also) ∙ ap (λ (t : Bool). if t then Some (conds.Truth true) else (if bytes_eq word (codes "false") then Some (conds.Truth false) else None)) (sym is)

truth : (names : Names) (word : List ℕ) (test other : Bool) {made : Option (Result (Tree Cond) Flaw)} → bytes_eq word (codes "true") ≡ test → bytes_eq word (codes "false") ≡ other → BothOrNone (IsMadeCond names) (truth_of test other) made → BothOrNone (IsMadeCond names) (as_cond (machine.Word word)) made
truth names word test other {made = made} is also there = subst (λ text. BothOrNone (IsMadeCond names) text made) (truth_is word test other is also) there

-- the word of always
pub word_always : (names : Names) (word : List ℕ) {tree : Tree Cond} → bytes_eq word (codes "true") ≡ true → tree ≡ record { root = Always; depth = 1 } → BothOrNone (IsMadeCond names) (as_cond (machine.Word word)) (Some (Ok tree))
word_always names word {tree = tree} same leaf = truth names word true (bytes_eq word (codes "false")) same refl (both_there (subst (λ tree. IsMadeCond names (conds.Truth true) (Ok tree)) (sym leaf) (made_well (cond_always names) tt tt refl (omega arith))))

-- the word of never
pub word_never : (names : Names) (word : List ℕ) {tree : Tree Cond} → bytes_eq word (codes "true") ≡ false → bytes_eq word (codes "false") ≡ true → tree ≡ record { root = Never; depth = 1 } → BothOrNone (IsMadeCond names) (as_cond (machine.Word word)) (Some (Ok tree))
word_never names word {tree = tree} not_always same leaf = truth names word false true not_always same (both_there (subst (λ tree. IsMadeCond names (conds.Truth false) (Ok tree)) (sym leaf) (made_well (cond_never names) tt tt refl (omega arith))))

-- another word is no truth
pub word_no_truth : (names : Names) (word : List ℕ) → bytes_eq word (codes "true") ≡ false → bytes_eq word (codes "false") ≡ false → BothOrNone (IsMadeCond names) (as_cond (machine.Word word)) None
word_no_truth names word not_always not_never = truth names word false false not_always not_never neither
