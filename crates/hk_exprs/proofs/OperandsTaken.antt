-- What is kept of an operand that no parenthesis stands around.
use Rattle.std.proofs.Common.{◌≡◌, ℕ, Bool, true, List, Option, None, Some, Result, Ok, Err, IfSome, IsNone, arith, refl, sym, ap, ◌∙◌, subst}
use Rattle.hk_spec.specs.declared.expressions.NumExpr.{NumExpr}
use Rattle.hk_spec.specs.declared.expressions.SetExpr.{SetExpr}
use Rattle.hk_exprs.proofs.MakingLeaves.{num_leaf, set_leaf}
use Rattle.hk_terms.specs.Atoms.{IsBitsOf}
use Rattle.hk_spec.specs.declared.expressions.SetExpr.TheVariants.{Lit, One, rolls-One}
use Rattle.hk_spec.specs.declared.expressions.SetExpr.TheOpen.{SetExpr-F}
use Rattle.hk_spec.specs.declared.expressions.SetExpr.TheFolds.{fold-roll-SetExpr}
use Rattle.hk_spec.specs.Scopes.{set_fits, set_fits_step}
use Rattle.hk_exprs.proofs.MakingSets.{set_is}
use Rattle.hk_terms.specs.Names.{scope_of}
use Rattle.hk_terms.specs.SetTexts.{SetText}
use Rattle.hk_terms.specs.Trees.{set_text, set_text_step}
use Rattle.hk_terms.specs.Names.{Names, NamesNum, num_depth}
use Rattle.hk_terms.specs.NumTexts.{NumText}
use Rattle.hk_terms.specs.Outcomes.{IsNumOf}
use Rattle.hk_terms.specs.SetTexts as sets
use Rattle.hk_exprs.specs.inside.Standing.{IsMadeNum, IsMadeSet, made_misnamed, made_large}
use Rattle.hk_terms.specs.declared.flaws.Flaw.{Flaw}
use Rattle.hk_terms.specs.declared.flaws.Flaw.TheVariants.{Name, Limit}
use Rattle.hk_exprs.specs.declared.operands.Tree.{Tree}

bits_flawed : (names : Names) (numbers : List (List ℕ)) (flaw : Flaw) → IsBitsOf numbers (Err flaw) → IsMadeSet names (sets.Values numbers) (Err flaw)
bits_flawed names numbers Name is = absurd is
bits_flawed names numbers Limit is = made_large tt (λ both. is both.0)

-- a number in braces passes its limit
pub values_flawed : (names : Names) (numbers : List (List ℕ)) {bits : Result ℕ Flaw} {flaw : Flaw} → bits ≡ Err flaw → IsBitsOf numbers bits → IsMadeSet names (sets.Values numbers) (Err flaw)
values_flawed names numbers {flaw = flaw} same is = bits_flawed names numbers flaw (subst (IsBitsOf numbers) same is)

bits_well : (names : Names) (numbers : List (List ℕ)) (bits : ℕ) {tree : Tree SetExpr} → tree ≡ record { root = Lit bits; depth = 1 } → IsBitsOf numbers (Ok bits) → IsMadeSet names (sets.Values numbers) (Ok tree)
bits_well names numbers bits leaf is = set_leaf names (sets.Values numbers) (Lit bits) refl (is names) leaf

-- the set of the numbers in braces
pub values_well : (names : Names) (numbers : List (List ℕ)) {bits : Result ℕ Flaw} {set : ℕ} {tree : Tree SetExpr} → bits ≡ Ok set → tree ≡ record { root = Lit set; depth = 1 } → IsBitsOf numbers bits → IsMadeSet names (sets.Values numbers) (Ok tree)
values_well names numbers {set = set} same leaf is = bits_well names numbers set leaf (subst (IsBitsOf numbers) same is)

-- no number is there for a word
pub found_none : (names : Names) (text : NumText) {found : Option NumExpr} → found ≡ None → (IsNone found → NamesNum names text → ⊥) → IsMadeNum names text (Err Name)
found_none names text same none = made_misnamed (subst (λ found. IsNone found → NamesNum names text → ⊥) same none refl)

-- a number without parts is there
pub found_some : (names : Names) (text : NumText) {found : Option NumExpr} {e : NumExpr} {tree : Tree NumExpr} → num_depth text ≡ 1 → found ≡ Some e → tree ≡ record { root = e; depth = 1 } → IfSome found (λ e. IsNumOf names text (Ok e)) → IsMadeNum names text (Ok tree)
found_some names text {e = e} one same leaf is = num_leaf names text e one (subst (λ found. IfSome found (λ e. IsNumOf names text (Ok e))) same is) leaf

one_text : (names : Names) → set_text names One ≡ sets.One
one_text names = ap (set_text names) (sym rolls-One) ∙ fold-roll-SetExpr SetText (set_text_step names) SetExpr-F.One

one_fits : (names : Names) → set_fits (scope_of names) One ≡ true
one_fits names = ap (set_fits (scope_of names)) (sym rolls-One) ∙ fold-roll-SetExpr Bool (set_fits_step (scope_of names)) SetExpr-F.One

-- the set of `v` alone
pub one_well : (names : Names) {tree : Tree SetExpr} → tree ≡ record { root = One; depth = 1 } → IsMadeSet names sets.One (Ok tree)
one_well names leaf =
    let is = set_is names sets.One One (one_text names) (one_fits names) (omega arith) in
    set_leaf names sets.One One refl (is.text_is, is.good, tt, tt) leaf
