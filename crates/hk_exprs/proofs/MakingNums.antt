-- What is made of numbers: with a mark between, after `-`, the less or the greater, and the number of values of a set.
use Rattle.std.proofs.Common.{◌≡◌, ◌+◌, ◌≤◌, max, Bool, true, false, ◌&&◌, Result, arith, sym, ap, ◌∙◌}
use Rattle.hk_kinds.specs.NumberLattices.{both_true, first_true}
use Rattle.hk_spec.specs.Scopes as scopes
use Rattle.hk_spec.specs.Scopes.{num_fits, num_fits_step}
use Rattle.hk_spec.specs.declared.expressions.NumExpr.{NumExpr}
use Rattle.hk_spec.specs.declared.expressions.NumExpr.TheOpen.{NumExpr-F}
use Rattle.hk_spec.specs.declared.expressions.NumExpr.TheVariants.{Card, Add, Least, Most, Minus, Negative, Times, rolls-Card, rolls-Add, rolls-Least, rolls-Most, rolls-Minus, rolls-Negative, rolls-Times}
use Rattle.hk_spec.specs.declared.expressions.NumExpr.TheViews.{roll-NumExpr}
use Rattle.hk_spec.specs.declared.expressions.NumExpr.TheFolds.{fold-roll-NumExpr, map-NumExpr}
use Rattle.hk_spec.specs.declared.expressions.SetExpr.{SetExpr}
use Rattle.hk_terms.proofs.Depths.{num_deep}
use Rattle.hk_exprs.proofs.MakingSets.{set_fit}
use Rattle.hk_exprs.proofs.MakingWholes.{good_from, made_of_one, made_of_two}
use Rattle.hk_terms.specs.Names.{scope_of}
use Rattle.hk_exprs.specs.inside.Making.{one_part, two_parts, whole_of_one, whole_of_two, num_operation, num_joined, choice, num_chosen}
use Rattle.hk_terms.specs.Names.{Names, NamesSet, NamesNum, SmallSet, SmallNum, set_depth, num_depth}
use Rattle.hk_terms.specs.NumTexts as nums
use Rattle.hk_terms.specs.NumTexts.{NumText, NumOperation, Choice}
use Rattle.hk_terms.specs.SetTexts.{SetText}
use Rattle.hk_exprs.specs.inside.Standing.{IsSet, IsNum, IsMadeSet, IsMadeNum}
use Rattle.hk_terms.specs.Trees.{num_text, num_text_step}
use Rattle.hk_terms.specs.declared.flaws.Flaw.{Flaw}
use Rattle.hk_terms.specs.declared.marks.Mark.{Mark}
use Rattle.hk_terms.specs.declared.marks.Mark.TheVariants as mark
use Rattle.hk_exprs.specs.declared.operands.Tree.{Tree}

module _ (names : Names) where
  -- how an expression is written, by its first layer
  pub written : (e : NumExpr) (layer : NumExpr-F NumExpr) → roll-NumExpr layer ≡ e → num_text names e ≡ num_text_step names (map-NumExpr NumExpr NumText (num_text names) layer)
  written e layer rolls = ap (num_text names) (sym rolls) ∙ fold-roll-NumExpr NumText (num_text_step names) layer

  -- whether it fits, by its first layer
  pub fitted : (e : NumExpr) (layer : NumExpr-F NumExpr) → roll-NumExpr layer ≡ e → num_fits (scope_of names) e ≡ num_fits_step (scope_of names) (map-NumExpr NumExpr Bool (num_fits (scope_of names)) layer)
  fitted e layer rolls = ap (num_fits (scope_of names)) (sym rolls) ∙ fold-roll-NumExpr Bool (num_fits_step (scope_of names)) layer

  -- an expression that is written so, fits and is not too deep is one of a specification
  pub num_is : (text : NumText) (e : NumExpr) → num_text names e ≡ text → num_fits (scope_of names) e ≡ true → num_depth text ≤ 32 → IsNum names text e
  num_is text e same fits small =
      let deep = num_deep names e in
      let alike = ap num_depth same in
      record { text_is = same; good = good_from (num_fits (scope_of names) e) (scopes.num_depth e) fits (omega (arith, deep, alike)) }

  -- the number fits
  pub num_fit : {text : NumText} {e : NumExpr} → IsNum names text e → num_fits (scope_of names) e ≡ true
  num_fit is = first_true _ _ is.good

  -- two of them fit
  pub fit_two : {x y : NumText} {a b : NumExpr} → IsNum names x a → IsNum names y b → (num_fits (scope_of names) a && num_fits (scope_of names) b) ≡ true
  fit_two h k = both_true _ _ (num_fit h) (num_fit k)

  written_two : (operation : NumOperation) {x y : NumText} {a b : NumExpr} → IsNum names x a → IsNum names y b → nums.Joined operation (num_text names a) (num_text names b) ≡ nums.Joined operation x y
  written_two operation h k = cc

  written_choice : (which : Choice) {x y : NumText} {a b : NumExpr} → IsNum names x a → IsNum names y b → nums.Chosen which (num_text names a) (num_text names b) ≡ nums.Chosen which x y
  written_choice which h k = cc

  joined_is : (m : Mark) (x y : NumText) (a b : NumExpr) → IsNum names x a → IsNum names y b → max (num_depth x) (num_depth y) + 1 ≤ 32 → IsNum names (nums.Joined (num_operation m) x y) (num_joined m a b)
  joined_is mark.Minus x y a b h k small = num_is _ (Minus a b) (written _ (NumExpr-F.Minus a b) (rolls-Minus a b) ∙ written_two nums.Minus h k) (fitted _ (NumExpr-F.Minus a b) (rolls-Minus a b) ∙ fit_two h k) small
  joined_is mark.Times x y a b h k small = num_is _ (Times a b) (written _ (NumExpr-F.Times a b) (rolls-Times a b) ∙ written_two nums.Times h k) (fitted _ (NumExpr-F.Times a b) (rolls-Times a b) ∙ fit_two h k) small
  joined_is _ x y a b h k small = num_is _ (Add a b) (written _ (NumExpr-F.Add a b) (rolls-Add a b) ∙ written_two nums.Plus h k) (fitted _ (NumExpr-F.Add a b) (rolls-Add a b) ∙ fit_two h k) small

  -- two numbers with a mark between
  pub nums_joined : (m : Mark) (x y : NumText) (a b : Result (Tree NumExpr) Flaw) → IsMadeNum names x a → IsMadeNum names y b → IsMadeNum names (nums.Joined (num_operation m) x y) (whole_of_two (num_joined m) (two_parts a b))
  nums_joined m x y a b h k = made_of_two (IsNum names x) (IsNum names y) (IsNum names (nums.Joined (num_operation m) x y)) (NamesNum names x) (NamesNum names y) (SmallNum x) (SmallNum y) (num_depth x) (num_depth y) (num_joined m) a b (λ p q. joined_is m x y p q) h k

  chosen_is : (greater : Bool) (x y : NumText) (a b : NumExpr) → IsNum names x a → IsNum names y b → max (num_depth x) (num_depth y) + 1 ≤ 32 → IsNum names (nums.Chosen (choice greater) x y) (num_chosen greater a b)
  chosen_is true x y a b h k small = num_is _ (Most a b) (written _ (NumExpr-F.Most a b) (rolls-Most a b) ∙ written_choice nums.Most h k) (fitted _ (NumExpr-F.Most a b) (rolls-Most a b) ∙ fit_two h k) small
  chosen_is false x y a b h k small = num_is _ (Least a b) (written _ (NumExpr-F.Least a b) (rolls-Least a b) ∙ written_choice nums.Least h k) (fitted _ (NumExpr-F.Least a b) (rolls-Least a b) ∙ fit_two h k) small

  -- the greater or the less of two numbers
  pub nums_chosen : (greater : Bool) (x y : NumText) (a b : Result (Tree NumExpr) Flaw) → IsMadeNum names x a → IsMadeNum names y b → IsMadeNum names (nums.Chosen (choice greater) x y) (whole_of_two (num_chosen greater) (two_parts a b))
  nums_chosen greater x y a b h k = made_of_two (IsNum names x) (IsNum names y) (IsNum names (nums.Chosen (choice greater) x y)) (NamesNum names x) (NamesNum names y) (SmallNum x) (SmallNum y) (num_depth x) (num_depth y) (num_chosen greater) a b (λ p q. chosen_is greater x y p q) h k

  negative_is : (x : NumText) (a : NumExpr) → IsNum names x a → num_depth x + 1 ≤ 32 → IsNum names (nums.Negative x) (Negative a)
  negative_is x a h small = num_is _ (Negative a) (written _ (NumExpr-F.Negative a) (rolls-Negative a) ∙ ap nums.Negative h.text_is) (fitted _ (NumExpr-F.Negative a) (rolls-Negative a) ∙ num_fit h) small

  -- the negative of a number
  pub num_negative : (x : NumText) (a : Result (Tree NumExpr) Flaw) → IsMadeNum names x a → IsMadeNum names (nums.Negative x) (whole_of_one Negative (one_part a))
  num_negative x a h = made_of_one (IsNum names x) (IsNum names (nums.Negative x)) (NamesNum names x) (SmallNum x) (num_depth x) Negative a (λ p. negative_is x p) h

  card_is : (x : SetText) (a : SetExpr) → IsSet names x a → set_depth x + 1 ≤ 32 → IsNum names (nums.Card x) (Card a)
  card_is x a h small = num_is _ (Card a) (written _ (NumExpr-F.Card a) (rolls-Card a) ∙ ap nums.Card h.text_is) (fitted _ (NumExpr-F.Card a) (rolls-Card a) ∙ set_fit names h) small

  -- the number of values of a set
  pub num_card : (x : SetText) (a : Result (Tree SetExpr) Flaw) → IsMadeSet names x a → IsMadeNum names (nums.Card x) (whole_of_one Card (one_part a))
  num_card x a h = made_of_one (IsSet names x) (IsNum names (nums.Card x)) (NamesSet names x) (SmallSet x) (set_depth x) Card a (λ p. card_is x p) h
