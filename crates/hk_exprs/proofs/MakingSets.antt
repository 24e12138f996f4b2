-- What is made of sets with a mark between.
use Rattle.std.proofs.Common.{◌≡◌, ◌+◌, ◌≤◌, max, Bool, true, ◌&&◌, Result, arith, sym, ap, ◌∙◌}
use Rattle.hk_kinds.specs.NumberLattices.{both_true, first_true}
use Rattle.hk_spec.specs.Scopes as scopes
use Rattle.hk_spec.specs.Scopes.{set_fits, set_fits_step}
use Rattle.hk_spec.specs.declared.expressions.SetExpr.{SetExpr}
use Rattle.hk_spec.specs.declared.expressions.SetExpr.TheOpen.{SetExpr-F}
use Rattle.hk_spec.specs.declared.expressions.SetExpr.TheVariants.{Union, Common, Without, rolls-Union, rolls-Common, rolls-Without}
use Rattle.hk_spec.specs.declared.expressions.SetExpr.TheViews.{roll-SetExpr}
use Rattle.hk_spec.specs.declared.expressions.SetExpr.TheFolds.{fold-roll-SetExpr, map-SetExpr}
use Rattle.hk_terms.proofs.Depths.{set_deep}
use Rattle.hk_exprs.proofs.MakingWholes.{good_from, made_of_two}
use Rattle.hk_terms.specs.Names.{scope_of}
use Rattle.hk_exprs.specs.inside.Making.{two_parts, whole_of_two, set_operation, set_joined}
use Rattle.hk_terms.specs.Names.{Names, NamesSet, SmallSet, set_depth}
use Rattle.hk_terms.specs.SetTexts as sets
use Rattle.hk_terms.specs.SetTexts.{SetText}
use Rattle.hk_exprs.specs.inside.Standing.{IsSet, IsMadeSet}
use Rattle.hk_terms.specs.Trees.{set_text, set_text_step}
use Rattle.hk_terms.specs.declared.flaws.Flaw.{Flaw}
use Rattle.hk_terms.specs.declared.marks.Mark.{Mark}
use Rattle.hk_terms.specs.declared.marks.Mark.TheVariants as mark
use Rattle.hk_exprs.specs.declared.operands.Tree.{Tree}

module _ (names : Names) where
  -- how an expression is written, by its first layer
  pub written : (e : SetExpr) (layer : SetExpr-F SetExpr) → roll-SetExpr layer ≡ e → set_text names e ≡ set_text_step names (map-SetExpr SetExpr SetText (set_text names) layer)
  written e layer rolls = ap (set_text names) (sym rolls) ∙ fold-roll-SetExpr SetText (set_text_step names) layer

  -- whether it fits, by its first layer
  pub fitted : (e : SetExpr) (layer : SetExpr-F SetExpr) → roll-SetExpr layer ≡ e → set_fits (scope_of names) e ≡ set_fits_step (scope_of names) (map-SetExpr SetExpr Bool (set_fits (scope_of names)) layer)
  fitted e layer rolls = ap (set_fits (scope_of names)) (sym rolls) ∙ fold-roll-SetExpr Bool (set_fits_step (scope_of names)) layer

  -- an expression that is written so, fits and is not too deep is one of a specification
  pub set_is : (text : SetText) (e : SetExpr) → set_text names e ≡ text → set_fits (scope_of names) e ≡ true → set_depth text ≤ 32 → IsSet names text e
  set_is text e same fits small =
      let deep = set_deep names e in
      let alike = ap set_depth same in
      record { text_is = same; good = good_from (set_fits (scope_of names) e) (scopes.set_depth e) fits (omega (arith, deep, alike)) }

  -- the set fits
  pub set_fit : {text : SetText} {e : SetExpr} → IsSet names text e → set_fits (scope_of names) e ≡ true
  set_fit is = first_true _ _ is.good

  -- two of them fit
  pub fit_two : {x y : SetText} {a b : SetExpr} → IsSet names x a → IsSet names y b → (set_fits (scope_of names) a && set_fits (scope_of names) b) ≡ true
  fit_two h k = both_true _ _ (set_fit h) (set_fit k)

  written_two : (operation : sets.SetOperation) {x y : SetText} {a b : SetExpr} → IsSet names x a → IsSet names y b → sets.Joined operation (set_text names a) (set_text names b) ≡ sets.Joined operation x y
  written_two operation h k = cc

  joined_is : (m : Mark) (x y : SetText) (a b : SetExpr) → IsSet names x a → IsSet names y b → max (set_depth x) (set_depth y) + 1 ≤ 32 → IsSet names (sets.Joined (set_operation m) x y) (set_joined m a b)
  joined_is mark.Common x y a b h k small = set_is _ (Common a b) (written _ (SetExpr-F.Common a b) (rolls-Common a b) ∙ written_two sets.Common h k) (fitted _ (SetExpr-F.Common a b) (rolls-Common a b) ∙ fit_two h k) small
  joined_is mark.Without x y a b h k small = set_is _ (Without a b) (written _ (SetExpr-F.Without a b) (rolls-Without a b) ∙ written_two sets.Without h k) (fitted _ (SetExpr-F.Without a b) (rolls-Without a b) ∙ fit_two h k) small
  joined_is _ x y a b h k small = set_is _ (Union a b) (written _ (SetExpr-F.Union a b) (rolls-Union a b) ∙ written_two sets.Union h k) (fitted _ (SetExpr-F.Union a b) (rolls-Union a b) ∙ fit_two h k) small

  -- two sets with a mark between
  pub sets_joined : (m : Mark) (x y : SetText) (a b : Result (Tree SetExpr) Flaw) → IsMadeSet names x a → IsMadeSet names y b → IsMadeSet names (sets.Joined (set_operation m) x y) (whole_of_two (set_joined m) (two_parts a b))
  sets_joined m x y a b h k = made_of_two (IsSet names x) (IsSet names y) (IsSet names (sets.Joined (set_operation m) x y)) (NamesSet names x) (NamesSet names y) (SmallSet x) (SmallSet y) (set_depth x) (set_depth y) (set_joined m) a b (λ p q. joined_is m x y p q) h k
