-- What is made of expressions that have no parts.
use Rattle.std.proofs.Common.{◌≡◌, ℕ, Bool, true, ◌&&◌, nat_le, Ok, sym, ap, ◌∙◌}
use Rattle.hk_spec.specs.Scopes.{num_fits, num_fits_step, num_depth, num_depth_step, set_fits, set_fits_step, set_depth, set_depth_step}
use Rattle.hk_spec.specs.declared.expressions.NumExpr.{NumExpr}
use Rattle.hk_spec.specs.declared.expressions.NumExpr.TheOpen.{NumExpr-F}
use Rattle.hk_spec.specs.declared.expressions.NumExpr.TheViews.{roll-NumExpr}
use Rattle.hk_spec.specs.declared.expressions.NumExpr.TheFolds.{fold-roll-NumExpr, map-NumExpr}
use Rattle.hk_spec.specs.declared.expressions.SetExpr.{SetExpr}
use Rattle.hk_spec.specs.declared.expressions.SetExpr.TheOpen.{SetExpr-F}
use Rattle.hk_spec.specs.declared.expressions.SetExpr.TheViews.{roll-SetExpr}
use Rattle.hk_spec.specs.declared.expressions.SetExpr.TheFolds.{fold-roll-SetExpr, map-SetExpr}
use Rattle.hk_terms.specs.Names.{scope_of}
use Rattle.hk_terms.specs.Names.{Names, NamesNum, NamesSet, SmallNum, SmallSet}
use Rattle.hk_terms.specs.NumTexts.{NumText}
use Rattle.hk_terms.specs.Outcomes.{IsNumOf, IsSetOf}
use Rattle.hk_terms.specs.SetTexts.{SetText}
use Rattle.hk_terms.specs.Trees.{num_text, num_text_step, set_text, set_text_step}

-- an expression of a number that has no parts
pub num_leaf : (names : Names) (x : NumExpr-F NumExpr) (e : NumExpr) (text : NumText)
    → roll-NumExpr x ≡ e
    → num_text_step names (map-NumExpr NumExpr NumText (num_text names) x) ≡ text
    → num_fits_step (scope_of names) (map-NumExpr NumExpr Bool (num_fits (scope_of names)) x) ≡ true
    → num_depth_step (map-NumExpr NumExpr ℕ num_depth x) ≡ 1
    → NamesNum names text → SmallNum text → IsNumOf names text (Ok e)
num_leaf names x e text same text_is fits_is depth_is named small =
    let fits : num_fits (scope_of names) e ≡ true = ap (num_fits (scope_of names)) (sym same) ∙ fold-roll-NumExpr Bool (num_fits_step (scope_of names)) x ∙ fits_is in
    let depth : num_depth e ≡ 1 = ap num_depth (sym same) ∙ fold-roll-NumExpr ℕ num_depth_step x ∙ depth_is in
    (ap (num_text names) (sym same) ∙ fold-roll-NumExpr NumText (num_text_step names) x ∙ text_is, ap (λ b. b && nat_le (num_depth e) 32) fits ∙ ap (λ k. nat_le k 32) depth, named, small)

-- an expression of a set that has no parts
pub set_leaf : (names : Names) (x : SetExpr-F SetExpr) (e : SetExpr) (text : SetText)
    → roll-SetExpr x ≡ e
    → set_text_step names (map-SetExpr SetExpr SetText (set_text names) x) ≡ text
    → set_fits_step (scope_of names) (map-SetExpr SetExpr Bool (set_fits (scope_of names)) x) ≡ true
    → set_depth_step (map-SetExpr SetExpr ℕ set_depth x) ≡ 1
    → NamesSet names text → SmallSet text → IsSetOf names text (Ok e)
set_leaf names x e text same text_is fits_is depth_is named small =
    let fits : set_fits (scope_of names) e ≡ true = ap (set_fits (scope_of names)) (sym same) ∙ fold-roll-SetExpr Bool (set_fits_step (scope_of names)) x ∙ fits_is in
    let depth : set_depth e ≡ 1 = ap set_depth (sym same) ∙ fold-roll-SetExpr ℕ set_depth_step x ∙ depth_is in
    (ap (set_text names) (sym same) ∙ fold-roll-SetExpr SetText (set_text_step names) x ∙ text_is, ap (λ b. b && nat_le (set_depth e) 32) fits ∙ ap (λ k. nat_le k 32) depth, named, small)
