-- An expression is as deep as what is written of it.
use Rattle.std.proofs.Common.{◌≡◌, ℕ, ◌+◌, max, sym, ap, ◌∙◌, subst, refl}
use Rattle.hk_spec.specs.Scopes as scopes
use Rattle.hk_spec.specs.Scopes.{set_depth_step, num_depth_step, cond_depth_step}
use Rattle.hk_spec.specs.declared.expressions.NumExpr.{NumExpr}
use Rattle.hk_spec.specs.declared.expressions.NumExpr.TheOpen.{NumExpr-F}
use Rattle.hk_spec.specs.declared.expressions.NumExpr.TheViews.{roll-NumExpr}
use Rattle.hk_spec.specs.declared.expressions.NumExpr.TheFolds.{ind-NumExpr, fold-roll-NumExpr, map-NumExpr}
use Rattle.hk_spec.specs.declared.expressions.SetExpr.{SetExpr}
use Rattle.hk_spec.specs.declared.expressions.SetExpr.TheOpen.{SetExpr-F}
use Rattle.hk_spec.specs.declared.expressions.SetExpr.TheViews.{roll-SetExpr}
use Rattle.hk_spec.specs.declared.expressions.SetExpr.TheFolds.{ind-SetExpr, fold-roll-SetExpr, map-SetExpr}
use Rattle.hk_spec.specs.declared.expressions.Cond.{Cond}
use Rattle.hk_spec.specs.declared.expressions.Cond.TheOpen.{Cond-F}
use Rattle.hk_spec.specs.declared.expressions.Cond.TheViews.{roll-Cond}
use Rattle.hk_spec.specs.declared.expressions.Cond.TheFolds.{ind-Cond, fold-roll-Cond, map-Cond}
use Rattle.hk_terms.specs.CondTexts.{CondText}
use Rattle.hk_terms.specs.Names.{Names, set_depth, num_depth, cond_depth}
use Rattle.hk_terms.specs.NumTexts.{NumText}
use Rattle.hk_terms.specs.SetTexts.{SetText}
use Rattle.hk_terms.specs.Trees.{set_text, set_text_step, num_text, num_text_step, cond_text, cond_text_step}

both_deep : {a b c d : ℕ} → a ≡ c → b ≡ d → max a b + 1 ≡ max c d + 1
both_deep h k = cc

one_deep : {a b : ℕ} → a ≡ b → a + 1 ≡ b + 1
one_deep h = cc

module _ (names : Names) where
  abbrev AsDeepSet : SetExpr → Type 0
  AsDeepSet e = set_depth (set_text names e) ≡ scopes.set_depth e

  set_layer : {X : Type 0} (tree : X → SetExpr) → ((x : X) → AsDeepSet (tree x)) → (y : SetExpr-F X) → set_depth (set_text_step names (map-SetExpr SetExpr SetText (set_text names) (map-SetExpr X SetExpr tree y))) ≡ set_depth_step (map-SetExpr SetExpr ℕ scopes.set_depth (map-SetExpr X SetExpr tree y))
  set_layer tree deep (SetExpr-F.Lit bits) = refl
  set_layer tree deep SetExpr-F.One = refl
  set_layer tree deep (SetExpr-F.Param place) = refl
  set_layer tree deep (SetExpr-F.Bits side place) = refl
  set_layer tree deep (SetExpr-F.Union a b) = both_deep (deep a) (deep b)
  set_layer tree deep (SetExpr-F.Common a b) = both_deep (deep a) (deep b)
  set_layer tree deep (SetExpr-F.Without a b) = both_deep (deep a) (deep b)

  set_rolled : (x : SetExpr-F SetExpr) → set_depth (set_text_step names (map-SetExpr SetExpr SetText (set_text names) x)) ≡ set_depth_step (map-SetExpr SetExpr ℕ scopes.set_depth x) → AsDeepSet (roll-SetExpr x)
  set_rolled x layer = ap set_depth (fold-roll-SetExpr SetText (set_text_step names) x) ∙ (layer ∙ sym (fold-roll-SetExpr ℕ set_depth_step x))

  -- a set expression is as deep as what is written of it
  pub set_deep : (e : SetExpr) → AsDeepSet e
  set_deep = ind-SetExpr AsDeepSet (λ x y same. set_rolled x (subst (λ z. set_depth (set_text_step names (map-SetExpr SetExpr SetText (set_text names) z)) ≡ set_depth_step (map-SetExpr SetExpr ℕ scopes.set_depth z)) same (set_layer (λ s. s.0) (λ s. s.1) y)))

  abbrev AsDeepNum : NumExpr → Type 0
  AsDeepNum e = num_depth (num_text names e) ≡ scopes.num_depth e

  num_layer : {X : Type 0} (tree : X → NumExpr) → ((x : X) → AsDeepNum (tree x)) → (y : NumExpr-F X) → num_depth (num_text_step names (map-NumExpr NumExpr NumText (num_text names) (map-NumExpr X NumExpr tree y))) ≡ num_depth_step (map-NumExpr NumExpr ℕ scopes.num_depth (map-NumExpr X NumExpr tree y))
  num_layer tree deep (NumExpr-F.Card set) = one_deep (set_deep set)
  num_layer tree deep (NumExpr-F.Add a b) = both_deep (deep a) (deep b)
  num_layer tree deep (NumExpr-F.Least a b) = both_deep (deep a) (deep b)
  num_layer tree deep (NumExpr-F.Most a b) = both_deep (deep a) (deep b)
  num_layer tree deep (NumExpr-F.Minus a b) = both_deep (deep a) (deep b)
  num_layer tree deep (NumExpr-F.Negative a) = one_deep (deep a)
  num_layer tree deep (NumExpr-F.Times a b) = both_deep (deep a) (deep b)
  num_layer tree deep _ = refl

  num_rolled : (x : NumExpr-F NumExpr) → num_depth (num_text_step names (map-NumExpr NumExpr NumText (num_text names) x)) ≡ num_depth_step (map-NumExpr NumExpr ℕ scopes.num_depth x) → AsDeepNum (roll-NumExpr x)
  num_rolled x layer = ap num_depth (fold-roll-NumExpr NumText (num_text_step names) x) ∙ (layer ∙ sym (fold-roll-NumExpr ℕ num_depth_step x))

  -- a number expression is as deep as what is written of it
  pub num_deep : (e : NumExpr) → AsDeepNum e
  num_deep = ind-NumExpr AsDeepNum (λ x y same. num_rolled x (subst (λ z. num_depth (num_text_step names (map-NumExpr NumExpr NumText (num_text names) z)) ≡ num_depth_step (map-NumExpr NumExpr ℕ scopes.num_depth z)) same (num_layer (λ s. s.0) (λ s. s.1) y)))

  abbrev AsDeepCond : Cond → Type 0
  AsDeepCond e = cond_depth (cond_text names e) ≡ scopes.cond_depth e

  cond_layer : {X : Type 0} (tree : X → Cond) → ((x : X) → AsDeepCond (tree x)) → (y : Cond-F X) → cond_depth (cond_text_step names (map-Cond Cond CondText (cond_text names) (map-Cond X Cond tree y))) ≡ cond_depth_step (map-Cond Cond ℕ scopes.cond_depth (map-Cond X Cond tree y))
  cond_layer tree deep Cond-F.Always = refl
  cond_layer tree deep Cond-F.Never = refl
  cond_layer tree deep (Cond-F.AtMost a b) = both_deep (num_deep a) (num_deep b)
  cond_layer tree deep (Cond-F.Below a b) = both_deep (num_deep a) (num_deep b)
  cond_layer tree deep (Cond-F.AtLeast a b) = both_deep (num_deep a) (num_deep b)
  cond_layer tree deep (Cond-F.Above a b) = both_deep (num_deep a) (num_deep b)
  cond_layer tree deep (Cond-F.Equal a b) = both_deep (num_deep a) (num_deep b)
  cond_layer tree deep (Cond-F.Has e) = one_deep (set_deep e)
  cond_layer tree deep (Cond-F.Lacks e) = one_deep (set_deep e)
  cond_layer tree deep (Cond-F.Subset a b) = both_deep (set_deep a) (set_deep b)
  cond_layer tree deep (Cond-F.Both p q) = both_deep (deep p) (deep q)
  cond_layer tree deep (Cond-F.Either p q) = both_deep (deep p) (deep q)
  cond_layer tree deep (Cond-F.Not p) = one_deep (deep p)

  cond_rolled : (x : Cond-F Cond) → cond_depth (cond_text_step names (map-Cond Cond CondText (cond_text names) x)) ≡ cond_depth_step (map-Cond Cond ℕ scopes.cond_depth x) → AsDeepCond (roll-Cond x)
  cond_rolled x layer = ap cond_depth (fold-roll-Cond CondText (cond_text_step names) x) ∙ (layer ∙ sym (fold-roll-Cond ℕ cond_depth_step x))

  -- a condition is as deep as what is written of it
  pub cond_deep : (e : Cond) → AsDeepCond e
  cond_deep = ind-Cond AsDeepCond (λ x y same. cond_rolled x (subst (λ z. cond_depth (cond_text_step names (map-Cond Cond CondText (cond_text names) z)) ≡ cond_depth_step (map-Cond Cond ℕ scopes.cond_depth z)) same (cond_layer (λ s. s.0) (λ s. s.1) y)))
