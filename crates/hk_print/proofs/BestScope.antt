-- What is good where the bound may not be named is good where it may.
use Rattle.std.proofs.Common.{◌≡◌, Bool, true, false, ◌&&◌, List, sym, ◌∙◌, subst, refl}
use Rattle.std.proofs.lemmas.Bool.{and_parts, and_from}
use Rattle.hk_kinds.specs.declared.kinds.Kind.{Kind}
use Rattle.hk_spec.specs.Scopes.{Scope, cond_fits, cond_fits_step, is_good_cond, num_fits, num_fits_step, set_fits, set_fits_step}
use Rattle.hk_spec.specs.declared.expressions.Side.TheVariants.{Down, Up}
use Rattle.hk_spec.specs.declared.expressions.NumExpr.{NumExpr}
use Rattle.hk_spec.specs.declared.expressions.NumExpr.TheOpen.{NumExpr-F}
use Rattle.hk_spec.specs.declared.expressions.NumExpr.TheViews.{roll-NumExpr}
use Rattle.hk_spec.specs.declared.expressions.NumExpr.TheFolds.{ind-NumExpr, fold-roll-NumExpr, map-NumExpr}
use Rattle.hk_spec.specs.declared.expressions.SetExpr.{SetExpr}
use Rattle.hk_spec.specs.declared.expressions.SetExpr.TheOpen.{SetExpr-F}
use Rattle.hk_spec.specs.declared.expressions.SetExpr.TheViews.{roll-SetExpr}
use Rattle.hk_spec.specs.declared.expressions.SetExpr.TheFolds.{ind-SetExpr, fold-roll-SetExpr, map-SetExpr}
use Rattle.hk_spec.specs.declared.expressions.Cond.{Cond}
use Rattle.hk_spec.specs.declared.expressions.Cond.TheOpen.{Cond-F}
use Rattle.hk_spec.specs.declared.expressions.Cond.TheViews.{roll-Cond}
use Rattle.hk_spec.specs.declared.expressions.Cond.TheFolds.{ind-Cond, fold-roll-Cond, map-Cond}
use Rattle.hk_spec.specs.declared.parts.ParamKind.{ParamKind}

-- both tests
both : {a b c d : Bool} → (a ≡ true → c ≡ true) → (b ≡ true → d ≡ true) → (a && b) ≡ true → (c && d) ≡ true
both {a = a} {b = b} first second h = let parts = and_parts a b h in and_from _ _ (first parts.0) (second parts.1)

module _ (params : List ParamKind) (down up : List Kind) where
  abbrev plain : Scope
  plain = record { params = params; down = down; up = up; best = false }

  abbrev wide : Scope
  wide = record { params = params; down = down; up = up; best = true }

  abbrev KeepsSet : SetExpr → Type 0
  KeepsSet e = set_fits plain e ≡ true → set_fits wide e ≡ true

  set_layer : {X : Type 0} (tree : X → SetExpr) → ((x : X) → KeepsSet (tree x)) → (y : SetExpr-F X) → set_fits_step plain (map-SetExpr SetExpr Bool (set_fits plain) (map-SetExpr X SetExpr tree y)) ≡ true → set_fits_step wide (map-SetExpr SetExpr Bool (set_fits wide) (map-SetExpr X SetExpr tree y)) ≡ true
  set_layer tree keeps (SetExpr-F.Lit set) fits = fits
  set_layer tree keeps SetExpr-F.One fits = refl
  set_layer tree keeps (SetExpr-F.Param place) fits = fits
  set_layer tree keeps (SetExpr-F.Bits Down place) fits = fits
  set_layer tree keeps (SetExpr-F.Bits Up place) fits = fits
  set_layer tree keeps (SetExpr-F.Union a b) fits = both (keeps a) (keeps b) fits
  set_layer tree keeps (SetExpr-F.Common a b) fits = both (keeps a) (keeps b) fits
  set_layer tree keeps (SetExpr-F.Without a b) fits = both (keeps a) (keeps b) fits

  set_rolled : (x : SetExpr-F SetExpr) → (set_fits_step plain (map-SetExpr SetExpr Bool (set_fits plain) x) ≡ true → set_fits_step wide (map-SetExpr SetExpr Bool (set_fits wide) x) ≡ true) → KeepsSet (roll-SetExpr x)
  set_rolled x layer = λ fits. fold-roll-SetExpr Bool (set_fits_step wide) x ∙ layer (sym (fold-roll-SetExpr Bool (set_fits_step plain) x) ∙ fits)

  set_keeps : (e : SetExpr) → KeepsSet e
  set_keeps = ind-SetExpr KeepsSet (λ x y same. set_rolled x (subst (λ z. set_fits_step plain (map-SetExpr SetExpr Bool (set_fits plain) z) ≡ true → set_fits_step wide (map-SetExpr SetExpr Bool (set_fits wide) z) ≡ true) same (set_layer (λ s. s.0) (λ s. s.1) y)))

  abbrev KeepsNum : NumExpr → Type 0
  KeepsNum e = num_fits plain e ≡ true → num_fits wide e ≡ true

  num_layer : {X : Type 0} (tree : X → NumExpr) → ((x : X) → KeepsNum (tree x)) → (y : NumExpr-F X) → num_fits_step plain (map-NumExpr NumExpr Bool (num_fits plain) (map-NumExpr X NumExpr tree y)) ≡ true → num_fits_step wide (map-NumExpr NumExpr Bool (num_fits wide) (map-NumExpr X NumExpr tree y)) ≡ true
  num_layer tree keeps (NumExpr-F.Lit n) fits = fits
  num_layer tree keeps NumExpr-F.Value fits = refl
  num_layer tree keeps NumExpr-F.Index fits = refl
  num_layer tree keeps NumExpr-F.Length fits = refl
  num_layer tree keeps NumExpr-F.Best fits = refl
  num_layer tree keeps (NumExpr-F.Param place) fits = fits
  num_layer tree keeps (NumExpr-F.Item place) fits = fits
  num_layer tree keeps (NumExpr-F.Number Down place) fits = fits
  num_layer tree keeps (NumExpr-F.Number Up place) fits = fits
  num_layer tree keeps (NumExpr-F.Low Down place) fits = fits
  num_layer tree keeps (NumExpr-F.Low Up place) fits = fits
  num_layer tree keeps (NumExpr-F.High Down place) fits = fits
  num_layer tree keeps (NumExpr-F.High Up place) fits = fits
  num_layer tree keeps (NumExpr-F.Card set) fits = set_keeps set fits
  num_layer tree keeps (NumExpr-F.Add a b) fits = both (keeps a) (keeps b) fits
  num_layer tree keeps (NumExpr-F.Least a b) fits = both (keeps a) (keeps b) fits
  num_layer tree keeps (NumExpr-F.Most a b) fits = both (keeps a) (keeps b) fits
  num_layer tree keeps (NumExpr-F.Minus a b) fits = both (keeps a) (keeps b) fits
  num_layer tree keeps (NumExpr-F.Negative a) fits = keeps a fits
  num_layer tree keeps (NumExpr-F.Times a b) fits = both (keeps a) (keeps b) fits

  num_rolled : (x : NumExpr-F NumExpr) → (num_fits_step plain (map-NumExpr NumExpr Bool (num_fits plain) x) ≡ true → num_fits_step wide (map-NumExpr NumExpr Bool (num_fits wide) x) ≡ true) → KeepsNum (roll-NumExpr x)
  num_rolled x layer = λ fits. fold-roll-NumExpr Bool (num_fits_step wide) x ∙ layer (sym (fold-roll-NumExpr Bool (num_fits_step plain) x) ∙ fits)

  num_keeps : (e : NumExpr) → KeepsNum e
  num_keeps = ind-NumExpr KeepsNum (λ x y same. num_rolled x (subst (λ z. num_fits_step plain (map-NumExpr NumExpr Bool (num_fits plain) z) ≡ true → num_fits_step wide (map-NumExpr NumExpr Bool (num_fits wide) z) ≡ true) same (num_layer (λ s. s.0) (λ s. s.1) y)))

  abbrev KeepsCond : Cond → Type 0
  KeepsCond e = cond_fits plain e ≡ true → cond_fits wide e ≡ true

  cond_layer : {X : Type 0} (tree : X → Cond) → ((x : X) → KeepsCond (tree x)) → (y : Cond-F X) → cond_fits_step plain (map-Cond Cond Bool (cond_fits plain) (map-Cond X Cond tree y)) ≡ true → cond_fits_step wide (map-Cond Cond Bool (cond_fits wide) (map-Cond X Cond tree y)) ≡ true
  cond_layer tree keeps Cond-F.Always fits = refl
  cond_layer tree keeps Cond-F.Never fits = refl
  cond_layer tree keeps (Cond-F.AtMost a b) fits = both (num_keeps a) (num_keeps b) fits
  cond_layer tree keeps (Cond-F.Below a b) fits = both (num_keeps a) (num_keeps b) fits
  cond_layer tree keeps (Cond-F.AtLeast a b) fits = both (num_keeps a) (num_keeps b) fits
  cond_layer tree keeps (Cond-F.Above a b) fits = both (num_keeps a) (num_keeps b) fits
  cond_layer tree keeps (Cond-F.Equal a b) fits = both (num_keeps a) (num_keeps b) fits
  cond_layer tree keeps (Cond-F.Has e) fits = set_keeps e fits
  cond_layer tree keeps (Cond-F.Lacks e) fits = set_keeps e fits
  cond_layer tree keeps (Cond-F.Subset a b) fits = both (set_keeps a) (set_keeps b) fits
  cond_layer tree keeps (Cond-F.Both p q) fits = both (keeps p) (keeps q) fits
  cond_layer tree keeps (Cond-F.Either p q) fits = both (keeps p) (keeps q) fits
  cond_layer tree keeps (Cond-F.Not p) fits = keeps p fits

  cond_rolled : (x : Cond-F Cond) → (cond_fits_step plain (map-Cond Cond Bool (cond_fits plain) x) ≡ true → cond_fits_step wide (map-Cond Cond Bool (cond_fits wide) x) ≡ true) → KeepsCond (roll-Cond x)
  cond_rolled x layer = λ fits. fold-roll-Cond Bool (cond_fits_step wide) x ∙ layer (sym (fold-roll-Cond Bool (cond_fits_step plain) x) ∙ fits)

  cond_keeps : (e : Cond) → KeepsCond e
  cond_keeps = ind-Cond KeepsCond (λ x y same. cond_rolled x (subst (λ z. cond_fits_step plain (map-Cond Cond Bool (cond_fits plain) z) ≡ true → cond_fits_step wide (map-Cond Cond Bool (cond_fits wide) z) ≡ true) same (cond_layer (λ s. s.0) (λ s. s.1) y)))

  -- a condition that is good without the bound is good with it
  pub cond_good_with_best : (c : Cond) → is_good_cond plain c ≡ true → is_good_cond wide c ≡ true
  cond_good_with_best c good = let parts = and_parts (cond_fits plain c) _ good in and_from _ _ (cond_keeps c parts.0) parts.1
