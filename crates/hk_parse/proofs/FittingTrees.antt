-- How an expression that fits its names is written, by induction over the expression.
use Rattle.std.proofs.Common.{◌≡◌, Bool, true, inl, inr, refl, sym, ◌∙◌, subst, arith}
use Rattle.std.proofs.lemmas.Bool.{both_ways, and_parts}
use Rattle.hk_spec.specs.Scopes.{is_number_kind, is_interval_kind, is_set_kind, set_fits, set_fits_step, num_fits, num_fits_step, cond_fits, cond_fits_step}
use Rattle.hk_spec.specs.declared.expressions.NumExpr.{NumExpr}
use Rattle.hk_spec.specs.declared.expressions.NumExpr.TheOpen.{NumExpr-F}
use Rattle.hk_spec.specs.declared.expressions.NumExpr.TheViews.{roll-NumExpr}
use Rattle.hk_spec.specs.declared.expressions.NumExpr.TheFolds.{ind-NumExpr, fold-roll-NumExpr, map-NumExpr}
use Rattle.hk_spec.specs.declared.expressions.SetExpr.{SetExpr}
use Rattle.hk_spec.specs.declared.expressions.SetExpr.TheOpen.{SetExpr-F}
use Rattle.hk_spec.specs.declared.expressions.SetExpr.TheViews.{roll-SetExpr}
use Rattle.hk_spec.specs.declared.expressions.SetExpr.TheFolds.{ind-SetExpr, fold-roll-SetExpr, map-SetExpr}
use Rattle.hk_spec.specs.declared.expressions.Cond.{Cond}
use Rattle.hk_spec.specs.declared.expressions.Cond.TheOpen.{Cond-F}
use Rattle.hk_spec.specs.declared.expressions.Cond.TheViews.{roll-Cond}
use Rattle.hk_spec.specs.declared.expressions.Cond.TheFolds.{ind-Cond, fold-roll-Cond, map-Cond}
use Rattle.hk_terms.specs.Names.{scope_of}
use Rattle.hk_terms.specs.CondTexts.{CondText, IsCondText}
use Rattle.hk_terms.specs.Names.{Names, NamesSet, NamesNum, NamesCond, SmallSet, SmallNum, SmallCond}
use Rattle.hk_terms.specs.NumTexts.{NumText, IsNumText}
use Rattle.hk_terms.specs.SetTexts.{SetText, IsSetText}
use Rattle.hk_terms.specs.Trees.{set_text, set_text_step, num_text, num_text_step, cond_text, cond_text_step}
use Rattle.hk_parse.proofs.FittingTexts.{AreWords, members_written, members_small, signed_written, signed_small, num_param_named, set_param_named, list_param_named, property_named}

module _ {names : Names} (words : AreWords names) where
  -- the set is well written, its names stand for what their places ask, and its numbers are within their limits
  abbrev IsGoodSet : SetText → Type 0
  IsGoodSet text = IsSetText text × NamesSet names text × SmallSet text

  abbrev FitsSet : SetExpr → Type 0
  FitsSet e = set_fits (scope_of names) e ≡ true → IsGoodSet (set_text names e)

  set_layer : {X : Type 0} (tree : X → SetExpr) → ((x : X) → FitsSet (tree x)) → (y : SetExpr-F X)
      → set_fits_step (scope_of names) (map-SetExpr SetExpr Bool (set_fits (scope_of names)) (map-SetExpr X SetExpr tree y)) ≡ true
      → IsGoodSet (set_text_step names (map-SetExpr SetExpr SetText (set_text names) (map-SetExpr X SetExpr tree y)))
  set_layer tree parts (SetExpr-F.Lit bits) fits = (members_written bits, tt, members_small bits)
  set_layer tree parts SetExpr-F.One fits = (tt, tt, tt)
  set_layer tree parts (SetExpr-F.Param place) fits = let named = set_param_named words place fits in (named.0, inl named.1, tt)
  set_layer tree parts (SetExpr-F.Bits side place) fits = let named = property_named words is_set_kind side place refl fits in (named.0, inr named.1, tt)
  set_layer tree parts (SetExpr-F.Union a b) fits = let both = and_parts _ _ fits in let left = parts a both.0 in let right = parts b both.1 in ((left.0, right.0), (left.1, right.1), (left.2, right.2))
  set_layer tree parts (SetExpr-F.Common a b) fits = let both = and_parts _ _ fits in let left = parts a both.0 in let right = parts b both.1 in ((left.0, right.0), (left.1, right.1), (left.2, right.2))
  set_layer tree parts (SetExpr-F.Without a b) fits = let both = and_parts _ _ fits in let left = parts a both.0 in let right = parts b both.1 in ((left.0, right.0), (left.1, right.1), (left.2, right.2))

  abbrev FitsSetLayer : SetExpr-F SetExpr → Type 0
  FitsSetLayer x = set_fits_step (scope_of names) (map-SetExpr SetExpr Bool (set_fits (scope_of names)) x) ≡ true → IsGoodSet (set_text_step names (map-SetExpr SetExpr SetText (set_text names) x))

  set_rolled : (x : SetExpr-F SetExpr) → FitsSetLayer x → FitsSet (roll-SetExpr x)
  set_rolled x layer fits = subst IsGoodSet (sym (fold-roll-SetExpr SetText (set_text_step names) x)) (layer (sym (fold-roll-SetExpr Bool (set_fits_step (scope_of names)) x) ∙ fits))

  -- how a set expression that fits is written
  pub set_good : (e : SetExpr) → FitsSet e
  set_good = ind-SetExpr FitsSet (λ x y same. set_rolled x (subst FitsSetLayer same (set_layer (λ s. s.0) (λ s. s.1) y)))

  abbrev IsGoodNum : NumText → Type 0
  IsGoodNum text = IsNumText text × NamesNum names text × SmallNum text

  abbrev FitsNum : NumExpr → Type 0
  FitsNum e = num_fits (scope_of names) e ≡ true → IsGoodNum (num_text names e)

  num_layer : {X : Type 0} (tree : X → NumExpr) → ((x : X) → FitsNum (tree x)) → (y : NumExpr-F X)
      → num_fits_step (scope_of names) (map-NumExpr NumExpr Bool (num_fits (scope_of names)) (map-NumExpr X NumExpr tree y)) ≡ true
      → IsGoodNum (num_text_step names (map-NumExpr NumExpr NumText (num_text names) (map-NumExpr X NumExpr tree y)))
  num_layer tree parts (NumExpr-F.Lit n) fits = (signed_written n fits, tt, signed_small n fits)
  num_layer tree parts NumExpr-F.Value fits = ((refl, refl), inl (0, omega arith, refl), tt)
  num_layer tree parts NumExpr-F.Index fits = ((refl, refl), inl (1, omega arith, refl), tt)
  num_layer tree parts NumExpr-F.Length fits = ((refl, refl), inl (2, omega arith, refl), tt)
  num_layer tree parts NumExpr-F.Best fits = absurd (both_ways _ refl fits)
  num_layer tree parts (NumExpr-F.Param place) fits = let named = num_param_named words place fits in (named.0, inr (inl named.1), tt)
  num_layer tree parts (NumExpr-F.Item place) fits = let named = list_param_named words place fits in (named.0, named.1, tt)
  num_layer tree parts (NumExpr-F.Number side place) fits = let named = property_named words is_number_kind side place refl fits in (named.0, inr (inr named.1), tt)
  num_layer tree parts (NumExpr-F.Low side place) fits = let named = property_named words is_interval_kind side place refl fits in (named.0, named.1, tt)
  num_layer tree parts (NumExpr-F.High side place) fits = let named = property_named words is_interval_kind side place refl fits in (named.0, named.1, tt)
  num_layer tree parts (NumExpr-F.Card set) fits = set_good set fits
  num_layer tree parts (NumExpr-F.Add a b) fits = let both = and_parts _ _ fits in let left = parts a both.0 in let right = parts b both.1 in ((left.0, right.0), (left.1, right.1), (left.2, right.2))
  num_layer tree parts (NumExpr-F.Least a b) fits = let both = and_parts _ _ fits in let left = parts a both.0 in let right = parts b both.1 in ((left.0, right.0), (left.1, right.1), (left.2, right.2))
  num_layer tree parts (NumExpr-F.Most a b) fits = let both = and_parts _ _ fits in let left = parts a both.0 in let right = parts b both.1 in ((left.0, right.0), (left.1, right.1), (left.2, right.2))
  num_layer tree parts (NumExpr-F.Minus a b) fits = let both = and_parts _ _ fits in let left = parts a both.0 in let right = parts b both.1 in ((left.0, right.0), (left.1, right.1), (left.2, right.2))
  num_layer tree parts (NumExpr-F.Negative a) fits = parts a fits
  num_layer tree parts (NumExpr-F.Times a b) fits = let both = and_parts _ _ fits in let left = parts a both.0 in let right = parts b both.1 in ((left.0, right.0), (left.1, right.1), (left.2, right.2))

  abbrev FitsNumLayer : NumExpr-F NumExpr → Type 0
  FitsNumLayer x = num_fits_step (scope_of names) (map-NumExpr NumExpr Bool (num_fits (scope_of names)) x) ≡ true → IsGoodNum (num_text_step names (map-NumExpr NumExpr NumText (num_text names) x))

  num_rolled : (x : NumExpr-F NumExpr) → FitsNumLayer x → FitsNum (roll-NumExpr x)
  num_rolled x layer fits = subst IsGoodNum (sym (fold-roll-NumExpr NumText (num_text_step names) x)) (layer (sym (fold-roll-NumExpr Bool (num_fits_step (scope_of names)) x) ∙ fits))

  -- how a number expression that fits is written
  pub num_good : (e : NumExpr) → FitsNum e
  num_good = ind-NumExpr FitsNum (λ x y same. num_rolled x (subst FitsNumLayer same (num_layer (λ s. s.0) (λ s. s.1) y)))

  abbrev IsGoodCond : CondText → Type 0
  IsGoodCond text = IsCondText text × NamesCond names text × SmallCond text

  abbrev FitsCond : Cond → Type 0
  FitsCond e = cond_fits (scope_of names) e ≡ true → IsGoodCond (cond_text names e)

  two_nums : (a b : NumExpr) → num_fits (scope_of names) a ≡ true → num_fits (scope_of names) b ≡ true → (IsNumText (num_text names a) × IsNumText (num_text names b)) × (NamesNum names (num_text names a) × NamesNum names (num_text names b)) × (SmallNum (num_text names a) × SmallNum (num_text names b))
  two_nums a b fits also = let left = num_good a fits in let right = num_good b also in ((left.0, right.0), (left.1, right.1), (left.2, right.2))

  cond_layer : {X : Type 0} (tree : X → Cond) → ((x : X) → FitsCond (tree x)) → (y : Cond-F X)
      → cond_fits_step (scope_of names) (map-Cond Cond Bool (cond_fits (scope_of names)) (map-Cond X Cond tree y)) ≡ true
      → IsGoodCond (cond_text_step names (map-Cond Cond CondText (cond_text names) (map-Cond X Cond tree y)))
  cond_layer tree parts Cond-F.Always fits = (tt, tt, tt)
  cond_layer tree parts Cond-F.Never fits = (tt, tt, tt)
  cond_layer tree parts (Cond-F.AtMost a b) fits = let both = and_parts _ _ fits in two_nums a b both.0 both.1
  cond_layer tree parts (Cond-F.Below a b) fits = let both = and_parts _ _ fits in two_nums a b both.0 both.1
  cond_layer tree parts (Cond-F.AtLeast a b) fits = let both = and_parts _ _ fits in two_nums a b both.0 both.1
  cond_layer tree parts (Cond-F.Above a b) fits = let both = and_parts _ _ fits in two_nums a b both.0 both.1
  cond_layer tree parts (Cond-F.Equal a b) fits = let both = and_parts _ _ fits in two_nums a b both.0 both.1
  cond_layer tree parts (Cond-F.Has e) fits = set_good e fits
  cond_layer tree parts (Cond-F.Lacks e) fits = set_good e fits
  cond_layer tree parts (Cond-F.Subset a b) fits = let both = and_parts _ _ fits in let left = set_good a both.0 in let right = set_good b both.1 in ((left.0, right.0), (left.1, right.1), (left.2, right.2))
  cond_layer tree parts (Cond-F.Both p q) fits = let both = and_parts _ _ fits in let left = parts p both.0 in let right = parts q both.1 in ((left.0, right.0), (left.1, right.1), (left.2, right.2))
  cond_layer tree parts (Cond-F.Either p q) fits = let both = and_parts _ _ fits in let left = parts p both.0 in let right = parts q both.1 in ((left.0, right.0), (left.1, right.1), (left.2, right.2))
  cond_layer tree parts (Cond-F.Not p) fits = parts p fits

  abbrev FitsCondLayer : Cond-F Cond → Type 0
  FitsCondLayer x = cond_fits_step (scope_of names) (map-Cond Cond Bool (cond_fits (scope_of names)) x) ≡ true → IsGoodCond (cond_text_step names (map-Cond Cond CondText (cond_text names) x))

  cond_rolled : (x : Cond-F Cond) → FitsCondLayer x → FitsCond (roll-Cond x)
  cond_rolled x layer fits = subst IsGoodCond (sym (fold-roll-Cond CondText (cond_text_step names) x)) (layer (sym (fold-roll-Cond Bool (cond_fits_step (scope_of names)) x) ∙ fits))

  -- how a condition that fits is written
  pub cond_good : (e : Cond) → FitsCond e
  cond_good = ind-Cond FitsCond (λ x y same. cond_rolled x (subst FitsCondLayer same (cond_layer (λ s. s.0) (λ s. s.1) y)))
