-- The tokens of printed expressions are those of the expressions as they are written.
use Rattle.std.proofs.Common.{◌≡◌, ℕ, zero, suc, Bool, true, false, List, [], ◌∷◌, map, Option, None, Some, slice_get, refl, sym, ap, ◌∙◌, subst}
use Rattle.std.specs.Prelude.{codes}
use Rattle.std.proofs.lemmas.Bool.{both_ways, and_parts}
use Rattle.hk_kinds.specs.declared.kinds.Kind.{Kind}
use Rattle.hk_spec.specs.Scopes.{is_num_param, is_set_param, is_list_param, is_number_kind, is_interval_kind, is_set_kind, kinds_of, set_fits, set_fits_step, num_fits, num_fits_step, cond_fits, cond_fits_step}
use Rattle.hk_spec.specs.declared.expressions.NumExpr.{NumExpr}
use Rattle.hk_spec.specs.declared.expressions.NumExpr.TheOpen.{NumExpr-F}
use Rattle.hk_spec.specs.declared.expressions.NumExpr.TheViews.{roll-NumExpr}
use Rattle.hk_spec.specs.declared.expressions.NumExpr.TheFolds.{ind-NumExpr, fold-roll-NumExpr, map-NumExpr}
use Rattle.hk_spec.specs.declared.expressions.SetExpr.{SetExpr}
use Rattle.hk_spec.specs.declared.expressions.SetExpr.TheOpen.{SetExpr-F}
use Rattle.hk_spec.specs.declared.expressions.SetExpr.TheViews.{roll-SetExpr}
use Rattle.hk_spec.specs.declared.expressions.SetExpr.TheFolds.{ind-SetExpr, fold-roll-SetExpr, map-SetExpr}
use Rattle.hk_spec.specs.declared.expressions.Cond.{Cond}
use Rattle.hk_spec.specs.declared.expressions.Cond.TheOpen.{Cond-F}
use Rattle.hk_spec.specs.declared.expressions.Cond.TheViews.{roll-Cond}
use Rattle.hk_spec.specs.declared.expressions.Cond.TheFolds.{ind-Cond, fold-roll-Cond, map-Cond}
use Rattle.hk_spec.specs.declared.expressions.Side.{Side}
use Rattle.hk_spec.specs.declared.expressions.Side.TheVariants.{Down, Up}
use Rattle.hk_spec.specs.declared.parts.Param.{Param}
use Rattle.hk_spec.specs.declared.parts.ParamKind.{ParamKind}
use Rattle.hk_spec.specs.declared.parts.PropDecl.{PropDecl}
use Rattle.hk_terms.specs.Names.{scope_of}
use Rattle.hk_terms.specs.CondTexts.{CondText, cond_texts}
use Rattle.hk_print.specs.Expressions.{Naming, name_at, names_of_side, set_pieces, set_step, num_pieces, num_step, cond_pieces, cond_step}
use Rattle.hk_terms.specs.Names.{Names}
use Rattle.hk_terms.specs.NumTexts.{NumText, num_texts}
use Rattle.hk_print.specs.Pieces.{tokens_of}
use Rattle.hk_terms.specs.SetTexts.{SetText, set_texts}
use Rattle.hk_terms.specs.Trees.{param_name, property_name, properties_of, set_text, set_text_step, num_text, num_text_step, cond_text, cond_text_step}
use Rattle.hk_parse.proofs.PrintedPieces.{HasTokens, operation_tokens, call_tokens, one_call_tokens, one_operation_tokens, membership_tokens, literal_tokens, signed_tokens}

-- the naming has each name at its place
pub record Covers (naming : Naming) (names : Names) : Type 0 where
  pub param : (place : ℕ) (p : Param) → slice_get names.params place ≡ Some p → name_at naming.params place ≡ p.name
  pub property : (side : Side) (place : ℕ) (p : PropDecl) → slice_get (properties_of names side) place ≡ Some p → name_at (names_of_side naming side) place ≡ p.name

-- where a test of the kind at a place passes, something of such a kind is there
pub there_by_kind : {X K : Type 0} (test : Option K → Bool) (kind : X → K) (xs : List X) (place : ℕ) → test None ≡ false → test (slice_get (map kind xs) place) ≡ true → (x : X) × (slice_get xs place ≡ Some x) × (test (Some (kind x)) ≡ true)
there_by_kind test kind [] place none passes = absurd (both_ways _ none passes)
there_by_kind test kind (x ∷ xs) zero none passes = (x, refl, passes)
there_by_kind test kind (x ∷ xs) (suc place) none passes = there_by_kind test kind xs place none passes

-- the same of the properties of a side
pub property_there : (names : Names) (side : Side) (test : Option Kind → Bool) (place : ℕ) → test None ≡ false → test (slice_get (kinds_of (scope_of names) side) place) ≡ true → (p : PropDecl) × (slice_get (properties_of names side) place ≡ Some p) × (test (Some p.kind) ≡ true)
property_there names Down test place none passes = there_by_kind test (λ (p : PropDecl). p.kind) names.down place none passes
property_there names Up test place none passes = there_by_kind test (λ (p : PropDecl). p.kind) names.up place none passes

module _ {naming : Naming} {names : Names} (covers : Covers naming names) where
  param_same : (test : Option ParamKind → Bool) (place : ℕ) → test None ≡ false → test (slice_get (scope_of names).params place) ≡ true → name_at naming.params place ≡ param_name (slice_get names.params place)
  param_same test place none passes =
      let (p, got, has) = there_by_kind test (λ (p : Param). p.kind) names.params place none passes in
      covers.param place p got ∙ ap param_name (sym got)

  property_same : (test : Option Kind → Bool) (side : Side) (place : ℕ) → test None ≡ false → test (slice_get (kinds_of (scope_of names) side) place) ≡ true → name_at (names_of_side naming side) place ≡ property_name (slice_get (properties_of names side) place)
  property_same test side place none passes =
      let (p, got, has) = property_there names side test place none passes in
      covers.property side place p got ∙ ap property_name (sym got)

  abbrev IsPrintedSet : SetExpr → Type 0
  IsPrintedSet e = set_fits (scope_of names) e ≡ true → HasTokens (set_pieces naming e) (set_texts (set_text names e))

  set_layer : {X : Type 0} (tree : X → SetExpr) → ((x : X) → IsPrintedSet (tree x)) → (y : SetExpr-F X)
      → set_fits_step (scope_of names) (map-SetExpr SetExpr Bool (set_fits (scope_of names)) (map-SetExpr X SetExpr tree y)) ≡ true
      → HasTokens (set_step naming (map-SetExpr SetExpr (List (List (List ℕ))) (set_pieces naming) (map-SetExpr X SetExpr tree y))) (set_texts (set_text_step names (map-SetExpr SetExpr SetText (set_text names) (map-SetExpr X SetExpr tree y))))
  set_layer tree parts (SetExpr-F.Lit bits) fits = literal_tokens bits
  set_layer tree parts SetExpr-F.One fits = record { are = refl }
  set_layer tree parts (SetExpr-F.Param place) fits = record { are = ap (λ word. word ∷ []) (param_same is_set_param place refl fits) }
  set_layer tree parts (SetExpr-F.Bits side place) fits = record { are = ap (λ word. word ∷ []) (property_same is_set_kind side place refl fits) }
  set_layer tree parts (SetExpr-F.Union a b) fits = let both = and_parts _ _ fits in operation_tokens (parts a both.0) (parts b both.1) (codes "|")
  set_layer tree parts (SetExpr-F.Common a b) fits = let both = and_parts _ _ fits in operation_tokens (parts a both.0) (parts b both.1) (codes "&")
  set_layer tree parts (SetExpr-F.Without a b) fits = let both = and_parts _ _ fits in operation_tokens (parts a both.0) (parts b both.1) (codes "\\")

  abbrev IsSetLayer : SetExpr-F SetExpr → Type 0
  IsSetLayer x = set_fits_step (scope_of names) (map-SetExpr SetExpr Bool (set_fits (scope_of names)) x) ≡ true
      → HasTokens (set_step naming (map-SetExpr SetExpr (List (List (List ℕ))) (set_pieces naming) x)) (set_texts (set_text_step names (map-SetExpr SetExpr SetText (set_text names) x)))

  set_rolled : (x : SetExpr-F SetExpr) → IsSetLayer x → IsPrintedSet (roll-SetExpr x)
  set_rolled x layer fits =
      let tokens = layer (sym (fold-roll-SetExpr Bool (set_fits_step (scope_of names)) x) ∙ fits) in
      record { are = ap tokens_of (fold-roll-SetExpr (List (List (List ℕ))) (set_step naming) x) ∙ tokens.are ∙ ap set_texts (sym (fold-roll-SetExpr SetText (set_text_step names) x)) }

  -- the tokens of a printed set expression are those of how it is written
  pub set_tokens : (e : SetExpr) → IsPrintedSet e
  set_tokens = ind-SetExpr IsPrintedSet (λ x y same. set_rolled x (subst IsSetLayer same (set_layer (λ s. s.0) (λ s. s.1) y)))

  abbrev IsPrintedNum : NumExpr → Type 0
  IsPrintedNum e = num_fits (scope_of names) e ≡ true → HasTokens (num_pieces naming e) (num_texts (num_text names e))

  num_layer : {X : Type 0} (tree : X → NumExpr) → ((x : X) → IsPrintedNum (tree x)) → (y : NumExpr-F X)
      → num_fits_step (scope_of names) (map-NumExpr NumExpr Bool (num_fits (scope_of names)) (map-NumExpr X NumExpr tree y)) ≡ true
      → HasTokens (num_step naming (map-NumExpr NumExpr (List (List (List ℕ))) (num_pieces naming) (map-NumExpr X NumExpr tree y))) (num_texts (num_text_step names (map-NumExpr NumExpr NumText (num_text names) (map-NumExpr X NumExpr tree y))))
  num_layer tree parts (NumExpr-F.Lit n) fits = signed_tokens n
  num_layer tree parts NumExpr-F.Value fits = record { are = refl }
  num_layer tree parts NumExpr-F.Index fits = record { are = refl }
  num_layer tree parts NumExpr-F.Length fits = record { are = refl }
  num_layer tree parts NumExpr-F.Best fits = record { are = refl }
  num_layer tree parts (NumExpr-F.Param place) fits = record { are = ap (λ word. word ∷ []) (param_same is_num_param place refl fits) }
  num_layer tree parts (NumExpr-F.Item place) fits = record { are = ap (λ word. word ∷ codes "[" ∷ codes "i" ∷ codes "]" ∷ []) (param_same is_list_param place refl fits) }
  num_layer tree parts (NumExpr-F.Number side place) fits = record { are = ap (λ word. word ∷ []) (property_same is_number_kind side place refl fits) }
  num_layer tree parts (NumExpr-F.Low side place) fits = record { are = ap (λ word. word ∷ codes "." ∷ codes "lo" ∷ []) (property_same is_interval_kind side place refl fits) }
  num_layer tree parts (NumExpr-F.High side place) fits = record { are = ap (λ word. word ∷ codes "." ∷ codes "hi" ∷ []) (property_same is_interval_kind side place refl fits) }
  num_layer tree parts (NumExpr-F.Card set) fits = one_call_tokens (set_tokens set fits) (codes "card")
  num_layer tree parts (NumExpr-F.Add a b) fits = let both = and_parts _ _ fits in operation_tokens (parts a both.0) (parts b both.1) (codes "+")
  num_layer tree parts (NumExpr-F.Least a b) fits = let both = and_parts _ _ fits in call_tokens (parts a both.0) (parts b both.1) (codes "min")
  num_layer tree parts (NumExpr-F.Most a b) fits = let both = and_parts _ _ fits in call_tokens (parts a both.0) (parts b both.1) (codes "max")
  num_layer tree parts (NumExpr-F.Minus a b) fits = let both = and_parts _ _ fits in operation_tokens (parts a both.0) (parts b both.1) (codes "-")
  num_layer tree parts (NumExpr-F.Negative a) fits = one_operation_tokens (parts a fits) (codes "-")
  num_layer tree parts (NumExpr-F.Times a b) fits = let both = and_parts _ _ fits in operation_tokens (parts a both.0) (parts b both.1) (codes "*")

  abbrev IsNumLayer : NumExpr-F NumExpr → Type 0
  IsNumLayer x = num_fits_step (scope_of names) (map-NumExpr NumExpr Bool (num_fits (scope_of names)) x) ≡ true
      → HasTokens (num_step naming (map-NumExpr NumExpr (List (List (List ℕ))) (num_pieces naming) x)) (num_texts (num_text_step names (map-NumExpr NumExpr NumText (num_text names) x)))

  num_rolled : (x : NumExpr-F NumExpr) → IsNumLayer x → IsPrintedNum (roll-NumExpr x)
  num_rolled x layer fits =
      let tokens = layer (sym (fold-roll-NumExpr Bool (num_fits_step (scope_of names)) x) ∙ fits) in
      record { are = ap tokens_of (fold-roll-NumExpr (List (List (List ℕ))) (num_step naming) x) ∙ tokens.are ∙ ap num_texts (sym (fold-roll-NumExpr NumText (num_text_step names) x)) }

  -- the same of a number expression
  pub num_tokens : (e : NumExpr) → IsPrintedNum e
  num_tokens = ind-NumExpr IsPrintedNum (λ x y same. num_rolled x (subst IsNumLayer same (num_layer (λ s. s.0) (λ s. s.1) y)))

  abbrev IsPrintedCond : Cond → Type 0
  IsPrintedCond e = cond_fits (scope_of names) e ≡ true → HasTokens (cond_pieces naming e) (cond_texts (cond_text names e))

  cond_layer : {X : Type 0} (tree : X → Cond) → ((x : X) → IsPrintedCond (tree x)) → (y : Cond-F X)
      → cond_fits_step (scope_of names) (map-Cond Cond Bool (cond_fits (scope_of names)) (map-Cond X Cond tree y)) ≡ true
      → HasTokens (cond_step naming (map-Cond Cond (List (List (List ℕ))) (cond_pieces naming) (map-Cond X Cond tree y))) (cond_texts (cond_text_step names (map-Cond Cond CondText (cond_text names) (map-Cond X Cond tree y))))
  cond_layer tree parts Cond-F.Always fits = record { are = refl }
  cond_layer tree parts Cond-F.Never fits = record { are = refl }
  cond_layer tree parts (Cond-F.AtMost a b) fits = let both = and_parts _ _ fits in operation_tokens (num_tokens a both.0) (num_tokens b both.1) (codes "<=")
  cond_layer tree parts (Cond-F.Below a b) fits = let both = and_parts _ _ fits in operation_tokens (num_tokens a both.0) (num_tokens b both.1) (codes "<")
  cond_layer tree parts (Cond-F.AtLeast a b) fits = let both = and_parts _ _ fits in operation_tokens (num_tokens a both.0) (num_tokens b both.1) (codes ">=")
  cond_layer tree parts (Cond-F.Above a b) fits = let both = and_parts _ _ fits in operation_tokens (num_tokens a both.0) (num_tokens b both.1) (codes ">")
  cond_layer tree parts (Cond-F.Equal a b) fits = let both = and_parts _ _ fits in operation_tokens (num_tokens a both.0) (num_tokens b both.1) (codes "==")
  cond_layer tree parts (Cond-F.Has e) fits = membership_tokens (set_tokens e fits) (codes "in")
  cond_layer tree parts (Cond-F.Lacks e) fits = membership_tokens (set_tokens e fits) (codes "notin")
  cond_layer tree parts (Cond-F.Subset a b) fits = let both = and_parts _ _ fits in operation_tokens (set_tokens a both.0) (set_tokens b both.1) (codes "sub")
  cond_layer tree parts (Cond-F.Both p q) fits = let both = and_parts _ _ fits in operation_tokens (parts p both.0) (parts q both.1) (codes "and")
  cond_layer tree parts (Cond-F.Either p q) fits = let both = and_parts _ _ fits in operation_tokens (parts p both.0) (parts q both.1) (codes "or")
  cond_layer tree parts (Cond-F.Not p) fits = one_operation_tokens (parts p fits) (codes "not")

  abbrev IsCondLayer : Cond-F Cond → Type 0
  IsCondLayer x = cond_fits_step (scope_of names) (map-Cond Cond Bool (cond_fits (scope_of names)) x) ≡ true
      → HasTokens (cond_step naming (map-Cond Cond (List (List (List ℕ))) (cond_pieces naming) x)) (cond_texts (cond_text_step names (map-Cond Cond CondText (cond_text names) x)))

  cond_rolled : (x : Cond-F Cond) → IsCondLayer x → IsPrintedCond (roll-Cond x)
  cond_rolled x layer fits =
      let tokens = layer (sym (fold-roll-Cond Bool (cond_fits_step (scope_of names)) x) ∙ fits) in
      record { are = ap tokens_of (fold-roll-Cond (List (List (List ℕ))) (cond_step naming) x) ∙ tokens.are ∙ ap cond_texts (sym (fold-roll-Cond CondText (cond_text_step names) x)) }

  -- the same of a condition
  pub cond_tokens : (e : Cond) → IsPrintedCond e
  cond_tokens = ind-Cond IsPrintedCond (λ x y same. cond_rolled x (subst IsCondLayer same (cond_layer (λ s. s.0) (λ s. s.1) y)))
