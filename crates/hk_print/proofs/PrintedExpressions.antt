-- The pieces of expressions that fit their scope are tokens.
use Rattle.std.proofs.Common.{◌≡◌, ℕ, Bool, true, ◌&&◌, List, [], ◌∷◌, ◌++◌, codes, refl, sym, ◌∙◌, subst}
use Rattle.std.proofs.lemmas.Bool.{and_parts, both_ways}
use Rattle.hk_kinds.specs.declared.kinds.Kind.{Kind}
use Rattle.hk_kinds.specs.declared.kinds.Kind.TheVariants.{Min, Max, Interval, SomeBits, AllBits}
use Rattle.hk_spec.specs.Scopes.{Scope, kinds_of, is_number_kind, is_interval_kind, is_set_kind, is_num_param, is_set_param, is_list_param, set_fits, set_fits_step, num_fits, num_fits_step, cond_fits, cond_fits_step, is_good_num, is_good_set, is_good_cond}
use Rattle.hk_spec.specs.Specifications.{is_step}
use Rattle.hk_spec.specs.declared.expressions.Side.{Side}
use Rattle.hk_spec.specs.declared.expressions.NumExpr.{NumExpr}
use Rattle.hk_spec.specs.declared.expressions.NumExpr.TheOpen.{NumExpr-F}
use Rattle.hk_spec.specs.declared.expressions.NumExpr.TheViews.{roll-NumExpr}
use Rattle.hk_spec.specs.declared.expressions.NumExpr.TheFolds.{ind-NumExpr, fold-roll-NumExpr, map-NumExpr}
use Rattle.hk_spec.specs.declared.expressions.SetExpr.{SetExpr}
use Rattle.hk_spec.specs.declared.expressions.SetExpr.TheOpen.{SetExpr-F}
use Rattle.hk_spec.specs.declared.expressions.SetExpr.TheViews.{roll-SetExpr}
use Rattle.hk_spec.specs.declared.expressions.SetExpr.TheFolds.{ind-SetExpr, fold-roll-SetExpr, map-SetExpr}
use Rattle.hk_spec.specs.declared.expressions.Cond.{Cond}
use Rattle.hk_spec.specs.declared.expressions.Cond.TheOpen.{Cond-F}
use Rattle.hk_spec.specs.declared.expressions.Cond.TheViews.{roll-Cond}
use Rattle.hk_spec.specs.declared.expressions.Cond.TheFolds.{ind-Cond, fold-roll-Cond, map-Cond}
use Rattle.hk_spec.specs.declared.parts.StepExpr.{StepExpr}
use Rattle.hk_spec.specs.declared.parts.StepExpr.TheVariants as step
use Rattle.hk_text.specs.declared.lexemes.TokenKind.TheVariants.{Symbol}
use Rattle.hk_print.specs.Expressions.{Naming, names_of_side, operation, set_step, set_pieces, num_step, num_pieces, cond_step, cond_pieces}
use Rattle.hk_print.specs.Pieces.{piece}
use Rattle.hk_print.specs.Printed.{step_pieces}
use Rattle.hk_print.proofs.PrintedTokens.{HasWords, ArePieces, is_token, each_append, IsPiece, word_piece, in_parentheses, operation_pieces, call_pieces, membership_pieces, signed_are, literal_are}

-- what a scope has is named by words
pub record AreNamed (scope : Scope) (naming : Naming) : Type 0 where
  pub params : HasWords scope.params naming.params
  pub properties : (side : Side) → HasWords (kinds_of scope side) (names_of_side naming side)

module _ (scope : Scope) (naming : Naming) (named : AreNamed scope naming) where
  abbrev AreSet : SetExpr → Type 0
  AreSet e = set_fits scope e ≡ true → ArePieces (set_pieces naming e)

  set_layer : {X : Type 0} (tree : X → SetExpr) → ((x : X) → AreSet (tree x)) → (y : SetExpr-F X)
      → set_fits_step scope (map-SetExpr SetExpr Bool (set_fits scope) (map-SetExpr X SetExpr tree y)) ≡ true
      → ArePieces (set_step naming (map-SetExpr SetExpr (List (List (List ℕ))) (set_pieces naming) (map-SetExpr X SetExpr tree y)))
  set_layer tree parts (SetExpr-F.Lit set) fits = literal_are set
  set_layer tree parts SetExpr-F.One fits = (is_token Symbol refl, (word_piece (refl, refl), (is_token Symbol refl, tt)))
  set_layer tree parts (SetExpr-F.Param place) fits = (word_piece (named.params place is_set_param refl fits), tt)
  set_layer tree parts (SetExpr-F.Bits side place) fits = (word_piece (named.properties side place is_set_kind refl fits), tt)
  set_layer tree parts (SetExpr-F.Union a b) fits = let both = and_parts _ _ fits in operation_pieces _ (codes "|") _ (is_token Symbol refl) (parts a both.0) (parts b both.1)
  set_layer tree parts (SetExpr-F.Common a b) fits = let both = and_parts _ _ fits in operation_pieces _ (codes "&") _ (is_token Symbol refl) (parts a both.0) (parts b both.1)
  set_layer tree parts (SetExpr-F.Without a b) fits = let both = and_parts _ _ fits in operation_pieces _ (codes "\\") _ (is_token Symbol refl) (parts a both.0) (parts b both.1)

  abbrev IsSetLayer : SetExpr-F SetExpr → Type 0
  IsSetLayer x = set_fits_step scope (map-SetExpr SetExpr Bool (set_fits scope) x) ≡ true → ArePieces (set_step naming (map-SetExpr SetExpr (List (List (List ℕ))) (set_pieces naming) x))

  set_rolled : (x : SetExpr-F SetExpr) → IsSetLayer x → AreSet (roll-SetExpr x)
  set_rolled x layer fits =
      subst ArePieces (sym (fold-roll-SetExpr (List (List (List ℕ))) (set_step naming) x)) (layer (sym (fold-roll-SetExpr Bool (set_fits_step scope) x) ∙ fits))

  -- a set expression that fits is printed in tokens
  pub set_are : (e : SetExpr) → AreSet e
  set_are = ind-SetExpr AreSet (λ x y same. set_rolled x (subst IsSetLayer same (set_layer (λ s. s.0) (λ s. s.1) y)))

  abbrev AreNum : NumExpr → Type 0
  AreNum e = num_fits scope e ≡ true → ArePieces (num_pieces naming e)

  num_layer : {X : Type 0} (tree : X → NumExpr) → ((x : X) → AreNum (tree x)) → (y : NumExpr-F X)
      → num_fits_step scope (map-NumExpr NumExpr Bool (num_fits scope) (map-NumExpr X NumExpr tree y)) ≡ true
      → ArePieces (num_step naming (map-NumExpr NumExpr (List (List (List ℕ))) (num_pieces naming) (map-NumExpr X NumExpr tree y)))
  num_layer tree parts (NumExpr-F.Lit n) fits = signed_are n
  num_layer tree parts NumExpr-F.Value fits = (word_piece (refl, refl), tt)
  num_layer tree parts NumExpr-F.Index fits = (word_piece (refl, refl), tt)
  num_layer tree parts NumExpr-F.Length fits = (word_piece (refl, refl), tt)
  num_layer tree parts NumExpr-F.Best fits = (word_piece (refl, refl), tt)
  num_layer tree parts (NumExpr-F.Param place) fits = (word_piece (named.params place is_num_param refl fits), tt)
  num_layer tree parts (NumExpr-F.Item place) fits = (word_piece (named.params place is_list_param refl fits), (is_token Symbol refl, (word_piece (refl, refl), (is_token Symbol refl, tt))))
  num_layer tree parts (NumExpr-F.Number side place) fits = (word_piece (named.properties side place is_number_kind refl fits), tt)
  num_layer tree parts (NumExpr-F.Low side place) fits = (word_piece (named.properties side place is_interval_kind refl fits), (is_token Symbol refl, (word_piece (refl, refl), tt)))
  num_layer tree parts (NumExpr-F.High side place) fits = (word_piece (named.properties side place is_interval_kind refl fits), (is_token Symbol refl, (word_piece (refl, refl), tt)))
  num_layer tree parts (NumExpr-F.Card set) fits = (word_piece (refl, refl), in_parentheses (set_pieces naming set) (set_are set fits))
  num_layer tree parts (NumExpr-F.Add a b) fits = let both = and_parts _ _ fits in operation_pieces _ (codes "+") _ (is_token Symbol refl) (parts a both.0) (parts b both.1)
  num_layer tree parts (NumExpr-F.Least a b) fits = let both = and_parts _ _ fits in call_pieces (codes "min") _ _ (word_piece (refl, refl)) (parts a both.0) (parts b both.1)
  num_layer tree parts (NumExpr-F.Most a b) fits = let both = and_parts _ _ fits in call_pieces (codes "max") _ _ (word_piece (refl, refl)) (parts a both.0) (parts b both.1)
  num_layer tree parts (NumExpr-F.Minus a b) fits = let both = and_parts _ _ fits in operation_pieces _ (codes "-") _ (is_token Symbol refl) (parts a both.0) (parts b both.1)
  num_layer tree parts (NumExpr-F.Negative a) fits = in_parentheses (piece (codes "-") ++ num_pieces naming (tree a)) (is_token Symbol refl, parts a fits)
  num_layer tree parts (NumExpr-F.Times a b) fits = let both = and_parts _ _ fits in operation_pieces _ (codes "*") _ (is_token Symbol refl) (parts a both.0) (parts b both.1)

  abbrev IsNumLayer : NumExpr-F NumExpr → Type 0
  IsNumLayer x = num_fits_step scope (map-NumExpr NumExpr Bool (num_fits scope) x) ≡ true → ArePieces (num_step naming (map-NumExpr NumExpr (List (List (List ℕ))) (num_pieces naming) x))

  num_rolled : (x : NumExpr-F NumExpr) → IsNumLayer x → AreNum (roll-NumExpr x)
  num_rolled x layer fits =
      subst ArePieces (sym (fold-roll-NumExpr (List (List (List ℕ))) (num_step naming) x)) (layer (sym (fold-roll-NumExpr Bool (num_fits_step scope) x) ∙ fits))

  -- a number expression that fits is printed in tokens
  pub num_are : (e : NumExpr) → AreNum e
  num_are = ind-NumExpr AreNum (λ x y same. num_rolled x (subst IsNumLayer same (num_layer (λ s. s.0) (λ s. s.1) y)))

  abbrev AreCond : Cond → Type 0
  AreCond p = cond_fits scope p ≡ true → ArePieces (cond_pieces naming p)

  compared_are : (a : NumExpr) (operator : List ℕ) (b : NumExpr) → IsPiece (operator ∷ []) → (num_fits scope a && num_fits scope b) ≡ true → ArePieces (operation (num_pieces naming a) operator (num_pieces naming b))
  compared_are a operator b token fits = let both = and_parts _ _ fits in operation_pieces (num_pieces naming a) operator (num_pieces naming b) token (num_are a both.0) (num_are b both.1)

  cond_layer : {X : Type 0} (tree : X → Cond) → ((x : X) → AreCond (tree x)) → (y : Cond-F X)
      → cond_fits_step scope (map-Cond Cond Bool (cond_fits scope) (map-Cond X Cond tree y)) ≡ true
      → ArePieces (cond_step naming (map-Cond Cond (List (List (List ℕ))) (cond_pieces naming) (map-Cond X Cond tree y)))
  cond_layer tree parts Cond-F.Always fits = (word_piece (refl, refl), tt)
  cond_layer tree parts Cond-F.Never fits = (word_piece (refl, refl), tt)
  cond_layer tree parts (Cond-F.AtMost a b) fits = compared_are a (codes "<=") b (is_token Symbol refl) fits
  cond_layer tree parts (Cond-F.Below a b) fits = compared_are a (codes "<") b (is_token Symbol refl) fits
  cond_layer tree parts (Cond-F.AtLeast a b) fits = compared_are a (codes ">=") b (is_token Symbol refl) fits
  cond_layer tree parts (Cond-F.Above a b) fits = compared_are a (codes ">") b (is_token Symbol refl) fits
  cond_layer tree parts (Cond-F.Equal a b) fits = compared_are a (codes "==") b (is_token Symbol refl) fits
  cond_layer tree parts (Cond-F.Has set) fits = membership_pieces (codes "in") _ (word_piece (refl, refl)) (set_are set fits)
  cond_layer tree parts (Cond-F.Lacks set) fits = membership_pieces (codes "notin") _ (word_piece (refl, refl)) (set_are set fits)
  cond_layer tree parts (Cond-F.Subset a b) fits = let both = and_parts _ _ fits in operation_pieces _ (codes "sub") _ (word_piece (refl, refl)) (set_are a both.0) (set_are b both.1)
  cond_layer tree parts (Cond-F.Both p q) fits = let both = and_parts _ _ fits in operation_pieces _ (codes "and") _ (word_piece (refl, refl)) (parts p both.0) (parts q both.1)
  cond_layer tree parts (Cond-F.Either p q) fits = let both = and_parts _ _ fits in operation_pieces _ (codes "or") _ (word_piece (refl, refl)) (parts p both.0) (parts q both.1)
  cond_layer tree parts (Cond-F.Not p) fits = in_parentheses (piece (codes "not") ++ cond_pieces naming (tree p)) (word_piece (refl, refl), parts p fits)

  abbrev IsCondLayer : Cond-F Cond → Type 0
  IsCondLayer x = cond_fits_step scope (map-Cond Cond Bool (cond_fits scope) x) ≡ true → ArePieces (cond_step naming (map-Cond Cond (List (List (List ℕ))) (cond_pieces naming) x))

  cond_rolled : (x : Cond-F Cond) → IsCondLayer x → AreCond (roll-Cond x)
  cond_rolled x layer fits =
      subst ArePieces (sym (fold-roll-Cond (List (List (List ℕ))) (cond_step naming) x)) (layer (sym (fold-roll-Cond Bool (cond_fits_step scope) x) ∙ fits))

  cond_are : (p : Cond) → AreCond p
  cond_are = ind-Cond AreCond (λ x y same. cond_rolled x (subst IsCondLayer same (cond_layer (λ s. s.0) (λ s. s.1) y)))

  -- a good condition is printed in tokens
  pub good_cond_are : (p : Cond) → is_good_cond scope p ≡ true → ArePieces (cond_pieces naming p)
  good_cond_are p good = cond_are p (and_parts _ _ good).0

  good_num_are : (e : NumExpr) → is_good_num scope e ≡ true → ArePieces (num_pieces naming e)
  good_num_are e good = num_are e (and_parts _ _ good).0

  good_set_are : (e : SetExpr) → is_good_set scope e ≡ true → ArePieces (set_pieces naming e)
  good_set_are e good = set_are e (and_parts _ _ good).0

  -- a good step is printed in tokens
  pub step_are : (kind : Kind) (e : StepExpr) → is_step scope kind e ≡ true → ArePieces (step_pieces naming e)
  step_are Min (step.Num e) good = good_num_are e good
  step_are Min (step.Pair low high) good = absurd (both_ways _ refl good)
  step_are Min (step.Set e) good = absurd (both_ways _ refl good)
  step_are Max (step.Num e) good = good_num_are e good
  step_are Max (step.Pair low high) good = absurd (both_ways _ refl good)
  step_are Max (step.Set e) good = absurd (both_ways _ refl good)
  step_are Interval (step.Num e) good = absurd (both_ways _ refl good)
  step_are Interval (step.Pair low high) good =
      let both = and_parts _ _ good in each_append IsPiece (num_pieces naming low) (num_pieces naming high) (good_num_are low both.0) (good_num_are high both.1)
  step_are Interval (step.Set e) good = absurd (both_ways _ refl good)
  step_are SomeBits (step.Num e) good = absurd (both_ways _ refl good)
  step_are SomeBits (step.Pair low high) good = absurd (both_ways _ refl good)
  step_are SomeBits (step.Set e) good = good_set_are e good
  step_are AllBits (step.Num e) good = absurd (both_ways _ refl good)
  step_are AllBits (step.Pair low high) good = absurd (both_ways _ refl good)
  step_are AllBits (step.Set e) good = good_set_are e good
