-- A set expression is determined by how it is written.
use Rattle.std.proofs.Common.{◌≡◌, ℕ, ◌^◌, ◌<◌, Bool, true, nat_lt, List, refl, sym, ap, ◌∙◌, subst, arith, IsTrue}
use Rattle.std.proofs.lemmas.Bool.{and_parts}
use Rattle.std.proofs.lemmas.Bool.Decides.{nat_tests}
use Rattle.hk_spec.specs.Scopes.{is_set_param, is_set_kind, set_fits, set_fits_step, is_good_set}
use Rattle.hk_spec.specs.declared.expressions.SetExpr.{SetExpr}
use Rattle.hk_spec.specs.declared.expressions.SetExpr.TheOpen.{SetExpr-F}
use Rattle.hk_spec.specs.declared.expressions.SetExpr.TheVariants.{Lit, One, Param, Bits, Union, Common, Without, rolls-Lit, rolls-One, rolls-Param, rolls-Bits, rolls-Union, rolls-Common, rolls-Without}
use Rattle.hk_spec.specs.declared.expressions.SetExpr.TheViews.{roll-SetExpr}
use Rattle.hk_spec.specs.declared.expressions.SetExpr.TheFolds.{ind-SetExpr, fold-roll-SetExpr, map-SetExpr}
use Rattle.hk_terms.specs.Names.{scope_of}
use Rattle.hk_terms.specs.Names.{Names}
use Rattle.hk_terms.specs.SetTexts as set
use Rattle.hk_terms.specs.SetTexts.{SetText, SetOperation}
use Rattle.hk_terms.specs.Trees.{member_texts, set_text, set_text_step}
use Rattle.hk_terms.proofs.TreeTextsLiterals.{set_one}
use Rattle.hk_terms.proofs.TreeTextsPlaces.{AreFree, Source, Parameter, Property, StandsAt, param_named, property_named, source_one}

-- the expression is what stands for a parameter or a property of this name
pub record IsNamed {X : Type 0} (names : Names) (made : Source → X) (word : List ℕ) (e : X) : Type 0 where
  pub source : Source
  pub at : StandsAt names source word
  pub is : e ≡ made source

-- a name stands for one expression
pub named_one : {X : Type 0} {names : Names} {made : Source → X} {word : List ℕ} {a b : X} → AreFree names → IsNamed names made word a → IsNamed names made word b → a ≡ b
named_one {names = names} {made = made} free h k = h.is ∙ ap made (source_one names h.source k.source free h.at k.at) ∙ sym k.is

-- the set of a parameter or a property
abbrev pub set_named : Source → SetExpr
set_named (Parameter place) = Param place
set_named (Property side place) = Bits side place

-- two sets joined by an operation
abbrev pub set_joined : SetOperation → SetExpr → SetExpr → SetExpr
set_joined set.Union a b = Union a b
set_joined set.Common a b = Common a b
set_joined set.Without a b = Without a b

-- the expression is one that is written so
abbrev pub IsSetTree : Names → SetText → SetExpr → Type 0
IsSetTree names (set.Values numbers) e = (bits : ℕ) × (e ≡ Lit bits) × (bits < 2 ^ 128) × (member_texts bits ≡ numbers)
IsSetTree names set.One e = e ≡ One
IsSetTree names (set.Named word) e = IsNamed names set_named word e
IsSetTree names (set.Joined operation a b) e = (x : SetExpr) × (y : SetExpr) × (e ≡ set_joined operation x y) × IsSetTree names a x × IsSetTree names b y

module _ (names : Names) where
  joined_one : (operation : SetOperation) {a b x y z w : SetExpr} → a ≡ set_joined operation x y → b ≡ set_joined operation z w → x ≡ z → y ≡ w → a ≡ b
  joined_one operation {y = y} {z = z} h k left right = h ∙ ap (λ v. set_joined operation v y) left ∙ ap (set_joined operation z) right ∙ sym k

  -- one expression is written so
  pub set_tree_one : AreFree names → (text : SetText) (a b : SetExpr) → IsSetTree names text a → IsSetTree names text b → a ≡ b
  set_tree_one free (set.Values numbers) a b (s, is, small, texts) (t, also_is, also_small, also_texts) = is ∙ ap Lit (set_one s t small also_small (texts ∙ sym also_texts)) ∙ sym also_is
  set_tree_one free set.One a b h k = h ∙ sym k
  set_tree_one free (set.Named word) a b h k = named_one free h k
  set_tree_one free (set.Joined operation l r) a b (x, y, is, left, right) (z, w, also_is, also_left, also_right) = joined_one operation is also_is (set_tree_one free l x z left also_left) (set_tree_one free r y w right also_right)

  abbrev IsTree : SetExpr → Type 0
  IsTree e = set_fits (scope_of names) e ≡ true → IsSetTree names (set_text names e) e

  fits_small : (bits : ℕ) → nat_lt bits (2 ^ 128) ≡ true → bits < 2 ^ 128
  fits_small bits h = grind (arith, nat_tests)

  set_layer : {X : Type 0} (tree : X → SetExpr) → ((x : X) → IsTree (tree x)) → (y : SetExpr-F X)
      → set_fits_step (scope_of names) (map-SetExpr SetExpr Bool (set_fits (scope_of names)) (map-SetExpr X SetExpr tree y)) ≡ true
      → IsSetTree names (set_text_step names (map-SetExpr SetExpr SetText (set_text names) (map-SetExpr X SetExpr tree y))) (roll-SetExpr (map-SetExpr X SetExpr tree y))
  set_layer tree parts (SetExpr-F.Lit bits) fits = (bits, rolls-Lit bits, fits_small bits fits, refl)
  set_layer tree parts SetExpr-F.One fits = rolls-One
  set_layer tree parts (SetExpr-F.Param place) fits = record { source = Parameter place; at = param_named names place is_set_param refl fits; is = rolls-Param place }
  set_layer tree parts (SetExpr-F.Bits side place) fits = record { source = Property side place; at = property_named names side place is_set_kind refl fits; is = rolls-Bits side place }
  set_layer tree parts (SetExpr-F.Union a b) fits = let both = and_parts _ _ fits in (tree a, tree b, rolls-Union (tree a) (tree b), parts a both.0, parts b both.1)
  set_layer tree parts (SetExpr-F.Common a b) fits = let both = and_parts _ _ fits in (tree a, tree b, rolls-Common (tree a) (tree b), parts a both.0, parts b both.1)
  set_layer tree parts (SetExpr-F.Without a b) fits = let both = and_parts _ _ fits in (tree a, tree b, rolls-Without (tree a) (tree b), parts a both.0, parts b both.1)

  abbrev IsLayer : SetExpr-F SetExpr → Type 0
  IsLayer x = set_fits_step (scope_of names) (map-SetExpr SetExpr Bool (set_fits (scope_of names)) x) ≡ true → IsSetTree names (set_text_step names (map-SetExpr SetExpr SetText (set_text names) x)) (roll-SetExpr x)

  set_rolled : (x : SetExpr-F SetExpr) → IsLayer x → IsTree (roll-SetExpr x)
  set_rolled x layer fits =
      subst (λ text. IsSetTree names text (roll-SetExpr x)) (sym (fold-roll-SetExpr SetText (set_text_step names) x)) (layer (sym (fold-roll-SetExpr Bool (set_fits_step (scope_of names)) x) ∙ fits))

  -- an expression that fits is one that is written as it is
  pub set_tree : (e : SetExpr) → IsTree e
  set_tree = ind-SetExpr IsTree (λ x y same. set_rolled x (subst IsLayer same (set_layer (λ s. s.0) (λ s. s.1) y)))

  -- two set expressions that fit and are written alike are one
  pub set_fits_one : AreFree names → (a b : SetExpr) → set_fits (scope_of names) a ≡ true → set_fits (scope_of names) b ≡ true → set_text names a ≡ set_text names b → a ≡ b
  set_fits_one free a b fits also_fits same = set_tree_one free (set_text names b) a b (subst (λ text. IsSetTree names text a) same (set_tree a fits)) (set_tree b also_fits)

  -- two set expressions of a specification that are written alike are one
  pub set_text_one : AreFree names → (a b : SetExpr) → IsTrue (is_good_set (scope_of names) a) → IsTrue (is_good_set (scope_of names) b) → set_text names a ≡ set_text names b → a ≡ b
  set_text_one free a b good also_good same = set_fits_one free a b (and_parts _ _ good).0 (and_parts _ _ also_good).0 same
