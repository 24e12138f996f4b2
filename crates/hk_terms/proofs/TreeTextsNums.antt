-- A number expression is determined by how it is written.
use Rattle.std.proofs.Common.{◌≡◌, ℕ, ℤ, zero, suc, Bool, true, List, Some, slice_get, refl, sym, ap, ◌∙◌, subst, IsTrue}
use Rattle.std.proofs.lemmas.Bool.{and_parts, both_ways}
use Rattle.hk_spec.specs.Scopes.{is_within_limit, is_num_param, is_list_param, is_number_kind, is_interval_kind, num_fits, num_fits_step, is_good_num}
use Rattle.hk_spec.specs.declared.expressions.NumExpr.{NumExpr}
use Rattle.hk_spec.specs.declared.expressions.NumExpr.TheOpen.{NumExpr-F}
use Rattle.hk_spec.specs.declared.expressions.NumExpr.TheVariants.{Lit, Value, Index, Length, Param, Item, Number, Low, High, Card, Add, Least, Most, Minus, Negative, Times, rolls-Lit, rolls-Value, rolls-Index, rolls-Length, rolls-Param, rolls-Item, rolls-Number, rolls-Low, rolls-High, rolls-Card, rolls-Add, rolls-Least, rolls-Most, rolls-Minus, rolls-Negative, rolls-Times}
use Rattle.hk_spec.specs.declared.expressions.NumExpr.TheViews.{roll-NumExpr}
use Rattle.hk_spec.specs.declared.expressions.NumExpr.TheFolds.{ind-NumExpr, fold-roll-NumExpr, map-NumExpr}
use Rattle.hk_spec.specs.declared.expressions.SetExpr.{SetExpr}
use Rattle.hk_terms.specs.Names.{scope_of}
use Rattle.hk_terms.specs.Names.{Names, plain_words}
use Rattle.hk_terms.specs.NumTexts as num
use Rattle.hk_terms.specs.NumTexts.{NumText, NumOperation, Choice}
use Rattle.hk_terms.specs.Trees.{is_negative, digits_of, num_text, num_text_step}
use Rattle.hk_terms.proofs.TreeTextsLiterals.{number_one}
use Rattle.hk_terms.proofs.TreeTextsPlaces.{AreFree, Source, Parameter, Property, param_named, property_named, source_not_plain, plain_one}
use Rattle.hk_terms.proofs.TreeTextsSets.{IsNamed, named_one, IsSetTree, set_tree, set_tree_one}

-- what a word without a meaning of its own stands for: a number, an item of a list, an end of an interval
abbrev pub num_named : Source → NumExpr
num_named (Parameter place) = Param place
num_named (Property side place) = Number side place

abbrev pub item_named : Source → NumExpr
item_named (Parameter place) = Item place
item_named (Property side place) = Value

abbrev pub low_named : Source → NumExpr
low_named (Parameter place) = Value
low_named (Property side place) = Low side place

abbrev pub high_named : Source → NumExpr
high_named (Parameter place) = Value
high_named (Property side place) = High side place

-- what `v`, `i` and `n` stand for
abbrev pub plain_num : ℕ → NumExpr
plain_num zero = Value
plain_num (suc zero) = Index
plain_num (suc (suc k)) = Length

-- what a word that stands for a number stands for
pub data IsNumWord (names : Names) (word : List ℕ) (e : NumExpr) : Type 0 where
  plain : (k : ℕ) → slice_get plain_words k ≡ Some word → e ≡ plain_num k → IsNumWord names word e
  named : IsNamed names num_named word e → IsNumWord names word e

abbrev pub num_joined : NumOperation → NumExpr → NumExpr → NumExpr
num_joined num.Plus a b = Add a b
num_joined num.Minus a b = Minus a b
num_joined num.Times a b = Times a b

abbrev pub num_chosen : Choice → NumExpr → NumExpr → NumExpr
num_chosen num.Least a b = Least a b
num_chosen num.Most a b = Most a b

-- the expression is one that is written so
abbrev pub IsNumTree : Names → NumText → NumExpr → Type 0
IsNumTree names (num.Number negative digits) e = (z : ℤ) × (e ≡ Lit z) × (is_within_limit z ≡ true) × (is_negative z ≡ negative) × (digits_of z ≡ digits)
IsNumTree names (num.Named word) e = IsNumWord names word e
IsNumTree names (num.Item word) e = IsNamed names item_named word e
IsNumTree names (num.Low word) e = IsNamed names low_named word e
IsNumTree names (num.High word) e = IsNamed names high_named word e
IsNumTree names (num.Card set) e = (x : SetExpr) × (e ≡ Card x) × IsSetTree names set x
IsNumTree names (num.Joined operation a b) e = (x : NumExpr) × (y : NumExpr) × (e ≡ num_joined operation x y) × IsNumTree names a x × IsNumTree names b y
IsNumTree names (num.Chosen choice a b) e = (x : NumExpr) × (y : NumExpr) × (e ≡ num_chosen choice x y) × IsNumTree names a x × IsNumTree names b y
IsNumTree names (num.Negative a) e = (x : NumExpr) × (e ≡ Negative x) × IsNumTree names a x

-- what is made of the same parts is the same
pub two_one : {X Y : Type 0} (make : X → X → Y) {a b : Y} {x y z w : X} → a ≡ make x y → b ≡ make z w → x ≡ z → y ≡ w → a ≡ b
two_one make {y = y} {z = z} h k left right = h ∙ ap (λ v. make v y) left ∙ ap (make z) right ∙ sym k

pub part_one : {X Y : Type 0} (make : X → Y) {a b : Y} {x y : X} → a ≡ make x → b ≡ make y → x ≡ y → a ≡ b
part_one make h k same = h ∙ ap make same ∙ sym k

module _ (names : Names) where
  word_one : (word : List ℕ) (a b : NumExpr) → AreFree names → IsNumWord names word a → IsNumWord names word b → a ≡ b
  word_one word a b free (plain i at is) (plain j also also_is) = part_one plain_num is also_is (plain_one i j at also)
  word_one word a b free (plain i at is) (named k) = absurd (source_not_plain names k.source i free k.at at)
  word_one word a b free (named h) (plain j at is) = absurd (source_not_plain names h.source j free h.at at)
  word_one word a b free (named h) (named k) = named_one free h k

  -- one expression is written so
  pub num_tree_one : AreFree names → (text : NumText) (a b : NumExpr) → IsNumTree names text a → IsNumTree names text b → a ≡ b
  num_tree_one free (num.Number negative digits) a b (y, is, small, sign, texts) (z, also_is, also_small, also_sign, also_texts) = part_one Lit is also_is (number_one y z small also_small (sign ∙ sym also_sign) (texts ∙ sym also_texts))
  num_tree_one free (num.Named word) a b h k = word_one word a b free h k
  num_tree_one free (num.Item word) a b h k = named_one free h k
  num_tree_one free (num.Low word) a b h k = named_one free h k
  num_tree_one free (num.High word) a b h k = named_one free h k
  num_tree_one free (num.Card set) a b (x, is, part) (y, also_is, also_part) = part_one Card is also_is (set_tree_one names free set x y part also_part)
  num_tree_one free (num.Joined operation l r) a b (x, y, is, left, right) (z, w, also_is, also_left, also_right) = two_one (num_joined operation) is also_is (num_tree_one free l x z left also_left) (num_tree_one free r y w right also_right)
  num_tree_one free (num.Chosen choice l r) a b (x, y, is, left, right) (z, w, also_is, also_left, also_right) = two_one (num_chosen choice) is also_is (num_tree_one free l x z left also_left) (num_tree_one free r y w right also_right)
  num_tree_one free (num.Negative l) a b (x, is, part) (y, also_is, also_part) = part_one Negative is also_is (num_tree_one free l x y part also_part)

  abbrev IsTree : NumExpr → Type 0
  IsTree e = num_fits (scope_of names) e ≡ true → IsNumTree names (num_text names e) e

  num_layer : {X : Type 0} (tree : X → NumExpr) → ((x : X) → IsTree (tree x)) → (y : NumExpr-F X)
      → num_fits_step (scope_of names) (map-NumExpr NumExpr Bool (num_fits (scope_of names)) (map-NumExpr X NumExpr tree y)) ≡ true
      → IsNumTree names (num_text_step names (map-NumExpr NumExpr NumText (num_text names) (map-NumExpr X NumExpr tree y))) (roll-NumExpr (map-NumExpr X NumExpr tree y))
  num_layer tree parts (NumExpr-F.Lit z) fits = (z, rolls-Lit z, fits, refl, refl)
  num_layer tree parts NumExpr-F.Value fits = plain zero refl rolls-Value
  num_layer tree parts NumExpr-F.Index fits = plain (suc zero) refl rolls-Index
  num_layer tree parts NumExpr-F.Length fits = plain (suc (suc zero)) refl rolls-Length
  num_layer tree parts NumExpr-F.Best fits = absurd (both_ways _ refl fits)
  num_layer tree parts (NumExpr-F.Param place) fits = named (record { source = Parameter place; at = param_named names place is_num_param refl fits; is = rolls-Param place })
  num_layer tree parts (NumExpr-F.Item place) fits = record { source = Parameter place; at = param_named names place is_list_param refl fits; is = rolls-Item place }
  num_layer tree parts (NumExpr-F.Number side place) fits = named (record { source = Property side place; at = property_named names side place is_number_kind refl fits; is = rolls-Number side place })
  num_layer tree parts (NumExpr-F.Low side place) fits = record { source = Property side place; at = property_named names side place is_interval_kind refl fits; is = rolls-Low side place }
  num_layer tree parts (NumExpr-F.High side place) fits = record { source = Property side place; at = property_named names side place is_interval_kind refl fits; is = rolls-High side place }
  num_layer tree parts (NumExpr-F.Card e) fits = (e, rolls-Card e, set_tree names e fits)
  num_layer tree parts (NumExpr-F.Add a b) fits = let both = and_parts _ _ fits in (tree a, tree b, rolls-Add (tree a) (tree b), parts a both.0, parts b both.1)
  num_layer tree parts (NumExpr-F.Least a b) fits = let both = and_parts _ _ fits in (tree a, tree b, rolls-Least (tree a) (tree b), parts a both.0, parts b both.1)
  num_layer tree parts (NumExpr-F.Most a b) fits = let both = and_parts _ _ fits in (tree a, tree b, rolls-Most (tree a) (tree b), parts a both.0, parts b both.1)
  num_layer tree parts (NumExpr-F.Minus a b) fits = let both = and_parts _ _ fits in (tree a, tree b, rolls-Minus (tree a) (tree b), parts a both.0, parts b both.1)
  num_layer tree parts (NumExpr-F.Negative a) fits = (tree a, rolls-Negative (tree a), parts a fits)
  num_layer tree parts (NumExpr-F.Times a b) fits = let both = and_parts _ _ fits in (tree a, tree b, rolls-Times (tree a) (tree b), parts a both.0, parts b both.1)

  abbrev IsLayer : NumExpr-F NumExpr → Type 0
  IsLayer x = num_fits_step (scope_of names) (map-NumExpr NumExpr Bool (num_fits (scope_of names)) x) ≡ true → IsNumTree names (num_text_step names (map-NumExpr NumExpr NumText (num_text names) x)) (roll-NumExpr x)

  num_rolled : (x : NumExpr-F NumExpr) → IsLayer x → IsTree (roll-NumExpr x)
  num_rolled x layer fits =
      subst (λ text. IsNumTree names text (roll-NumExpr x)) (sym (fold-roll-NumExpr NumText (num_text_step names) x)) (layer (sym (fold-roll-NumExpr Bool (num_fits_step (scope_of names)) x) ∙ fits))

  -- an expression that fits is one that is written as it is
  pub num_tree : (e : NumExpr) → IsTree e
  num_tree = ind-NumExpr IsTree (λ x y same. num_rolled x (subst IsLayer same (num_layer (λ s. s.0) (λ s. s.1) y)))

  -- two number expressions that fit and are written alike are one
  pub num_fits_one : AreFree names → (a b : NumExpr) → num_fits (scope_of names) a ≡ true → num_fits (scope_of names) b ≡ true → num_text names a ≡ num_text names b → a ≡ b
  num_fits_one free a b fits also_fits same = num_tree_one free (num_text names b) a b (subst (λ text. IsNumTree names text a) same (num_tree a fits)) (num_tree b also_fits)

  -- two number expressions of a specification that are written alike are one
  pub num_text_one : AreFree names → (a b : NumExpr) → IsTrue (is_good_num (scope_of names) a) → IsTrue (is_good_num (scope_of names) b) → num_text names a ≡ num_text names b → a ≡ b
  num_text_one free a b good also_good same = num_fits_one free a b (and_parts _ _ good).0 (and_parts _ _ also_good).0 same
