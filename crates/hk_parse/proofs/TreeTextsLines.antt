-- The initial value of a property and its step are determined by how they are written.
use Rattle.std.proofs.Common.{◌≡◌, ℕ, ℤ, Bool, true, false, nat_lt, if◌then◌else◌, List, [], ◌∷◌, ◌++◌, length, map, IsTrue, refl, sym, ap, ◌∙◌, subst, arith}
use Rattle.std.specs.List.{list_all, list_any}
use Rattle.std.specs.Str.{bytes_eq}
use Rattle.std.proofs.lemmas.Bool.{both_ways, and_parts, and_from, not-true, not_from_false, or_parts, or_from}
use Rattle.std.proofs.lemmas.Bool.Decides.{nat_tests}
use Rattle.std.proofs.lemmas.Int.{ints}
use Rattle.std.proofs.lemmas.List.{append_assoc, append-nil}
use Rattle.std.proofs.lemmas.List.Folds.{list_any-append}
use Rattle.hk_kinds.specs.Limits.{IsWithinLimit}
use Rattle.hk_kinds.specs.Sets.{IsSet}
use Rattle.hk_kinds.specs.Shapes.{IsOfKind, is_min, is_max, is_interval, is_some, is_all}
use Rattle.hk_kinds.specs.declared.kinds.Kind.{Kind}
use Rattle.hk_kinds.specs.declared.kinds.Kind.TheVariants.{Min, Max, Interval, SomeBits, AllBits}
use Rattle.hk_kinds.specs.declared.properties.Prop.{Prop}
use Rattle.hk_kinds.specs.declared.properties.Prop.TheVariants as property
use Rattle.hk_spec.specs.Names.{is_free_name, are_distinct}
use Rattle.hk_spec.specs.Scopes.{Scope, is_within_limit, is_good_num, is_good_set}
use Rattle.hk_spec.specs.Specifications.{is_step}
use Rattle.hk_spec.specs.declared.parts.Param.{Param}
use Rattle.hk_spec.specs.declared.parts.PropDecl.{PropDecl}
use Rattle.hk_spec.specs.declared.parts.StepExpr.{StepExpr}
use Rattle.hk_spec.specs.declared.parts.StepExpr.TheVariants as step
use Rattle.hk_parse.specs.BlockLines.{Part, test_names, step_names}
use Rattle.hk_terms.specs.Names.{scope_of}
use Rattle.hk_parse.specs.Blocks.{IsPart}
use Rattle.hk_parse.specs.LineTexts.{Single, Pair, Values, ToNumber, ToPair, ToSet}
use Rattle.hk_terms.specs.Names.{Names}
use Rattle.hk_terms.specs.NumTexts.{NumText}
use Rattle.hk_terms.specs.SetTexts.{SetText}
use Rattle.hk_terms.specs.Trees.{is_negative, digits_of}
use Rattle.hk_parse.specs.LineTrees.{init_text, step_text}
use Rattle.hk_terms.proofs.TreeTextsLiterals.{number_one, set_one}
use Rattle.hk_terms.proofs.TreeTextsNums.{num_text_one}
use Rattle.hk_terms.proofs.TreeTextsPlaces.{AreFree}
use Rattle.hk_terms.proofs.TreeTextsSets.{set_text_one}

-- some names of a list that are left out
unseen_without : (test : List ℕ → Bool) (xs ys zs : List (List ℕ)) → list_any test (xs ++ (ys ++ zs)) ≡ false → list_any test (xs ++ zs) ≡ false
unseen_without test xs ys zs none =
    let first = or_parts _ _ (sym (list_any-append test xs (ys ++ zs)) ∙ none) in
    let second = or_parts _ _ (sym (list_any-append test ys zs) ∙ first.1) in
    list_any-append test xs zs ∙ or_from _ _ first.0 second.1

distinct_without : (xs ys zs : List (List ℕ)) → are_distinct (xs ++ (ys ++ zs)) ≡ true → are_distinct (xs ++ zs) ≡ true
distinct_without [] [] zs distinct = distinct
distinct_without [] (y ∷ ys) zs distinct = distinct_without [] ys zs (and_parts _ _ distinct).1
distinct_without (x ∷ xs) ys zs distinct =
    let parts = and_parts _ _ distinct in
    and_from _ _ (not_from_false _ (unseen_without (bytes_eq x) xs ys zs (not-true _ parts.0))) (distinct_without xs ys zs parts.1)

all_without : (test : List ℕ → Bool) (xs ys zs : List (List ℕ)) → list_all test (xs ++ (ys ++ zs)) ≡ true → list_all test (xs ++ zs) ≡ true
all_without test [] [] zs all = all
all_without test [] (y ∷ ys) zs all = all_without test [] ys zs (and_parts _ _ all).1
all_without test (x ∷ xs) ys zs all = let parts = and_parts _ _ all in and_from _ _ parts.0 (all_without test xs ys zs parts.1)

-- the names that the test may use are free
pub test_free : {part : Part} → IsPart part → AreFree (test_names part)
test_free is = record { free = is.free_names; distinct = is.distinct_names }

module _ (params down up : List (List ℕ)) where
  last_left : (params ++ down) ++ (up ++ []) ≡ params ++ (down ++ up)
  last_left = append_assoc params down (up ++ []) ∙ ap (λ names. params ++ (down ++ names)) (append-nil up)

  all_first : (test : List ℕ → Bool) → list_all test (params ++ (down ++ up)) ≡ true → list_all test (params ++ (down ++ [])) ≡ true
  all_first test all = subst (λ names. list_all test names ≡ true) (append_assoc params down []) (all_without test (params ++ down) up [] (ap (list_all test) last_left ∙ all))

  distinct_first : are_distinct (params ++ (down ++ up)) ≡ true → are_distinct (params ++ (down ++ [])) ≡ true
  distinct_first distinct = subst (λ names. are_distinct names ≡ true) (append_assoc params down []) (distinct_without (params ++ down) up [] (ap are_distinct last_left ∙ distinct))

abbrev names_of_params : List Param → List (List ℕ)
names_of_params = map (λ (p : Param). p.name)

abbrev names_of_properties : List PropDecl → List (List ℕ)
names_of_properties = map (λ (p : PropDecl). p.name)

-- the names that the step that is due may use are free
pub step_free : {part : Part} → IsPart part → AreFree (step_names part)
step_free {part = part} is = by (nat_lt (length part.down_step) (length part.down))
  where
    by : (test : Bool) → AreFree (if test then record { params = part.params; down = part.down; up = [] } else record { params = part.params; down = []; up = part.up })
    by true = record {
      free = all_first (names_of_params part.params) (names_of_properties part.down) (names_of_properties part.up) is_free_name is.free_names;
      distinct = distinct_first (names_of_params part.params) (names_of_properties part.down) (names_of_properties part.up) is.distinct_names;
    }
    by false = record {
      free = all_without is_free_name (names_of_params part.params) (names_of_properties part.down) (names_of_properties part.up) is.free_names;
      distinct = distinct_without (names_of_params part.params) (names_of_properties part.down) (names_of_properties part.up) is.distinct_names;
    }

-- the numbers of a value lie within the limit, and its set has no values but 0 to 127
abbrev IsSmall : Prop → Type 0
IsSmall (property.Num n) = IsWithinLimit n
IsSmall (property.Pair low high) = IsWithinLimit low × IsWithinLimit high
IsSmall (property.Bits set) = IsSet set

kind_small : {kind : Kind} {value : Prop} → IsOfKind kind value → IsSmall value
kind_small (is_min within) = within
kind_small (is_max within) = within
kind_small (is_interval low high) = (low, high)
kind_small (is_some set) = set
kind_small (is_all set) = set

within_tested : (n : ℤ) → IsWithinLimit n → is_within_limit n ≡ true
within_tested n within = let least = within.least in let most = within.most in grind (arith, ints, nat_tests)

same_number : (m n : ℤ) → IsWithinLimit m → IsWithinLimit n → is_negative m ≡ is_negative n → digits_of m ≡ digits_of n → m ≡ n
same_number m n within also sign digits = number_one m n (within_tested m within) (within_tested n also) sign digits

single_parts : {a b : Bool} {x y : List ℕ} → Single a x ≡ Single b y → (a ≡ b) × (x ≡ y)
single_parts same = (cc, cc)

pair_parts : {a b c d : Bool} {x y z w : List ℕ} → Pair a x c z ≡ Pair b y d w → (a ≡ b) × (x ≡ y) × (c ≡ d) × (z ≡ w)
pair_parts same = (cc, cc, cc, cc)

values_parts : {xs ys : List (List ℕ)} → Values xs ≡ Values ys → xs ≡ ys
values_parts same = cc

value_one : (v w : Prop) → IsSmall v → IsSmall w → init_text v ≡ init_text w → v ≡ w
value_one (property.Num m) (property.Num n) small also same =
    let (sign, digits) = single_parts same in
    ap property.Num (same_number m n small also sign digits)
value_one (property.Pair m n) (property.Pair k l) small also same =
    let (sign, digits, also_sign, more_digits) = pair_parts same in
    ap (λ low. property.Pair low n) (same_number m k small.0 also.0 sign digits) ∙ ap (property.Pair k) (same_number n l small.1 also.1 also_sign more_digits)
value_one (property.Bits s) (property.Bits t) small also same = ap property.Bits (set_one s t small also (values_parts same))
value_one _ _ small also same = absurd cc

-- an initial value is determined by how it is written
pub init_one : {kind also_kind : Kind} {v w : Prop} → IsOfKind kind v → IsOfKind also_kind w → init_text v ≡ init_text w → v ≡ w
init_one {v = v} {w = w} h k same = value_one v w (kind_small h) (kind_small k) same

-- the expressions of a step are those of a specification
abbrev IsGoodStep : Scope → StepExpr → Type 0
IsGoodStep scope (step.Num e) = IsTrue (is_good_num scope e)
IsGoodStep scope (step.Pair low high) = IsTrue (is_good_num scope low) × IsTrue (is_good_num scope high)
IsGoodStep scope (step.Set e) = IsTrue (is_good_set scope e)

good_step : (scope : Scope) (kind : Kind) (e : StepExpr) → IsTrue (is_step scope kind e) → IsGoodStep scope e
good_step scope Min (step.Num e) good = good
good_step scope Max (step.Num e) good = good
good_step scope Interval (step.Pair low high) good = and_parts _ _ good
good_step scope SomeBits (step.Set e) good = good
good_step scope AllBits (step.Set e) good = good
good_step scope _ _ good = absurd (both_ways _ refl good)

number_parts : {x y : NumText} → ToNumber x ≡ ToNumber y → x ≡ y
number_parts same = cc

ends_parts : {x y z w : NumText} → ToPair x y ≡ ToPair z w → (x ≡ z) × (y ≡ w)
ends_parts same = (cc, cc)

members_parts : {x y : SetText} → ToSet x ≡ ToSet y → x ≡ y
members_parts same = cc

expressions_one : (names : Names) → AreFree names → (a b : StepExpr) → IsGoodStep (scope_of names) a → IsGoodStep (scope_of names) b → step_text names a ≡ step_text names b → a ≡ b
expressions_one names free (step.Num a) (step.Num b) good also same = ap step.Num (num_text_one names free a b good also (number_parts same))
expressions_one names free (step.Pair a b) (step.Pair c d) good also same =
    let (low, high) = ends_parts same in
    ap (λ x. step.Pair x b) (num_text_one names free a c good.0 also.0 low) ∙ ap (step.Pair c) (num_text_one names free b d good.1 also.1 high)
expressions_one names free (step.Set a) (step.Set b) good also same = ap step.Set (set_text_one names free a b good also (members_parts same))
expressions_one names free _ _ good also same = absurd cc

-- a step is determined by how it is written
pub step_one : {names : Names} (kind also_kind : Kind) {a b : StepExpr} → AreFree names → IsTrue (is_step (scope_of names) kind a) → IsTrue (is_step (scope_of names) also_kind b) → step_text names a ≡ step_text names b → a ≡ b
step_one {names = names} kind also_kind {a = a} {b = b} free h k same = expressions_one names free a b (good_step (scope_of names) kind a h) (good_step (scope_of names) also_kind b k) same
