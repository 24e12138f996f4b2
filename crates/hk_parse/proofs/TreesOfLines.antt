-- An initial value and a step that are well written and without faults are those of a value and of expressions.
use Rattle.std.proofs.Common.{◌≡◌, ℕ, ℤ, ◌^◌, ◌<◌, Bool, true, List, [], IsTrue, ap, subst, arith}
use Rattle.std.proofs.lemmas.Bool.{and_from}
use Rattle.std.proofs.lemmas.Bool.Decides.{nat_tests}
use Rattle.std.proofs.lemmas.Int.{ints}
use Rattle.hk_kinds.specs.Limits.{IsWithinLimit}
use Rattle.hk_kinds.specs.Shapes.{IsOfKind, is_min, is_max, is_interval, is_some, is_all}
use Rattle.hk_kinds.specs.declared.kinds.Kind.{Kind}
use Rattle.hk_kinds.specs.declared.kinds.Kind.TheVariants.{Min, Max, Interval, SomeBits, AllBits}
use Rattle.hk_kinds.specs.declared.properties.Prop.{Prop}
use Rattle.hk_kinds.specs.declared.properties.Prop.TheVariants as property
use Rattle.hk_spec.specs.Scopes.{is_within_limit}
use Rattle.hk_spec.specs.Specifications.{is_step}
use Rattle.hk_spec.specs.declared.parts.StepExpr.{StepExpr}
use Rattle.hk_spec.specs.declared.parts.StepExpr.TheVariants as step
use Rattle.hk_parse.specs.BlockLines.{NamesStep, SmallStep, SmallInit}
use Rattle.hk_terms.specs.Names.{scope_of}
use Rattle.hk_parse.specs.LineTexts.{InitText, Single, Pair, Values, IsInitText, StepText, ToNumber, ToPair, ToSet, IsStepText, HasForm}
use Rattle.hk_terms.specs.Names.{Names, WritesUpTo, num_depth, set_depth}
use Rattle.hk_terms.specs.NumTexts as num
use Rattle.hk_terms.specs.NumTexts.{IsSigned}
use Rattle.hk_terms.specs.SetTexts.{AreRisingNumbers}
use Rattle.hk_terms.specs.Trees.{is_negative, digits_of, member_texts}
use Rattle.hk_parse.specs.LineTrees.{init_text, step_text}
use Rattle.hk_exprs.proofs.MakingNums.{num_fit}
use Rattle.hk_exprs.proofs.MakingSets.{set_fit}
use Rattle.hk_terms.proofs.TreeTextsNums.{IsNumTree, num_tree}
use Rattle.hk_terms.proofs.TreeTextsSets.{IsSetTree, set_tree}
use Rattle.hk_terms.proofs.TreesOfDecisions.{Stable, stable_both, stable_all, stable_up_to, stable_below, stable_small_num, stable_small_set, stable_num, stable_set}
use Rattle.hk_exprs.proofs.TreesOfLeaves.{literal_there, values_there}
use Rattle.hk_exprs.proofs.TreesOfTexts.{num_there, set_there}

-- no names
abbrev nothing : Names
nothing = record { params = []; down = []; up = [] }

within_from : (n : ℤ) → is_within_limit n ≡ true → IsWithinLimit n
within_from n test = record { least = grind (arith, ints, nat_tests); most = grind (arith, ints, nat_tests) }

-- the number that is written so
signed_value : (negative : Bool) (digits : List ℕ) → IsSigned negative digits → WritesUpTo 1000000000000 digits → (n : ℤ) × (is_negative n ≡ negative) × (digits_of n ≡ digits) × IsWithinLimit n
signed_value negative digits signed small =
    let (e, is) = literal_there nothing negative digits small signed in
    let (n, same, within, sign, texts) = subst (λ text. IsNumTree nothing text e) is.text_is (num_tree nothing e (num_fit nothing is)) in
    (n, sign, texts, within_from n within)

-- the set that is written so
set_value : (numbers : List (List ℕ)) → AreRisingNumbers numbers → SmallInit (Values numbers) → (bits : ℕ) × (member_texts bits ≡ numbers) × (bits < 2 ^ 128)
set_value numbers rising small =
    let (e, is) = values_there nothing numbers small rising in
    let (bits, same, fits, texts) = subst (λ text. IsSetTree nothing text e) is.text_is (set_tree nothing e (set_fit nothing is)) in
    (bits, texts, fits)

-- the value that is written so
abbrev pub ValueThere : Kind → InitText → Type 0
ValueThere kind init = (value : Prop) × (init_text value ≡ init) × IsOfKind kind value

single_is : {a b : Bool} {x y : List ℕ} → a ≡ b → x ≡ y → Single a x ≡ Single b y
single_is sign digits = cc

pair_is : {a b c d : Bool} {x y z w : List ℕ} → a ≡ b → x ≡ y → c ≡ d → z ≡ w → Pair a x c z ≡ Pair b y d w
pair_is sign digits also_sign more_digits = cc

-- an initial value as it is written is that of a property
pub init_there : (kind : Kind) (init : InitText) → IsInitText kind init → SmallInit init → ValueThere kind init
init_there Min (Single negative digits) written small = let (n, sign, texts, within) = signed_value negative digits written small in (property.Num n, single_is sign texts, is_min within)
init_there Max (Single negative digits) written small = let (n, sign, texts, within) = signed_value negative digits written small in (property.Num n, single_is sign texts, is_max within)
init_there Interval (Pair negative digits also_negative more_digits) written small =
    let (m, sign, texts, within) = signed_value negative digits written.0 small.0 in
    let (n, also_sign, more_texts, also_within) = signed_value also_negative more_digits written.1 small.1 in
    (property.Pair m n, pair_is sign texts also_sign more_texts, is_interval within also_within)
init_there SomeBits (Values numbers) written small = let (bits, texts, fits) = set_value numbers written small in (property.Bits bits, ap Values texts, is_some fits)
init_there AllBits (Values numbers) written small = let (bits, texts, fits) = set_value numbers written small in (property.Bits bits, ap Values texts, is_all fits)
init_there _ _ written small = absurd written

-- the step that is written so
abbrev pub StepThere : Names → Kind → StepText → Type 0
StepThere names kind text = (e : StepExpr) × (step_text names e ≡ text) × IsTrue (is_step (scope_of names) kind e)

pair_step : {x y z w : num.NumText} → x ≡ z → y ≡ w → ToPair x y ≡ ToPair z w
pair_step low high = cc

-- a step as it is written is that of expressions
pub step_there : (names : Names) (kind : Kind) (text : StepText) → HasForm kind text → NamesStep names text → SmallStep text → IsStepText text → StepThere names kind text
step_there names Min (ToNumber e) form named small written = let (x, is) = num_there names e named small.0 written small.1 in (step.Num x, ap ToNumber is.text_is, is.good)
step_there names Max (ToNumber e) form named small written = let (x, is) = num_there names e named small.0 written small.1 in (step.Num x, ap ToNumber is.text_is, is.good)
step_there names Interval (ToPair low high) form named small written =
    let (x, is) = num_there names low named.0 small.0.0 written.0 small.0.1 in
    let (y, also) = num_there names high named.1 small.1.0 written.1 small.1.1 in
    (step.Pair x y, pair_step is.text_is also.text_is, and_from _ _ is.good also.good)
step_there names SomeBits (ToSet e) form named small written = let (x, is) = set_there names e named small.0 written small.1 in (step.Set x, ap ToSet is.text_is, is.good)
step_there names AllBits (ToSet e) form named small written = let (x, is) = set_there names e named small.0 written small.1 in (step.Set x, ap ToSet is.text_is, is.good)
step_there names _ _ form named small written = absurd form

-- where the names and the quantities of an initial value or a step can't be wrong, they are right
pub stable_init : (init : InitText) → Stable (SmallInit init)
stable_init (Single negative digits) = stable_up_to 1000000000000 digits
stable_init (Pair negative digits also_negative more_digits) = stable_both (stable_up_to 1000000000000 digits) (stable_up_to 1000000000000 more_digits)
stable_init (Values numbers) = stable_all numbers

pub stable_names_step : (names : Names) (text : StepText) → Stable (NamesStep names text)
stable_names_step names (ToNumber e) = stable_num names e
stable_names_step names (ToPair low high) = stable_both (stable_num names low) (stable_num names high)
stable_names_step names (ToSet e) = stable_set names e

pub stable_small_step : (text : StepText) → Stable (SmallStep text)
stable_small_step (ToNumber e) = stable_both (stable_small_num e) (stable_below (num_depth e) 32)
stable_small_step (ToPair low high) = stable_both (stable_both (stable_small_num low) (stable_below (num_depth low) 32)) (stable_both (stable_small_num high) (stable_below (num_depth high) 32))
stable_small_step (ToSet e) = stable_both (stable_small_set e) (stable_below (set_depth e) 32)
