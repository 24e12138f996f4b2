-- Whether the names of an expression stand for what their places ask, and whether its numbers are within their limits.
use Rattle.std.proofs.Common.{◌≡◌, ℕ, ◌≤◌, Bool, Option, Some, None, List, ap}
use Rattle.std.specs.Prelude.{IfSome}
use Rattle.std.proofs.Math.Decide.{map_dec, dec_le}
use Rattle.hk_kinds.specs.declared.kinds.Kind.{Kind}
use Rattle.hk_spec.specs.Scopes.{is_number_kind, is_interval_kind, is_set_kind}
use Rattle.hk_spec.specs.declared.parts.ParamKind.{ParamKind}
use Rattle.hk_spec.specs.declared.parts.ParamKind.TheVariants as param
use Rattle.hk_terms.specs.SetTexts as sets
use Rattle.hk_terms.specs.SetTexts.{SetText}
use Rattle.hk_terms.specs.NumTexts as nums
use Rattle.hk_terms.specs.NumTexts.{NumText}
use Rattle.hk_terms.specs.CondTexts as conds
use Rattle.hk_terms.specs.CondTexts.{CondText}
use Rattle.hk_parse.specs.LineTexts.{InitText, Single, Pair, Values, StepText, ToNumber, ToPair, ToSet}
use Rattle.hk_print.specs.Printed.{param_word}
use Rattle.hk_terms.specs.Names.{Names, HasParam, HasProperty, plain_words, IsNumName, IsSetName, NamesSet, NamesNum, NamesCond, SmallSet, SmallNum, SmallCond, set_depth, num_depth, cond_depth}
use Rattle.hk_parse.specs.BlockLines.{NamesStep, SmallStep, SmallInit}
use Rattle.hk_text.proofs.Deciding.{dec_true, dec_both, dec_either, dec_all, dec_any, dec_text}
use Rattle.hk_terms.proofs.DecidingFacts.{dec_listed, dec_up_to}
use Rattle.hk_parse.proofs.LineReadings.{param_kind_one}

-- that two kinds of parameters are one
dec_param_kind_is : (a b : ParamKind) → Dec (a ≡ b)
dec_param_kind_is a b = map_dec (param_kind_one a b) (ap param_word) (dec_text (param_word a) (param_word b))

-- that a parameter, a property has the name
dec_has_param : (names : Names) (kind : ParamKind) (word : List ℕ) → Dec (HasParam names kind word)
dec_has_param names kind word = dec_any _ (λ p. dec_both (dec_text p.name word) (dec_param_kind_is p.kind kind)) names.params

dec_has_property : (names : Names) (of : Kind → Bool) (word : List ℕ) → Dec (HasProperty names of word)
dec_has_property names of word = dec_either
    (dec_any _ (λ p. dec_both (dec_text p.name word) (dec_true (of p.kind))) names.down)
    (dec_any _ (λ p. dec_both (dec_text p.name word) (dec_true (of p.kind))) names.up)

-- that a word stands for a number, for a set
dec_num_name : (names : Names) (word : List ℕ) → Dec (IsNumName names word)
dec_num_name names word = dec_either (dec_listed plain_words word) (dec_either (dec_has_param names param.Num word) (dec_has_property names (λ kind. is_number_kind (Some kind)) word))

dec_set_name : (names : Names) (word : List ℕ) → Dec (IsSetName names word)
dec_set_name names word = dec_either (dec_has_param names param.Set word) (dec_has_property names (λ kind. is_set_kind (Some kind)) word)

-- that each name of an expression stands for what its place asks
pub dec_names_set : (names : Names) (e : SetText) → Dec (NamesSet names e)
dec_names_set names (sets.Values numbers) = yes tt
dec_names_set names sets.One = yes tt
dec_names_set names (sets.Named word) = dec_set_name names word
dec_names_set names (sets.Joined operation a b) = dec_both (dec_names_set names a) (dec_names_set names b)

pub dec_names_num : (names : Names) (e : NumText) → Dec (NamesNum names e)
dec_names_num names (nums.Number negative digits) = yes tt
dec_names_num names (nums.Named word) = dec_num_name names word
dec_names_num names (nums.Item word) = dec_has_param names param.List word
dec_names_num names (nums.Low word) = dec_has_property names (λ kind. is_interval_kind (Some kind)) word
dec_names_num names (nums.High word) = dec_has_property names (λ kind. is_interval_kind (Some kind)) word
dec_names_num names (nums.Card set) = dec_names_set names set
dec_names_num names (nums.Joined operation a b) = dec_both (dec_names_num names a) (dec_names_num names b)
dec_names_num names (nums.Chosen choice a b) = dec_both (dec_names_num names a) (dec_names_num names b)
dec_names_num names (nums.Negative a) = dec_names_num names a

pub dec_names_cond : (names : Names) (c : CondText) → Dec (NamesCond names c)
dec_names_cond names (conds.Truth holds) = yes tt
dec_names_cond names (conds.Compared comparison a b) = dec_both (dec_names_num names a) (dec_names_num names b)
dec_names_cond names (conds.Member inside set) = dec_names_set names set
dec_names_cond names (conds.Subset a b) = dec_both (dec_names_set names a) (dec_names_set names b)
dec_names_cond names (conds.Joined both a b) = dec_both (dec_names_cond names a) (dec_names_cond names b)
dec_names_cond names (conds.Not a) = dec_names_cond names a

pub dec_names_step : (names : Names) (step : StepText) → Dec (NamesStep names step)
dec_names_step names (ToNumber e) = dec_names_num names e
dec_names_step names (ToPair low high) = dec_both (dec_names_num names low) (dec_names_num names high)
dec_names_step names (ToSet e) = dec_names_set names e

-- that the numbers of an expression are within their limits
dec_small_set : (e : SetText) → Dec (SmallSet e)
dec_small_set (sets.Values numbers) = dec_all _ (dec_up_to 127) numbers
dec_small_set sets.One = yes tt
dec_small_set (sets.Named word) = yes tt
dec_small_set (sets.Joined operation a b) = dec_both (dec_small_set a) (dec_small_set b)

dec_small_num : (e : NumText) → Dec (SmallNum e)
dec_small_num (nums.Number negative digits) = dec_up_to 1000000000000 digits
dec_small_num (nums.Named word) = yes tt
dec_small_num (nums.Item word) = yes tt
dec_small_num (nums.Low word) = yes tt
dec_small_num (nums.High word) = yes tt
dec_small_num (nums.Card set) = dec_small_set set
dec_small_num (nums.Joined operation a b) = dec_both (dec_small_num a) (dec_small_num b)
dec_small_num (nums.Chosen choice a b) = dec_both (dec_small_num a) (dec_small_num b)
dec_small_num (nums.Negative a) = dec_small_num a

dec_small_cond : (c : CondText) → Dec (SmallCond c)
dec_small_cond (conds.Truth holds) = yes tt
dec_small_cond (conds.Compared comparison a b) = dec_both (dec_small_num a) (dec_small_num b)
dec_small_cond (conds.Member inside set) = dec_small_set set
dec_small_cond (conds.Subset a b) = dec_both (dec_small_set a) (dec_small_set b)
dec_small_cond (conds.Joined both a b) = dec_both (dec_small_cond a) (dec_small_cond b)
dec_small_cond (conds.Not a) = dec_small_cond a

-- and its depth too
dec_within_set : (e : SetText) → Dec (SmallSet e × (set_depth e ≤ 32))
dec_within_set e = dec_both (dec_small_set e) (dec_le (set_depth e) 32)

dec_within_num : (e : NumText) → Dec (SmallNum e × (num_depth e ≤ 32))
dec_within_num e = dec_both (dec_small_num e) (dec_le (num_depth e) 32)

pub dec_within_cond : (c : CondText) → Dec (SmallCond c × (cond_depth c ≤ 32))
dec_within_cond c = dec_both (dec_small_cond c) (dec_le (cond_depth c) 32)

pub dec_small_step : (step : StepText) → Dec (SmallStep step)
dec_small_step (ToNumber e) = dec_within_num e
dec_small_step (ToPair low high) = dec_both (dec_within_num low) (dec_within_num high)
dec_small_step (ToSet e) = dec_within_set e

pub dec_small_init : (init : InitText) → Dec (SmallInit init)
dec_small_init (Single negative digits) = dec_up_to 1000000000000 digits
dec_small_init (Pair negative digits also_negative more_digits) = dec_both (dec_up_to 1000000000000 digits) (dec_up_to 1000000000000 more_digits)
dec_small_init (Values numbers) = dec_all _ (dec_up_to 127) numbers

-- a fact of a value, where it is there
pub dec_if_some : {X : Type 0} (P : X → Type 0) → ((x : X) → Dec (P x)) → (o : Option X) → Dec (IfSome o P)
dec_if_some P each None = yes tt
dec_if_some P each (Some x) = each x
