-- Texts are those of one line at most.
use Rattle.std.proofs.Common.{◌≡◌, ℕ, Bool, true, false, List, [], ◌∷◌, ◌++◌, Option, Some, None, bytes_eq, refl, sym, ap, ap₂, subst, ◌∙◌}
use Rattle.std.specs.Prelude.{codes, IfSome, IsSome, if◌then◌else◌}
use Rattle.hk_kinds.specs.declared.kinds.Kind.{Kind}
use Rattle.hk_kinds.specs.declared.kinds.Kind.TheVariants.{Min, Max, Interval, SomeBits, AllBits}
use Rattle.hk_spec.specs.declared.expressions.Side.{Side}
use Rattle.hk_spec.specs.declared.expressions.Side.TheVariants.{Down, Up}
use Rattle.hk_spec.specs.declared.parts.ParamKind.{ParamKind}
use Rattle.hk_spec.specs.declared.parts.ParamKind.TheVariants as param
use Rattle.hk_spec.specs.declared.parts.PropDecl.{PropDecl}
use Rattle.hk_terms.specs.SetTexts.{SetText, AreRisingNumbers, IsSetText}
use Rattle.hk_terms.specs.NumTexts.{NumText, number_texts, IsSigned, IsNumText}
use Rattle.hk_parse.specs.LineTexts.{ParamText, InitText, Single, Pair, Values, StepText, ToNumber, ToPair, ToSet, LineText, Begin, Property, Test, Step, End, side_word, param_texts, init_texts, step_texts, IsInitText, IsStepText, HasForm, SaysLine}
use Rattle.hk_print.specs.Printed.{param_word, kind_word}
use Rattle.hk_parse.specs.BlockLines.{Part, due, MayStand}
use Rattle.hk_text.proofs.TokenTexts.{differ, same_first, same_rest, mark_no_number, mark_no_word}
use Rattle.hk_terms.proofs.MachineAtoms.{listed_one}
use Rattle.hk_exprs.proofs.MachineReads.{cond_one, num_one, set_one, pair_one}
use Rattle.hk_parse.proofs.Parameters.{param_word_word}

-- the word of a side, of a kind, of the kind of a parameter is the word of one
abbrev side_at : List ℕ → Side
side_at text = if bytes_eq text (codes "down") then Down else Up

side_at_word : (side : Side) → side_at (side_word side) ≡ side
side_at_word Down = refl
side_at_word Up = refl

pub side_one : (a b : Side) → side_word a ≡ side_word b → a ≡ b
side_one a b same = sym (side_at_word a) ∙ ap side_at same ∙ side_at_word b

abbrev kind_at : List ℕ → Kind
kind_at text =
    if bytes_eq text (codes "Min") then Min
    else (if bytes_eq text (codes "Max") then Max
    else (if bytes_eq text (codes "Interval") then Interval
    else (if bytes_eq text (codes "SomeBits") then SomeBits else AllBits)))

kind_at_word : (kind : Kind) → kind_at (kind_word kind) ≡ kind
kind_at_word Min = refl
kind_at_word Max = refl
kind_at_word Interval = refl
kind_at_word SomeBits = refl
kind_at_word AllBits = refl

pub kind_one : (a b : Kind) → kind_word a ≡ kind_word b → a ≡ b
kind_one a b same = sym (kind_at_word a) ∙ ap kind_at same ∙ kind_at_word b

abbrev param_kind_at : List ℕ → ParamKind
param_kind_at text = if bytes_eq text (codes "num") then param.Num else (if bytes_eq text (codes "set") then param.Set else param.List)

param_kind_at_word : (kind : ParamKind) → param_kind_at (param_word kind) ≡ kind
param_kind_at_word param.Num = refl
param_kind_at_word param.Set = refl
param_kind_at_word param.List = refl

pub param_kind_one : (a b : ParamKind) → param_word a ≡ param_word b → a ≡ b
param_kind_one a b same = sym (param_kind_at_word a) ∙ ap param_kind_at same ∙ param_kind_at_word b

-- a parameter with this kind and this name is one
abbrev param_of : ParamKind → List ℕ → ParamText
param_of kind name = record { kind = kind; name = name }

param_same : (p q : ParamText) {xs ys : List (List ℕ)} → param_word p.kind ∷ p.name ∷ xs ≡ param_word q.kind ∷ q.name ∷ ys → (p ≡ q) × (xs ≡ ys)
param_same p q same =
    let rest = same_rest refl same in
    (ap₂ param_of (param_kind_one p.kind q.kind (same_first refl same)) (same_first refl rest), same_rest refl rest)

not_closed : (p : ParamText) {xs ys : List (List ℕ)} → codes ")" ∷ xs ≡ param_word p.kind ∷ ys → ⊥
not_closed p same = mark_no_word (same_first same refl) refl (param_word_word p.kind)

-- the texts of parameters up to the parenthesis are those of one list
pub params_one : (params others : List ParamText) → param_texts params ++ codes ")" ∷ [] ≡ param_texts others ++ codes ")" ∷ [] → params ≡ others
params_one [] [] same = refl
params_one [] (q ∷ []) same = absurd (not_closed q same)
params_one [] (q ∷ next' ∷ others) same = absurd (not_closed q same)
params_one (p ∷ []) [] same = absurd (not_closed p (sym same))
params_one (p ∷ next ∷ params) [] same = absurd (not_closed p (sym same))
params_one (p ∷ []) (q ∷ []) same = ap (λ x. x ∷ []) (param_same p q same).0
params_one (p ∷ []) (q ∷ next' ∷ others) same = absurd (differ (same_first refl (param_same p q same).1) refl)
params_one (p ∷ next ∷ params) (q ∷ []) same = absurd (differ (same_first refl (param_same p q same).1) refl)
params_one (p ∷ next ∷ params) (q ∷ next' ∷ others) same =
    let both = param_same p q same in
    ap₂ (λ x xs. x ∷ xs) both.0 (params_one (next ∷ params) (next' ∷ others) (same_rest refl both.1))

-- the texts of a first line are those of one
pub opening_one : {texts : List (List ℕ)} {name other : List ℕ} {params others : List ParamText} → SaysLine texts (Begin name params) → SaysLine texts (Begin other others) → (name ≡ other) × (params ≡ others)
opening_one {params = params} {others = others} one two =
    let rest = same_rest one.texts_are two.texts_are in
    (same_first refl rest, params_one params others (same_rest refl (same_rest refl rest)))

-- a number with a sign, and what follows it, are one
pub signed_one : (negative also : Bool) (digits more : List ℕ) {xs ys : List (List ℕ)} → IsSigned negative digits → IsSigned also more → number_texts negative digits ++ xs ≡ number_texts also more ++ ys → (negative ≡ also) × (digits ≡ more) × (xs ≡ ys)
signed_one false false digits more one two same = (refl, same_first refl same, same_rest refl same)
signed_one false true digits more one two same = absurd (mark_no_number (same_first refl same) refl one.1)
signed_one true false digits more one two same = absurd (mark_no_number (sym (same_first refl same)) refl two.1)
signed_one true true digits more one two same = let rest = same_rest refl same in (refl, same_first refl rest, same_rest refl rest)

-- an initial value in the form that its kind asks
pub data InitForm : Kind → InitText → Type 0 where
  min_number : {negative : Bool} {digits : List ℕ} → IsSigned negative digits → InitForm Min (Single negative digits)
  max_number : {negative : Bool} {digits : List ℕ} → IsSigned negative digits → InitForm Max (Single negative digits)
  two_numbers : {negative also_negative : Bool} {digits more_digits : List ℕ} → IsSigned negative digits → IsSigned also_negative more_digits → InitForm Interval (Pair negative digits also_negative more_digits)
  some_numbers : {numbers : List (List ℕ)} → AreRisingNumbers numbers → InitForm SomeBits (Values numbers)
  all_numbers : {numbers : List (List ℕ)} → AreRisingNumbers numbers → InitForm AllBits (Values numbers)

pub init_form : (kind : Kind) (init : InitText) → IsInitText kind init → InitForm kind init
init_form Min (Single negative digits) is = min_number is
init_form Min (Pair negative digits also_negative more_digits) is = absurd is
init_form Min (Values numbers) is = absurd is
init_form Max (Single negative digits) is = max_number is
init_form Max (Pair negative digits also_negative more_digits) is = absurd is
init_form Max (Values numbers) is = absurd is
init_form Interval (Single negative digits) is = absurd is
init_form Interval (Pair negative digits also_negative more_digits) is = two_numbers is.0 is.1
init_form Interval (Values numbers) is = absurd is
init_form SomeBits (Single negative digits) is = absurd is
init_form SomeBits (Pair negative digits also_negative more_digits) is = absurd is
init_form SomeBits (Values numbers) is = some_numbers is
init_form AllBits (Single negative digits) is = absurd is
init_form AllBits (Pair negative digits also_negative more_digits) is = absurd is
init_form AllBits (Values numbers) is = all_numbers is

-- it is one
single_one : {a b : Bool} {digits more : List ℕ} → IsSigned a digits → IsSigned b more → number_texts a digits ≡ number_texts b more → Single a digits ≡ Single b more
single_one {a = a} {b = b} {digits = digits} {more = more} one two same =
    let parts = signed_one a b digits more one two (ap (λ texts. texts ++ []) same) in
    ap₂ Single parts.0 parts.1

values_one : {numbers others : List (List ℕ)} → AreRisingNumbers numbers → AreRisingNumbers others → init_texts (Values numbers) ≡ init_texts (Values others) → Values numbers ≡ Values others
values_one {numbers = numbers} {others = others} one two same = ap Values (listed_one numbers others one.written two.written (same_rest refl same)).0

pub init_one : {kind : Kind} {a b : InitText} → InitForm kind a → InitForm kind b → init_texts a ≡ init_texts b → a ≡ b
init_one (min_number one) (min_number two) same = single_one one two same
init_one (max_number one) (max_number two) same = single_one one two same
init_one (two_numbers {negative = a} {also_negative = b} {digits = low} {more_digits = high} one_low one_high) (two_numbers {negative = c} {also_negative = d} {digits = low'} {more_digits = high'} two_low two_high) same =
    let first = signed_one a c low low' one_low two_low same in
    let second = signed_one b d high high' one_high two_high (ap (λ texts. texts ++ []) (same_rest refl first.2)) in
    ap₂ (λ negative digits. Pair negative digits b high) first.0 first.1 ∙ ap₂ (λ negative digits. Pair c low' negative digits) second.0 second.1
init_one (some_numbers one) (some_numbers two) same = values_one one two same
init_one (all_numbers one) (all_numbers two) same = values_one one two same

-- a step in the form that its kind asks
pub data StepForm : Kind → StepText → Type 0 where
  min_step : {e : NumText} → IsNumText e → StepForm Min (ToNumber e)
  max_step : {e : NumText} → IsNumText e → StepForm Max (ToNumber e)
  two_steps : {low high : NumText} → IsNumText low → IsNumText high → StepForm Interval (ToPair low high)
  some_step : {e : SetText} → IsSetText e → StepForm SomeBits (ToSet e)
  all_step : {e : SetText} → IsSetText e → StepForm AllBits (ToSet e)

pub step_form : (kind : Kind) (step : StepText) → HasForm kind step → IsStepText step → StepForm kind step
step_form Min (ToNumber e) form is = min_step is
step_form Min (ToPair low high) form is = absurd form
step_form Min (ToSet e) form is = absurd form
step_form Max (ToNumber e) form is = max_step is
step_form Max (ToPair low high) form is = absurd form
step_form Max (ToSet e) form is = absurd form
step_form Interval (ToNumber e) form is = absurd form
step_form Interval (ToPair low high) form is = two_steps is.0 is.1
step_form Interval (ToSet e) form is = absurd form
step_form SomeBits (ToNumber e) form is = absurd form
step_form SomeBits (ToPair low high) form is = absurd form
step_form SomeBits (ToSet e) form is = some_step is
step_form AllBits (ToNumber e) form is = absurd form
step_form AllBits (ToPair low high) form is = absurd form
step_form AllBits (ToSet e) form is = all_step is

-- it is one
pub step_text_one : {kind : Kind} {a b : StepText} → StepForm kind a → StepForm kind b → step_texts a ≡ step_texts b → a ≡ b
step_text_one (min_step {e = a} one) (min_step {e = b} two) same = ap ToNumber (num_one a b one two same)
step_text_one (max_step {e = a} one) (max_step {e = b} two) same = ap ToNumber (num_one a b one two same)
step_text_one (two_steps {low = low} {high = high} one_low one_high) (two_steps {low = c} {high = d} two_low two_high) same =
    let both = pair_one low high c d one_low one_high two_low two_high same in
    ap₂ ToPair both.0 both.1
step_text_one (some_step {e = a} one) (some_step {e = b} two) same = ap ToSet (set_one a b one two same)
step_text_one (all_step {e = a} one) (all_step {e = b} two) same = ap ToSet (set_one a b one two same)

-- the step that is due has the form of its kind
due_step_one : (o : Option PropDecl) (a b : StepText) → IsSome o → IfSome o (λ p. HasForm p.kind a) → IfSome o (λ p. HasForm p.kind b) → IsStepText a → IsStepText b → step_texts a ≡ step_texts b → a ≡ b
due_step_one None a b some a_form b_form one two same = let none : false ≡ true = some in cc
due_step_one (Some p) a b some a_form b_form one two same = step_text_one (step_form p.kind a a_form one) (step_form p.kind b b_form two) same

not_side : (side : Side) {text : List ℕ} → side_word side ≡ text → bytes_eq (codes "down") text ≡ false → bytes_eq (codes "up") text ≡ false → ⊥
not_side Down same down up = differ same down
not_side Up same down up = differ same up

property_one : {texts : List (List ℕ)} {side side' : Side} {name name' : List ℕ} {kind kind' : Kind} {init init' : InitText}
    → SaysLine texts (Property side name kind init) → SaysLine texts (Property side' name' kind' init') → Property side name kind init ≡ Property side' name' kind' init'
property_one {side = side} {side' = side'} {name = name} {name' = name'} {kind = kind} {kind' = kind'} {init = init} {init' = init'} one two =
    let names = same_rest one.texts_are two.texts_are in
    let kinds = same_rest refl names in
    let kind_is = kind_one kind kind' (same_first refl kinds) in
    let form = subst (λ k. InitForm k init) kind_is (init_form kind init one.written.1) in
    let init_is = init_one form (init_form kind' init' two.written.1) (same_rest refl kinds) in
    ap₂ (λ s n. Property s n kind init) (side_one side side' (same_first one.texts_are two.texts_are)) (same_first refl names) ∙ ap₂ (λ k i. Property side' name' k i) kind_is init_is

-- the texts of a line that may stand after the first are those of one
pub says_inside_one : (part : Part) {texts : List (List ℕ)} {a b : LineText} → SaysLine texts a → MayStand part a → SaysLine texts b → MayStand part b → a ≡ b
says_inside_one part {a = Begin name params} one a_stands two b_stands = absurd a_stands
says_inside_one part {a = Property side name kind init} {b = Begin name' params} one a_stands two b_stands = absurd b_stands
says_inside_one part {a = Property side name kind init} {b = Property side' name' kind' init'} one a_stands two b_stands = property_one one two
says_inside_one part {a = Property side name kind init} {b = Test test} one a_stands two b_stands = absurd (not_side side (same_first one.texts_are two.texts_are) refl refl)
says_inside_one part {a = Property side name kind init} {b = Step name' step} one a_stands two b_stands = absurd (not_side side (same_first one.texts_are two.texts_are) refl refl)
says_inside_one part {a = Property side name kind init} {b = End} one a_stands two b_stands = absurd (not_side side (same_first one.texts_are two.texts_are) refl refl)
says_inside_one part {a = Test test} {b = Begin name params} one a_stands two b_stands = absurd b_stands
says_inside_one part {a = Test test} {b = Property side name kind init} one a_stands two b_stands = absurd (not_side side (same_first two.texts_are one.texts_are) refl refl)
says_inside_one part {a = Test test} {b = Test test'} one a_stands two b_stands = ap Test (cond_one test test' one.written two.written (same_rest one.texts_are two.texts_are))
says_inside_one part {a = Test test} {b = Step name step} one a_stands two b_stands = absurd (differ (same_first one.texts_are two.texts_are) refl)
says_inside_one part {a = Test test} {b = End} one a_stands two b_stands = absurd (differ (same_first one.texts_are two.texts_are) refl)
says_inside_one part {a = Step name step} {b = Begin name' params} one a_stands two b_stands = absurd b_stands
says_inside_one part {a = Step name step} {b = Property side name' kind init} one a_stands two b_stands = absurd (not_side side (same_first two.texts_are one.texts_are) refl refl)
says_inside_one part {a = Step name step} {b = Test test} one a_stands two b_stands = absurd (differ (same_first one.texts_are two.texts_are) refl)
says_inside_one part {a = Step name step} {b = Step name' step'} one a_stands two b_stands =
    let names = same_rest one.texts_are two.texts_are in
    ap₂ Step (same_first refl names) (due_step_one (due part) step step' a_stands.1 a_stands.2 b_stands.2 one.written.1 two.written.1 (same_rest refl names))
says_inside_one part {a = Step name step} {b = End} one a_stands two b_stands = absurd (differ (same_first one.texts_are two.texts_are) refl)
says_inside_one part {a = End} {b = Begin name params} one a_stands two b_stands = absurd b_stands
says_inside_one part {a = End} {b = Property side name kind init} one a_stands two b_stands = absurd (not_side side (same_first two.texts_are one.texts_are) refl refl)
says_inside_one part {a = End} {b = Test test} one a_stands two b_stands = absurd (differ (same_first one.texts_are two.texts_are) refl)
says_inside_one part {a = End} {b = Step name step} one a_stands two b_stands = absurd (differ (same_first one.texts_are two.texts_are) refl)
says_inside_one part {a = End} {b = End} one a_stands two b_stands = refl
