-- Whether texts are those of the parts of a line: parameters, an initial value, a step.
use Rattle.std.proofs.Common.{◌≡◌, ℕ, ◌<◌, ◌⊎◌, inl, inr, zero, suc, Bool, true, false, List, [], ◌∷◌, ◌++◌, length, codes, refl, sym, ap, ap₂, subst, ◌∙◌, append-nil, arith}
use Rattle.std.proofs.Math.Decide.{map_dec}
use Rattle.std.proofs.lemmas.List.Elements.{All-nil, All-cons, All-head, All-tail}
use Rattle.hk_kinds.specs.declared.kinds.Kind.{Kind}
use Rattle.hk_kinds.specs.declared.kinds.Kind.TheVariants.{Min, Max, Interval, SomeBits, AllBits}
use Rattle.hk_spec.specs.declared.parts.ParamKind.{ParamKind}
use Rattle.hk_spec.specs.declared.parts.ParamKind.TheVariants as param
use Rattle.hk_text.specs.Lexemes.{IsWord}
use Rattle.hk_text.specs.Numbers.{IsNumber}
use Rattle.hk_text.proofs.Digits.{IsNumber-one}
use Rattle.hk_terms.specs.SetTexts.{SetText, set_texts, listed, AreRisingNumbers, IsSetText}
use Rattle.hk_terms.specs.NumTexts.{NumText, num_texts, number_texts, IsSigned, IsNumText}
use Rattle.hk_parse.specs.inside.Headers.{AreParams}
use Rattle.hk_parse.specs.LineTexts.{ParamText, InitText, Single, Pair, Values, StepText, ToNumber, ToPair, ToSet, init_texts, step_texts}
use Rattle.hk_print.specs.Printed.{param_word}
use Rattle.hk_text.proofs.TokenTexts.{same_first, same_rest}
use Rattle.hk_terms.proofs.MachineAtoms.{listed_one}
use Rattle.hk_parse.proofs.Parameters.{HasWord}
use Rattle.hk_parse.proofs.LineReadings.{signed_one, InitForm, min_number, max_number, two_numbers, some_numbers, all_numbers, StepForm, min_step, max_step, two_steps, some_step, all_step}
use Rattle.hk_text.proofs.Deciding.{dec_both, dec_either, dec_empty, dec_text, dec_word, dec_number, Begins, dec_begins, After, dec_after}
use Rattle.hk_exprs.proofs.DecidingAtoms.{Rising, dec_rising_numbers}
use Rattle.hk_exprs.proofs.DecidingTexts.{dec_num, dec_set, dec_pair}

-- whether texts are one text alone
pub dec_alone : (mark : List ℕ) (texts : List (List ℕ)) → Dec (texts ≡ mark ∷ [])
dec_alone mark texts = map_dec (λ some. some.1 ∙ ap (λ ts. mark ∷ ts) some.2) (λ same. ([], same, refl)) (dec_after mark (λ rest. rest ≡ []) dec_empty texts)

-- a fact of some kind of parameters, of some kind
dec_param_kind : (P : ParamKind → Type 0) → ((kind : ParamKind) → Dec (P kind)) → Dec ((kind : ParamKind) × P kind)
dec_param_kind P each = map_dec to (λ some. from some.0 some.1) (dec_either (each param.Num) (dec_either (each param.Set) (each param.List)))
  where
    to : P param.Num ⊎ (P param.Set ⊎ P param.List) → (kind : ParamKind) × P kind
    to (inl p) = (param.Num, p)
    to (inr (inl p)) = (param.Set, p)
    to (inr (inr p)) = (param.List, p)

    from : (kind : ParamKind) → P kind → P param.Num ⊎ (P param.Set ⊎ P param.List)
    from param.Num p = inl p
    from param.Set p = inr (inl p)
    from param.List p = inr (inr p)

pub dec_kind : (P : Kind → Type 0) → ((kind : Kind) → Dec (P kind)) → Dec ((kind : Kind) × P kind)
dec_kind P each = map_dec to (λ some. from some.0 some.1) (dec_either (each Min) (dec_either (each Max) (dec_either (each Interval) (dec_either (each SomeBits) (each AllBits)))))
  where
    to : P Min ⊎ (P Max ⊎ (P Interval ⊎ (P SomeBits ⊎ P AllBits))) → (kind : Kind) × P kind
    to (inl p) = (Min, p)
    to (inr (inl p)) = (Max, p)
    to (inr (inr (inl p))) = (Interval, p)
    to (inr (inr (inr (inl p)))) = (SomeBits, p)
    to (inr (inr (inr (inr p)))) = (AllBits, p)

    from : (kind : Kind) → P kind → P Min ⊎ (P Max ⊎ (P Interval ⊎ (P SomeBits ⊎ P AllBits)))
    from Min p = inl p
    from Max p = inr (inl p)
    from Interval p = inr (inr (inl p))
    from SomeBits p = inr (inr (inr (inl p)))
    from AllBits p = inr (inr (inr (inr p)))

-- parameters, at least one, and the parenthesis
abbrev SomeParams : List (List ℕ) → Type 0
SomeParams texts = (p : ParamText) × (params : List ParamText) × AreParams texts (p ∷ params)

short_params : (texts : List (List ℕ)) → length texts < 3 → SomeParams texts → ⊥
short_params texts short (p, [], are) = let long = ap length are.texts_are in omega (arith, long, short)
short_params texts short (p, next ∷ params, are) = let long = ap length are.texts_are in omega (arith, long, short)

abbrev Parts : List ℕ → List ℕ → List ℕ → List (List ℕ) → Type 0
Parts word name next more = ((kind : ParamKind) × (word ≡ param_word kind)) × (IsWord name × (((next ≡ codes ")") × (more ≡ [])) ⊎ ((next ≡ codes ",") × SomeParams more)))

parts_params : (word name next : List ℕ) (more : List (List ℕ)) → Parts word name next more → SomeParams (word ∷ name ∷ next ∷ more)
parts_params word name next more ((kind, is), (letter, inl (close, none))) = (
  record { kind = kind; name = name },
  [],
  record {
    texts_are = ap₂ (λ t ts. t ∷ name ∷ ts) is (ap₂ (λ t ts. t ∷ ts) close none);
    words = All-cons HasWord (record { kind = kind; name = name }) [] letter (All-nil HasWord);
  },
)
parts_params word name next more ((kind, is), (letter, inr (comma, (p, params, are)))) = (
  record { kind = kind; name = name },
  p ∷ params,
  record {
    texts_are = ap₂ (λ t ts. t ∷ name ∷ ts) is (ap₂ (λ t ts. t ∷ ts) comma are.texts_are);
    words = All-cons HasWord (record { kind = kind; name = name }) (p ∷ params) letter are.words;
  },
)

params_parts : (word name next : List ℕ) (more : List (List ℕ)) → SomeParams (word ∷ name ∷ next ∷ more) → Parts word name next more
params_parts word name next more (p, [], are) =
    let names = same_rest refl are.texts_are in
    let ends = same_rest refl names in
    ((p.kind, same_first refl are.texts_are), (subst IsWord (same_first names refl) (All-head HasWord p [] are.words), inl (same_first refl ends, same_rest refl ends)))
params_parts word name next more (p, q ∷ params, are) =
    let names = same_rest refl are.texts_are in
    let ends = same_rest refl names in (
      (p.kind, same_first refl are.texts_are),
      (
        subst IsWord (same_first names refl) (All-head HasWord p (q ∷ params) are.words),
        inr (same_first refl ends, (q, params, record { texts_are = same_rest refl ends; words = All-tail HasWord p (q ∷ params) are.words })),
      ),
    )

dec_some_params : (texts : List (List ℕ)) → Dec (SomeParams texts)
dec_some_params [] = no (short_params [] (omega arith))
dec_some_params (a ∷ []) = no (short_params (a ∷ []) (omega arith))
dec_some_params (a ∷ b ∷ []) = no (short_params (a ∷ b ∷ []) (omega arith))
dec_some_params (word ∷ name ∷ next ∷ more) = map_dec (parts_params word name next more) (params_parts word name next more)
    (dec_both (dec_param_kind _ (λ kind. dec_text word (param_word kind))) (dec_both (dec_word name) (dec_either (dec_both (dec_text next (codes ")")) (dec_empty more)) (dec_both (dec_text next (codes ",")) (dec_some_params more)))))

-- whether texts are parameters and the parenthesis after them
pub dec_params : (texts : List (List ℕ)) → Dec ((params : List ParamText) × AreParams texts params)
dec_params texts = map_dec to (λ some. from some.0 some.1) (dec_either (dec_alone (codes ")") texts) (dec_some_params texts))
  where
    to : (texts ≡ codes ")" ∷ []) ⊎ SomeParams texts → (params : List ParamText) × AreParams texts params
    to (inl same) = ([], record { texts_are = same; words = All-nil HasWord })
    to (inr (p, params, are)) = (p ∷ params, are)

    from : (params : List ParamText) → AreParams texts params → (texts ≡ codes ")" ∷ []) ⊎ SomeParams texts
    from [] are = inl are.texts_are
    from (p ∷ params) are = inr (p, params, are)

-- that a text writes a number above 0
dec_above : (text : List ℕ) → Dec ((n : ℕ) × IsNumber text (suc n))
dec_above text = by (dec_number text)
  where
    by : Dec ((n : ℕ) × IsNumber text n) → Dec ((n : ℕ) × IsNumber text (suc n))
    by (yes (zero, number)) = no (λ some. let same : 0 ≡ suc some.0 = IsNumber-one text 0 (suc some.0) number some.1 in omega (arith, same))
    by (yes (suc n, number)) = yes (n, number)
    by (no none) = no (λ some. none (suc some.0, some.1))

-- texts that begin with a number with a sign
abbrev Signed : List (List ℕ) → Type 0
Signed texts = (negative : Bool) × (digits : List ℕ) × (rest : List (List ℕ)) × (texts ≡ number_texts negative digits ++ rest) × IsSigned negative digits

abbrev SignedTexts : List (List ℕ) → Type 0
SignedTexts texts = Begins (λ text rest. (n : ℕ) × IsNumber text n) texts ⊎ After (codes "-") (Begins (λ text rest. (n : ℕ) × IsNumber text (suc n))) texts

signed_to : (texts : List (List ℕ)) → SignedTexts texts → Signed texts
signed_to texts (inl (text, rest, same, number)) = (false, text, rest, same, number)
signed_to texts (inr (more, minus, (text, rest, same, number))) = (true, text, rest, minus ∙ ap (λ ts. codes "-" ∷ ts) same, number)

signed_from : (texts : List (List ℕ)) → Signed texts → SignedTexts texts
signed_from texts (false, digits, rest, same, is) = inl (digits, rest, same, is)
signed_from texts (true, digits, rest, same, is) = inr (digits ∷ rest, same, (digits, rest, refl, is))

dec_signed : (texts : List (List ℕ)) → Dec (Signed texts)
dec_signed texts = map_dec (signed_to texts) (signed_from texts)
    (dec_either (dec_begins _ (λ text rest. dec_number text) texts) (dec_after (codes "-") _ (dec_begins _ (λ text rest. dec_above text)) texts))

-- texts that begin so, where the rest has a property
abbrev SignedThen : (List (List ℕ) → Type 0) → List (List ℕ) → Type 0
SignedThen K texts = (negative : Bool) × (digits : List ℕ) × (rest : List (List ℕ)) × (texts ≡ number_texts negative digits ++ rest) × IsSigned negative digits × K rest

dec_signed_then : (K : List (List ℕ) → Type 0) → ((rest : List (List ℕ)) → Dec (K rest)) → (texts : List (List ℕ)) → Dec (SignedThen K texts)
dec_signed_then K each texts = by (dec_signed texts)
  where
    by : Dec (Signed texts) → Dec (SignedThen K texts)
    by (yes (negative, digits, rest, same, is)) = map_dec
        (λ k. (negative, digits, rest, same, is, k))
        (λ some. subst K (signed_one some.0 negative some.1 digits some.4 is (sym some.3 ∙ same)).2 some.5)
        (each rest)
    by (no none) = no (λ some. none (some.0, some.1, some.2, some.3, some.4))

-- an initial value in the form that its kind asks, which has the texts
abbrev pub Inits : Kind → List (List ℕ) → Type 0
Inits kind texts = (init : InitText) × InitForm kind init × (texts ≡ init_texts init)

abbrev One : List (List ℕ) → Type 0
One = SignedThen (λ rest. rest ≡ [])

one_texts : {texts : List (List ℕ)} (one : One texts) → texts ≡ number_texts one.0 one.1
one_texts one = one.3 ∙ ap (λ ts. number_texts one.0 one.1 ++ ts) one.5 ∙ append-nil (number_texts one.0 one.1)

one_of : {texts : List (List ℕ)} (negative : Bool) (digits : List ℕ) → IsSigned negative digits → texts ≡ number_texts negative digits → One texts
one_of negative digits is same = (negative, digits, [], same ∙ sym (append-nil (number_texts negative digits)), is, refl)

dec_one_number : (texts : List (List ℕ)) → Dec (One texts)
dec_one_number = dec_signed_then (λ rest. rest ≡ []) dec_empty

abbrev Braces : List (List ℕ) → Type 0
Braces texts = (numbers : List (List ℕ)) × AreRisingNumbers numbers × (texts ≡ init_texts (Values numbers))

dec_braces : (texts : List (List ℕ)) → Dec (Braces texts)
dec_braces texts = map_dec
    (λ some. (some.2.0, some.2.2, some.1 ∙ ap (λ ts. codes "{" ∷ ts) some.2.1))
    (λ some. (listed some.0 ++ codes "}" ∷ [], some.2, (some.0, refl, some.1)))
    (dec_after (codes "{") _ (λ rest. whole rest (dec_rising_numbers rest)) texts)
  where
    whole : (rest : List (List ℕ)) → Dec (Rising rest) → Dec ((numbers : List (List ℕ)) × (rest ≡ listed numbers ++ codes "}" ∷ []) × AreRisingNumbers numbers)
    whole rest (yes (numbers, after, same, rising)) = map_dec
        (λ none. (numbers, same ∙ ap (λ ts. listed numbers ++ codes "}" ∷ ts) none, rising))
        (λ some. (listed_one numbers some.0 rising.written some.2.written (sym same ∙ some.1)).1)
        (dec_empty after)
    whole rest (no none) = no (λ some. none (some.0, [], some.1, some.2))

abbrev Two : List (List ℕ) → Type 0
Two = SignedThen (After (codes "..") One)

-- the texts of an initial value of each kind
min_init : {texts : List (List ℕ)} {init : InitText} → InitForm Min init → texts ≡ init_texts init → One texts
min_init (min_number {negative = negative} {digits = digits} is) same = one_of negative digits is same

max_init : {texts : List (List ℕ)} {init : InitText} → InitForm Max init → texts ≡ init_texts init → One texts
max_init (max_number {negative = negative} {digits = digits} is) same = one_of negative digits is same

two_init : {texts : List (List ℕ)} {init : InitText} → InitForm Interval init → texts ≡ init_texts init → Two texts
two_init (two_numbers {negative = negative} {also_negative = also_negative} {digits = digits} {more_digits = more_digits} low high) same =
    (negative, digits, codes ".." ∷ number_texts also_negative more_digits, same, low, (number_texts also_negative more_digits, refl, one_of also_negative more_digits high refl))

some_init : {texts : List (List ℕ)} {init : InitText} → InitForm SomeBits init → texts ≡ init_texts init → Braces texts
some_init (some_numbers {numbers = numbers} rising) same = (numbers, rising, same)

all_init : {texts : List (List ℕ)} {init : InitText} → InitForm AllBits init → texts ≡ init_texts init → Braces texts
all_init (all_numbers {numbers = numbers} rising) same = (numbers, rising, same)

init_two : {texts : List (List ℕ)} → Two texts → Inits Interval texts
init_two (negative, digits, rest, same, is, (more, dots, one)) =
    (Pair negative digits one.0 one.1, two_numbers is one.4, same ∙ ap (λ ts. number_texts negative digits ++ ts) (dots ∙ ap (λ ts. codes ".." ∷ ts) (one_texts one)))

-- whether texts are those of an initial value in the form that the kind asks
pub dec_init : (kind : Kind) (texts : List (List ℕ)) → Dec (Inits kind texts)
dec_init Min texts = map_dec (λ one. (Single one.0 one.1, min_number one.4, one_texts one)) (λ some. min_init some.1 some.2) (dec_one_number texts)
dec_init Max texts = map_dec (λ one. (Single one.0 one.1, max_number one.4, one_texts one)) (λ some. max_init some.1 some.2) (dec_one_number texts)
dec_init Interval texts = map_dec init_two (λ some. two_init some.1 some.2) (dec_signed_then _ (dec_after (codes "..") One dec_one_number) texts)
dec_init SomeBits texts = map_dec (λ some. (Values some.0, some_numbers some.1, some.2)) (λ some. some_init some.1 some.2) (dec_braces texts)
dec_init AllBits texts = map_dec (λ some. (Values some.0, all_numbers some.1, some.2)) (λ some. all_init some.1 some.2) (dec_braces texts)

-- a step in the form that its kind asks, which has the texts
abbrev pub Moves : Kind → List (List ℕ) → Type 0
Moves kind texts = (step : StepText) × StepForm kind step × (texts ≡ step_texts step)

-- the texts of a step of each kind
min_moves : {texts : List (List ℕ)} {step : StepText} → StepForm Min step → texts ≡ step_texts step → (e : NumText) × IsNumText e × (texts ≡ num_texts e)
min_moves (min_step {e = e} is) same = (e, is, same)

max_moves : {texts : List (List ℕ)} {step : StepText} → StepForm Max step → texts ≡ step_texts step → (e : NumText) × IsNumText e × (texts ≡ num_texts e)
max_moves (max_step {e = e} is) same = (e, is, same)

two_move : {texts : List (List ℕ)} {step : StepText} → StepForm Interval step → texts ≡ step_texts step → (low high : NumText) × IsNumText low × IsNumText high × (texts ≡ num_texts low ++ num_texts high)
two_move (two_steps {low = low} {high = high} low_is high_is) same = (low, high, low_is, high_is, same)

some_moves : {texts : List (List ℕ)} {step : StepText} → StepForm SomeBits step → texts ≡ step_texts step → (e : SetText) × IsSetText e × (texts ≡ set_texts e)
some_moves (some_step {e = e} is) same = (e, is, same)

all_moves : {texts : List (List ℕ)} {step : StepText} → StepForm AllBits step → texts ≡ step_texts step → (e : SetText) × IsSetText e × (texts ≡ set_texts e)
all_moves (all_step {e = e} is) same = (e, is, same)

-- whether texts are those of a step in the form that the kind asks
pub dec_moves : (kind : Kind) (texts : List (List ℕ)) → Dec (Moves kind texts)
dec_moves Min texts = map_dec (λ some. (ToNumber some.0, min_step some.1, some.2)) (λ some. min_moves some.1 some.2) (dec_num texts)
dec_moves Max texts = map_dec (λ some. (ToNumber some.0, max_step some.1, some.2)) (λ some. max_moves some.1 some.2) (dec_num texts)
dec_moves Interval texts = map_dec (λ some. (ToPair some.0 some.1, two_steps some.2 some.3, some.4)) (λ some. two_move some.1 some.2) (dec_pair texts)
dec_moves SomeBits texts = map_dec (λ some. (ToSet some.0, some_step some.1, some.2)) (λ some. some_moves some.1 some.2) (dec_set texts)
dec_moves AllBits texts = map_dec (λ some. (ToSet some.0, all_step some.1, some.2)) (λ some. all_moves some.1 some.2) (dec_set texts)
