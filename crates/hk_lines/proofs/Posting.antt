-- What a post says has one reading.
use Rattle.std.proofs.Common.{◌≡◌, ℕ, ℤ, false, List, ◌∷◌, get_or, length, ◌<◌, refl, ap, subst, sym, ◌∙◌, arith}
use Rattle.std.specs.Prelude.{codes}
use Rattle.std.specs.Char.{is_ascii_digit}
use Rattle.std.specs.Str.{bytes_eq}
use Rattle.hk_lines.specs.Phrases.{Values, SignedThen, then_plain, then_minus, ItemsThen, last_number, last_range, more_number, more_range, SetThen, set_range, set_empty, set_items}
use Rattle.hk_lines.specs.Posts.{ArgText, Number, Set, Numbers, Post, NumbersThen, last_signed, more_signed, ArgThen, arg_number, arg_set, arg_numbers, ArgsThen, last_arg, more_arg, ArgListThen, no_args, some_args, IsWholeScope, SaysPost}
use Rattle.hk_lines.proofs.Finding.{signed_shorter}
use Rattle.hk_lines.proofs.Grammar.{scope_end_one}
use Rattle.hk_lines.proofs.ListPhrases.{ListThen, last_element, more_elements, list_one}
use Rattle.hk_text.proofs.TokenTexts.{differ, apart, same_first, same_rest, mark_no_number}
use Rattle.hk_lines.proofs.Phrasing.{signed_one, set_one}

-- a signed number begins with no mark but `-`
pub signed_no_mark : {texts rest more : List (List ℕ)} {value : ℤ} {mark : List ℕ} → SignedThen texts value rest → texts ≡ mark ∷ more
    → is_ascii_digit (get_or mark 0 0) ≡ false → bytes_eq (codes "-") mark ≡ false → ⊥
signed_no_mark (then_plain x number) y digit minus = mark_no_number (same_first x y) digit number
signed_no_mark (then_minus x number) y digit minus = differ (same_first x y) minus

-- numbers in brackets are a list
pub listed_numbers : {texts rest : List (List ℕ)} {numbers : List ℤ} → NumbersThen texts numbers rest → ListThen SignedThen (codes "]") texts numbers rest
listed_numbers (last_signed x) = last_element x
listed_numbers (more_signed x later) = more_elements x (listed_numbers later)

pub numbers_listed : {texts rest : List (List ℕ)} {numbers : List ℤ} → ListThen SignedThen (codes "]") texts numbers rest → NumbersThen texts numbers rest
numbers_listed (last_element x) = last_signed x
numbers_listed (more_elements x later) = more_signed x (numbers_listed later)

-- tokens begin with one list of numbers
pub numbers_one : {texts rest rest' : List (List ℕ)} {numbers numbers' : List ℤ} → NumbersThen texts numbers rest → NumbersThen texts numbers' rest' → (numbers ≡ numbers') × (rest ≡ rest')
numbers_one x y = list_one (λ texts rest rest' x x' a b. signed_one a b) refl refl (listed_numbers x) (listed_numbers y)

-- tokens begin with one argument
pub arg_one : {texts rest rest' : List (List ℕ)} {arg arg' : ArgText} → ArgThen texts arg rest → ArgThen texts arg' rest' → (arg ≡ arg') × (rest ≡ rest')
arg_one (arg_number x) (arg_number y) = let both = signed_one x y in (ap Number both.0, both.1)
arg_one (arg_number x) (arg_set y set) = absurd (signed_no_mark x y refl refl)
arg_one (arg_number x) (arg_numbers y numbers) = absurd (signed_no_mark x y refl refl)
arg_one (arg_set x set) (arg_number y) = absurd (signed_no_mark y x refl refl)
arg_one (arg_set x set) (arg_set y set') = let both = set_one set set' in (ap Set both.0, both.1)
arg_one (arg_set x set) (arg_numbers y numbers) = absurd (apart 0 x y refl)
arg_one (arg_numbers x numbers) (arg_number y) = absurd (signed_no_mark y x refl refl)
arg_one (arg_numbers x numbers) (arg_set y set) = absurd (apart 0 x y refl)
arg_one (arg_numbers {rest = rest} {numbers = ns} x numbers) (arg_numbers y numbers') =
    let both = numbers_one (subst (λ texts. NumbersThen texts ns rest) (same_rest x y) numbers) numbers' in
    (ap Numbers both.0, both.1)

-- arguments are a list
pub listed_args : {texts rest : List (List ℕ)} {args : List ArgText} → ArgsThen texts args rest → ListThen ArgThen (codes ")") texts args rest
listed_args (last_arg x) = last_element x
listed_args (more_arg x later) = more_elements x (listed_args later)

pub args_listed : {texts rest : List (List ℕ)} {args : List ArgText} → ListThen ArgThen (codes ")") texts args rest → ArgsThen texts args rest
args_listed (last_element x) = last_arg x
args_listed (more_elements x later) = more_arg x (args_listed later)

-- tokens begin with one list of arguments
pub args_one : {texts rest rest' : List (List ℕ)} {args args' : List ArgText} → ArgsThen texts args rest → ArgsThen texts args' rest' → (args ≡ args') × (rest ≡ rest')
args_one x y = list_one (λ texts rest rest' x x' a b. arg_one a b) refl refl (listed_args x) (listed_args y)

-- an argument doesn't begin with a closing parenthesis
arg_no_close : {texts rest more : List (List ℕ)} {arg : ArgText} → ArgThen texts arg rest → texts ≡ codes ")" ∷ more → ⊥
arg_no_close (arg_number x) y = signed_no_mark x y refl refl
arg_no_close (arg_set x set) y = apart 0 x y refl
arg_no_close (arg_numbers x numbers) y = apart 0 x y refl

args_no_close : {texts rest more : List (List ℕ)} {args : List ArgText} → ArgsThen texts args rest → texts ≡ codes ")" ∷ more → ⊥
args_no_close (last_arg x) y = arg_no_close x y
args_no_close (more_arg x later) y = arg_no_close x y

-- tokens begin with one list of arguments, which may have none
pub arg_list_one : {texts rest rest' : List (List ℕ)} {args args' : List ArgText} → ArgListThen texts args rest → ArgListThen texts args' rest' → (args ≡ args') × (rest ≡ rest')
arg_list_one (no_args x) (no_args y) = (refl, same_rest x y)
arg_list_one (no_args x) (some_args args) = absurd (args_no_close args x)
arg_list_one (some_args args) (no_args y) = absurd (args_no_close args y)
arg_list_one (some_args args) (some_args args') = args_one args args'

-- texts are one scope
pub whole_scope_one : {texts names names' : List (List ℕ)} → IsWholeScope texts names → IsWholeScope texts names' → names ≡ names'
whole_scope_one x y =
    let scope = same_rest x.texts_are y.texts_are in
    let first : x.first ≡ y.first = same_first refl scope in
    let more : x.more ≡ y.more = scope_end_one x.more y.more (same_rest refl scope) in
    x.names_are ∙ ap (λ name. name ∷ x.more) first ∙ ap (λ names. y.first ∷ names) more ∙ sym y.names_are

-- texts say one post
pub says_post_one : {texts : List (List ℕ)} {p q : Post} → SaysPost texts p → SaysPost texts q → p ≡ q
says_post_one {p = p} {q = q} x y =
    let after = same_rest x.parts y.parts in
    let spec : p.spec ≡ q.spec = same_first refl after in
    let more : x.more ≡ y.more = same_rest refl (same_rest refl after) in
    let args = arg_list_one (subst (λ texts. ArgListThen texts p.args x.scope) more x.args) y.args in
    let names : p.names ≡ q.names = whole_scope_one (subst (λ texts. IsWholeScope texts p.names) args.1 x.names) y.names in
    λ i. record { spec = spec i; args = args.0 i; names = names i }

-- items, a set, numbers and an argument take a text
items_shorter : {texts rest : List (List ℕ)} {items : List Values} → ItemsThen texts items rest → length rest < length texts
items_shorter (last_number x number) = let long = ap length x in omega (arith, long)
items_shorter (last_range x from to) = let long = ap length x in omega (arith, long)
items_shorter (more_number x number later) = let long = ap length x in let less = items_shorter later in omega (arith, long, less)
items_shorter (more_range x from to later) = let long = ap length x in let less = items_shorter later in omega (arith, long, less)

set_shorter : {texts rest : List (List ℕ)} {set : List Values} → SetThen texts set rest → length rest < length texts
set_shorter (set_range x from to) = let long = ap length x in omega (arith, long)
set_shorter (set_empty x) = let long = ap length x in omega (arith, long)
set_shorter (set_items x items) = let long = ap length x in let less = items_shorter items in omega (arith, long, less)

numbers_shorter : {texts rest : List (List ℕ)} {numbers : List ℤ} → NumbersThen texts numbers rest → length rest < length texts
numbers_shorter (last_signed x) = let less = signed_shorter x in omega (arith, less)
numbers_shorter (more_signed x later) = let first = signed_shorter x in let less = numbers_shorter later in omega (arith, first, less)

pub arg_shorter : {texts rest : List (List ℕ)} {arg : ArgText} → ArgThen texts arg rest → length rest < length texts
arg_shorter (arg_number x) = signed_shorter x
arg_shorter (arg_set x set) = set_shorter set
arg_shorter (arg_numbers x numbers) = let long = ap length x in let less = numbers_shorter numbers in omega (arith, long, less)
