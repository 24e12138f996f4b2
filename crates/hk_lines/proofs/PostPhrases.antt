-- The phrases of a post: numbers and arguments are lists, and an argument is a number, a set in braces, or numbers in brackets.
use Rattle.std.proofs.Common.{◌≡◌, All, ℕ, ℤ, List, [], ◌∷◌, ◌++◌, map, true, true≢false, Option, None, Some, is_some, IfSome, w64, of_z, to_z, refl, sym, ap, ◌∙◌, subst, codes}
use Rattle.hk_text.specs.Lexemes.{IsWord}
use Rattle.hk_lines.specs.Phrases.{Values, SignedThen, SetThen, NamesThen}
use Rattle.hk_lines.specs.inside.Pieces.{WordThen}
use Rattle.hk_lines.specs.Posts.{ArgText, Number, Set, Numbers, Post, NumbersThen, last_signed, more_signed, ArgThen, arg_number, arg_set, arg_numbers, ArgsThen, last_arg, more_arg, ArgListThen, no_args, some_args, IsWholeScope, SaysPost}
use Rattle.hk_lines.specs.PostShapes.{capped_arg, capped_post, SayNoPost}
use Rattle.hk_lines.specs.Shapes.{capped_signed, capped_values}
use Rattle.hk_lines.specs.inside.Capped.{BeginsCapped}
use Rattle.hk_lines.specs.Statements.{scope_end}
use Rattle.hk_lines.proofs.Capping.{signed_in_word}
use Rattle.hk_lines.proofs.Finding.{signed_shorter}
use Rattle.hk_lines.proofs.Lists.{IsListOf, Opens, opens_last, opens_more}
use Rattle.hk_text.proofs.TokenTexts.{differ, same_rest}
use Rattle.hk_lines.proofs.Phrasing.{signed_one}
use Rattle.hk_lines.proofs.Posting.{arg_one, arg_list_one, arg_shorter}
use Rattle.hk_lines.proofs.ScopeNames.{scope_of_names, names_of_scope, names_one}

-- an option that is tested to be some has a value with the property of its values
pub some_since : {A : Type 0} (P : A → Type 0) (o : Option A) → IfSome o P → is_some o ≡ true → (x : A) × P x
some_since P None each some = absurd (true≢false (sym some))
some_since P (Some x) each some = (x, each)

numbers_open : {texts rest : List (List ℕ)} {xs : List ℤ} → NumbersThen texts xs rest → Opens SignedThen NumbersThen (codes "]") texts rest
numbers_open (last_signed {value = value} signed) = opens_last {x = value} signed
numbers_open (more_signed {value = value} signed numbers) = opens_more {x = value} signed numbers

-- numbers are a list
pub numbers_list : IsListOf SignedThen NumbersThen (codes "]")
numbers_list = record {
  last = λ signed. last_signed signed;
  more = λ signed numbers. more_signed signed numbers;
  opens = numbers_open;
  one = λ one two. (signed_one one two).1;
  shorter = signed_shorter;
  apart = λ same. differ same refl;
}

-- a number that was read is pushed as it is, since it lies in a word of 64 bits
pub signed_pushed : {texts rest : List (List ℕ)} {value : ℤ} (numbers longer : List ℤ) → BeginsCapped SignedThen capped_signed texts value rest → longer ≡ numbers ++ to_z w64 (of_z w64 value) ∷ [] → longer ≡ numbers ++ value ∷ []
signed_pushed {value = value} numbers longer signed pushed = pushed ∙ ap (λ z. numbers ++ z ∷ []) (signed_in_word value signed.exact signed.is_capped)

args_open : {texts rest : List (List ℕ)} {xs : List ArgText} → ArgsThen texts xs rest → Opens ArgThen ArgsThen (codes ")") texts rest
args_open (last_arg {arg = arg} one) = opens_last {x = arg} one
args_open (more_arg {arg = arg} one args) = opens_more {x = arg} one args

-- arguments are a list
pub args_list : IsListOf ArgThen ArgsThen (codes ")")
args_list = record {
  last = λ arg. last_arg arg;
  more = λ arg args. more_arg arg args;
  opens = args_open;
  one = λ one two. (arg_one one two).1;
  shorter = arg_shorter;
  apart = λ same. differ same refl;
}

-- a number that was read, as it lies in a word of 64 bits, is an argument
pub number_arg_said : {texts rest : List (List ℕ)} {value : ℤ} → BeginsCapped SignedThen capped_signed texts value rest → BeginsCapped ArgThen capped_arg texts (Number (to_z w64 (of_z w64 value))) rest
number_arg_said {value = value} signed = record {
  exact = Number signed.exact;
  phrase = arg_number signed.phrase;
  is_capped = ap Number (signed_in_word value signed.exact signed.is_capped ∙ signed.is_capped);
}

-- numbers that were read after an opening bracket are an argument
pub numbers_arg_said : {texts more rest : List (List ℕ)} {numbers : List ℤ} → texts ≡ codes "[" ∷ more → BeginsCapped NumbersThen (map capped_signed) more numbers rest → BeginsCapped ArgThen capped_arg texts (Numbers numbers) rest
numbers_arg_said opens numbers = record { exact = Numbers numbers.exact; phrase = arg_numbers opens numbers.phrase; is_capped = ap Numbers numbers.is_capped }

-- a set that was read from an opening brace on is an argument
pub set_arg_said : {texts more rest : List (List ℕ)} {set : List Values} → texts ≡ codes "{" ∷ more → BeginsCapped SetThen (map capped_values) texts set rest → BeginsCapped ArgThen capped_arg texts (Set set) rest
set_arg_said opens set = record { exact = Set set.exact; phrase = arg_set opens set.phrase; is_capped = ap Set set.is_capped }

-- no arguments
pub no_args_said : {texts rest : List (List ℕ)} {args : List ArgText} → texts ≡ codes ")" ∷ rest → args ≡ [] → BeginsCapped ArgListThen (map capped_arg) texts args rest
no_args_said closes none = record { exact = []; phrase = no_args closes; is_capped = none }

-- some arguments
pub some_args_said : {texts rest : List (List ℕ)} {args : List ArgText} → BeginsCapped ArgsThen (map capped_arg) texts args rest → BeginsCapped ArgListThen (map capped_arg) texts args rest
some_args_said begins = record { exact = begins.exact; phrase = some_args begins.phrase; is_capped = begins.is_capped }

-- names between parentheses, with nothing after them, are a scope
pub whole_scope_said : {texts inner rest names : List (List ℕ)} → texts ≡ codes "(" ∷ inner → NamesThen inner names rest → rest ≡ [] → IsWholeScope texts names
whole_scope_said opens names over =
    let scope = scope_of_names names over in
    record {
      first = scope.first;
      more = scope.more;
      names_are = scope.names_are;
      texts_are = opens ∙ ap (λ ts. codes "(" ∷ ts) scope.texts_are;
      words = subst (All IsWord) (sym scope.names_are) scope.words;
    }

-- where an opening parenthesis and no names up to the last token follow, there is no scope
pub no_names_no_scope : {texts inner : List (List ℕ)} → texts ≡ codes "(" ∷ inner → ((names : List (List ℕ)) → NamesThen inner names [] → ⊥) → (names : List (List ℕ)) → IsWholeScope texts names → ⊥
no_names_no_scope opens none names scope =
    none (scope.first ∷ scope.more) (names_of_scope scope.first scope.more (same_rest opens scope.texts_are) (subst (All IsWord) scope.names_are scope.words))

-- nor is there where more follows the names
pub more_no_scope : {texts inner rest found : List (List ℕ)} → texts ≡ codes "(" ∷ inner → NamesThen inner found rest → (rest ≡ [] → ⊥) → (names : List (List ℕ)) → IsWholeScope texts names → ⊥
more_no_scope opens phrase further = no_names_no_scope opens (λ names ends. further (names_one phrase ends).1)

-- nor is there without an opening parenthesis
pub closed_no_scope : {texts : List (List ℕ)} → ((inner : List (List ℕ)) → texts ≡ codes "(" ∷ inner → ⊥) → (names : List (List ℕ)) → IsWholeScope texts names → ⊥
closed_no_scope none names scope = none (scope.first ∷ scope_end scope.more) scope.texts_are

module _ {texts : List (List ℕ)} where
  -- a word, arguments and a scope after `post` say a post
  pub post_said : {after inner scope names : List (List ℕ)} {spec : List ℕ} {args : List ArgText} → WordThen texts spec after → after ≡ codes "(" ∷ inner → BeginsCapped ArgListThen (map capped_arg) inner args scope
      → IsWholeScope scope names → (post : Post) × SaysPost (codes "post" ∷ texts) post × (record { spec = spec; args = args; names = names } ≡ capped_post post)
  post_said {inner = inner} {scope = scope} {names = names} {spec = spec} word opens begins is_scope =
      let post : Post = record { spec = spec; args = begins.exact; names = names } in (
        post,
        record {
          more = inner;
          scope = scope;
          parts = ap (λ ts. codes "post" ∷ ts) (word.parts ∙ ap (λ ts. spec ∷ ts) opens);
          word = word.is_word;
          args = begins.phrase;
          names = is_scope;
        },
        λ i. record { spec = spec; args = begins.is_capped i; names = names },
      )

  -- nor without a scope after them
  pub no_scope_no_post : {after inner scope : List (List ℕ)} {spec : List ℕ} {args : List ArgText} → WordThen texts spec after → after ≡ codes "(" ∷ inner → BeginsCapped ArgListThen (map capped_arg) inner args scope
      → ((names : List (List ℕ)) → IsWholeScope scope names → ⊥) → SayNoPost (codes "post" ∷ texts)
  no_scope_no_post word opens begins none post says =
      let same = same_rest (same_rest word.parts (same_rest refl says.parts)) opens in
      let rest = (arg_list_one (subst (λ ts. ArgListThen ts post.args says.scope) same says.args) begins.phrase).1 in
      none post.names (subst (λ ts. IsWholeScope ts post.names) rest says.names)
