-- Terms and names are lists up to the closing parenthesis.
use Rattle.std.proofs.Common.{◌≡◌, ◌<◌, ℕ, ℤ, List, ◌∷◌, length, map, drop, refl, sym, ap, ◌∙◌, subst, codes, arith}
use Rattle.std.proofs.lemmas.List.{map-id}
use Rattle.hk_lines.specs.Phrases.{Term, SignedThen, then_plain, then_minus, TermsThen, last_term, more_term, NamesThen, last_name, more_name}
use Rattle.hk_lines.specs.inside.Pieces.{WordThen, TermThen}
use Rattle.hk_lines.specs.inside.Capped.{BeginsCapped}
use Rattle.hk_text.proofs.TokenTexts.{differ, same_first, mark_no_number}
use Rattle.hk_lines.proofs.Lists.{IsListOf, Opens, opens_last, opens_more}

terms_open : {texts rest : List (List ℕ)} {xs : List Term} → TermsThen texts xs rest → Opens TermThen TermsThen (codes ")") texts rest
terms_open (last_term {coef = coef} {name = name} signed word) = opens_last {x = record { coef = coef; name = name }} (record { signed = signed; is_word = word })
terms_open (more_term {coef = coef} {name = name} signed word terms) = opens_more {x = record { coef = coef; name = name }} (record { signed = signed; is_word = word }) terms

-- the texts after a number with a sign are the same in each reading
signed_rest : {texts after other : List (List ℕ)} {m n : ℤ} → SignedThen texts m after → SignedThen texts n other → after ≡ other
signed_rest (then_plain one number) (then_plain two another) = ap (drop 1) (sym one ∙ two)
signed_rest (then_plain one number) (then_minus two another) = absurd (mark_no_number (same_first one two) refl number)
signed_rest (then_minus one number) (then_plain two another) = absurd (mark_no_number (same_first two one) refl another)
signed_rest (then_minus one number) (then_minus two another) = ap (drop 2) (sym one ∙ two)

signed_shorter : {texts after : List (List ℕ)} {n : ℤ} → SignedThen texts n after → length after < length texts
signed_shorter {texts = texts} {after = after} (then_plain {text = text} is number) =
    let same : length texts ≡ length (text ∷ after) = ap (λ ts. length ts) is in
    omega (arith, same)
signed_shorter {texts = texts} {after = after} (then_minus {text = text} is number) =
    let same : length texts ≡ length (codes "-" ∷ text ∷ after) = ap (λ ts. length ts) is in
    omega (arith, same)

term_shorter : {texts after : List (List ℕ)} {x : Term} → TermThen texts x after → length after < length texts
term_shorter {texts = texts} {after = after} {x = x} term =
    let less : length (codes "*" ∷ x.name ∷ after) < length texts = signed_shorter term.signed in
    omega (arith, less)

-- terms are a list
pub terms_list : IsListOf TermThen TermsThen (codes ")")
terms_list = record {
  last = λ term. last_term term.signed term.is_word;
  more = λ term terms. more_term term.signed term.is_word terms;
  opens = terms_open;
  one = λ one two. ap (drop 2) (signed_rest one.signed two.signed);
  shorter = term_shorter;
  apart = λ same. differ same refl;
}

names_open : {texts rest : List (List ℕ)} {xs : List (List ℕ)} → NamesThen texts xs rest → Opens WordThen NamesThen (codes ")") texts rest
names_open (last_name {name = name} is word) = opens_last {x = name} (record { parts = is; is_word = word })
names_open (more_name {name = name} is word names) = opens_more {x = name} (record { parts = is; is_word = word }) names

pub word_shorter : {texts after : List (List ℕ)} {x : List ℕ} → WordThen texts x after → length after < length texts
word_shorter {texts = texts} {after = after} {x = x} word =
    let same : length texts ≡ length (x ∷ after) = ap (λ ts. length ts) word.parts in
    omega (arith, same)

-- names are a list
pub names_list : IsListOf WordThen NamesThen (codes ")")
names_list = record {
  last = λ word. last_name word.parts word.is_word;
  more = λ word names. more_name word.parts word.is_word names;
  opens = names_open;
  one = λ one two. ap (drop 1) (sym one.parts ∙ two.parts);
  shorter = word_shorter;
  apart = λ same. differ same refl;
}

-- a name that was read begins the texts as it is
pub exact_word : {texts rest : List (List ℕ)} {word : List ℕ} → WordThen texts word rest → BeginsCapped WordThen (λ name. name) texts word rest
exact_word {word = word} begins = record { exact = word; phrase = begins; is_capped = refl }

-- names that were read as they are begin the texts
pub exact_names : {texts rest : List (List ℕ)} {names : List (List ℕ)} → BeginsCapped NamesThen (map (λ name. name)) texts names rest → NamesThen texts names rest
exact_names {texts = texts} {rest = rest} begins = subst (λ ns. NamesThen texts ns rest) (sym (begins.is_capped ∙ map-id begins.exact)) begins.phrase
