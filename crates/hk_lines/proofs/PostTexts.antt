-- Whether texts say a post is decided.
use Rattle.std.proofs.Common.{ℕ, ◌⊎◌, inl, inr, List, [], ◌∷◌, refl, ap, subst, ◌∙◌}
use Rattle.std.specs.Prelude.{All, codes}
use Rattle.std.proofs.Math.Decide.{map_dec}
use Rattle.hk_text.specs.Lexemes.{IsWord}
use Rattle.hk_lines.specs.Phrases.{SignedThen, SetThen}
use Rattle.hk_lines.specs.Posts.{ArgText, Number, Set, Numbers, Post, NumbersThen, ArgThen, arg_number, arg_set, arg_numbers, ArgsThen, ArgListThen, no_args, some_args, IsWholeScope, SaysPost}
use Rattle.hk_lines.specs.Statements.{scope_end}
use Rattle.hk_text.proofs.Deciding.{dec_both, dec_either, dec_all, dec_word, Begins, dec_begins, After, dec_after}
use Rattle.hk_lines.proofs.Finding.{Finds, Decision, dec_signed, dec_set, signed_shorter}
use Rattle.hk_lines.proofs.ListPhrases.{dec_list}
use Rattle.hk_lines.proofs.Posting.{listed_numbers, numbers_listed, listed_args, args_listed, arg_shorter}
use Rattle.hk_lines.proofs.Sayings.{Closes, dec_closes}

-- whether texts begin with numbers so
pub dec_numbers : Decision (Finds NumbersThen)
dec_numbers K each texts = map_dec
    (λ some. (some.0, some.1, numbers_listed some.2, some.3))
    (λ some. (some.0, some.1, listed_numbers some.2, some.3))
    (dec_list (λ texts rest x signed. signed_shorter signed) dec_signed K each texts)

-- the texts of an argument, from part to part
abbrev ArgTexts : (ArgText → List (List ℕ) → Type 0) → List (List ℕ) → Type 0
ArgTexts K texts =
    Finds SignedThen (λ value. K (Number value)) texts
    ⊎ (After (codes "{") (λ more. Unit {0}) texts × Finds SetThen (λ set. K (Set set)) texts
    ⊎ After (codes "[") (Finds NumbersThen (λ numbers. K (Numbers numbers))) texts)

-- whether texts begin with an argument so
pub dec_arg : Decision (Finds ArgThen)
dec_arg K each texts = map_dec there (λ some. back some.0 some.1 some.2 some.3)
    (dec_either (dec_signed (λ value. K (Number value)) (λ value. each (Number value)) texts) (dec_either
    (dec_both (dec_after (codes "{") (λ more. Unit {0}) (λ more. yes tt) texts) (dec_set (λ set. K (Set set)) (λ set. each (Set set)) texts))
    (dec_after (codes "[") _ (dec_numbers (λ numbers. K (Numbers numbers)) (λ numbers. each (Numbers numbers))) texts)))
  where
    there : ArgTexts K texts → Finds ArgThen K texts
    there (inl (value, rest, signed, k)) = (Number value, rest, arg_number signed, k)
    there (inr (inl ((more, same, nothing), (set, rest, found, k)))) = (Set set, rest, arg_set same found, k)
    there (inr (inr (more, same, (numbers, rest, found, k)))) = (Numbers numbers, rest, arg_numbers same found, k)

    back : (arg : ArgText) (rest : List (List ℕ)) → ArgThen texts arg rest → K arg rest → ArgTexts K texts
    back arg rest (arg_number {value = value} signed) k = inl (value, rest, signed, k)
    back arg rest (arg_set {more = more} {set = set} same found) k = inr (inl ((more, same, tt), (set, rest, found, k)))
    back arg rest (arg_numbers {more = more} {numbers = numbers} same found) k = inr (inr (more, same, (numbers, rest, found, k)))

-- whether texts begin with arguments so
pub dec_args : Decision (Finds ArgsThen)
dec_args K each texts = map_dec
    (λ some. (some.0, some.1, args_listed some.2, some.3))
    (λ some. (some.0, some.1, listed_args some.2, some.3))
    (dec_list (λ texts rest x arg. arg_shorter arg) dec_arg K each texts)

pub dec_arg_list : Decision (Finds ArgListThen)
dec_arg_list K each texts = map_dec there (λ some. back some.0 some.1 some.2 some.3)
    (dec_either (dec_after (codes ")") (K []) (each []) texts) (dec_args K each texts))
  where
    there : After (codes ")") (K []) texts ⊎ Finds ArgsThen K texts → Finds ArgListThen K texts
    there (inl (rest, same, k)) = ([], rest, no_args same, k)
    there (inr (args, rest, found, k)) = (args, rest, some_args found, k)

    back : (args : List ArgText) (rest : List (List ℕ)) → ArgListThen texts args rest → K args rest → After (codes ")") (K []) texts ⊎ Finds ArgsThen K texts
    back args rest (no_args same) k = inl (rest, same, k)
    back args rest (some_args found) k = inr (args, rest, found, k)

-- whether texts are a scope
dec_whole_scope : (texts : List (List ℕ)) → Dec ((names : List (List ℕ)) × IsWholeScope texts names)
dec_whole_scope texts = map_dec there (λ some. back some.1)
    (dec_after (codes "(") _ (dec_begins _ (λ first. dec_closes _ (λ more. dec_all IsWord dec_word (first ∷ more)))) texts)
  where
    there : After (codes "(") (Begins (λ first. Closes (λ more. All IsWord (first ∷ more)))) texts → (names : List (List ℕ)) × IsWholeScope texts names
    there (after, opens, (first, rest, parts, (more, ends, words))) = (
      first ∷ more,
      record { first = first; more = more; names_are = refl; texts_are = opens ∙ ap (λ r. codes "(" ∷ r) (parts ∙ ap (λ r. first ∷ r) ends); words = words },
    )

    back : {names : List (List ℕ)} → IsWholeScope texts names → After (codes "(") (Begins (λ first. Closes (λ more. All IsWord (first ∷ more)))) texts
    back scope = (scope.first ∷ scope_end scope.more, scope.texts_are, (scope.first, scope_end scope.more, refl, (scope.more, refl, subst (All IsWord) scope.names_are scope.words)))

-- the texts of a post, from part to part
abbrev PostTexts : List (List ℕ) → Type 0
PostTexts texts = After (codes "post") (Begins (λ spec. After (codes "(") (λ more. IsWord spec × Finds ArgListThen (λ args scope. (names : List (List ℕ)) × IsWholeScope scope names) more))) texts

-- what post texts say
pub dec_post : (texts : List (List ℕ)) → Dec ((post : Post) × SaysPost texts post)
dec_post texts = map_dec there (λ some. back some.0 some.1)
    (dec_after (codes "post") _ (dec_begins _ (λ spec. dec_after (codes "(") _ (λ more. dec_both (dec_word spec) (dec_arg_list _ (λ args. dec_whole_scope) more)))) texts)
  where
    there : PostTexts texts → (post : Post) × SaysPost texts post
    there (after, is, (spec, rest, parts, (more, opens, (word, (args, scope, found, (names, whole)))))) = (
      record { spec = spec; args = args; names = names },
      record { more = more; scope = scope; parts = is ∙ ap (λ r. codes "post" ∷ r) (parts ∙ ap (λ r. spec ∷ r) opens); word = word; args = found; names = whole },
    )

    back : (post : Post) → SaysPost texts post → PostTexts texts
    back post says = (post.spec ∷ codes "(" ∷ says.more, says.parts, (post.spec, codes "(" ∷ says.more, refl, (says.more, refl, (says.word, (post.args, says.scope, says.args, (post.names, says.names))))))
