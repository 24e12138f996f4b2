-- The parameters of a first line, read one by one.
use Rattle.std.proofs.Common.{◌≡◌, ℕ, All, List, [], ◌∷◌, ◌++◌, refl, sym, ap, ◌∙◌, subst}
use Rattle.std.specs.Prelude.{codes}
use Rattle.std.proofs.lemmas.List.{append_assoc}
use Rattle.std.proofs.lemmas.List.Elements.{All-nil, All-head, All-tail, All-push}
use Rattle.hk_spec.specs.declared.parts.ParamKind.{ParamKind}
use Rattle.hk_spec.specs.declared.parts.ParamKind.TheVariants as kind
use Rattle.hk_text.specs.Lexemes.{IsWord}
use Rattle.hk_parse.specs.inside.Headers.{AreParams, ParamThen}
use Rattle.hk_parse.specs.LineTexts.{ParamText, param_texts}
use Rattle.hk_print.specs.Printed.{param_word}
use Rattle.hk_text.proofs.TokenTexts.{apart, same_rest}

-- the words of the kinds of parameters are words
pub param_word_word : (kind : ParamKind) → IsWord (param_word kind)
param_word_word kind.Num = (refl, refl)
param_word_word kind.Set = (refl, refl)
param_word_word kind.List = (refl, refl)

abbrev pub HasWord : ParamText → Type 0
HasWord p = IsWord p.name

-- the texts of parameters and of the closing parenthesis
abbrev pub closed_texts : List ParamText → List (List ℕ)
closed_texts params = param_texts params ++ codes ")" ∷ []

-- no first word, no parameter
pub no_param_word : {texts rest : List (List ℕ)} {param : ParamText} → ((word : List ℕ) (more : List (List ℕ)) → texts ≡ word ∷ more → IsWord word → ⊥) → ParamThen texts param rest → ⊥
no_param_word {param = param} none begins = none _ _ begins.parts (param_word_word param.kind)

-- what was read so far and what is left: where further parameters and the parenthesis are left, the whole are parameters and the parenthesis, and the other way round
pub record ParamsSoFar (whole : List (List ℕ)) (done : List ParamText) (left : List (List ℕ)) : Type 0 where
  pub onward : (p : ParamText) (more : List ParamText) → left ≡ closed_texts (p ∷ more) → whole ≡ closed_texts (done ++ p ∷ more)
  pub words : All HasWord done
  pub back : (params : List ParamText) → AreParams whole params → (p : ParamText) × (more : List ParamText) × AreParams left (p ∷ more)

-- before the first parameter
pub params_start : {whole : List (List ℕ)} → (whole ≡ codes ")" ∷ [] → ⊥) → ParamsSoFar whole [] whole
params_start {whole = whole} open_yet = record {
  onward = λ p more is. is;
  words = All-nil HasWord;
  back = back;
}
  where
    back : (params : List ParamText) → AreParams whole params → (p : ParamText) × (more : List ParamText) × AreParams whole (p ∷ more)
    back [] are = absurd (open_yet are.texts_are)
    back (p ∷ more) are = (p, more, are)

-- the first parameter of those that are left
pub params_begin : {left : List (List ℕ)} {p : ParamText} {more : List ParamText} → AreParams left (p ∷ more) → (rest : List (List ℕ)) × ParamThen left p rest
params_begin {p = p} {more = []} are = (_, record { parts = are.texts_are; is_word = All-head HasWord p [] are.words })
params_begin {p = p} {more = next ∷ more} are = (_, record { parts = are.texts_are; is_word = All-head HasWord p (next ∷ more) are.words })

-- after a parameter come the closing parenthesis alone, or a comma and further parameters
after_param : {left after : List (List ℕ)} {p q : ParamText} (more : List ParamText) → AreParams left (p ∷ more) → ParamThen left q after
    → (P : Type 0) → (after ≡ codes ")" ∷ [] → P) → ((next : ParamText) (further : List ParamText) → after ≡ codes "," ∷ closed_texts (next ∷ further) → All HasWord (next ∷ further) → P) → P
after_param [] are begins P last comma = last (same_rest refl (same_rest begins.parts are.texts_are))
after_param {p = p} (next ∷ further) are begins P last comma = comma next further (same_rest refl (same_rest begins.parts are.texts_are)) (All-tail HasWord p (next ∷ further) are.words)

-- one parameter more, and a comma
pub params_more : {whole left after next : List (List ℕ)} {done longer : List ParamText} {q : ParamText}
    → ParamsSoFar whole done left → ParamThen left q after → longer ≡ done ++ q ∷ [] → after ≡ codes "," ∷ next → ParamsSoFar whole longer next
params_more {whole} {left} {after} {next} {done} {longer} {q} so_far begins pushed comma = record {
  onward = λ p more is. so_far.onward q (p ∷ more) (begins.parts ∙ ap (λ ts. param_word q.kind ∷ q.name ∷ ts) (comma ∙ ap (λ ts. codes "," ∷ ts) is)) ∙ ap closed_texts (sym (append_assoc done (q ∷ []) (p ∷ more)) ∙ ap (λ ps. ps ++ p ∷ more) (sym pushed));
  words = subst (All HasWord) (sym pushed) (All-push HasWord done q so_far.words begins.is_word);
  back = λ params are. let (p, more, left_are) = so_far.back params are in
      after_param more left_are begins ((p : ParamText) × (more : List ParamText) × AreParams next (p ∷ more))
      (λ last. absurd (apart 0 comma last refl))
      (λ first further is words. (first, further, record { texts_are = same_rest comma is; words = words }));
}

-- one parameter more, and the closing parenthesis
pub params_last : {whole left after : List (List ℕ)} {done longer : List ParamText} {q : ParamText}
    → ParamsSoFar whole done left → ParamThen left q after → longer ≡ done ++ q ∷ [] → after ≡ codes ")" ∷ [] → AreParams whole longer
params_last {whole} {left} {after} {done} {longer} {q} so_far begins pushed last = record {
  texts_are = so_far.onward q [] (begins.parts ∙ ap (λ ts. param_word q.kind ∷ q.name ∷ ts) last) ∙ ap closed_texts (sym pushed);
  words = subst (All HasWord) (sym pushed) (All-push HasWord done q so_far.words begins.is_word);
}

-- where no parameter follows, the whole are no parameters
pub params_none : {whole left : List (List ℕ)} {done : List ParamText} → ParamsSoFar whole done left → ((param : ParamText) (rest : List (List ℕ)) → ParamThen left param rest → ⊥)
    → (params : List ParamText) → AreParams whole params → ⊥
params_none so_far none params are =
    let (p, more, left_are) = so_far.back params are in
    let (rest, begins) = params_begin left_are in
    none p rest begins
