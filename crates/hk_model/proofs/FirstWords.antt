-- First lines of specifications are told from statements and posts by their first words.
use Rattle.std.proofs.Common.{◌≡◌, ℕ, Bool, true, false, List, [], ◌∷◌, get_or, refl, sym, ap, ◌∙◌, true≢false}
use Rattle.std.specs.Prelude.{codes}
use Rattle.std.specs.Set.{is_member}
use Rattle.std.specs.Str.{bytes_eq}
use Rattle.hk_parse.specs.LineTexts.{ParamText, Begin, SaysLine}
use Rattle.hk_lines.specs.Posts.{Post, SaysPost}
use Rattle.hk_lines.specs.Statements.{Statement, Says, says_header, says_variable, says_distinct, says_among, says_sequence, says_gcc, says_total, says_objective, says_new_group}
use Rattle.hk_text.proofs.TokenTexts.{apart, apart_none}

-- the words that begin statements
abbrev pub statement_words : List (List ℕ)
statement_words = codes "hkm" ∷ codes "var" ∷ codes "alldifferent" ∷ codes "among" ∷ codes "sequence" ∷ codes "gcc" ∷ codes "sum" ∷ codes "minimize" ∷ codes "group" ∷ []

-- whether the first of these texts is one
abbrev begins_statement : List (List ℕ) → Bool
begins_statement texts = is_member bytes_eq statement_words (get_or texts 0 [])

-- texts that say a statement begin with one of them
says_begins : {texts : List (List ℕ)} {s : Statement} → Says texts s → begins_statement texts ≡ true
says_begins (says_header x) = ap begins_statement x
says_begins (says_variable x word set) = ap begins_statement x
says_begins (says_distinct x words) = ap begins_statement x
says_begins (says_among x counting) = ap begins_statement x
says_begins (says_sequence x number counting) = ap begins_statement x
says_begins (says_gcc x scope rows) = ap begins_statement x
says_begins (says_total x terms bounds) = ap begins_statement x
says_begins (says_objective x terms) = ap begins_statement x
says_begins (says_new_group x) = ap begins_statement x

-- texts that begin with another word say no statement
pub statement_apart : {texts rest : List (List ℕ)} {word : List ℕ} {s : Statement} → Says texts s → texts ≡ word ∷ rest → is_member bytes_eq statement_words word ≡ false → ⊥
statement_apart says is other = true≢false (sym (says_begins says) ∙ ap begins_statement is ∙ other)

-- texts that say a statement are no first line of a specification
pub statement_no_opening : {texts : List (List ℕ)} {s : Statement} {name : List ℕ} {params : List ParamText} → Says texts s → SaysLine texts (Begin name params) → ⊥
statement_no_opening says line = statement_apart says line.texts_are refl

-- texts that say a post are no first line of a specification
pub post_no_opening : {texts : List (List ℕ)} {p : Post} {name : List ℕ} {params : List ParamText} → SaysPost texts p → SaysLine texts (Begin name params) → ⊥
post_no_opening post line = apart 0 post.parts line.texts_are refl

pub nothing_no_opening : {name : List ℕ} {params : List ParamText} → SaysLine [] (Begin name params) → ⊥
nothing_no_opening line = apart_none refl line.texts_are
