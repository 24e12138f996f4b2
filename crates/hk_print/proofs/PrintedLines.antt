-- The lines of a printed specification: each has the tokens of its pieces.
use Rattle.std.proofs.Common.{◌≡◌, ℕ, ◌==◌, Bool, true, not, List, [], ◌∷◌, ◌++◌, codes, map, refl, sym, ap, ◌∙◌, subst, append_assoc, IsTrue}
use Rattle.std.specs.List.{concat, list_all}
use Rattle.std.proofs.lemmas.Bool.{and_parts, and_from}
use Rattle.std.proofs.lemmas.List.{append-nil}
use Rattle.std.proofs.lemmas.List.Folds.{list_all-append}
use Rattle.hk_kinds.specs.declared.kinds.Kind.{Kind}
use Rattle.hk_kinds.specs.declared.kinds.Kind.TheVariants.{Min, Max, Interval, SomeBits, AllBits}
use Rattle.hk_kinds.specs.declared.properties.Prop.{Prop}
use Rattle.hk_kinds.specs.declared.properties.Prop.TheVariants as property
use Rattle.hk_spec.specs.Names.{is_free_name}
use Rattle.hk_spec.specs.Scopes.{Scope, kinds_of}
use Rattle.hk_spec.specs.Specifications.{Specification, IsSpecification, test_scope, down_scope, up_scope, kinds_of_properties, are_steps}
use Rattle.hk_spec.specs.declared.expressions.Side.{Side}
use Rattle.hk_spec.specs.declared.expressions.Side.TheVariants.{Down, Up}
use Rattle.hk_spec.specs.declared.parts.Param.{Param}
use Rattle.hk_spec.specs.declared.parts.ParamKind.{ParamKind}
use Rattle.hk_spec.specs.declared.parts.ParamKind.TheVariants as parameter
use Rattle.hk_spec.specs.declared.parts.PropDecl.{PropDecl}
use Rattle.hk_spec.specs.declared.parts.StepExpr.{StepExpr}
use Rattle.hk_text.specs.Bytes.{is_blank}
use Rattle.hk_text.specs.Lexemes.{IsWord}
use Rattle.hk_text.specs.Lines.{lines}
use Rattle.hk_text.specs.Tokens.{HasTexts}
use Rattle.hk_text.specs.declared.lexemes.TokenKind.TheVariants.{Symbol}
use Rattle.hk_text.proofs.Spelling.{Stops, Spells, spells_none, spells_alone, spells_beside, spells_texts, lexeme_stays, lines_next}
use Rattle.hk_print.specs.Expressions.{Naming, naming_of, names_of_side}
use Rattle.hk_print.specs.Pieces.{piece, tokens_of, spaced, line_text}
use Rattle.hk_print.specs.Printed.{param_word, param_pieces, comma_params, params_pieces, kind_word, init_pieces, property_line, step_lines, declaration_lines, rule_lines, spec_lines, lines_text, spec_text}
use Rattle.hk_print.proofs.PrintedTokens.{Each, each_append, each_map, each_flat, IsPiece, is_token, are_beside, ArePieces, word_piece, signed_are, literal_are, name_word, HasWords, has_words, has_no_words, free_names_words}
use Rattle.hk_print.proofs.PrintedExpressions.{AreNamed, good_cond_are, step_are}

-- a piece after blanks is its tokens
piece_spells : {tokens texts : List (List ℕ)} (gap rest : List ℕ) → IsPiece tokens → IsTrue (list_all is_blank gap) → Stops rest → Spells rest texts → Spells (gap ++ (concat tokens ++ rest)) (tokens ++ texts)
piece_spells {texts = texts} gap rest (is_token {text = text} kind lexeme) blank stops more =
    subst (λ bytes. Spells (gap ++ (bytes ++ rest)) (text ∷ texts)) (sym (append-nil text)) (spells_alone kind gap text rest blank lexeme stops more)
piece_spells gap rest (are_beside first second is also apart) blank stops more = spells_beside first second gap rest blank is also apart stops more

spaced_stops : (pieces : List (List (List ℕ))) → Stops (spaced pieces)
spaced_stops [] = tt
spaced_stops (tokens ∷ pieces) = refl

spaced_spells : (pieces : List (List (List ℕ))) → ArePieces pieces → Spells (spaced pieces) (tokens_of pieces)
spaced_spells [] are = spells_none
spaced_spells (tokens ∷ pieces) (is, are) = piece_spells (codes " ") (spaced pieces) is refl (spaced_stops pieces) (spaced_spells pieces are)

-- a line of pieces without its line end
abbrev pub line_bytes : List (List (List ℕ)) → List ℕ
line_bytes [] = []
line_bytes (tokens ∷ pieces) = concat tokens ++ spaced pieces

-- a printed line has the tokens of its pieces
pub printed_line : (pieces : List (List (List ℕ))) → ArePieces pieces → HasTexts (line_bytes pieces) (tokens_of pieces)
printed_line [] are = spells_texts spells_none
printed_line (tokens ∷ pieces) (is, are) = spells_texts (piece_spells [] (spaced pieces) is refl (spaced_stops pieces) (spaced_spells pieces are))

-- the byte ends no line
abbrev stays : ℕ → Bool
stays byte = not (byte == 10)

both_stay : (xs ys : List ℕ) → list_all stays xs ≡ true → list_all stays ys ≡ true → list_all stays (xs ++ ys) ≡ true
both_stay xs ys left right = list_all-append stays xs ys ∙ and_from (list_all stays xs) (list_all stays ys) left right

piece_stays : {tokens : List (List ℕ)} → IsPiece tokens → list_all stays (concat tokens) ≡ true
piece_stays (is_token {text = text} kind lexeme) = both_stay text [] (lexeme_stays kind text lexeme) refl
piece_stays (are_beside first second is also apart) = both_stay (first ∷ []) (second ∷ []) (lexeme_stays Symbol (first ∷ []) is) (lexeme_stays Symbol (second ∷ []) also)

spaced_stays : (pieces : List (List (List ℕ))) → ArePieces pieces → list_all stays (spaced pieces) ≡ true
spaced_stays [] are = refl
spaced_stays (tokens ∷ pieces) (is, are) = both_stay (codes " " ++ concat tokens) (spaced pieces) (piece_stays is) (spaced_stays pieces are)

line_stays : (pieces : List (List (List ℕ))) → ArePieces pieces → list_all stays (line_bytes pieces) ≡ true
line_stays [] are = refl
line_stays (tokens ∷ pieces) (is, are) = both_stay (concat tokens) (spaced pieces) (piece_stays is) (spaced_stays pieces are)

line_ends : (pieces : List (List (List ℕ))) → line_text pieces ≡ line_bytes pieces ++ codes "\n"
line_ends [] = refl
line_ends (tokens ∷ pieces) = sym (append_assoc (concat tokens) (spaced pieces) (codes "\n"))

-- the lines of printed lines are these, each without its line end
pub lines_are : (all : List (List (List (List ℕ)))) → Each ArePieces all → lines (lines_text all) ≡ map line_bytes all
lines_are [] are = refl
lines_are (pieces ∷ all) (is, are) =
    let bytes = line_bytes pieces in
    ap (λ xs. lines (xs ++ lines_text all)) (line_ends pieces)
    ∙ ap lines (append_assoc bytes (codes "\n") (lines_text all))
    ∙ lines_next bytes (lines_text all) (line_stays pieces is)
    ∙ ap (λ ls. bytes ∷ ls) (lines_are all are)

-- the lines have these texts, one by one
pub data PrintedAs : List (List ℕ) → List (List (List ℕ)) → Type 0 where
  printed_none : PrintedAs [] []
  printed_next : {line : List ℕ} {texts : List (List ℕ)} {more : List (List ℕ)} {all : List (List (List ℕ))}
      → HasTexts line texts → PrintedAs more all → PrintedAs (line ∷ more) (texts ∷ all)

each_printed : (all : List (List (List (List ℕ)))) → Each ArePieces all → PrintedAs (map line_bytes all) (map tokens_of all)
each_printed [] are = printed_none
each_printed (pieces ∷ all) (is, are) = printed_next (printed_line pieces is) (each_printed all are)

-- lines of pieces are printed as lines that have their tokens
pub printed_lines : (all : List (List (List (List ℕ)))) → Each ArePieces all → PrintedAs (lines (lines_text all)) (map tokens_of all)
printed_lines all are = subst (λ ls. PrintedAs ls (map tokens_of all)) (sym (lines_are all are)) (each_printed all are)

-- what has a word for its name
abbrev IsNamedParam : Param → Type 0
IsNamedParam param = IsWord param.name

abbrev IsNamedProperty : PropDecl → Type 0
IsNamedProperty p = IsWord p.name

param_word_piece : (kind : ParamKind) → IsPiece (param_word kind ∷ [])
param_word_piece parameter.Num = word_piece (refl, refl)
param_word_piece parameter.Set = word_piece (refl, refl)
param_word_piece parameter.List = word_piece (refl, refl)

comma_param_are : (param : Param) → IsNamedParam param → ArePieces (piece (codes ",") ++ param_pieces param)
comma_param_are param word = (is_token Symbol refl, (param_word_piece param.kind, (word_piece word, tt)))

params_are : (params : List Param) → Each IsNamedParam params → ArePieces (params_pieces params)
params_are [] words = (are_beside 40 41 refl refl refl, tt)
params_are (param ∷ params) (word, words) = (
  is_token Symbol refl,
  (
    param_word_piece param.kind,
    (
      word_piece word,
      each_append IsPiece (comma_params params) (piece (codes ")"))
          (each_flat IsNamedParam IsPiece (λ param. piece (codes ",") ++ param_pieces param) comma_param_are params words) (is_token Symbol refl, tt),
    ),
  ),
)

kind_word_piece : (kind : Kind) → IsPiece (kind_word kind ∷ [])
kind_word_piece Min = word_piece (refl, refl)
kind_word_piece Max = word_piece (refl, refl)
kind_word_piece Interval = word_piece (refl, refl)
kind_word_piece SomeBits = word_piece (refl, refl)
kind_word_piece AllBits = word_piece (refl, refl)

init_are : (p : Prop) → ArePieces (init_pieces p)
init_are (property.Num n) = signed_are n
init_are (property.Pair low high) = each_append IsPiece _ _ (signed_are low) (is_token Symbol refl, signed_are high)
init_are (property.Bits set) = literal_are set

property_are : (side : List ℕ) → IsWord side → (p : PropDecl) → IsNamedProperty p → ArePieces (property_line side p)
property_are side is p word = (word_piece is, (word_piece word, (kind_word_piece p.kind, init_are p.init)))

steps_are : (scope : Scope) (naming : Naming) → AreNamed scope naming → (properties : List PropDecl) (steps : List StepExpr) → Each IsNamedProperty properties → are_steps scope (kinds_of_properties properties) steps ≡ true → Each ArePieces (step_lines naming properties steps)
steps_are scope naming named [] steps words good = tt
steps_are scope naming named (p ∷ properties) [] words good = tt
steps_are scope naming named (p ∷ properties) (e ∷ steps) (word, words) good =
    let both = and_parts _ _ good in
    ((word_piece (refl, refl), (word_piece word, step_are scope naming named p.kind e both.0)), steps_are scope naming named properties steps words both.1)

module _ (s : Specification) (is : IsSpecification s) where
  free_params : list_all is_free_name (map (λ (p : Param). p.name) s.params) ≡ true
  free_params = (and_parts _ _ (sym (list_all-append is_free_name (map (λ (p : Param). p.name) s.params) _) ∙ is.free_names)).0

  free_properties : list_all is_free_name (map (λ (p : PropDecl). p.name) s.down ++ map (λ (p : PropDecl). p.name) s.up) ≡ true
  free_properties = (and_parts _ _ (sym (list_all-append is_free_name (map (λ (p : Param). p.name) s.params) _) ∙ is.free_names)).1

  params_named : Each IsNamedParam s.params
  params_named = free_names_words (λ (p : Param). p.name) s.params free_params

  down_named : Each IsNamedProperty s.down
  down_named = free_names_words (λ (p : PropDecl). p.name) s.down (and_parts _ _ (sym (list_all-append is_free_name (map (λ (p : PropDecl). p.name) s.down) _) ∙ free_properties)).0

  up_named : Each IsNamedProperty s.up
  up_named = free_names_words (λ (p : PropDecl). p.name) s.up (and_parts _ _ (sym (list_all-append is_free_name (map (λ (p : PropDecl). p.name) s.down) _) ∙ free_properties)).1

  test_named : AreNamed (test_scope s) (naming_of s)
  test_named = record {
    params = has_words (λ (p : Param). p.kind) (λ (p : Param). p.name) s.params params_named;
    properties = both;
  }
    where
      both : (side : Side) → HasWords (kinds_of (test_scope s) side) (names_of_side (naming_of s) side)
      both Down = has_words (λ (p : PropDecl). p.kind) (λ (p : PropDecl). p.name) s.down down_named
      both Up = has_words (λ (p : PropDecl). p.kind) (λ (p : PropDecl). p.name) s.up up_named

  down_scope_named : AreNamed (down_scope s) (naming_of s)
  down_scope_named = record { params = test_named.params; properties = both }
    where
      both : (side : Side) → HasWords (kinds_of (down_scope s) side) (names_of_side (naming_of s) side)
      both Down = test_named.properties Down
      both Up = has_no_words _

  up_scope_named : AreNamed (up_scope s) (naming_of s)
  up_scope_named = record { params = test_named.params; properties = both }
    where
      both : (side : Side) → HasWords (kinds_of (up_scope s) side) (names_of_side (naming_of s) side)
      both Down = has_no_words _
      both Up = test_named.properties Up

  declarations_are : Each ArePieces (declaration_lines s)
  declarations_are = (
    (word_piece (refl, refl), (word_piece (name_word s.name is.named), params_are s.params params_named)),
    each_append ArePieces (map (property_line (codes "down")) s.down) (map (property_line (codes "up")) s.up)
        (each_map IsNamedProperty ArePieces (property_line (codes "down")) (property_are (codes "down") (refl, refl)) s.down down_named)
        (each_map IsNamedProperty ArePieces (property_line (codes "up")) (property_are (codes "up") (refl, refl)) s.up up_named),
  )

  rules_are : Each ArePieces (rule_lines s)
  rules_are = (
    (word_piece (refl, refl), good_cond_are (test_scope s) (naming_of s) test_named s.test is.good_test),
    each_append ArePieces (step_lines (naming_of s) s.down s.down_step) (step_lines (naming_of s) s.up s.up_step)
        (steps_are (down_scope s) (naming_of s) down_scope_named s.down s.down_step down_named is.good_down_steps)
        (steps_are (up_scope s) (naming_of s) up_scope_named s.up s.up_step up_named is.good_up_steps),
  )

  -- the lines of a specification are tokens
  pub spec_lines_are : Each ArePieces (spec_lines s)
  spec_lines_are =
      each_append ArePieces (declaration_lines s) (rule_lines s ++ piece (codes "end") ∷ []) declarations_are
      (each_append ArePieces (rule_lines s) (piece (codes "end") ∷ []) rules_are ((word_piece (refl, refl), tt), tt))

  -- the printed text of a specification has, line by line, the tokens of its pieces
  pub printed_texts : PrintedAs (lines (spec_text s)) (map tokens_of (spec_lines s))
  printed_texts = printed_lines (spec_lines s) spec_lines_are
