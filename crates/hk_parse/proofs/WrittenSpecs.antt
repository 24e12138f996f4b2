-- The texts of good lines are those of the printed specification.
use Rattle.std.proofs.Common.{◌≡◌, ℕ, List, [], ◌∷◌, ◌++◌, map, Some, refl, sym, ap, ◌∙◌, subst, arith, append_assoc}
use Rattle.std.specs.Prelude.{codes}
use Rattle.std.proofs.lemmas.List.{map-append}
use Rattle.hk_spec.specs.Specifications.{Specification}
use Rattle.hk_parse.specs.BlockFaults.{BeginsWith, GoesOn, Ends}
use Rattle.hk_parse.specs.BlockLines.{Part}
use Rattle.hk_parse.specs.Blocks.{IsWhole}
use Rattle.hk_parse.specs.inside.Headers.{param_text}
use Rattle.hk_parse.specs.LineTexts.{Begin, End, line_texts}
use Rattle.hk_print.specs.Pieces.{piece, tokens_of}
use Rattle.hk_print.specs.Printed.{params_pieces, spec_lines}
use Rattle.hk_parse.specs.SpecTexts.{Before, Within, Whole}
use Rattle.hk_parse.proofs.AddedLines.{line_added}
use Rattle.hk_parse.proofs.GoodTexts.{text_first, text_later, text_end, AreGoodTexts, no_text, then_text}
use Rattle.hk_parse.proofs.LineTokens.{first_tokens, end_tokens}
use Rattle.hk_parse.proofs.PartsPrinted.{declared_lines, part_lines, AreInOrder}
use Rattle.hk_parse.proofs.PrintedPieces.{HasTokens}

-- the texts so far are those of the printed lines so far
pub record IsPrinted (part : Part) (texts : List (List (List ℕ))) : Type 0 where
  pub texts_are : texts ≡ map tokens_of (part_lines part)
  pub ordered : AreInOrder part

goes_printed : {part after : Part} {texts : List (List ℕ)} (done : List (List (List ℕ))) → IsPrinted part done → GoesOn part texts after → IsPrinted after (done ++ texts ∷ [])
goes_printed {part = part} {after = after} {texts = texts} done printed goes =
    let added = line_added printed.ordered goes.good.stands goes.good.adds in
    record {
      texts_are =
          ap (λ all. all ++ texts ∷ []) printed.texts_are
          ∙ ap (λ t. map tokens_of (part_lines part) ++ t ∷ []) (goes.says.texts_are ∙ sym added.tokens_are)
          ∙ sym (map-append tokens_of (part_lines part) (added.line ∷ []))
          ∙ ap (map tokens_of) (sym added.lines_are);
      ordered = added.ordered;
    }

begins_printed : {part : Part} {texts : List (List ℕ)} → BeginsWith texts part → IsPrinted part (texts ∷ [])
begins_printed {part = part} {texts = texts} begins =
    subst (λ p. IsPrinted p (texts ∷ [])) (sym begins.begins.begun)
    (record {
      texts_are = ap (λ t. t ∷ []) (begins.says.texts_are ∙ ap (λ ps. line_texts (Begin begins.name ps)) (sym begins.begins.params_are) ∙ sym tokens.are);
      ordered = record { untested = λ none. (refl, refl); down_first = λ below. refl; few = omega arith };
    })
  where
    tokens : HasTokens (piece (codes "spec") ++ (piece begins.name ++ params_pieces begins.begins.declared)) (line_texts (Begin begins.name (map param_text begins.begins.declared)))
    tokens = first_tokens begins.name begins.begins.declared

ends_printed : {part : Part} {texts : List (List ℕ)} {s : Specification} (done : List (List (List ℕ))) → IsPrinted part done → Ends part texts → IsWhole part s → done ++ texts ∷ [] ≡ map tokens_of (spec_lines s)
ends_printed {part = part} {texts = texts} {s = s} done printed ends whole =
    ap (λ all. all ++ texts ∷ []) (printed.texts_are ∙ ap (λ p. map tokens_of (part_lines p)) whole)
    ∙ ap (λ t. map tokens_of (part_lines all) ++ t ∷ []) (ends.says.texts_are ∙ sym tokens.are)
    ∙ sym (map-append tokens_of (part_lines all) (piece (codes "end") ∷ []))
    ∙ ap (map tokens_of) (append_assoc (declared_lines s.name s.params s.down s.up) _ (piece (codes "end") ∷ []))
  where
    all : Part
    all = record { name = s.name; params = s.params; down = s.down; up = s.up; test = Some s.test; down_step = s.down_step; up_step = s.up_step }

    tokens : HasTokens (piece (codes "end")) (line_texts End)
    tokens = end_tokens

rest_printed : {part : Part} {texts : List (List (List ℕ))} {s : Specification} (done : List (List (List ℕ))) → IsPrinted part done → AreGoodTexts (Within part) texts (Whole s) → done ++ texts ≡ map tokens_of (spec_lines s)
rest_printed done printed (then_text {texts = texts} {more = more} (text_later goes) goods) =
    sym (append_assoc done (texts ∷ []) more) ∙ rest_printed (done ++ texts ∷ []) (goes_printed done printed goes) goods
rest_printed done printed (then_text (text_end ends whole) no_text) = ends_printed done printed ends whole
rest_printed done printed (then_text (text_end ends whole) (then_text never goods)) = elim never [ ]

-- good texts up to the end are those of the printed specification
pub good_texts_printed : {texts : List (List (List ℕ))} {s : Specification} → AreGoodTexts Before texts (Whole s) → texts ≡ map tokens_of (spec_lines s)
good_texts_printed (then_text {texts = texts} (text_first begins) goods) = rest_printed (texts ∷ []) (begins_printed begins) goods
