use Rattle.std.proofs.Common.{◌∷◌, [], refl, ap, sym, ◌∙◌, subst}
use Rattle.std.proofs.lemmas.List.{map-append}
use Rattle.hk_text.specs.Texts.{texts_of}
use Rattle.hk_text.proofs.TokenTexts.{texts_over, texts_go_on}
use Rattle.hk_lines.specs.Plain.{rows_of, plain_row}
use Rattle.hk_lines.specs.Shapes.{capped_row}
use Rattle.hk_lines.proofs.CountReading.{RowsThen, rows_more, rows_smaller, rows_last, rows_none, rows_stop}
use Rattle.hk_lines.proofs.Lists.{ReadsOn, on_start}
use Rattle.hk_lines.proofs.counts.rows_of.Goals as goal

pub rows-init : goal.rows-init
rows-init c = record {
  tokens = c.requires;
  reads = subst (λ rows. ReadsOn RowsThen capped_row (texts_of c.args.line.now c.args.tokens.now) (rows_of rows) (texts_of c.args.line.now c.args.tokens.now)) (sym c.new-rows.ensures) (on_start RowsThen capped_row (texts_of c.args.line.now c.args.tokens.now));
}

pub row_of-requires : goal.row_of-requires
row_of-requires c = c.rows.invariant.tokens

pub returns-in_default-clause-none : goal.returns-in_default-clause-none
returns-in_default-clause-none c = λ none. rows_none c.rows.invariant.reads (c.in_default.ensures.none refl)

pub rows-smaller : goal.rows-smaller
rows-smaller c = rows_smaller c.in-Some.ensures.some c.in-Some-after_text.ensures.some

pub rows-preserved : goal.rows-preserved
rows-preserved c = record {
  tokens = c.in-Some-after_text.ensures.tokens;
  reads = rows_more c.rows.invariant.reads c.in-Some.ensures.some (ap rows_of c.in_ok-push.ensures.ok ∙ map-append plain_row c.rows.rows (c.in-Some.row ∷ [])) c.in-Some-after_text.ensures.some;
}

pub returns-then-is_empty-clause-some : goal.returns-then-is_empty-clause-some
returns-then-is_empty-clause-some c =
    rows_last c.rows.invariant.reads c.in-Some.ensures.some (ap rows_of c.in_ok-push.ensures.ok ∙ map-append plain_row c.rows.rows (c.in-Some.row ∷ [])) (texts_over c.args.line.now c.in-Some.after.now (sym c.if-is_empty.ensures))

pub returns-in_default-after_text-clause-none : goal.returns-in_default-after_text-clause-none
returns-in_default-after_text-clause-none c =
    λ _. rows_stop c.rows.invariant.reads c.in-Some.ensures.some (texts_go_on c.args.line.now c.in-Some.after.now (sym c.if-is_empty.ensures)) (c.in_default-after_text.ensures.none refl)
