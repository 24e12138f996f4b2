use Rattle.std.proofs.Common.{[], ◌++◌, ◌∙◌, refl, sym, codes}
use Rattle.std.proofs.lemmas.List.{append-nil}
use Rattle.std.specs.Fmt.{decimal}
use Rattle.hk_search.specs.AnswerTexts.{answer_line}
use Rattle.hk_text.proofs.Appending.{Appended-none, Appended-piece, AppendsFront-piece, OnErr-always}
use Rattle.hk_search.proofs.texts.push_line.Goals as goal

pub returns-in_err-push_number-clause-front : goal.returns-in_err-push_number-clause-front
returns-in_err-push_number-clause-front c =
    let old = c.args.out.now in
    let line = answer_line c.args.name.now c.args.value in
    let number = decimal c.args.value in
    let named = Appended-piece old old c.push_all.new.self line c.args.name.now (codes " " ++ (number ++ codes "\n")) (Appended-none old line) c.in_ok-push_all.ensures.ok in
    let spaced = Appended-piece old c.push_all.new.self c.push_all-2.new.self line (codes " ") (number ++ codes "\n") named c.in_ok-push_all-2.ensures.ok in
    OnErr-always c.from_residual-in_err-push_number.result
    (AppendsFront-piece old c.push_all-2.new.self c.push_number.new.out line number (codes "\n") spaced (record {
      front = [];
      is_front = record { rest = number; parts = refl };
      appended = c.in_err-push_number.ensures.err ∙ sym (append-nil c.push_all-2.new.self);
    }))
