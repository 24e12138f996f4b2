use Rattle.std.proofs.Common.{ℕ, ℤ, List, ◌++◌, ◌∷◌, [], map, take, sym, ap, ◌∙◌}
use Rattle.hk_lines.specs.Plain.{rows_of}
use Rattle.hk_draft.specs.Declares.{made_row}
use Rattle.hk_draft.proofs.CountTests.{any_row, small_at, made_more}
use Rattle.hk_draft.proofs.counting.made_rows.Goals as goal

pub made_row-requires : goal.made_row-requires
made_row-requires c = small_at c.args.rows.now c.loop-row.row-index any_row c.loop-row-test.true c.requires

pub loop-row-preserved : goal.loop-row-preserved
loop-row-preserved c =
    c.in_ok-push.ensures.ok
    ∙ ap (λ (made : List (ℕ × ℤ × ℤ)). made ++ c.made_row.result ∷ []) c.loop-row.invariant
    ∙ ap (λ (row : ℕ × ℤ × ℤ). map made_row (rows_of (take c.loop-row.row-index c.args.rows.now)) ++ row ∷ []) c.made_row.ensures
    ∙ sym (made_more c.args.rows.now c.loop-row.row-index any_row c.loop-row-test.true)
