use Rattle.std.proofs.Common.{true≢false, sym, ◌∙◌}
use Rattle.hk_draft.proofs.CountTests.{rows_some, rows_small, small_rows}
use Rattle.hk_draft.proofs.counting.rows_fit.Goals as goal

pub returns-clause-fits : goal.returns-clause-fits
returns-clause-fits c = λ passes. record {
  some = rows_some c.args.rows.now (sym c.is_empty.ensures ∙ c.if-is_empty.false);
  room = (c.has_room.ensures.0 c.if-not-has_room.false).0;
  group = (c.has_room.ensures.0 c.if-not-has_room.false).1;
  small = rows_small c.args.rows.now (c.are_small_rows.ensures.0 passes);
}

pub returns-clause-large : goal.returns-clause-large
returns-clause-large c = λ large fits. true≢false (sym (c.are_small_rows.ensures.1 (small_rows c.args.rows.now fits.small)) ∙ large)
