use Rattle.std.proofs.Common.{◌≡◌, ◌+◌, length, true, false, refl, sym, ◌∙◌, ap, subst, arith}
use Rattle.std.proofs.lemmas.Option.{slice_get_read}
use Rattle.hk_table.proofs.Steps.{TakesIn-none, row_passed, row_taken}
use Rattle.hk_table.specs.Tables.{PlainRow}
use Rattle.hk_table.specs.declared.support.Found.{Found}
use Rattle.hk_table.specs.inside.Reaching.{EntryLeads, LayerLeads}
use Rattle.hk_table.specs.TakenIn.{TakesIn}
use Rattle.hk_table.proofs.support.layer_support.Goals as goal
use Rattle.hk_table.proofs.support.layer_support.Goals.{then-has, else-has}
use Rattle.hk_text.specs.Sets.{members}

pub loop-at-init : goal.loop-at-init
loop-at-init c =
    let values = members c.args.domain in
    subst (λ rows. TakesIn (LayerLeads values c.args.rows.now c.args.reached.now 0) 0 0 0 rows) (sym c.empty.ensures) (TakesIn-none values c.args.rows.now c.args.reached.now)

pub loop-at-preserved : goal.loop-at-preserved
loop-at-preserved c =
    let values = members c.args.domain in
    let layer = c.args.rows.now in
    let reached = c.args.reached.now in
    let at = c.loop-at.at in
    let found = c.loop-at.found in elim c.if-has.branch [
      | then-has w ↦
          let row = w.index-rows-at.result in
          let there = slice_get_read layer (length layer) at row refl c.loop-at-test.true w.index-rows-at.is in
          let entries_are = w.as_slice.ensures ∙ ap (λ (r : PlainRow). r.entries) w.row.view_is in
          let new = w.row_support.new.found in
          let takes = subst (λ es. TakesIn (EntryLeads values es) found.values found.rows new.values new.rows) entries_are w.row_support.ensures in
          subst (λ (f : Found). TakesIn (LayerLeads values layer reached (at + 1)) 0 0 f.values f.rows) (sym w.found-is)
          (row_taken values layer reached at row 0 0 found.values found.rows new.values new.rows (c.has.ensures.0 w.if-has.true) there c.loop-at.invariant takes)
      | else-has w ↦
          subst (λ (f : Found). TakesIn (LayerLeads values layer reached (at + 1)) 0 0 f.values f.rows) (sym w.found-is)
          (row_passed values layer reached at 0 0 found.values found.rows (λ has. let is : false ≡ true = sym w.if-has.false ∙ c.has.ensures.1 has in cc) c.loop-at.invariant)
    ]

pub returns : goal.returns
returns c =
    let found = c.loop-at.found in
    let all : c.loop-at.at ≡ length c.args.rows.now = omega arith in
    subst (λ n. TakesIn (LayerLeads (members c.args.domain) c.args.rows.now c.args.reached.now n) 0 0 found.values found.rows) all c.loop-at.invariant
