use Rattle.std.proofs.Common.{◌≡◌, ◌+◌, length, true, false, sym, ◌∙◌, subst, arith}
use Rattle.hk_table.proofs.Steps.{row_passed, row_taken}
use Rattle.hk_table.specs.declared.support.Found.{Found}
use Rattle.hk_table.specs.inside.Reaching.{LayerLeads}
use Rattle.hk_table.specs.TakenIn.{TakesIn}
use Rattle.hk_arena.proofs.SupportSteps.{row_there, rows_few}
use Rattle.hk_arena.specs.Diagrams.{IsRow, row_in, rows_of, values_of}
use Rattle.hk_arena.specs.declared.ids.RowId.{RowId}
use Rattle.hk_arena.specs.Cells.{table_of}
use Rattle.hk_arena.proofs.support.layer_support.Goals as goal
use Rattle.hk_arena.proofs.support.layer_support.Goals.{then-has, else-has}

pub has-requires : goal.has-requires
has-requires c = omega (arith, rows_few c.args.layout.now c.args.store.now.content c.args.layer c.requires.kept c.know.ensures, c.read_rows-at-end.ensures)

pub loop-at-preserved : goal.loop-at-preserved
loop-at-preserved c =
    let table = table_of c.args.layout.now c.args.store.now.content in
    let values = values_of c.args.layout.now.shape c.args.layer in
    let layer = rows_of table c.args.layer in
    let reached = c.args.reached.now in
    let at = c.loop-at.at in
    let row : RowId = record { layer = c.args.layer; at = at } in
    let there : IsRow table row = omega (arith, c.read_rows-at-end.ensures) in
    let found = c.loop-at.found in elim c.if-has.branch [
      | then-has w ↦
          let new = w.row_support.new.found in
          subst (λ (f : Found). TakesIn (LayerLeads values layer reached (at + 1)) 0 0 f.values f.rows) (sym w.found-is)
          (row_taken values layer reached at (row_in table row) 0 0 found.values found.rows new.values new.rows (c.has.ensures.0 w.if-has.true) (row_there table row there) c.loop-at.invariant w.row_support.ensures)
      | else-has w ↦
          subst (λ (f : Found). TakesIn (LayerLeads values layer reached (at + 1)) 0 0 f.values f.rows) (sym w.found-is)
          (row_passed values layer reached at 0 0 found.values found.rows (λ has. let is : false ≡ true = sym w.if-has.false ∙ c.has.ensures.1 has in cc) c.loop-at.invariant)
    ]

pub returns : goal.returns
returns c =
    let table = table_of c.args.layout.now c.args.store.now.content in
    let layer = rows_of table c.args.layer in
    let found = c.loop-at.found in
    let all : c.loop-at.at ≡ length layer = omega (arith, c.read_rows-at-end.ensures) in
    subst (λ n. TakesIn (LayerLeads (values_of c.args.layout.now.shape c.args.layer) layer c.args.reached.now n) 0 0 found.values found.rows) all c.loop-at.invariant
