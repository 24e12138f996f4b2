use Rattle.std.proofs.Common.{Some, sym, subst}
use Rattle.hk_arena.proofs.OpeningSteps.{opened_row_is}
use Rattle.hk_arena.proofs.RowChanges.{IsRow-with_row}
use Rattle.hk_arena.specs.Changes.{with_down, with_up}
use Rattle.hk_arena.specs.Diagrams.{IsRow}
use Rattle.hk_arena.proofs.opening.open_row.Goals as goal

pub set_up-requires-clause-row : goal.set_up-requires-clause-row
set_up-requires-clause-row g c =
    let row = c.args.row in
    subst (λ t. IsRow t row) (sym c.in_ok-set_down.ensures.ok) (IsRow-with_row row c.args.diagram.now.table (with_down c.args.down.now) c.requires.row)

pub set_from-requires-clause-row : goal.set_from-requires-clause-row
set_from-requires-clause-row g c =
    let row = c.args.row in
    let there : IsRow c.set_down.new.self.table row = subst (λ t. IsRow t row) (sym c.in_ok-set_down.ensures.ok) (IsRow-with_row row c.args.diagram.now.table (with_down c.args.down.now) c.requires.row) in
    subst (λ t. IsRow t row) (sym c.in_ok-set_up.ensures.ok) (IsRow-with_row row c.set_down.new.self.table (with_up (Some c.args.up.now)) there)

pub returns-clause-table : goal.returns-clause-table
returns-clause-table g c =
    opened_row_is c.args.row c.args.down.now c.args.up.now c.args.diagram.now.table c.set_down.new.self.table c.set_up.new.self.table c.set_from.new.self.table c.in_ok-set_down.ensures.ok c.in_ok-set_up.ensures.ok c.in_ok-set_from.ensures.ok
