use Rattle.std.proofs.Common.{arith, sym, subst}
use Rattle.hk_table.specs.Items.{HasRowLine, row_line as row_has_line}
use Rattle.hk_prop.proofs.TableRows.{row_line}
use Rattle.hk_prop.proofs.telling.tell_row.Goals as goal

pub row-told-requires-clause-line : goal.row-told-requires-clause-line
row-told-requires-clause-line g c =
    let table = c.args.diagram.now.table in
    let line = row_line c.args.diagram.now.shape table c.args.row c.fits.ensures.fits (λ layer. let few = c.fits.ensures.few layer in omega (arith, few, c.fits.ensures.width)) c.requires.tellable c.requires.row in
    row_has_line (subst HasRowLine (sym c.in-Ok.ensures) line)
