use Rattle.std.proofs.Common.{◌<◌, arith, subst}
use Rattle.hk_table.specs.Fits.{Fits}
use Rattle.hk_table.specs.Tables.{PlainShape}
use Rattle.hk_prop.proofs.ToldTables.{revised_tellable}
use Rattle.hk_prop.proofs.revising.revise_uncounted.Goals as goal

pub returns-clause-tellable : goal.returns-clause-tellable
returns-clause-tellable c =
    let round = c.args.round.now in
    let old = c.args.diagram.now in
    revised_tellable c.revise_counted.result c.args.group.now round.problem.domains round.domains round.best round.width old.table c.revise_counted.new.diagram.table
    c.vars-variables.ensures.rules (subst (λ n. 0 < n) c.requires.wide c.fits.ensures.some) (subst (λ (shape : PlainShape). Fits shape old.table) c.requires.shape c.fits.ensures.fits)
    (λ layer. let few = c.fits.ensures.few layer in omega (arith, few, c.fits.ensures.width)) c.revise_counted.ensures.table
