use Rattle.hk_prop.proofs.Revisions.{only_tables, tellable_after, tight_after, works_after}
use Rattle.hk_prop.proofs.passing.make_tight.Goals as goal

pub returns-clause-works : goal.returns-clause-works
returns-clause-works g c = works_after c.args.round.now c.args.work.now c.revise_all.new.work c.revise_all.ensures.long c.requires.works c.revise_all.ensures.revised

pub returns-clause-tables : goal.returns-clause-tables
returns-clause-tables g c = tight_after c.args.round.now c.args.work.now c.revise_all.new.work c.none_refused.result c.requires.works.one_each c.revise_all.ensures.long c.revise_all.ensures.revised c.none_refused.ensures

pub returns-clause-tables_only : goal.returns-clause-tables_only
returns-clause-tables_only g c = only_tables c.args.round.now c.args.work.now c.revise_all.new.work c.revise_all.ensures.revised

pub returns-clause-tellable : goal.returns-clause-tellable
returns-clause-tellable g c = tellable_after c.args.round.now c.args.work.now c.revise_all.new.work c.none_refused.result c.revise_all.ensures.long c.revise_all.ensures.revised c.none_refused.ensures
