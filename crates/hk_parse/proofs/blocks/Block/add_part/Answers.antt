use Rattle.std.proofs.Common.{OnOk, IfErr, refl, subst, sym}
use Rattle.hk_parse.specs.BlockFaults.{GoesOn, IsLineFault}
use Rattle.hk_parse.proofs.LineWords.{no_line}
use Rattle.hk_parse.proofs.blocks.Block.add_part.Goals as goal

pub returns-in-Some-clause-ok : goal.returns-in-Some-clause-ok
returns-in-Some-clause-ok c = subst (λ texts. OnOk c.add_property.result (GoesOn c.args.self.now texts c.add_property.new.self)) (sym c.in-Some.ensures.some) c.add_property.ensures.ok

pub returns-in-Some-clause-err : goal.returns-in-Some-clause-err
returns-in-Some-clause-err c = subst (λ texts. IfErr c.add_property.result (IsLineFault c.args.self.now texts)) (sym c.in-Some.ensures.some) c.add_property.ensures.err

pub returns-in-Some-after_text-clause-ok : goal.returns-in-Some-after_text-clause-ok
returns-in-Some-after_text-clause-ok c = subst (λ texts. OnOk c.add_property-in-Some-after_text.result (GoesOn c.args.self.now texts c.add_property-in-Some-after_text.new.self)) (sym c.in-Some-after_text.ensures.some) c.add_property-in-Some-after_text.ensures.ok

pub returns-in-Some-after_text-clause-err : goal.returns-in-Some-after_text-clause-err
returns-in-Some-after_text-clause-err c = subst (λ texts. IfErr c.add_property-in-Some-after_text.result (IsLineFault c.args.self.now texts)) (sym c.in-Some-after_text.ensures.some) c.add_property-in-Some-after_text.ensures.err

pub returns-in-Some-after_text-2-clause-ok : goal.returns-in-Some-after_text-2-clause-ok
returns-in-Some-after_text-2-clause-ok c = subst (λ texts. OnOk c.add_test.result (GoesOn c.args.self.now texts c.add_test.new.self)) (sym c.in-Some-after_text-2.ensures.some) c.add_test.ensures.ok

pub returns-in-Some-after_text-2-clause-err : goal.returns-in-Some-after_text-2-clause-err
returns-in-Some-after_text-2-clause-err c = subst (λ texts. IfErr c.add_test.result (IsLineFault c.args.self.now texts)) (sym c.in-Some-after_text-2.ensures.some) c.add_test.ensures.err

pub returns-in-Some-after_text-3-clause-ok : goal.returns-in-Some-after_text-3-clause-ok
returns-in-Some-after_text-3-clause-ok c = subst (λ texts. OnOk c.add_step.result (GoesOn c.args.self.now texts c.add_step.new.self)) (sym c.in-Some-after_text-3.ensures.some) c.add_step.ensures.ok

pub returns-in-Some-after_text-3-clause-err : goal.returns-in-Some-after_text-3-clause-err
returns-in-Some-after_text-3-clause-err c = subst (λ texts. IfErr c.add_step.result (IsLineFault c.args.self.now texts)) (sym c.in-Some-after_text-3.ensures.some) c.add_step.ensures.err

pub returns-clause-err : goal.returns-clause-err
returns-clause-err c =
    no_line c.args.self.now (c.in_default.ensures.none refl) (c.in_default-after_text.ensures.none refl) (c.in_default-after_text-2.ensures.none refl) (c.in_default-after_text-3.ensures.none refl) c.requires.goes_on
