use Rattle.std.proofs.Common.{◌≡◌, ◌++◌, List, ℕ, OnOk, OnErr, subst, sym}
use Rattle.hk_base.specs.Lists.{AppendsFront}
use Rattle.hk_print.proofs.Spacing.{literal_text}
use Rattle.hk_print.proofs.words.print_literal.Goals as goal

pub returns-clause-ok : goal.returns-clause-ok
returns-clause-ok c = subst (λ (text : List ℕ). OnOk c.print_values.result (c.print_values.new.out ≡ c.args.out.now ++ text)) (sym (literal_text c.args.set)) c.print_values.ensures.ok

pub returns-clause-err : goal.returns-clause-err
returns-clause-err c = subst (λ (text : List ℕ). OnErr c.print_values.result (AppendsFront c.args.out.now c.print_values.new.out text)) (sym (literal_text c.args.set)) c.print_values.ensures.err
