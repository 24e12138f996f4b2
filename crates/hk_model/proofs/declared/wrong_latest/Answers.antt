use Rattle.std.proofs.Common.{refl, sym, ◌∙◌}
use Rattle.hk_model.proofs.GradedLines.{latest_test}
use Rattle.hk_model.proofs.declared.wrong_latest.Goals as goal

pub returns-in-Some-test : goal.returns-in-Some-test
returns-in-Some-test c =
    let names = c.names.view_is ∙ c.test_names-names.ensures.names in
    c.wrong_test.ensures
    ∙ latest_test c.args.block.now c.in-Some-test.test.now c.names.inside.down.now c.names.inside.up.now (λ i. (names i).down) (λ i. (names i).up) (c.in_default.ensures.none refl) (sym c.in-Some-test.ensures)
