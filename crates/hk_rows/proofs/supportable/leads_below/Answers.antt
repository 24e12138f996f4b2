use Rattle.std.proofs.Common.{◌≡◌, Some, sym, ◌∙◌, arith}
use Rattle.std.proofs.lemmas.Bool.Decides.{nat_tests}
use Rattle.std.proofs.lemmas.Grind.{common_steps}
use Rattle.hk_rows.proofs.supportable.leads_below.Goals as goal

pub returns-in-Some : goal.returns-in-Some
returns-in-Some c below row is =
    let both : Some c.in-Some.row ≡ Some row = sym c.in-Some.is ∙ (c.live.ensures row).1 is in
    let same : c.in-Some.row ≡ row = cc in
    grind (arith, nat_tests, common_steps, same)

pub returns-in-None : goal.returns-in-None
returns-in-None c always row is =
    let both = sym c.in-None.is ∙ (c.live.ensures row).1 is in
    cc
