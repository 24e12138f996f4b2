use Rattle.std.proofs.Common.{◌≡◌, [], ◌∷◌, ◌++◌, ap, ◌∙◌}
use Rattle.hk_spec.specs.Library.{gcc_bound}
use Rattle.hk_lib.proofs.LibraryBounds.{row_bound}
use Rattle.hk_lib.proofs.Specified.{on_ok}
use Rattle.hk_lib.proofs.counting.push_row.Goals as goal

pub returns-in-Ok : goal.returns-in-Ok
returns-in-Ok c =
    let bound_is : c.in-Ok.bound ≡ gcc_bound c.args.n c.args.row = c.in-Ok.ensures.text ∙ row_bound c.args.n _ c.args.row c.set_of_one.ensures c.requires.least c.requires.most in
    on_ok c.push.result (λ is. is ∙ ap (λ bound. c.args.bounds.now ++ bound ∷ []) bound_is) c.push.ensures.ok
