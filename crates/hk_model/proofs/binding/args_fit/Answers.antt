use Rattle.std.proofs.Common.{true≢false, sym}
use Rattle.hk_model.proofs.PostFits.{fit_length}
use Rattle.hk_model.proofs.binding.args_fit.Goals as goal

pub returns-then-params-args : goal.returns-then-params-args
returns-then-params-args c = (λ never. absurd (true≢false (sym never)), λ fit. absurd (c.if-params-args.true (fit_length c.args.params.now c.args.args.now fit)))
