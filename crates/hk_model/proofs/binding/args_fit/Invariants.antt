use Rattle.std.proofs.Common.{◌≡◌, length}
use Rattle.hk_model.specs.Postings.{FitKinds}
use Rattle.hk_lines.specs.PostShapes.{args_of}
use Rattle.hk_model.proofs.PostFits.{kinds_of}
use Rattle.hk_model.proofs.binding.args_fit.Given as goal

-- all arguments fit where those that are left do, which are one for each parameter that is left
abbrev pub invariant-loop-param : goal.invariant-loop-param
invariant-loop-param l = record {
  there : FitKinds (kinds_of l.param-iterator.a.rest.now) (args_of l.param-iterator.b.rest.now) → FitKinds (kinds_of l.params) (args_of l.args);
  back : FitKinds (kinds_of l.params) (args_of l.args) → FitKinds (kinds_of l.param-iterator.a.rest.now) (args_of l.param-iterator.b.rest.now);
  same : length l.param-iterator.a.rest.now ≡ length l.param-iterator.b.rest.now;
}
