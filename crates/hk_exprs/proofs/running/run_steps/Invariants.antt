use Rattle.std.proofs.Common.{All, length}
use Rattle.hk_text.specs.Texts.{texts_of}
use Rattle.hk_text.specs.Tokens.{IsTokenIn}
use Rattle.hk_exprs.proofs.Runs.{Runs}
use Rattle.hk_exprs.proofs.running.run_steps.Given as goal

abbrev pub invariant-steps : goal.invariant-steps
invariant-steps l = record {
  tokens : All (IsTokenIn l.line) l.left;
  runs : Runs l.names l.fn.start (texts_of l.line l.tokens) l.inner l.outer (texts_of l.line l.left);
}

abbrev pub decreases-steps : goal.decreases-steps
decreases-steps l = length l.left
