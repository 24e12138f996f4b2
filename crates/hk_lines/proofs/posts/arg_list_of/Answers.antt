use Rattle.std.proofs.Common.{ap}
use Rattle.std.proofs.lemmas.Option.{IfSome_then}
use Rattle.std.proofs.lemmas.Result.{IfOk-weaker}
use Rattle.hk_lines.specs.PostShapes.{args_of}
use Rattle.hk_lines.proofs.PostPhrases.{no_args_said, some_args_said}
use Rattle.hk_lines.proofs.posts.arg_list_of.Goals as goal

pub returns-in-Some-clause-some : goal.returns-in-Some-clause-some
returns-in-Some-clause-some c = no_args_said c.in-Some.ensures.some (ap args_of c.new.ensures)

pub returns-clause-some : goal.returns-clause-some
returns-clause-some c = IfOk-weaker c.args_of.result _ _ (λ read args. IfSome_then read args (λ found begins. some_args_said begins)) c.args_of.ensures.some
