use Rattle.std.proofs.Common.{refl}
use Rattle.hk_parse.proofs.Parameters.{no_param_word}
use Rattle.hk_parse.proofs.headers.param_of.Goals as goal

pub returns-in_err-word-clause-none : goal.returns-in_err-word-clause-none
returns-in_err-word-clause-none c = λ _ param rest begins. no_param_word (c.in_err-word.ensures.none refl) begins
