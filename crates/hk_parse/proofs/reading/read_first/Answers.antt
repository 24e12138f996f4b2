use Rattle.std.proofs.Common.{refl}
use Rattle.hk_parse.specs.SpecTexts.{good_first}
use Rattle.hk_parse.proofs.reading.read_first.Goals as goal

pub returns-in-Ok-clause-ok : goal.returns-in-Ok-clause-ok
returns-in-Ok-clause-ok c = good_first (record { tokens = c.args.tokens.now; split = c.requires.split; texts_are = refl }) c.in-Ok.ensures.ok
