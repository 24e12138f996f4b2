use Rattle.hk_parse.proofs.InitialTexts.{max_read, all_read}
use Rattle.hk_parse.proofs.properties.init_of.Goals as goal

pub returns-in-Max-clause-some : goal.returns-in-Max-clause-some
returns-in-Max-clause-some c = max_read _ _ c.in-Max.is c.number_init-in-Max.ensures.some

pub returns-in-AllBits-clause-some : goal.returns-in-AllBits-clause-some
returns-in-AllBits-clause-some c = all_read _ _ c.in-AllBits.is c.set_init-in-AllBits.ensures.some
