use Rattle.hk_prop.proofs.SupportTests.{supports_is}
use Rattle.hk_prop.proofs.pass_laws.tests_say_what_is_supported.Goals as goal

pub returns : goal.returns
returns c = supports_is
