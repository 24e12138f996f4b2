use Rattle.hk_text.proofs.Existence.{tokens_or_bad_byte}
use Rattle.hk_text.proofs.Reading.{same_tokens, same_bad_byte, tokens_no_bad_byte}
use Rattle.hk_text.proofs.readings.one_reading.Goals as goal

pub returns-clause-each : goal.returns-clause-each
returns-clause-each c = tokens_or_bad_byte

pub returns-clause-tokens : goal.returns-clause-tokens
returns-clause-tokens c = same_tokens

pub returns-clause-bad_byte : goal.returns-clause-bad_byte
returns-clause-bad_byte c = λ line column byte another other. same_bad_byte line column another byte other

pub returns-clause-apart : goal.returns-clause-apart
returns-clause-apart c = tokens_no_bad_byte
