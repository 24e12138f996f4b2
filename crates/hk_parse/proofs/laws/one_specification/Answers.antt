use Rattle.hk_parse.proofs.EachText.{spec_or_fault}
use Rattle.hk_parse.proofs.SpecOutcomes.{writes_one, writes_no_fault, fault_one}
use Rattle.hk_parse.proofs.laws.one_specification.Goals as goal

pub returns : goal.returns
returns c = record { each = spec_or_fault; written = writes_one; apart = writes_no_fault; fault = fault_one }
