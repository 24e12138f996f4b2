use Rattle.std.proofs.Common.{◌∙◌, sym}
use Rattle.hk_base.proofs.InputLaws.{bytes_at-get_or}
use Rattle.hk_base.proofs.inputs.bytes_of.Goals as goal

pub returns : goal.returns
returns c = c.as_slice.ensures ∙ sym (bytes_at-get_or _ _ _ c.requires)
