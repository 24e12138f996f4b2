use Rattle.std.proofs.Common.{subst}
use Rattle.hk_text.specs.Lines.{lines}
use Rattle.hk_parse.specs.SpecTexts.{AreTextsOf}
use Rattle.hk_parse.proofs.GoodTexts.{texts_of_good}
use Rattle.hk_parse.proofs.WrittenSpecs.{good_texts_printed}
use Rattle.hk_parse.proofs.laws.read_is_printed.Goals as goal

pub returns : goal.returns
returns c bytes s writes = let texts = texts_of_good writes in subst (AreTextsOf (lines bytes)) (good_texts_printed texts.good) texts.are
