use Rattle.hk_print.proofs.PrintedLines.{printed_texts}
use Rattle.hk_parse.proofs.GoodTexts.{good_lines}
use Rattle.hk_parse.proofs.PrintedParts.{spec_texts_good}
use Rattle.hk_parse.proofs.laws.printed_is_read.Goals as goal

pub returns : goal.returns
returns c s valid good = good_lines (printed_texts s valid) (spec_texts_good s valid good)
