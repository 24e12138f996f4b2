use Rattle.std.proofs.Common.{[], refl, arith}
use Rattle.hk_text.proofs.tokenizer.token_from.Goals as goal

pub returns-in-None : goal.returns-in-None
returns-in-None c = record {
  gap = [];
  rest = c.args.more.now;
  parts = refl;
  blank = refl;
  counted = omega arith;
  no_blank = c.requires.no_blank;
  no_comment = c.if-first-eq-COMMENT.false;
  no_token = c.in-None.ensures.none refl;
}
