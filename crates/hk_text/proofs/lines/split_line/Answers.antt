use Rattle.std.proofs.Common.{◌==◌, not, sym, ◌∙◌, arith}
use Rattle.std.proofs.lemmas.List.Sums.{prefix_len-le-length}
use Rattle.hk_text.proofs.Breaks.{lines-ended, lines-unended}
use Rattle.hk_text.proofs.lines.split_line.Goals as goal

pub split_at-requires : goal.split_at-requires
split_at-requires c = omega (arith, c.line_length.ensures, prefix_len-le-length (λ byte. not (byte == 10)) c.args.bytes.now)

pub returns-in-None-clause-first : goal.returns-in-None-clause-first
returns-in-None-clause-first c =
    lines-unended _ _ _ _ c.requires c.line_length.ensures c.split_at.ensures.front (sym c.split_at.ensures.back) c.in-None.ensures.cases

pub returns-in-Some-clause-first : goal.returns-in-Some-clause-first
returns-in-Some-clause-first c =
    lines-ended _ _ _ _ _ c.line_length.ensures c.split_at.ensures.front (sym c.split_at.ensures.back ∙ c.in-Some.ensures.cases.0)
