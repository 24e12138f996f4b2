use Rattle.hk_text.specs.Tokens.{IsTokenIn}
use Rattle.std.proofs.Common.{All, subst}
use Rattle.std.proofs.lemmas.List.Elements.{All-tail}
use Rattle.hk_lines.proofs.phrases.number_of.Goals as goal

pub returns-clause-tokens : goal.returns-clause-tokens
returns-clause-tokens c =
    let each = IsTokenIn c.args.line.now in
    All-tail each c.in_ok-token.token.now c.in_ok-token.rest.now (subst (All each) c.in_ok-token.ensures.cases.0 c.requires)
