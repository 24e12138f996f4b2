use Rattle.std.proofs.Common.{true≢false, sym, ◌∙◌}
use Rattle.hk_parse.proofs.blocks.Block.declare.Goals as goal

pub returns-then-passes_limit-clause-err : goal.returns-then-passes_limit-clause-err
returns-then-passes_limit-clause-err c = (λ fault. true≢false (sym (c.in-Ok.ensures.1 fault) ∙ c.if-taken.false), c.passes_limit.ensures.0 c.if-passes_limit.true)

pub with_header-requires : goal.with_header-requires
with_header-requires c = record {
  is_word = c.requires.name;
  words = c.requires.params;
  free = λ fault. true≢false (sym (c.in-Ok.ensures.1 fault) ∙ c.if-taken.false);
  small = λ fault. true≢false (sym (c.passes_limit.ensures.1 fault) ∙ c.if-passes_limit.false);
}
