use Rattle.std.proofs.Common.{sym, ap, ◌∙◌, arith, drop}
use Rattle.std.proofs.lemmas.List.Sums.{prefix_len-le-length}
use Rattle.hk_text.specs.Bytes.{is_blank}
use Rattle.hk_text.proofs.Fronts.{after_front}
use Rattle.hk_text.proofs.Splitting.{after_gap, nothing_after_gap}
use Rattle.hk_text.proofs.tokenizer.next_token.Goals as goal

pub split_at-requires : goal.split_at-requires
split_at-requires c = omega (arith, c.blank_count-gap.ensures, prefix_len-le-length is_blank c.args.bytes.now)

pub token_from-requires-clause-no_blank : goal.token_from-requires-clause-no_blank
token_from-requires-clause-no_blank c =
    after_front is_blank c.args.bytes.now c.in-Some.first.now c.in-Some.more.now
    (ap (λ n. drop n c.args.bytes.now) (sym c.blank_count-gap.ensures) ∙ sym c.split_at.ensures.back ∙ c.in-Some.ensures.cases.0)

pub returns-in-None : goal.returns-in-None
returns-in-None c = nothing_after_gap _ _ _ c.blank_count-gap.ensures (sym c.split_at.ensures.back) c.in-None.ensures.cases

pub returns-in-Some : goal.returns-in-Some
returns-in-Some c = after_gap _ _ _ _ _ c.blank_count-gap.ensures (sym c.split_at.ensures.back ∙ c.in-Some.ensures.cases.0) c.token_from.ensures
