use Rattle.std.proofs.Common.{◌≡◌, ◌++◌, ◌∙◌, [], cond, append_assoc, ap, sym, arith, subst, Bool}
use Rattle.std.specs.Fmt.{decimal}
use Rattle.hk_base.specs.Lists.{AppendsFront}
use Rattle.hk_text.specs.Sets.{members, members_below, values_text}
use Rattle.hk_text.proofs.Appending.{OnErr-always}
use Rattle.hk_text.proofs.Members.{is_none, is_none_more, members_below_one, members_below_none, members_text_stopped, values_text_more}
use Rattle.hk_text.proofs.sets.push_values.Goals as goal

pub loop-value-preserved-then-not-has : goal.loop-value-preserved-then-not-has
loop-value-preserved-then-not-has c =
    let same = members_below_none c.args.bits c.loop-value.value (sym c.has.ensures ∙ c.if-not-has.true) in
    record {
      text = c.loop-value.invariant.text ∙ ap (λ values. c.args.out.now ++ values_text c.args.lead.now c.args.between.now values) (sym same);
      none = c.loop-value.invariant.none ∙ ap is_none (sym same);
    }

pub returns-in_err-push_value-clause-err : goal.returns-in_err-push_value-clause-err
returns-in_err-push_value-clause-err c =
    let piece = λ (first : Bool). cond first [] c.args.between.now ++ (c.args.lead.now ++ decimal c.loop-value.value) in
    OnErr-always c.from_residual.result
    (members_text_stopped c.args.lead.now c.args.between.now c.args.bits c.loop-value.value c.args.out.now c.loop-value.out c.push_value.new.out (omega arith) (sym c.has.ensures ∙ c.if-not-has.false) c.loop-value.invariant.text
    (subst (λ (first : Bool). AppendsFront c.loop-value.out c.push_value.new.out (piece first)) c.loop-value.invariant.none c.in_err-push_value.ensures.err))

pub loop-value-preserved : goal.loop-value-preserved
loop-value-preserved c =
    let some = members_below c.args.bits c.loop-value.value in
    let next = members_below_one c.args.bits c.loop-value.value (sym c.has.ensures ∙ c.if-not-has.false) in
    let text = values_text c.args.lead.now c.args.between.now in
    let piece = λ (first : Bool). cond first [] c.args.between.now ++ (c.args.lead.now ++ decimal c.loop-value.value) in
    record {
      text =
          c.in_ok-push_value.ensures.ok
          ∙ ap (λ first. c.loop-value.out ++ piece first) c.loop-value.invariant.none
          ∙ ap (λ xs. xs ++ piece (is_none some)) c.loop-value.invariant.text
          ∙ append_assoc c.args.out.now (text some) (piece (is_none some))
          ∙ ap (λ xs. c.args.out.now ++ xs) (sym (ap text next ∙ values_text_more c.args.lead.now c.args.between.now some c.loop-value.value));
      none = sym (ap is_none next ∙ is_none_more some c.loop-value.value);
    }

pub returns-clause-ok : goal.returns-clause-ok
unfolding members
returns-clause-ok c =
    let all : c.loop-value.value ≡ 128 = omega arith in
    c.loop-value.invariant.text ∙ ap (λ n. c.args.out.now ++ values_text c.args.lead.now c.args.between.now (members_below c.args.bits n)) all
