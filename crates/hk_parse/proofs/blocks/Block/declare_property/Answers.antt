use Rattle.std.proofs.Common.{◌≡◌, ◌≤◌, length, true≢false, sym, subst, ◌∙◌, inl, inr, IfSome}
use Rattle.hk_kinds.specs.Shapes.{IsOfKind}
use Rattle.hk_text.specs.Lexemes.{IsWord}
use Rattle.hk_parse.specs.BlockLines.{IsTaken, part_names, with_property}
use Rattle.hk_parse.proofs.blocks.Block.declare_property.Goals as goal

pub returns-then-passes_limit-clause-err : goal.returns-then-passes_limit-clause-err
returns-then-passes_limit-clause-err c = (
  λ taken. true≢false (sym (c.is_taken.ensures.1 taken) ∙ c.if-is_taken.false),
  elim (c.passes_limit.ensures.passes c.if-passes_limit.true) [ inl long ↦ inl long | inr full ↦ inr (inl full) ],
)

pub push_property-requires : goal.push_property-requires
push_property-requires c =
    let fits = c.passes_limit.ensures.fits c.if-passes_limit.false in record {
      awaited = c.requires.awaited;
      is_word = subst IsWord (sym c.in-Ok.ensures) c.requires.word;
      short = subst (λ name. length name ≤ 32) (sym c.in-Ok.ensures) fits.0;
      free = λ taken. true≢false (sym (c.is_taken.ensures.1 (subst (IsTaken (part_names c.args.self.now)) c.in-Ok.ensures taken)) ∙ c.if-is_taken.false);
      few = fits.1;
      is_of_kind = subst (λ init. IfSome init (IsOfKind c.args.property.kind)) c.in-Some.is c.requires.kind;
    }

pub returns-in-Ok-push_property-clause-ok : goal.returns-in-Ok-push_property-clause-ok
returns-in-Ok-push_property-clause-ok c =
    let fits = c.passes_limit.ensures.fits c.if-passes_limit.false in record {
      free = λ taken. true≢false (sym (c.is_taken.ensures.1 taken) ∙ c.if-is_taken.false);
      short = fits.0;
      few = fits.1;
      value = c.in-Some.init;
      value_is = c.in-Some.is;
      after_is = subst (λ name. c.push_property.new.self ≡ with_property c.args.self.now c.args.side (record { name = name; kind = c.args.property.kind; init = c.in-Some.init })) c.in-Ok.ensures c.in-Ok-push_property.ensures.ok;
    }
