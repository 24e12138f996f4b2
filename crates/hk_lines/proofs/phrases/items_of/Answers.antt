use Rattle.std.proofs.Common.{◌∷◌, [], refl, ap, sym, ◌∙◌, subst}
use Rattle.std.proofs.lemmas.List.{map-append}
use Rattle.hk_text.specs.Texts.{texts_of}
use Rattle.hk_lines.specs.Plain.{values_of, plain_values}
use Rattle.hk_lines.specs.Phrases.{ItemsThen}
use Rattle.hk_lines.specs.Shapes.{capped_values}
use Rattle.hk_lines.proofs.Lists.{ReadsOn, on_start, on_more, on_last, on_none, on_stop, on_shorter}
use Rattle.hk_lines.proofs.ItemLists.{items_list}
use Rattle.hk_lines.proofs.phrases.items_of.Goals as goal

pub items-init : goal.items-init
items-init c = record {
  tokens = c.requires;
  reads = subst (λ items. ReadsOn ItemsThen capped_values (texts_of c.args.line.now c.args.tokens.now) (values_of items) (texts_of c.args.line.now c.args.tokens.now)) (sym c.new-items.ensures) (on_start ItemsThen capped_values (texts_of c.args.line.now c.args.tokens.now));
}

pub item_of-requires : goal.item_of-requires
item_of-requires c = c.items.invariant.tokens

pub returns-in_default-clause-none : goal.returns-in_default-clause-none
returns-in_default-clause-none c = λ none. on_none items_list c.items.invariant.reads (c.in_default.ensures.none refl)

pub items-smaller : goal.items-smaller
items-smaller c = on_shorter items_list c.in-Some.ensures.some c.in-Some-after_text.ensures.some

pub items-preserved : goal.items-preserved
items-preserved c = record {
  tokens = c.in-Some-after_text.ensures.tokens;
  reads = on_more items_list c.items.invariant.reads c.in-Some.ensures.some (ap values_of c.in_ok-push.ensures.ok ∙ map-append plain_values c.items.items (c.in-Some.item ∷ [])) c.in-Some-after_text.ensures.some;
}

pub returns-in_default-after_text-2-clause-none : goal.returns-in_default-after_text-2-clause-none
returns-in_default-after_text-2-clause-none c = λ none. on_stop items_list c.items.invariant.reads c.in-Some.ensures.some (c.in_default-after_text.ensures.none refl) (c.in_default-after_text-2.ensures.none refl)

pub returns-in-items-clause-some : goal.returns-in-items-clause-some
returns-in-items-clause-some c =
    on_last items_list c.items.invariant.reads c.in-Some.ensures.some (ap values_of c.in_ok-push.ensures.ok ∙ map-append plain_values c.items.items (c.in-Some.item ∷ [])) c.in-Some-after_text-2.ensures.some
