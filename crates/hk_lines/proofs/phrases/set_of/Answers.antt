use Rattle.std.proofs.Common.{◌++◌, ◌∷◌, [], refl, ap, ◌∙◌}
use Rattle.std.proofs.lemmas.Option.{IfSome_then}
use Rattle.std.proofs.lemmas.Result.{IfOk-weaker}
use Rattle.hk_lines.specs.Plain.{values_of}
use Rattle.hk_lines.proofs.ItemLists.{empty_set_begins, set_begins, range_begins, no_items_no_set, no_range_no_set}
use Rattle.hk_lines.proofs.phrases.set_of.Goals as goal

pub returns-in-Some-after_text-clause-some : goal.returns-in-Some-after_text-clause-some
returns-in-Some-after_text-clause-some c = empty_set_begins c.in-Some.ensures.some c.in-Some-after_text.ensures.some (ap values_of c.new.ensures)

pub returns-in-Some-clause-some : goal.returns-in-Some-clause-some
returns-in-Some-clause-some c =
    IfOk-weaker c.items_of.result _ _ (λ read items. IfSome_then read items (λ found begins. set_begins c.in-Some.ensures.some begins)) c.items_of.ensures.some

pub returns-in_default-range_of-clause-none : goal.returns-in_default-range_of-clause-none
returns-in_default-range_of-clause-none c = λ none. no_range_no_set (c.in_default.ensures.none refl) (c.in_default-range_of.ensures.none refl)

pub returns-clause-some : goal.returns-clause-some
returns-clause-some c = range_begins c.in-Some-range_of.ensures.some (ap values_of (c.in_ok-push.ensures.ok ∙ ap (λ items. items ++ c.in-Some-range_of.range ∷ []) c.new-items.ensures))

pub returns-in-Some-clause-none : goal.returns-in-Some-clause-none
returns-in-Some-clause-none c =
    IfOk-weaker c.items_of.result _ _ (λ read no_items none. no_items_no_set c.in-Some.ensures.some (c.in_default-after_text.ensures.none refl) (no_items none)) c.items_of.ensures.none
