-- What was told is a front of what is told later.
use Rattle.std.proofs.Common.{List, [], ◌++◌, Option, None, Some, refl, sym, ap, ◌∙◌, append_assoc}
use Rattle.std.proofs.lemmas.List.{append-nil}
use Rattle.hk_base.specs.Lists.{IsFrontOf}
use Rattle.hk_table.specs.declared.items.TraceItem.{TraceItem}
use Rattle.hk_prop.specs.Told.{IsToldFront, told_more}

pub front_itself : (told : Option (List TraceItem)) → IsToldFront told told
front_itself None = refl
front_itself (Some told) = record { rest = []; parts = sym (append-nil told) }

pub front_more : (told : Option (List TraceItem)) (items : List TraceItem) → IsToldFront told (told_more told items)
front_more None items = refl
front_more (Some told) items = record { rest = items; parts = refl }

pub front_of_items : (told : Option (List TraceItem)) (front items : List TraceItem) → IsFrontOf front items → IsToldFront (told_more told front) (told_more told items)
front_of_items None front items begins = refl
front_of_items (Some told) front items begins = record { rest = begins.rest; parts = ap (λ all. told ++ all) begins.parts ∙ sym (append_assoc told front begins.rest) }

pub front_further : (first second third : Option (List TraceItem)) → IsToldFront first second → IsToldFront second third → IsToldFront first third
front_further None None third a b = b
front_further None (Some second) third a b = cc
front_further (Some first) None third a b = absurd a
front_further (Some first) (Some second) None a b = absurd b
front_further (Some first) (Some second) (Some third) a b = record { rest = a.rest ++ b.rest; parts = b.parts ∙ (ap (λ all. all ++ b.rest) a.parts ∙ append_assoc first a.rest b.rest) }
