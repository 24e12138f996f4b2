use Rattle.std.proofs.Common.{refl, sym, ◌∙◌, true≢false}
use Rattle.hk_lines.proofs.Shaping.{header_said, new_group_said, nothing_said}
use Rattle.hk_lines.proofs.shapes.shape_of.Goals as goal

pub returns-then-is_start-clause-shape : goal.returns-then-is_start-clause-shape
returns-then-is_start-clause-shape c = header_said (c.is_start.ensures.0 c.if-is_start.true)

pub returns-then-is_new_group-clause-shape : goal.returns-then-is_new_group-clause-shape
returns-then-is_new_group-clause-shape c = new_group_said (c.is_new_group.ensures.0 c.if-is_new_group.true)

pub returns-clause-none : goal.returns-clause-none
returns-clause-none c = λ _. nothing_said
    (λ is. true≢false (sym (c.is_start.ensures.1 is) ∙ c.if-is_start.false))
    (λ is. true≢false (sym (c.is_new_group.ensures.1 is) ∙ c.if-is_new_group.false))
    (c.in_default.ensures.none refl)
    (c.in_default-after_text.ensures.none refl)
    (c.in_default-after_text-2.ensures.none refl)
    (c.in_default-after_text-3.ensures.none refl)
    (c.in_default-after_text-4.ensures.none refl)
    (c.in_default-after_text-5.ensures.none refl)
    (c.in_default-after_text-6.ensures.none refl)
