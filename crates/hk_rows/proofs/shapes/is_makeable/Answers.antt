use Rattle.std.proofs.Common.{ℕ, ◌<◌, List, length, ap, ◌∙◌, subst, All, arith}
use Rattle.hk_kinds.specs.declared.kinds.Kind.{Kind}
use Rattle.hk_table.specs.Tables.{PlainShape}
use Rattle.hk_text.specs.Sets.{members}
use Rattle.hk_rows.proofs.Makeable.{makeable}
use Rattle.hk_rows.proofs.shapes.is_makeable.Goals as goal

pub returns : goal.returns
returns c judged =
    let shape = c.args.shape.now in
    let sets_are = c.as_slice-sets.ensures ∙ ap (λ (s : PlainShape). s.domains) c.shape.view_is in
    let down_are = c.as_slice-down.ensures ∙ ap (λ (s : PlainShape). s.down) c.shape.view_is in
    let up_are = c.as_slice-up.ensures ∙ ap (λ (s : PlainShape). s.up) c.shape.view_is in
    let sets = ap (λ (l : List ℕ). length l) sets_are in
    let down = ap (λ (l : List Kind). length l) down_are in
    let up = ap (λ (l : List Kind). length l) up_are in
    let have = subst (λ sets. All (λ set. 0 < length (members set)) sets) sets_are (c.have_values.ensures judged) in
    makeable shape c.args.width (omega arith) (omega arith) (omega (arith, sets)) (omega (arith, sets)) (omega (arith, down)) (omega (arith, up)) have
