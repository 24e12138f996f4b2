use Rattle.std.proofs.Common.{◌≡◌, List, ◌≤◌, length, drop, ap, sym, ◌∙◌, subst}
use Rattle.std.specs.Int.{w64}
use Rattle.std.proofs.lemmas.Int.{to_z-of_z}
use Rattle.hk_kinds.specs.Parts.{part_at}
use Rattle.hk_kinds.specs.declared.properties.Prop.{Prop}
use Rattle.hk_spec.specs.Steps.{test_passes}
use Rattle.hk_group.specs.Groups.{Part, down_width, up_width, passes_at}
use Rattle.hk_spec.proofs.StepLaws.{down_room, up_room, same_test}
use Rattle.hk_group.proofs.parts.GroupPart.passes.Goals as goal

pub part-down-requires : goal.part-down-requires
part-down-requires c = subst (λ n. n ≤ length (drop c.args.first_down c.args.down.now)) (sym c.down_count.ensures.count) (down_room c.args.self.now.bound c.args.first_down c.args.down.now c.requires.down)

pub part-up-requires : goal.part-up-requires
part-up-requires c = subst (λ n. n ≤ length (drop c.args.first_up c.args.up.now)) (sym c.up_count.ensures.count) (up_room c.args.self.now.bound c.args.first_up c.args.up.now c.requires.up)

pub returns : goal.returns
returns c =
    let down : c.part-down.result ≡ part_at c.args.first_down (down_width c.args.self.now) c.args.down.now = c.part-down.ensures ∙ ap (λ n. part_at c.args.first_down n c.args.down.now) c.down_count.ensures.count in
    let up : c.part-up.result ≡ part_at c.args.first_up (up_width c.args.self.now) c.args.up.now = c.part-up.ensures ∙ ap (λ n. part_at c.args.first_up n c.args.up.now) c.up_count.ensures.count in
    let tested = c.passes_view.ensures ∙ same_test c.self.inside.bound c.in-Some.at c.args.value _ _ _ _ _ _ down up (to_z-of_z w64 c.args.best c.ranges.best) in
    let D : List Prop = part_at c.args.first_down (down_width c.args.self.now) c.args.down.now in
    let U : List Prop = part_at c.args.first_up (up_width c.args.self.now) c.args.up.now in
    tested ∙ (ap (λ (part : Part). test_passes part.bound c.in-Some.at c.args.value D U c.args.best) c.self.view_is ∙ sym (ap (λ place. passes_at c.args.self.now place c.args.value c.args.best D U) c.in-Some.is))
