use Rattle.std.proofs.Common.{◌≡◌, ◌<◌, ◌≤◌, ◌+◌, ◌-◌, ◌*◌, length, take, drop, slice_index, sym, subst, ap, ◌∙◌, arith}
use Rattle.std.proofs.lemmas.List.{length-drop}
use Rattle.hk_group.specs.Composed.{places_of}
use Rattle.hk_group.proofs.Plans.{row_fits, row_is}
use Rattle.hk_group.proofs.group.Group.places_at.Goals as goal

pub overflow_mul-layer : goal.overflow_mul-layer
overflow_mul-layer c =
    let within : c.args.layer < length c.self.inside.vars = subst (λ g. c.args.layer < length g.vars) (sym c.self.view_is) c.requires in
    let fits : c.args.layer * length c.as_slice-count.result.now + length c.as_slice-count.result.now ≤ length c.as_slice-places.result.now = row_fits c.self.inside.parts c.self.inside.vars c.as_slice-places.result.now c.args.layer _ (c.as_slice-places.ensures ∙ c.self.invariant.plan) (ap length c.as_slice-count.ensures) within in
    grind (arith, c.as_slice-places.type_inv)

pub split_at-requires : goal.split_at-requires
split_at-requires c =
    let within : c.args.layer < length c.self.inside.vars = subst (λ g. c.args.layer < length g.vars) (sym c.self.view_is) c.requires in
    let fits : c.args.layer * length c.as_slice-count.result.now + length c.as_slice-count.result.now ≤ length c.as_slice-places.result.now = row_fits c.self.inside.parts c.self.inside.vars c.as_slice-places.result.now c.args.layer _ (c.as_slice-places.ensures ∙ c.self.invariant.plan) (ap length c.as_slice-count.ensures) within in
    omega arith

pub split_at-requires-2 : goal.split_at-requires-2
split_at-requires-2 c =
    let within : c.args.layer < length c.self.inside.vars = subst (λ g. c.args.layer < length g.vars) (sym c.self.view_is) c.requires in
    let fits : c.args.layer * length c.as_slice-count.result.now + length c.as_slice-count.result.now ≤ length c.as_slice-places.result.now = row_fits c.self.inside.parts c.self.inside.vars c.as_slice-places.result.now c.args.layer _ (c.as_slice-places.ensures ∙ c.self.invariant.plan) (ap length c.as_slice-count.ensures) within in
    let long : length c.split_at.result.1.now ≡ length c.as_slice-places.result.now - c.args.layer * length c.as_slice-count.result.now = ap length c.split_at.ensures.back ∙ length-drop (c.args.layer * length c.as_slice-count.result.now) c.as_slice-places.result.now in
    omega arith

pub returns : goal.returns
returns c =
    let within : c.args.layer < length c.self.inside.vars = subst (λ g. c.args.layer < length g.vars) (sym c.self.view_is) c.requires in
    let row : take (length c.as_slice-count.result.now) (drop (c.args.layer * length c.as_slice-count.result.now) c.as_slice-places.result.now) ≡ places_of c.self.inside.parts (slice_index c.self.inside.vars c.args.layer) = row_is c.self.inside.parts c.self.inside.vars c.as_slice-places.result.now c.args.layer _ (c.as_slice-places.ensures ∙ c.self.invariant.plan) (ap length c.as_slice-count.ensures) within in
    c.split_at-2.ensures.front ∙ (ap (take (length c.as_slice-count.result.now)) c.split_at.ensures.back ∙ (row ∙ ap (λ g. places_of g.parts (slice_index g.vars c.args.layer)) c.self.view_is))
