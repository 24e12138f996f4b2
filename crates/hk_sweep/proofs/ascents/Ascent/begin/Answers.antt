use Rattle.std.proofs.Common.{◌≡◌, Some, suc, length, replicate, sym, ◌∙◌, ap, subst}
use Rattle.std.proofs.lemmas.List.{length-map}
use Rattle.hk_arena.specs.Diagrams.{values_of}
use Rattle.hk_group.specs.Groups.{group_up_shape, group_initial_up}
use Rattle.hk_kinds.specs.Shapes.{HasShape}
use Rattle.hk_sweep.proofs.TightSteps.{last_rises, length-fits, wide_as_ups}
use Rattle.hk_sweep.proofs.ascents.Ascent.begin.Goals as goal
use Rattle.hk_sweep.specs.Views.{FallenView, AscentView}
use Rattle.hk_sweep.specs.inside.Frames.{PlainFrame}
use Rattle.hk_sweep.specs.inside.Rising.{IsRisen}
use Rattle.hk_sweep.specs.inside.Written.{IsLayerWritten, rows_made}
use Rattle.hk_text.specs.Sets.{members}

pub last-requires-clause-width : goal.last-requires-clause-width
last-requires-clause-width g c =
    ap length c.view.ensures
    ∙ wide_as_ups c.init_up.ensures.shape (ap (λ (f : PlainFrame). f.group) c.frame.view_is) c.requires.width (ap (λ (a : AscentView). a.width) c.self.view_is)

pub invariant_of-self : goal.invariant_of-self
invariant_of-self g c =
    let wide = c.last-2.ensures.width in
    (wide_as_ups c.init_up.ensures.shape (ap (λ (f : PlainFrame). f.group) c.frame.view_is) c.requires.width (ap (λ (a : AscentView). a.width) c.self.view_is) ∙ sym wide, c.self.invariant.1 ∙ sym wide, c.self.invariant.2 ∙ sym wide)

pub invariant_of-self-2 : goal.invariant_of-self-2
invariant_of-self-2 g c =
    let wide = c.last-2.ensures.width in
    (wide_as_ups c.init_up.ensures.shape (ap (λ (f : PlainFrame). f.group) c.frame.view_is) c.requires.width (ap (λ (a : AscentView). a.width) c.self.view_is) ∙ sym wide, c.self.invariant.1 ∙ sym wide, c.self.invariant.2 ∙ sym wide)

pub invariant_of-self-in_err-write_layer : goal.invariant_of-self-in_err-write_layer
invariant_of-self-in_err-write_layer g c =
    let wide = c.last-2.ensures.width in
    (wide_as_ups c.init_up.ensures.shape (ap (λ (f : PlainFrame). f.group) c.frame.view_is) c.requires.width (ap (λ (a : AscentView). a.width) c.self.view_is) ∙ sym wide, c.self.invariant.1 ∙ sym wide, c.self.invariant.2 ∙ sym wide)

pub returns-clause-risen : goal.returns-clause-risen
returns-clause-risen g c = λ old same.
    let frame = c.args.frame.now in
    let sets = c.args.diagram.now.shape.domains in
    let table = c.args.diagram.now.table in
    let new = c.write_layer.new.diagram.table in
    let halves = c.last.inside.front.halves in
    let ups = c.last-2.new.self.ups in
    let state = c.view.ensures ∙ c.init_up.ensures.state ∙ ap (λ (f : PlainFrame). group_initial_up f.group) c.frame.view_is in
    let shape : HasShape (group_up_shape frame.group) (group_initial_up frame.group) =
    subst (λ (f : PlainFrame). HasShape (group_up_shape f.group) (group_initial_up f.group)) c.frame.view_is (subst (HasShape (group_up_shape c.frame.inside.group.now)) c.init_up.ensures.state c.init_up.ensures.shape) in
    let ups_are : ups ≡ replicate (length halves) (Some (group_initial_up frame.group)) = c.in_ok-last.ensures.ups ∙ (λ k. replicate (c.len.ensures k) (Some (state k))) in
    let long = length-fits _ _ _ table c.fits.ensures.fits ∙ ap suc (length-map sets members) in
    let at = ap length c.vars.ensures.vars ∙ ap (λ (f : PlainFrame). length f.group.vars) c.frame.view_is ∙ sym c.requires.framed.layers in
    let none = c.as_slice.ensures.value ∙ c.clear.ensures.items in
    let written = subst (λ entries. IsLayerWritten (length c.vars.result.now) (rows_made (length (values_of c.args.diagram.now.shape (length c.vars.result.now))) halves ups entries) table new) none c.in_ok-write_layer.ensures.ok in
    let rises = last_rises frame sets old _ halves table new ups at long same ups_are shape written in
    let layer = subst (λ n. IsRisen frame sets old n halves new ups) at rises in
    subst (λ (v : FallenView). IsRisen frame sets old (length sets) v.halves new ups) c.last.view_is layer
