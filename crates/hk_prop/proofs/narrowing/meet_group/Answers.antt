use Rattle.std.proofs.Common.{◌≡◌, ◌↔◌, ℕ, List, length, arith, sym, ap, ◌∙◌, subst, slice_index}
use Rattle.hk_base.specs.Sets.{Has}
use Rattle.hk_sweep.proofs.Shapes.{layer_sets_long}
use Rattle.hk_table.specs.Keeps.{Supports}
use Rattle.hk_table.specs.Tables.{PlainShape}
use Rattle.hk_prop.specs.inside.Narrowed.{AreMet}
use Rattle.hk_prop.proofs.Narrowings.{met_allows}
use Rattle.hk_prop.proofs.narrowing.meet_group.Goals as goal

pub returns-clause-met : goal.returns-clause-met
returns-clause-met c =
    let g = c.args.group.now in
    let table = c.args.diagram.now.table in
    let shape = c.args.diagram.now.shape in
    let out = c.as_slice.result.now in
    let long : length shape.domains ≡ length g.vars = ap (λ (s : PlainShape). length s.domains) c.requires.shape ∙ layer_sets_long g c.args.model.now in
    let met = subst (λ (vars : List ℕ). AreMet vars out (length vars) c.args.sets.now c.meet.new.sets) c.vars-vars.ensures.vars c.meet.ensures.met in
    met_allows c.args.model.now g table c.vars-vars.ensures.rules.rising out c.args.sets.now c.meet.new.sets met
    (λ level value within.
    subst (λ (s : PlainShape). Has (slice_index out level) value ↔ Supports s table level value) c.requires.shape
    (subst (λ (sets : List ℕ). Has (slice_index sets level) value ↔ Supports shape table level value) (sym c.as_slice.ensures.value) (c.read_support.ensures.supported level value (omega (arith, within, long)))))
