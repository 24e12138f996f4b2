use Rattle.std.proofs.Common.{ℕ, ◌+◌, ◌<◌, ◌⊎◌, ◌↔◌, List, length, drop, slice_index_or, sym, ◌∙◌, ap, subst, arith}
use Rattle.hk_base.specs.Sets.{Has}
use Rattle.hk_layers.specs.inside.Uniting.{IsUnited}
use Rattle.hk_layers.proofs.Unions.{united_more, united_short, united_all}
use Rattle.hk_layers.proofs.uniting.unite_leads.Goals as goal
use Rattle.hk_layers.proofs.uniting.unite_leads.Goals.{then-i-sets, else-i-sets}

pub loop-i-preserved : goal.loop-i-preserved
loop-i-preserved c =
    let i = c.loop-i.i in
    let leads = c.args.leads.now in
    let sets = c.args.sets.now in
    let old = c.loop-i.froms in
    let start = c.args.froms.now in
    elim c.if-i-sets.branch [
      | then-i-sets w ↦ record {
        long = ap length w.froms-is ∙ (w.unite_lead.ensures.long ∙ c.loop-i.invariant.long);
        united = λ at lt row.
            let there : at < length old = omega (arith, c.loop-i.invariant.long) in
            subst (λ (fs : List ℕ). (Has (slice_index_or start at 0) row ⊎ IsUnited at leads sets row) ↔ (Has (slice_index_or fs at 0) row ⊎ IsUnited at (drop (i + 1) leads) (drop (i + 1) sets) row)) (sym w.froms-is)
            (united_more at i row leads sets _ _ _ _ c.loop-i-test.true w.if-i-sets.true w.index-sets-i.is (c.loop-i.invariant.united at lt row) (w.unite_lead.ensures.united at there row));
      }
      | else-i-sets w ↦ record {
        long = ap length w.froms-is ∙ c.loop-i.invariant.long;
        united = λ at lt row.
            subst (λ (fs : List ℕ). (Has (slice_index_or start at 0) row ⊎ IsUnited at leads sets row) ↔ (Has (slice_index_or fs at 0) row ⊎ IsUnited at (drop (i + 1) leads) (drop (i + 1) sets) row)) (sym w.froms-is)
            (united_short at i row leads sets _ w.if-i-sets.false (c.loop-i.invariant.united at lt row));
      }
    ]

pub returns-clause-united : goal.returns-clause-united
returns-clause-united c = λ at lt row. united_all at c.loop-i.i row c.args.leads.now c.args.sets.now _ c.loop-i-test.false (c.loop-i.invariant.united at lt row)
