use Rattle.std.proofs.Common.{◌≡◌, length, ap, sym, subst, ◌∙◌}
use Rattle.std.specs.Prelude.{All}
use Rattle.hk_spec.specs.Library.{gcc_bounds}
use Rattle.hk_spec.specs.Specifications.{BoundSpecification}
use Rattle.hk_draft.proofs.MoreParts.{rows_long}
use Rattle.hk_draft.proofs.specifying.push_rows.Goals as goal

pub push_bounds-requires-clause-lens : goal.push_bounds-requires-clause-lens
push_bounds-requires-clause-lens c =
    let is : c.into_vec.result.items ≡ gcc_bounds (length c.args.scope.now) c.args.rows.now = c.into_vec.ensures ∙ c.in_ok-bounds.ensures.text ∙ ap (λ n. gcc_bounds n c.args.rows.now) c.variable_count.ensures in
    subst (All (λ (bound : BoundSpecification). bound.len ≡ length c.args.scope.now)) (sym is) (rows_long (length c.args.scope.now) c.args.rows.now)
