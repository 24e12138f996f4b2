use Rattle.hk_draft.proofs.MoreParts.{pushed_parts, pushed_lengths}
use Rattle.hk_draft.proofs.specifying.push_part.Goals as goal

pub returns-clause-parts : goal.returns-clause-parts
returns-clause-parts c = pushed_parts c.args.specs.now _ c.args.scopes.now _ c.args.bound c.args.scope.now _ c.in_ok-push.ensures.ok c.in_ok-push-2.ensures.ok c.in_ok-scope.ensures c.requires.lengths

pub returns-clause-lengths : goal.returns-clause-lengths
returns-clause-lengths c =
    pushed_lengths c.args.specs.now _ c.args.scopes.now _ c.args.bound c.args.scope.now _ c.in_ok-push.ensures.ok c.in_ok-push-2.ensures.ok c.in_ok-scope.ensures c.requires.len c.requires.lengths
