use Rattle.std.proofs.Common.{◌∷◌, ◌++◌, [], ap, ◌∙◌, arith}
use Rattle.hk_kinds.specs.Rows.{Rows}
use Rattle.hk_layers.proofs.UpLists.{seen_by, seen_length, seen_push}
use Rattle.hk_layers.proofs.ups.Ups.push.Goals as goal

pub push-requires-2-clause-few : goal.push-requires-2-clause-few
push-requires-2-clause-few c = omega (arith, seen_length _ _ _ _ c.self.view_is c.self.invariant)

pub returns-in-Ok-clause-ok : goal.returns-in-Ok-clause-ok
returns-in-Ok-clause-ok c =
    ap (λ (r : Rows). seen_by r.width c.push.new.self.items r.rows) c.in-Ok.ensures.ok
    ∙ (ap (λ flags. seen_by c.self.inside.states.width flags (c.self.inside.states.rows ++ c.args.state.now ∷ [])) c.in_ok-push.ensures.items
    ∙ seen_push _ _ _ _ c.self.view_is c.self.invariant c.args.there c.args.state.now)
