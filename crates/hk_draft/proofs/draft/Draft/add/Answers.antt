use Rattle.std.proofs.Common.{◌≡◌, List, false, ap, ◌∙◌}
use Rattle.hk_draft.specs.Drafts.{PlainDraft}
use Rattle.hk_draft.specs.declared.items.Item.{Item}
use Rattle.hk_draft.specs.inside.Items.{with_rule}
use Rattle.hk_draft.proofs.Naming.{draft_of, draft_of-rule}
use Rattle.hk_draft.proofs.draft.Draft.add.Goals as goal

pub returns-clause-ok : goal.returns-clause-ok
returns-clause-ok c =
    let entries = c.self.inside.variables.entries in
    let before : draft_of entries c.self.inside.items c.self.inside.fresh ≡ c.args.self.now = c.self.view_is in
    ap (λ (items : List Item). draft_of entries items false) c.in_ok-push.ensures.ok
    ∙ draft_of-rule entries c.self.inside.items c.self.inside.fresh c.args.rule
    ∙ ap (λ (draft : PlainDraft). with_rule draft c.args.rule) before
