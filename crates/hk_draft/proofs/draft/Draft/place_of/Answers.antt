use Rattle.std.proofs.Common.{◌≡◌, ap, sym, ◌∙◌}
use Rattle.indexmap.specs.IndexMap.{keys}
use Rattle.hk_draft.specs.Drafts.{PlainDraft}
use Rattle.hk_draft.specs.Declares.{place_of}
use Rattle.hk_draft.proofs.Naming.{place_of-names_of}
use Rattle.hk_draft.proofs.draft.Draft.place_of.Goals as goal
use Rattle.hk_draft.proofs.draft.Draft.place_of.Goals.{After-get_index_of}

-- the index of the key is the place of the name
found : (c : After-get_index_of) → c.get_index_of.result ≡ place_of c.args.self.now.names c.args.name.now
found c = c.get_index_of.ensures.index ∙ sym (place_of-names_of (keys c.self.inside.variables) c.args.name.now) ∙ ap (λ (p : PlainDraft). place_of p.names c.args.name.now) c.self.view_is

pub returns-in-None : goal.returns-in-None
returns-in-None c = sym c.in-None.is ∙ found (goal.at.returns-in-None c).After-get_index_of

pub returns-in-Some : goal.returns-in-Some
returns-in-Some c = sym c.in-Some.is ∙ found (goal.at.returns-in-Some c).After-get_index_of
