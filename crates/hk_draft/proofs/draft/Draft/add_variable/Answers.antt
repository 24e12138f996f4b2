use Rattle.std.proofs.Common.{◌≡◌, ℕ, List, ◌∷◌, [], ◌++◌, None, ap, ◌∙◌}
use Rattle.std.specs.Map.{keys_of}
use Rattle.hk_draft.specs.Drafts.{PlainDraft}
use Rattle.hk_draft.specs.Declares.{place_of}
use Rattle.hk_draft.proofs.Naming.{Key, names_of, draft_of, insert_entry-named, draft_of-push}
use Rattle.hk_draft.proofs.draft.Draft.add_variable.Goals as goal

pub returns-clause-ok : goal.returns-clause-ok
returns-clause-ok c =
    let entries = c.self.inside.variables.entries in
    let items = c.self.inside.items in
    let fresh = c.self.inside.fresh in
    let key = c.in_ok-to_vec.field-0 in
    let named : key.items ≡ c.args.name.now = c.in_ok-to_vec.ensures.items_if_clones_equal (λ x y e. e) in
    let before : draft_of entries items fresh ≡ c.args.self.now = c.self.view_is in
    let none : place_of (names_of (keys_of entries)) key.items ≡ None =
    ap (λ (p : PlainDraft). place_of p.names key.items) before ∙ ap (place_of c.args.self.now.names) named ∙ c.requires.new in
    let added : c.insert.new.self.entries ≡ entries ++ (key, c.args.domain) ∷ [] =
    c.in_ok-insert.ensures.entries ∙ insert_entry-named entries key c.args.domain none in
    ap (λ (es : List (Key × ℕ)). draft_of es items fresh) added
    ∙ draft_of-push entries key c.args.name.now c.args.domain items fresh named
    ∙ ap (λ (p : PlainDraft). record p { names = p.names ++ c.args.name.now ∷ []; domains = p.domains ++ c.args.domain ∷ [] }) before
