use Rattle.std.proofs.Common.{◌≡◌, ◌≤◌, length, map, ap, ◌∙◌, arith}
use Rattle.std.specs.Map.{keys_of}
use Rattle.std.proofs.lemmas.List.{length-map}
use Rattle.std.proofs.lemmas.Map.Entries.{length-keys_of}
use Rattle.indexmap.specs.IndexMap.{keys}
use Rattle.hk_draft.specs.Drafts.{PlainDraft}
use Rattle.hk_draft.proofs.Naming.{Key}
use Rattle.hk_draft.proofs.ScopeLengths.{rising_short}
use Rattle.hk_draft.proofs.draft.Draft.scope_len.Goals as goal

pub prove-unreachable-requires : goal.prove-unreachable-requires
prove-unreachable-requires c =
    let entries = c.self.inside.variables.entries in
    let named : length (map (λ (name : Key). name.items) (keys c.self.inside.variables)) ≡ length c.args.self.now.names = ap (λ (p : PlainDraft). length p.names) c.self.view_is in
    let keyed : length (map (λ (name : Key). name.items) (keys c.self.inside.variables)) ≡ length entries = length-map (keys_of entries) (λ (name : Key). name.items) ∙ length-keys_of entries in
    let count : c.len.result ≡ length entries = c.len.ensures.len in
    let short : length c.args.scope.now ≤ length c.args.self.now.names = rising_short (length c.args.self.now.names) c.args.scope.now c.requires.rising c.requires.declared in
    omega (arith, named, keyed, count, short, c.if-prove.true)
