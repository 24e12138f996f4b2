use Rattle.std.proofs.Common.{◌≡◌, ◌<◌, [], ◌∷◌, ◌+◌, length, drop, get_or, slice_index, sym, ◌∙◌, ap, subst, arith, All}
use Rattle.std.proofs.lemmas.List.{get_or_read}
use Rattle.hk_table.proofs.Supported.{layer_leads, layer_read, support_more, values_from}
use Rattle.hk_table.specs.Supporting.{RowLeads}
use Rattle.hk_table.specs.Tables.{PlainShape, layer_values}
use Rattle.hk_table.specs.inside.Reaching.{LayerLeads}
use Rattle.hk_table.specs.TakenIn.{TakesIn}
use Rattle.hk_table.proofs.tables.Table.support_into.Goals as goal
use Rattle.hk_text.specs.Sets.{members}

pub layer_support-found-requires-clause-leads : goal.layer_support-found-requires-clause-leads
layer_support-found-requires-clause-leads c =
    let level = c.loop-level.level in
    let shape = c.args.shape.now in
    let layers = c.as_slice-layers.result.now in
    let sets_are = c.as_slice-domains.ensures ∙ ap (λ (s : PlainShape). s.domains) c.shape.view_is in
    let layers_are = c.as_slice-layers.ensures ∙ c.self.view_is in
    let within : level < length shape.domains = omega (arith, ap length sets_are) in
    let there : level < length layers = omega (arith, ap length layers_are, c.requires.supportable.long) in
    let layer_is : get_or c.args.self.now level [] ≡ c.as_slice.result.now = ap (λ t. get_or t level []) (sym layers_are) ∙ sym (get_or_read layers level c.index-layers-level.result there c.index-layers-level.is []) ∙ sym c.as_slice.ensures in
    subst (λ sets. All (RowLeads (members (slice_index sets level)) 256) c.as_slice.result.now) (sym sets_are)
    (subst (All (RowLeads (members (slice_index shape.domains level)) 256)) layer_is (layer_leads shape c.args.self.now level c.requires.supportable within))

pub loop-level-preserved : goal.loop-level-preserved
loop-level-preserved c =
    let level = c.loop-level.level in
    let shape = c.args.shape.now in
    let layers = c.as_slice-layers.result.now in
    let found = c.layer_support-found.result in
    let layer = c.as_slice.result.now in
    let sets_are = c.as_slice-domains.ensures ∙ ap (λ (s : PlainShape). s.domains) c.shape.view_is in
    let layers_are = c.as_slice-layers.ensures ∙ c.self.view_is in
    let within : level < length shape.domains = omega (arith, ap length sets_are) in
    let there : level < length layers = omega (arith, ap length layers_are, c.requires.supportable.long) in
    let room : level < length c.loop-level.out = omega (arith, c.requires.places) in
    let read = layer_read layers level c.index-layers-level.result there c.index-layers-level.is ∙ ap (λ rows. rows ∷ drop (level + 1) layers) (sym c.as_slice.ensures) in
    support_more (layer_values shape) layers c.loop-level.out level c.loop-level.reached found.values found.rows (members (slice_index shape.domains level)) layer room (values_from shape level within) read
    (subst (λ sets. TakesIn (LayerLeads (members (slice_index sets level)) layer c.loop-level.reached (length layer)) 0 0 found.values found.rows) sets_are c.layer_support-found.ensures)
    c.loop-level.invariant
