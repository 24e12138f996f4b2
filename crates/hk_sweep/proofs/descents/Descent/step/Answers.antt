use Rattle.std.proofs.Common.{◌≡◌, ◌+◌, ◌*◌, ◌<◌, suc, ◌∷◌, [], ◌++◌, length, take, arith, sym, ap, ◌∙◌, subst, slice_set}
use Rattle.hk_arena.specs.Diagrams.{rows_of}
use Rattle.hk_layers.specs.Falling.{AreLong, IsDown}
use Rattle.hk_layers.specs.Spots.{IsSpot, PlainSpot}
use Rattle.hk_text.specs.Sets.{members}
use Rattle.hk_sweep.specs.inside.Fallen.{AreFallen, FallsTo, IsFallen, reached}
use Rattle.hk_sweep.specs.Views.{DescentView, FallenView}
use Rattle.hk_sweep.specs.inside.Frames.{spot_at}
use Rattle.hk_sweep.proofs.Falls.{falls_on, is_spot, long_rows, same_rows}
use Rattle.hk_sweep.proofs.descents.Descent.step.Goals as goal

pub overflow_add-layer : goal.overflow_add-layer
overflow_add-layer c = omega (arith, c.requires.layer, c.fits.ensures.few_layers)

pub lead-requires-clause-spot : goal.lead-requires-clause-spot
lead-requires-clause-spot c = subst IsSpot (sym c.spot-spot.ensures) (is_spot _ _ _ c.requires.framed c.requires.layer c.fits.ensures.some c.fits.ensures.width)

pub lead-requires-clause-count : goal.lead-requires-clause-count
lead-requires-clause-count c = omega (arith, c.rows-count.ensures, c.fits.ensures.few (c.args.layer + 1), c.fits.ensures.width)

pub returns-clause-fallen : goal.returns-clause-fallen
returns-clause-fallen c =
    let frame = c.args.frame.now in
    let sets = c.args.diagram.now.shape.domains in
    let table = c.args.diagram.now.table in
    let at = c.args.layer in
    let layers = c.self.inside.layers.items in
    let here = c.self.inside.here in
    let left = c.lead.new.self in
    let next = c.lead.new.next in
    let one_more : suc at ≡ at + 1 = omega arith in
    let spot : c.spot-spot.result ≡ spot_at frame sets at = c.spot-spot.ensures in
    let same : left.halves ≡ here.halves = ap (λ (l : FallenView). l.halves) c.lead.ensures.kept in
    let was : IsFallen frame here = subst (λ (d : DescentView). IsFallen frame d.here) (sym c.self.view_is) c.requires.here in
    let room : at < length layers = subst (λ (d : DescentView). at < length d.layers) (sym c.self.view_is) c.requires.room in
    let long = long_rows _ _ sets table at c.fits.ensures.fits c.requires.layer in
    let down = c.in_ok-lead.ensures.down (rows_of table at) (rows_of table (at + 1)) (subst (λ (s : PlainSpot). AreLong (length (members s.values)) (rows_of table at)) (sym spot) long) (sym c.rows-count.ensures) (c.as_slice.ensures.value ∙ c.in_ok-entries_into.ensures) in
    let on : FallsTo frame sets table at left next.halves = record {
      own = same_rows frame here left same was;
      down = subst (λ n. IsDown (spot_at frame sets at) (rows_of table at) (rows_of table n) left.halves left.leads next.halves) (sym one_more)
          (subst (λ rows. IsDown (spot_at frame sets at) (rows_of table at) (rows_of table (at + 1)) rows left.leads next.halves) (sym same)
          (subst (λ spot. IsDown spot (rows_of table at) (rows_of table (at + 1)) here.halves left.leads next.halves) spot down));
      long = c.in_ok-lead.ensures.long
          ∙ ap (λ rows. length rows * length (members c.spot-spot.result.values)) (sym same)
          ∙ ap (λ (s : PlainSpot). length left.halves * length (members s.values)) spot;
    } in
    let fallen : AreFallen frame sets table (take at layers ++ here ∷ []) = subst (λ (d : DescentView). AreFallen frame sets table (reached at d)) (sym c.self.view_is) c.requires.fallen in
    let is = ap (λ n. take n (slice_set layers at left) ++ next ∷ []) one_more
    ∙ ap (λ all. take (at + 1) all ++ next ∷ []) (sym c.exchange.ensures.layers)
    ∙ ap (λ last. take (at + 1) c.exchange.new.layers.items ++ last ∷ []) (sym c.swap.ensures.x_after) in
    subst (AreFallen frame sets table) is (falls_on layers at here left next room same frame sets table on fallen)
