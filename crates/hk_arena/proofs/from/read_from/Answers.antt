use Rattle.std.proofs.Common.{◌+◌, get_or, sym, ◌∙◌, ap, arith}
use Rattle.hk_arena.proofs.Framing.{there}
use Rattle.hk_arena.proofs.Places.{bits_within}
use Rattle.hk_arena.proofs.RowWrites.{row_from}
use Rattle.hk_arena.specs.Cells.{rows_in_set}
use Rattle.hk_arena.proofs.from.read_from.Goals as goal

pub first_bits-first-requires : goal.first_bits-first-requires
first_bits-first-requires c = (there c.args.layout.now c.args.store.now.content c.args.row c.requires.kept c.requires.row).place

pub bits_id-requires : goal.bits_id-requires
bits_id-requires c =
    let form = c.args.layout.now in
    let within = bits_within form c.args.row.layer c.args.row.at (there form c.args.store.now.content c.args.row c.requires.kept c.requires.row).place in
    omega (arith, c.requires.kept.bits, c.first_bits-first.ensures.place)

pub get_bits-low-requires : goal.get_bits-low-requires
get_bits-low-requires c =
    let form = c.args.layout.now in
    let within = bits_within form c.args.row.layer c.args.row.at (there form c.args.store.now.content c.args.row c.requires.kept c.requires.row).place in
    omega (arith, c.requires.kept.bits, c.first_bits-first.ensures.place, c.bits_id.ensures)

pub bits_id-requires-2 : goal.bits_id-requires-2
bits_id-requires-2 c =
    let form = c.args.layout.now in
    let within = bits_within form c.args.row.layer c.args.row.at (there form c.args.store.now.content c.args.row c.requires.kept c.requires.row).place in
    omega (arith, c.requires.kept.bits, c.first_bits-first.ensures.place)

pub get_bits-high-requires : goal.get_bits-high-requires
get_bits-high-requires c =
    let form = c.args.layout.now in
    let within = bits_within form c.args.row.layer c.args.row.at (there form c.args.store.now.content c.args.row c.requires.kept c.requires.row).place in
    omega (arith, c.requires.kept.bits, c.first_bits-first.ensures.place, c.bits_id-2.ensures)

pub returns : goal.returns
returns c =
    let form = c.args.layout.now in
    let content = c.args.store.now.content in
    let low = ap (λ n. get_or content.bits n 0) (sym (c.bits_id.ensures ∙ c.first_bits-first.ensures.place)) ∙ sym (c.get_bits-low.ensures 0) in
    let high = ap (λ n. get_or content.bits n 0) (sym (c.bits_id-2.ensures ∙ ap (λ n. n + 1) c.first_bits-first.ensures.place)) ∙ sym (c.get_bits-high.ensures 0) in
    ap rows_in_set c.of_halves.ensures ∙ sym (row_from form content c.args.row c.get_bits-low.result c.get_bits-high.result c.requires.kept c.requires.row low high)
