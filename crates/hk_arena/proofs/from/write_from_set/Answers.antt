use Rattle.std.proofs.Common.{◌≡◌, ◌+◌, ◌*◌, ◌^◌, get_or, sym, ◌∙◌, ap, arith}
use Rattle.std.proofs.lemmas.Result.{on_ok_weaker}
use Rattle.hk_arena.proofs.Framing.{there}
use Rattle.hk_arena.proofs.Places.{bits_within}
use Rattle.hk_arena.proofs.RowWrites.{from_inside, from_is, from_spans, from_written, row_becomes, row_written}
use Rattle.hk_arena.proofs.Writing.{both_sets, sets_written}
use Rattle.hk_arena.specs.Changes.{with_from}
use Rattle.hk_arena.specs.Cells.{rows_in_set}
use Rattle.hk_arena.specs.Forms.{bits_at}
use Rattle.hk_arena.proofs.from.write_from_set.Goals as goal

pub first_bits-first-requires : goal.first_bits-first-requires
first_bits-first-requires g c = (there c.args.layout.now c.args.store.now.content c.args.row c.requires.kept c.requires.row).place

pub write_set-requires-clause-place : goal.write_set-requires-clause-place
write_set-requires-clause-place g c =
    let within = bits_within c.args.layout.now c.args.row.layer c.args.row.at (there c.args.layout.now c.args.store.now.content c.args.row c.requires.kept c.requires.row).place in
    omega (arith, c.requires.kept.bits, c.first_bits-first.ensures.place)

pub write_set-requires-2-clause-place : goal.write_set-requires-2-clause-place
write_set-requires-2-clause-place g c =
    let within = bits_within c.args.layout.now c.args.row.layer c.args.row.at (there c.args.layout.now c.args.store.now.content c.args.row c.requires.kept c.requires.row).place in
    omega (arith, c.requires.kept.bits, c.first_bits-first.ensures.place, c.write_set.ensures.written.touched.bits.long)

pub returns-in_err-write_set-clause-written : goal.returns-in_err-write_set-clause-written
returns-in_err-write_set-clause-written g c =
    let form = c.args.layout.now in
    let row = c.args.row in
    let place = bits_at form row.layer row.at in
    row_written form row (from_spans form row.layer row.at) 2 c.args.store.now c.write_set.new.store c.requires.kept c.requires.row (from_inside form row.layer row.at)
    (sets_written place 1 0 0 place 2 1 2 c.args.store.now c.write_set.new.store (omega arith) (omega arith) (omega arith) (rw c.first_bits-first.ensures.place at c.write_set.ensures.written))

pub returns-clause-ok : goal.returns-clause-ok
returns-clause-ok g c =
    let form = c.args.layout.now in
    let row = c.args.row in
    let rows = rows_in_set c.args.set.now in
    let place = bits_at form row.layer row.at in
    let old = c.args.store.now in
    let new = c.write_set-2.new.store in
    let low = c.halves-low.result.0 in
    let high = c.halves-low.result.1 in
    let second = rw c.first_bits-first.ensures.place at c.write_set-2.ensures.written in
    let written = both_sets place old c.write_set.new.store new (rw c.first_bits-first.ensures.place at c.write_set.ensures.written) second in
    let low_held : get_or new.content.bits place 0 ≡ low = second.touched.bits.others place 0 (λ above under. omega arith) ∙ rw c.first_bits-first.ensures.place at c.in_ok-write_set.ensures.ok in
    let are : rows_in_set (high * 2 ^ 128 + low) ≡ rows = ap rows_in_set (sym c.halves-low.ensures.set) in
    on_ok_weaker c.write_set-2.result (λ high_held. row_becomes form row (from_spans form row.layer row.at) (with_from rows) old.content new.content c.requires.kept c.requires.row (from_inside form row.layer row.at) written.touched
    (from_written form row.layer row.at old.content new.content rows written.touched (from_is form row.layer row.at new.content low high low_held high_held ∙ are))) (rw c.first_bits-first.ensures.place at c.write_set-2.ensures.ok)

pub returns-clause-written : goal.returns-clause-written
returns-clause-written g c =
    let form = c.args.layout.now in
    let row = c.args.row in
    let place = bits_at form row.layer row.at in
    row_written form row (from_spans form row.layer row.at) 2 c.args.store.now c.write_set-2.new.store c.requires.kept c.requires.row (from_inside form row.layer row.at)
    (both_sets place c.args.store.now c.write_set.new.store c.write_set-2.new.store (rw c.first_bits-first.ensures.place at c.write_set.ensures.written) (rw c.first_bits-first.ensures.place at c.write_set-2.ensures.written))
