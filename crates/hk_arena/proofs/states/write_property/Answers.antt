use Rattle.std.proofs.Common.{◌≡◌, ◌∙◌, ap, arith, inl, inr, w64, [], sym, subst}
use Rattle.std.proofs.Math.Facts.{to_z-of_z}
use Rattle.std.proofs.lemmas.Result.{on_ok_weaker}
use Rattle.hk_kinds.specs.Limits.{IsWithinLimit}
use Rattle.hk_arena.proofs.Properties.{number_held, interval_held, interval_limits, bits_held}
use Rattle.hk_arena.proofs.Writing.{nums_written, on_ok_both}
use Rattle.hk_arena.specs.Forms.{kind_nums, kind_sets}
use Rattle.hk_arena.proofs.states.write_property.Goals as goal

pub returns-in-Min-clause-ok : goal.returns-in-Min-clause-ok
returns-in-Min-clause-ok g c =
    let new = c.write_num.new.store.content in
    on_ok_weaker c.write_num.result (λ held. number_held c.args.kind c.args.value.now c.args.at c.args.num c.args.set new.nums new.bits c.requires.place c.requires.kind c.in-Min.is (held ∙ to_z-of_z {w = w64} {z = c.number.result} (record { sfits = c.number.type_inv }) ∙ c.number.ensures)) c.write_num.ensures.ok

pub returns-in-Min-clause-written : goal.returns-in-Min-clause-written
returns-in-Min-clause-written g c =
    let one : kind_nums c.args.kind ≡ 1 = elim c.in-Min.is [ inl is ↦ ap kind_nums is | inr is ↦ ap kind_nums is ] in
    nums_written c.args.num 1 c.args.num (kind_nums c.args.kind) c.args.set (kind_sets c.args.kind) 1 2 c.args.store.now c.write_num.new.store (omega arith) (omega arith) (omega arith) c.write_num.ensures.written

pub returns-in-Interval-clause-ok : goal.returns-in-Interval-clause-ok
returns-in-Interval-clause-ok g c =
    let new = c.write_pair.new.store.content in
    on_ok_both c.write_pair.result (λ low high. interval_held c.args.kind c.args.value.now c.args.at c.args.num c.args.set new.nums new.bits c.requires.place c.requires.kind c.in-Interval.is (low ∙ to_z-of_z {w = w64} {z = c.low.result} (record { sfits = c.low.type_inv }) ∙ c.low.ensures) (high ∙ to_z-of_z {w = w64} {z = c.high.result} (record { sfits = c.high.type_inv }) ∙ c.high.ensures)) c.write_pair.ensures.low c.write_pair.ensures.high

pub returns-in-Interval-clause-written : goal.returns-in-Interval-clause-written
returns-in-Interval-clause-written g c =
    let two : kind_nums c.args.kind ≡ 2 = ap kind_nums c.in-Interval.is in
    nums_written c.args.num 2 c.args.num (kind_nums c.args.kind) c.args.set (kind_sets c.args.kind) 2 2 c.args.store.now c.write_pair.new.store (omega arith) (omega arith) (omega arith) c.write_pair.ensures.written

pub returns-in-SomeBits-clause-ok : goal.returns-in-SomeBits-clause-ok
returns-in-SomeBits-clause-ok g c =
    let new = c.write_set.new.store.content in
    on_ok_weaker c.write_set.result (λ held. bits_held c.args.kind c.args.value.now c.args.at c.args.num c.args.set new.nums new.bits c.requires.place c.requires.kind c.in-SomeBits.is (held ∙ c.set.ensures)) c.write_set.ensures.ok

pub write_pair-requires-clause-low : goal.write_pair-requires-clause-low
write_pair-requires-clause-low g c =
    let limits = interval_limits c.args.kind c.args.value.now c.args.at c.args.num c.args.set [] [] c.requires.place c.requires.kind c.in-Interval.is in
    subst IsWithinLimit (sym (to_z-of_z {w = w64} {z = c.low.result} (record { sfits = c.low.type_inv }) ∙ c.low.ensures)) limits.0

pub write_pair-requires-clause-high : goal.write_pair-requires-clause-high
write_pair-requires-clause-high g c =
    let limits = interval_limits c.args.kind c.args.value.now c.args.at c.args.num c.args.set [] [] c.requires.place c.requires.kind c.in-Interval.is in
    subst IsWithinLimit (sym (to_z-of_z {w = w64} {z = c.high.result} (record { sfits = c.high.type_inv }) ∙ c.high.ensures)) limits.1
