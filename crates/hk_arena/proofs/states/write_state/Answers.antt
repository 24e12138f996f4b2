use Rattle.std.proofs.Common.{◌≡◌, ◌+◌, ◌*◌, length, get_or, ◌∙◌, subst, arith}
use Rattle.std.proofs.lemmas.List.{take_all}
use Rattle.hk_kinds.specs.declared.kinds.Kind.TheVariants.{Min}
use Rattle.hk_arena.proofs.Properties.{kind_of, length-shape, nums_more, property_inside, property_room, sets_more, state_written}
use Rattle.hk_arena.proofs.Writing.{IsWritten-part, IsWritten-within}
use Rattle.hk_arena.specs.Forms.{kind_nums, kind_sets, nums_in, sets_in}
use Rattle.hk_arena.specs.Properties.{state_at}
use Rattle.hk_arena.specs.inside.Writes.{state_spans}
use Rattle.hk_arena.proofs.states.write_state.Goals as goal

pub write_property-requires-clause-room : goal.write_property-requires-clause-room
write_property-requires-clause-room g c =
    let l = c.loop-at in
    property_room c.args.kinds.now l.at c.args.first_num c.args.first_set l.num l.set c.args.store.now.content l.store.content c.loop-at-test.true l.invariant.nums l.invariant.sets c.requires.room l.invariant.written.touched

pub write_property-requires-clause-place : goal.write_property-requires-clause-place
write_property-requires-clause-place g c = let long = length-shape c.requires.shape in omega arith

pub write_property-requires-clause-kind : goal.write_property-requires-clause-kind
write_property-requires-clause-kind g c = kind_of c.loop-at.at c.requires.shape c.loop-at-test.true

pub overflow_add-num : goal.overflow_add-num
overflow_add-num g c =
    let l = c.loop-at in
    let room = property_room c.args.kinds.now l.at c.args.first_num c.args.first_set l.num l.set c.args.store.now.content l.store.content c.loop-at-test.true l.invariant.nums l.invariant.sets c.requires.room l.invariant.written.touched in
    omega (arith, room.nums, room.few_nums)

pub overflow_add-set : goal.overflow_add-set
overflow_add-set g c =
    let l = c.loop-at in
    let room = property_room c.args.kinds.now l.at c.args.first_num c.args.first_set l.num l.set c.args.store.now.content l.store.content c.loop-at-test.true l.invariant.nums l.invariant.sets c.requires.room l.invariant.written.touched in
    omega (arith, room.bits, room.few_bits)

pub returns-in_err-write_property-clause-written : goal.returns-in_err-write_property-clause-written
returns-in_err-write_property-clause-written g c =
    let l = c.loop-at in
    let kinds = c.args.kinds.now in
    let kind = get_or kinds l.at Min in
    let long = length-shape c.requires.shape in
    IsWritten-part (state_spans l.num (kind_nums kind) l.set (kind_sets kind)) (state_spans c.args.first_num (nums_in kinds) c.args.first_set (sets_in kinds)) (2 * l.at) 2 (2 * length c.args.value.now) c.args.store.now l.store c.write_property.new.store
    (property_inside kinds l.at c.args.first_num c.args.first_set l.num l.set c.loop-at-test.true l.invariant.nums l.invariant.sets) (omega arith) l.invariant.written c.write_property.ensures.written

pub loop-at-preserved : goal.loop-at-preserved
loop-at-preserved g c =
    let l = c.loop-at in
    let kinds = c.args.kinds.now in
    let kind = get_or kinds l.at Min in
    let new = c.write_property.new.store in
    let nums_end = nums_more kinds l.at c.loop-at-test.true in
    let sets_end = sets_more kinds l.at c.loop-at-test.true in record {
      nums = omega (arith, l.invariant.nums, nums_end, c.num_count-num.ensures);
      sets = omega (arith, l.invariant.sets, sets_end, c.set_count-set.ensures);
      done = state_written kinds c.args.value.now l.at c.args.first_num c.args.first_set l.num l.set l.store.content new.content c.requires.shape c.loop-at-test.true l.invariant.nums l.invariant.sets c.write_property.ensures.written.touched c.in_ok-write_property.ensures.ok l.invariant.done;
      written = IsWritten-part (state_spans l.num (kind_nums kind) l.set (kind_sets kind)) (state_spans c.args.first_num (nums_in kinds) c.args.first_set (sets_in kinds)) (2 * l.at) 2 (2 * (l.at + 1)) c.args.store.now l.store new
          (property_inside kinds l.at c.args.first_num c.args.first_set l.num l.set c.loop-at-test.true l.invariant.nums l.invariant.sets) (omega arith) l.invariant.written c.write_property.ensures.written;
      ticks = omega (arith, l.invariant.ticks, c.write_property.ensures.ticks);
    }

pub returns-clause-ok : goal.returns-clause-ok
returns-clause-ok g c =
    let l = c.loop-at in
    let content = l.store.content in
    let long = length-shape c.requires.shape in
    subst (λ kinds. state_at kinds c.args.first_num c.args.first_set content.nums content.bits ≡ c.args.value.now) (take_all l.at c.args.kinds.now c.loop-at-test.false)
    (l.invariant.done ∙ take_all l.at c.args.value.now (let past = c.loop-at-test.false in omega arith))

pub returns-clause-written : goal.returns-clause-written
returns-clause-written g c =
    let l = c.loop-at in
    let kinds = c.args.kinds.now in
    let long = length-shape c.requires.shape in
    let end = l.auto.at-end in
    IsWritten-within (state_spans c.args.first_num (nums_in kinds) c.args.first_set (sets_in kinds)) (2 * l.at) (2 * length c.args.value.now) c.args.store.now l.store (omega arith) l.invariant.written

pub returns-in_err-write_property-clause-ticks : goal.returns-in_err-write_property-clause-ticks
returns-in_err-write_property-clause-ticks g c =
    let long = length-shape c.requires.shape in
    omega (arith, c.loop-at.invariant.ticks, c.write_property.ensures.ticks)

pub returns-clause-ticks : goal.returns-clause-ticks
returns-clause-ticks g c =
    let long = length-shape c.requires.shape in
    omega (arith, c.loop-at.invariant.ticks, c.loop-at.auto.at-end)
