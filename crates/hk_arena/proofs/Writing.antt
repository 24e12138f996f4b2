-- Writes of cells, one after another and within more cells.
use Rattle.std.proofs.Common.{◌≡◌, ℕ, ℤ, ◌+◌, ◌<◌, ◌≤◌, List, set, map, refl, sym, ◌∙◌, subst, arith, Result, Ok, Err, length-set, get_or-set_other}
use Rattle.std.proofs.lemmas.List.Elements.{All-set}
use Rattle.std.specs.Result.{OnOk, OnErr}
use Rattle.hk_kinds.specs.Limits.{IsWithinLimit}
use Rattle.hk_trail.specs.Levels.{Levels}
use Rattle.hk_trail.specs.Places.{cell_count}
use Rattle.hk_trail.specs.Pools.{Content}
use Rattle.hk_arena.proofs.Numbering.{IsRaised-more, IsRaised-within}
use Rattle.hk_arena.specs.inside.Writes.{Span, Spans, no_span, state_spans, IsOutside, IsChangedWithin, IsTouched, IsWritten, HasRoom}

-- ---- one pool

pub IsChangedWithin-none : {X : Type 0} (span : Span) (items : List X) → IsChangedWithin span items items
IsChangedWithin-none span items = record { long = refl; others = λ place d outside. refl }

pub IsChangedWithin-then : {X : Type 0} (span : Span) (old middle new : List X) → IsChangedWithin span old middle → IsChangedWithin span middle new → IsChangedWithin span old new
IsChangedWithin-then span old middle new first second = record {
  long = second.long ∙ first.long;
  others = λ place d outside. second.others place d outside ∙ first.others place d outside;
}

pub IsChangedWithin-set : {X : Type 0} (span : Span) (items : List X) (place : ℕ) (item : X) → span.first ≤ place → place < span.first + span.count → IsChangedWithin span items (set items place item)
IsChangedWithin-set span items place item above below = record {
  long = length-set items place item;
  others = λ other d outside. get_or-set_other items place other item d (λ same. outside (omega arith) (omega arith));
}

-- these cells are among those
pub record IsInside (small large : Span) : Type 0 where
  pub within : (place : ℕ) → IsOutside large place → IsOutside small place

pub inside_none : (large : Span) → IsInside no_span large
inside_none large = record { within = λ place outside above below. omega arith }

pub inside_itself : (span : Span) → IsInside span span
inside_itself span = record { within = λ place outside. outside }

pub inside_part : (small large : Span) → large.first ≤ small.first → small.first + small.count ≤ large.first + large.count → IsInside small large
inside_part small large first end = record { within = λ place outside above below. outside (omega arith) (omega arith) }

IsChangedWithin-wider : {X : Type 0} (small large : Span) (old new : List X) → IsInside small large → IsChangedWithin small old new → IsChangedWithin large old new
IsChangedWithin-wider small large old new inside changed = record { long = changed.long; others = λ place d outside. changed.others place d (inside.within place outside) }

-- ---- the three pools

pub IsTouched-none : (spans : Spans) (content : Content) → IsTouched spans content content
IsTouched-none spans content = record {
  nums = IsChangedWithin-none spans.nums content.nums;
  bits = IsChangedWithin-none spans.bits content.bits;
  words = IsChangedWithin-none spans.words content.words;
  limits = λ limits. limits;
  sets = λ sets. sets;
}

pub IsTouched-then : (spans : Spans) (old middle new : Content) → IsTouched spans old middle → IsTouched spans middle new → IsTouched spans old new
IsTouched-then spans old middle new first second = record {
  nums = IsChangedWithin-then spans.nums old.nums middle.nums new.nums first.nums second.nums;
  bits = IsChangedWithin-then spans.bits old.bits middle.bits new.bits first.bits second.bits;
  words = IsChangedWithin-then spans.words old.words middle.words new.words first.words second.words;
  limits = λ limits. second.limits (first.limits limits);
  sets = λ sets. second.sets (first.sets sets);
}

-- these cells of each pool are among those
pub record AreInside (small large : Spans) : Type 0 where
  pub nums : IsInside small.nums large.nums
  pub bits : IsInside small.bits large.bits
  pub words : IsInside small.words large.words

pub IsTouched-wider : (small large : Spans) (old new : Content) → AreInside small large → IsTouched small old new → IsTouched large old new
IsTouched-wider small large old new inside touched = record {
  nums = IsChangedWithin-wider small.nums large.nums old.nums new.nums inside.nums touched.nums;
  bits = IsChangedWithin-wider small.bits large.bits old.bits new.bits inside.bits touched.bits;
  words = IsChangedWithin-wider small.words large.words old.words new.words inside.words touched.words;
  limits = touched.limits;
  sets = touched.sets;
}

pub touched_num : (content : Content) (place : ℕ) (value : ℤ) → IsWithinLimit value → IsTouched (state_spans place 1 0 0) content (record content { nums = set content.nums place value })
touched_num content place value limit = record {
  nums = IsChangedWithin-set (record { first = place; count = 1 }) content.nums place value (omega arith) (omega arith);
  bits = IsChangedWithin-none no_span content.bits;
  words = IsChangedWithin-none no_span content.words;
  limits = λ limits. All-set IsWithinLimit content.nums place value limit limits;
  sets = λ sets. sets;
}

-- ---- a store

pub on_ok_both : {T E P Q R : Type 0} (result : Result T E) → (P → Q → R) → OnOk result P → OnOk result Q → OnOk result R
on_ok_both (Ok done) both one other = both one other
on_ok_both (Err cause) both one other = tt

-- a call that may be refused wrote cells, or left them
pub touched_result : {T E : Type 0} (spans : Spans) (old new : Levels) (changed : Content) (result : Result T E) → IsTouched spans old.content changed → OnOk result (new.content ≡ changed) → OnErr result (new ≡ old) → IsTouched spans old.content new.content
touched_result spans old new changed (Ok done) touched ok err = subst (IsTouched spans old.content) (sym ok) touched
touched_result spans old new changed (Err cause) touched ok err = subst (λ (levels : Levels). IsTouched spans old.content levels.content) (sym err) (IsTouched-none spans old.content)

pub IsWritten-then : (spans : Spans) (one other : ℕ) (old middle new : Levels) → IsWritten spans one old middle → IsWritten spans other middle new → IsWritten spans (one + other) old new
IsWritten-then spans one other old middle new first second = record {
  touched = IsTouched-then spans old.content middle.content new.content first.touched second.touched;
  stack = second.stack ∙ first.stack;
  raised = IsRaised-more one other (map cell_count old.written) (map cell_count middle.written) (map cell_count new.written) first.raised second.raised;
}

pub IsWritten-within : (spans : Spans) (few most : ℕ) (old new : Levels) → few ≤ most → IsWritten spans few old new → IsWritten spans most old new
IsWritten-within spans few most old new within written = record { touched = written.touched; stack = written.stack; raised = IsRaised-within few most (map cell_count old.written) (map cell_count new.written) within written.raised }

pub IsWritten-wider : (small large : Spans) (few most : ℕ) (old new : Levels) → AreInside small large → few ≤ most → IsWritten small few old new → IsWritten large most old new
IsWritten-wider small large few most old new inside within written = record {
  touched = IsTouched-wider small large old.content new.content inside written.touched;
  stack = written.stack;
  raised = IsRaised-within few most (map cell_count old.written) (map cell_count new.written) within written.raised;
}

-- cells that are among others are written after those
pub IsWritten-part : (small large : Spans) (before more most : ℕ) (old middle new : Levels) → AreInside small large → before + more ≤ most → IsWritten large before old middle → IsWritten small more middle new → IsWritten large most old new
IsWritten-part small large before more most old middle new inside within first second = IsWritten-within large (before + more) most old new within (IsWritten-then large before more old middle new first (IsWritten-wider small large more more middle new inside (omega arith) second))

-- a write of some numbers, or of some sets, is one of a part of a state's cells
pub nums_written : (at some num nums set sets few most : ℕ) (old new : Levels) → num ≤ at → at + some ≤ num + nums → few ≤ most → IsWritten (state_spans at some 0 0) few old new → IsWritten (state_spans num nums set sets) most old new
nums_written at some num nums set sets few most old new above end within written =
    IsWritten-wider (state_spans at some 0 0) (state_spans num nums set sets) few most old new
    (record { nums = inside_part (record { first = at; count = some }) (record { first = num; count = nums }) above end; bits = inside_none (record { first = set; count = sets }); words = inside_none no_span }) within written

pub sets_written : (at some num nums set sets few most : ℕ) (old new : Levels) → set ≤ at → at + some ≤ set + sets → few ≤ most → IsWritten (state_spans 0 0 at some) few old new → IsWritten (state_spans num nums set sets) most old new
sets_written at some num nums set sets few most old new above end within written =
    IsWritten-wider (state_spans 0 0 at some) (state_spans num nums set sets) few most old new
    (record { nums = inside_none (record { first = num; count = nums }); bits = inside_part (record { first = at; count = some }) (record { first = set; count = sets }) above end; words = inside_none no_span }) within written

-- two sets, one after the other
pub both_sets : (at : ℕ) (old middle new : Levels) → IsWritten (state_spans 0 0 at 1) 1 old middle → IsWritten (state_spans 0 0 (at + 1) 1) 1 middle new → IsWritten (state_spans 0 0 at 2) 2 old new
both_sets at old middle new first second = IsWritten-then (state_spans 0 0 at 2) 1 1 old middle new (sets_written at 1 0 0 at 2 1 1 old middle (omega arith) (omega arith) (omega arith) first) (sets_written (at + 1) 1 0 0 at 2 1 1 middle new (omega arith) (omega arith) (omega arith) second)

-- cells that are there still are
pub HasRoom-touched : (spans written : Spans) (old new : Content) → HasRoom spans old → IsTouched written old new → HasRoom spans new
HasRoom-touched spans written old new room touched = record {
  nums = omega (arith, room.nums, touched.nums.long);
  bits = omega (arith, room.bits, touched.bits.long);
  few_nums = omega (arith, room.few_nums, touched.nums.long);
  few_bits = omega (arith, room.few_bits, touched.bits.long);
}
