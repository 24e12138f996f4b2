use Rattle.std.proofs.Common.{◌≡◌, ◌≤◌, ◌+◌, ◌++◌, length, drop}
use Rattle.hk_layers.specs.inside.Marked.{AreMarked, marks_of}
use Rattle.hk_layers.specs.inside.Marking.{row_marks}
use Rattle.hk_layers.specs.inside.Targets.{lists_of}
use Rattle.hk_layers.proofs.marking.mark_row.Given as goal
use Rattle.hk_text.specs.Sets.{members}

-- the marks are those so far and those of the values and sets that are left
abbrev pub invariant-loop-at : goal.invariant-loop-at
invariant-loop-at l =
    let left = members l.left in
    let ahead = drop l.at l.sets in record {
      long : length ahead ≡ length left;
      marks : marks_of l.initial.marks ++ row_marks l.spot l.down (members l.spot.values) (lists_of l.sets) ≡ marks_of l.marks ++ row_marks l.spot l.down left (lists_of ahead);
      marked : AreMarked l.spot l.old_rows l.marks;
      candidates : length l.marks.candidates ≤ length l.initial.marks.candidates + l.at;
      width : l.marks.width ≡ l.initial.marks.width;
      fates : length l.marks.fates ≡ length l.initial.marks.fates + l.at;
    }
