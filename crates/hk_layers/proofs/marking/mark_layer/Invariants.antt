use Rattle.std.proofs.Common.{◌≡◌, ◌≤◌, ◌*◌, ◌++◌, List, length, drop}
use Rattle.hk_layers.specs.Falling.{AreLong}
use Rattle.hk_layers.specs.Spots.{mark_at}
use Rattle.hk_layers.specs.inside.Marked.{AreMarked, flat_marks, marks_of}
use Rattle.hk_layers.proofs.marking.mark_layer.Given as goal
use Rattle.hk_table.specs.Tables.{PlainRow, flat_entries}
use Rattle.hk_text.specs.Sets.{members}

-- the marks are those so far and those of the rows that are left; each row has made at most 128 candidates
abbrev pub invariant-loop-i : goal.invariant-loop-i
invariant-loop-i l =
    let values = members l.spot.values in record {
      marks : (old old_next : List PlainRow) → AreLong (length values) old → length old_next ≡ l.count → l.olds ≡ flat_entries old
          → flat_marks (mark_at l.spot old old_next) values l.front.halves ≡ marks_of l.marks ++ flat_marks (mark_at l.spot old old_next) values (drop l.i l.front.halves);
      marked : AreMarked l.spot l.count l.marks;
      candidates : length l.marks.candidates ≤ l.i * 128;
      width : l.marks.width ≡ l.initial.marks.width;
      fates : length l.marks.fates ≡ l.i * length values;
    }
