use Rattle.std.proofs.Common.{sym, subst}
use Rattle.hk_lines.specs.inside.Ranges.{IsRange}
use Rattle.hk_lines.proofs.RangeBits.{range_bits-IsRange, range_shifts}
use Rattle.hk_lines.proofs.sets.range_set.Goals as goal

pub returns : goal.returns
returns c =
    let first = c.args.first in
    let last = c.args.last in
    subst (IsRange first last) (sym (range_shifts first last c.requires.within c.requires.ordered)) (range_bits-IsRange first last c.requires.within)
