-- Sets of values as texts.
use Rattle.std.specs.Prelude.{ℕ, ◌==◌, List, [], ◌++◌, codes}
use Rattle.std.specs.Fmt.{decimal}
use Rattle.std.specs.Int.{bit_at}
use Rattle.std.specs.List.{filter, join_by, range_with_len}

-- the values below `end` that the set has, ascending: bit v of it is 1 for each value v
abbrev pub members_below : ℕ → ℕ → List ℕ
members_below set end = filter (λ value. bit_at set value == 1) (range_with_len 0 end)

-- the values below 128 that the set has, ascending
unfoldable pub members : ℕ → List ℕ
members set = members_below set 128

-- values in decimal, each after `lead`, with `between` between two
abbrev pub values_text : List ℕ → List ℕ → List ℕ → List ℕ
values_text lead between values = join_by (λ value. lead ++ decimal value) between values

-- a set in braces, with commas between its values
abbrev pub set_text : ℕ → List ℕ
set_text set = codes "{" ++ (values_text [] (codes ",") (members set) ++ codes "}")
