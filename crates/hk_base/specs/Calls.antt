-- The calls of one kind that a host in memory counts, and those that are to fail.
use Rattle.std.specs.Prelude.{ℕ, ◌+◌, min, [], ◌∷◌, ◌++◌, Contains}
use Rattle.hk_base.specs.Hosts.{largest_count}
use Rattle.hk_base.specs.declared.calls.Calls.{Calls}

-- one fault or call more; the count stays at the largest once it is there
abbrev pub one_more : ℕ → ℕ
one_more count = min (count + 1) largest_count

-- the next call is among those that are to fail. Calls are numbered from 1
abbrev pub NextFails : Calls → Type 0
NextFails calls = Contains calls.to_fail (one_more calls.count)

-- the calls once one more was made
abbrev pub counted : Calls → Calls
counted calls = record calls { count = one_more calls.count }

-- the calls once the call of this number is to fail
abbrev pub failing_at : Calls → ℕ → Calls
failing_at calls number = record calls { to_fail = calls.to_fail ++ number ∷ [] }
