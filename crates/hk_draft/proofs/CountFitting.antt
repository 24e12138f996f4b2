-- What the tests of an among, a sequence and a gcc say of its faults, and what is declared after it.
use Rattle.std.proofs.Common.{◌≡◌, ℕ, ◌<◌, ◌≤◌, List, [], ◌∷◌, map, length, Some, arith}
use Rattle.std.proofs.Math.Decide.{dec_lt}
use Rattle.hk_group.specs.Limits.{most_constraints}
use Rattle.hk_draft.specs.Drafts.{PlainDraft, HasGroup}
use Rattle.hk_lines.specs.Phrases.{Row, Counting}
use Rattle.hk_lines.specs.Statements.{Statement, Among, Sequence, Gcc}
use Rattle.hk_draft.specs.Declares.{place_of, IsWindow, AreOnce, Declares, declares_among, declares_sequence, declares_gcc}
use Rattle.hk_draft.specs.Faults.{IsContent, IsNameFault, not_declared, listed_twice, IsLimitFault, many_amongs, large_among, many_sequences, odd_window, large_sequence, many_gccs, large_row, no_row, no_group}
use Rattle.hk_draft.specs.inside.Fits.{FitsCounting, FitsRows, AddsAmong, AddsSequence, AddsGcc}
use Rattle.hk_draft.proofs.Effects.{no_places_of}
use Rattle.hk_draft.proofs.Rooms.{dec_group}

module _ {before : PlainDraft} (scope : List ℕ) where
  -- where the names of a scope have places, there is no fault of a name, unless a gcc lists a value twice
  pub among_named : {counting : Counting} → map (place_of before.names) counting.names ≡ map Some scope → IsNameFault before (Among counting) → ⊥
  among_named {counting = counting} places (not_declared none) = no_places_of before.names counting.names none scope places

  pub sequence_named : {window : ℕ} {counting : Counting} → map (place_of before.names) counting.names ≡ map Some scope → IsNameFault before (Sequence window counting) → ⊥
  sequence_named {counting = counting} places (not_declared none) = no_places_of before.names counting.names none scope places

  pub gcc_named : {names : List (List ℕ)} {rows : List Row} → map (place_of before.names) names ≡ map Some scope → AreOnce rows → IsNameFault before (Gcc names rows) → ⊥
  gcc_named {names = names} places once (not_declared none) = no_places_of before.names names none scope places
  gcc_named places once (listed_twice twice) = twice once

-- what fits passes no limit
pub among_fits : {before : PlainDraft} {counting : Counting} → FitsCounting counting before → IsLimitFault before (Among counting) → ⊥
among_fits fits (many_amongs many) = let room = fits.room in omega (arith, room, many)
among_fits fits (large_among large) = large fits.small
among_fits fits (no_group content none) = none fits.group

pub sequence_fits : {before : PlainDraft} {window : ℕ} {counting : Counting} → IsWindow window → FitsCounting counting before → IsLimitFault before (Sequence window counting) → ⊥
sequence_fits is_window fits (many_sequences many) = let room = fits.room in omega (arith, room, many)
sequence_fits is_window fits (odd_window odd) = odd is_window
sequence_fits is_window fits (large_sequence large) = large fits.small
sequence_fits is_window fits (no_group content none) = none fits.group

pub gcc_fits : {before : PlainDraft} {names : List (List ℕ)} {rows : List Row} → FitsRows rows before → IsLimitFault before (Gcc names rows) → ⊥
gcc_fits fits (many_gccs many) = let room = fits.room in omega (arith, room, many)
gcc_fits fits (large_row large) = large fits.small
gcc_fits fits no_row = let some = fits.some in omega (arith, some)
gcc_fits fits (no_group content none) = none fits.group

module _ {before : PlainDraft} where
  -- without room a limit is passed, and with room the rest may pass one
  by_room : {s : Statement} → IsContent s → (most_constraints ≤ length before.constraints → IsLimitFault before s) → (length before.constraints < most_constraints → HasGroup before → IsLimitFault before s) → IsLimitFault before s
  by_room {s = s} content many rest = by (dec_lt (length before.constraints) most_constraints) (dec_group before)
    where
      by : Dec (length before.constraints < most_constraints) → Dec (HasGroup before) → IsLimitFault before s
      by (yes room) (yes group) = rest room group
      by (yes room) (no none) = no_group content none
      by (no full) group = many (omega (arith, full))

  -- what doesn't fit passes one
  pub among_large : {counting : Counting} → (FitsCounting counting before → ⊥) → IsLimitFault before (Among counting)
  among_large none = by_room tt (λ many. many_amongs many) (λ room group. large_among (λ small. none (record { room = room; group = group; small = small })))

  pub sequence_large : {window : ℕ} {counting : Counting} → (FitsCounting counting before → ⊥) → IsLimitFault before (Sequence window counting)
  sequence_large none = by_room tt (λ many. many_sequences many) (λ room group. large_sequence (λ small. none (record { room = room; group = group; small = small })))

  pub gcc_large : {names : List (List ℕ)} {rows : List Row} → (FitsRows rows before → ⊥) → IsLimitFault before (Gcc names rows)
  gcc_large {rows = []} none = no_row
  gcc_large {rows = row ∷ rows} none = by_room tt (λ many. many_gccs many) (λ room group. large_row (λ small. none (record { some = omega arith; room = room; group = group; small = small })))

-- what is declared after them is declared after their statements
pub among_declares : {counting : Counting} {before after : PlainDraft} → AddsAmong counting before after → Declares (Some before) (Among counting) (Some after)
among_declares adds = declares_among adds.names_are adds.small adds.is_set adds.adds

pub sequence_declares : {window : ℕ} {counting : Counting} {before after : PlainDraft} → AddsSequence window counting before after → Declares (Some before) (Sequence window counting) (Some after)
sequence_declares adds = declares_sequence adds.names_are adds.is_window adds.small adds.is_set adds.adds

pub gcc_declares : {names : List (List ℕ)} {rows : List Row} {before after : PlainDraft} → AddsGcc names rows before after → Declares (Some before) (Gcc names rows) (Some after)
gcc_declares adds = declares_gcc adds.names_are adds.some adds.once adds.small adds.adds
