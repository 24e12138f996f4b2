-- Worked revisions of windows, with a sum and with costs: lags merge as intervals.
use Rattle.std.specs.Prelude.{◌≡◌, ℕ, pos, List, [], ◌∷◌}
use Rattle.std.proofs.Common.{ap, ◌∙◌}
use Rattle.hk_base.specs.Limits.{number_limit}
use Rattle.hk_group.specs.Groups.{PlainGroup}
use Rattle.hk_kinds.specs.declared.properties.Prop.TheVariants.{Num}
use Rattle.hk_spec.specs.Library.{sum_bound, sequence_bound, objective_bound}
use Rattle.hk_table.specs.Opening.{opening_layers}
use Rattle.hk_table.specs.Tables.{PlainRow}
use Rattle.hk_table.specs.declared.entries.Entry.TheVariants.{Gone, Cut, Dead, Live}
use Rattle.hk_sweep.proofs.Pieces.{beside, on, sum_piece, sequence_piece, objective_piece}
use Rattle.hk_sweep.proofs.Shown.{row, without_up, span, set_of, part}
use Rattle.hk_sweep.proofs.Transcribed.{transitions_are, sum_is, sequence_three_is, objective_is}
use Rattle.hk_sweep.specs.Tight.{tight}
use Rattle.hk_layers.specs.Transitions.{transitions_of}

-- a sequence beside a sum, of values with gaps
abbrev pub windows : PlainGroup
windows = record { vars = 0 ∷ 1 ∷ 2 ∷ 3 ∷ []; parts = part (0 ∷ 1 ∷ 2 ∷ 3 ∷ []) (sequence_bound 4 3 (set_of (2 ∷ [])) (pos 1) (pos 2)) ∷ part (0 ∷ 1 ∷ 2 ∷ 3 ∷ []) (sum_bound (pos 1 ∷ pos 1 ∷ pos 1 ∷ pos 1 ∷ []) (pos 9) (pos 12)) ∷ [] }

windows_is : transitions_of windows ≡ beside (0 ∷ 1 ∷ 2 ∷ 3 ∷ []) (on (0 ∷ 1 ∷ 2 ∷ 3 ∷ []) (sequence_piece 2 (set_of (2 ∷ [])) (pos 1) (pos 2)) ∷ on (0 ∷ 1 ∷ 2 ∷ 3 ∷ []) (sum_piece (pos 1 ∷ pos 1 ∷ pos 1 ∷ pos 1 ∷ []) (pos 9) (pos 12)) ∷ [])
windows_is = transitions_are windows ∙ (λ j. beside (0 ∷ 1 ∷ 2 ∷ 3 ∷ []) (on (0 ∷ 1 ∷ 2 ∷ 3 ∷ []) (sequence_three_is 4 (set_of (2 ∷ [])) (pos 1) (pos 2) j) ∷ on (0 ∷ 1 ∷ 2 ∷ 3 ∷ []) (sum_is (pos 1 ∷ pos 1 ∷ pos 1 ∷ pos 1 ∷ []) (pos 9) (pos 12) j) ∷ []))

abbrev windows_values : List (List ℕ)
windows_values = (0 ∷ 2 ∷ 5 ∷ []) ∷ (0 ∷ 2 ∷ []) ∷ (0 ∷ 2 ∷ 5 ∷ []) ∷ (2 ∷ 5 ∷ []) ∷ []

abbrev windows_opening : List (List PlainRow)
windows_opening = opening_layers (transitions_of windows).down_shape (transitions_of windows).up_shape windows_values

abbrev pub windows_1 : List (List PlainRow)
windows_1 =
    (row (span 0 0 ∷ span 0 0 ∷ span 0 0 ∷ span 0 0 ∷ []) (span 2 17 ∷ []) (0 ∷ []) (Live 0 ∷ Live 1 ∷ Live 0 ∷ []) ∷ [])
    ∷ (row (span 0 0 ∷ span 0 0 ∷ span 0 0 ∷ span 0 5 ∷ []) (span 2 12 ∷ []) (0 ∷ []) (Live 0 ∷ Live 0 ∷ []) ∷ row (span 1 1 ∷ span 0 0 ∷ span 0 0 ∷ span 2 2 ∷ []) (span 2 12 ∷ []) (0 ∷ []) (Live 1 ∷ Live 1 ∷ []) ∷ [])
    ∷ (row (span 0 1 ∷ span 0 0 ∷ span 0 0 ∷ span 0 7 ∷ []) (span 2 10 ∷ []) (0 ∷ []) (Live 0 ∷ Live 0 ∷ Live 0 ∷ []) ∷ row (span 1 2 ∷ span 1 1 ∷ span 0 0 ∷ span 2 4 ∷ []) (span 2 10 ∷ []) (0 ∷ []) (Live 1 ∷ Live 1 ∷ Live 1 ∷ []) ∷ [])
    ∷ (row (span 0 2 ∷ span 0 1 ∷ span 0 0 ∷ span 0 12 ∷ []) (span 2 5 ∷ []) (0 ∷ []) (Live 0 ∷ Live 0 ∷ []) ∷ row (span 1 3 ∷ span 1 2 ∷ span 1 1 ∷ span 2 9 ∷ []) (span 2 5 ∷ []) (0 ∷ []) (Live 1 ∷ Live 1 ∷ []) ∷ [])
    ∷ (row (span 0 3 ∷ span 0 2 ∷ span 0 1 ∷ span 2 17 ∷ []) (span 0 0 ∷ []) (0 ∷ []) [] ∷ row (span 1 4 ∷ span 1 3 ∷ span 1 2 ∷ span 4 14 ∷ []) (span 0 0 ∷ []) (0 ∷ []) [] ∷ []) ∷ []

pub windows_1_computes : tight (transitions_of windows) windows_values (set_of (0 ∷ 2 ∷ 5 ∷ []) ∷ set_of (0 ∷ 2 ∷ []) ∷ set_of (0 ∷ 2 ∷ 5 ∷ []) ∷ set_of (2 ∷ 5 ∷ []) ∷ []) number_limit 2 windows_opening ≡ windows_1
windows_1_computes = ap (λ t. tight t windows_values (set_of (0 ∷ 2 ∷ 5 ∷ []) ∷ set_of (0 ∷ 2 ∷ []) ∷ set_of (0 ∷ 2 ∷ 5 ∷ []) ∷ set_of (2 ∷ 5 ∷ []) ∷ []) number_limit 2 windows_opening) windows_is

abbrev pub windows_2 : List (List PlainRow)
windows_2 =
    (row (span 0 0 ∷ span 0 0 ∷ span 0 0 ∷ span 0 0 ∷ []) (span 6 12 ∷ []) (0 ∷ []) (Live 0 ∷ Gone ∷ Gone ∷ []) ∷ [])
    ∷ (row (span 0 0 ∷ span 0 0 ∷ span 0 0 ∷ span 0 0 ∷ []) (span 6 12 ∷ []) (0 ∷ []) (Dead 0 ∷ Live 1 ∷ []) ∷ [])
    ∷ (without_up (span 0 0 ∷ span 0 0 ∷ span 0 0 ∷ span 0 0 ∷ []) (0 ∷ []) (Cut ∷ Dead 0 ∷ Cut ∷ []) ∷ row (span 1 1 ∷ span 0 0 ∷ span 0 0 ∷ span 2 2 ∷ []) (span 4 10 ∷ []) (0 ∷ []) (Dead 0 ∷ Live 1 ∷ Live 1 ∷ []) ∷ [])
    ∷ (without_up (span 1 1 ∷ span 0 1 ∷ span 0 0 ∷ span 2 2 ∷ []) (0 ∷ []) (Dead 1 ∷ Dead 0 ∷ []) ∷ row (span 1 2 ∷ span 1 1 ∷ span 0 0 ∷ span 4 7 ∷ []) (span 2 5 ∷ []) (0 ∷ []) (Live 1 ∷ Live 0 ∷ []) ∷ [])
    ∷ (row (span 1 2 ∷ span 1 2 ∷ span 0 1 ∷ span 7 12 ∷ []) (span 0 0 ∷ []) (0 ∷ []) [] ∷ row (span 2 3 ∷ span 1 2 ∷ span 0 1 ∷ span 4 9 ∷ []) (span 0 0 ∷ []) (0 ∷ []) [] ∷ []) ∷ []

pub windows_2_computes : tight (transitions_of windows) windows_values (set_of (0 ∷ []) ∷ set_of (0 ∷ 2 ∷ []) ∷ set_of (0 ∷ 2 ∷ 5 ∷ []) ∷ set_of (2 ∷ 5 ∷ []) ∷ []) number_limit 2 windows_1 ≡ windows_2
windows_2_computes = ap (λ t. tight t windows_values (set_of (0 ∷ []) ∷ set_of (0 ∷ 2 ∷ []) ∷ set_of (0 ∷ 2 ∷ 5 ∷ []) ∷ set_of (2 ∷ 5 ∷ []) ∷ []) number_limit 2 windows_1) windows_is

abbrev pub windows_3 : List (List PlainRow)
windows_3 =
    (row (span 0 0 ∷ span 0 0 ∷ span 0 0 ∷ span 0 0 ∷ []) (span 9 12 ∷ []) (0 ∷ []) (Live 0 ∷ Gone ∷ Gone ∷ []) ∷ [])
    ∷ (row (span 0 0 ∷ span 0 0 ∷ span 0 0 ∷ span 0 0 ∷ []) (span 9 12 ∷ []) (0 ∷ []) (Gone ∷ Live 0 ∷ []) ∷ [])
    ∷ (row (span 1 1 ∷ span 0 0 ∷ span 0 0 ∷ span 2 2 ∷ []) (span 7 10 ∷ []) (1 ∷ []) (Gone ∷ Live 1 ∷ Live 0 ∷ []) ∷ [])
    ∷ (row (span 1 1 ∷ span 1 1 ∷ span 0 0 ∷ span 7 7 ∷ []) (span 2 5 ∷ []) (1 ∷ []) (Live 0 ∷ Live 0 ∷ []) ∷ row (span 2 2 ∷ span 1 1 ∷ span 0 0 ∷ span 4 4 ∷ []) (span 5 5 ∷ []) (1 ∷ []) (Cut ∷ Live 1 ∷ []) ∷ [])
    ∷ (row (span 1 2 ∷ span 1 1 ∷ span 1 1 ∷ span 9 12 ∷ []) (span 0 0 ∷ []) (0 ∷ 1 ∷ []) [] ∷ row (span 2 2 ∷ span 2 2 ∷ span 1 1 ∷ span 9 9 ∷ []) (span 0 0 ∷ []) (0 ∷ []) [] ∷ []) ∷ []

pub windows_3_computes : tight (transitions_of windows) windows_values (set_of (0 ∷ []) ∷ set_of (2 ∷ []) ∷ set_of (2 ∷ 5 ∷ []) ∷ set_of (2 ∷ 5 ∷ []) ∷ []) number_limit 2 windows_2 ≡ windows_3
windows_3_computes = ap (λ t. tight t windows_values (set_of (0 ∷ []) ∷ set_of (2 ∷ []) ∷ set_of (2 ∷ 5 ∷ []) ∷ set_of (2 ∷ 5 ∷ []) ∷ []) number_limit 2 windows_2) windows_is

abbrev pub windows_4 : List (List PlainRow)
windows_4 =
    (row (span 0 0 ∷ span 0 0 ∷ span 0 0 ∷ span 0 0 ∷ []) (span 9 9 ∷ []) (0 ∷ []) (Live 0 ∷ Gone ∷ Gone ∷ []) ∷ [])
    ∷ (row (span 0 0 ∷ span 0 0 ∷ span 0 0 ∷ span 0 0 ∷ []) (span 9 9 ∷ []) (0 ∷ []) (Gone ∷ Live 0 ∷ []) ∷ [])
    ∷ (row (span 1 1 ∷ span 0 0 ∷ span 0 0 ∷ span 2 2 ∷ []) (span 7 7 ∷ []) (0 ∷ []) (Gone ∷ Live 0 ∷ Gone ∷ []) ∷ [])
    ∷ (row (span 2 2 ∷ span 1 1 ∷ span 0 0 ∷ span 4 4 ∷ []) (span 5 5 ∷ []) (1 ∷ []) (Gone ∷ Live 0 ∷ []) ∷ [])
    ∷ (row (span 2 2 ∷ span 2 2 ∷ span 1 1 ∷ span 9 9 ∷ []) (span 0 0 ∷ []) (1 ∷ []) [] ∷ []) ∷ []

pub windows_4_computes : tight (transitions_of windows) windows_values (set_of (0 ∷ []) ∷ set_of (2 ∷ []) ∷ set_of (2 ∷ []) ∷ set_of (2 ∷ 5 ∷ []) ∷ []) number_limit 2 windows_3 ≡ windows_4
windows_4_computes = ap (λ t. tight t windows_values (set_of (0 ∷ []) ∷ set_of (2 ∷ []) ∷ set_of (2 ∷ []) ∷ set_of (2 ∷ 5 ∷ []) ∷ []) number_limit 2 windows_3) windows_is

-- a sequence beside costs
abbrev pub priced : PlainGroup
priced = record { vars = 0 ∷ 1 ∷ 2 ∷ 3 ∷ []; parts = part (0 ∷ 1 ∷ 2 ∷ 3 ∷ []) (sequence_bound 4 3 (set_of (1 ∷ [])) (pos 1) (pos 2)) ∷ part (0 ∷ 1 ∷ 2 ∷ 3 ∷ []) (objective_bound (pos 3 ∷ pos 1 ∷ pos 2 ∷ pos 2 ∷ [])) ∷ [] }

priced_is : transitions_of priced ≡ beside (0 ∷ 1 ∷ 2 ∷ 3 ∷ []) (on (0 ∷ 1 ∷ 2 ∷ 3 ∷ []) (sequence_piece 2 (set_of (1 ∷ [])) (pos 1) (pos 2)) ∷ on (0 ∷ 1 ∷ 2 ∷ 3 ∷ []) (objective_piece (pos 3 ∷ pos 1 ∷ pos 2 ∷ pos 2 ∷ [])) ∷ [])
priced_is = transitions_are priced ∙ (λ j. beside (0 ∷ 1 ∷ 2 ∷ 3 ∷ []) (on (0 ∷ 1 ∷ 2 ∷ 3 ∷ []) (sequence_three_is 4 (set_of (1 ∷ [])) (pos 1) (pos 2) j) ∷ on (0 ∷ 1 ∷ 2 ∷ 3 ∷ []) (objective_is (pos 3 ∷ pos 1 ∷ pos 2 ∷ pos 2 ∷ []) j) ∷ []))

abbrev priced_values : List (List ℕ)
priced_values = (0 ∷ 1 ∷ []) ∷ (0 ∷ 1 ∷ []) ∷ (0 ∷ 1 ∷ []) ∷ (0 ∷ 1 ∷ []) ∷ []

abbrev priced_opening : List (List PlainRow)
priced_opening = opening_layers (transitions_of priced).down_shape (transitions_of priced).up_shape priced_values

abbrev pub priced_1 : List (List PlainRow)
priced_1 =
    (row (span 0 0 ∷ span 0 0 ∷ span 0 0 ∷ Num (pos 0) ∷ []) (Num (pos 0) ∷ []) (0 ∷ []) (Live 0 ∷ Live 1 ∷ []) ∷ [])
    ∷ (row (span 0 0 ∷ span 0 0 ∷ span 0 0 ∷ Num (pos 0) ∷ []) (Num (pos 0) ∷ []) (0 ∷ []) (Live 0 ∷ Live 0 ∷ []) ∷ row (span 1 1 ∷ span 0 0 ∷ span 0 0 ∷ Num (pos 3) ∷ []) (Num (pos 0) ∷ []) (0 ∷ []) (Live 1 ∷ Live 2 ∷ []) ∷ [])
    ∷ (row (span 0 1 ∷ span 0 0 ∷ span 0 0 ∷ Num (pos 0) ∷ []) (Num (pos 0) ∷ []) (0 ∷ []) (Live 0 ∷ Live 1 ∷ []) ∷ row (span 1 1 ∷ span 1 1 ∷ span 0 0 ∷ Num (pos 3) ∷ []) (Num (pos 0) ∷ []) (0 ∷ []) (Live 0 ∷ Live 1 ∷ []) ∷ row (span 2 2 ∷ span 1 1 ∷ span 0 0 ∷ Num (pos 4) ∷ []) (Num (pos 0) ∷ []) (0 ∷ []) (Live 2 ∷ Cut ∷ []) ∷ [])
    ∷ (row (span 0 1 ∷ span 0 1 ∷ span 0 1 ∷ Num (pos 0) ∷ []) (Num (pos 0) ∷ []) (0 ∷ []) (Live 0 ∷ Live 0 ∷ []) ∷ row (span 1 2 ∷ span 0 1 ∷ span 0 1 ∷ Num (pos 2) ∷ []) (Num (pos 0) ∷ []) (0 ∷ []) (Live 1 ∷ Live 2 ∷ []) ∷ row (span 2 2 ∷ span 2 2 ∷ span 1 1 ∷ Num (pos 4) ∷ []) (Num (pos 0) ∷ []) (0 ∷ []) (Live 1 ∷ Live 2 ∷ []) ∷ [])
    ∷ (row (span 0 2 ∷ span 0 1 ∷ span 0 1 ∷ Num (pos 0) ∷ []) (Num (pos 0) ∷ []) (0 ∷ []) [] ∷ row (span 1 2 ∷ span 1 2 ∷ span 0 2 ∷ Num (pos 2) ∷ []) (Num (pos 0) ∷ []) (0 ∷ []) [] ∷ row (span 2 3 ∷ span 1 2 ∷ span 0 2 ∷ Num (pos 4) ∷ []) (Num (pos 0) ∷ []) (0 ∷ []) [] ∷ []) ∷ []

pub priced_1_computes : tight (transitions_of priced) priced_values (set_of (0 ∷ 1 ∷ []) ∷ set_of (0 ∷ 1 ∷ []) ∷ set_of (0 ∷ 1 ∷ []) ∷ set_of (0 ∷ 1 ∷ []) ∷ []) number_limit 3 priced_opening ≡ priced_1
priced_1_computes = ap (λ t. tight t priced_values (set_of (0 ∷ 1 ∷ []) ∷ set_of (0 ∷ 1 ∷ []) ∷ set_of (0 ∷ 1 ∷ []) ∷ set_of (0 ∷ 1 ∷ []) ∷ []) number_limit 3 priced_opening) priced_is

abbrev pub priced_2 : List (List PlainRow)
priced_2 =
    (row (span 0 0 ∷ span 0 0 ∷ span 0 0 ∷ Num (pos 0) ∷ []) (Num (pos 1) ∷ []) (0 ∷ []) (Live 0 ∷ Gone ∷ []) ∷ [])
    ∷ (row (span 0 0 ∷ span 0 0 ∷ span 0 0 ∷ Num (pos 0) ∷ []) (Num (pos 1) ∷ []) (0 ∷ []) (Live 0 ∷ Live 1 ∷ []) ∷ [])
    ∷ (row (span 0 0 ∷ span 0 0 ∷ span 0 0 ∷ Num (pos 0) ∷ []) (Num (pos 2) ∷ []) (0 ∷ []) (Cut ∷ Live 0 ∷ []) ∷ row (span 1 1 ∷ span 0 0 ∷ span 0 0 ∷ Num (pos 1) ∷ []) (Num (pos 0) ∷ []) (0 ∷ []) (Live 1 ∷ Live 2 ∷ []) ∷ [])
    ∷ (row (span 1 1 ∷ span 0 0 ∷ span 0 0 ∷ Num (pos 2) ∷ []) (Num (pos 0) ∷ []) (1 ∷ []) (Live 0 ∷ Live 1 ∷ []) ∷ row (span 1 1 ∷ span 1 1 ∷ span 0 0 ∷ Num (pos 1) ∷ []) (Num (pos 0) ∷ []) (0 ∷ []) (Live 0 ∷ Live 1 ∷ []) ∷ row (span 2 2 ∷ span 1 1 ∷ span 0 0 ∷ Num (pos 3) ∷ []) (Num (pos 0) ∷ []) (1 ∷ []) (Live 2 ∷ Cut ∷ []) ∷ [])
    ∷ (row (span 1 1 ∷ span 1 1 ∷ span 0 1 ∷ Num (pos 1) ∷ []) (Num (pos 0) ∷ []) (0 ∷ 1 ∷ []) [] ∷ row (span 2 2 ∷ span 1 1 ∷ span 0 1 ∷ Num (pos 3) ∷ []) (Num (pos 0) ∷ []) (0 ∷ 2 ∷ []) [] ∷ row (span 2 2 ∷ span 2 2 ∷ span 1 1 ∷ Num (pos 3) ∷ []) (Num (pos 0) ∷ []) (1 ∷ []) [] ∷ []) ∷ []

pub priced_2_computes : tight (transitions_of priced) priced_values (set_of (0 ∷ []) ∷ set_of (0 ∷ 1 ∷ []) ∷ set_of (0 ∷ 1 ∷ []) ∷ set_of (0 ∷ 1 ∷ []) ∷ []) number_limit 3 priced_1 ≡ priced_2
priced_2_computes = ap (λ t. tight t priced_values (set_of (0 ∷ []) ∷ set_of (0 ∷ 1 ∷ []) ∷ set_of (0 ∷ 1 ∷ []) ∷ set_of (0 ∷ 1 ∷ []) ∷ []) number_limit 3 priced_1) priced_is

abbrev pub priced_7 : List (List PlainRow)
priced_7 =
    (row (span 0 0 ∷ span 0 0 ∷ span 0 0 ∷ Num (pos 0) ∷ []) (Num (pos 1) ∷ []) (0 ∷ []) (Live 0 ∷ Gone ∷ []) ∷ [])
    ∷ (row (span 0 0 ∷ span 0 0 ∷ span 0 0 ∷ Num (pos 0) ∷ []) (Num (pos 1) ∷ []) (0 ∷ []) (Gone ∷ Live 0 ∷ []) ∷ [])
    ∷ (row (span 1 1 ∷ span 0 0 ∷ span 0 0 ∷ Num (pos 1) ∷ []) (Num (pos 0) ∷ []) (1 ∷ []) (Live 0 ∷ Dead 1 ∷ []) ∷ [])
    ∷ (row (span 1 1 ∷ span 1 1 ∷ span 0 0 ∷ Num (pos 1) ∷ []) (Num (pos 0) ∷ []) (1 ∷ []) (Live 0 ∷ Dead 1 ∷ []) ∷ without_up (span 2 2 ∷ span 1 1 ∷ span 0 0 ∷ Num (pos 3) ∷ []) (2 ∷ []) (Dead 2 ∷ Gone ∷ []) ∷ [])
    ∷ (row (span 1 1 ∷ span 1 1 ∷ span 1 1 ∷ Num (pos 1) ∷ []) (Num (pos 0) ∷ []) (0 ∷ []) [] ∷ row (span 2 2 ∷ span 1 1 ∷ span 1 1 ∷ Num (pos 3) ∷ []) (Num (pos 0) ∷ []) (1 ∷ []) [] ∷ row (span 2 2 ∷ span 2 2 ∷ span 1 1 ∷ Num (pos 3) ∷ []) (Num (pos 0) ∷ []) (2 ∷ []) [] ∷ []) ∷ []

pub priced_7_computes : tight (transitions_of priced) priced_values (set_of (0 ∷ []) ∷ set_of (1 ∷ []) ∷ set_of (0 ∷ 1 ∷ []) ∷ set_of (0 ∷ 1 ∷ []) ∷ []) (pos 2) 3 priced_2 ≡ priced_7
priced_7_computes = ap (λ t. tight t priced_values (set_of (0 ∷ []) ∷ set_of (1 ∷ []) ∷ set_of (0 ∷ 1 ∷ []) ∷ set_of (0 ∷ 1 ∷ []) ∷ []) (pos 2) 3 priced_2) priced_is

abbrev pub priced_8 : List (List PlainRow)
priced_8 =
    (row (span 0 0 ∷ span 0 0 ∷ span 0 0 ∷ Num (pos 0) ∷ []) (Num (pos 1) ∷ []) (0 ∷ []) (Live 0 ∷ Gone ∷ []) ∷ [])
    ∷ (row (span 0 0 ∷ span 0 0 ∷ span 0 0 ∷ Num (pos 0) ∷ []) (Num (pos 1) ∷ []) (0 ∷ []) (Gone ∷ Live 0 ∷ []) ∷ [])
    ∷ (row (span 1 1 ∷ span 0 0 ∷ span 0 0 ∷ Num (pos 1) ∷ []) (Num (pos 0) ∷ []) (0 ∷ []) (Live 0 ∷ Gone ∷ []) ∷ [])
    ∷ (row (span 1 1 ∷ span 1 1 ∷ span 0 0 ∷ Num (pos 1) ∷ []) (Num (pos 0) ∷ []) (0 ∷ []) (Live 0 ∷ Gone ∷ []) ∷ [])
    ∷ (row (span 1 1 ∷ span 1 1 ∷ span 1 1 ∷ Num (pos 1) ∷ []) (Num (pos 0) ∷ []) (0 ∷ []) [] ∷ []) ∷ []

pub priced_8_computes : tight (transitions_of priced) priced_values (set_of (0 ∷ []) ∷ set_of (1 ∷ []) ∷ set_of (0 ∷ []) ∷ set_of (0 ∷ []) ∷ []) (pos 2) 3 priced_7 ≡ priced_8
priced_8_computes = ap (λ t. tight t priced_values (set_of (0 ∷ []) ∷ set_of (1 ∷ []) ∷ set_of (0 ∷ []) ∷ set_of (0 ∷ []) ∷ []) (pos 2) 3 priced_7) priced_is

abbrev pub priced_9 : List (List PlainRow)
priced_9 =
    (without_up (span 0 0 ∷ span 0 0 ∷ span 0 0 ∷ Num (pos 0) ∷ []) (0 ∷ []) (Gone ∷ Dead 0 ∷ []) ∷ [])
    ∷ (without_up (span 1 1 ∷ span 0 0 ∷ span 0 0 ∷ Num (pos 3) ∷ []) (1 ∷ []) (Dead 0 ∷ Dead 1 ∷ []) ∷ [])
    ∷ (without_up (span 1 1 ∷ span 1 1 ∷ span 0 0 ∷ Num (pos 3) ∷ []) (1 ∷ []) (Dead 0 ∷ Dead 1 ∷ []) ∷ without_up (span 2 2 ∷ span 1 1 ∷ span 0 0 ∷ Num (pos 4) ∷ []) (2 ∷ []) (Dead 2 ∷ Gone ∷ []) ∷ [])
    ∷ (without_up (span 1 1 ∷ span 1 1 ∷ span 1 1 ∷ Num (pos 3) ∷ []) (0 ∷ []) (Cut ∷ Dead 0 ∷ []) ∷ without_up (span 2 2 ∷ span 1 1 ∷ span 1 1 ∷ Num (pos 5) ∷ []) (1 ∷ []) (Dead 0 ∷ Dead 1 ∷ []) ∷ without_up (span 2 2 ∷ span 2 2 ∷ span 1 1 ∷ Num (pos 4) ∷ []) (2 ∷ []) (Dead 1 ∷ Dead 2 ∷ []) ∷ [])
    ∷ (row (span 2 2 ∷ span 1 2 ∷ span 1 1 ∷ Num (pos 5) ∷ []) (Num (pos 0) ∷ []) (0 ∷ 1 ∷ []) [] ∷ row (span 2 3 ∷ span 2 2 ∷ span 1 2 ∷ Num (pos 4) ∷ []) (Num (pos 0) ∷ []) (1 ∷ 2 ∷ []) [] ∷ row (span 3 3 ∷ span 2 2 ∷ span 2 2 ∷ Num (pos 6) ∷ []) (Num (pos 0) ∷ []) (2 ∷ []) [] ∷ []) ∷ []

pub priced_9_computes : tight (transitions_of priced) priced_values (set_of (1 ∷ []) ∷ set_of (0 ∷ 1 ∷ []) ∷ set_of (0 ∷ 1 ∷ []) ∷ set_of (0 ∷ 1 ∷ []) ∷ []) (pos 1) 3 priced_1 ≡ priced_9
priced_9_computes = ap (λ t. tight t priced_values (set_of (1 ∷ []) ∷ set_of (0 ∷ 1 ∷ []) ∷ set_of (0 ∷ 1 ∷ []) ∷ set_of (0 ∷ 1 ∷ []) ∷ []) (pos 1) 3 priced_1) priced_is
