-- Worked revisions of sets: those that some lists hold and those that all do, alone and beside windows.
use Rattle.std.specs.Prelude.{◌≡◌, ℕ, pos, List, [], ◌∷◌}
use Rattle.std.proofs.Common.{ap, ◌∙◌}
use Rattle.hk_base.specs.Limits.{number_limit}
use Rattle.hk_group.specs.Groups.{PlainGroup}
use Rattle.hk_spec.specs.Library.{sequence_bound, alldifferent_bound}
use Rattle.hk_table.specs.Opening.{opening_layers}
use Rattle.hk_table.specs.Tables.{PlainRow}
use Rattle.hk_table.specs.declared.entries.Entry.TheVariants.{Gone, Cut, Dead, Live}
use Rattle.hk_sweep.proofs.Pieces.{beside, on, sequence_piece, alldifferent_piece}
use Rattle.hk_sweep.proofs.Shown.{row, without_up, span, bits, set_of, part}
use Rattle.hk_sweep.proofs.Transcribed.{transitions_are, sequence_two_is, alldifferent_is}
use Rattle.hk_sweep.specs.Tight.{tight}
use Rattle.hk_layers.specs.Transitions.{transitions_of}

-- four variables that differ, of sets that differ
abbrev pub distinct : PlainGroup
distinct = record { vars = 0 ∷ 1 ∷ 2 ∷ 3 ∷ []; parts = part (0 ∷ 1 ∷ 2 ∷ 3 ∷ []) (alldifferent_bound 4) ∷ [] }

distinct_is : transitions_of distinct ≡ beside (0 ∷ 1 ∷ 2 ∷ 3 ∷ []) (on (0 ∷ 1 ∷ 2 ∷ 3 ∷ []) (alldifferent_piece 4) ∷ [])
distinct_is = transitions_are distinct ∙ (λ j. beside (0 ∷ 1 ∷ 2 ∷ 3 ∷ []) (on (0 ∷ 1 ∷ 2 ∷ 3 ∷ []) (alldifferent_is 4 j) ∷ []))

abbrev distinct_values : List (List ℕ)
distinct_values = (0 ∷ 1 ∷ []) ∷ (0 ∷ 1 ∷ 2 ∷ []) ∷ (1 ∷ 2 ∷ 3 ∷ []) ∷ (0 ∷ 1 ∷ []) ∷ []

abbrev distinct_opening : List (List PlainRow)
distinct_opening = opening_layers (transitions_of distinct).down_shape (transitions_of distinct).up_shape distinct_values

abbrev pub distinct_1 : List (List PlainRow)
distinct_1 =
    (row (bits [] ∷ bits [] ∷ []) (bits (0 ∷ 1 ∷ 2 ∷ 3 ∷ []) ∷ bits (3 ∷ []) ∷ []) (0 ∷ []) (Live 0 ∷ Live 1 ∷ []) ∷ [])
    ∷ (row (bits (0 ∷ []) ∷ bits (0 ∷ []) ∷ []) (bits (0 ∷ 1 ∷ 2 ∷ 3 ∷ []) ∷ bits (3 ∷ []) ∷ []) (0 ∷ []) (Cut ∷ Live 0 ∷ Live 0 ∷ []) ∷ row (bits (1 ∷ []) ∷ bits (1 ∷ []) ∷ []) (bits (0 ∷ 1 ∷ 2 ∷ 3 ∷ []) ∷ bits (3 ∷ []) ∷ []) (0 ∷ []) (Live 0 ∷ Cut ∷ Live 1 ∷ []) ∷ [])
    ∷ (row (bits (0 ∷ 1 ∷ 2 ∷ []) ∷ bits (0 ∷ []) ∷ []) (bits (0 ∷ 1 ∷ 3 ∷ []) ∷ bits (3 ∷ []) ∷ []) (0 ∷ []) (Dead 0 ∷ Dead 0 ∷ Live 1 ∷ []) ∷ row (bits (1 ∷ 2 ∷ []) ∷ bits (1 ∷ 2 ∷ []) ∷ []) (bits (0 ∷ 1 ∷ 3 ∷ []) ∷ bits (3 ∷ []) ∷ []) (0 ∷ []) (Cut ∷ Cut ∷ Live 1 ∷ []) ∷ [])
    ∷ (without_up (bits (0 ∷ 1 ∷ 2 ∷ []) ∷ bits (0 ∷ []) ∷ []) (0 ∷ []) (Cut ∷ Cut ∷ []) ∷ row (bits (0 ∷ 1 ∷ 2 ∷ 3 ∷ []) ∷ bits (3 ∷ []) ∷ []) (bits (0 ∷ 1 ∷ []) ∷ bits [] ∷ []) (0 ∷ []) (Live 0 ∷ Live 1 ∷ []) ∷ [])
    ∷ (row (bits (0 ∷ 1 ∷ 2 ∷ 3 ∷ []) ∷ bits (0 ∷ 3 ∷ []) ∷ []) (bits [] ∷ bits [] ∷ []) (0 ∷ []) [] ∷ row (bits (0 ∷ 1 ∷ 2 ∷ 3 ∷ []) ∷ bits (1 ∷ 3 ∷ []) ∷ []) (bits [] ∷ bits [] ∷ []) (0 ∷ []) [] ∷ []) ∷ []

pub distinct_1_computes : tight (transitions_of distinct) distinct_values (set_of (0 ∷ 1 ∷ []) ∷ set_of (0 ∷ 1 ∷ 2 ∷ []) ∷ set_of (1 ∷ 2 ∷ 3 ∷ []) ∷ set_of (0 ∷ 1 ∷ []) ∷ []) number_limit 2 distinct_opening ≡ distinct_1
distinct_1_computes = ap (λ t. tight t distinct_values (set_of (0 ∷ 1 ∷ []) ∷ set_of (0 ∷ 1 ∷ 2 ∷ []) ∷ set_of (1 ∷ 2 ∷ 3 ∷ []) ∷ set_of (0 ∷ 1 ∷ []) ∷ []) number_limit 2 distinct_opening) distinct_is

abbrev pub distinct_2 : List (List PlainRow)
distinct_2 =
    (row (bits [] ∷ bits [] ∷ []) (bits (0 ∷ 1 ∷ 2 ∷ 3 ∷ []) ∷ bits (0 ∷ 1 ∷ 3 ∷ []) ∷ []) (0 ∷ []) (Live 0 ∷ Live 1 ∷ []) ∷ [])
    ∷ (row (bits (0 ∷ []) ∷ bits (0 ∷ []) ∷ []) (bits (1 ∷ 2 ∷ 3 ∷ []) ∷ bits (1 ∷ 2 ∷ 3 ∷ []) ∷ []) (0 ∷ []) (Gone ∷ Dead 0 ∷ Live 0 ∷ []) ∷ row (bits (1 ∷ []) ∷ bits (1 ∷ []) ∷ []) (bits (0 ∷ 1 ∷ 2 ∷ 3 ∷ []) ∷ bits (0 ∷ 3 ∷ []) ∷ []) (1 ∷ []) (Live 0 ∷ Gone ∷ Live 1 ∷ []) ∷ [])
    ∷ (row (bits (0 ∷ 1 ∷ 2 ∷ []) ∷ bits (0 ∷ []) ∷ []) (bits (1 ∷ 3 ∷ []) ∷ bits (1 ∷ 3 ∷ []) ∷ []) (0 ∷ []) (Gone ∷ Gone ∷ Live 1 ∷ []) ∷ row (bits (1 ∷ 2 ∷ []) ∷ bits (1 ∷ 2 ∷ []) ∷ []) (bits (0 ∷ 3 ∷ []) ∷ bits (0 ∷ 3 ∷ []) ∷ []) (1 ∷ []) (Gone ∷ Gone ∷ Live 0 ∷ []) ∷ [])
    ∷ (row (bits (1 ∷ 2 ∷ 3 ∷ []) ∷ bits (1 ∷ 2 ∷ 3 ∷ []) ∷ []) (bits (0 ∷ []) ∷ bits (0 ∷ []) ∷ []) (1 ∷ []) (Live 1 ∷ Cut ∷ []) ∷ row (bits (0 ∷ 1 ∷ 2 ∷ 3 ∷ []) ∷ bits (0 ∷ 3 ∷ []) ∷ []) (bits (1 ∷ []) ∷ bits (1 ∷ []) ∷ []) (1 ∷ []) (Cut ∷ Live 0 ∷ []) ∷ [])
    ∷ (row (bits (0 ∷ 1 ∷ 2 ∷ 3 ∷ []) ∷ bits (0 ∷ 1 ∷ 3 ∷ []) ∷ []) (bits [] ∷ bits [] ∷ []) (1 ∷ []) [] ∷ row (bits (0 ∷ 1 ∷ 2 ∷ 3 ∷ []) ∷ bits (0 ∷ 1 ∷ 2 ∷ 3 ∷ []) ∷ []) (bits [] ∷ bits [] ∷ []) (0 ∷ []) [] ∷ []) ∷ []

pub distinct_2_computes : tight (transitions_of distinct) distinct_values (set_of (0 ∷ 1 ∷ []) ∷ set_of (0 ∷ 1 ∷ 2 ∷ []) ∷ set_of (3 ∷ []) ∷ set_of (0 ∷ 1 ∷ []) ∷ []) number_limit 2 distinct_1 ≡ distinct_2
distinct_2_computes = ap (λ t. tight t distinct_values (set_of (0 ∷ 1 ∷ []) ∷ set_of (0 ∷ 1 ∷ 2 ∷ []) ∷ set_of (3 ∷ []) ∷ set_of (0 ∷ 1 ∷ []) ∷ []) number_limit 2 distinct_1) distinct_is

abbrev pub distinct_3 : List (List PlainRow)
distinct_3 =
    (row (bits [] ∷ bits [] ∷ []) (bits (0 ∷ 1 ∷ 2 ∷ 3 ∷ []) ∷ bits (0 ∷ 1 ∷ 3 ∷ []) ∷ []) (0 ∷ []) (Live 0 ∷ Live 1 ∷ []) ∷ [])
    ∷ (row (bits (0 ∷ []) ∷ bits (0 ∷ []) ∷ []) (bits (1 ∷ 2 ∷ 3 ∷ []) ∷ bits (1 ∷ 2 ∷ 3 ∷ []) ∷ []) (0 ∷ []) (Gone ∷ Gone ∷ Live 0 ∷ []) ∷ row (bits (1 ∷ []) ∷ bits (1 ∷ []) ∷ []) (bits (0 ∷ 1 ∷ 2 ∷ 3 ∷ []) ∷ bits (0 ∷ 3 ∷ []) ∷ []) (1 ∷ []) (Live 0 ∷ Gone ∷ Live 1 ∷ []) ∷ [])
    ∷ (row (bits (0 ∷ 1 ∷ 2 ∷ []) ∷ bits (0 ∷ []) ∷ []) (bits (1 ∷ 3 ∷ []) ∷ bits (1 ∷ 3 ∷ []) ∷ []) (0 ∷ []) (Gone ∷ Gone ∷ Live 1 ∷ []) ∷ row (bits (1 ∷ 2 ∷ []) ∷ bits (1 ∷ 2 ∷ []) ∷ []) (bits (0 ∷ 3 ∷ []) ∷ bits (0 ∷ 3 ∷ []) ∷ []) (1 ∷ []) (Gone ∷ Gone ∷ Live 0 ∷ []) ∷ [])
    ∷ (row (bits (1 ∷ 2 ∷ 3 ∷ []) ∷ bits (1 ∷ 2 ∷ 3 ∷ []) ∷ []) (bits (0 ∷ []) ∷ bits (0 ∷ []) ∷ []) (0 ∷ []) (Live 1 ∷ Gone ∷ []) ∷ row (bits (0 ∷ 1 ∷ 2 ∷ 3 ∷ []) ∷ bits (0 ∷ 3 ∷ []) ∷ []) (bits (1 ∷ []) ∷ bits (1 ∷ []) ∷ []) (1 ∷ []) (Gone ∷ Live 0 ∷ []) ∷ [])
    ∷ (row (bits (0 ∷ 1 ∷ 2 ∷ 3 ∷ []) ∷ bits (0 ∷ 1 ∷ 3 ∷ []) ∷ []) (bits [] ∷ bits [] ∷ []) (0 ∷ []) [] ∷ row (bits (0 ∷ 1 ∷ 2 ∷ 3 ∷ []) ∷ bits (0 ∷ 1 ∷ 2 ∷ 3 ∷ []) ∷ []) (bits [] ∷ bits [] ∷ []) (1 ∷ []) [] ∷ []) ∷ []

pub distinct_3_computes : tight (transitions_of distinct) distinct_values (set_of (0 ∷ 1 ∷ []) ∷ set_of (0 ∷ 2 ∷ []) ∷ set_of (3 ∷ []) ∷ set_of (0 ∷ 1 ∷ []) ∷ []) number_limit 2 distinct_2 ≡ distinct_3
distinct_3_computes = ap (λ t. tight t distinct_values (set_of (0 ∷ 1 ∷ []) ∷ set_of (0 ∷ 2 ∷ []) ∷ set_of (3 ∷ []) ∷ set_of (0 ∷ 1 ∷ []) ∷ []) number_limit 2 distinct_2) distinct_is

abbrev pub distinct_4 : List (List PlainRow)
distinct_4 =
    (row (bits [] ∷ bits [] ∷ []) (bits (0 ∷ 1 ∷ 2 ∷ 3 ∷ []) ∷ bits (0 ∷ 1 ∷ 2 ∷ 3 ∷ []) ∷ []) (0 ∷ []) (Live 0 ∷ Gone ∷ []) ∷ [])
    ∷ (row (bits (0 ∷ []) ∷ bits (0 ∷ []) ∷ []) (bits (1 ∷ 2 ∷ 3 ∷ []) ∷ bits (1 ∷ 2 ∷ 3 ∷ []) ∷ []) (0 ∷ []) (Gone ∷ Gone ∷ Live 0 ∷ []) ∷ [])
    ∷ (row (bits (0 ∷ 2 ∷ []) ∷ bits (0 ∷ 2 ∷ []) ∷ []) (bits (1 ∷ 3 ∷ []) ∷ bits (1 ∷ 3 ∷ []) ∷ []) (0 ∷ []) (Gone ∷ Gone ∷ Live 0 ∷ []) ∷ [])
    ∷ (row (bits (0 ∷ 2 ∷ 3 ∷ []) ∷ bits (0 ∷ 2 ∷ 3 ∷ []) ∷ []) (bits (1 ∷ []) ∷ bits (1 ∷ []) ∷ []) (1 ∷ []) (Gone ∷ Live 0 ∷ []) ∷ [])
    ∷ (row (bits (0 ∷ 1 ∷ 2 ∷ 3 ∷ []) ∷ bits (0 ∷ 1 ∷ 2 ∷ 3 ∷ []) ∷ []) (bits [] ∷ bits [] ∷ []) (0 ∷ []) [] ∷ []) ∷ []

pub distinct_4_computes : tight (transitions_of distinct) distinct_values (set_of (0 ∷ []) ∷ set_of (0 ∷ 2 ∷ []) ∷ set_of (3 ∷ []) ∷ set_of (0 ∷ 1 ∷ []) ∷ []) number_limit 2 distinct_3 ≡ distinct_4
distinct_4_computes = ap (λ t. tight t distinct_values (set_of (0 ∷ []) ∷ set_of (0 ∷ 2 ∷ []) ∷ set_of (3 ∷ []) ∷ set_of (0 ∷ 1 ∷ []) ∷ []) number_limit 2 distinct_3) distinct_is

-- parts of which each has layers that it has no place on
abbrev pub differing : PlainGroup
differing = record { vars = 0 ∷ 1 ∷ 2 ∷ 3 ∷ []; parts = part (0 ∷ 2 ∷ 3 ∷ []) (alldifferent_bound 3) ∷ part (0 ∷ 1 ∷ 3 ∷ []) (sequence_bound 3 2 (set_of (1 ∷ 3 ∷ [])) (pos 1) (pos 1)) ∷ [] }

differing_is : transitions_of differing ≡ beside (0 ∷ 1 ∷ 2 ∷ 3 ∷ []) (on (0 ∷ 2 ∷ 3 ∷ []) (alldifferent_piece 3) ∷ on (0 ∷ 1 ∷ 3 ∷ []) (sequence_piece 1 (set_of (1 ∷ 3 ∷ [])) (pos 1) (pos 1)) ∷ [])
differing_is = transitions_are differing ∙ (λ j. beside (0 ∷ 1 ∷ 2 ∷ 3 ∷ []) (on (0 ∷ 2 ∷ 3 ∷ []) (alldifferent_is 3 j) ∷ on (0 ∷ 1 ∷ 3 ∷ []) (sequence_two_is 3 (set_of (1 ∷ 3 ∷ [])) (pos 1) (pos 1) j) ∷ []))

abbrev differing_values : List (List ℕ)
differing_values = (1 ∷ 3 ∷ []) ∷ (0 ∷ 1 ∷ []) ∷ (0 ∷ 1 ∷ 3 ∷ []) ∷ (0 ∷ 3 ∷ []) ∷ []

abbrev differing_opening : List (List PlainRow)
differing_opening = opening_layers (transitions_of differing).down_shape (transitions_of differing).up_shape differing_values

abbrev pub differing_1 : List (List PlainRow)
differing_1 =
    (row (bits [] ∷ bits [] ∷ span 0 0 ∷ span 0 0 ∷ []) (bits (0 ∷ 1 ∷ 3 ∷ []) ∷ bits (0 ∷ 1 ∷ 3 ∷ []) ∷ []) (0 ∷ []) (Live 0 ∷ Dead 1 ∷ []) ∷ [])
    ∷ (row (bits (1 ∷ []) ∷ bits (1 ∷ []) ∷ span 1 1 ∷ span 0 0 ∷ []) (bits (0 ∷ 3 ∷ []) ∷ bits (0 ∷ 3 ∷ []) ∷ []) (0 ∷ []) (Live 0 ∷ Cut ∷ []) ∷ row (bits (3 ∷ []) ∷ bits (3 ∷ []) ∷ span 1 1 ∷ span 0 0 ∷ []) (bits (0 ∷ 3 ∷ []) ∷ bits (0 ∷ 3 ∷ []) ∷ []) (0 ∷ []) (Live 1 ∷ Cut ∷ []) ∷ [])
    ∷ (row (bits (1 ∷ []) ∷ bits (1 ∷ []) ∷ span 1 1 ∷ span 1 1 ∷ []) (bits (0 ∷ 3 ∷ []) ∷ bits (0 ∷ 3 ∷ []) ∷ []) (0 ∷ []) (Live 0 ∷ Cut ∷ Dead 1 ∷ []) ∷ row (bits (3 ∷ []) ∷ bits (3 ∷ []) ∷ span 1 1 ∷ span 1 1 ∷ []) (bits (0 ∷ 3 ∷ []) ∷ bits (0 ∷ 3 ∷ []) ∷ []) (0 ∷ []) (Live 0 ∷ Dead 1 ∷ Cut ∷ []) ∷ [])
    ∷ (row (bits (0 ∷ 1 ∷ 3 ∷ []) ∷ bits (0 ∷ []) ∷ span 1 1 ∷ span 1 1 ∷ []) (bits (3 ∷ []) ∷ bits (3 ∷ []) ∷ []) (0 ∷ []) (Cut ∷ Live 0 ∷ []) ∷ without_up (bits (1 ∷ 3 ∷ []) ∷ bits (1 ∷ 3 ∷ []) ∷ span 1 1 ∷ span 1 1 ∷ []) (0 ∷ []) (Cut ∷ Cut ∷ []) ∷ [])
    ∷ (row (bits (0 ∷ 1 ∷ 3 ∷ []) ∷ bits (0 ∷ 3 ∷ []) ∷ span 2 2 ∷ span 1 1 ∷ []) (bits [] ∷ bits [] ∷ []) (0 ∷ []) [] ∷ []) ∷ []

pub differing_1_computes : tight (transitions_of differing) differing_values (set_of (1 ∷ 3 ∷ []) ∷ set_of (0 ∷ 1 ∷ []) ∷ set_of (0 ∷ 1 ∷ 3 ∷ []) ∷ set_of (0 ∷ 3 ∷ []) ∷ []) number_limit 2 differing_opening ≡ differing_1
differing_1_computes = ap (λ t. tight t differing_values (set_of (1 ∷ 3 ∷ []) ∷ set_of (0 ∷ 1 ∷ []) ∷ set_of (0 ∷ 1 ∷ 3 ∷ []) ∷ set_of (0 ∷ 3 ∷ []) ∷ []) number_limit 2 differing_opening) differing_is

abbrev pub differing_2 : List (List PlainRow)
differing_2 =
    (row (bits [] ∷ bits [] ∷ span 0 0 ∷ span 0 0 ∷ []) (bits (0 ∷ 1 ∷ 3 ∷ []) ∷ bits (0 ∷ 1 ∷ 3 ∷ []) ∷ []) (0 ∷ []) (Live 0 ∷ Gone ∷ []) ∷ [])
    ∷ (row (bits (1 ∷ []) ∷ bits (1 ∷ []) ∷ span 1 1 ∷ span 0 0 ∷ []) (bits (0 ∷ 3 ∷ []) ∷ bits (0 ∷ 3 ∷ []) ∷ []) (0 ∷ []) (Live 0 ∷ Gone ∷ []) ∷ [])
    ∷ (row (bits (1 ∷ []) ∷ bits (1 ∷ []) ∷ span 1 1 ∷ span 1 1 ∷ []) (bits (0 ∷ 3 ∷ []) ∷ bits (0 ∷ 3 ∷ []) ∷ []) (0 ∷ []) (Live 0 ∷ Gone ∷ Gone ∷ []) ∷ [])
    ∷ (row (bits (0 ∷ 1 ∷ []) ∷ bits (0 ∷ 1 ∷ []) ∷ span 1 1 ∷ span 1 1 ∷ []) (bits (3 ∷ []) ∷ bits (3 ∷ []) ∷ []) (0 ∷ []) (Gone ∷ Live 0 ∷ []) ∷ [])
    ∷ (row (bits (0 ∷ 1 ∷ 3 ∷ []) ∷ bits (0 ∷ 1 ∷ 3 ∷ []) ∷ span 2 2 ∷ span 1 1 ∷ []) (bits [] ∷ bits [] ∷ []) (0 ∷ []) [] ∷ []) ∷ []

pub differing_2_computes : tight (transitions_of differing) differing_values (set_of (1 ∷ []) ∷ set_of (0 ∷ []) ∷ set_of (0 ∷ []) ∷ set_of (3 ∷ []) ∷ []) number_limit 2 differing_1 ≡ differing_2
differing_2_computes = ap (λ t. tight t differing_values (set_of (1 ∷ []) ∷ set_of (0 ∷ []) ∷ set_of (0 ∷ []) ∷ set_of (3 ∷ []) ∷ []) number_limit 2 differing_1) differing_is
