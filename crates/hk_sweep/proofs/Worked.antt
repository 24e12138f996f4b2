-- Worked revisions of two small problems: what the definition gives, table by table.
use Rattle.std.specs.Prelude.{◌≡◌, ℕ, pos, List, [], ◌∷◌}
use Rattle.std.proofs.Common.{ap, ◌∙◌}
use Rattle.hk_base.specs.Limits.{number_limit}
use Rattle.hk_group.specs.Groups.{PlainGroup}
use Rattle.hk_kinds.specs.declared.properties.Prop.TheVariants.{Num}
use Rattle.hk_spec.specs.Library.{sum_bound, objective_bound, alldifferent_bound}
use Rattle.hk_table.specs.Opening.{opening_layers, opening_table}
use Rattle.hk_table.specs.Tables.{PlainRow}
use Rattle.hk_table.specs.declared.entries.Entry.TheVariants.{Gone, Cut, Dead, Live}
use Rattle.hk_sweep.proofs.Pieces.{beside, on, sum_piece, objective_piece, alldifferent_piece}
use Rattle.hk_sweep.proofs.Shown.{row, without_up, span, bits, set_of, part}
use Rattle.hk_sweep.proofs.Transcribed.{transitions_are, sum_is, objective_is, alldifferent_is}
use Rattle.hk_sweep.specs.Loose.{group_shape}
use Rattle.hk_text.specs.Sets.{members}
use Rattle.hk_sweep.specs.Tight.{tight, tight_revision}
use Rattle.hk_layers.specs.Transitions.{transitions_of}

-- two variables of 0 and 1 whose sum is 1 and costs as much
abbrev pub pair : PlainGroup
pair = record { vars = 0 ∷ 1 ∷ []; parts = part (0 ∷ 1 ∷ []) (sum_bound (pos 1 ∷ pos 1 ∷ []) (pos 1) (pos 1)) ∷ part (0 ∷ 1 ∷ []) (objective_bound (pos 1 ∷ pos 1 ∷ [])) ∷ [] }

pair_is : transitions_of pair ≡ beside (0 ∷ 1 ∷ []) (on (0 ∷ 1 ∷ []) (sum_piece (pos 1 ∷ pos 1 ∷ []) (pos 1) (pos 1)) ∷ on (0 ∷ 1 ∷ []) (objective_piece (pos 1 ∷ pos 1 ∷ [])) ∷ [])
pair_is = transitions_are pair ∙ (λ j. beside (0 ∷ 1 ∷ []) (on (0 ∷ 1 ∷ []) (sum_is (pos 1 ∷ pos 1 ∷ []) (pos 1) (pos 1) j) ∷ on (0 ∷ 1 ∷ []) (objective_is (pos 1 ∷ pos 1 ∷ []) j) ∷ []))

abbrev pair_values : List (List ℕ)
pair_values = (0 ∷ 1 ∷ []) ∷ (0 ∷ 1 ∷ []) ∷ []

abbrev pair_opening : List (List PlainRow)
pair_opening = opening_layers (transitions_of pair).down_shape (transitions_of pair).up_shape pair_values

abbrev pair_sets : List ℕ
pair_sets = set_of (0 ∷ 1 ∷ []) ∷ set_of (0 ∷ 1 ∷ []) ∷ []

-- width 16. The first revision is at the root. Then the first variable is 0, and then the second is 1 alone, where a
-- solution of cost 1 is found; the last revision is that of the first table with the first variable 1, below this cost
abbrev pub pair_wide_1 : List (List PlainRow)
pair_wide_1 =
    (row (span 0 0 ∷ Num (pos 0) ∷ []) (span 1 1 ∷ Num (pos 1) ∷ []) (0 ∷ []) (Live 0 ∷ Live 1 ∷ []) ∷ [])
    ∷ (row (span 0 0 ∷ Num (pos 0) ∷ []) (span 1 1 ∷ Num (pos 1) ∷ []) (0 ∷ []) (Dead 0 ∷ Live 1 ∷ []) ∷ row (span 1 1 ∷ Num (pos 1) ∷ []) (span 0 0 ∷ Num (pos 0) ∷ []) (0 ∷ []) (Live 1 ∷ Dead 2 ∷ []) ∷ [])
    ∷ (row (span 0 0 ∷ Num (pos 0) ∷ []) (span 0 0 ∷ Num (pos 0) ∷ []) (0 ∷ []) [] ∷ row (span 1 1 ∷ Num (pos 1) ∷ []) (span 0 0 ∷ Num (pos 0) ∷ []) (0 ∷ []) [] ∷ row (span 2 2 ∷ Num (pos 2) ∷ []) (span 0 0 ∷ Num (pos 0) ∷ []) (0 ∷ []) [] ∷ []) ∷ []

pub pair_wide_1_computes : tight (transitions_of pair) pair_values (set_of (0 ∷ 1 ∷ []) ∷ set_of (0 ∷ 1 ∷ []) ∷ []) number_limit 16 pair_opening ≡ pair_wide_1
pair_wide_1_computes = ap (λ t. tight t pair_values (set_of (0 ∷ 1 ∷ []) ∷ set_of (0 ∷ 1 ∷ []) ∷ []) number_limit 16 pair_opening) pair_is

abbrev pub pair_wide_2 : List (List PlainRow)
pair_wide_2 =
    (row (span 0 0 ∷ Num (pos 0) ∷ []) (span 1 1 ∷ Num (pos 1) ∷ []) (0 ∷ []) (Live 0 ∷ Gone ∷ []) ∷ [])
    ∷ (row (span 0 0 ∷ Num (pos 0) ∷ []) (span 1 1 ∷ Num (pos 1) ∷ []) (0 ∷ []) (Gone ∷ Live 0 ∷ []) ∷ [])
    ∷ (row (span 1 1 ∷ Num (pos 1) ∷ []) (span 0 0 ∷ Num (pos 0) ∷ []) (1 ∷ []) [] ∷ []) ∷ []

pub pair_wide_2_computes : tight (transitions_of pair) pair_values (set_of (0 ∷ []) ∷ set_of (0 ∷ 1 ∷ []) ∷ []) number_limit 16 pair_wide_1 ≡ pair_wide_2
pair_wide_2_computes = ap (λ t. tight t pair_values (set_of (0 ∷ []) ∷ set_of (0 ∷ 1 ∷ []) ∷ []) number_limit 16 pair_wide_1) pair_is

abbrev pub pair_wide_3 : List (List PlainRow)
pair_wide_3 =
    (row (span 0 0 ∷ Num (pos 0) ∷ []) (span 1 1 ∷ Num (pos 1) ∷ []) (0 ∷ []) (Live 0 ∷ Gone ∷ []) ∷ [])
    ∷ (row (span 0 0 ∷ Num (pos 0) ∷ []) (span 1 1 ∷ Num (pos 1) ∷ []) (0 ∷ []) (Gone ∷ Live 0 ∷ []) ∷ [])
    ∷ (row (span 1 1 ∷ Num (pos 1) ∷ []) (span 0 0 ∷ Num (pos 0) ∷ []) (0 ∷ []) [] ∷ []) ∷ []

pub pair_wide_3_computes : tight (transitions_of pair) pair_values (set_of (0 ∷ []) ∷ set_of (1 ∷ []) ∷ []) number_limit 16 pair_wide_2 ≡ pair_wide_3
pair_wide_3_computes = ap (λ t. tight t pair_values (set_of (0 ∷ []) ∷ set_of (1 ∷ []) ∷ []) number_limit 16 pair_wide_2) pair_is

abbrev pub pair_wide_4 : List (List PlainRow)
pair_wide_4 =
    (without_up (span 0 0 ∷ Num (pos 0) ∷ []) (0 ∷ []) (Gone ∷ Dead 0 ∷ []) ∷ [])
    ∷ (without_up (span 1 1 ∷ Num (pos 1) ∷ []) (1 ∷ []) (Dead 0 ∷ Gone ∷ []) ∷ [])
    ∷ (row (span 1 1 ∷ Num (pos 1) ∷ []) (span 0 0 ∷ Num (pos 0) ∷ []) (1 ∷ []) [] ∷ []) ∷ []

pub pair_wide_4_computes : tight (transitions_of pair) pair_values (set_of (1 ∷ []) ∷ set_of (0 ∷ 1 ∷ []) ∷ []) (pos 1) 16 pair_wide_1 ≡ pair_wide_4
pair_wide_4_computes = ap (λ t. tight t pair_values (set_of (1 ∷ []) ∷ set_of (0 ∷ 1 ∷ []) ∷ []) (pos 1) 16 pair_wide_1) pair_is

-- width 2: three steps on the last layer share two rows
abbrev pub pair_narrow_1 : List (List PlainRow)
pair_narrow_1 =
    (row (span 0 0 ∷ Num (pos 0) ∷ []) (span 1 1 ∷ Num (pos 1) ∷ []) (0 ∷ []) (Live 0 ∷ Live 1 ∷ []) ∷ [])
    ∷ (row (span 0 0 ∷ Num (pos 0) ∷ []) (span 1 1 ∷ Num (pos 1) ∷ []) (0 ∷ []) (Dead 0 ∷ Live 0 ∷ []) ∷ row (span 1 1 ∷ Num (pos 1) ∷ []) (span 0 0 ∷ Num (pos 0) ∷ []) (0 ∷ []) (Live 0 ∷ Dead 1 ∷ []) ∷ [])
    ∷ (row (span 0 1 ∷ Num (pos 0) ∷ []) (span 0 0 ∷ Num (pos 0) ∷ []) (0 ∷ []) [] ∷ row (span 2 2 ∷ Num (pos 2) ∷ []) (span 0 0 ∷ Num (pos 0) ∷ []) (0 ∷ []) [] ∷ []) ∷ []

pub pair_narrow_1_computes : tight (transitions_of pair) pair_values (set_of (0 ∷ 1 ∷ []) ∷ set_of (0 ∷ 1 ∷ []) ∷ []) number_limit 2 pair_opening ≡ pair_narrow_1
pair_narrow_1_computes = ap (λ t. tight t pair_values (set_of (0 ∷ 1 ∷ []) ∷ set_of (0 ∷ 1 ∷ []) ∷ []) number_limit 2 pair_opening) pair_is

abbrev pub pair_narrow_2 : List (List PlainRow)
pair_narrow_2 =
    (row (span 0 0 ∷ Num (pos 0) ∷ []) (span 1 1 ∷ Num (pos 1) ∷ []) (0 ∷ []) (Live 0 ∷ Gone ∷ []) ∷ [])
    ∷ (row (span 0 0 ∷ Num (pos 0) ∷ []) (span 1 1 ∷ Num (pos 1) ∷ []) (0 ∷ []) (Gone ∷ Live 0 ∷ []) ∷ [])
    ∷ (row (span 1 1 ∷ Num (pos 1) ∷ []) (span 0 0 ∷ Num (pos 0) ∷ []) (0 ∷ []) [] ∷ []) ∷ []

pub pair_narrow_2_computes : tight (transitions_of pair) pair_values (set_of (0 ∷ []) ∷ set_of (0 ∷ 1 ∷ []) ∷ []) number_limit 2 pair_narrow_1 ≡ pair_narrow_2
pair_narrow_2_computes = ap (λ t. tight t pair_values (set_of (0 ∷ []) ∷ set_of (0 ∷ 1 ∷ []) ∷ []) number_limit 2 pair_narrow_1) pair_is

abbrev pub pair_narrow_3 : List (List PlainRow)
pair_narrow_3 =
    (row (span 0 0 ∷ Num (pos 0) ∷ []) (span 1 1 ∷ Num (pos 1) ∷ []) (0 ∷ []) (Live 0 ∷ Gone ∷ []) ∷ [])
    ∷ (row (span 0 0 ∷ Num (pos 0) ∷ []) (span 1 1 ∷ Num (pos 1) ∷ []) (0 ∷ []) (Gone ∷ Live 0 ∷ []) ∷ [])
    ∷ (row (span 1 1 ∷ Num (pos 1) ∷ []) (span 0 0 ∷ Num (pos 0) ∷ []) (0 ∷ []) [] ∷ []) ∷ []

pub pair_narrow_3_computes : tight (transitions_of pair) pair_values (set_of (0 ∷ []) ∷ set_of (1 ∷ []) ∷ []) number_limit 2 pair_narrow_2 ≡ pair_narrow_3
pair_narrow_3_computes = ap (λ t. tight t pair_values (set_of (0 ∷ []) ∷ set_of (1 ∷ []) ∷ []) number_limit 2 pair_narrow_2) pair_is

abbrev pub pair_narrow_4 : List (List PlainRow)
pair_narrow_4 =
    (without_up (span 0 0 ∷ Num (pos 0) ∷ []) (0 ∷ []) (Gone ∷ Dead 0 ∷ []) ∷ [])
    ∷ (without_up (span 1 1 ∷ Num (pos 1) ∷ []) (1 ∷ []) (Dead 0 ∷ Gone ∷ []) ∷ [])
    ∷ (row (span 1 1 ∷ Num (pos 1) ∷ []) (span 0 0 ∷ Num (pos 0) ∷ []) (0 ∷ []) [] ∷ []) ∷ []

pub pair_narrow_4_computes : tight (transitions_of pair) pair_values (set_of (1 ∷ []) ∷ set_of (0 ∷ 1 ∷ []) ∷ []) (pos 1) 2 pair_narrow_1 ≡ pair_narrow_4
pair_narrow_4_computes = ap (λ t. tight t pair_values (set_of (1 ∷ []) ∷ set_of (0 ∷ 1 ∷ []) ∷ []) (pos 1) 2 pair_narrow_1) pair_is

-- the same of the group itself, from its sets
pub pair_revision : tight_revision pair pair_sets pair_sets number_limit 16 (opening_table (group_shape pair pair_sets)) ≡ pair_wide_1
unfolding members
pair_revision = ap (λ t. tight t pair_values pair_sets number_limit 16 pair_opening) pair_is

-- three variables of 0 and 1 that differ
abbrev pub triple : PlainGroup
triple = record { vars = 0 ∷ 1 ∷ 2 ∷ []; parts = part (0 ∷ 1 ∷ 2 ∷ []) (alldifferent_bound 3) ∷ [] }

triple_is : transitions_of triple ≡ beside (0 ∷ 1 ∷ 2 ∷ []) (on (0 ∷ 1 ∷ 2 ∷ []) (alldifferent_piece 3) ∷ [])
triple_is = transitions_are triple ∙ (λ j. beside (0 ∷ 1 ∷ 2 ∷ []) (on (0 ∷ 1 ∷ 2 ∷ []) (alldifferent_is 3 j) ∷ []))

abbrev triple_values : List (List ℕ)
triple_values = (0 ∷ 1 ∷ []) ∷ (0 ∷ 1 ∷ []) ∷ (0 ∷ 1 ∷ []) ∷ []

abbrev triple_opening : List (List PlainRow)
triple_opening = opening_layers (transitions_of triple).down_shape (transitions_of triple).up_shape triple_values

-- width 1
abbrev pub triple_1 : List (List PlainRow)
triple_1 =
    (without_up (bits [] ∷ bits [] ∷ []) (0 ∷ []) (Dead 0 ∷ Dead 0 ∷ []) ∷ [])
    ∷ (without_up (bits (0 ∷ 1 ∷ []) ∷ bits [] ∷ []) (0 ∷ []) (Dead 0 ∷ Dead 0 ∷ []) ∷ [])
    ∷ (without_up (bits (0 ∷ 1 ∷ []) ∷ bits [] ∷ []) (0 ∷ []) (Cut ∷ Cut ∷ []) ∷ [])
    ∷ [] ∷ []

pub triple_1_computes : tight (transitions_of triple) triple_values (set_of (0 ∷ 1 ∷ []) ∷ set_of (0 ∷ 1 ∷ []) ∷ set_of (0 ∷ 1 ∷ []) ∷ []) number_limit 1 triple_opening ≡ triple_1
triple_1_computes = ap (λ t. tight t triple_values (set_of (0 ∷ 1 ∷ []) ∷ set_of (0 ∷ 1 ∷ []) ∷ set_of (0 ∷ 1 ∷ []) ∷ []) number_limit 1 triple_opening) triple_is
