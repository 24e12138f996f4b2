-- Worked revisions of parts with scopes of their own, and of two groups that take values from one another.
use Rattle.std.specs.Prelude.{◌≡◌, ℕ, pos, List, [], ◌∷◌}
use Rattle.std.proofs.Common.{ap, ◌∙◌}
use Rattle.hk_base.specs.Limits.{number_limit}
use Rattle.hk_group.specs.Groups.{PlainGroup}
use Rattle.hk_kinds.specs.declared.properties.Prop.TheVariants.{Pair}
use Rattle.hk_spec.specs.Library.{sum_bound, among_bound, alldifferent_bound}
use Rattle.hk_table.specs.Opening.{opening_layers}
use Rattle.hk_table.specs.Tables.{PlainRow}
use Rattle.hk_table.specs.declared.entries.Entry.TheVariants.{Gone, Cut, Dead, Live}
use Rattle.hk_sweep.proofs.Pieces.{beside, on, sum_piece, among_piece, alldifferent_piece}
use Rattle.hk_sweep.proofs.Shown.{row, without_up, span, bits, neg, set_of, part}
use Rattle.hk_sweep.proofs.Transcribed.{transitions_are, sum_is, among_is, alldifferent_is}
use Rattle.hk_text.specs.Sets.{members}
use Rattle.hk_sweep.specs.Tight.{tight, tight_revision}
use Rattle.hk_layers.specs.Transitions.{transitions_of}

-- a sum with a coefficient below 0, beside a count
abbrev pub scopes : PlainGroup
scopes = record { vars = 0 ∷ 1 ∷ 2 ∷ 3 ∷ []; parts = part (0 ∷ 1 ∷ 2 ∷ []) (sum_bound (pos 2 ∷ neg 1 ∷ pos 1 ∷ []) (pos 0) (pos 1)) ∷ part (1 ∷ 3 ∷ []) (among_bound 2 (set_of (3 ∷ [])) (pos 1) (pos 1)) ∷ [] }

scopes_is : transitions_of scopes ≡ beside (0 ∷ 1 ∷ 2 ∷ 3 ∷ []) (on (0 ∷ 1 ∷ 2 ∷ []) (sum_piece (pos 2 ∷ neg 1 ∷ pos 1 ∷ []) (pos 0) (pos 1)) ∷ on (1 ∷ 3 ∷ []) (among_piece (set_of (3 ∷ [])) (pos 1) (pos 1)) ∷ [])
scopes_is = transitions_are scopes ∙ (λ j. beside (0 ∷ 1 ∷ 2 ∷ 3 ∷ []) (on (0 ∷ 1 ∷ 2 ∷ []) (sum_is (pos 2 ∷ neg 1 ∷ pos 1 ∷ []) (pos 0) (pos 1) j) ∷ on (1 ∷ 3 ∷ []) (among_is 2 (set_of (3 ∷ [])) (pos 1) (pos 1) j) ∷ []))

abbrev scopes_values : List (List ℕ)
scopes_values = (0 ∷ 1 ∷ 2 ∷ []) ∷ (1 ∷ 3 ∷ []) ∷ (0 ∷ 1 ∷ 2 ∷ []) ∷ (1 ∷ 3 ∷ []) ∷ []

abbrev scopes_opening : List (List PlainRow)
scopes_opening = opening_layers (transitions_of scopes).down_shape (transitions_of scopes).up_shape scopes_values

abbrev pub scopes_1 : List (List PlainRow)
scopes_1 =
    (row (span 0 0 ∷ span 0 0 ∷ []) (Pair (neg 3) (pos 3) ∷ span 0 2 ∷ []) (0 ∷ []) (Live 0 ∷ Live 0 ∷ Live 1 ∷ []) ∷ [])
    ∷ (row (span 0 2 ∷ span 0 0 ∷ []) (Pair (neg 3) (pos 1) ∷ span 0 2 ∷ []) (0 ∷ []) (Live 0 ∷ Live 0 ∷ []) ∷ row (span 4 4 ∷ span 0 0 ∷ []) (Pair (neg 3) (neg 3) ∷ span 1 2 ∷ []) (0 ∷ []) (Dead 1 ∷ Live 1 ∷ []) ∷ [])
    ∷ (row (Pair (neg 3) (pos 1) ∷ span 0 1 ∷ []) (span 0 2 ∷ span 0 1 ∷ []) (0 ∷ []) (Live 0 ∷ Live 0 ∷ Live 0 ∷ []) ∷ row (span 1 3 ∷ span 0 1 ∷ []) (span 0 0 ∷ span 0 1 ∷ []) (0 ∷ []) (Live 1 ∷ Dead 1 ∷ Dead 1 ∷ []) ∷ [])
    ∷ (row (Pair (neg 3) (pos 3) ∷ span 0 1 ∷ []) (span 0 0 ∷ span 0 1 ∷ []) (0 ∷ []) (Live 0 ∷ Live 0 ∷ []) ∷ row (span 1 5 ∷ span 0 1 ∷ []) (span 0 0 ∷ span 0 1 ∷ []) (0 ∷ []) (Live 1 ∷ Live 1 ∷ []) ∷ [])
    ∷ (row (Pair (neg 3) (pos 3) ∷ span 0 2 ∷ []) (span 0 0 ∷ span 0 0 ∷ []) (0 ∷ []) [] ∷ row (span 1 5 ∷ span 0 2 ∷ []) (span 0 0 ∷ span 0 0 ∷ []) (0 ∷ []) [] ∷ []) ∷ []

pub scopes_1_computes : tight (transitions_of scopes) scopes_values (set_of (0 ∷ 1 ∷ 2 ∷ []) ∷ set_of (1 ∷ 3 ∷ []) ∷ set_of (0 ∷ 1 ∷ 2 ∷ []) ∷ set_of (1 ∷ 3 ∷ []) ∷ []) number_limit 2 scopes_opening ≡ scopes_1
scopes_1_computes = ap (λ t. tight t scopes_values (set_of (0 ∷ 1 ∷ 2 ∷ []) ∷ set_of (1 ∷ 3 ∷ []) ∷ set_of (0 ∷ 1 ∷ 2 ∷ []) ∷ set_of (1 ∷ 3 ∷ []) ∷ []) number_limit 2 scopes_opening) scopes_is

abbrev pub scopes_2 : List (List PlainRow)
scopes_2 =
    (row (span 0 0 ∷ span 0 0 ∷ []) (span 0 1 ∷ span 0 1 ∷ []) (0 ∷ []) (Live 0 ∷ Gone ∷ Gone ∷ []) ∷ [])
    ∷ (row (span 0 0 ∷ span 0 0 ∷ []) (span 0 1 ∷ span 0 1 ∷ []) (0 ∷ []) (Live 1 ∷ Dead 0 ∷ []) ∷ [])
    ∷ (without_up (Pair (neg 3) (neg 3) ∷ span 1 1 ∷ []) (0 ∷ []) (Dead 0 ∷ Dead 0 ∷ Dead 1 ∷ []) ∷ row (Pair (neg 1) (neg 1) ∷ span 0 0 ∷ []) (span 1 2 ∷ span 0 1 ∷ []) (0 ∷ []) (Dead 0 ∷ Live 1 ∷ Live 1 ∷ []) ∷ [])
    ∷ (row (Pair (neg 3) (neg 1) ∷ span 0 1 ∷ []) (span 0 0 ∷ span 0 1 ∷ []) (0 ∷ []) (Live 0 ∷ Live 0 ∷ []) ∷ row (Pair (neg 1) (pos 1) ∷ span 0 1 ∷ []) (span 0 0 ∷ span 0 1 ∷ []) (0 ∷ []) (Live 1 ∷ Live 1 ∷ []) ∷ [])
    ∷ (row (Pair (neg 3) (neg 1) ∷ span 0 2 ∷ []) (span 0 0 ∷ span 0 0 ∷ []) (0 ∷ []) [] ∷ row (Pair (neg 1) (pos 1) ∷ span 0 2 ∷ []) (span 0 0 ∷ span 0 0 ∷ []) (0 ∷ []) [] ∷ []) ∷ []

pub scopes_2_computes : tight (transitions_of scopes) scopes_values (set_of (0 ∷ []) ∷ set_of (1 ∷ 3 ∷ []) ∷ set_of (0 ∷ 1 ∷ 2 ∷ []) ∷ set_of (1 ∷ 3 ∷ []) ∷ []) number_limit 2 scopes_1 ≡ scopes_2
scopes_2_computes = ap (λ t. tight t scopes_values (set_of (0 ∷ []) ∷ set_of (1 ∷ 3 ∷ []) ∷ set_of (0 ∷ 1 ∷ 2 ∷ []) ∷ set_of (1 ∷ 3 ∷ []) ∷ []) number_limit 2 scopes_1) scopes_is

abbrev pub scopes_3 : List (List PlainRow)
scopes_3 =
    (row (span 0 0 ∷ span 0 0 ∷ []) (span 0 1 ∷ span 1 1 ∷ []) (0 ∷ []) (Live 0 ∷ Gone ∷ Gone ∷ []) ∷ [])
    ∷ (row (span 0 0 ∷ span 0 0 ∷ []) (span 0 1 ∷ span 1 1 ∷ []) (0 ∷ []) (Live 0 ∷ Gone ∷ []) ∷ [])
    ∷ (row (Pair (neg 1) (neg 1) ∷ span 0 0 ∷ []) (span 1 2 ∷ span 1 1 ∷ []) (1 ∷ []) (Gone ∷ Live 0 ∷ Live 1 ∷ []) ∷ [])
    ∷ (row (span 0 0 ∷ span 0 0 ∷ []) (span 0 0 ∷ span 1 1 ∷ []) (1 ∷ []) (Dead 0 ∷ Live 0 ∷ []) ∷ row (span 1 1 ∷ span 0 0 ∷ []) (span 0 0 ∷ span 1 1 ∷ []) (1 ∷ []) (Dead 1 ∷ Live 1 ∷ []) ∷ [])
    ∷ (row (span 0 0 ∷ span 0 1 ∷ []) (span 0 0 ∷ span 0 0 ∷ []) (1 ∷ []) [] ∷ row (span 1 1 ∷ span 0 1 ∷ []) (span 0 0 ∷ span 0 0 ∷ []) (1 ∷ []) [] ∷ []) ∷ []

pub scopes_3_computes : tight (transitions_of scopes) scopes_values (set_of (0 ∷ []) ∷ set_of (1 ∷ []) ∷ set_of (1 ∷ 2 ∷ []) ∷ set_of (1 ∷ 3 ∷ []) ∷ []) number_limit 2 scopes_2 ≡ scopes_3
scopes_3_computes = ap (λ t. tight t scopes_values (set_of (0 ∷ []) ∷ set_of (1 ∷ []) ∷ set_of (1 ∷ 2 ∷ []) ∷ set_of (1 ∷ 3 ∷ []) ∷ []) number_limit 2 scopes_2) scopes_is

abbrev pub scopes_4 : List (List PlainRow)
scopes_4 =
    (row (span 0 0 ∷ span 0 0 ∷ []) (span 0 1 ∷ span 1 1 ∷ []) (0 ∷ []) (Live 0 ∷ Gone ∷ Gone ∷ []) ∷ [])
    ∷ (row (span 0 0 ∷ span 0 0 ∷ []) (span 0 1 ∷ span 1 1 ∷ []) (0 ∷ []) (Live 0 ∷ Gone ∷ []) ∷ [])
    ∷ (row (Pair (neg 1) (neg 1) ∷ span 0 0 ∷ []) (span 1 2 ∷ span 1 1 ∷ []) (0 ∷ []) (Gone ∷ Live 0 ∷ Live 1 ∷ []) ∷ [])
    ∷ (row (span 0 0 ∷ span 0 0 ∷ []) (span 0 0 ∷ span 1 1 ∷ []) (0 ∷ []) (Gone ∷ Live 0 ∷ []) ∷ row (span 1 1 ∷ span 0 0 ∷ []) (span 0 0 ∷ span 1 1 ∷ []) (1 ∷ []) (Gone ∷ Live 1 ∷ []) ∷ [])
    ∷ (row (span 0 0 ∷ span 1 1 ∷ []) (span 0 0 ∷ span 0 0 ∷ []) (0 ∷ []) [] ∷ row (span 1 1 ∷ span 1 1 ∷ []) (span 0 0 ∷ span 0 0 ∷ []) (1 ∷ []) [] ∷ []) ∷ []

pub scopes_4_computes : tight (transitions_of scopes) scopes_values (set_of (0 ∷ []) ∷ set_of (1 ∷ []) ∷ set_of (1 ∷ 2 ∷ []) ∷ set_of (3 ∷ []) ∷ []) number_limit 2 scopes_3 ≡ scopes_4
scopes_4_computes = ap (λ t. tight t scopes_values (set_of (0 ∷ []) ∷ set_of (1 ∷ []) ∷ set_of (1 ∷ 2 ∷ []) ∷ set_of (3 ∷ []) ∷ []) number_limit 2 scopes_3) scopes_is

-- of three variables, the first two have the sum 2
abbrev pub summing : PlainGroup
summing = record { vars = 0 ∷ 1 ∷ []; parts = part (0 ∷ 1 ∷ []) (sum_bound (pos 1 ∷ pos 1 ∷ []) (pos 2) (pos 2)) ∷ [] }

summing_is : transitions_of summing ≡ beside (0 ∷ 1 ∷ []) (on (0 ∷ 1 ∷ []) (sum_piece (pos 1 ∷ pos 1 ∷ []) (pos 2) (pos 2)) ∷ [])
summing_is = transitions_are summing ∙ (λ j. beside (0 ∷ 1 ∷ []) (on (0 ∷ 1 ∷ []) (sum_is (pos 1 ∷ pos 1 ∷ []) (pos 2) (pos 2) j) ∷ []))

abbrev summing_values : List (List ℕ)
summing_values = (0 ∷ 1 ∷ []) ∷ (0 ∷ 1 ∷ []) ∷ []

abbrev summing_opening : List (List PlainRow)
summing_opening = opening_layers (transitions_of summing).down_shape (transitions_of summing).up_shape summing_values

-- and the last two differ
abbrev pub others : PlainGroup
others = record { vars = 1 ∷ 2 ∷ []; parts = part (1 ∷ 2 ∷ []) (alldifferent_bound 2) ∷ [] }

others_is : transitions_of others ≡ beside (1 ∷ 2 ∷ []) (on (1 ∷ 2 ∷ []) (alldifferent_piece 2) ∷ [])
others_is = transitions_are others ∙ (λ j. beside (1 ∷ 2 ∷ []) (on (1 ∷ 2 ∷ []) (alldifferent_is 2 j) ∷ []))

abbrev others_values : List (List ℕ)
others_values = (0 ∷ 1 ∷ []) ∷ (0 ∷ 1 ∷ []) ∷ []

abbrev others_opening : List (List PlainRow)
others_opening = opening_layers (transitions_of others).down_shape (transitions_of others).up_shape others_values

abbrev pub summing_1 : List (List PlainRow)
summing_1 =
    (row (span 0 0 ∷ []) (span 2 2 ∷ []) (0 ∷ []) (Dead 0 ∷ Live 1 ∷ []) ∷ [])
    ∷ (without_up (span 0 0 ∷ []) (0 ∷ []) (Dead 0 ∷ Dead 0 ∷ []) ∷ row (span 1 1 ∷ []) (span 1 1 ∷ []) (0 ∷ []) (Dead 0 ∷ Live 1 ∷ []) ∷ [])
    ∷ (row (span 0 1 ∷ []) (span 0 0 ∷ []) (0 ∷ []) [] ∷ row (span 2 2 ∷ []) (span 0 0 ∷ []) (0 ∷ []) [] ∷ []) ∷ []

pub summing_1_computes : tight (transitions_of summing) summing_values (set_of (0 ∷ 1 ∷ []) ∷ set_of (0 ∷ 1 ∷ []) ∷ []) number_limit 2 summing_opening ≡ summing_1
summing_1_computes = ap (λ t. tight t summing_values (set_of (0 ∷ 1 ∷ []) ∷ set_of (0 ∷ 1 ∷ []) ∷ []) number_limit 2 summing_opening) summing_is

abbrev pub others_1 : List (List PlainRow)
others_1 =
    (row (bits [] ∷ bits [] ∷ []) (bits (0 ∷ 1 ∷ []) ∷ bits (0 ∷ 1 ∷ []) ∷ []) (0 ∷ []) (Live 0 ∷ Live 1 ∷ []) ∷ [])
    ∷ (row (bits (0 ∷ []) ∷ bits (0 ∷ []) ∷ []) (bits (1 ∷ []) ∷ bits (1 ∷ []) ∷ []) (0 ∷ []) (Cut ∷ Live 0 ∷ []) ∷ row (bits (1 ∷ []) ∷ bits (1 ∷ []) ∷ []) (bits (0 ∷ []) ∷ bits (0 ∷ []) ∷ []) (0 ∷ []) (Live 0 ∷ Cut ∷ []) ∷ [])
    ∷ (row (bits (0 ∷ 1 ∷ []) ∷ bits (0 ∷ 1 ∷ []) ∷ []) (bits [] ∷ bits [] ∷ []) (0 ∷ []) [] ∷ []) ∷ []

pub others_1_computes : tight (transitions_of others) others_values (set_of (0 ∷ 1 ∷ []) ∷ set_of (0 ∷ 1 ∷ []) ∷ []) number_limit 2 others_opening ≡ others_1
others_1_computes = ap (λ t. tight t others_values (set_of (0 ∷ 1 ∷ []) ∷ set_of (0 ∷ 1 ∷ []) ∷ []) number_limit 2 others_opening) others_is

abbrev pub summing_2 : List (List PlainRow)
summing_2 =
    (row (span 0 0 ∷ []) (span 2 2 ∷ []) (0 ∷ []) (Gone ∷ Live 0 ∷ []) ∷ [])
    ∷ (row (span 1 1 ∷ []) (span 1 1 ∷ []) (1 ∷ []) (Gone ∷ Live 0 ∷ []) ∷ [])
    ∷ (row (span 2 2 ∷ []) (span 0 0 ∷ []) (1 ∷ []) [] ∷ []) ∷ []

pub summing_2_computes : tight (transitions_of summing) summing_values (set_of (1 ∷ []) ∷ set_of (1 ∷ []) ∷ []) number_limit 2 summing_1 ≡ summing_2
summing_2_computes = ap (λ t. tight t summing_values (set_of (1 ∷ []) ∷ set_of (1 ∷ []) ∷ []) number_limit 2 summing_1) summing_is

abbrev pub others_2 : List (List PlainRow)
others_2 =
    (row (bits [] ∷ bits [] ∷ []) (bits (0 ∷ 1 ∷ []) ∷ bits (0 ∷ 1 ∷ []) ∷ []) (0 ∷ []) (Gone ∷ Live 0 ∷ []) ∷ [])
    ∷ (row (bits (1 ∷ []) ∷ bits (1 ∷ []) ∷ []) (bits (0 ∷ []) ∷ bits (0 ∷ []) ∷ []) (1 ∷ []) (Live 0 ∷ Gone ∷ []) ∷ [])
    ∷ (row (bits (0 ∷ 1 ∷ []) ∷ bits (0 ∷ 1 ∷ []) ∷ []) (bits [] ∷ bits [] ∷ []) (0 ∷ []) [] ∷ []) ∷ []

pub others_2_computes : tight (transitions_of others) others_values (set_of (1 ∷ []) ∷ set_of (0 ∷ 1 ∷ []) ∷ []) number_limit 2 others_1 ≡ others_2
others_2_computes = ap (λ t. tight t others_values (set_of (1 ∷ []) ∷ set_of (0 ∷ 1 ∷ []) ∷ []) number_limit 2 others_1) others_is

abbrev pub summing_3 : List (List PlainRow)
summing_3 =
    (row (span 0 0 ∷ []) (span 2 2 ∷ []) (0 ∷ []) (Gone ∷ Live 0 ∷ []) ∷ [])
    ∷ (row (span 1 1 ∷ []) (span 1 1 ∷ []) (0 ∷ []) (Gone ∷ Live 0 ∷ []) ∷ [])
    ∷ (row (span 2 2 ∷ []) (span 0 0 ∷ []) (0 ∷ []) [] ∷ []) ∷ []

pub summing_3_computes : tight (transitions_of summing) summing_values (set_of (1 ∷ []) ∷ set_of (1 ∷ []) ∷ []) number_limit 2 summing_2 ≡ summing_3
summing_3_computes = ap (λ t. tight t summing_values (set_of (1 ∷ []) ∷ set_of (1 ∷ []) ∷ []) number_limit 2 summing_2) summing_is

abbrev pub others_3 : List (List PlainRow)
others_3 =
    (row (bits [] ∷ bits [] ∷ []) (bits (0 ∷ 1 ∷ []) ∷ bits (0 ∷ 1 ∷ []) ∷ []) (0 ∷ []) (Gone ∷ Live 0 ∷ []) ∷ [])
    ∷ (row (bits (1 ∷ []) ∷ bits (1 ∷ []) ∷ []) (bits (0 ∷ []) ∷ bits (0 ∷ []) ∷ []) (0 ∷ []) (Live 0 ∷ Gone ∷ []) ∷ [])
    ∷ (row (bits (0 ∷ 1 ∷ []) ∷ bits (0 ∷ 1 ∷ []) ∷ []) (bits [] ∷ bits [] ∷ []) (0 ∷ []) [] ∷ []) ∷ []

pub others_3_computes : tight (transitions_of others) others_values (set_of (1 ∷ []) ∷ set_of (0 ∷ []) ∷ []) number_limit 2 others_2 ≡ others_3
others_3_computes = ap (λ t. tight t others_values (set_of (1 ∷ []) ∷ set_of (0 ∷ []) ∷ []) number_limit 2 others_2) others_is

-- the same of a group itself, whose variables are the last two of three, from the sets and the domains of all
abbrev three_sets : List ℕ
three_sets = set_of (0 ∷ 1 ∷ []) ∷ set_of (0 ∷ 1 ∷ []) ∷ set_of (0 ∷ 1 ∷ []) ∷ []

pub others_revision : tight_revision others three_sets (set_of (1 ∷ []) ∷ set_of (1 ∷ []) ∷ set_of (0 ∷ 1 ∷ []) ∷ []) number_limit 2 others_1 ≡ others_2
unfolding members
others_revision = others_2_computes
