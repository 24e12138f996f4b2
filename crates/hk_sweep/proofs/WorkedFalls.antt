-- Worked revisions of a specification of a model's own, with a Max property, beside costs, some of them below 0: seven
-- steps share three rows.
use Rattle.std.specs.Prelude.{◌≡◌, ℕ, pos, codes, int_le, List, [], ◌∷◌}
use Rattle.std.proofs.Common.{ap, ap₂, ◌∙◌}
use Rattle.hk_base.specs.Limits.{number_limit}
use Rattle.hk_group.specs.Groups.{PlainGroup}
use Rattle.hk_kinds.specs.declared.properties.Prop.TheVariants.{Num}
use Rattle.hk_kinds.specs.declared.kinds.Kind.TheVariants.{Max}
use Rattle.hk_spec.proofs.NodeValues as node
use Rattle.hk_spec.specs.Specifications.{BoundSpecification}
use Rattle.hk_spec.specs.Steps.{down_setting, test_setting}
use Rattle.hk_spec.specs.Trees as tree
use Rattle.hk_spec.specs.declared.expressions.Side.TheVariants.{Down}
use Rattle.hk_spec.specs.declared.parts.StepExpr.TheVariants as step
use Rattle.hk_spec.specs.Library.{objective_bound}
use Rattle.hk_table.specs.Opening.{opening_layers}
use Rattle.hk_table.specs.Tables.{PlainRow}
use Rattle.hk_table.specs.declared.entries.Entry.TheVariants.{Gone, Cut, Dead, Live}
use Rattle.hk_sweep.proofs.Pieces.{Piece, number_at, beside, on, objective_piece}
use Rattle.hk_sweep.proofs.Shown.{row, without_up, neg, set_of, part}
use Rattle.hk_sweep.proofs.Transcribed.{piece_of, transitions_are, objective_is}
use Rattle.hk_sweep.specs.Tight.{tight}
use Rattle.hk_layers.specs.Transitions.{transitions_of}

-- `spec fall ()`, `down m Max 9`, `test (v <= m)`, `step m v`, `end`: no value is above the one before it
abbrev pub falling_bound : ℕ → BoundSpecification
falling_bound n = record {
  spec = record {
    name = codes "fall";
    params = [];
    down = record { name = codes "m"; kind = Max; init = Num (pos 9) } ∷ [];
    up = [];
    test = tree.at_most tree.value (tree.number Down 0);
    down_step = step.Num tree.value ∷ [];
    up_step = [];
  };
  args = [];
  len = n;
}

abbrev falling_piece : Piece
falling_piece = record {
  down_shape = Max ∷ [];
  up_shape = [];
  initial_down = Num (pos 9) ∷ [];
  initial_up = [];
  down = λ i v state. Num (pos v) ∷ [];
  up = λ i v state. [];
  passes = λ i v best down up. int_le (pos v) (number_at 0 down);
}

falling_is : (n : ℕ) → piece_of (falling_bound n) ≡ falling_piece
falling_is n =
    let b = falling_bound n in
    λ j. record {
      down_shape = Max ∷ [];
      up_shape = [];
      initial_down = Num (pos 9) ∷ [];
      initial_up = [];
      down = λ i v state. Num (node.num_value-value (down_setting b i v state) j) ∷ [];
      up = λ i v state. [];
      passes = λ i v best down up. let at = test_setting b i v down up best in (node.cond_holds-at_most at tree.value (tree.number Down 0) ∙ ap₂ int_le (node.num_value-value at) (node.num_value-number at Down 0)) j;
    }

-- three variables that do not rise, and their costs
abbrev pub falls : PlainGroup
falls = record { vars = 0 ∷ 1 ∷ 2 ∷ []; parts = part (0 ∷ 1 ∷ 2 ∷ []) (falling_bound 3) ∷ part (0 ∷ 1 ∷ 2 ∷ []) (objective_bound (neg 1 ∷ pos 2 ∷ neg 1 ∷ [])) ∷ [] }

falls_is : transitions_of falls ≡ beside (0 ∷ 1 ∷ 2 ∷ []) (on (0 ∷ 1 ∷ 2 ∷ []) (falling_piece) ∷ on (0 ∷ 1 ∷ 2 ∷ []) (objective_piece (neg 1 ∷ pos 2 ∷ neg 1 ∷ [])) ∷ [])
falls_is = transitions_are falls ∙ (λ j. beside (0 ∷ 1 ∷ 2 ∷ []) (on (0 ∷ 1 ∷ 2 ∷ []) (falling_is 3 j) ∷ on (0 ∷ 1 ∷ 2 ∷ []) (objective_is (neg 1 ∷ pos 2 ∷ neg 1 ∷ []) j) ∷ []))

abbrev falls_values : List (List ℕ)
falls_values = (0 ∷ 1 ∷ 2 ∷ 3 ∷ 4 ∷ 5 ∷ 6 ∷ []) ∷ (0 ∷ 1 ∷ 2 ∷ 3 ∷ 4 ∷ 5 ∷ 6 ∷ []) ∷ (2 ∷ 3 ∷ 4 ∷ []) ∷ []

abbrev falls_opening : List (List PlainRow)
falls_opening = opening_layers (transitions_of falls).down_shape (transitions_of falls).up_shape falls_values

abbrev pub falls_1 : List (List PlainRow)
falls_1 =
    (row (Num (pos 9) ∷ Num (pos 0) ∷ []) (Num (neg 5) ∷ []) (0 ∷ []) (Live 0 ∷ Live 0 ∷ Live 0 ∷ Live 1 ∷ Live 1 ∷ Live 2 ∷ Live 2 ∷ []) ∷ [])
    ∷ (row (Num (pos 2) ∷ Num (neg 2) ∷ []) (Num (neg 1) ∷ []) (0 ∷ []) (Dead 0 ∷ Live 1 ∷ Live 1 ∷ Cut ∷ Cut ∷ Cut ∷ Cut ∷ []) ∷ row (Num (pos 4) ∷ Num (neg 4) ∷ []) (Num (pos 1) ∷ []) (0 ∷ []) (Dead 0 ∷ Dead 0 ∷ Live 1 ∷ Live 2 ∷ Live 2 ∷ Cut ∷ Cut ∷ []) ∷ row (Num (pos 6) ∷ Num (neg 6) ∷ []) (Num (pos 1) ∷ []) (0 ∷ []) (Dead 0 ∷ Dead 0 ∷ Live 1 ∷ Live 1 ∷ Live 2 ∷ Live 2 ∷ Live 2 ∷ []) ∷ [])
    ∷ (without_up (Num (pos 1) ∷ Num (neg 6) ∷ []) (0 ∷ []) (Cut ∷ Cut ∷ Cut ∷ []) ∷ row (Num (pos 3) ∷ Num (neg 2) ∷ []) (Num (neg 3) ∷ []) (0 ∷ []) (Live 0 ∷ Live 1 ∷ Cut ∷ []) ∷ row (Num (pos 6) ∷ Num (pos 2) ∷ []) (Num (neg 4) ∷ []) (0 ∷ []) (Live 0 ∷ Live 1 ∷ Live 2 ∷ []) ∷ [])
    ∷ (row (Num (pos 2) ∷ Num (neg 4) ∷ []) (Num (pos 0) ∷ []) (0 ∷ []) [] ∷ row (Num (pos 3) ∷ Num (neg 5) ∷ []) (Num (pos 0) ∷ []) (0 ∷ []) [] ∷ row (Num (pos 4) ∷ Num (neg 2) ∷ []) (Num (pos 0) ∷ []) (0 ∷ []) [] ∷ []) ∷ []

pub falls_1_computes : tight (transitions_of falls) falls_values (set_of (0 ∷ 1 ∷ 2 ∷ 3 ∷ 4 ∷ 5 ∷ 6 ∷ []) ∷ set_of (0 ∷ 1 ∷ 2 ∷ 3 ∷ 4 ∷ 5 ∷ 6 ∷ []) ∷ set_of (2 ∷ 3 ∷ 4 ∷ []) ∷ []) number_limit 3 falls_opening ≡ falls_1
falls_1_computes = ap (λ t. tight t falls_values (set_of (0 ∷ 1 ∷ 2 ∷ 3 ∷ 4 ∷ 5 ∷ 6 ∷ []) ∷ set_of (0 ∷ 1 ∷ 2 ∷ 3 ∷ 4 ∷ 5 ∷ 6 ∷ []) ∷ set_of (2 ∷ 3 ∷ 4 ∷ []) ∷ []) number_limit 3 falls_opening) falls_is

abbrev pub falls_2 : List (List PlainRow)
falls_2 =
    (row (Num (pos 9) ∷ Num (pos 0) ∷ []) (Num (neg 4) ∷ []) (0 ∷ []) (Live 0 ∷ Live 0 ∷ Live 0 ∷ Live 1 ∷ Live 1 ∷ Live 2 ∷ Live 2 ∷ []) ∷ [])
    ∷ (row (Num (pos 2) ∷ Num (neg 2) ∷ []) (Num (pos 0) ∷ []) (0 ∷ []) (Gone ∷ Live 0 ∷ Live 0 ∷ Gone ∷ Gone ∷ Gone ∷ Gone ∷ []) ∷ row (Num (pos 4) ∷ Num (neg 4) ∷ []) (Num (pos 2) ∷ []) (1 ∷ []) (Gone ∷ Gone ∷ Live 0 ∷ Live 1 ∷ Live 2 ∷ Gone ∷ Gone ∷ []) ∷ row (Num (pos 6) ∷ Num (neg 6) ∷ []) (Num (pos 2) ∷ []) (2 ∷ []) (Gone ∷ Gone ∷ Live 0 ∷ Live 1 ∷ Live 1 ∷ Live 2 ∷ Live 2 ∷ []) ∷ [])
    ∷ (row (Num (pos 2) ∷ Num (neg 2) ∷ []) (Num (neg 2) ∷ []) (1 ∷ []) (Live 0 ∷ Cut ∷ Gone ∷ []) ∷ row (Num (pos 4) ∷ Num (pos 0) ∷ []) (Num (neg 4) ∷ []) (1 ∷ 2 ∷ []) (Live 0 ∷ Live 1 ∷ Live 2 ∷ []) ∷ row (Num (pos 6) ∷ Num (pos 4) ∷ []) (Num (neg 4) ∷ []) (2 ∷ []) (Live 0 ∷ Live 1 ∷ Live 2 ∷ []) ∷ [])
    ∷ (row (Num (pos 2) ∷ Num (neg 4) ∷ []) (Num (pos 0) ∷ []) (0 ∷ []) [] ∷ row (Num (pos 3) ∷ Num (neg 3) ∷ []) (Num (pos 0) ∷ []) (1 ∷ []) [] ∷ row (Num (pos 4) ∷ Num (neg 4) ∷ []) (Num (pos 0) ∷ []) (2 ∷ []) [] ∷ []) ∷ []

pub falls_2_computes : tight (transitions_of falls) falls_values (set_of (0 ∷ 1 ∷ 2 ∷ 3 ∷ 4 ∷ 5 ∷ 6 ∷ []) ∷ set_of (1 ∷ 2 ∷ 3 ∷ 4 ∷ 5 ∷ 6 ∷ []) ∷ set_of (2 ∷ 3 ∷ 4 ∷ []) ∷ []) number_limit 3 falls_1 ≡ falls_2
falls_2_computes = ap (λ t. tight t falls_values (set_of (0 ∷ 1 ∷ 2 ∷ 3 ∷ 4 ∷ 5 ∷ 6 ∷ []) ∷ set_of (1 ∷ 2 ∷ 3 ∷ 4 ∷ 5 ∷ 6 ∷ []) ∷ set_of (2 ∷ 3 ∷ 4 ∷ []) ∷ []) number_limit 3 falls_1) falls_is

abbrev pub falls_3 : List (List PlainRow)
falls_3 =
    (without_up (Num (pos 9) ∷ Num (pos 0) ∷ []) (0 ∷ []) (Dead 0 ∷ Gone ∷ Gone ∷ Gone ∷ Gone ∷ Gone ∷ Gone ∷ []) ∷ [])
    ∷ (without_up (Num (pos 0) ∷ Num (pos 0) ∷ []) (0 ∷ []) (Gone ∷ Cut ∷ Cut ∷ Gone ∷ Gone ∷ Gone ∷ Gone ∷ []) ∷ [])
    ∷ []
    ∷ [] ∷ []

pub falls_3_computes : tight (transitions_of falls) falls_values (set_of (0 ∷ []) ∷ set_of (1 ∷ 2 ∷ 3 ∷ 4 ∷ 5 ∷ 6 ∷ []) ∷ set_of (2 ∷ 3 ∷ 4 ∷ []) ∷ []) number_limit 3 falls_2 ≡ falls_3
falls_3_computes = ap (λ t. tight t falls_values (set_of (0 ∷ []) ∷ set_of (1 ∷ 2 ∷ 3 ∷ 4 ∷ 5 ∷ 6 ∷ []) ∷ set_of (2 ∷ 3 ∷ 4 ∷ []) ∷ []) number_limit 3 falls_2) falls_is

abbrev pub falls_4 : List (List PlainRow)
falls_4 =
    (row (Num (pos 9) ∷ Num (pos 0) ∷ []) (Num (neg 4) ∷ []) (0 ∷ []) (Gone ∷ Live 0 ∷ Live 0 ∷ Live 1 ∷ Live 1 ∷ Live 2 ∷ Live 2 ∷ []) ∷ [])
    ∷ (row (Num (pos 2) ∷ Num (neg 2) ∷ []) (Num (pos 0) ∷ []) (0 ∷ []) (Gone ∷ Live 0 ∷ Live 0 ∷ Gone ∷ Gone ∷ Gone ∷ Gone ∷ []) ∷ row (Num (pos 4) ∷ Num (neg 4) ∷ []) (Num (pos 2) ∷ []) (1 ∷ []) (Gone ∷ Gone ∷ Live 0 ∷ Live 1 ∷ Live 2 ∷ Gone ∷ Gone ∷ []) ∷ row (Num (pos 6) ∷ Num (neg 6) ∷ []) (Num (pos 2) ∷ []) (2 ∷ []) (Gone ∷ Gone ∷ Live 0 ∷ Live 1 ∷ Live 1 ∷ Live 2 ∷ Live 2 ∷ []) ∷ [])
    ∷ (row (Num (pos 2) ∷ Num (neg 2) ∷ []) (Num (neg 2) ∷ []) (0 ∷ []) (Live 0 ∷ Gone ∷ Gone ∷ []) ∷ row (Num (pos 4) ∷ Num (pos 0) ∷ []) (Num (neg 4) ∷ []) (1 ∷ []) (Live 0 ∷ Live 1 ∷ Live 2 ∷ []) ∷ row (Num (pos 6) ∷ Num (pos 4) ∷ []) (Num (neg 4) ∷ []) (2 ∷ []) (Live 0 ∷ Live 1 ∷ Live 2 ∷ []) ∷ [])
    ∷ (row (Num (pos 2) ∷ Num (neg 4) ∷ []) (Num (pos 0) ∷ []) (0 ∷ []) [] ∷ row (Num (pos 3) ∷ Num (neg 3) ∷ []) (Num (pos 0) ∷ []) (1 ∷ []) [] ∷ row (Num (pos 4) ∷ Num (neg 4) ∷ []) (Num (pos 0) ∷ []) (2 ∷ []) [] ∷ []) ∷ []

pub falls_4_computes : tight (transitions_of falls) falls_values (set_of (1 ∷ 2 ∷ 3 ∷ 4 ∷ 5 ∷ 6 ∷ []) ∷ set_of (1 ∷ 2 ∷ 3 ∷ 4 ∷ 5 ∷ 6 ∷ []) ∷ set_of (2 ∷ 3 ∷ 4 ∷ []) ∷ []) number_limit 3 falls_2 ≡ falls_4
falls_4_computes = ap (λ t. tight t falls_values (set_of (1 ∷ 2 ∷ 3 ∷ 4 ∷ 5 ∷ 6 ∷ []) ∷ set_of (1 ∷ 2 ∷ 3 ∷ 4 ∷ 5 ∷ 6 ∷ []) ∷ set_of (2 ∷ 3 ∷ 4 ∷ []) ∷ []) number_limit 3 falls_2) falls_is

abbrev pub falls_6 : List (List PlainRow)
falls_6 =
    (row (Num (pos 9) ∷ Num (pos 0) ∷ []) (Num (neg 4) ∷ []) (0 ∷ []) (Gone ∷ Gone ∷ Live 0 ∷ Live 0 ∷ Live 1 ∷ Live 1 ∷ Live 2 ∷ []) ∷ [])
    ∷ (row (Num (pos 3) ∷ Num (neg 3) ∷ []) (Num (pos 0) ∷ []) (0 ∷ 1 ∷ []) (Gone ∷ Live 0 ∷ Live 0 ∷ Live 1 ∷ Cut ∷ Gone ∷ Gone ∷ []) ∷ row (Num (pos 5) ∷ Num (neg 5) ∷ []) (Num (pos 2) ∷ []) (1 ∷ 2 ∷ []) (Gone ∷ Gone ∷ Live 0 ∷ Live 1 ∷ Live 2 ∷ Live 2 ∷ Cut ∷ []) ∷ row (Num (pos 6) ∷ Num (neg 6) ∷ []) (Num (pos 2) ∷ []) (2 ∷ []) (Gone ∷ Gone ∷ Live 0 ∷ Live 1 ∷ Live 1 ∷ Live 2 ∷ Live 2 ∷ []) ∷ [])
    ∷ (row (Num (pos 2) ∷ Num (neg 2) ∷ []) (Num (neg 2) ∷ []) (0 ∷ []) (Live 0 ∷ Gone ∷ Gone ∷ []) ∷ row (Num (pos 4) ∷ Num (pos 0) ∷ []) (Num (neg 4) ∷ []) (1 ∷ []) (Live 0 ∷ Live 1 ∷ Live 2 ∷ []) ∷ row (Num (pos 6) ∷ Num (pos 3) ∷ []) (Num (neg 4) ∷ []) (1 ∷ 2 ∷ []) (Live 0 ∷ Live 1 ∷ Live 2 ∷ []) ∷ [])
    ∷ (row (Num (pos 2) ∷ Num (neg 4) ∷ []) (Num (pos 0) ∷ []) (0 ∷ []) [] ∷ row (Num (pos 3) ∷ Num (neg 3) ∷ []) (Num (pos 0) ∷ []) (1 ∷ []) [] ∷ row (Num (pos 4) ∷ Num (neg 4) ∷ []) (Num (pos 0) ∷ []) (2 ∷ []) [] ∷ []) ∷ []

pub falls_6_computes : tight (transitions_of falls) falls_values (set_of (2 ∷ 3 ∷ 4 ∷ 5 ∷ 6 ∷ []) ∷ set_of (1 ∷ 2 ∷ 3 ∷ 4 ∷ 5 ∷ 6 ∷ []) ∷ set_of (2 ∷ 3 ∷ 4 ∷ []) ∷ []) number_limit 3 falls_4 ≡ falls_6
falls_6_computes = ap (λ t. tight t falls_values (set_of (2 ∷ 3 ∷ 4 ∷ 5 ∷ 6 ∷ []) ∷ set_of (1 ∷ 2 ∷ 3 ∷ 4 ∷ 5 ∷ 6 ∷ []) ∷ set_of (2 ∷ 3 ∷ 4 ∷ []) ∷ []) number_limit 3 falls_4) falls_is

abbrev pub falls_9 : List (List PlainRow)
falls_9 =
    (row (Num (pos 9) ∷ Num (pos 0) ∷ []) (Num (neg 5) ∷ []) (0 ∷ []) (Gone ∷ Gone ∷ Gone ∷ Live 0 ∷ Live 0 ∷ Live 1 ∷ Live 2 ∷ []) ∷ [])
    ∷ (row (Num (pos 4) ∷ Num (neg 4) ∷ []) (Num (neg 1) ∷ []) (0 ∷ 1 ∷ []) (Gone ∷ Live 0 ∷ Live 0 ∷ Live 1 ∷ Dead 2 ∷ Cut ∷ Gone ∷ []) ∷ row (Num (pos 5) ∷ Num (neg 5) ∷ []) (Num (pos 1) ∷ []) (1 ∷ []) (Gone ∷ Gone ∷ Live 0 ∷ Live 1 ∷ Live 1 ∷ Dead 2 ∷ Gone ∷ []) ∷ row (Num (pos 6) ∷ Num (neg 6) ∷ []) (Num (pos 1) ∷ []) (2 ∷ []) (Gone ∷ Gone ∷ Live 0 ∷ Live 0 ∷ Live 1 ∷ Dead 2 ∷ Dead 2 ∷ []) ∷ [])
    ∷ (row (Num (pos 3) ∷ Num (neg 2) ∷ []) (Num (neg 3) ∷ []) (0 ∷ 1 ∷ []) (Live 0 ∷ Live 1 ∷ Cut ∷ []) ∷ row (Num (pos 4) ∷ Num (pos 1) ∷ []) (Num (neg 4) ∷ []) (1 ∷ 2 ∷ []) (Live 0 ∷ Live 1 ∷ Live 2 ∷ []) ∷ without_up (Num (pos 6) ∷ Num (pos 4) ∷ []) (2 ∷ []) (Dead 0 ∷ Dead 1 ∷ Dead 2 ∷ []) ∷ [])
    ∷ (row (Num (pos 2) ∷ Num (neg 4) ∷ []) (Num (pos 0) ∷ []) (0 ∷ []) [] ∷ row (Num (pos 3) ∷ Num (neg 5) ∷ []) (Num (pos 0) ∷ []) (1 ∷ []) [] ∷ row (Num (pos 4) ∷ Num (neg 3) ∷ []) (Num (pos 0) ∷ []) (2 ∷ []) [] ∷ []) ∷ []

pub falls_9_computes : tight (transitions_of falls) falls_values (set_of (3 ∷ 4 ∷ 5 ∷ 6 ∷ []) ∷ set_of (1 ∷ 2 ∷ 3 ∷ 4 ∷ 5 ∷ 6 ∷ []) ∷ set_of (2 ∷ 3 ∷ 4 ∷ []) ∷ []) (pos 0) 3 falls_6 ≡ falls_9
falls_9_computes = ap (λ t. tight t falls_values (set_of (3 ∷ 4 ∷ 5 ∷ 6 ∷ []) ∷ set_of (1 ∷ 2 ∷ 3 ∷ 4 ∷ 5 ∷ 6 ∷ []) ∷ set_of (2 ∷ 3 ∷ 4 ∷ []) ∷ []) (pos 0) 3 falls_6) falls_is

abbrev pub falls_10 : List (List PlainRow)
falls_10 =
    (row (Num (pos 9) ∷ Num (pos 0) ∷ []) (Num (neg 4) ∷ []) (0 ∷ []) (Gone ∷ Gone ∷ Gone ∷ Live 0 ∷ Live 0 ∷ Live 1 ∷ Live 2 ∷ []) ∷ [])
    ∷ (row (Num (pos 4) ∷ Num (neg 4) ∷ []) (Num (pos 0) ∷ []) (0 ∷ []) (Gone ∷ Live 0 ∷ Live 1 ∷ Live 2 ∷ Gone ∷ Gone ∷ Gone ∷ []) ∷ row (Num (pos 5) ∷ Num (neg 5) ∷ []) (Num (pos 2) ∷ []) (1 ∷ []) (Gone ∷ Gone ∷ Live 0 ∷ Live 1 ∷ Live 2 ∷ Gone ∷ Gone ∷ []) ∷ row (Num (pos 6) ∷ Num (neg 6) ∷ []) (Num (pos 2) ∷ []) (2 ∷ []) (Gone ∷ Gone ∷ Live 0 ∷ Live 1 ∷ Live 2 ∷ Gone ∷ Gone ∷ []) ∷ [])
    ∷ (row (Num (pos 2) ∷ Num (neg 2) ∷ []) (Num (neg 2) ∷ []) (0 ∷ []) (Live 0 ∷ Cut ∷ Gone ∷ []) ∷ row (Num (pos 3) ∷ Num (pos 0) ∷ []) (Num (neg 3) ∷ []) (0 ∷ 1 ∷ []) (Live 0 ∷ Live 1 ∷ Cut ∷ []) ∷ row (Num (pos 4) ∷ Num (pos 2) ∷ []) (Num (neg 4) ∷ []) (1 ∷ []) (Dead 1 ∷ Live 2 ∷ Live 2 ∷ []) ∷ [])
    ∷ (row (Num (pos 2) ∷ Num (neg 4) ∷ []) (Num (pos 0) ∷ []) (0 ∷ []) [] ∷ row (Num (pos 3) ∷ Num (neg 3) ∷ []) (Num (pos 0) ∷ []) (0 ∷ 1 ∷ []) [] ∷ row (Num (pos 4) ∷ Num (neg 2) ∷ []) (Num (pos 0) ∷ []) (1 ∷ 2 ∷ []) [] ∷ []) ∷ []

pub falls_10_computes : tight (transitions_of falls) falls_values (set_of (3 ∷ 4 ∷ 5 ∷ 6 ∷ []) ∷ set_of (1 ∷ 2 ∷ 3 ∷ 4 ∷ []) ∷ set_of (2 ∷ 3 ∷ 4 ∷ []) ∷ []) (pos 0) 3 falls_9 ≡ falls_10
falls_10_computes = ap (λ t. tight t falls_values (set_of (3 ∷ 4 ∷ 5 ∷ 6 ∷ []) ∷ set_of (1 ∷ 2 ∷ 3 ∷ 4 ∷ []) ∷ set_of (2 ∷ 3 ∷ 4 ∷ []) ∷ []) (pos 0) 3 falls_9) falls_is

abbrev pub falls_13 : List (List PlainRow)
falls_13 =
    (row (Num (pos 9) ∷ Num (pos 0) ∷ []) (Num (neg 4) ∷ []) (0 ∷ []) (Gone ∷ Gone ∷ Gone ∷ Gone ∷ Live 0 ∷ Live 1 ∷ Live 2 ∷ []) ∷ [])
    ∷ (row (Num (pos 4) ∷ Num (neg 4) ∷ []) (Num (pos 0) ∷ []) (0 ∷ []) (Gone ∷ Live 0 ∷ Live 1 ∷ Live 2 ∷ Gone ∷ Gone ∷ Gone ∷ []) ∷ row (Num (pos 5) ∷ Num (neg 5) ∷ []) (Num (pos 2) ∷ []) (1 ∷ []) (Gone ∷ Gone ∷ Live 0 ∷ Live 1 ∷ Dead 2 ∷ Gone ∷ Gone ∷ []) ∷ row (Num (pos 6) ∷ Num (neg 6) ∷ []) (Num (pos 2) ∷ []) (2 ∷ []) (Gone ∷ Gone ∷ Live 0 ∷ Live 1 ∷ Live 2 ∷ Gone ∷ Gone ∷ []) ∷ [])
    ∷ (row (Num (pos 2) ∷ Num (neg 2) ∷ []) (Num (neg 2) ∷ []) (0 ∷ []) (Live 0 ∷ Gone ∷ Gone ∷ []) ∷ row (Num (pos 3) ∷ Num (pos 0) ∷ []) (Num (neg 3) ∷ []) (1 ∷ []) (Live 0 ∷ Live 1 ∷ Gone ∷ []) ∷ row (Num (pos 4) ∷ Num (pos 2) ∷ []) (Num (neg 4) ∷ []) (2 ∷ []) (Gone ∷ Dead 1 ∷ Live 2 ∷ []) ∷ [])
    ∷ (row (Num (pos 2) ∷ Num (neg 4) ∷ []) (Num (pos 0) ∷ []) (0 ∷ []) [] ∷ row (Num (pos 3) ∷ Num (neg 3) ∷ []) (Num (pos 0) ∷ []) (1 ∷ 2 ∷ []) [] ∷ row (Num (pos 4) ∷ Num (neg 2) ∷ []) (Num (pos 0) ∷ []) (2 ∷ []) [] ∷ []) ∷ []

pub falls_13_computes : tight (transitions_of falls) falls_values (set_of (4 ∷ 5 ∷ 6 ∷ []) ∷ set_of (1 ∷ 2 ∷ 3 ∷ 4 ∷ []) ∷ set_of (2 ∷ 3 ∷ 4 ∷ []) ∷ []) (neg 1) 3 falls_10 ≡ falls_13
falls_13_computes = ap (λ t. tight t falls_values (set_of (4 ∷ 5 ∷ 6 ∷ []) ∷ set_of (1 ∷ 2 ∷ 3 ∷ 4 ∷ []) ∷ set_of (2 ∷ 3 ∷ 4 ∷ []) ∷ []) (neg 1) 3 falls_10) falls_is
