-- The specifications of the library: each is of the kind that a model may spell itself, but for `best`.
use Rattle.std.specs.Prelude.{ℕ, zero, suc, ℤ, pos, ◌+◌, ◌-◌, ◌/◌, ◌%◌, ◌^◌, nat_lt, if◌then◌else◌, List, [], ◌∷◌, length, map, codes}
use Rattle.hk_kinds.specs.declared.kinds.Kind.TheVariants.{Min, Interval, SomeBits, AllBits}
use Rattle.hk_kinds.specs.declared.properties.Prop.TheVariants as property
use Rattle.hk_spec.specs.Specifications.{Specification, BoundSpecification}
use Rattle.hk_spec.specs.Trees.{literal, value, index, positions, best, number_param, item, number, low, high, card, plus, minus, times, one, set_param, bits, union, common, at_most, below, at_least, lacks, both, either}
use Rattle.hk_spec.specs.declared.arguments.Arg.TheVariants as argument
use Rattle.hk_spec.specs.declared.expressions.Side.{Side}
use Rattle.hk_spec.specs.declared.expressions.Side.TheVariants.{Down, Up}
use Rattle.hk_spec.specs.declared.expressions.NumExpr.{NumExpr}
use Rattle.hk_spec.specs.declared.expressions.SetExpr.{SetExpr}
use Rattle.hk_spec.specs.declared.expressions.Cond.{Cond}
use Rattle.hk_spec.specs.declared.parts.Param.{Param}
use Rattle.hk_spec.specs.declared.parts.ParamKind.TheVariants as kind
use Rattle.hk_spec.specs.declared.parts.PropDecl.{PropDecl}
use Rattle.hk_spec.specs.declared.parts.StepExpr.{StepExpr}
use Rattle.hk_spec.specs.declared.parts.StepExpr.TheVariants as step

-- `num NAME`
abbrev pub number_named : List ℕ → Param
number_named name = record { name = name; kind = kind.Num }

-- `set NAME`
abbrev pub set_named : List ℕ → Param
set_named name = record { name = name; kind = kind.Set }

-- `list NAME`
abbrev pub list_named : List ℕ → Param
list_named name = record { name = name; kind = kind.List }

-- `NAME Interval 0..0`
abbrev pub interval_named : List ℕ → PropDecl
interval_named name = record { name = name; kind = Interval; init = property.Pair (pos 0) (pos 0) }

-- `NAME Min 0`
abbrev pub min_named : List ℕ → PropDecl
min_named name = record { name = name; kind = Min; init = property.Num (pos 0) }

-- `NAME SomeBits {}`
abbrev pub some_named : List ℕ → PropDecl
some_named name = record { name = name; kind = SomeBits; init = property.Bits 0 }

-- `NAME AllBits {}`
abbrev pub all_named : List ℕ → PropDecl
all_named name = record { name = name; kind = AllBits; init = property.Bits 0 }

-- `(S | {v})`
abbrev pub with_value : SetExpr → SetExpr
with_value set = union set one

-- `(((v notin all) and (v notin uall)) and ((card((some | {v})) >= (i + 1)) and (card((usome | {v})) >= (n - i))))`
abbrev pub differing_test : Cond
differing_test = both
    (both (lacks (bits Down 1)) (lacks (bits Up 1)))
    (both (at_least (card (with_value (bits Down 0))) (plus index (literal (pos 1))))
    (at_least (card (with_value (bits Up 0))) (minus positions index)))

-- the specification of `alldifferent`: the values that some and that all earlier lists hold, and the same of later ones
--   spec alldifferent ()
--   down some SomeBits {}
--   down all AllBits {}
--   up usome SomeBits {}
--   up uall AllBits {}
--   test (((v notin all) and (v notin uall)) and ((card((some | {v})) >= (i + 1)) and (card((usome | {v})) >= (n - i))))
--   step some (some | {v})
--   step all (all | {v})
--   step usome (usome | {v})
--   step uall (uall | {v})
--   end
abbrev pub alldifferent_spec : Specification
alldifferent_spec = record {
  name = codes "alldifferent";
  params = [];
  down = some_named (codes "some") ∷ all_named (codes "all") ∷ [];
  up = some_named (codes "usome") ∷ all_named (codes "uall") ∷ [];
  test = differing_test;
  down_step = step.Set (with_value (bits Down 0)) ∷ step.Set (with_value (bits Down 1)) ∷ [];
  up_step = step.Set (with_value (bits Up 0)) ∷ step.Set (with_value (bits Up 1)) ∷ [];
}

-- an Interval's step by a number: `(p.lo + e) (p.hi + e)`
abbrev pub step_by : Side → NumExpr → StepExpr
step_by side e = step.Pair (plus (low side 0) e) (plus (high side 0) e)

-- `((((p.lo + e) + q.lo) <= most) and (least <= ((p.hi + e) + q.hi)))`, of the down property p and the up property q
abbrev pub total_test : NumExpr → NumExpr → NumExpr → Cond
total_test e least most = both
    (at_most (plus (plus (low Down 0) e) (low Up 0)) most)
    (at_most least (plus (plus (high Down 0) e) (high Up 0)))

-- `card(({v} & vals))`, of the third parameter: 1 where the value is in the set, else 0
abbrev pub counted : NumExpr
counted = card (common one (set_param 2))

-- the parameters `num least, num most, set vals`
abbrev pub counting_params : List Param
counting_params = number_named (codes "least") ∷ number_named (codes "most") ∷ set_named (codes "vals") ∷ []

-- the specification of `among`: how many earlier, and how many later values are in the set
--   spec among (num least, num most, set vals)
--   down c Interval 0..0
--   up u Interval 0..0
--   test ((((c.lo + card(({v} & vals))) + u.lo) <= most) and (least <= ((c.hi + card(({v} & vals))) + u.hi)))
--   step c (c.lo + card(({v} & vals))) (c.hi + card(({v} & vals)))
--   step u (u.lo + card(({v} & vals))) (u.hi + card(({v} & vals)))
--   end
abbrev pub among_spec : Specification
among_spec = record {
  name = codes "among";
  params = counting_params;
  down = interval_named (codes "c") ∷ [];
  up = interval_named (codes "u") ∷ [];
  test = total_test counted (number_param 0) (number_param 1);
  down_step = step_by Down counted ∷ [];
  up_step = step_by Up counted ∷ [];
}

-- `(k[i] * v)`, of the first parameter
abbrev pub weighted : NumExpr
weighted = times (item 0) value

-- the specification of `sum`: the sum over the earlier, and over the later values
--   spec sum (list k, num least, num most)
--   down s Interval 0..0
--   up u Interval 0..0
--   test ((((s.lo + (k[i] * v)) + u.lo) <= most) and (least <= ((s.hi + (k[i] * v)) + u.hi)))
--   step s (s.lo + (k[i] * v)) (s.hi + (k[i] * v))
--   step u (u.lo + (k[i] * v)) (u.hi + (k[i] * v))
--   end
abbrev pub sum_spec : Specification
sum_spec = record {
  name = codes "sum";
  params = list_named (codes "k") ∷ number_named (codes "least") ∷ number_named (codes "most") ∷ [];
  down = interval_named (codes "s") ∷ [];
  up = interval_named (codes "u") ∷ [];
  test = total_test weighted (number_param 1) (number_param 2);
  down_step = step_by Down weighted ∷ [];
  up_step = step_by Up weighted ∷ [];
}

-- the specification of the objective: the sum over the earlier, and over the later values, is below `best`
--   spec objective (list k)
--   down o Min 0
--   up p Min 0
--   test (((o + (k[i] * v)) + p) < best)
--   step o (o + (k[i] * v))
--   step p (p + (k[i] * v))
--   end
abbrev pub objective_spec : Specification
objective_spec = record {
  name = codes "objective";
  params = list_named (codes "k") ∷ [];
  down = min_named (codes "o") ∷ [];
  up = min_named (codes "p") ∷ [];
  test = below (plus (plus (number Down 0) weighted) (number Up 0)) best;
  down_step = step.Num (plus (number Down 0) weighted) ∷ [];
  up_step = step.Num (plus (number Up 0) weighted) ∷ [];
}

-- a number below 100 in decimal, without a needless zero
abbrev pub decimal : ℕ → List ℕ
decimal n = if nat_lt n 10 then (48 + n) ∷ [] else (48 + n / 10) ∷ (48 + n % 10) ∷ []

-- the names `a0`, `a1` and so on
abbrev pub lag_name : ℕ → List ℕ
lag_name place = 97 ∷ decimal place

-- the properties of so many of these names from a place on
abbrev pub lags_from : ℕ → ℕ → List PropDecl
lags_from place zero = []
lags_from place (suc count) = interval_named (lag_name place) ∷ lags_from (place + 1) count

-- `aP.lo aP.hi` for so many places P from a place on
abbrev pub shifts_from : ℕ → ℕ → List StepExpr
shifts_from place zero = []
shifts_from place (suc count) = step.Pair (low Down place) (high Down place) ∷ shifts_from (place + 1) count

-- `((i < L) or ((((a0.lo + card(({v} & vals))) - aL.hi) <= most) and (least <= ((a0.hi + card(({v} & vals))) - aL.lo))))`
abbrev pub window_test : ℕ → Cond
window_test last = either
    (below index (literal (pos last)))
    (both (at_most (minus (plus (low Down 0) counted) (high Down last)) (number_param 1))
    (at_most (number_param 0) (minus (plus (high Down 0) counted) (low Down last))))

-- the specification of `sequence` with this window: how many earlier values are in the set, now, and one, two and more
-- values ago. With window 3:
--   spec sequence (num least, num most, set vals)
--   down a0 Interval 0..0
--   down a1 Interval 0..0
--   down a2 Interval 0..0
--   test ((i < 2) or ((((a0.lo + card(({v} & vals))) - a2.hi) <= most) and (least <= ((a0.hi + card(({v} & vals))) - a2.lo))))
--   step a0 (a0.lo + card(({v} & vals))) (a0.hi + card(({v} & vals)))
--   step a1 a0.lo a0.hi
--   step a2 a1.lo a1.hi
--   end
abbrev pub sequence_spec : ℕ → Specification
sequence_spec window = record {
  name = codes "sequence";
  params = counting_params;
  down = lags_from 0 window;
  up = [];
  test = window_test (window - 1);
  down_step = step_by Down counted ∷ shifts_from 0 (window - 1);
  up_step = [];
}

-- `alldifferent` of n values
abbrev pub alldifferent_bound : ℕ → BoundSpecification
alldifferent_bound n = record { spec = alldifferent_spec; args = []; len = n }

-- `among` of n values, with its arguments
abbrev pub among_bound : ℕ → ℕ → ℤ → ℤ → BoundSpecification
among_bound n set least most = record { spec = among_spec; args = argument.Num least ∷ argument.Num most ∷ argument.Set set ∷ []; len = n }

-- `sequence` of n values, with its window and its arguments
abbrev pub sequence_bound : ℕ → ℕ → ℕ → ℤ → ℤ → BoundSpecification
sequence_bound n window set least most = record { spec = sequence_spec window; args = argument.Num least ∷ argument.Num most ∷ argument.Set set ∷ []; len = n }

-- a row of `gcc` is an `among` of its one value
abbrev pub gcc_bound : ℕ → ℕ × ℤ × ℤ → BoundSpecification
gcc_bound n row = among_bound n (2 ^ row.0) row.1 row.2

-- the rows of `gcc`, in order
abbrev pub gcc_bounds : ℕ → List (ℕ × ℤ × ℤ) → List BoundSpecification
gcc_bounds n rows = map (gcc_bound n) rows

-- `sum` of one value a coefficient, with its arguments
abbrev pub sum_bound : List ℤ → ℤ → ℤ → BoundSpecification
sum_bound coefs least most = record { spec = sum_spec; args = argument.Nums coefs ∷ argument.Num least ∷ argument.Num most ∷ []; len = length coefs }

-- the objective of one value a coefficient
abbrev pub objective_bound : List ℤ → BoundSpecification
objective_bound coefs = record { spec = objective_spec; args = argument.Nums coefs ∷ []; len = length coefs }
