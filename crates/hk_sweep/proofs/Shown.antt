-- Short names for tables that are written out, as a certificate shows them.
use Rattle.std.specs.Prelude.{ℕ, ℤ, pos, neg_ℤ, ◌+◌, ◌^◌, List, [], ◌∷◌, None, Some}
use Rattle.hk_group.specs.Groups.{Part}
use Rattle.hk_kinds.specs.declared.properties.Prop.{Prop}
use Rattle.hk_kinds.specs.declared.properties.Prop.TheVariants.{Pair, Bits}
use Rattle.hk_spec.specs.Specifications.{BoundSpecification}
use Rattle.hk_table.specs.Tables.{PlainRow}
use Rattle.hk_table.specs.declared.entries.Entry.{Entry}

abbrev pub neg : ℕ → ℤ
neg n = neg_ℤ (pos n)

abbrev pub set_of : List ℕ → ℕ
set_of [] = 0
set_of (value ∷ values) = 2 ^ value + set_of values

abbrev pub bits : List ℕ → Prop
bits values = Bits (set_of values)

abbrev pub span : ℕ → ℕ → Prop
span low high = Pair (pos low) (pos high)

abbrev pub row : List Prop → List Prop → List ℕ → List Entry → PlainRow
row down up from entries = record { down = down; up = Some up; from = from; entries = entries }

abbrev pub without_up : List Prop → List ℕ → List Entry → PlainRow
without_up down from entries = record { down = down; up = None; from = from; entries = entries }

abbrev pub part : List ℕ → BoundSpecification → Part
part scope bound = record { bound = bound; scope = scope }
