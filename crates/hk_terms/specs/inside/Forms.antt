-- The forms of properties, and sets in braces that grow.
use Rattle.std.specs.Prelude.{ℕ, ◌^◌, nat_lt, bit_or, Bool, if◌then◌else◌, Some, Result, Ok, Err}
use Rattle.hk_kinds.specs.declared.kinds.Kind.{Kind}
use Rattle.hk_spec.specs.Scopes.{is_number_kind, is_interval_kind, is_set_kind}
use Rattle.hk_terms.specs.declared.flaws.Flaw.{Flaw}
use Rattle.hk_terms.specs.declared.flaws.Flaw.TheVariants.{Limit}
use Rattle.hk_terms.specs.declared.lookups.Form.{Form}
use Rattle.hk_terms.specs.declared.lookups.Form.TheVariants as form
use Rattle.hk_terms.specs.Operands.{Set}

-- whether the values of a property of this kind are numbers, intervals or sets
abbrev pub has_form : Form → Kind → Bool
has_form form.Number kind = is_number_kind (Some kind)
has_form form.Interval kind = is_interval_kind (Some kind)
has_form form.Set kind = is_set_kind (Some kind)

-- the set with one number more, or Limit where that number passes its limit
abbrev pub with_number : Result ℕ Flaw → ℕ → Result ℕ Flaw
with_number (Err flaw) n = Err flaw
with_number (Ok set) n = if nat_lt n 128 then Ok (bit_or set (2 ^ n)) else Err Limit
