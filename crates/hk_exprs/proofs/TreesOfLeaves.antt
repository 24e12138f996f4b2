-- Literals and names that are well written and within their limits are those of expressions.
use Rattle.std.proofs.Common.{ℕ, pos, negsuc, zero, suc, Bool, true, false, List, [], Ok, Err, Result, Contains, length, inl, inr, refl, sym, ap, arith}
use Rattle.std.proofs.lemmas.Option.{slice_get_read}
use Rattle.hk_spec.specs.declared.expressions.NumExpr.{NumExpr}
use Rattle.hk_spec.specs.declared.expressions.NumExpr.TheOpen.{NumExpr-F}
use Rattle.hk_spec.specs.declared.expressions.NumExpr.TheVariants as number
use Rattle.hk_spec.specs.declared.expressions.SetExpr.{SetExpr}
use Rattle.hk_spec.specs.declared.expressions.SetExpr.TheOpen.{SetExpr-F}
use Rattle.hk_spec.specs.declared.expressions.SetExpr.TheVariants as values
use Rattle.hk_spec.specs.declared.expressions.Side.{Side}
use Rattle.hk_spec.specs.declared.expressions.Side.TheVariants.{Down, Up}
use Rattle.hk_spec.specs.declared.parts.ParamKind.{ParamKind}
use Rattle.hk_spec.specs.declared.parts.ParamKind.TheVariants as param
use Rattle.hk_terms.specs.declared.flaws.Flaw.{Flaw}
use Rattle.hk_terms.specs.declared.flaws.Flaw.TheVariants.{Name, Limit}
use Rattle.hk_terms.specs.declared.lookups.Form.{Form}
use Rattle.hk_terms.specs.declared.lookups.Form.TheVariants as form
use Rattle.hk_terms.specs.Atoms.{IsBitsOf}
use Rattle.hk_terms.specs.inside.Forms.{has_form}
use Rattle.hk_terms.specs.Names.{Names, HasParam, HasProperty, IsNumName, IsSetName, plain_words, SmallSet, WritesUpTo}
use Rattle.hk_terms.specs.NumTexts as num
use Rattle.hk_terms.specs.NumTexts.{NumText, IsSigned}
use Rattle.hk_terms.specs.Outcomes.{IsNumOf, IsSetOf}
use Rattle.hk_terms.specs.SetTexts as set
use Rattle.hk_terms.specs.SetTexts.{SetText, AreRisingNumbers}
use Rattle.hk_exprs.specs.inside.Standing.{IsNum, IsSet}
use Rattle.hk_terms.proofs.Leaves.{num_leaf, set_leaf}
use Rattle.hk_terms.proofs.ListedNumbers.{numbers_from, numbers_rise}
use Rattle.hk_terms.proofs.LiteralTexts.{plain_literal, minus_literal}
use Rattle.hk_terms.proofs.NamePlaces.{IsParamAt, IsPropertyAt, num_param, item_param, set_param, num_property, low_property, high_property, set_property}
use Rattle.hk_terms.proofs.NumbersMade.{with_numbers, bits_of_numbers}

-- an expression of a specification that is written so
abbrev pub NumThere : Names → NumText → Type 0
NumThere names text = (e : NumExpr) × IsNum names text e

abbrev pub SetThere : Names → SetText → Type 0
SetThere names text = (e : SetExpr) × IsSet names text e

num_there : {names : Names} {text : NumText} (e : NumExpr) → IsNumOf names text (Ok e) → NumThere names text
num_there e is = (e, record { text_is = is.0; good = is.1 })

set_there : {names : Names} {text : SetText} (e : SetExpr) → IsSetOf names text (Ok e) → SetThere names text
set_there e is = (e, record { text_is = is.0; good = is.1 })

module _ (names : Names) where
  -- a number, with `-` in front or without
  pub literal_there : (negative : Bool) (digits : List ℕ) → WritesUpTo 1000000000000 digits → IsSigned negative digits → NumThere names (num.Number negative digits)
  literal_there false digits small (n, writes) = num_there (number.Lit (pos n)) (plain_literal names (pos n) writes (small n writes) refl)
  literal_there true digits small (n, writes) = num_there (number.Lit (negsuc n)) (minus_literal names (negsuc n) (n, writes) writes (small (suc n) writes) refl)

  -- numbers in braces
  pub values_there : (numbers : List (List ℕ)) → SmallSet (set.Values numbers) → AreRisingNumbers numbers → SetThere names (set.Values numbers)
  values_there numbers small rising = by (with_numbers (Ok 0) rising.numbers) (bits_of_numbers (numbers_rise (numbers_from {rest = []} rising.written refl rising.rising)) rising.written)
    where
      by : (made : Result ℕ Flaw) → IsBitsOf numbers made → SetThere names (set.Values numbers)
      by (Ok bits) is = set_there (values.Lit bits) (is names)
      by (Err Name) is = absurd is
      by (Err Limit) is = absurd (is small)

  -- the set of the value at hand
  pub one_there : SetThere names set.One
  one_there = set_there values.One (set_leaf names SetExpr-F.One values.One set.One values.rolls-One refl refl refl tt tt)

  param_from : {kind : ParamKind} {word : List ℕ} → HasParam names kind word → (place : ℕ) × IsParamAt names place kind word
  param_from (place, p, inside, at, holds) =
      (place, record { p = p; inside = inside; got = slice_get_read names.params (length names.params) place p refl inside (sym at); name = holds.0; kind_is = holds.1 })

  property_from : (asked : Form) {word : List ℕ} → HasProperty names (has_form asked) word → (side : Side) × (place : ℕ) × IsPropertyAt names side place asked word
  property_from asked (inl (place, p, inside, at, holds)) =
      (Down, place, record { p = p; inside = inside; got = slice_get_read names.down (length names.down) place p refl inside (sym at); name = holds.0; has = holds.1 })
  property_from asked (inr (place, p, inside, at, holds)) =
      (Up, place, record { p = p; inside = inside; got = slice_get_read names.up (length names.up) place p refl inside (sym at); name = holds.0; has = holds.1 })

  plain_there : {word : List ℕ} → Contains plain_words word → NumThere names (num.Named word)
  plain_there {word = word} (zero, inside, at) =
      num_there number.Value (num_leaf names NumExpr-F.Value number.Value (num.Named word) number.rolls-Value (ap num.Named at) refl refl (inl (zero, inside, at)) tt)
  plain_there {word = word} (suc zero, inside, at) =
      num_there number.Index (num_leaf names NumExpr-F.Index number.Index (num.Named word) number.rolls-Index (ap num.Named at) refl refl (inl (suc zero, inside, at)) tt)
  plain_there {word = word} (suc (suc zero), inside, at) =
      num_there number.Length (num_leaf names NumExpr-F.Length number.Length (num.Named word) number.rolls-Length (ap num.Named at) refl refl (inl (suc (suc zero), inside, at)) tt)
  plain_there (suc (suc (suc k)), inside, at) = absurd (omega (arith, inside))

  -- a word that stands for a number
  pub num_word_there : {word : List ℕ} → IsNumName names word → NumThere names (num.Named word)
  num_word_there (inl word) = plain_there word
  num_word_there (inr (inl has)) = let (place, at) = param_from has in num_there (number.Param place) (num_param at)
  num_word_there (inr (inr property)) = let (side, place, at) = property_from form.Number property in num_there (number.Number side place) (num_property at)

  -- a word that stands for a set
  pub set_word_there : {word : List ℕ} → IsSetName names word → SetThere names (set.Named word)
  set_word_there (inl has) = let (place, at) = param_from has in set_there (values.Param place) (set_param at)
  set_word_there (inr property) = let (side, place, at) = property_from form.Set property in set_there (values.Bits side place) (set_property at)

  -- the item of a list, and the ends of an interval
  pub item_there : {word : List ℕ} → HasParam names param.List word → NumThere names (num.Item word)
  item_there has = let (place, at) = param_from has in num_there (number.Item place) (item_param at)

  pub low_there : {word : List ℕ} → HasProperty names (has_form form.Interval) word → NumThere names (num.Low word)
  low_there property = let (side, place, at) = property_from form.Interval property in num_there (number.Low side place) (low_property at)

  pub high_there : {word : List ℕ} → HasProperty names (has_form form.Interval) word → NumThere names (num.High word)
  high_there property = let (side, place, at) = property_from form.Interval property in num_there (number.High side place) (high_property at)
