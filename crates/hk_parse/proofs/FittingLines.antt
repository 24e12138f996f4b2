-- The lines of a good specification are well written and within their limits.
use Rattle.std.proofs.Common.{◌≡◌, ℤ, ◌≤◌, true, refl, arith}
use Rattle.std.proofs.lemmas.Bool.{both_ways, and_parts, leb-true}
use Rattle.std.proofs.lemmas.Bool.Decides.{nat_tests}
use Rattle.std.proofs.lemmas.Int.{ints}
use Rattle.hk_kinds.specs.Limits.{IsWithinLimit}
use Rattle.hk_kinds.specs.Shapes.{IsOfKind, is_min, is_max, is_interval, is_some, is_all}
use Rattle.hk_kinds.specs.declared.kinds.Kind.{Kind}
use Rattle.hk_kinds.specs.declared.kinds.Kind.TheVariants.{Min, Max, Interval, SomeBits, AllBits}
use Rattle.hk_kinds.specs.declared.properties.Prop.{Prop}
use Rattle.hk_spec.specs.Scopes.{is_within_limit, is_good_num, is_good_set, is_good_cond}
use Rattle.hk_spec.specs.Specifications.{is_step}
use Rattle.hk_spec.specs.declared.expressions.Cond.{Cond}
use Rattle.hk_spec.specs.declared.expressions.NumExpr.{NumExpr}
use Rattle.hk_spec.specs.declared.expressions.SetExpr.{SetExpr}
use Rattle.hk_spec.specs.declared.parts.StepExpr.{StepExpr}
use Rattle.hk_spec.specs.declared.parts.StepExpr.TheVariants as step
use Rattle.hk_spec.specs.Scopes as scopes
use Rattle.hk_parse.specs.BlockLines.{NamesStep, SmallStep, SmallInit}
use Rattle.hk_terms.specs.Names.{scope_of}
use Rattle.hk_terms.specs.CondTexts.{IsCondText}
use Rattle.hk_parse.specs.LineTexts.{HasForm, IsInitText, IsStepText}
use Rattle.hk_terms.specs.Names.{Names, NamesNum, NamesSet, NamesCond, SmallNum, SmallSet, SmallCond, num_depth, set_depth, cond_depth}
use Rattle.hk_terms.specs.NumTexts.{IsNumText}
use Rattle.hk_terms.specs.SetTexts.{IsSetText}
use Rattle.hk_parse.specs.LineTrees.{init_text, step_text}
use Rattle.hk_terms.specs.Trees.{num_text, set_text, cond_text}
use Rattle.hk_terms.proofs.Depths.{cond_deep}
use Rattle.hk_parse.proofs.StepTexts.{num_shallow, set_shallow}
use Rattle.hk_parse.proofs.FittingTexts.{AreWords, signed_written, signed_small, members_written, members_small}
use Rattle.hk_parse.proofs.FittingTrees.{num_good, set_good, cond_good}

within_tested : (n : ℤ) → IsWithinLimit n → is_within_limit n ≡ true
within_tested n within = let least = within.least in let most = within.most in grind (arith, ints, nat_tests)

-- a value of a kind is well written
pub init_written : {kind : Kind} {value : Prop} → IsOfKind kind value → IsInitText kind (init_text value)
init_written (is_min {n = n} within) = signed_written n (within_tested n within)
init_written (is_max {n = n} within) = signed_written n (within_tested n within)
init_written (is_interval {low = low} {high = high} within also) = (signed_written low (within_tested low within), signed_written high (within_tested high also))
init_written (is_some {set = set} is) = members_written set
init_written (is_all {set = set} is) = members_written set

-- and its numbers are within their limits
pub init_small : {kind : Kind} {value : Prop} → IsOfKind kind value → SmallInit (init_text value)
init_small (is_min {n = n} within) = signed_small n (within_tested n within)
init_small (is_max {n = n} within) = signed_small n (within_tested n within)
init_small (is_interval {low = low} {high = high} within also) = (signed_small low (within_tested low within), signed_small high (within_tested high also))
init_small (is_some {set = set} is) = members_small set
init_small (is_all {set = set} is) = members_small set

module _ {names : Names} (words : AreWords names) where
  -- a step in the form that its kind asks: well written, its names stand for what their places ask, and it is within its limits
  pub record IsFittingStep (kind : Kind) (e : StepExpr) : Type 0 where
    pub form : HasForm kind (step_text names e)
    pub written : IsStepText (step_text names e)
    pub named : NamesStep names (step_text names e)
    pub small : SmallStep (step_text names e)

  num_fitting : (e : NumExpr) → is_good_num (scope_of names) e ≡ true → IsNumText (num_text names e) × NamesNum names (num_text names e) × (SmallNum (num_text names e) × (num_depth (num_text names e) ≤ 32))
  num_fitting e good = let all = num_good words e (and_parts _ _ good).0 in (all.0, all.1, (all.2, num_shallow names e refl good))

  set_fitting : (e : SetExpr) → is_good_set (scope_of names) e ≡ true → IsSetText (set_text names e) × NamesSet names (set_text names e) × (SmallSet (set_text names e) × (set_depth (set_text names e) ≤ 32))
  set_fitting e good = let all = set_good words e (and_parts _ _ good).0 in (all.0, all.1, (all.2, set_shallow names e refl good))

  -- a step of a specification is such a one
  pub step_fitting : (kind : Kind) (e : StepExpr) → is_step (scope_of names) kind e ≡ true → IsFittingStep kind e
  step_fitting Min (step.Num e) good = let all = num_fitting e good in record { form = tt; written = all.0; named = all.1; small = all.2 }
  step_fitting Max (step.Num e) good = let all = num_fitting e good in record { form = tt; written = all.0; named = all.1; small = all.2 }
  step_fitting Interval (step.Pair low high) good =
      let both = and_parts _ _ good in
      let first = num_fitting low both.0 in
      let second = num_fitting high both.1 in
      record { form = tt; written = (first.0, second.0); named = (first.1, second.1); small = (first.2, second.2) }
  step_fitting SomeBits (step.Set e) good = let all = set_fitting e good in record { form = tt; written = all.0; named = all.1; small = all.2 }
  step_fitting AllBits (step.Set e) good = let all = set_fitting e good in record { form = tt; written = all.0; named = all.1; small = all.2 }
  step_fitting Min (step.Pair low high) good = absurd (both_ways _ refl good)
  step_fitting Min (step.Set e) good = absurd (both_ways _ refl good)
  step_fitting Max (step.Pair low high) good = absurd (both_ways _ refl good)
  step_fitting Max (step.Set e) good = absurd (both_ways _ refl good)
  step_fitting Interval (step.Num e) good = absurd (both_ways _ refl good)
  step_fitting Interval (step.Set e) good = absurd (both_ways _ refl good)
  step_fitting SomeBits (step.Num e) good = absurd (both_ways _ refl good)
  step_fitting SomeBits (step.Pair low high) good = absurd (both_ways _ refl good)
  step_fitting AllBits (step.Num e) good = absurd (both_ways _ refl good)
  step_fitting AllBits (step.Pair low high) good = absurd (both_ways _ refl good)

  -- the same of a condition
  pub record IsFittingCond (c : Cond) : Type 0 where
    pub written : IsCondText (cond_text names c)
    pub named : NamesCond names (cond_text names c)
    pub small : SmallCond (cond_text names c) × (cond_depth (cond_text names c) ≤ 32)

  -- a condition of a specification is such a one
  pub cond_fitting : (c : Cond) → is_good_cond (scope_of names) c ≡ true → IsFittingCond c
  cond_fitting c good =
      let all = cond_good words c (and_parts _ _ good).0 in
      record { written = all.0; named = all.1; small = (all.2, omega (arith, cond_deep names c, leb-true (scopes.cond_depth c) 32 (and_parts (scopes.cond_fits (scope_of names) c) _ good).1)) }
