-- A line that begins with `spec`, outside of a specification: it opens one, or has a first fault.
use Rattle.hk_text.specs.Tokens.{HasTexts}
use Rattle.std.proofs.Common.{◌≡◌, ◌↔◌, ℕ, ◌<◌, ◌≤◌, ◌⊎◌, inl, inr, Bool, true, false, IsTrue, List, ◌∷◌, length, None, Some, IsSome, refl, sym, ◌∙◌, true≢false}
use Rattle.std.specs.Prelude.{codes}
use Rattle.hk_text.specs.Lexemes.{IsWord}
use Rattle.hk_parse.specs.declared.faults.BlockFault.{BlockFault}
use Rattle.hk_parse.specs.declared.faults.BlockFault.TheVariants as block
use Rattle.hk_parse.specs.BlockFaults.{BeginsWith, IsBeginFault}
use Rattle.hk_parse.specs.BlockLines.{Part, BeginNameFault, BeginLimitFault}
use Rattle.hk_parse.specs.LineTexts.{ParamText, Begin, SaysLine, param_texts}
use Rattle.hk_parse.specs.SetTexts.{in_parentheses}
use Rattle.hk_spec.specs.Specifications.{Specification}
use Rattle.hk_draft.specs.declared.faults.LineFault.TheVariants.{Bad}
use Rattle.hk_model.specs.Limits.{most_specifications}
use Rattle.hk_draft.specs.declared.kinds.RefusalKind.TheVariants.{Syntax, Name, Limit}
use Rattle.hk_model.specs.inside.Faults.{IsLineFault, as_begin_fault}
use Rattle.hk_model.specs.Models.{Declared, IsGoodLine, good_opening}
use Rattle.hk_model.specs.Postings.{spec_of}
use Rattle.hk_draft.proofs.Effects.{none_since}
use Rattle.hk_model.proofs.FirstWords.{statement_apart}
use Rattle.hk_model.proofs.FaultRanks.{first_syntax, first_name, first_limit, none_open, fault_bad}
use Rattle.hk_text.proofs.TokenTexts.{apart, apart_none}
use Rattle.hk_model.proofs.Meanings.{Meaning, Means, means_statement, means_post, means_opening, means_inside, outside_inside, none_say_nothing}
use Rattle.hk_model.proofs.MeantEffects.{some_value}

-- the name on a first line is taken where it is that of a specification
abbrev pub TellsTaken : List Specification → List (List ℕ) → Bool → Type 0
TellsTaken specs texts taken = (first name : List ℕ) (rest : List (List ℕ)) → texts ≡ first ∷ name ∷ rest → IsWord name → IsTrue taken ↔ IsSome (spec_of specs name)

-- it does so of the name that a first line says
taken_name : (specs : List Specification) {texts : List (List ℕ)} {taken : Bool} {name : List ℕ} {params : List ParamText} → TellsTaken specs texts taken → SaysLine texts (Begin name params) → IsTrue taken ↔ IsSome (spec_of specs name)
taken_name specs {name = name} {params = params} tells says = tells (codes "spec") name (in_parentheses (param_texts params)) says.texts_are says.written.0

module _ (before : Declared) {line : List ℕ} {texts rest : List (List ℕ)} (has : HasTexts line texts) (begins : texts ≡ codes "spec" ∷ rest) (out : before.block ≡ None) where
  -- where it doesn't open a specification, it means nothing
  no_opening : ((name : List ℕ) (params : List ParamText) → IsSome before.problem → SaysLine texts (Begin name params) → ⊥) → {m : Meaning} → Means before texts m → ⊥
  no_opening none (means_statement out' says stands) = statement_apart says begins refl
  no_opening none (means_post out' some says) = apart 0 begins says.parts refl
  no_opening none (means_opening {name = name} {params = params} out' some says) = none name params some says
  no_opening none (means_inside is says stands) = outside_inside out is

  -- and is Syntax
  pub opening_syntax : ((name : List ℕ) (params : List ParamText) → IsSome before.problem → SaysLine texts (Begin name params) → ⊥) → IsLineFault before line (Bad Syntax)
  opening_syntax none =
      let first = first_syntax has (λ nothing. apart_none nothing begins) (none_say_nothing (λ m means. no_opening none means)) in
      (fault_bad (none_open before out) first.fault, first)

  module _ {taken : Bool} (started : IsSome before.problem) (tells : TellsTaken before.specs texts taken) where
    -- a first line with a taken name
    opening_name : {name : List ℕ} {params : List ParamText} → SaysLine texts (Begin name params) → IsSome (spec_of before.specs name) ⊎ BeginNameFault params → IsLineFault before line (Bad Name)
    opening_name says fault =
        let first = first_name has (some_value before.problem started).1 (means_opening out started says) fault in
        (fault_bad (none_open before out) first.fault, first)

    -- no name is taken
    no_name : {name : List ℕ} {params : List ParamText} → SaysLine texts (Begin name params) → taken ≡ false → (BeginNameFault params → ⊥) → IsSome (spec_of before.specs name) ⊎ BeginNameFault params → ⊥
    no_name says free named (inl some) = true≢false (sym ((taken_name before.specs tells says).1 some) ∙ free)
    no_name says free named (inr fault) = named fault

    -- a first line that passes a limit, without a taken name
    opening_limit : {name : List ℕ} {params : List ParamText} → SaysLine texts (Begin name params) → taken ≡ false → (BeginNameFault params → ⊥) → (most_specifications ≤ length before.specs) ⊎ BeginLimitFault name params → IsLineFault before line (Bad Limit)
    opening_limit says free named fault =
        let first = first_limit has (some_value before.problem started).1 (means_opening out started says) fault (no_name says free named) in
        (fault_bad (none_open before out) first.fault, first)

    -- what is good but for its name, which is another specification's
    pub begun_taken : {part : Part} → BeginsWith texts part → IsTrue taken → IsLineFault before line (Bad Name)
    begun_taken begun is = opening_name begun.says (inl ((taken_name before.specs tells begun.says).0 is))

    -- what is good but for the number of specifications
    pub begun_full : {part : Part} → BeginsWith texts part → taken ≡ false → most_specifications ≤ length before.specs → IsLineFault before line (Bad Limit)
    begun_full begun free full = opening_limit begun.says free begun.begins.free (inl full)

    -- what is good
    pub begun_opens : {part : Part} → BeginsWith texts part → taken ≡ false → length before.specs < most_specifications → IsGoodLine before line (record before { block = Some part })
    begun_opens begun free room = good_opening has out begun.says (some_value before.problem started).1 (record {
      new = none_since (spec_of before.specs begun.name) (λ some. no_name begun.says free begun.begins.free (inl some));
      room = room;
      begins = begun.begins;
    })

    -- what is bad by itself
    pub begun_fault : (fault : BlockFault) → IsBeginFault texts fault → IsLineFault before line (as_begin_fault taken fault)
    begun_fault fault is = by taken refl fault is
      where
        by : (t : Bool) → taken ≡ t → (fault : BlockFault) → IsBeginFault texts fault → IsLineFault before line (as_begin_fault t fault)
        by true same block.Syntax none = opening_syntax (λ name params some says. none name params says)
        by false same block.Syntax none = opening_syntax (λ name params some says. none name params says)
        by true same block.Name (name, params, says, fault) = opening_name says (inr fault)
        by false same block.Name (name, params, says, fault) = opening_name says (inr fault)
        by true same block.Limit (name, params, says, named, fault) = opening_name says (inl ((taken_name before.specs tells says).0 same))
        by false same block.Limit (name, params, says, named, fault) = opening_limit says same named (inr fault)
        by true same block.Memory fault = tt
        by false same block.Memory fault = tt
