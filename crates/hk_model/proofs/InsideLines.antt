-- A line of a specification that is open.
use Rattle.hk_text.specs.Tokens.{HasTexts}
use Rattle.std.proofs.Common.{◌≡◌, ◌≢◌, ℕ, List, [], None, Some, IsSome, sym, subst}
use Rattle.std.specs.Prelude.{IfSome}
use Rattle.hk_parse.specs.declared.faults.BlockFault.{BlockFault}
use Rattle.hk_parse.specs.declared.faults.BlockFault.TheVariants as block
use Rattle.hk_parse.specs.BlockFaults.{GoesOn, Ends, IsLineFault as IsBlockFault}
use Rattle.hk_parse.specs.BlockLines.{Part}
use Rattle.hk_parse.specs.Blocks.{IsPart}
use Rattle.hk_draft.specs.declared.faults.LineFault.TheVariants.{Bad}
use Rattle.hk_draft.specs.declared.kinds.RefusalKind.TheVariants.{Grade}
use Rattle.hk_model.specs.inside.Faults.{EndsBlock, IsLineFault, as_line_fault}
use Rattle.hk_model.specs.LineFaults.{SayNothingAfter}
use Rattle.hk_model.specs.Models.{Declared, IsGoodLine, good_inside, good_end, wrong_latest}
use Rattle.hk_model.proofs.FaultRanks.{first_syntax, first_name, first_limit, first_grade, fault_bad}
use Rattle.hk_model.proofs.Meanings.{means_inside}
use Rattle.hk_model.proofs.MeantEffects.{some_value}

module _ (before : Declared) {line : List ℕ} {texts : List (List ℕ)} {part : Part} (has : HasTexts line texts) (is : before.block ≡ Some part) where
  -- the open specification keeps its rules
  parts : IsPart part → IfSome before.block IsPart
  parts rules = subst (λ block. IfSome block IsPart) (sym is) rules

  -- where the reader stops at a line of a specification, it stops at the line
  pub fault_inside : IsPart part → texts ≢ [] → IsSome before.problem → (fault : BlockFault) → IsBlockFault part texts fault → IsLineFault before line (as_line_fault fault)
  fault_inside rules some started block.Syntax none =
      let first = first_syntax has some (subst (λ opened. SayNothingAfter (record before { block = opened }) texts) (sym is) none) in
      (fault_bad (parts rules) first.fault, first)
  fault_inside rules some started block.Name (text, says, stands, fault) =
      let first = first_name has (some_value before.problem started).1 (means_inside is says stands) fault in
      (fault_bad (parts rules) first.fault, first)
  fault_inside rules some started block.Limit (text, says, stands, no_name, fault) =
      let first = first_limit has (some_value before.problem started).1 (means_inside is says stands) fault no_name in
      (fault_bad (parts rules) first.fault, first)
  fault_inside rules some started block.Memory nothing = tt

  -- a line whose test or step hasn't an allowed sense has the fault Grade first
  pub ungraded_inside : {after : Part} → IsPart part → IsSome before.problem → GoesOn part texts after → IsSome (wrong_latest after) → IsLineFault before line (Bad Grade)
  ungraded_inside {after = after} rules started more wrong =
      let first = first_grade has (some_value before.problem started).1 (means_inside is more.says more.good.stands) (after, more.good, wrong) more.good.named more.good.small (λ none. none) in
      (fault_bad (parts rules) first.fault, first)

  module _ (given : Declared) (same : given ≡ before) {after : Part} where
    -- a line with which the specification goes on
    pub goes_on : GoesOn part texts after → wrong_latest after ≡ None → IsGoodLine before line (record given { block = Some after })
    goes_on more allowed = subst (λ (d : Declared). IsGoodLine before line (record d { block = Some after })) (sym same) (good_inside has is more.says more.good allowed)

    -- its end, which leaves it as it was
    pub ends : (next : Declared) → Ends part texts → after ≡ part → EndsBlock (record given { block = Some after }) after next → IsGoodLine before line next
    ends next over kept end =
        let there : EndsBlock (record given { block = Some part }) part next = subst (λ p. EndsBlock (record given { block = Some p }) p next) kept end in
        let here : EndsBlock (record before { block = Some part }) part next = subst (λ (d : Declared). EndsBlock (record d { block = Some part }) part next) same there in
        subst (IsGoodLine before line) (sym here.declared) (good_end has is over.says over.stands here.tested)
