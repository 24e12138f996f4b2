use Rattle.std.proofs.Common.{◌<◌, MatchBool, length, sym, ◌∙◌, subst, arith, rules, tests}
use Rattle.std.proofs.lemmas.Iterator.{cases_from_any, YieldsList-from_slice}
use Rattle.std.specs.List.{HoldsAt, AllWithin}
use Rattle.hk_draft.specs.Faults.{long_name, many_variables}
use Rattle.hk_draft.proofs.Fitting.{nothing_fits, PassesLimit, some_passes}
use Rattle.hk_draft.proofs.declaring.variable_passes_limit.Goals as goal

pub returns-then-name-gt-NAME_BYTES-clause-passes :
    goal.returns-then-name-gt-NAME_BYTES-clause-passes
returns-then-name-gt-NAME_BYTES-clause-passes c passes = long_name c.if-name-gt-NAME_BYTES.true

pub returns-then-variable_count-ge-VARIABLES-clause-passes :
    goal.returns-then-variable_count-ge-VARIABLES-clause-passes
returns-then-variable_count-ge-VARIABLES-clause-passes c passes = many_variables (omega (arith, c.variable_count.ensures, c.if-variable_count-ge-VARIABLES.true))

pub returns-then-is_empty-clause-passes : goal.returns-then-is_empty-clause-passes
returns-then-is_empty-clause-passes c passes = nothing_fits c.args.draft.now c.args.name.now c.args.set.now (sym c.is_empty.ensures ∙ c.if-is_empty.true)

pub returns-clause-passes : goal.returns-clause-passes
returns-clause-passes c passes =
    let set = c.args.set.now in
    let by_call = cases_from_any _ _ _ PassesLimit (λ values. values.last < 128) c.any.ensures.ran (YieldsList-from_slice set cc) (λ x q k. search (rules, tests)) (λ x q k. search (rules, tests)) in
    some_passes c.args.draft.now c.args.name.now set (subst (λ b. MatchBool b ((k : _) × (k < length set) × HoldsAt PassesLimit set k) (AllWithin (λ values. values.last < 128) set 0 (length set))) passes by_call)
