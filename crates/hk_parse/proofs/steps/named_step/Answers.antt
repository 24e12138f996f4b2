use Rattle.std.proofs.Common.{◌≡◌, ℕ, List, Result, Ok, Err, refl, sym, subst, rules}
use Rattle.hk_spec.specs.declared.parts.StepExpr.{StepExpr}
use Rattle.hk_terms.specs.declared.flaws.Flaw.{Flaw}
use Rattle.hk_terms.specs.declared.flaws.Flaw.TheVariants.{Name, Limit}
use Rattle.hk_parse.specs.inside.StepReads.{IsNamed, or_fault}
use Rattle.hk_parse.proofs.steps.named_step.Goals as goal

named : {name own : List ℕ} → name ≡ own → (made : Result StepExpr Flaw) → IsNamed name own made (or_fault made)
named same (Ok e) = (same, refl)
named same (Err Name) = tt
named same (Err Limit) = same

pub returns : goal.returns
returns c = subst (IsNamed c.args.name.now c.args.property.now.name c.args.made) (sym c.or_fault.ensures) (named (search rules) c.args.made)
