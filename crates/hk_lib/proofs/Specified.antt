-- What a call that may fail has made, and specifications that are put together of two halves.
use Rattle.std.proofs.Common.{◌≡◌, ℕ, List, Result, Ok, Err, IfOk, OnOk, sym, subst, subst₂}
use Rattle.hk_spec.specs.Grades.{IsGraded}
use Rattle.hk_spec.specs.Specifications.{Specification, BoundSpecification, IsSpecification, IsBound}
use Rattle.hk_spec.specs.declared.arguments.Arg.{Arg}
use Rattle.hk_spec.specs.declared.expressions.Cond.{Cond}
use Rattle.hk_spec.specs.declared.parts.Param.{Param}
use Rattle.hk_spec.specs.declared.parts.PropDecl.{PropDecl}
use Rattle.hk_spec.specs.declared.parts.StepExpr.{StepExpr}

-- what is said of a value that is made holds of it
pub made : {X E : Type 0} (P : X → Type 0) {result : Result X E} {x : X} → IfOk result P → result ≡ Ok x → P x
made P holds is = subst (λ result. IfOk result P) is holds

-- what follows from what is said of a call that does not fail
pub on_ok : {X E P Q : Type 0} (result : Result X E) → (P → Q) → OnOk result P → OnOk result Q
on_ok (Ok x) follows holds = follows holds
on_ok (Err e) follows holds = holds

-- the specification of two halves
abbrev pub whole : (List ℕ × List Param) × (List PropDecl × List PropDecl) → Cond × (List StepExpr × List StepExpr) → Specification
whole names rules = record { name = names.0.0; params = names.0.1; down = names.1.0; up = names.1.1; test = rules.0; down_step = rules.1.0; up_step = rules.1.1 }

-- it keeps the rules where halves that are equal do
pub halves_specified : (names N : (List ℕ × List Param) × (List PropDecl × List PropDecl)) (rules R : Cond × (List StepExpr × List StepExpr)) → names ≡ N → rules ≡ R → IsSpecification (whole N R) → IsSpecification (whole names rules)
halves_specified names N rules R same alike keeps = subst₂ (λ n r. IsSpecification (whole n r)) (sym same) (sym alike) keeps

-- arguments fit a specification where equal ones fit an equal one
pub parts_fit : (spec S : Specification) (args A : List Arg) (len : ℕ) → spec ≡ S → args ≡ A → IsBound (record { spec = S; args = A; len = len }) → IsBound (record { spec = spec; args = args; len = len })
parts_fit spec S args A len same alike fits = subst₂ (λ s a. IsBound (record { spec = s; args = a; len = len })) (sym same) (sym alike) fits

-- what is made of a graded specification is graded
pub made_graded : (bound : BoundSpecification) (spec S : Specification) (args : List Arg) (len : ℕ) → bound ≡ record { spec = spec; args = args; len = len } → spec ≡ S → IsGraded S → IsGraded bound.spec
made_graded bound spec S args len is same graded = subst (λ (b : BoundSpecification). IsGraded b.spec) (sym is) (subst IsGraded (sym same) graded)
