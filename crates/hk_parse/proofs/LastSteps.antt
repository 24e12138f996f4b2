-- The last of a side's steps.
use Rattle.std.proofs.Common.{◌≡◌, Option, None, Some, List, [], ◌∷◌, ◌++◌, length, slice_get, refl, ◌∙◌}
use Rattle.hk_kinds.specs.declared.kinds.Kind.{Kind}
use Rattle.hk_spec.specs.declared.parts.PropDecl.{PropDecl}
use Rattle.hk_spec.specs.declared.parts.StepExpr.{StepExpr}
use Rattle.hk_parse.specs.BlockLines.{last_step}

-- no steps have no last one
pub no_last : (properties : List PropDecl) → last_step properties [] ≡ None
no_last [] = refl
no_last (p ∷ properties) = refl

-- the last of some steps is the last of those after the first
pub last_skips : (p : PropDecl) (properties : List PropDecl) (s : StepExpr) (before : List StepExpr) (e : StepExpr) → last_step (p ∷ properties) (s ∷ (before ++ e ∷ [])) ≡ last_step properties (before ++ e ∷ [])
last_skips p properties s [] e = refl
last_skips p properties s (next ∷ before) e = refl

-- a step with the kind of its property, where there is one
abbrev pub with_kind : Option PropDecl → StepExpr → Option (Kind × StepExpr)
with_kind (Some p) e = Some (p.kind, e)
with_kind None e = None

-- the last step is that of the property at its place
pub last_is : (properties : List PropDecl) (before : List StepExpr) (e : StepExpr) → last_step properties (before ++ e ∷ []) ≡ with_kind (slice_get properties (length before)) e
last_is [] before e = refl
last_is (p ∷ properties) [] e = refl
last_is (p ∷ properties) (s ∷ before) e = last_skips p properties s before e ∙ last_is properties before e
