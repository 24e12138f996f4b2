-- Why the reader stops at a post: the first of its faults.
use Rattle.std.specs.Prelude.{◌≡◌, ℕ, List, Some}
use Rattle.hk_spec.specs.Specifications.{Specification, param_kinds}
use Rattle.hk_draft.specs.declared.faults.LineFault.{LineFault}
use Rattle.hk_draft.specs.declared.faults.LineFault.TheVariants.{Bad, NoMemory}
use Rattle.hk_draft.specs.declared.kinds.RefusalKind.{RefusalKind}
use Rattle.hk_draft.specs.declared.kinds.RefusalKind.TheVariants as kind
use Rattle.hk_lines.specs.Posts.{ArgText, Post}
use Rattle.hk_model.specs.Postings.{PostNameFault, PostLimitFault, PostScopeFault, FitKinds, spec_of}
use Rattle.hk_draft.specs.Drafts.{PlainDraft}

-- no specification of this name asks such arguments
abbrev pub HasNoFit : List Specification → List ℕ → List ArgText → Type 0
HasNoFit specs name args = (spec : Specification) → spec_of specs name ≡ Some spec → FitKinds (param_kinds spec) args → ⊥

-- the first fault, in the order of kinds, of a post after what was declared before it
abbrev pub IsFaultyPost : List Specification → PlainDraft → Post → RefusalKind → Type 0
IsFaultyPost specs before post kind.Text = ⊥
IsFaultyPost specs before post kind.Syntax = ⊥
IsFaultyPost specs before post kind.Name = PostNameFault specs before post
IsFaultyPost specs before post kind.Limit = PostLimitFault before post × (PostNameFault specs before post → ⊥)
IsFaultyPost specs before post kind.Scope = PostScopeFault before post × (PostNameFault specs before post → ⊥) × (PostLimitFault before post → ⊥)
IsFaultyPost specs before post kind.Grade = ⊥
IsFaultyPost specs before post kind.Unfinished = ⊥

-- why the reader stops at a post: it has this fault first; want of memory says nothing
abbrev pub IsPostFault : List Specification → PlainDraft → Post → LineFault → Type 0
IsPostFault specs before post (Bad kind) = IsFaultyPost specs before post kind
IsPostFault specs before post NoMemory = Unit {0}
