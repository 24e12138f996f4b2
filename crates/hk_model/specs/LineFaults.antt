-- Why a line is bad: each kind of fault, by the line's tokens and what was declared before, and the order of the kinds.
use Rattle.std.specs.Prelude.{◌≡◌, ◌≢◌, ℕ, ◌≤◌, ◌⊎◌, List, [], length, Option, None, Some, IsSome}
use Rattle.hk_text.specs.Tokens.{IsBadByte, HasTexts}
use Rattle.hk_model.specs.Limits.{most_specifications}
use Rattle.hk_draft.specs.declared.kinds.RefusalKind.{RefusalKind}
use Rattle.hk_draft.specs.declared.kinds.RefusalKind.TheVariants.{Text, Syntax, Name, Limit, Scope, Grade, Unfinished}
use Rattle.hk_parse.specs.BlockLines.{Part, MayStand as MayStandIn, BeginNameFault, BeginLimitFault, LineNameFault, LineLimitFault, IsGoodAfter}
use Rattle.hk_parse.specs.LineTexts.{ParamText, LineText, Begin, SaysLine}
use Rattle.hk_model.specs.Models.{Declared, wrong_latest}
use Rattle.hk_lines.specs.Posts.{Post, SaysPost}
use Rattle.hk_model.specs.Postings.{PostNameFault, PostLimitFault, PostScopeFault, spec_of}
use Rattle.hk_draft.specs.Drafts.{PlainDraft}
use Rattle.hk_lines.specs.Statements.{Statement, Says}
use Rattle.hk_draft.specs.Declares.{MayStand}
use Rattle.hk_draft.specs.Faults.{IsNameFault, IsLimitFault, IsScopeFault}

-- outside of a specification the texts say no statement which may stand there, and after the header no post and no first line of a specification
pub record SayNothingOutside (before : Option PlainDraft) (texts : List (List ℕ)) : Type 0 where
  pub no_statement : (statement : Statement) → Says texts statement → MayStand before statement → ⊥
  pub no_post : (post : Post) → IsSome before → SaysPost texts post → ⊥
  pub no_opening : (name : List ℕ) (params : List ParamText) → IsSome before → SaysLine texts (Begin name params) → ⊥

-- the texts say nothing that may stand there
abbrev pub SayNothingAfter : Declared → List (List ℕ) → Type 0
SayNothingAfter before texts = SayNothingIn before.block before.problem texts
  where
    SayNothingIn : Option Part → Option PlainDraft → List (List ℕ) → Type 0
    SayNothingIn None problem texts = SayNothingOutside problem texts
    SayNothingIn (Some part) problem texts = (text : LineText) → SaysLine texts text → MayStandIn part text → ⊥

-- a name is taken, or isn't declared where it is used, or is of another kind than its place asks; or there is an objective already
pub data IsNameFaultOf (before : Declared) (problem : PlainDraft) (texts : List (List ℕ)) : Type 0 where
  name_of_statement : {statement : Statement} → before.block ≡ None → Says texts statement → IsNameFault problem statement → IsNameFaultOf before problem texts
  name_of_post : {post : Post} → before.block ≡ None → SaysPost texts post → PostNameFault before.specs problem post → IsNameFaultOf before problem texts
  name_of_opening : {name : List ℕ} {params : List ParamText} → before.block ≡ None → SaysLine texts (Begin name params)
      → IsSome (spec_of before.specs name) ⊎ BeginNameFault params → IsNameFaultOf before problem texts
  name_inside : {part : Part} {text : LineText} → before.block ≡ Some part → SaysLine texts text → MayStandIn part text → LineNameFault part text → IsNameFaultOf before problem texts

-- a quantity passes its limit, a range is turned, or a set has no value
pub data IsLimitFaultOf (before : Declared) (problem : PlainDraft) (texts : List (List ℕ)) : Type 0 where
  limit_of_statement : {statement : Statement} → before.block ≡ None → Says texts statement → IsLimitFault problem statement → IsLimitFaultOf before problem texts
  limit_of_post : {post : Post} → before.block ≡ None → SaysPost texts post → PostLimitFault problem post → IsLimitFaultOf before problem texts
  limit_of_opening : {name : List ℕ} {params : List ParamText} → before.block ≡ None → SaysLine texts (Begin name params)
      → (most_specifications ≤ length before.specs) ⊎ BeginLimitFault name params → IsLimitFaultOf before problem texts
  limit_inside : {part : Part} {text : LineText} → before.block ≡ Some part → SaysLine texts text → MayStandIn part text → LineLimitFault part text → IsLimitFaultOf before problem texts

-- the variables of a scope don't stand strictly in the order of their declaration
pub data IsScopeFaultOf (before : Declared) (problem : PlainDraft) (texts : List (List ℕ)) : Type 0 where
  scope_of_statement : {statement : Statement} → before.block ≡ None → Says texts statement → IsScopeFault problem statement → IsScopeFaultOf before problem texts
  scope_of_post : {post : Post} → before.block ≡ None → SaysPost texts post → PostScopeFault problem post → IsScopeFaultOf before problem texts

-- the test or the step that a line of a specification gives hasn't an allowed sense
pub record IsGradeFaultOf (before : Declared) (texts : List (List ℕ)) : Type 0 where
  pub part : Part
  pub is_open : before.block ≡ Some part
  pub text : LineText
  pub says : SaysLine texts text
  pub after : Part
  pub good : IsGoodAfter part text after
  pub wrong : IsSome (wrong_latest after)

-- a line has a fault of a kind
pub data IsFault (before : Declared) (line : List ℕ) : RefusalKind → Type 0 where
  fault_text : {column byte : ℕ} → IsBadByte line column byte → IsFault before line Text
  fault_syntax : {texts : List (List ℕ)} → HasTexts line texts → texts ≢ [] → SayNothingAfter before texts → IsFault before line Syntax
  fault_name : {texts : List (List ℕ)} {problem : PlainDraft}
      → HasTexts line texts → before.problem ≡ Some problem → IsNameFaultOf before problem texts → IsFault before line Name
  fault_limit : {texts : List (List ℕ)} {problem : PlainDraft}
      → HasTexts line texts → before.problem ≡ Some problem → IsLimitFaultOf before problem texts → IsFault before line Limit
  fault_scope : {texts : List (List ℕ)} {problem : PlainDraft}
      → HasTexts line texts → before.problem ≡ Some problem → IsScopeFaultOf before problem texts → IsFault before line Scope
  fault_grade : {texts : List (List ℕ)} {problem : PlainDraft}
      → HasTexts line texts → before.problem ≡ Some problem → IsGradeFaultOf before texts → IsFault before line Grade

-- the place of a kind in the order of kinds
abbrev pub rank : RefusalKind → ℕ
rank Text = 0
rank Syntax = 1
rank Name = 2
rank Limit = 3
rank Scope = 4
rank Grade = 5
rank Unfinished = 6

-- the first kind, in the order of kinds, of which the line has a fault
pub record IsFirstFault (before : Declared) (line : List ℕ) (kind : RefusalKind) : Type 0 where
  pub fault : IsFault before line kind
  pub first : (other : RefusalKind) → IsFault before line other → rank kind ≤ rank other
