-- Which problem the bytes of a model spell, and which of its lines is the first bad one.
use Rattle.std.specs.Prelude.{◌≡◌, ℕ, ◌+◌, ◌<◌, List, [], ◌∷◌, ◌++◌, length, Option, None, Some}
use Rattle.hk_text.specs.Lines.{lines}
use Rattle.hk_text.specs.Tokens.{HasTexts}
use Rattle.hk_kinds.specs.declared.kinds.Kind.{Kind}
use Rattle.hk_parse.specs.BlockLines.{Part, MayStand as MayStandIn, Begins, IsGoodAfter, latest_step, whole_spec}
use Rattle.hk_parse.specs.LineTexts.{ParamText, LineText, Begin, End, SaysLine}
use Rattle.hk_spec.specs.declared.expressions.Cond.{Cond}
use Rattle.hk_spec.specs.declared.parts.StepExpr.{StepExpr}
use Rattle.hk_spec.specs.declared.senses.Sense.{Sense}
use Rattle.hk_spec.specs.Grades.{Kinds, wrong_step, wrong_test}
use Rattle.hk_spec.specs.Specifications.{Specification, kinds_of_properties}
use Rattle.hk_model.specs.Limits.{most_specifications}
use Rattle.hk_lines.specs.Posts.{Post, SaysPost}
use Rattle.hk_model.specs.Postings.{AddsPost, spec_of}
use Rattle.hk_group.specs.Problems.{PlainProblem}
use Rattle.hk_draft.specs.Drafts.{PlainDraft, IsOf}
use Rattle.hk_lines.specs.Statements.{Statement, Says}
use Rattle.hk_draft.specs.Declares.{Declares}

-- what the lines so far declare: the problem, None before the header; the specifications; and the part of a specification that isn't ended
pub record Declared : Type 0 where
  pub problem : Option PlainDraft
  pub specs : List Specification
  pub block : Option Part

-- nothing is declared
abbrev pub nothing_declared : Declared
nothing_declared = record { problem = None; specs = []; block = None }

-- a specification is opened: its name is no other specification's, there is room for it, and this is its first line
pub record Opens (specs : List Specification) (name : List ℕ) (params : List ParamText) (part : Part) : Type 0 where
  pub new : spec_of specs name ≡ None
  pub room : length specs < most_specifications
  pub begins : Begins name params part

-- the kinds of the properties of an open specification
abbrev pub kinds_so_far : Part → Kinds
kinds_so_far part = record { down = kinds_of_properties part.down; up = kinds_of_properties part.up }

-- the sense of what the latest line of an open specification gave, where it isn't allowed: of its latest step, or else of its test
abbrev pub wrong_latest : Part → Option Sense
wrong_latest part = by (latest_step part) part.test
  where
    by : Option (Kind × StepExpr) → Option Cond → Option Sense
    by (Some (kind, e)) test = wrong_step (kinds_so_far part) kind e
    by None (Some test) = wrong_test (kinds_so_far part) test
    by None None = None

-- a good line: one without tokens, which has no effect; outside of a specification one that says a statement which may stand there, a post, or the first line of a specification; in a specification one of its lines, whose test or step has an allowed sense, or its end
pub data IsGoodLine (before : Declared) (line : List ℕ) : Declared → Type 0 where
  good_empty : HasTexts line [] → IsGoodLine before line before
  good_statement : {texts : List (List ℕ)} {statement : Statement} {problem : Option PlainDraft}
      → HasTexts line texts → before.block ≡ None → Says texts statement → Declares before.problem statement problem
      → IsGoodLine before line (record before { problem = problem })
  good_post : {texts : List (List ℕ)} {post : Post} {problem after : PlainDraft}
      → HasTexts line texts → before.block ≡ None → SaysPost texts post → before.problem ≡ Some problem → AddsPost before.specs post problem after
      → IsGoodLine before line (record before { problem = Some after })
  good_opening : {texts : List (List ℕ)} {name : List ℕ} {params : List ParamText} {problem : PlainDraft} {part : Part}
      → HasTexts line texts → before.block ≡ None → SaysLine texts (Begin name params) → before.problem ≡ Some problem → Opens before.specs name params part
      → IsGoodLine before line (record before { block = Some part })
  good_inside : {texts : List (List ℕ)} {part after : Part} {text : LineText}
      → HasTexts line texts → before.block ≡ Some part → SaysLine texts text → IsGoodAfter part text after → wrong_latest after ≡ None
      → IsGoodLine before line (record before { block = Some after })
  good_end : {texts : List (List ℕ)} {part : Part} {test : Cond}
      → HasTexts line texts → before.block ≡ Some part → SaysLine texts End → MayStandIn part End → part.test ≡ Some test
      → IsGoodLine before line (record before { specs = before.specs ++ whole_spec part test ∷ []; block = None })

-- good lines, one after the other, from what was declared before them to what is declared after them
pub data AreGoodLines : Declared → List (List ℕ) → Declared → Type 0 where
  no_line : {before : Declared} → AreGoodLines before [] before
  then_line : {before between after : Declared} {line : List ℕ} {more : List (List ℕ)}
      → IsGoodLine before line between → AreGoodLines between more after → AreGoodLines before (line ∷ more) after

-- the bytes of a model spell the problem: all lines are good, it is what they declare, each group composed of its parts, and
-- no specification is left open
pub record Spells (bytes : List ℕ) (problem : PlainProblem) : Type 0 where
  pub after : Declared
  pub draft : PlainDraft
  pub good : AreGoodLines nothing_declared (lines bytes) after
  pub declared : after.problem ≡ Some draft
  pub is_of : IsOf draft problem
  pub ended : after.block ≡ None

-- a bad line, by what was declared before it: nothing makes it good
abbrev pub IsBadLine : Declared → List ℕ → Type 0
IsBadLine before line = (after : Declared) → IsGoodLine before line after → ⊥

-- the first bad line of a model, its number, counted from 1, and what was declared before it
pub record IsFirstBadLine (bytes : List ℕ) (number : ℕ) (line : List ℕ) (before : Declared) : Type 0 where
  pub front : List (List ℕ)
  pub rest : List (List ℕ)
  pub parts : lines bytes ≡ front ++ line ∷ rest
  pub counted : number ≡ length front + 1
  pub good : AreGoodLines nothing_declared front before
  pub bad : IsBadLine before line
