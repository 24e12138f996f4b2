-- The first fault of a line, from that of the shape of its tokens; and the effect of a shape is that of the line.
use Rattle.hk_text.specs.Tokens.{HasTexts}
use Rattle.std.proofs.Common.{◌≡◌, ◌≢◌, ℕ, List, [], Option, None, Some, refl, sym, subst}
use Rattle.hk_draft.specs.declared.faults.LineFault.{LineFault}
use Rattle.hk_draft.specs.declared.faults.LineFault.TheVariants.{Bad, NoMemory}
use Rattle.hk_draft.specs.declared.kinds.RefusalKind.{RefusalKind}
use Rattle.hk_draft.specs.declared.kinds.RefusalKind.TheVariants.{Syntax, Name, Limit, Scope}
use Rattle.hk_lines.specs.declared.shapes.Shape.{Shape}
use Rattle.hk_lines.specs.Plain.{statement_of}
use Rattle.hk_model.specs.inside.Faults.{IsLineFault}
use Rattle.hk_draft.specs.Faults.{IsFaultyStatement, IsStatementFault}
use Rattle.hk_model.specs.LineFaults.{IsFirstFault}
use Rattle.hk_model.specs.Models.{Declared, IsGoodLine, good_statement}
use Rattle.hk_draft.specs.Drafts.{PlainDraft}
use Rattle.hk_lines.specs.Shapes.{IsShapeOf}
use Rattle.hk_lines.specs.Statements.{Statement, Says}
use Rattle.hk_draft.specs.Declares.{MayStand, Declares}
use Rattle.hk_draft.proofs.CappedFaults.{faulty_whole}
use Rattle.hk_draft.proofs.CappedStatements.{declares_whole}
use Rattle.hk_draft.proofs.Standing.{named_stands, limited_stands, unordered_stands}
use Rattle.hk_model.proofs.FaultRanks.{first_syntax, first_name, first_limit, first_scope, none_open, fault_bad}
use Rattle.hk_lines.proofs.FirstWords.{statement_no_post}
use Rattle.hk_model.proofs.FirstWords.{statement_no_opening}
use Rattle.hk_lines.proofs.Grammar.{says_one, says_nothing}
use Rattle.hk_model.proofs.Meanings.{Meaning, Means, means_statement, means_post, means_opening, means_inside, outside_inside, none_say_nothing}

-- texts that say a statement are some
said_some : {texts : List (List ℕ)} {s : Statement} → Says texts s → texts ≢ []
said_some {s = s} says none = says_nothing (subst (λ all. Says all s) none says)

-- a statement that may not stand outside of a specification leaves the texts without a meaning
no_meaning : (before : Declared) {texts : List (List ℕ)} {s : Statement} {m : Meaning} → before.block ≡ None → Says texts s → (MayStand before.problem s → ⊥) → Means before texts m → ⊥
no_meaning before out says none (means_statement out' says' stands) = none (subst (MayStand before.problem) (says_one says' says) stands)
no_meaning before out says none (means_post out' some says') = statement_no_post says says'
no_meaning before out says none (means_opening out' some says') = statement_no_opening says says'
no_meaning before out says none (means_inside is says' stands) = outside_inside out is

module _ {before : Declared} {line : List ℕ} {texts : List (List ℕ)} {s : Statement} (has : HasTexts line texts) (out : before.block ≡ None) (says : Says texts s) where
  -- the first fault of a statement is that of the line that says it
  pub line_fault : (problem : Option PlainDraft) → before.problem ≡ problem → (kind : RefusalKind) → IsFaultyStatement problem s kind → IsFirstFault before line kind
  line_fault problem started Syntax none =
      first_syntax has (said_some says) (none_say_nothing (λ m means. no_meaning before out says (λ stands. none (subst (λ p. MayStand p s) started stands)) means))
  line_fault (Some problem) started Name fault = first_name has started (means_statement out says (subst (λ p. MayStand p s) (sym started) (named_stands fault))) fault
  line_fault (Some problem) started Limit (fault, no_name) = first_limit has started (means_statement out says (subst (λ p. MayStand p s) (sym started) (limited_stands fault))) fault no_name
  line_fault (Some problem) started Scope (fault, no_name, no_limit) =
      first_scope has started (means_statement out says (subst (λ p. MayStand p s) (sym started) (unordered_stands s fault))) fault no_name no_limit
  line_fault problem started kind fault = absurd fault

module _ {line : List ℕ} {texts : List (List ℕ)} (has : HasTexts line texts) (shape : Shape) (shaped : IsShapeOf texts shape) (before : Declared) (out : before.block ≡ None) where
  -- where the reader stops at a statement of a line, it stops at the line
  pub first_of_statement : (fault : LineFault) → IsStatementFault before.problem (statement_of shape) fault → IsLineFault before line fault
  first_of_statement (Bad kind) fault =
      let whole = faulty_whole before.problem shaped.0 kind (subst (λ t. IsFaultyStatement before.problem t kind) shaped.2 fault) in
      let first = line_fault has out shaped.1 before.problem refl kind whole in
      (fault_bad (none_open before out) first.fault, first)
  first_of_statement NoMemory nothing = tt

  -- what is declared after a statement of a line is declared after the line
  pub effect_of_statement : (after : Option PlainDraft) → Declares before.problem (statement_of shape) after → IsGoodLine before line (record before { problem = after })
  effect_of_statement after declares = good_statement has out shaped.1 (declares_whole shaped.0 (subst (λ t. Declares before.problem t after) shaped.2 declares))
