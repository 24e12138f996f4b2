-- What is kept of two operands that must be of a kind.
use Rattle.std.proofs.Common.{Option, None, Some, Result, Ok, Err, IfOk}
use Rattle.hk_spec.specs.declared.expressions.NumExpr.{NumExpr}
use Rattle.hk_exprs.specs.inside.Machines as machine
use Rattle.hk_terms.specs.Names.{Names}
use Rattle.hk_terms.specs.NumTexts.{NumText}
use Rattle.hk_exprs.specs.inside.Standing.{BothOrNone, neither, both_there, IsKept, IsKeptContent, IsMadeNum, kept_couple}
use Rattle.hk_terms.specs.declared.flaws.Flaw.{Flaw}
use Rattle.hk_exprs.specs.declared.operands.Operand.{Operand}
use Rattle.hk_exprs.specs.declared.operands.Tree.{Tree}
use Rattle.hk_exprs.specs.declared.frames.Content.TheVariants as content

module _ {names : Names} {X B : Type 0} {stand : X → B → Type 0} where
  -- the first is not of the kind
  pub no_first : (make : X → X → machine.Operand) (p q : Option X) → BothOrNone stand p None → BothOrNone (IsKept names) (machine.both make p q) None
  no_first make p q neither = neither

  -- the second is not of the kind
  pub no_second : (make : X → X → machine.Operand) (p q : Option X) → BothOrNone stand q None → BothOrNone (IsKept names) (machine.both make p q) None
  no_second make None q neither = neither
  no_second make (Some x) q neither = neither

  -- both are of the kind
  pub both_made : (make : X → X → machine.Operand) (p q : Option X) {a b : B} {made : Operand} → BothOrNone stand p (Some a) → BothOrNone stand q (Some b)
      → ((x y : X) → stand x a → stand y b → IsKept names (make x y) made) → BothOrNone (IsKept names) (machine.both make p q) (Some made)
  both_made make p q (both_there {a = x} h) (both_there {a = y} k) is = both_there (is x y h k)

module _ {names : Names} where
  -- the first is no number
  pub couple_no_first : (p q : Option NumText) → BothOrNone (IsMadeNum names) p None → BothOrNone (IsKeptContent names) (machine.couple p q) None
  couple_no_first p q neither = neither

  -- the second is no number
  pub couple_no_second : (p q : Option NumText) → BothOrNone (IsMadeNum names) q None → BothOrNone (IsKeptContent names) (machine.couple p q) None
  couple_no_second None q neither = neither
  couple_no_second (Some x) q neither = neither

  -- two numbers with a comma between
  pub couple_made : (p q : Option NumText) {a b : Result (Tree NumExpr) Flaw} → BothOrNone (IsMadeNum names) p (Some a) → BothOrNone (IsMadeNum names) q (Some b) → BothOrNone (IsKeptContent names) (machine.couple p q) (Some (content.Couple a b))
  couple_made p q (both_there h) (both_there k) = both_there (kept_couple h k)

-- what holds of an answer, where there was memory for it
pub ok_then : {A E : Type 0} (P Q : A → Type 0) (r : Result A E) → IfOk r P → ((v : A) → P v → Q v) → IfOk r Q
ok_then P Q (Ok v) is more = more v is
ok_then P Q (Err e) is more = tt
