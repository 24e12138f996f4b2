-- What a frame or a content of the machine is, where it is known what is kept of it.
use Rattle.std.proofs.Common.{◌≡◌, Result, subst}
use Rattle.hk_spec.specs.declared.expressions.NumExpr.{NumExpr}
use Rattle.hk_spec.specs.declared.expressions.Cond.{Cond}
use Rattle.hk_terms.specs.CondTexts.{CondText}
use Rattle.hk_exprs.specs.inside.Machines as machine
use Rattle.hk_terms.specs.Names.{Names}
use Rattle.hk_terms.specs.NumTexts.{NumText}
use Rattle.hk_exprs.specs.inside.Standing.{IsKept, IsKeptFrame, IsKeptContent, IsMadeNum, IsMadeCond, kept_empty, kept_turned, kept_one, kept_neg, kept_after, kept_two, kept_not, kept_first, kept_second, kept_both, kept_value, kept_single, kept_couple}
use Rattle.hk_terms.specs.declared.flaws.Flaw.{Flaw}
use Rattle.hk_exprs.specs.declared.frames.Content.{Content}
use Rattle.hk_exprs.specs.declared.frames.Content.TheVariants as content
use Rattle.hk_exprs.specs.declared.frames.Frame.{Frame}
use Rattle.hk_exprs.specs.declared.frames.Frame.TheVariants as frame
use Rattle.hk_terms.specs.declared.marks.Mark.{Mark}
use Rattle.hk_exprs.specs.declared.operands.Operand.{Operand}
use Rattle.hk_exprs.specs.declared.operands.Tree.{Tree}

module _ {names : Names} (P : machine.Frame → Type 0) where
  empty_case : P machine.Empty → (f : machine.Frame) → IsKeptFrame names f frame.Empty → P f
  empty_case is f kept_empty = is

  -- what holds of no operand
  pub from_empty : {a : Frame} → a ≡ frame.Empty → P machine.Empty → (f : machine.Frame) → IsKeptFrame names f a → P f
  from_empty same is f kept = empty_case is f (subst (IsKeptFrame names f) same kept)

  turned_case : P machine.Turned → (f : machine.Frame) → IsKeptFrame names f frame.Turned → P f
  turned_case is f kept_turned = is

  -- what holds of `-`
  pub from_turned : {a : Frame} → a ≡ frame.Turned → P machine.Turned → (f : machine.Frame) → IsKeptFrame names f a → P f
  from_turned same is f kept = turned_case is f (subst (IsKeptFrame names f) same kept)

  one_case : (a : Operand) → ((x : machine.Operand) → IsKept names x a → P (machine.One x)) → (f : machine.Frame) → IsKeptFrame names f (frame.One a) → P f
  one_case a is f (kept_one {x = x} kept) = is x kept

  -- what holds of one operand
  pub from_one : {from : Frame} {a : Operand} → from ≡ frame.One a → ((x : machine.Operand) → IsKept names x a → P (machine.One x)) → (f : machine.Frame) → IsKeptFrame names f from → P f
  from_one {a = a} same is f kept = one_case a is f (subst (IsKeptFrame names f) same kept)

  neg_case : (a : Operand) → ((x : machine.Operand) → IsKept names x a → P (machine.Neg x)) → (f : machine.Frame) → IsKeptFrame names f (frame.Neg a) → P f
  neg_case a is f (kept_neg {x = x} kept) = is x kept

  -- what holds of `-` and an operand
  pub from_neg : {from : Frame} {a : Operand} → from ≡ frame.Neg a → ((x : machine.Operand) → IsKept names x a → P (machine.Neg x)) → (f : machine.Frame) → IsKeptFrame names f from → P f
  from_neg {a = a} same is f kept = neg_case a is f (subst (IsKeptFrame names f) same kept)

  after_case : (a : Operand) (mark : Mark) → ((x : machine.Operand) → IsKept names x a → P (machine.After x mark)) → (f : machine.Frame) → IsKeptFrame names f (frame.After a mark) → P f
  after_case a mark is f (kept_after {x = x} kept) = is x kept

  -- what holds of an operand and a mark
  pub from_after : {from : Frame} {a : Operand} {mark : Mark} → from ≡ frame.After a mark → ((x : machine.Operand) → IsKept names x a → P (machine.After x mark)) → (f : machine.Frame) → IsKeptFrame names f from → P f
  from_after {a = a} {mark = mark} same is f kept = after_case a mark is f (subst (IsKeptFrame names f) same kept)

  two_case : (a b : Operand) (mark : Mark) → ((x y : machine.Operand) → IsKept names x a → IsKept names y b → P (machine.Two x mark y)) → (f : machine.Frame) → IsKeptFrame names f (frame.Two a mark b) → P f
  two_case a b mark is f (kept_two {x = x} {y = y} kept more) = is x y kept more

  -- what holds of two operands with a mark between
  pub from_two : {from : Frame} {a b : Operand} {mark : Mark} → from ≡ frame.Two a mark b → ((x y : machine.Operand) → IsKept names x a → IsKept names y b → P (machine.Two x mark y)) → (f : machine.Frame) → IsKeptFrame names f from → P f
  from_two {a = a} {b = b} {mark = mark} same is f kept = two_case a b mark is f (subst (IsKeptFrame names f) same kept)

  not_case : (made : Result (Tree Cond) Flaw) → ((text : CondText) → IsMadeCond names text made → P (machine.NotOf text)) → (f : machine.Frame) → IsKeptFrame names f (frame.NotOf made) → P f
  not_case made is f (kept_not {text = text} made_of) = is text made_of

  -- what holds of `not` and a condition
  pub from_not : {from : Frame} {made : Result (Tree Cond) Flaw} → from ≡ frame.NotOf made → ((text : CondText) → IsMadeCond names text made → P (machine.NotOf text)) → (f : machine.Frame) → IsKeptFrame names f from → P f
  from_not {made = made} same is f kept = not_case made is f (subst (IsKeptFrame names f) same kept)

  first_case : P machine.First → (f : machine.Frame) → IsKeptFrame names f frame.First → P f
  first_case is f kept_first = is

  -- what holds of no number of two
  pub from_first : {a : Frame} → a ≡ frame.First → P machine.First → (f : machine.Frame) → IsKeptFrame names f a → P f
  from_first same is f kept = first_case is f (subst (IsKeptFrame names f) same kept)

  second_case : (a : Operand) → ((x : machine.Operand) → IsKept names x a → P (machine.Second x)) → (f : machine.Frame) → IsKeptFrame names f (frame.Second a) → P f
  second_case a is f (kept_second {x = x} kept) = is x kept

  -- what holds of one number of two
  pub from_second : {from : Frame} {a : Operand} → from ≡ frame.Second a → ((x : machine.Operand) → IsKept names x a → P (machine.Second x)) → (f : machine.Frame) → IsKeptFrame names f from → P f
  from_second {a = a} same is f kept = second_case a is f (subst (IsKeptFrame names f) same kept)

  both_case : (a b : Operand) → ((x y : machine.Operand) → IsKept names x a → IsKept names y b → P (machine.Both x y)) → (f : machine.Frame) → IsKeptFrame names f (frame.Both a b) → P f
  both_case a b is f (kept_both {x = x} {y = y} kept more) = is x y kept more

  -- what holds of two numbers
  pub from_both : {from : Frame} {a b : Operand} → from ≡ frame.Both a b → ((x y : machine.Operand) → IsKept names x a → IsKept names y b → P (machine.Both x y)) → (f : machine.Frame) → IsKeptFrame names f from → P f
  from_both {a = a} {b = b} same is f kept = both_case a b is f (subst (IsKeptFrame names f) same kept)

module _ {names : Names} (P : machine.Content → Type 0) where
  value_case : (a : Operand) → ((x : machine.Operand) → IsKept names x a → P (machine.Value x)) → (k : machine.Content) → IsKeptContent names k (content.Value a) → P k
  value_case a is k (kept_value {x = x} kept) = is x kept

  -- what holds of an expression
  pub from_value : {from : Content} {a : Operand} → from ≡ content.Value a → ((x : machine.Operand) → IsKept names x a → P (machine.Value x)) → (k : machine.Content) → IsKeptContent names k from → P k
  from_value {a = a} same is k kept = value_case a is k (subst (IsKeptContent names k) same kept)

  single_case : (a : Operand) → ((x : machine.Operand) → IsKept names x a → P (machine.Single x)) → (k : machine.Content) → IsKeptContent names k (content.Single a) → P k
  single_case a is k (kept_single {x = x} kept) = is x kept

  -- what holds of one operand alone
  pub from_single : {from : Content} {a : Operand} → from ≡ content.Single a → ((x : machine.Operand) → IsKept names x a → P (machine.Single x)) → (k : machine.Content) → IsKeptContent names k from → P k
  from_single {a = a} same is k kept = single_case a is k (subst (IsKeptContent names k) same kept)

  couple_case : (a b : Result (Tree NumExpr) Flaw) → ((x y : NumText) → IsMadeNum names x a → IsMadeNum names y b → P (machine.Couple x y)) → (k : machine.Content) → IsKeptContent names k (content.Couple a b) → P k
  couple_case a b is k (kept_couple {x = x} {y = y} made more) = is x y made more

  -- what holds of two numbers with a comma between
  pub from_couple : {from : Content} {a b : Result (Tree NumExpr) Flaw} → from ≡ content.Couple a b → ((x y : NumText) → IsMadeNum names x a → IsMadeNum names y b → P (machine.Couple x y)) → (k : machine.Content) → IsKeptContent names k from → P k
  from_couple {a = a} {b = b} same is k kept = couple_case a b is k (subst (IsKeptContent names k) same kept)
