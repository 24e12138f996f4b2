-- What is kept of an operand or of a frame while the tokens of an expression are taken.
use Rattle.std.specs.Prelude.{◌≡◌, ℕ, ◌≤◌, Bool, false, bytes_eq, Option, None, Some, List, [], ◌∷◌, ◌++◌, Result, Ok, Err, IsTrue}
use Rattle.std.specs.Borrow.{Bor}
use Rattle.hk_spec.specs.Scopes.{is_good_num, is_good_set, is_good_cond}
use Rattle.hk_spec.specs.declared.expressions.NumExpr.{NumExpr}
use Rattle.hk_spec.specs.declared.expressions.SetExpr.{SetExpr}
use Rattle.hk_spec.specs.declared.expressions.Cond.{Cond}
use Rattle.hk_text.specs.Numbers.{IsNumber}
use Rattle.hk_terms.specs.declared.flaws.Flaw.{Flaw}
use Rattle.hk_terms.specs.declared.flaws.Flaw.TheVariants.{Name, Limit}
use Rattle.hk_exprs.specs.declared.frames.Content.{Content}
use Rattle.hk_exprs.specs.declared.frames.Content.TheVariants as content
use Rattle.hk_exprs.specs.declared.frames.Frame.{Frame}
use Rattle.hk_exprs.specs.declared.frames.Frame.TheVariants as frame
use Rattle.hk_terms.specs.declared.marks.Mark.{Mark}
use Rattle.hk_exprs.specs.declared.operands.Operand.{Operand}
use Rattle.hk_exprs.specs.declared.operands.Operand.TheVariants as operand
use Rattle.hk_exprs.specs.declared.operands.Tree.{Tree}
use Rattle.hk_terms.specs.Names.{scope_of}
use Rattle.hk_terms.specs.CondTexts.{CondText}
use Rattle.hk_exprs.specs.inside.Machines as machine
use Rattle.hk_terms.specs.Names.{Names, NamesSet, NamesNum, NamesCond, SmallSet, SmallNum, SmallCond, set_depth, num_depth, cond_depth}
use Rattle.hk_terms.specs.NumTexts.{NumText}
use Rattle.hk_terms.specs.SetTexts.{SetText}
use Rattle.hk_terms.specs.Trees.{set_text, num_text, cond_text}

-- what is made of an expression: its tree and its depth; or Name where its names don't stand for what their places ask; or else Limit where it isn't small or is too deep
pub data IsMade {T : Type 0} (is : T → Type 0) (named small : Type 0) (depth : ℕ) : Result (Tree T) Flaw → Type 0 where
  made_well : {tree : Tree T} → is tree.root → named → small → tree.depth ≡ depth → depth ≤ 32 → IsMade is named small depth (Ok tree)
  made_misnamed : (named → ⊥) → IsMade is named small depth (Err Name)
  made_large : named → (small × (depth ≤ 32) → ⊥) → IsMade is named small depth (Err Limit)

-- the expression is written so, and is one of a specification
pub record IsNum (names : Names) (text : NumText) (e : NumExpr) : Type 0 where
  pub text_is : num_text names e ≡ text
  pub good : IsTrue (is_good_num (scope_of names) e)

pub record IsSet (names : Names) (text : SetText) (e : SetExpr) : Type 0 where
  pub text_is : set_text names e ≡ text
  pub good : IsTrue (is_good_set (scope_of names) e)

pub record IsCond (names : Names) (text : CondText) (e : Cond) : Type 0 where
  pub text_is : cond_text names e ≡ text
  pub good : IsTrue (is_good_cond (scope_of names) e)

-- what is made of an expression of a number, of a set, of a condition
abbrev pub IsMadeNum : Names → NumText → Result (Tree NumExpr) Flaw → Type 0
IsMadeNum names text made = IsMade (IsNum names text) (NamesNum names text) (SmallNum text) (num_depth text) made

abbrev pub IsMadeSet : Names → SetText → Result (Tree SetExpr) Flaw → Type 0
IsMadeSet names text made = IsMade (IsSet names text) (NamesSet names text) (SmallSet text) (set_depth text) made

abbrev pub IsMadeCond : Names → CondText → Result (Tree Cond) Flaw → Type 0
IsMadeCond names text made = IsMade (IsCond names text) (NamesCond names text) (SmallCond text) (cond_depth text) made

-- both are there, and stand in this relation; or neither is there
pub data BothOrNone {A B : Type 0} (stand : A → B → Type 0) : Option A → Option B → Type 0 where
  neither : BothOrNone stand None None
  both_there : {a : A} {b : B} → stand a b → BothOrNone stand (Some a) (Some b)

-- what is kept of an operand
pub data IsKept (names : Names) : machine.Operand → Operand → Type 0 where
  kept_word : {word : Bor (List ℕ)} → IsKept names (machine.Word word.now) (operand.Word word)
  kept_signed : {digits : Bor (List ℕ)} {n : ℕ} → IsNumber digits.now n → IsKept names (machine.Signed digits.now) (operand.Signed digits)
  kept_num : {text : NumText} {made : Result (Tree NumExpr) Flaw} → IsMadeNum names text made → IsKept names (machine.Num text) (operand.Num made)
  kept_set : {text : SetText} {made : Result (Tree SetExpr) Flaw} → IsMadeSet names text made → IsKept names (machine.Set text) (operand.Set made)
  kept_cond : {text : CondText} {made : Result (Tree Cond) Flaw} → IsMadeCond names text made → IsKept names (machine.Cond text) (operand.Cond made)

-- what is kept of a frame
pub data IsKeptFrame (names : Names) : machine.Frame → Frame → Type 0 where
  kept_empty : IsKeptFrame names machine.Empty frame.Empty
  kept_turned : IsKeptFrame names machine.Turned frame.Turned
  kept_one : {x : machine.Operand} {a : Operand} → IsKept names x a → IsKeptFrame names (machine.One x) (frame.One a)
  kept_neg : {x : machine.Operand} {a : Operand} → IsKept names x a → IsKeptFrame names (machine.Neg x) (frame.Neg a)
  kept_after : {x : machine.Operand} {a : Operand} {mark : Mark} → IsKept names x a → IsKeptFrame names (machine.After x mark) (frame.After a mark)
  kept_two : {x y : machine.Operand} {a b : Operand} {mark : Mark} → IsKept names x a → IsKept names y b → IsKeptFrame names (machine.Two x mark y) (frame.Two a mark b)
  kept_not : {text : CondText} {made : Result (Tree Cond) Flaw} → IsMadeCond names text made → IsKeptFrame names (machine.NotOf text) (frame.NotOf made)
  kept_first : IsKeptFrame names machine.First frame.First
  kept_second : {x : machine.Operand} {a : Operand} → IsKept names x a → IsKeptFrame names (machine.Second x) (frame.Second a)
  kept_both : {x y : machine.Operand} {a b : Operand} → IsKept names x a → IsKept names y b → IsKeptFrame names (machine.Both x y) (frame.Both a b)

-- what is kept of the content of parentheses
pub data IsKeptContent (names : Names) : machine.Content → Content → Type 0 where
  kept_value : {x : machine.Operand} {a : Operand} → IsKept names x a → IsKeptContent names (machine.Value x) (content.Value a)
  kept_single : {x : machine.Operand} {a : Operand} → IsKept names x a → IsKeptContent names (machine.Single x) (content.Single a)
  kept_couple : {x y : NumText} {a b : Result (Tree NumExpr) Flaw} → IsMadeNum names x a → IsMadeNum names y b → IsKeptContent names (machine.Couple x y) (content.Couple a b)

-- what is kept of frames: the machine's are listed from the innermost, and these to it
pub data AreKept (names : Names) : List machine.Frame → List Frame → Type 0 where
  no_frame : AreKept names [] []
  one_frame : {f : machine.Frame} {frames : List machine.Frame} {inner : Frame} {outer : List Frame}
      → IsKeptFrame names f inner → AreKept names frames outer → AreKept names (f ∷ frames) (outer ++ inner ∷ [])

-- whether the operand is the word with this text
abbrev pub is_the_word : machine.Operand → List ℕ → Bool
is_the_word (machine.Word word) text = bytes_eq word text
is_the_word (machine.Signed digits) text = false
is_the_word (machine.Num e) text = false
is_the_word (machine.Set e) text = false
is_the_word (machine.Cond c) text = false

-- the word that the operand is
abbrev pub the_word : machine.Operand → Option (List ℕ)
the_word (machine.Word word) = Some word
the_word (machine.Signed digits) = None
the_word (machine.Num e) = None
the_word (machine.Set e) = None
the_word (machine.Cond c) = None

-- the bytes are the text
abbrev pub IsTextOf : List ℕ → Bor (List ℕ) → Type 0
IsTextOf text bytes = text ≡ bytes.now
