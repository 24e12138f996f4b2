-- The steps that are taken with what is kept of frames.
use Rattle.std.proofs.Common.{◌≡◌, ℕ, true, false, List, [], ◌∷◌, ◌++◌, Option, None, Some, IfSome, IsNone, codes, refl, sym, ap, subst, ap₂}
use Rattle.hk_text.specs.Numbers.{IsNumber}
use Rattle.hk_exprs.specs.inside.Machines as machine
use Rattle.hk_exprs.specs.inside.Machines.{place, closed, received, awaits_mark, BeginsMark, Step, step_close, step_signed, step_atom}
use Rattle.hk_terms.specs.Operands.{AtomThen, atom_word, atom_item, atom_low, atom_high, atom_number, atom_one, atom_values}
use Rattle.hk_terms.specs.Names.{Names}
use Rattle.hk_terms.specs.NumTexts as nums
use Rattle.hk_exprs.specs.inside.Standing.{BothOrNone, neither, both_there, IsKeptFrame, IsKeptContent, AreKept, no_frame, one_frame, kept_empty, kept_turned, kept_one, kept_neg, kept_after, kept_two, kept_not, kept_first, kept_second, kept_both}
use Rattle.hk_exprs.specs.declared.frames.Content.{Content}
use Rattle.hk_exprs.specs.declared.frames.Frame.{Frame}
use Rattle.hk_exprs.specs.declared.frames.Frame.TheVariants as stood
use Rattle.hk_exprs.specs.declared.operands.Operand.{Operand}
use Rattle.hk_exprs.proofs.MachineSteps.{true_false}
use Rattle.hk_exprs.proofs.MachineStuck.{stuck_outmost, stuck_closed, stuck_received, stuck_signed, stuck_atom}

-- the frame is made by some step from the first frame alone
abbrev pub Took : Names → machine.Frame → List machine.Frame → List (List ℕ) → Frame → List (List ℕ) → Type 0
Took names f frames texts next rest = (n : machine.Frame) × Step (f ∷ frames) texts (n ∷ frames) rest × IsKeptFrame names n next

-- no step is there
abbrev pub Stuck : machine.Frame → List machine.Frame → List (List ℕ) → Type 0
Stuck f frames texts = (after : List machine.Frame) (rest : List (List ℕ)) → Step (f ∷ frames) texts after rest → ⊥

-- what is there on one side is there on the other
pub there : {A B : Type 0} {stand : A → B → Type 0} {from : Option A} {to : Option B} {b : B} → BothOrNone stand from to → to ≡ Some b → (a : A) × (from ≡ Some a) × stand a b
there neither same = absurd (none_is same)
  where
    none_is : {X : Type 0} {x : X} → None ≡ Some x → ⊥
    none_is same = cc
there {stand = stand} (both_there {a = a} is) same = (a, refl, subst (stand a) (one same) is)
  where
    one : {X : Type 0} {x y : X} → Some x ≡ Some y → x ≡ y
    one same = cc

pub not_there : {A B : Type 0} {stand : A → B → Type 0} {from : Option A} {to : Option B} → BothOrNone stand from to → to ≡ None → from ≡ None
not_there neither same = refl
not_there (both_there is) same = absurd (some_is same)
  where
    some_is : {X : Type 0} {x : X} → Some x ≡ None → ⊥
    some_is same = cc

-- an operand that no parenthesis stands around is placed
pub atom_placed : {names : Names} {f : machine.Frame} {frames : List machine.Frame} {x : machine.Operand} {texts rest : List (List ℕ)} {next : Option Frame} {frame : Frame}
    → AtomThen texts x rest → (awaits_mark f ≡ true → BeginsMark texts → ⊥) → BothOrNone (IsKeptFrame names) (place f x) next → next ≡ Some frame → Took names f frames texts frame rest
atom_placed atom awaits placed same = let is = there placed same in (is.0, step_atom atom awaits is.1, is.2)

pub atom_unplaced : {names : Names} {f : machine.Frame} {frames : List machine.Frame} {x : machine.Operand} {texts rest : List (List ℕ)} {next : Option Frame}
    → AtomThen texts x rest → (awaits_mark f ≡ true → BeginsMark texts → ⊥) → BothOrNone (IsKeptFrame names) (place f x) next → next ≡ None → Stuck f frames texts
atom_unplaced atom awaits placed same after rest = stuck_atom atom awaits (not_there placed same)

-- `-` and a number are placed
pub signed_placed : {names : Names} {f : machine.Frame} {frames : List machine.Frame} {digits : List ℕ} {n : ℕ} {texts rest : List (List ℕ)} {next : Option Frame} {frame : Frame}
    → texts ≡ codes "-" ∷ digits ∷ rest → IsNumber digits n → awaits_mark f ≡ false → BothOrNone (IsKeptFrame names) (place f (machine.Signed digits)) next → next ≡ Some frame → Took names f frames texts frame rest
signed_placed is number waits placed same = let made = there placed same in (made.0, step_signed is number waits made.1, made.2)

pub signed_unplaced : {names : Names} {f : machine.Frame} {frames : List machine.Frame} {digits : List ℕ} {n : ℕ} {texts rest : List (List ℕ)} {next : Option Frame}
    → texts ≡ codes "-" ∷ digits ∷ rest → IsNumber digits n → awaits_mark f ≡ false → BothOrNone (IsKeptFrame names) (place f (machine.Signed digits)) next → next ≡ None → Stuck f frames texts
signed_unplaced is number waits placed same after rest = stuck_signed is number waits (not_there placed same)

-- the digits of an operand that is a number
digits_of : machine.Operand → List ℕ
digits_of (machine.Num (nums.Number negative digits)) = digits
digits_of x = []

number_by : {texts rest : List (List ℕ)} {digits : List ℕ} {x : machine.Operand} → x ≡ machine.Num (nums.Number false digits) → AtomThen texts x rest → (n : ℕ) × IsNumber digits n
unfolding digits_of
number_by same (atom_word is word opening point) = absurd cc
number_by same (atom_item is word) = absurd cc
number_by same (atom_low is word) = absurd cc
number_by same (atom_high is word) = absurd cc
number_by same (atom_number {n = n} is number) = (n, subst (λ text. IsNumber text n) (ap digits_of same) number)
number_by same (atom_one is) = absurd cc
number_by same (atom_values is rising) = absurd cc

pub number_then : {texts rest : List (List ℕ)} {digits : List ℕ} → AtomThen texts (machine.Num (nums.Number false digits)) rest → (n : ℕ) × IsNumber digits n
number_then atom = number_by refl atom

none_before : {X : Type 0} (x : X) (xs : List X) → [] ≡ xs ++ x ∷ [] → ⊥
none_before x [] same = cc
none_before x (a ∷ xs) same = cc

rest_same : {X : Type 0} {a b : X} {xs ys : List X} → a ∷ xs ≡ b ∷ ys → (a ≡ b) × (xs ≡ ys)
rest_same same = (cc, cc)

-- lists with one last item each
last_same : {X : Type 0} {x y : X} (xs ys : List X) → xs ++ x ∷ [] ≡ ys ++ y ∷ [] → (xs ≡ ys) × (x ≡ y)
last_same [] [] same = (refl, (rest_same same).0)
last_same [] (b ∷ ys) same = absurd (none_before _ ys (rest_same same).1)
last_same (a ∷ xs) [] same = absurd (none_before _ xs (sym (rest_same same).1))
last_same {x = x} {y = y} (a ∷ xs) (b ∷ ys) same =
    let parts = rest_same same in
    let more = last_same xs ys parts.1 in
    (ap₂ (λ c cs. c ∷ cs) parts.0 more.0, more.1)

-- the frames that are kept, without the last of them
pub record Inner (names : Names) (frames : List machine.Frame) (before : List Frame) (last : Frame) : Type 0 where
  pub first : machine.Frame
  pub more : List machine.Frame
  pub same : first ∷ more ≡ frames
  pub is_first : IsKeptFrame names first last
  pub are_more : AreKept names more before

pub kept_last : {names : Names} {frames : List machine.Frame} {outer before : List Frame} {last : Frame} → AreKept names frames outer → outer ≡ before ++ last ∷ [] → Inner names frames before last
kept_last {before = before} no_frame same = absurd (none_before _ before same)
kept_last {names = names} {before = before} (one_frame {f = f} {frames = frames} {inner = inner} {outer = outer} kept more) same =
    let parts = last_same outer before same in
    record { first = f; more = frames; same = refl; is_first = subst (IsKeptFrame names f) parts.1 kept; are_more = subst (AreKept names frames) parts.0 more }

no_last : {X : Type 0} (x : X) (xs : List X) → xs ++ x ∷ [] ≡ [] → ⊥
no_last x xs same = none_before _ xs (sym same)

-- where no frame is kept there is none
pub kept_no_frame : {names : Names} {frames : List machine.Frame} {outer : List Frame} → AreKept names frames outer → outer ≡ [] → [] ≡ frames
kept_no_frame no_frame same = refl
kept_no_frame (one_frame {outer = outer} kept more) same = absurd (no_last _ outer same)

module _ {names : Names} {f : machine.Frame} {texts rest : List (List ℕ)} where
  -- no parenthesis is open
  pub shut_outmost : {frames : List machine.Frame} {outer : List Frame} → AreKept names frames outer → outer ≡ [] → texts ≡ codes ")" ∷ rest → Stuck f frames texts
  shut_outmost kept none is after left = subst (λ frames. Step (f ∷ frames) texts after left → ⊥) (kept_no_frame kept none) (stuck_outmost is)

  -- what stands in the parenthesis is no content
  pub shut_none : {frames : List machine.Frame} {content : Option Content} → BothOrNone (IsKeptContent names) (closed f) content → content ≡ None → texts ≡ codes ")" ∷ rest → Stuck f frames texts
  shut_none holds none is after left = stuck_closed is (not_there holds none)

  -- a parenthesis is closed, and what it holds is received
  pub shut_some : {frames : List machine.Frame} {outer before : List Frame} {last : Frame} {content : Option Content} {held : Content} {next : Option Frame} {frame : Frame}
      → AreKept names frames outer → outer ≡ before ++ last ∷ [] → BothOrNone (IsKeptContent names) (closed f) content → content ≡ Some held
      → ((g : machine.Frame) (k : machine.Content) → IsKeptFrame names g last → IsKeptContent names k held → BothOrNone (IsKeptFrame names) (received g k) next)
      → next ≡ Some frame → texts ≡ codes ")" ∷ rest
      → (n : machine.Frame) × (nexts : List machine.Frame) × Step (f ∷ frames) texts (n ∷ nexts) rest × IsKeptFrame names n frame × AreKept names nexts before
  shut_some kept same holds some got is_next is =
      let inner = kept_last kept same in
      let held_is = there holds some in
      let next_is = there (got inner.first held_is.0 inner.is_first held_is.2) is_next in
      (next_is.0, inner.more, subst (λ frames. Step (f ∷ frames) texts (next_is.0 ∷ inner.more) rest) inner.same (step_close is held_is.1 next_is.1), next_is.2, inner.are_more)

  -- and it fits not where the parenthesis stands
  pub shut_unfit : {frames : List machine.Frame} {outer : List Frame} (before : List Frame) {last : Frame} {content : Option Content} {held : Content} {next : Option Frame}
      → AreKept names frames outer → outer ≡ before ++ last ∷ [] → BothOrNone (IsKeptContent names) (closed f) content → content ≡ Some held
      → ((g : machine.Frame) (k : machine.Content) → IsKeptFrame names g last → IsKeptContent names k held → BothOrNone (IsKeptFrame names) (received g k) next)
      → next ≡ None → texts ≡ codes ")" ∷ rest → Stuck f frames texts
  shut_unfit before kept same holds some got none is after left =
      let inner = kept_last {before = before} kept same in
      let held_is = there holds some in
      subst (λ frames. Step (f ∷ frames) texts after left → ⊥) inner.same (stuck_received is held_is.1 (not_there (got inner.first held_is.0 inner.is_first held_is.2) none))

-- a parenthesis is closed
abbrev pub Shut : Names → Frame → List Frame → List Frame → Frame → Type 0
Shut names inner outer before next = (f : machine.Frame) (frames : List machine.Frame) (texts rest : List (List ℕ)) → IsKeptFrame names f inner → AreKept names frames outer → texts ≡ codes ")" ∷ rest
    → (n : machine.Frame) × (nexts : List machine.Frame) × Step (f ∷ frames) texts (n ∷ nexts) rest × IsKeptFrame names n next × AreKept names nexts before

-- no parenthesis can be closed
abbrev pub Unshut : Names → Frame → List Frame → Type 0
Unshut names inner outer = (f : machine.Frame) (frames : List machine.Frame) (texts rest : List (List ℕ)) → IsKeptFrame names f inner → AreKept names frames outer → texts ≡ codes ")" ∷ rest → Stuck f frames texts

-- what a frame makes of the content of parentheses
abbrev pub Received : Names → Frame → Content → Option Frame → Type 0
Received names last held next = (g : machine.Frame) (k : machine.Content) → IsKeptFrame names g last → IsKeptContent names k held → BothOrNone (IsKeptFrame names) (received g k) next

module _ {names : Names} {inner : Frame} {outer : List Frame} (before : List Frame) {last : Frame} {content : Option Content} {held : Content}
    (same : outer ≡ before ++ last ∷ []) (holds : (f : machine.Frame) → IsKeptFrame names f inner → BothOrNone (IsKeptContent names) (closed f) content) (some : content ≡ Some held) where
  -- the content is received
  pub shut_read : (next : Option Frame) → Received names last held next → IfSome next (Shut names inner outer before)
  shut_read None got = tt
  shut_read (Some next) got = λ f frames texts rest kept are is. shut_some are same (holds f kept) some got refl is

  -- it is not
  pub shut_unread : (next : Option Frame) → Received names last held next → IsNone next → Unshut names inner outer
  shut_unread None got none = λ f frames texts rest kept are is. shut_unfit before are same (holds f kept) some got refl is
  shut_unread (Some next) got none = absurd cc

-- what is known of a value holds where it is there
pub some_then : {A : Type 0} {P Q : A → Type 0} (r : Option A) → ((v : A) → P v → Q v) → IfSome r P → IfSome r Q
some_then None more is = tt
some_then (Some v) more is = more v is

-- a value that is there is not missing
pub not_none : {P : Type 0} → true ≡ false → P
not_none same = absurd (true_false same)

-- what is taken of texts under another name
pub took_along : {names : Names} {f : machine.Frame} {frames : List machine.Frame} {texts others rest : List (List ℕ)} {next : Frame} → texts ≡ others → Took names f frames others next rest → Took names f frames texts next rest
took_along {names = names} {f = f} {frames = frames} {rest = rest} {next = next} same took = subst (λ texts. Took names f frames texts next rest) (sym same) took

pub stuck_along : {f : machine.Frame} {frames : List machine.Frame} {texts others : List (List ℕ)} → texts ≡ others → Stuck f frames others → Stuck f frames texts
stuck_along {f = f} {frames = frames} same stuck = subst (Stuck f frames) (sym same) stuck

-- a frame that isn't one operand awaits no mark
pub awaits_none : {names : Names} {frame : Frame} → ((a : Operand) → frame ≡ stood.One a → ⊥) → (f : machine.Frame) → IsKeptFrame names f frame → awaits_mark f ≡ false
awaits_none not f kept_empty = refl
awaits_none not f kept_turned = refl
awaits_none not f (kept_one {a = a} is) = absurd (not a refl)
awaits_none not f (kept_neg is) = refl
awaits_none not f (kept_after is) = refl
awaits_none not f (kept_two is more) = refl
awaits_none not f (kept_not is) = refl
awaits_none not f kept_first = refl
awaits_none not f (kept_second is) = refl
awaits_none not f (kept_both is more) = refl
