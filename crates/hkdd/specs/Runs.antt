-- What a run of the program owes: its status, and what stands on its output.
use Rattle.std.specs.Prelude.{◌≡◌, ℕ, ◌+◌, ◌<◌, ◌≤◌, List, [], ◌∷◌, ◌⊎◌, length, take, Some, option_map, IsTrue, codes}
use Rattle.hk_base.specs.declared.host.Slot.TheVariants.{Model, CertOut, Out}
use Rattle.hk_base.specs.Hosts.{View, ReadFaulted, WriteFaulted}
use Rattle.hk_base.specs.Lists.{IsFrontOf}
use Rattle.hk_draft.specs.declared.kinds.RefusalKind.{RefusalKind}
use Rattle.hk_group.specs.Problems.{PlainProblem}
use Rattle.hk_model.specs.Models.{Spells}
use Rattle.hk_model.specs.Refused.{IsRefusal}
use Rattle.hk_search.specs.AnswerTexts.{IsAnswerText}
use Rattle.hkdd.specs.Inputs.{KeepsInputs, TakesAtMost}
use Rattle.hkdd.specs.Limits.{most_bytes}
use Rattle.hkdd.specs.Texts.{usage_text, read_fault_text, refusal_text, too_large_text}

-- the words are `solve` and the name of a file
abbrev pub IsSolve : List (List ℕ) → List ℕ → Type 0
IsSolve words file = words ≡ codes "solve" ∷ file ∷ []

-- the words are of no form that the program knows
abbrev pub AreNoCommand : List (List ℕ) → Type 0
AreNoCommand words = (file : List ℕ) → IsSolve words file → ⊥

-- where it is told what went out, nothing has
pub record IsFresh (host : View) : Type 0 where
  pub out : (bytes : List ℕ) → host.written Out ≡ Some bytes → bytes ≡ []
  pub cert_out : (bytes : List ℕ) → host.written CertOut ≡ Some bytes → bytes ≡ []

-- the host lends the names that stand in the words, each for its slot
abbrev pub LendsNames : View → List (List ℕ) → Type 0
LendsNames host words = (file : List ℕ) → IsSolve words file → IsTrue (host.lends Model file)

-- these bytes were read of a file: where its bytes are told, all of them or, of a longer one, as many as show that it is too long
abbrev pub WereRead : View → List ℕ → List ℕ → Type 0
WereRead host file bytes = (whole : List ℕ) → host.told file ≡ Some whole → bytes ≡ take (most_bytes + 1) whole

-- what `solve` says of the bytes that were read: a status and a text
pub data IsReply : List ℕ → ℕ → List ℕ → Type 0 where
  reply_answer : {bytes text : List ℕ} {problem : PlainProblem}
      → length bytes ≤ most_bytes → Spells bytes problem → IsAnswerText problem text → IsReply bytes 0 text
  reply_refusal : {bytes : List ℕ} {line : ℕ} {kind : RefusalKind}
      → length bytes ≤ most_bytes → IsRefusal bytes line kind → IsReply bytes 3 (refusal_text line kind)
  reply_too_large : {bytes : List ℕ} → most_bytes < length bytes → IsReply bytes 8 too_large_text

-- the status and the text that are due, and why
pub data IsDue (words : List (List ℕ)) (old new : View) : ℕ → List ℕ → Type 0 where
  due_usage : AreNoCommand words → IsDue words old new 2 usage_text
  due_reply : {file bytes text : List ℕ} {status : ℕ}
      → IsSolve words file → WereRead old file bytes → IsReply bytes status text → IsDue words old new status text
  due_read_fault : {file : List ℕ} → IsSolve words file → ReadFaulted old new → IsDue words old new 4 read_fault_text

-- where it is told what went out, it is exactly this text, and no certificate went out
pub record IsOut (old new : View) (text : List ℕ) : Type 0 where
  pub told : new.written Out ≡ option_map (λ _. text) (old.written Out)
  pub no_certificate : new.written CertOut ≡ old.written CertOut

-- where it is told what went out, it is a front of this text
pub record IsFrontOut (old new : View) (text : List ℕ) : Type 0 where
  pub front : List ℕ
  pub is_front : IsFrontOf front text
  pub out : IsOut old new front

-- a run ends with the status that is due and its whole text on the output, and nothing else; or, where a write failed, with 5 and a front of the text; or, for want of memory, with 7 and nothing
pub data Ends (words : List (List ℕ)) (old : View) : ℕ → View → Type 0 where
  ends_whole : {new : View} {status : ℕ} {text : List ℕ} → IsDue words old new status text → IsOut old new text → Ends words old status new
  ends_write_fault : {new : View} {status : ℕ} {text : List ℕ}
      → IsDue words old new status text → IsFrontOut old new text → WriteFaulted old new → Ends words old 5 new
  ends_no_memory : {new : View} → IsOut old new [] → Ends words old 7 new

-- a run was stopped: a call that reads failed, or one that writes, or memory was refused
pub data IsStopped (old new : View) : ℕ → Type 0 where
  stopped_reading : ReadFaulted old new → IsStopped old new 4
  stopped_writing : WriteFaulted old new → IsStopped old new 5
  stopped_by_memory : IsStopped old new 7

-- a run ended with this status, and exactly this text is on the output
pub record Printed (status : ℕ) (text : List ℕ) (old : View) (result : ℕ) (new : View) : Type 0 where
  pub ended : result ≡ status
  pub out : IsOut old new text

-- a run ended with status 0, and exactly the text of the problem's answer is on the output
pub record PrintedAnswer (problem : PlainProblem) (old : View) (result : ℕ) (new : View) : Type 0 where
  pub text : List ℕ
  pub is_answer : IsAnswerText problem text
  pub printed : Printed 0 text old result new

-- the words are `solve` and a file whose bytes are told
pub record SolvesFile (words : List (List ℕ)) (host : View) (bytes : List ℕ) : Type 0 where
  pub file : List ℕ
  pub solve : IsSolve words file
  pub told : host.told file ≡ Some bytes

-- the bytes are no more than a model may have, and a line of them is refused
pub record IsRefused (bytes : List ℕ) : Type 0 where
  pub short : length bytes ≤ most_bytes
  pub line : ℕ
  pub kind : RefusalKind
  pub refusal : IsRefusal bytes line kind

-- what a run takes of its inputs
pub record Takes (words : List (List ℕ)) (old new : View) : Type 0 where
  -- with words of no known form nothing is opened, and nothing taken
  pub nothing : AreNoCommand words → KeepsInputs old new
  -- with a file to solve nothing else is opened, and no more of it is gone than shows that it is too long
  pub few : (file : List ℕ) → IsSolve words file → TakesAtMost (most_bytes + 1) file old new

-- what is known of a run by its words, the host before it, its status and the host after it
pub record Ran (words : List (List ℕ)) (old : View) (result : ℕ) (new : View) : Type 0 where
  -- how it ended, whatever the host tells
  pub ends : Ends words old result new
  -- what it opened, and how much it took of it, however it ended
  pub takes : Takes words old new
  -- a file that spells a problem is answered, unless the run was stopped
  pub solves : (bytes : List ℕ) (problem : PlainProblem) → SolvesFile words old bytes → length bytes ≤ most_bytes → Spells bytes problem → PrintedAnswer problem old result new ⊎ IsStopped old new result
  -- a file that spells none is refused
  pub refuses : (bytes : List ℕ) (line : ℕ) (kind : RefusalKind) → SolvesFile words old bytes → length bytes ≤ most_bytes → IsRefusal bytes line kind → Printed 3 (refusal_text line kind) old result new ⊎ IsStopped old new result
  pub refused_alone : result ≡ 3 → (bytes : List ℕ) → SolvesFile words old bytes → IsRefused bytes
  -- a file that is too long is too large, and only such a file
  pub too_large : (bytes : List ℕ) → SolvesFile words old bytes → most_bytes < length bytes → Printed 8 too_large_text old result new ⊎ IsStopped old new result
  pub too_large_alone : result ≡ 8 → (bytes : List ℕ) → SolvesFile words old bytes → most_bytes < length bytes
  -- words of no known form get the usage text, and only these
  pub shows_usage : AreNoCommand words → Printed 2 usage_text old result new ⊎ IsStopped old new result
  pub usage_alone : result ≡ 2 → AreNoCommand words
  -- a fault is answered only where the host's count of faults rose in this run
  pub read_fault_alone : result ≡ 4 → ReadFaulted old new
  pub write_fault_alone : result ≡ 5 → WriteFaulted old new
  -- for want of memory nothing went out
  pub no_memory : result ≡ 7 → IsOut old new []
