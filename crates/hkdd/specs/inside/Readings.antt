-- What reading the model leaves of the host.
use Rattle.std.specs.Prelude.{◌≡◌, ◌↔◌, ℕ, ◌+◌, ◌≤◌, List, [], ◌++◌, ◌⊎◌, length, Some}
use Rattle.hk_base.specs.declared.host.Slot.TheVariants.{Model}
use Rattle.hk_base.specs.Hosts.{View, SameOutside, Took, ReadFaulted}
use Rattle.hkdd.specs.declared.reading.ReadError.{ReadError}
use Rattle.hkdd.specs.declared.reading.ReadError.TheVariants.{Failed, Memory}
use Rattle.hkdd.specs.Limits.{most_bytes}

-- nothing went out, and what is told and lent of names is as it was
pub record KeepsOutput (old new : View) : Type 0 where
  pub outside : SameOutside old new
  pub written : new.written ≡ old.written

-- reading stopped: a call that reads failed, or memory was refused
abbrev pub StoppedBy : View → View → ReadError → Type 0
StoppedBy old new Failed = ReadFaulted old new
StoppedBy old new Memory = Unit {0}

-- bytes were taken of the open model, with those before no more than show that it is too long, and nothing else moved
pub record TookFew (before : List ℕ) (old new : View) : Type 0 where
  pub taken : List ℕ
  pub took : Took Model taken old new
  pub few : length before + length taken ≤ most_bytes + 1

-- one piece of the model was read and put behind the bytes before it
pub record TakesPiece (old new : View) (before after : List ℕ) (count : ℕ) : Type 0 where
  pub added : List ℕ
  pub took : Took Model added old new
  pub appended : after ≡ before ++ added
  pub counted : count ≡ length added
  pub within : length after ≤ most_bytes + 1
  pub at_end : (rest : List ℕ) → old.left Model ≡ Some rest → (count ≡ 0) ↔ (rest ≡ [])

-- the open model was read to its end, or up to the byte that shows that it is too long
pub record TakesAll (old new : View) (bytes : List ℕ) : Type 0 where
  pub took : Took Model bytes old new
  pub within : length bytes ≤ most_bytes + 1
  pub enough : ((rest : List ℕ) → new.left Model ≡ Some rest → rest ≡ []) ⊎ (length bytes ≡ most_bytes + 1)
