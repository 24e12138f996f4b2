-- What a call opens, and how much it takes of it.
use Rattle.std.specs.Prelude.{◌≡◌, ℕ, ◌≤◌, true, List, ◌⊎◌, length}
use Rattle.hk_base.specs.declared.host.Slot.TheVariants.{Model}
use Rattle.hk_base.specs.Hosts.{View, changed, prepended}

-- no slot was opened, and nothing was taken of any
pub record KeepsInputs (old new : View) : Type 0 where
  pub opened : new.opened ≡ old.opened
  pub left : new.left ≡ old.left

-- the model is open, where bytes are told by this name, and at most so many of them are gone since its latest opening; every other slot is as it was
pub record TookAtMost (most : ℕ) (name : List ℕ) (old new : View) : Type 0 where
  pub opened : new.opened ≡ changed old.opened Model true
  pub left : new.left ≡ changed old.left Model (new.left Model)
  -- what was told of the name is what was taken, and then what is left
  pub taken : List ℕ
  pub told : old.told name ≡ prepended taken (new.left Model)
  pub few : length taken ≤ most

-- nothing was opened, or the model by this name, and at most so many bytes were taken of it
abbrev pub TakesAtMost : ℕ → List ℕ → View → View → Type 0
TakesAtMost most name old new = KeepsInputs old new ⊎ TookAtMost most name old new
