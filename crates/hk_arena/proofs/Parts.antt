-- Parts of lists.
use Rattle.std.proofs.Common.{◌≡◌, ℕ, ◌+◌, ◌-◌, ◌<◌, ◌≤◌, ◌⊎◌, List, length, take, drop, get_or, set, ◌∙◌, ap, inl, inr, arith, All, get_or-drop, get_or-take, length-take-le, length-drop, drop-set-lt}
use Rattle.std.proofs.Math.Seq.{take-set-lt}
use Rattle.std.proofs.lemmas.List.{drop-set-add, take-set-le}
use Rattle.std.proofs.lemmas.List.Elements.{All-take, All-drop}
use Rattle.hk_arena.specs.Cells.{part}

pub length-part : {X : Type 0} (from count : ℕ) (items : List X) → from + count ≤ length items → length (part from count items) ≡ count
length-part from count items within = length-take-le count (drop from items) (omega (arith, length-drop from items))

pub get_or-part : {X : Type 0} (from count : ℕ) (items : List X) (at : ℕ) (d : X) → at < count → get_or (part from count items) at d ≡ get_or items (from + at) d
get_or-part from count items at d within = get_or-take count (drop from items) at d within ∙ get_or-drop from items at d

pub All-part : {X : Type 0} (P : X → Type 0) (from count : ℕ) (items : List X) → All P items → All P (part from count items)
All-part P from count items all = All-take P count (drop from items) (All-drop P from items all)

-- a part with an item of it set
pub part-set : {X : Type 0} (from count : ℕ) (items : List X) (at : ℕ) (item : X) → at < count → part from count (set items (from + at) item) ≡ set (part from count items) at item
part-set from count items at item within = ap (take count) (drop-set-add from items at item) ∙ take-set-lt count (drop from items) at item within

-- an item set beyond a part leaves it
pub part-set_apart : {X : Type 0} (from count : ℕ) (items : List X) (place : ℕ) (item : X) → (place < from) ⊎ (from + count ≤ place) → part from count (set items place item) ≡ part from count items
part-set_apart from count items place item (inl before) = ap (take count) (drop-set-lt from items place item before)
part-set_apart from count items place item (inr after) =
    let at = place - from in
    let same : place ≡ from + at = omega arith in
    ap (λ p. part from count (set items p item)) same
    ∙ ap (take count) (drop-set-add from items at item)
    ∙ take-set-le count (drop from items) at item (omega arith)
