-- Lists that a rule gives, and lists with one item changed.
use Rattle.std.proofs.Common.{◌≡◌, ◌≢◌, ℕ, zero, suc, ◌<◌, ◌≤◌, List, [], ◌∷◌, length, get_or, refl, sym, ap, ap₂, subst, arith, All}
use Rattle.std.proofs.Math.ListN.{get_or-eq_default}
use Rattle.hk_arena.specs.Changes.{changed}
use Rattle.hk_arena.specs.Cells.{listed}

pub length-listed : {X : Type 0} (count : ℕ) (item : ℕ → X) → length (listed count item) ≡ count
length-listed zero item = refl
length-listed (suc count) item = ap suc (length-listed count (λ at. item (suc at)))

pub get_or-listed : {X : Type 0} (count : ℕ) (item : ℕ → X) (at : ℕ) (d : X) → at < count → get_or (listed count item) at d ≡ item at
get_or-listed zero item at d within = absurd (omega arith)
get_or-listed (suc count) item zero d within = refl
get_or-listed (suc count) item (suc at) d within = get_or-listed count (λ k. item (suc k)) at d (omega arith)

pub get_or-listed_past : {X : Type 0} (count : ℕ) (item : ℕ → X) (at : ℕ) (d : X) → count ≤ at → get_or (listed count item) at d ≡ d
get_or-listed_past count item at d past = get_or-eq_default (listed count item) d (omega (arith, length-listed count item))

-- what holds of each item that a rule gives
pub All-listed : {X : Type 0} (P : X → Type 0) (count : ℕ) (item : ℕ → X) → ((k : ℕ) → k < count → P (item k)) → All P (listed count item)
All-listed P count item all at d within =
    let below : at < count = omega (arith, length-listed count item) in
    subst P (sym (get_or-listed count item at d below)) (all at below)

-- rules that give the same items give the same list
pub listed-same : {X : Type 0} (count : ℕ) (one other : ℕ → X) → ((k : ℕ) → k < count → one k ≡ other k) → listed count one ≡ listed count other
listed-same zero one other same = refl
listed-same (suc count) one other same =
    ap₂ ◌∷◌ (same zero (omega arith)) (listed-same count (λ k. one (suc k)) (λ k. other (suc k)) (λ k below. same (suc k) (omega arith)))

-- a list with one item changed is given by a rule that differs there alone
pub changed-listed : {X : Type 0} (count at : ℕ) (change : X → X) (one other : ℕ → X) → ((k : ℕ) → k < count → k ≢ at → other k ≡ one k) → (at < count → other at ≡ change (one at)) → listed count other ≡ changed at change (listed count one)
changed-listed zero at change one other others same = refl
changed-listed (suc count) zero change one other others same =
    ap₂ ◌∷◌ (same (omega arith)) (listed-same count (λ k. other (suc k)) (λ k. one (suc k)) (λ k below. others (suc k) (omega arith) (omega arith)))
changed-listed (suc count) (suc at) change one other others same =
    ap₂ ◌∷◌ (others zero (omega arith) (omega arith)) (changed-listed count at change (λ k. one (suc k)) (λ k. other (suc k)) (λ k below apart. others (suc k) (omega arith) (omega arith)) (λ below. same (omega arith)))

pub length-changed : {X : Type 0} (at : ℕ) (change : X → X) (items : List X) → length (changed at change items) ≡ length items
length-changed at change [] = refl
length-changed zero change (x ∷ xs) = refl
length-changed (suc at) change (x ∷ xs) = ap suc (length-changed at change xs)

pub get_or-changed_same : {X : Type 0} (at : ℕ) (change : X → X) (items : List X) (d : X) → at < length items → get_or (changed at change items) at d ≡ change (get_or items at d)
get_or-changed_same at change [] d within = absurd (omega arith)
get_or-changed_same zero change (x ∷ xs) d within = refl
get_or-changed_same (suc at) change (x ∷ xs) d within = get_or-changed_same at change xs d (omega arith)

pub get_or-changed_other : {X : Type 0} (at : ℕ) (change : X → X) (items : List X) (k : ℕ) (d : X) → k ≢ at → get_or (changed at change items) k d ≡ get_or items k d
get_or-changed_other at change [] k d apart = refl
get_or-changed_other zero change (x ∷ xs) zero d apart = absurd (apart refl)
get_or-changed_other zero change (x ∷ xs) (suc k) d apart = refl
get_or-changed_other (suc at) change (x ∷ xs) zero d apart = refl
get_or-changed_other (suc at) change (x ∷ xs) (suc k) d apart = get_or-changed_other at change xs k d (λ same. apart (ap suc same))
