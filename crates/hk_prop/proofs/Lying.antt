-- Values that lie in sets, one for each.
use Rattle.std.proofs.Common.{◌≡◌, ℕ, zero, suc, ◌<◌, List, [], ◌∷◌, length, set, slice_index, refl, arith}
use Rattle.hk_base.specs.Sets.{Has}
use Rattle.hk_sweep.specs.OneValue.{AreOnly, only_none, only_more}
use Rattle.hk_table.specs.Keeps.{LieIn, lie_none, lie_more}

-- one set is changed
pub lie_widen : {sets values : List ℕ} (k new : ℕ) → ((value : ℕ) → Has new value → Has (slice_index sets k) value) → LieIn (set sets k new) values → LieIn sets values
lie_widen {sets = []} k new more lie = lie
lie_widen {sets = x ∷ xs} zero new more (lie_more {value = v} has small rest) = lie_more (more v has) small rest
lie_widen {sets = x ∷ xs} (suc k) new more (lie_more has small rest) = lie_more has small (lie_widen k new more rest)

pub lie_narrow : {sets values : List ℕ} (k new : ℕ) → k < length sets → Has new (slice_index values k) → LieIn sets values → LieIn (set sets k new) values
lie_narrow k new within has lie_none = absurd (omega arith)
lie_narrow zero new within has (lie_more old small rest) = lie_more has small rest
lie_narrow (suc k) new within has (lie_more old small rest) = lie_more old small (lie_narrow k new (omega arith) has rest)

pub lie_at : {sets values : List ℕ} (k : ℕ) → k < length sets → LieIn sets values → Has (slice_index sets k) (slice_index values k) × (slice_index values k < 128)
lie_at k within lie_none = absurd (omega arith)
lie_at zero within (lie_more has small rest) = (has, small)
lie_at (suc k) within (lie_more has small rest) = lie_at k (omega arith) rest

-- values that lie in sets, by their places
pub lie_from : (sets values : List ℕ) → length values ≡ length sets → ((k : ℕ) → k < length sets → Has (slice_index sets k) (slice_index values k) × (slice_index values k < 128)) → LieIn sets values
lie_from [] [] long each = lie_none
lie_from [] (y ∷ ys) long each = absurd (omega arith)
lie_from (x ∷ xs) [] long each = absurd (omega arith)
lie_from (x ∷ xs) (y ∷ ys) long each = lie_more (each 0 (omega arith)).0 (each 0 (omega arith)).1 (lie_from xs ys (omega arith) (λ k within. each (suc k) (omega arith)))

pub lie_long : {sets values : List ℕ} → LieIn sets values → length values ≡ length sets
lie_long lie_none = refl
lie_long (lie_more has small rest) = omega (arith, lie_long rest)

-- values that are the only ones of their sets
pub only_at : {sets values : List ℕ} (k : ℕ) → k < length sets → AreOnly sets values → (other : ℕ) → Has (slice_index sets k) other → other ≡ slice_index values k
only_at k within only_none other has = absurd (omega arith)
only_at zero within (only_more only rest) other has = only other has
only_at (suc k) within (only_more only rest) other has = only_at k (omega arith) rest other has
