-- States in cells: what they read, and the shape that they have.
use Rattle.std.proofs.Common.{◌≡◌, ℕ, ℤ, pos, zero, suc, ◌+◌, ◌<◌, ◌≤◌, ◌⊎◌, List, [], ◌∷◌, ◌++◌, length, get_or, take, refl, sym, ◌∙◌, ap, ap₂, subst, inl, inr, arith, All, Some, Option}
use Rattle.std.proofs.Math.ListN.{get_or-eq_default}
use Rattle.std.specs.List.{slice_get}
use Rattle.std.proofs.lemmas.Bool.{cases_lt}
use Rattle.std.proofs.lemmas.Int.{ints}
use Rattle.std.proofs.lemmas.List.{take_more}
use Rattle.hk_kinds.specs.Limits.{IsWithinLimit}
use Rattle.hk_kinds.specs.Sets.{IsSet}
use Rattle.hk_kinds.specs.Shapes.{HasShape, IsOfKind, is_min, is_max, is_interval, is_some, is_all, no_kinds, one_more}
use Rattle.hk_kinds.specs.Views.{number_of_property, low_of_property, high_of_property, set_of_property}
use Rattle.hk_kinds.specs.declared.kinds.Kind.{Kind}
use Rattle.hk_kinds.specs.declared.kinds.Kind.TheVariants.{Min, Max, Interval, SomeBits, AllBits}
use Rattle.hk_kinds.specs.declared.properties.Prop.{Prop}
use Rattle.hk_kinds.specs.declared.properties.Prop.TheVariants.{Num, Pair, Bits}
use Rattle.hk_trail.specs.Pools.{Content}
use Rattle.hk_arena.proofs.Writing.{AreInside, inside_none, inside_part}
use Rattle.hk_arena.specs.Forms.{kind_nums, kind_sets, nums_in, sets_in}
use Rattle.hk_arena.specs.Properties.{property_at, state_at}
use Rattle.hk_arena.specs.inside.Writes.{HasRoom, IsTouched, no_span, state_spans}

-- ---- a state reads its own cells alone

-- so many items of a list from a place on are those of another from a place on
pub record IsRun {X : Type 0} (count i : ℕ) (items : List X) (j : ℕ) (others : List X) (d : X) : Type 0 where
  pub same : (k : ℕ) → k < count → get_or items (i + k) d ≡ get_or others (j + k) d

run_start : {X : Type 0} (count i : ℕ) (items : List X) (j : ℕ) (others : List X) (d : X) → 0 < count → IsRun count i items j others d → get_or items i d ≡ get_or others j d
run_start count i items j others d some run =
    let left : i ≡ i + 0 = omega arith in
    let right : j + 0 ≡ j = omega arith in
    ap (λ p. get_or items p d) left ∙ run.same 0 some ∙ ap (λ p. get_or others p d) right

IsRun-left : {X : Type 0} (few more i : ℕ) (items : List X) (j : ℕ) (others : List X) (d : X) → IsRun (few + more) i items j others d → IsRun few i items j others d
IsRun-left few more i items j others d run = record { same = λ k below. run.same k (omega arith) }

IsRun-right : {X : Type 0} (few more i : ℕ) (items : List X) (j : ℕ) (others : List X) (d : X) → IsRun (few + more) i items j others d → IsRun more (i + few) items (j + few) others d
IsRun-right few more i items j others d run = record {
  same = λ k below.
      let left : i + few + k ≡ i + (few + k) = omega arith in
      let right : j + (few + k) ≡ j + few + k = omega arith in
      ap (λ p. get_or items p d) left ∙ run.same (few + k) (omega arith) ∙ ap (λ p. get_or others p d) right;
}

property_same : (kind : Kind) (i p j q : ℕ) (nums others : List ℤ) (bits sets : List ℕ) → IsRun (kind_nums kind) i nums j others (pos 0) → IsRun (kind_sets kind) p bits q sets 0 → property_at kind i p nums bits ≡ property_at kind j q others sets
property_same Min i p j q nums others bits sets run _ = ap Num (run_start 1 i nums j others (pos 0) (omega arith) run)
property_same Max i p j q nums others bits sets run _ = ap Num (run_start 1 i nums j others (pos 0) (omega arith) run)
property_same Interval i p j q nums others bits sets run _ = ap₂ Pair (run_start 2 i nums j others (pos 0) (omega arith) run) (run.same 1 (omega arith))
property_same SomeBits i p j q nums others bits sets _ run = ap Bits (run_start 1 p bits q sets 0 (omega arith) run)
property_same AllBits i p j q nums others bits sets _ run = ap Bits (run_start 1 p bits q sets 0 (omega arith) run)

pub state_same : (kinds : List Kind) (i p j q : ℕ) (nums others : List ℤ) (bits sets : List ℕ) → IsRun (nums_in kinds) i nums j others (pos 0) → IsRun (sets_in kinds) p bits q sets 0 → state_at kinds i p nums bits ≡ state_at kinds j q others sets
state_same [] i p j q nums others bits sets _ _ = refl
state_same (kind ∷ kinds) i p j q nums others bits sets num_run set_run =
    ap₂ ◌∷◌
    (property_same kind i p j q nums others bits sets (IsRun-left (kind_nums kind) (nums_in kinds) i nums j others (pos 0) num_run) (IsRun-left (kind_sets kind) (sets_in kinds) p bits q sets 0 set_run))
    (state_same kinds (i + kind_nums kind) (p + kind_sets kind) (j + kind_nums kind) (q + kind_sets kind) nums others bits sets
    (IsRun-right (kind_nums kind) (nums_in kinds) i nums j others (pos 0) num_run) (IsRun-right (kind_sets kind) (sets_in kinds) p bits q sets 0 set_run))

-- ---- the shape of what cells hold

pub zero_limit : IsWithinLimit (pos 0)
zero_limit = record { least = omega (arith, ints); most = omega (arith, ints) }

limit_at : (nums : List ℤ) (at : ℕ) → All IsWithinLimit nums → IsWithinLimit (get_or nums at (pos 0))
limit_at nums at all = elim (cases_lt at (length nums)) [
  | inl within ↦ all at (pos 0) within
  | inr past ↦ subst IsWithinLimit (sym (get_or-eq_default nums (pos 0) past)) zero_limit
]

set_at : (bits : List ℕ) (at : ℕ) → All IsSet bits → IsSet (get_or bits at 0)
set_at bits at all = elim (cases_lt at (length bits)) [
  | inl within ↦ all at 0 within
  | inr past ↦ subst IsSet (sym (get_or-eq_default bits 0 past)) (omega arith)
]

property_fits : (kind : Kind) (num set : ℕ) (nums : List ℤ) (bits : List ℕ) → All IsWithinLimit nums → All IsSet bits → IsOfKind kind (property_at kind num set nums bits)
property_fits Min num set nums bits limits sets = is_min (limit_at nums num limits)
property_fits Max num set nums bits limits sets = is_max (limit_at nums num limits)
property_fits Interval num set nums bits limits sets = is_interval (limit_at nums num limits) (limit_at nums (num + 1) limits)
property_fits SomeBits num set nums bits limits sets = is_some (set_at bits set sets)
property_fits AllBits num set nums bits limits sets = is_all (set_at bits set sets)

pub state_fits : (kinds : List Kind) (num set : ℕ) (nums : List ℤ) (bits : List ℕ) → All IsWithinLimit nums → All IsSet bits → HasShape kinds (state_at kinds num set nums bits)
state_fits [] num set nums bits limits sets = no_kinds
state_fits (kind ∷ kinds) num set nums bits limits sets = one_more (property_fits kind num set nums bits limits sets) (state_fits kinds (num + kind_nums kind) (set + kind_sets kind) nums bits limits sets)

-- ---- a state and its shape, property by property

pub length-shape : {kinds : List Kind} {state : List Prop} → HasShape kinds state → length state ≡ length kinds
length-shape no_kinds = refl
length-shape (one_more _ more) = ap suc (length-shape more)

pub kind_of : (at : ℕ) {kinds : List Kind} {state : List Prop} → HasShape kinds state → at < length kinds → IsOfKind (get_or kinds at Min) (get_or state at (Num (pos 0)))
kind_of at no_kinds below = absurd (omega arith)
kind_of zero (one_more is more) below = is
kind_of (suc at) (one_more is more) below = kind_of at more (omega arith)

-- how many cells the kinds up to a place take, with the one there
pub nums_more : (kinds : List Kind) (at : ℕ) → at < length kinds → nums_in (take (at + 1) kinds) ≡ nums_in (take at kinds) + kind_nums (get_or kinds at Min)
nums_more [] at below = absurd (omega arith)
nums_more (kind ∷ kinds) zero below = omega arith
nums_more (kind ∷ kinds) (suc at) below =
    let place : suc at + 1 ≡ suc (at + 1) = omega arith in
    let more = nums_more kinds at (omega arith) in
    rw place (omega (arith, more))

pub sets_more : (kinds : List Kind) (at : ℕ) → at < length kinds → sets_in (take (at + 1) kinds) ≡ sets_in (take at kinds) + kind_sets (get_or kinds at Min)
sets_more [] at below = absurd (omega arith)
sets_more (kind ∷ kinds) zero below = omega arith
sets_more (kind ∷ kinds) (suc at) below =
    let place : suc at + 1 ≡ suc (at + 1) = omega arith in
    let more = sets_more kinds at (omega arith) in
    rw place (omega (arith, more))

-- the kinds up to a place take no more cells than all
pub nums_within : (kinds : List Kind) (at : ℕ) → nums_in (take at kinds) ≤ nums_in kinds
nums_within [] zero = omega arith
nums_within [] (suc at) = omega arith
nums_within (kind ∷ kinds) zero = omega arith
nums_within (kind ∷ kinds) (suc at) = let more = nums_within kinds at in omega arith

pub sets_within : (kinds : List Kind) (at : ℕ) → sets_in (take at kinds) ≤ sets_in kinds
sets_within [] zero = omega arith
sets_within [] (suc at) = omega arith
sets_within (kind ∷ kinds) zero = omega arith
sets_within (kind ∷ kinds) (suc at) = let more = sets_within kinds at in omega arith

-- the state of one kind more has one property more
state_more : (kinds : List Kind) (kind : Kind) (num set : ℕ) (nums : List ℤ) (bits : List ℕ) → state_at (kinds ++ kind ∷ []) num set nums bits ≡ state_at kinds num set nums bits ++ property_at kind (num + nums_in kinds) (set + sets_in kinds) nums bits ∷ []
state_more [] kind num set nums bits =
    let num_place : num ≡ num + 0 = omega arith in
    let set_place : set ≡ set + 0 = omega arith in
    ap₂ (λ n s. property_at kind n s nums bits ∷ []) num_place set_place
state_more (first ∷ kinds) kind num set nums bits =
    let num_place : num + kind_nums first + nums_in kinds ≡ num + (kind_nums first + nums_in kinds) = omega arith in
    let set_place : set + kind_sets first + sets_in kinds ≡ set + (kind_sets first + sets_in kinds) = omega arith in
    let head = property_at first num set nums bits in
    let before = state_at kinds (num + kind_nums first) (set + kind_sets first) nums bits in
    ap (λ state. head ∷ state) (state_more kinds kind (num + kind_nums first) (set + kind_sets first) nums bits)
    ∙ ap₂ (λ n s. head ∷ (before ++ property_at kind n s nums bits ∷ [])) num_place set_place

-- a place that is there has what is read there
some_at : {X : Type 0} (items : List X) (at : ℕ) (d : X) → at < length items → slice_get items at ≡ Some (get_or items at d)
some_at [] at d below = absurd (omega arith)
some_at (x ∷ xs) zero d below = refl
some_at (x ∷ xs) (suc at) d below = some_at xs at d (omega arith)

-- cells that hold what is read of a property hold the property
num_read : (kind : Kind) (property : Prop) (num set : ℕ) (nums : List ℤ) (bits : List ℕ) → IsOfKind kind property → (kind ≡ Min) ⊎ (kind ≡ Max) → get_or nums num (pos 0) ≡ number_of_property (Some property) → property_at kind num set nums bits ≡ property
num_read _ _ num set nums bits (is_min _) either holds = ap Num holds
num_read _ _ num set nums bits (is_max _) either holds = ap Num holds
num_read _ _ num set nums bits (is_interval _ _) either holds = elim either [ inl is ↦ cc | inr is ↦ cc ]
num_read _ _ num set nums bits (is_some _) either holds = elim either [ inl is ↦ cc | inr is ↦ cc ]
num_read _ _ num set nums bits (is_all _) either holds = elim either [ inl is ↦ cc | inr is ↦ cc ]

pair_read : (kind : Kind) (property : Prop) (num set : ℕ) (nums : List ℤ) (bits : List ℕ) → IsOfKind kind property → kind ≡ Interval → get_or nums num (pos 0) ≡ low_of_property (Some property) → get_or nums (num + 1) (pos 0) ≡ high_of_property (Some property) → property_at kind num set nums bits ≡ property
pair_read _ _ num set nums bits (is_min _) is low high = cc
pair_read _ _ num set nums bits (is_max _) is low high = cc
pair_read _ _ num set nums bits (is_interval _ _) is low high = ap₂ Pair low high
pair_read _ _ num set nums bits (is_some _) is low high = cc
pair_read _ _ num set nums bits (is_all _) is low high = cc

pair_limits : (kind : Kind) (property : Prop) → IsOfKind kind property → kind ≡ Interval → IsWithinLimit (low_of_property (Some property)) × IsWithinLimit (high_of_property (Some property))
pair_limits _ _ (is_min _) is = cc
pair_limits _ _ (is_max _) is = cc
pair_limits _ _ (is_interval low high) is = (low, high)
pair_limits _ _ (is_some _) is = cc
pair_limits _ _ (is_all _) is = cc

set_read : (kind : Kind) (property : Prop) (num set : ℕ) (nums : List ℤ) (bits : List ℕ) → IsOfKind kind property → (kind ≡ SomeBits) ⊎ (kind ≡ AllBits) → get_or bits set 0 ≡ set_of_property (Some property) → property_at kind num set nums bits ≡ property
set_read _ _ num set nums bits (is_min _) either holds = elim either [ inl is ↦ cc | inr is ↦ cc ]
set_read _ _ num set nums bits (is_max _) either holds = elim either [ inl is ↦ cc | inr is ↦ cc ]
set_read _ _ num set nums bits (is_interval _ _) either holds = elim either [ inl is ↦ cc | inr is ↦ cc ]
set_read _ _ num set nums bits (is_some _) either holds = ap Bits holds
set_read _ _ num set nums bits (is_all _) either holds = ap Bits holds

-- the cells that hold what is read of a property hold the property
module _ (kind : Kind) (value : List Prop) (at num set : ℕ) (nums : List ℤ) (bits : List ℕ) (within : at < length value) (is : IsOfKind kind (get_or value at (Num (pos 0)))) where
  pub number_held : (kind ≡ Min) ⊎ (kind ≡ Max) → get_or nums num (pos 0) ≡ number_of_property (slice_get value at) → property_at kind num set nums bits ≡ get_or value at (Num (pos 0))
  number_held either holds = num_read kind (get_or value at (Num (pos 0))) num set nums bits is either (holds ∙ ap number_of_property (some_at value at (Num (pos 0)) within))

  pub interval_held : kind ≡ Interval → get_or nums num (pos 0) ≡ low_of_property (slice_get value at) → get_or nums (num + 1) (pos 0) ≡ high_of_property (slice_get value at) → property_at kind num set nums bits ≡ get_or value at (Num (pos 0))
  interval_held one low high = pair_read kind (get_or value at (Num (pos 0))) num set nums bits is one (low ∙ ap low_of_property (some_at value at (Num (pos 0)) within)) (high ∙ ap high_of_property (some_at value at (Num (pos 0)) within))

  pub interval_limits : kind ≡ Interval → IsWithinLimit (low_of_property (slice_get value at)) × IsWithinLimit (high_of_property (slice_get value at))
  interval_limits one = subst (λ (read : Option Prop). IsWithinLimit (low_of_property read) × IsWithinLimit (high_of_property read)) (sym (some_at value at (Num (pos 0)) within)) (pair_limits kind (get_or value at (Num (pos 0))) is one)

  pub bits_held : (kind ≡ SomeBits) ⊎ (kind ≡ AllBits) → get_or bits set 0 ≡ set_of_property (slice_get value at) → property_at kind num set nums bits ≡ get_or value at (Num (pos 0))
  bits_held either holds = set_read kind (get_or value at (Num (pos 0))) num set nums bits is either (holds ∙ ap set_of_property (some_at value at (Num (pos 0)) within))

-- the cells of the property at a place lie among those of the state
pub property_room : (kinds : List Kind) (at first_num first_set num set : ℕ) (old new : Content) → at < length kinds
    → num ≡ first_num + nums_in (take at kinds) → set ≡ first_set + sets_in (take at kinds)
    → HasRoom (state_spans first_num (nums_in kinds) first_set (sets_in kinds)) old → IsTouched (state_spans first_num (nums_in kinds) first_set (sets_in kinds)) old new → HasRoom (state_spans num (kind_nums (get_or kinds at Min)) set (kind_sets (get_or kinds at Min))) new
property_room kinds at first_num first_set num set old new below num_is set_is room touched =
    let nums_end = nums_more kinds at below in
    let sets_end = sets_more kinds at below in
    let nums_most = nums_within kinds (at + 1) in
    let sets_most = sets_within kinds (at + 1) in record {
      nums = omega (arith, touched.nums.long, room.nums, nums_end, nums_most);
      bits = omega (arith, touched.bits.long, room.bits, sets_end, sets_most);
      few_nums = omega (arith, touched.nums.long, room.few_nums);
      few_bits = omega (arith, touched.bits.long, room.few_bits);
    }

pub property_inside : (kinds : List Kind) (at first_num first_set num set : ℕ) → at < length kinds
    → num ≡ first_num + nums_in (take at kinds) → set ≡ first_set + sets_in (take at kinds)
    → AreInside (state_spans num (kind_nums (get_or kinds at Min)) set (kind_sets (get_or kinds at Min))) (state_spans first_num (nums_in kinds) first_set (sets_in kinds))
property_inside kinds at first_num first_set num set below num_is set_is =
    let kind = get_or kinds at Min in
    let nums_end = nums_more kinds at below in
    let sets_end = sets_more kinds at below in
    let nums_most = nums_within kinds (at + 1) in
    let sets_most = sets_within kinds (at + 1) in record {
      nums = inside_part (record { first = num; count = kind_nums kind }) (record { first = first_num; count = nums_in kinds }) (omega arith) (omega (arith, nums_end, nums_most));
      bits = inside_part (record { first = set; count = kind_sets kind }) (record { first = first_set; count = sets_in kinds }) (omega arith) (omega (arith, sets_end, sets_most));
      words = inside_none no_span;
    }

-- one property more is written
pub state_written : (kinds : List Kind) (value : List Prop) (at first_num first_set num set : ℕ) (old new : Content) → HasShape kinds value → at < length kinds
    → num ≡ first_num + nums_in (take at kinds) → set ≡ first_set + sets_in (take at kinds)
    → IsTouched (state_spans num (kind_nums (get_or kinds at Min)) set (kind_sets (get_or kinds at Min))) old new
    → property_at (get_or kinds at Min) num set new.nums new.bits ≡ get_or value at (Num (pos 0))
    → state_at (take at kinds) first_num first_set old.nums old.bits ≡ take at value → state_at (take (at + 1) kinds) first_num first_set new.nums new.bits ≡ take (at + 1) value
state_written kinds value at first_num first_set num set old new shape below num_is set_is touched wrote before =
    let kind = get_or kinds at Min in
    let done = take at kinds in
    let stays : state_at done first_num first_set new.nums new.bits ≡ state_at done first_num first_set old.nums old.bits = state_same done first_num first_set first_num first_set new.nums old.nums new.bits old.bits
    (record { same = λ k within. touched.nums.others (first_num + k) (pos 0) (λ above under. omega arith) })
    (record { same = λ k within. touched.bits.others (first_set + k) 0 (λ above under. omega arith) }) in
    ap (λ ks. state_at ks first_num first_set new.nums new.bits) (take_more kinds at Min below)
    ∙ state_more done kind first_num first_set new.nums new.bits
    ∙ ap₂ (λ n s. state_at done first_num first_set new.nums new.bits ++ property_at kind n s new.nums new.bits ∷ []) (sym num_is) (sym set_is)
    ∙ ap₂ (λ state property. state ++ property ∷ []) (stays ∙ before) wrote
    ∙ sym (take_more value at (Num (pos 0)) (omega (arith, length-shape shape)))
