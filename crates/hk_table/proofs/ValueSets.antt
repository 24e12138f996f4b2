-- The values of a set as a list: how many they are, and the least of them.
use Rattle.std.proofs.Common.{◌≡◌, ℕ, zero, suc, ◌+◌, ◌-◌, ◌*◌, ◌/◌, ◌%◌, ◌^◌, ◌<◌, ◌≤◌, ◌==◌, false, cond, eqb, [], ◌∷◌, ◌++◌, length, refl, sym, ◌∙◌, ap, subst, inl, inr, arith, bit_and}
use Rattle.std.specs.Int.{bit_at, trailing_zeros, w128}
use Rattle.std.specs.Int.Count.{ones}
use Rattle.std.proofs.Math.Nat.{add_comm, mod-lt}
use Rattle.std.proofs.Math.Pow.{pow-lt}
use Rattle.std.proofs.lemmas.Bool.{cases_eq, eq-eqb, ne_eqb}
use Rattle.std.proofs.lemmas.List.{length-append}
use Rattle.std.proofs.lemmas.List.FromFn.{length-range_with_len}
use Rattle.std.proofs.lemmas.List.Sums.{count_by-le-length, length-filter}
use Rattle.std.specs.List.{range_with_len}
use Rattle.std.proofs.lemmas.Nat.{mod-pow-add, ones_cat, pow_pos}
use Rattle.std.proofs.lemmas.Nat.Bits.{bit_at-lt, bit_at-pow_same, bit_at-pow_other, bit_at-trailing_zeros, bit_at-zero, bit_at_and, bit_at_cat_low, bit_at_cat_high, bit_at_ones_above, same_from_bits_below}
use Rattle.hk_text.proofs.Members.{members_below_more, members_below_none}
use Rattle.hk_text.specs.Sets.{members, members_below}

-- a bit adds one value or none
counted : (n bit : ℕ) → bit < 2 → length (cond (bit == 1) (n ∷ []) []) ≡ ones bit
unfolding ones
counted n bit within = elim (cases_eq bit 1) [
  | inl one ↦ rw one refl
  | inr apart ↦ let zero_there : bit ≡ 0 = omega arith in rw zero_there refl
]

-- the values below a number are as many as the ones among the lowest bits
length-members_below : (set n : ℕ) → length (members_below set n) ≡ ones (set % 2 ^ n)
unfolding ones
length-members_below set zero = let none : set % 2 ^ 0 ≡ 0 = omega arith in sym (ap ones none)
length-members_below set (suc n) =
    let next : suc n ≡ n + 1 = omega arith in
    let bit = bit_at set n in
    let low = set % 2 ^ n in
    let parts : set % 2 ^ suc n ≡ bit * 2 ^ n + low = ap (λ k. set % 2 ^ k) (omega arith) ∙ mod-pow-add set 1 n in
    ap (λ k. length (members_below set k)) next
    ∙ ap length (members_below_more set n)
    ∙ length-append (members_below set n) (cond (bit == 1) (n ∷ []) [])
    ∙ ap (λ k. k + length (cond (bit == 1) (n ∷ []) [])) (length-members_below set n)
    ∙ ap (λ k. ones low + k) (counted n bit (bit_at-lt set n))
    ∙ add_comm (ones low) (ones bit)
    ∙ sym (ap ones parts ∙ ones_cat n bit low (mod-lt set (pow_pos n)))

pub length-members : (set : ℕ) → set < 2 ^ 128 → length (members set) ≡ ones set
unfolding members
length-members set fits = let whole : set % 2 ^ 128 ≡ set = omega (arith, fits) in length-members_below set 128 ∙ ap ones whole

-- a set without bits below a number has no value there
pub members_below_empty : (set n : ℕ) → ((i : ℕ) → i < n → bit_at set i ≡ 0) → members_below set n ≡ []
members_below_empty set zero none = refl
members_below_empty set (suc n) none =
    let lacks : (bit_at set n == 1) ≡ false = ne_eqb (bit_at set n) 1 (λ one. let zero_there = none n (omega arith) in omega arith) in
    let next : suc n ≡ n + 1 = omega arith in
    ap (members_below set) next ∙ members_below_none set n lacks ∙ members_below_empty set n (λ i below. none i (omega arith))

-- a set without its least value: no bit up to it, and all bits past it
record IsRest (set least rest : ℕ) : Type 0 where
  low : (i : ℕ) → i ≤ least → bit_at rest i ≡ 0
  high : (i : ℕ) → least < i → bit_at rest i ≡ bit_at set i

-- the values that a set has below a number past its least one
members_below_rest : (set least rest k : ℕ) → bit_at set least ≡ 1 → ((i : ℕ) → i < least → bit_at set i ≡ 0) → IsRest set least rest → members_below set (least + 1 + k) ≡ least ∷ members_below rest (least + 1 + k)
members_below_rest set least rest zero has none is =
    let same : least + 1 + 0 ≡ least + 1 = omega arith in
    ap (members_below set) same
    ∙ members_below_more set least
    ∙ ap (λ b. members_below set least ++ cond b (least ∷ []) []) (eq-eqb (bit_at set least) 1 has)
    ∙ ap (λ values. values ++ least ∷ []) (members_below_empty set least none)
    ∙ ap (λ values. least ∷ values) (sym (members_below_empty rest (least + 1 + 0) (λ i below. is.low i (omega arith))))
members_below_rest set least rest (suc k) has none is =
    let n = least + 1 + k in
    let next : least + 1 + suc k ≡ n + 1 = omega arith in
    ap (members_below set) next
    ∙ members_below_more set n
    ∙ ap (λ values. values ++ cond (bit_at set n == 1) (n ∷ []) []) (members_below_rest set least rest k has none is)
    ∙ ap (λ bit. least ∷ (members_below rest n ++ cond (bit == 1) (n ∷ []) [])) (sym (is.high n (omega arith)))
    ∙ ap (λ values. least ∷ values) (sym (ap (members_below rest) next ∙ members_below_more rest n))

-- a set is a number of blocks above its least bit
split_at_least : (set least : ℕ) → bit_at set least ≡ 1 → ((i : ℕ) → i < least → bit_at set i ≡ 0) → set ≡ (set / 2 ^ suc least) * 2 ^ suc least + 2 ^ least
split_at_least set least has none =
    let block = 2 ^ suc least in
    let some : 0 < block = pow_pos (suc least) in
    let low = set % block in
    let parts : set ≡ (set / block) * block + low = omega arith in
    let bit : (i : ℕ) → i < suc least → bit_at low i ≡ bit_at set i = λ i below. sym (bit_at_cat_low (set / block) (suc least) low i below) ∙ ap (λ n. bit_at n i) (sym parts) in
    let alone : low ≡ 2 ^ least = same_from_bits_below (suc least) low (2 ^ least) (omega arith) (pow-lt (omega arith)) (λ i below. elim (cases_eq i least) [
      | inl same ↦ rw same (bit least (omega arith) ∙ has ∙ sym (bit_at-pow_same least))
      | inr apart ↦ bit i below ∙ none i (omega arith) ∙ sym (bit_at-pow_other least i apart)
    ]) in
    parts ∙ ap (λ n. (set / block) * block + n) alone

-- what a number has in common with the one below it
common_below : (set least : ℕ) → bit_at set least ≡ 1 → ((i : ℕ) → i < least → bit_at set i ≡ 0) → IsRest set least (bit_and set (set - 1))
common_below set least has none =
    let block = 2 ^ suc least in
    let high = set / block in
    let parts = split_at_least set least has none in
    let one : 0 < 2 ^ least = pow_pos least in
    let below_block : 2 ^ least < block = pow-lt (omega arith) in
    let before : set - 1 ≡ high * block + (2 ^ least - 1) = omega arith in record {
      low = λ i within. elim (cases_eq i least) [
        | inl same ↦ rw same (bit_at_and set (set - 1) least ∙ (let none : bit_at (set - 1) least ≡ 0 = ap (λ n. bit_at n least) before ∙ bit_at_cat_low high (suc least) (2 ^ least - 1) least (omega arith) ∙ bit_at_ones_above least least (omega arith) in omega arith))
        | inr apart ↦ bit_at_and set (set - 1) i ∙ (let zero_there = none i (omega arith) in omega arith)
      ];
      high = λ i above.
          let first : bit_at set i ≡ bit_at high (i - suc least) = ap (λ n. bit_at n i) parts ∙ bit_at_cat_high high (suc least) (2 ^ least) i below_block (omega arith) in
          let second : bit_at (set - 1) i ≡ bit_at high (i - suc least) = ap (λ n. bit_at n i) before ∙ bit_at_cat_high high (suc least) (2 ^ least - 1) i (omega arith) (omega arith) in
          bit_at_and set (set - 1) i ∙ (omega (arith, first, second));
    }

-- the set of no value
pub members-none : members 0 ≡ []
unfolding members
members-none = members_below_empty 0 128 (λ i below. bit_at-zero i)

-- a set that has a value isn't 0
pub some_bits : (set : ℕ) → 0 < length (members set) → 0 < set
some_bits set some = elim (cases_eq set 0) [
  | inl none ↦ let empty : length (members set) ≡ 0 = ap (λ n. length (members n)) none ∙ ap length members-none in absurd (omega arith)
  | inr apart ↦ omega arith
]

-- the least value of a set, and the others
pub record SplitsLeast (set least rest : ℕ) : Type 0 where
  pub values : members set ≡ least ∷ members rest
  pub within : least < 128
  pub gone : bit_at rest least ≡ 0

pub least_split : (set : ℕ) → 0 < set → set < 2 ^ 128 → SplitsLeast set (trailing_zeros w128 set) (bit_and set (set - 1))
unfolding members
least_split set some fits =
    let least = trailing_zeros w128 set in
    let lowest = bit_at-trailing_zeros w128 set some fits in
    let within : least < 128 = lowest.0 in
    let rest = common_below set least lowest.1 lowest.2 in
    let all : least + 1 + (127 - least) ≡ 128 = omega arith in record {
      values =
          subst (λ n. members_below set n ≡ least ∷ members_below (bit_and set (set - 1)) n) all (members_below_rest set least (bit_and set (set - 1)) (127 - least) lowest.1 lowest.2 rest);
      within = within;
      gone = rest.low least (omega arith);
    }

-- a set has at most 128 values
pub members_few : (set : ℕ) → length (members set) ≤ 128
unfolding members
members_few set = omega (arith, length-filter (λ value. eqb (bit_at set value) 1) (range_with_len 0 128), count_by-le-length (λ value. eqb (bit_at set value) 1) (range_with_len 0 128), length-range_with_len 0 128)
