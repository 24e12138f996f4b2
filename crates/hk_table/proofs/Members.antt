-- What stands in a list: to and from `Contains` and `All`, and through lists that are made of others.
use Rattle.std.proofs.Common.{◌≡◌, ◌⊎◌, ℕ, zero, suc, ◌+◌, ◌<◌, ◌≤◌, Bool, true, false, cond, List, [], ◌∷◌, ◌++◌, length, get_or, map, refl, sym, ◌∙◌, ap, subst, inl, inr, arith, All, eqb}
use Rattle.std.specs.List.{Contains, filter, range_with_len}
use Rattle.std.specs.Int.{bit_at}
use Rattle.std.proofs.lemmas.Bool.{cases_lt, eq-eqb, eqb-true}
use Rattle.std.proofs.lemmas.List.Elements.{All-head, All-tail}
use Rattle.hk_base.specs.Sets.{Has}
use Rattle.hk_table.specs.Members.{Member, first, later}
use Rattle.hk_text.specs.Sets.{members}

-- it is the first, or stands in the rest
pub Member-cases : {A : Type 0} {x y : A} {xs : List A} → Member x (y ∷ xs) → (x ≡ y) ⊎ Member x xs
Member-cases first = inl refl
Member-cases (later m) = inr m

-- what stands at a place is a member
pub Member-at : {A : Type 0} (xs : List A) (k : ℕ) (x : A) → k < length xs → get_or xs k x ≡ x → Member x xs
Member-at [] k x within is = absurd (omega arith)
Member-at (y ∷ xs) zero x within is = subst (λ z. Member z (y ∷ xs)) is first
Member-at (y ∷ xs) (suc k) x within is = later (Member-at xs k x (omega arith) is)

-- from and to what std says of it
pub Member-from_contains : {A : Type 0} (xs : List A) (x : A) → Contains xs x → Member x xs
Member-from_contains xs x has = Member-at xs has.0 x has.1 has.2

pub Contains-from_member : {A : Type 0} {x : A} {xs : List A} → Member x xs → Contains xs x
Contains-from_member first = (0, omega arith, refl)
Contains-from_member (later m) = let at = Contains-from_member m in (suc at.0, omega (arith, at.1), at.2)

-- what holds of each item holds of a member, and what holds of each member holds of each item
pub All-member : {A : Type 0} (P : A → Type 0) {x : A} {xs : List A} → All P xs → Member x xs → P x
All-member P {xs = []} all m = elim m [ ]
All-member P {xs = y ∷ xs} all first = All-head P y xs all
All-member P {xs = y ∷ xs} all (later m) = All-member P (All-tail P y xs all) m

pub All-from_members : {A : Type 0} (P : A → Type 0) (xs : List A) → ((x : A) → Member x xs → P x) → All P xs
All-from_members P [] holds k d within = absurd (omega arith)
All-from_members P (x ∷ xs) holds zero d within = holds x first
All-from_members P (x ∷ xs) holds (suc k) d within = All-from_members P xs (λ y m. holds y (later m)) k d (omega arith)

-- lists one after the other
pub Member-append_left : {A : Type 0} {x : A} {xs : List A} (ys : List A) → Member x xs → Member x (xs ++ ys)
Member-append_left ys first = first
Member-append_left ys (later m) = later (Member-append_left ys m)

pub Member-append_right : {A : Type 0} {x : A} (xs : List A) {ys : List A} → Member x ys → Member x (xs ++ ys)
Member-append_right [] m = m
Member-append_right (y ∷ xs) m = later (Member-append_right xs m)

pub Member-append_cases : {A : Type 0} {x : A} (xs : List A) {ys : List A} → Member x (xs ++ ys) → Member x xs ⊎ Member x ys
Member-append_cases [] m = inr m
Member-append_cases (y ∷ xs) m = elim (Member-cases m) [
  | inl same ↦ inl (subst (λ z. Member z (y ∷ xs)) (sym same) first)
  | inr m ↦ elim (Member-append_cases xs m) [ inl left ↦ inl (later left) | inr right ↦ inr right ]
]

-- a function of each item
pub Member-map : {A B : Type 0} (f : A → B) {x : A} {xs : List A} → Member x xs → Member (f x) (map f xs)
Member-map f first = first
Member-map f (later m) = later (Member-map f m)

pub Member-mapped : {A B : Type 0} (f : A → B) {y : B} (xs : List A) → Member y (map f xs) → (x : A) × Member x xs × (y ≡ f x)
Member-mapped f [] m = elim m [ ]
Member-mapped f (x ∷ xs) m = elim (Member-cases m) [
  | inl same ↦ (x, first, same)
  | inr m ↦ let from = Member-mapped f xs m in (from.0, later from.1, from.2)
]

-- the items that pass a test
pub Member-filter : {A : Type 0} (p : A → Bool) {x : A} {xs : List A} → Member x xs → p x ≡ true → Member x (filter p xs)
Member-filter p {xs = []} m passes = elim m [ ]
Member-filter p {xs = y ∷ xs} first passes = subst (λ b. Member y (cond b (y ∷ filter p xs) (filter p xs))) (sym passes) first
Member-filter p {x = x} {xs = y ∷ xs} (later m) passes =
    let rest = Member-filter p m passes in
    elim (p y) as (λ b. Member x (cond b (y ∷ filter p xs) (filter p xs))) [ true ↦ later rest | false ↦ rest ]

filtered_more : {A : Type 0} (p : A → Bool) {x : A} (y : A) (xs : List A) → (Member x (filter p xs) → Member x xs × (p x ≡ true)) → (b : Bool) → p y ≡ b → Member x (cond b (y ∷ filter p xs) (filter p xs)) → Member x (y ∷ xs) × (p x ≡ true)
filtered_more p y xs rest true passes m = elim (Member-cases m) [
  | inl same ↦ (subst (λ z. Member z (y ∷ xs)) (sym same) first, ap p same ∙ passes)
  | inr m ↦ (later (rest m).0, (rest m).1)
]
filtered_more p y xs rest false passes m = (later (rest m).0, (rest m).1)

pub Member-filtered : {A : Type 0} (p : A → Bool) {x : A} (xs : List A) → Member x (filter p xs) → Member x xs × (p x ≡ true)
Member-filtered p [] m = elim m [ ]
Member-filtered p (y ∷ xs) m = filtered_more p y xs (Member-filtered p xs) (p y) refl m

-- the numbers of a range
pub Member-range : (from count n : ℕ) → from ≤ n → n < from + count → Member n (range_with_len from count)
Member-range from zero n low high = absurd (omega arith)
Member-range from (suc count) n low high = elim (cases_lt from n) [
  | inl above ↦ later (Member-range (from + 1) count n (omega arith) (omega arith))
  | inr here ↦ let same : from ≡ n = omega arith in subst (λ k. Member k (range_with_len from (suc count))) same first
]

pub Member-ranged : (from count : ℕ) {n : ℕ} → Member n (range_with_len from count) → (from ≤ n) × (n < from + count)
Member-ranged from zero m = elim m [ ]
Member-ranged from (suc count) m = elim (Member-cases m) [
  | inl same ↦ (omega arith, omega arith)
  | inr m ↦ let rest = Member-ranged (from + 1) count m in (omega (arith, rest.0), omega (arith, rest.1))
]

-- the values of a set
pub Member-members : (set value : ℕ) → value < 128 → Has set value → Member value (members set)
unfolding members
Member-members set value within has = Member-filter (λ v. eqb (bit_at set v) 1) (Member-range 0 128 value (omega arith) (omega arith)) (eq-eqb (bit_at set value) 1 has)

pub Has-member : (set : ℕ) {value : ℕ} → Member value (members set) → Has set value × (value < 128)
unfolding members
Has-member set m =
    let of_range = Member-filtered (λ v. eqb (bit_at set v) 1) (range_with_len 0 128) m in
    (eqb-true (bit_at set _) 1 of_range.1, (Member-ranged 0 128 of_range.0).1)
