-- What stands in lists that are put together, filtered, mapped and counted, and at which place.
use Rattle.std.proofs.Common.{◌≡◌, ℕ, zero, suc, ◌+◌, ◌<◌, ◌≤◌, ◌⊎◌, inl, inr, ⊎_elim, Bool, true, false, cond, ◌||◌, List, [], ◌∷◌, ◌++◌, length, map, filter, slice_get, get_or, All, Some, arith, refl, sym, ap, ◌∙◌, subst}
use Rattle.std.specs.List.{list_any, range_with_len}
use Rattle.std.specs.List.Sorted.{IsStrictlyIncreasing}
use Rattle.std.proofs.lemmas.Bool.{cases_lt, or_right}
use Rattle.std.proofs.lemmas.List.FromFn.{length-range_with_len, get_or-range_with_len}
use Rattle.hk_table.specs.Members.{Member, first, later}

-- ---- members

pub head_or : {A : Type 0} (x y : A) (ys : List A) → Member x (y ∷ ys) → (x ≡ y) ⊎ Member x ys
head_or x y ys first = inl refl
head_or x y ys (later m) = inr m

pub append_left : {A : Type 0} (x : A) (xs ys : List A) → Member x xs → Member x (xs ++ ys)
append_left x _ ys first = first
append_left x _ ys (later {xs = xs} m) = later (append_left x xs ys m)

pub append_right : {A : Type 0} (x : A) (xs ys : List A) → Member x ys → Member x (xs ++ ys)
append_right x [] ys m = m
append_right x (y ∷ xs) ys m = later (append_right x xs ys m)

later_or : {A B : Type 0} {x y : A} {xs : List A} → Member x xs ⊎ B → Member x (y ∷ xs) ⊎ B
later_or (inl m) = inl (later m)
later_or (inr b) = inr b

pub append_or : {A : Type 0} (x : A) (xs ys : List A) → Member x (xs ++ ys) → Member x xs ⊎ Member x ys
append_or x [] ys m = inr m
append_or x (y ∷ xs) ys first = inl first
append_or x (y ∷ xs) ys (later m) = later_or (append_or x xs ys m)

-- ---- places

-- an item and that it stands at this place
pub record IsAt {A : Type 0} (xs : List A) (place : ℕ) : Type 0 where
  pub item : A
  pub is : slice_get xs place ≡ Some item

-- a place where the item stands
pub record HasPlace {A : Type 0} (xs : List A) (x : A) : Type 0 where
  pub place : ℕ
  pub is : slice_get xs place ≡ Some x

pub get_member : {A : Type 0} (xs : List A) (k : ℕ) (x : A) → slice_get xs k ≡ Some x → Member x xs
get_member [] k x at = cc
get_member (y ∷ ys) zero x at = let same : x ≡ y = cc in subst (λ z. Member x (z ∷ ys)) same first
get_member (y ∷ ys) (suc k) x at = later (get_member ys k x at)

pub get_within : {A : Type 0} (xs : List A) (k : ℕ) (x : A) → slice_get xs k ≡ Some x → k < length xs
get_within [] k x at = cc
get_within (y ∷ ys) zero x at = omega arith
get_within (y ∷ ys) (suc k) x at = let below = get_within ys k x at in omega arith

pub get_at : {A : Type 0} (xs : List A) (k : ℕ) → k < length xs → IsAt xs k
get_at [] k within = absurd (omega arith)
get_at (x ∷ xs) zero within = record { item = x; is = refl }
get_at (x ∷ xs) (suc k) within = let on = get_at xs k (omega arith) in record { item = on.item; is = on.is }

pub place_of_member : {A : Type 0} (x : A) (xs : List A) → Member x xs → HasPlace xs x
place_of_member x _ first = record { place = 0; is = refl }
place_of_member x _ (later {xs = xs} m) = let on = place_of_member x xs m in record { place = suc on.place; is = on.is }

-- one place has one item
pub one_item : {A : Type 0} (xs : List A) (k : ℕ) (x y : A) → slice_get xs k ≡ Some x → slice_get xs k ≡ Some y → x ≡ y
one_item xs k x y at also = let same : Some x ≡ Some y = sym at ∙ also in cc

pub get_map : {A B : Type 0} (f : A → B) (xs : List A) (k : ℕ) (x : A) → slice_get xs k ≡ Some x → slice_get (map f xs) k ≡ Some (f x)
get_map f [] k x at = cc
get_map f (y ∷ ys) zero x at = let same : y ≡ x = cc in ap (λ z. Some (f z)) same
get_map f (y ∷ ys) (suc k) x at = get_map f ys k x at

pub only_one : {A : Type 0} (xs : List A) (x : A) → length xs ≡ 1 → slice_get xs 0 ≡ Some x → xs ≡ x ∷ []
only_one [] x long at = cc
only_one (y ∷ []) x long at = let same : y ≡ x = cc in ap (λ z. z ∷ []) same
only_one (y ∷ (z ∷ zs)) x long at = absurd (omega arith)

-- ---- what holds of all

pub member_at : {A : Type 0} (xs : List A) (k : ℕ) (d : A) → k < length xs → Member (get_or xs k d) xs
member_at [] k d within = absurd (omega arith)
member_at (x ∷ xs) zero d within = first
member_at (x ∷ xs) (suc k) d within = later (member_at xs k d (omega arith))

pub all_from_members : {A : Type 0} (P : A → Type 0) (xs : List A) → ((x : A) → Member x xs → P x) → All P xs
all_from_members P xs h k d within = h (get_or xs k d) (member_at xs k d within)

pub all_member : {A : Type 0} (P : A → Type 0) (x : A) (xs : List A) → All P xs → Member x xs → P x
all_member P x _ h (first {xs = xs}) = h 0 x (omega arith)
all_member P x _ h (later {xs = xs} m) = all_member P x xs (λ k d within. h (suc k) d (omega arith)) m

-- ---- lists that are mapped

-- what a member of a mapped list is made of
pub record IsMade {A B : Type 0} (f : A → B) (xs : List A) (y : B) : Type 0 where
  pub item : A
  pub stands : Member item xs
  pub is : y ≡ f item

pub map_has : {A B : Type 0} (f : A → B) (x : A) (xs : List A) → Member x xs → Member (f x) (map f xs)
map_has f x _ first = first
map_has f x _ (later {xs = xs} m) = later (map_has f x xs m)

made_later : {A B : Type 0} (f : A → B) (x : A) (xs : List A) (y : B) → IsMade f xs y → IsMade f (x ∷ xs) y
made_later f x xs y made = record { item = made.item; stands = later made.stands; is = made.is }

pub map_from : {A B : Type 0} (f : A → B) (xs : List A) (y : B) → Member y (map f xs) → IsMade f xs y
map_from f [] y m = elim m [ ]
map_from f (x ∷ xs) y m = ⊎_elim (λ same. record { item = x; stands = first; is = same }) (λ more. made_later f x xs y (map_from f xs y more)) (head_or y (f x) (map f xs) m)

pub all_made : {A B : Type 0} (P : B → Type 0) (f : A → B) (xs : List A) → ((x : A) → Member x xs → P (f x)) → All P (map f xs)
all_made P f xs h = all_from_members P (map f xs) (λ y m. let made = map_from f xs y m in subst P (sym made.is) (h made.item made.stands))

-- ---- lists that are filtered

-- the item stands in the list and passes the test
pub record Passes {A : Type 0} (test : A → Bool) (xs : List A) (x : A) : Type 0 where
  pub stands : Member x xs
  pub passes : test x ≡ true

kept_behind : {A : Type 0} (b : Bool) (x y : A) (ys : List A) → Member x ys → Member x (cond b (y ∷ ys) ys)
kept_behind true x y ys m = later m
kept_behind false x y ys m = m

pub filter_has : {A : Type 0} (test : A → Bool) (x : A) (xs : List A) → Member x xs → test x ≡ true → Member x (filter test xs)
filter_has test x _ (first {xs = xs}) h = subst (λ b. Member x (cond b (x ∷ filter test xs) (filter test xs))) (sym h) first
filter_has test x _ (later {y = y} {xs = xs} m) h = kept_behind (test y) x y (filter test xs) (filter_has test x xs m h)

passes_later : {A : Type 0} (test : A → Bool) (x y : A) (ys : List A) → Passes test ys x → Passes test (y ∷ ys) x
passes_later test x y ys h = record { stands = later h.stands; passes = h.passes }

kept_by : {A : Type 0} (test : A → Bool) (x y : A) (ys : List A) (b : Bool) → test y ≡ b → Member x (cond b (y ∷ filter test ys) (filter test ys)) → (Member x (filter test ys) → Passes test ys x) → Passes test (y ∷ ys) x
kept_by test x y ys true h m more = ⊎_elim (λ same. record { stands = subst (λ z. Member x (z ∷ ys)) same first; passes = ap test same ∙ h }) (λ n. passes_later test x y ys (more n)) (head_or x y (filter test ys) m)
kept_by test x y ys false h m more = passes_later test x y ys (more m)

pub filter_from : {A : Type 0} (test : A → Bool) (x : A) (xs : List A) → Member x (filter test xs) → Passes test xs x
filter_from test x [] m = elim m [ ]
filter_from test x (y ∷ ys) m = kept_by test x y ys (test y) refl m (λ n. filter_from test x ys n)

-- an item of the list that passes the test
pub record HasPassing {A : Type 0} (test : A → Bool) (xs : List A) : Type 0 where
  pub item : A
  pub stands : Member item xs
  pub passes : test item ≡ true

pub any_has : {A : Type 0} (test : A → Bool) (x : A) (xs : List A) → Member x xs → test x ≡ true → list_any test xs ≡ true
any_has test x _ (first {xs = xs}) h = ap (λ b. b || list_any test xs) h
any_has test x _ (later {y = y} {xs = xs} m) h = or_right (test y) (list_any test xs) (any_has test x xs m h)

passing_later : {A : Type 0} (test : A → Bool) (y : A) (ys : List A) → HasPassing test ys → HasPassing test (y ∷ ys)
passing_later test y ys h = record { item = h.item; stands = later h.stands; passes = h.passes }

any_by : {A : Type 0} (test : A → Bool) (y : A) (ys : List A) (b : Bool) → test y ≡ b → (b || list_any test ys) ≡ true → (list_any test ys ≡ true → HasPassing test ys) → HasPassing test (y ∷ ys)
any_by test y ys true h any more = record { item = y; stands = first; passes = h }
any_by test y ys false h any more = passing_later test y ys (more any)

pub any_from : {A : Type 0} (test : A → Bool) (xs : List A) → list_any test xs ≡ true → HasPassing test xs
any_from test [] any = cc
any_from test (y ∷ ys) any = any_by test y ys (test y) refl any (λ h. any_from test ys h)

-- ---- numbers in order

pub range_has : (low n x : ℕ) → low ≤ x → x < low + n → Member x (range_with_len low n)
range_has low zero x above below = absurd (omega arith)
range_has low (suc n) x above below =
    ⊎_elim
    (λ lt. later (range_has (low + 1) n x (omega arith) (omega arith)))
    (λ ge. let same : x ≡ low = omega arith in subst (λ z. Member x (z ∷ range_with_len (low + 1) n)) same first)
    (cases_lt low x)

pub range_within : (low n x : ℕ) → Member x (range_with_len low n) → (low ≤ x) × (x < low + n)
range_within low zero x m = elim m [ ]
range_within low (suc n) x m =
    ⊎_elim
    (λ same. (omega arith, omega arith))
    (λ more. let within = range_within (low + 1) n x more in (omega (arith, within.0), omega (arith, within.1)))
    (head_or x low (range_with_len (low + 1) n) m)

pub range_get : (low n k : ℕ) → k < n → slice_get (range_with_len low n) k ≡ Some (low + k)
range_get low zero k within = absurd (omega arith)
range_get low (suc n) zero within = let same : low ≡ low + 0 = omega arith in ap (λ m. Some m) same
range_get low (suc n) (suc k) within = let same : low + 1 + k ≡ low + suc k = omega arith in range_get (low + 1) n k (omega arith) ∙ ap (λ m. Some m) same

pub range_increases : (low n : ℕ) → IsStrictlyIncreasing (range_with_len low n)
range_increases low n k within =
    let long = length-range_with_len low n in
    omega (arith, get_or-range_with_len low n k 0 (omega arith), get_or-range_with_len low n (k + 1) 0 (omega arith))
