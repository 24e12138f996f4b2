-- What the constraints of the library mean, of the values of their scope in order. No state is named here.
use Rattle.std.specs.Prelude.{◌≢◌, ◌≤◌, ℕ, ℤ, pos, ◌+◌, ◌+ℤ◌, ◌*ℤ◌, ◌^◌, bit_or, ◌≤ℤ◌, ◌==◌, if◌then◌else◌, List, [], ◌∷◌, length, take, drop, All, AllPairs}
use Rattle.std.specs.Int.{bit_at}

-- the number lies from the least to the most; where the least is above the most, no number does
abbrev pub LiesFrom : ℤ → ℤ → ℤ → Type 0
LiesFrom least most n = (least ≤ℤ n) × (n ≤ℤ most)

-- `alldifferent`: no two of the values are equal
abbrev pub AreDifferent : List ℕ → Type 0
AreDifferent values = AllPairs (λ x y. x ≢ y) values

-- the set of the values
abbrev pub set_of : List ℕ → ℕ
set_of [] = 0
set_of (value ∷ values) = bit_or (set_of values) (2 ^ value)

-- how many of the values are in the set: each that is adds 1, which is its bit there
abbrev pub count_in : ℕ → List ℕ → ℕ
count_in set [] = 0
count_in set (value ∷ values) = bit_at set value + count_in set values

-- `among`: how many of the values are in the set lies from the least to the most
abbrev pub AreAmong : ℕ → ℤ → ℤ → List ℕ → Type 0
AreAmong set least most values = LiesFrom least most (pos (count_in set values))

-- `sequence`: the same holds of each window, that is of so many consecutive values, wherever it begins; with fewer values
-- there is no window
abbrev pub EachWindow : ℕ → ℕ → ℤ → ℤ → List ℕ → Type 0
EachWindow window set least most values = (first : ℕ) → first + window ≤ length values → AreAmong set least most (take window (drop first values))

-- how often a value occurs
abbrev pub occurrences : ℕ → List ℕ → ℕ
occurrences value [] = 0
occurrences value (other ∷ others) = (if value == other then 1 else 0) + occurrences value others

-- `gcc`: for each row, a value with its bounds, how often the value occurs lies from the least to the most
abbrev pub EachOccurs : List (ℕ × ℤ × ℤ) → List ℕ → Type 0
EachOccurs rows values = All (λ row. LiesFrom row.1 row.2 (pos (occurrences row.0 values))) rows

-- the sum of coefficient times value
abbrev pub weighted_sum : List ℤ → List ℕ → ℤ
weighted_sum [] values = pos 0
weighted_sum (coef ∷ coefs) [] = pos 0
weighted_sum (coef ∷ coefs) (value ∷ values) = (coef *ℤ pos value) +ℤ weighted_sum coefs values

-- `sum`: the sum of coefficient times value lies from the least to the most
abbrev pub SumLies : List ℤ → ℤ → ℤ → List ℕ → Type 0
SumLies coefs least most values = LiesFrom least most (weighted_sum coefs values)
