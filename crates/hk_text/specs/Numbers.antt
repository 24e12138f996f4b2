-- Numbers in decimal.
use Rattle.std.specs.Prelude.{◌≡◌, ◌≢◌, List, [], ◌∷◌, ℕ, min}
use Rattle.std.specs.Str.Parse.{AllDigits, digits_value}

-- the text has a byte, and no `0` in front of another
abbrev pub IsPlain : List ℕ → Type 0
IsPlain [] = ⊥
IsPlain (byte ∷ []) = Unit {0}
IsPlain (first ∷ second ∷ more) = first ≢ 0x30

-- the text writes this number in decimal digits, with no needless zero
pub record IsNumber (text : List ℕ) (n : ℕ) : Type 0 where
  pub plain : IsPlain text
  pub digits : AllDigits 10 text
  pub value : digits_value 10 text ≡ n

-- the value is that of the number that the text writes, or `most` where that is less
pub record IsNumberUpTo (text : List ℕ) (most value : ℕ) : Type 0 where
  pub n : ℕ
  pub number : IsNumber text n
  pub value_is : value ≡ min n most
