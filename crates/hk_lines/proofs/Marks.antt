-- The mark of a sign is no number.
use Rattle.std.proofs.Common.{ℕ, refl}
use Rattle.std.specs.Prelude.{codes}
use Rattle.hk_text.specs.Numbers.{IsNumber}
use Rattle.hk_text.proofs.TokenTexts.{mark_no_number}

-- `-` writes no number
pub minus_no_number : {n : ℕ} → IsNumber (codes "-") n → ⊥
minus_no_number number = mark_no_number refl refl number
