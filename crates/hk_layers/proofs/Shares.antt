-- The rows that the places of steps lead to: each place to one that is there, and each row from some place.
use Rattle.std.proofs.Common.{◌≡◌, ℕ, suc, ◌+◌, ◌*◌, ◌/◌, ◌-◌, ◌<◌, ◌≤◌, leb, min, ⊎_elim, arith, ◌∙◌, div-mul-le_self, mul-le-mul_right}
use Rattle.std.proofs.lemmas.Bool.{cases_lt, cond-true, cond-false, le-leb, lt-leb}
use Rattle.std.proofs.lemmas.Nat.{div_below}
use Rattle.std.proofs.Math.Nat.{div-eq_of_lt-le, lt-div-mul-add}
use Rattle.hk_layers.specs.Layers.{row_for}
use Rattle.hk_layers.specs.Shares.{IsReached}

pub row_by_place : (width count place : ℕ) → count ≤ width → row_for width count place ≡ place
row_by_place width count place le = cond-true (leb count width) place (place * width / count) (le-leb count width le)

pub row_by_share : (width count place : ℕ) → width < count → row_for width count place ≡ place * width / count
row_by_share width count place lt = cond-false (leb count width) place (place * width / count) (lt-leb count width lt)

share_below : (width count place : ℕ) → 0 < width → place < count → place * width / count < width
share_below width count place some below = div_below (place * width) count width (omega arith) (omega (arith, mul-le-mul_right {m = suc place} {n = count} width below))

pub row_below : (width count place : ℕ) → 0 < width → place < count → row_for width count place < min count width
row_below width count place some below =
    ⊎_elim
    (λ lt. let share = share_below width count place some below in omega (arith, row_by_share width count place lt))
    (λ le. omega (arith, row_by_place width count place le))
    (cases_lt width count)

share_reached : (width count row : ℕ) → 0 < width → width < count → row < width → IsReached width count row
share_reached width count row some lt below =
    let least = row * count + (width - 1) in
    let place = least / width in
    let low : row * count ≤ place * width = omega (arith, lt-div-mul-add {a = least} {b = width} some) in
    let high : place * width < (row + 1) * count = omega (arith, div-mul-le_self least width) in
    let next : row + 1 ≤ width = omega arith in
    let within : least < count * width = omega (arith, mul-le-mul_right {m = row + 1} {n = width} count next) in
    let share : place * width / count ≡ row = div-eq_of_lt-le count low high in
    record { place = place; below = div_below least width count some within; leads = row_by_share width count place lt ∙ share }

pub row_reached : (width count row : ℕ) → 0 < width → row < min count width → IsReached width count row
row_reached width count row some below =
    ⊎_elim
    (λ lt. share_reached width count row some lt (omega arith))
    (λ le. record { place = row; below = omega arith; leads = row_by_place width count row le })
    (cases_lt width count)
