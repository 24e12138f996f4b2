-- The inputs of a host in memory: the bytes at a place, and what is told of a name.
use Rattle.std.proofs.Common.{◌≡◌, ◌∙◌, sym, refl, ap, subst, ℕ, zero, suc, ◌+◌, ◌<◌, ◌≤◌, true, List, [], ◌∷◌, ◌++◌, length, get_or, take, drop, reverse, arith, length-append}
use Rattle.std.proofs.lemmas.List.{take_more, reverse-append}
use Rattle.std.specs.Prelude.{Option, Some, None, bytes_eq}
use Rattle.hk_base.specs.declared.inputs.Input.{Input}
use Rattle.hk_base.specs.declared.inputs.Reading.{Reading}
use Rattle.hk_base.specs.Inputs.{told_of, bytes_at, left_of, IsWithin}

-- the bytes at the place of an input are its own
pub bytes_at-get_or : (inputs : List Input) (place : ℕ) (input : Input) → place < length inputs → bytes_at inputs place ≡ (get_or inputs place input).bytes
bytes_at-get_or [] place input within = absurd (omega arith)
bytes_at-get_or (first ∷ more) zero input within = refl
bytes_at-get_or (first ∷ more) (suc place) input within = bytes_at-get_or more place input (omega arith)

told_of-first : (input : Input) (older : List Input) (name : List ℕ) → bytes_eq input.name name ≡ true → told_of (input ∷ older) name ≡ Some input.bytes
told_of-first input older name equal = rw equal refl

-- where the last of the inputs has the name, its bytes are told of it
pub told_of-last : (inputs : List Input) (count place : ℕ) (name : List ℕ) (input : Input) → count ≡ place + 1 → place < length inputs → bytes_eq (get_or inputs place input).name name ≡ true → told_of (reverse (take count inputs)) name ≡ Some (bytes_at inputs place)
told_of-last inputs count place name input more within equal =
    ap (λ (k : ℕ). told_of (reverse (take k inputs)) name) more
    ∙ ap (λ (xs : List Input). told_of (reverse xs) name) (take_more inputs place input within)
    ∙ ap (λ (xs : List Input). told_of xs name) (reverse-append (take place inputs) (get_or inputs place input ∷ []))
    ∙ told_of-first (get_or inputs place input) (reverse (take place inputs)) name equal
    ∙ ap Some (sym (bytes_at-get_or inputs place input within))

bytes_at-append : (inputs more : List Input) (place : ℕ) → place < length inputs → bytes_at (inputs ++ more) place ≡ bytes_at inputs place
bytes_at-append [] more place within = absurd (omega arith)
bytes_at-append (first ∷ inputs) more zero within = refl
bytes_at-append (first ∷ inputs) more (suc place) within = bytes_at-append inputs more place (omega arith)

-- what is read goes on as before when an input is added behind the others
pub left_of-append : (inputs more : List Input) (reading : Option Reading) → IsWithin inputs reading → left_of (inputs ++ more) reading ≡ left_of inputs reading
left_of-append inputs more None within = refl
left_of-append inputs more (Some reading) within = ap (λ (bytes : List ℕ). Some (drop reading.at bytes)) (bytes_at-append inputs more reading.input within.0)

pub IsWithin-append : (inputs more : List Input) (reading : Option Reading) → IsWithin inputs reading → IsWithin (inputs ++ more) reading
IsWithin-append inputs more None within = tt
IsWithin-append inputs more (Some reading) within =
    let place_within = within.0 in
    let P : List ℕ → Type 0 = λ bytes. reading.at ≤ length bytes in
    (omega (arith, length-append inputs more), subst P (sym (bytes_at-append inputs more reading.input within.0)) within.1)
