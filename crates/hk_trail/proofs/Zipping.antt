use Rattle.std.proofs.Common.{◌≡◌, ℕ, suc, List, [], ◌∷◌, length, refl, sym, ap, arith}
use Rattle.hk_trail.specs.Places.{Places, with_place, with_bits, with_word, on_highest}
use Rattle.hk_trail.specs.Pools.{zipped}

-- of three lists of one length
pub length_zipped : {N B W : Type 0} (nums : List N) (bits : List B) (words : List W) → length nums ≡ length bits → length nums ≡ length words → length (zipped nums bits words) ≡ length nums
length_zipped [] bits words first second = refl
length_zipped (n ∷ nums) [] words first second = sym first
length_zipped (n ∷ nums) (b ∷ bits) [] first second = sym second
length_zipped (n ∷ nums) (b ∷ bits) (w ∷ words) first second = ap suc (length_zipped nums bits words (omega (arith, first)) (omega (arith, second)))

-- a change of the first of the second lists
pub zipped_bits : (place : ℕ) (nums bits words : List (List ℕ)) → zipped nums (on_highest (with_place place) bits) words ≡ on_highest (with_bits place) (zipped nums bits words)
zipped_bits place [] bits words = refl
zipped_bits place (n ∷ nums) [] words = refl
zipped_bits place (n ∷ nums) (b ∷ bits) [] = refl
zipped_bits place (n ∷ nums) (b ∷ bits) (w ∷ words) = refl

-- a change of the first of the third lists
pub zipped_words : (place : ℕ) (nums bits words : List (List ℕ)) → zipped nums bits (on_highest (with_place place) words) ≡ on_highest (with_word place) (zipped nums bits words)
zipped_words place [] bits words = refl
zipped_words place (n ∷ nums) [] words = refl
zipped_words place (n ∷ nums) (b ∷ bits) [] = refl
zipped_words place (n ∷ nums) (b ∷ bits) (w ∷ words) = refl

-- a list with its first element changed is as long
pub length-on_highest : {A : Type 0} (change : A → A) (levels : List A) → length (on_highest change levels) ≡ length levels
length-on_highest change [] = refl
length-on_highest change (highest ∷ below) = refl

-- what leaves three lists as they are leaves the one that it changes
pub bits_noted : (place : ℕ) (nums bits words : List (List ℕ)) → length nums ≡ length bits → length nums ≡ length words → zipped nums bits words ≡ on_highest (with_bits place) (zipped nums bits words) → bits ≡ on_highest (with_place place) bits
bits_noted place nums [] words first second same = refl
bits_noted place [] (b ∷ bits) words first second same = cc
bits_noted place (n ∷ nums) (b ∷ bits) [] first second same = cc
bits_noted place (n ∷ nums) (b ∷ bits) (w ∷ words) first second same =
    let highest : record { nums = n; bits = b; words = w } ≡ with_bits place (record { nums = n; bits = b; words = w }) = cc in
    ap (λ (places : Places). places.bits ∷ bits) highest

pub words_noted : (place : ℕ) (nums bits words : List (List ℕ)) → length nums ≡ length bits → length nums ≡ length words → zipped nums bits words ≡ on_highest (with_word place) (zipped nums bits words) → words ≡ on_highest (with_place place) words
words_noted place nums bits [] first second same = refl
words_noted place [] bits (w ∷ words) first second same = cc
words_noted place (n ∷ nums) [] (w ∷ words) first second same = cc
words_noted place (n ∷ nums) (b ∷ bits) (w ∷ words) first second same =
    let highest : record { nums = n; bits = b; words = w } ≡ with_word place (record { nums = n; bits = b; words = w }) = cc in
    ap (λ (places : Places). places.words ∷ words) highest
