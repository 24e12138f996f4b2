-- The names that a specification may have and give.
use Rattle.std.specs.Prelude.{ℕ, Bool, true, false, not, ◌&&◌, ◌||◌, ◌==◌, nat_le, List, [], ◌∷◌, length, codes, bytes_eq}
use Rattle.std.specs.List.{list_all, list_any}

-- a letter or `_`
abbrev pub starts_word : ℕ → Bool
starts_word byte = (nat_le 65 byte && nat_le byte 90) || (nat_le 97 byte && nat_le byte 122) || byte == 95

-- a letter, `_` or a digit
abbrev pub goes_on_word : ℕ → Bool
goes_on_word byte = starts_word byte || (nat_le 48 byte && nat_le byte 57)

-- a letter or `_`, and then letters, digits and `_`
abbrev pub is_word : List ℕ → Bool
is_word [] = false
is_word (first ∷ more) = starts_word first && list_all goes_on_word more

-- the words with a meaning of their own in expressions
abbrev pub reserved_words : List (List ℕ)
reserved_words =
    codes "v" ∷ codes "i" ∷ codes "n" ∷ codes "best" ∷ codes "card" ∷ codes "min" ∷ codes "max" ∷ codes "lo" ∷ codes "hi" ∷ codes "in" ∷ codes "notin" ∷ codes "sub" ∷ codes "and" ∷ codes "or" ∷ codes "not" ∷ codes "true" ∷ codes "false" ∷ []

-- a name is a word of at most 32 bytes
abbrev pub is_name : List ℕ → Bool
is_name name = is_word name && nat_le (length name) 32

-- the name of a parameter or a property is no reserved word
abbrev pub is_free_name : List ℕ → Bool
is_free_name name = is_name name && not (list_any (bytes_eq name) reserved_words)

-- no name stands twice
abbrev pub are_distinct : List (List ℕ) → Bool
are_distinct [] = true
are_distinct (name ∷ names) = not (list_any (bytes_eq name) names) && are_distinct names
