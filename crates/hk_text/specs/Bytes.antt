-- What a byte can be in a line.
use Rattle.std.specs.Prelude.{ℕ, Bool, ◌==◌, ◌&&◌, ◌||◌, codes}
use Rattle.std.specs.Char.{is_ascii_alphabetic, is_ascii_digit}
use Rattle.std.specs.List.{list_any}

-- a space, a tab or a carriage return: it separates tokens and has no other meaning
abbrev pub is_blank : ℕ → Bool
is_blank byte = list_any (λ blank. byte == blank) (codes " \t\r")

-- `#`, which begins a comment
abbrev pub hash : ℕ
hash = 0x23

-- a letter or `_`
abbrev pub is_word_start : ℕ → Bool
is_word_start byte = is_ascii_alphabetic byte || byte == 0x5f

-- a letter, `_` or a digit
abbrev pub is_word_byte : ℕ → Bool
is_word_byte byte = is_word_start byte || is_ascii_digit byte

-- a symbol of one byte
abbrev pub is_symbol_byte : ℕ → Bool
is_symbol_byte byte = list_any (λ symbol. byte == symbol) (codes ".<>{}()[],:+-*|&\\")

-- the symbols of two bytes: `..`, and `=` after `<`, `>` or `=`
abbrev pub is_symbol_pair : ℕ → ℕ → Bool
is_symbol_pair first second = (first == 0x2e && second == 0x2e) || (list_any (λ symbol. first == symbol) (codes "<>=") && second == 0x3d)
