use Rattle.std.proofs.Common.{sym, subst, ◌∙◌, arith, take, drop, ℕ, ◌∷◌}
use Rattle.std.specs.Char.{is_ascii_digit}
use Rattle.std.proofs.lemmas.List.Sums.{prefix_len-le-length}
use Rattle.hk_text.specs.declared.lexemes.TokenKind.TheVariants.{Word, Number}
use Rattle.hk_text.specs.Bytes.{is_word_byte}
use Rattle.hk_text.specs.Lexemes.{IsLongest}
use Rattle.hk_text.proofs.Lexing.{longest_word, longest_number}
use Rattle.hk_text.proofs.lexemes.lexeme_from.Goals as goal

pub returns-then-is_word_start-clause-some : goal.returns-then-is_word_start-clause-some
returns-then-is_word_start-clause-some c =
    subst (λ (n : ℕ). IsLongest Word (c.args.first ∷ take n c.args.more.now) (drop n c.args.more.now)) (sym c.word_length.ensures)
    (longest_word c.args.first c.args.more.now (sym c.is_word_start.ensures ∙ c.if-is_word_start.true))

pub returns-then-is_word_start-clause-inside : goal.returns-then-is_word_start-clause-inside
returns-then-is_word_start-clause-inside c = omega (arith, c.word_length.ensures, prefix_len-le-length is_word_byte c.args.more.now)

pub returns-then-is_ascii_digit-clause-some : goal.returns-then-is_ascii_digit-clause-some
returns-then-is_ascii_digit-clause-some c =
    subst (λ (n : ℕ). IsLongest Number (c.args.first ∷ take n c.args.more.now) (drop n c.args.more.now)) (sym c.digit_count.ensures)
    (longest_number c.args.first c.args.more.now (sym c.is_ascii_digit.ensures.value ∙ c.if-is_ascii_digit.true))

pub returns-then-is_ascii_digit-clause-inside : goal.returns-then-is_ascii_digit-clause-inside
returns-then-is_ascii_digit-clause-inside c = omega (arith, c.digit_count.ensures, prefix_len-le-length is_ascii_digit c.args.more.now)
