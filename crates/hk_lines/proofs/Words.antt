-- A word that was read, and texts that begin with none.
use Rattle.std.proofs.Common.{◌≡◌, ℕ, List, ◌∷◌}
use Rattle.hk_text.specs.Lexemes.{IsWord}
use Rattle.hk_lines.specs.inside.Pieces.{WordThen}
use Rattle.hk_lines.specs.inside.Capped.{BeginsWithout}

-- the texts begin with a word
pub word_said : {texts rest : List (List ℕ)} {word : List ℕ} → texts ≡ word ∷ rest → IsWord word → WordThen texts word rest
word_said parts word = record { parts = parts; is_word = word }

-- they begin with none
pub no_word : {texts : List (List ℕ)} → ((word : List ℕ) (rest : List (List ℕ)) → texts ≡ word ∷ rest → IsWord word → ⊥) → BeginsWithout WordThen texts
no_word none word rest begins = none word rest begins.parts begins.is_word
