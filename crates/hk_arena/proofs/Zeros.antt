-- Cells that all hold zero: they are kept, and no layer has a row.
use Rattle.std.proofs.Common.{◌≡◌, ℕ, pos, ◌<◌, List, [], ◌∷◌, get_or, map, replicate, refl, sym, ◌∙◌, ap, subst, inl, inr, arith, All}
use Rattle.std.proofs.lemmas.Bool.{cases_lt}
use Rattle.std.proofs.lemmas.List.{get_or-replicate, get_or_past, length-replicate}
use Rattle.std.proofs.lemmas.List.Elements.{All-map, All-nil, All-replicate, All-tail, All-weaker}
use Rattle.hk_kinds.specs.Limits.{IsWithinLimit}
use Rattle.hk_kinds.specs.Sets.{IsSet}
use Rattle.hk_table.specs.Tables.{PlainRow}
use Rattle.hk_table.specs.declared.entries.Entry.TheVariants.{Gone}
use Rattle.hk_trail.specs.Levels.{Levels}
use Rattle.hk_trail.specs.Places.{cell_count}
use Rattle.hk_arena.proofs.Listing.{get_or-listed, get_or-listed_past, length-listed}
use Rattle.hk_arena.proofs.Parts.{All-part}
use Rattle.hk_arena.proofs.Properties.{zero_limit}
use Rattle.hk_arena.specs.Diagrams.{rows_of}
use Rattle.hk_arena.specs.Cells.{cells_of, entries_of, entry_of, listed, row_at, row_count, table_of}
use Rattle.hk_arena.specs.inside.Zeros.{zeros}
use Rattle.hk_arena.specs.Forms.{Form, layer_count, row_words, words_at, num_count, bits_count, word_count}
use Rattle.hk_arena.specs.Kept.{IsKept}
use Rattle.hk_arena.specs.Levels.{AreKept, diagram_of}
use Rattle.hk_arena.specs.inside.Openings.{IsOpening}

read_zeros : (count at : ℕ) → get_or {A = ℕ} (replicate count 0) at 0 ≡ 0
read_zeros count at =
    let none : ℕ = 0 in
    elim (cases_lt at count) [
      | inl within ↦ get_or-replicate count at none none within
      | inr past ↦ get_or_past (replicate count none) at none (omega (arith, length-replicate count none))
    ]

-- the entries of a row whose words are zeros are Gone
all_gone : (words : List ℕ) → All (λ word. word ≡ 0) words → All (λ entry. entry ≡ Gone) (entries_of words)
unfolding entry_of
all_gone [] all = All-nil (λ entry. entry ≡ Gone)
all_gone (word ∷ words) all =
    All-map (λ entry. entry ≡ Gone) entry_of words
    (All-weaker (λ w. w ≡ 0) (λ w. entry_of w ≡ Gone) (λ w is. ap entry_of is) words (All-tail (λ w. w ≡ 0) word words all))

pub IsKept-zeros : (form : Form) → IsKept form (zeros form)
IsKept-zeros form = record {
  nums = length-replicate (num_count form) (pos 0);
  bits = length-replicate (bits_count form) 0;
  words = length-replicate (word_count form) 0;
  limits = All-replicate IsWithinLimit (num_count form) (pos 0) zero_limit;
  sets = All-replicate IsSet (bits_count form) 0 (omega arith);
  counts = λ layer below. omega (arith, read_zeros (word_count form) layer);
  empty = λ layer at below past within.
      all_gone (cells_of form (zeros form) layer at).words
      (All-part (λ word. word ≡ 0) (words_at form layer at) (row_words form layer) (zeros form).words (All-replicate (λ word. word ≡ 0) (word_count form) 0 refl));
}

-- a diagram in such cells waits for the rows of the opening table
no_rows : (form : Form) (layer : ℕ) → rows_of (table_of form (zeros form)) layer ≡ []
unfolding table_of
no_rows form layer =
    let rows : ℕ → List PlainRow = λ l. listed (row_count (zeros form) l) (row_at form (zeros form) l) in
    elim (cases_lt layer (layer_count form)) [
      | inl within ↦ get_or-listed (layer_count form) rows layer [] within ∙ ap (λ count. listed count (row_at form (zeros form) layer)) (read_zeros (word_count form) layer)
      | inr past ↦ get_or-listed_past (layer_count form) rows layer [] past
    ]

pub AreKept-none : (form : Form) (store : Levels) → store.content ≡ zeros form → store.stack ≡ [] → IsKept form store.content × AreKept form store.stack
AreKept-none form store content stack = (subst (IsKept form) (sym content) (IsKept-zeros form), subst (AreKept form) (sym stack) tt)

pub opening_zeros : (form : Form) (store : Levels) → 0 < form.width → store.content ≡ zeros form → store.written ≡ [] → IsOpening 0 (diagram_of form store)
unfolding table_of
opening_zeros form store some content written = record {
  some_width = some;
  closed = ap (map cell_count) written;
  layers = length-listed (layer_count form) (λ l. listed (row_count store.content l) (row_at form store.content l));
  opened = λ l below. absurd (omega arith);
  empty = λ l above. ap (λ c. rows_of (table_of form c) l) content ∙ no_rows form l;
}
