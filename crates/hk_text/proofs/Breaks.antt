-- The first line of a text.
use Rattle.std.proofs.Common.{◌≡◌, ℕ, suc, ◌+◌, ◌<◌, ◌==◌, Bool, true, false, not, cond, List, [], ◌∷◌, ◌++◌, length, take, drop, refl, sym, ap, ◌∙◌, arith, take-append-drop}
use Rattle.std.specs.List.{prefix_len}
use Rattle.std.proofs.lemmas.List.{append-nil, nil_from_length}
use Rattle.hk_text.specs.Lines.{lines, with_first}

-- the byte ends no line
abbrev stays : ℕ → Bool
stays byte = not (byte == 10)

-- where a line end comes, the first line is what stands before it
ended : (bytes : List ℕ) (next : ℕ) (rest : List ℕ) → drop (prefix_len stays bytes) bytes ≡ next ∷ rest → lines bytes ≡ take (prefix_len stays bytes) bytes ∷ lines rest
ended [] next rest is = cc
ended (b ∷ bytes) next rest is = by (b == 10) (ended bytes next rest) is
  where
    by : (end : Bool) → (drop (prefix_len stays bytes) bytes ≡ next ∷ rest → lines bytes ≡ take (prefix_len stays bytes) bytes ∷ lines rest) → drop (cond (not end) (1 + prefix_len stays bytes) 0) (b ∷ bytes) ≡ next ∷ rest → cond end ([] ∷ lines bytes) (with_first b (lines bytes)) ≡ take (cond (not end) (1 + prefix_len stays bytes) 0) (b ∷ bytes) ∷ lines rest
    by true later is = let same : bytes ≡ rest = cc in ap (λ xs. [] ∷ lines xs) same
    by false later is =
        let on : 1 + prefix_len stays bytes ≡ suc (prefix_len stays bytes) = omega arith in
        ap (with_first b) (later (ap (λ n. drop n (b ∷ bytes)) (sym on) ∙ is)) ∙ ap (λ n. take n (b ∷ bytes) ∷ lines rest) (sym on)

-- where none comes, the bytes are one line
unended : (b : ℕ) (bytes : List ℕ) → drop (prefix_len stays (b ∷ bytes)) (b ∷ bytes) ≡ [] → lines (b ∷ bytes) ≡ (b ∷ bytes) ∷ []
unended b [] is = by (b == 10) is
  where
    by : (end : Bool) → drop (cond (not end) (1 + 0) 0) (b ∷ []) ≡ [] → cond end ([] ∷ []) ((b ∷ []) ∷ []) ≡ (b ∷ []) ∷ []
    by true is = cc
    by false is = refl
unended b (c ∷ bytes) is = by (b == 10) (unended c bytes) is
  where
    by : (end : Bool) → (drop (prefix_len stays (c ∷ bytes)) (c ∷ bytes) ≡ [] → lines (c ∷ bytes) ≡ (c ∷ bytes) ∷ []) → drop (cond (not end) (1 + prefix_len stays (c ∷ bytes)) 0) (b ∷ c ∷ bytes) ≡ [] → cond end ([] ∷ lines (c ∷ bytes)) (with_first b (lines (c ∷ bytes))) ≡ (b ∷ c ∷ bytes) ∷ []
    by true later is = cc
    by false later is =
        let on : 1 + prefix_len stays (c ∷ bytes) ≡ suc (prefix_len stays (c ∷ bytes)) = omega arith in
        ap (with_first b) (later (ap (λ n. drop n (b ∷ c ∷ bytes)) (sym on) ∙ is))

-- the first line and what follows its line end
pub lines-ended : (size : ℕ) (bytes line : List ℕ) (next : ℕ) (rest : List ℕ) → size ≡ prefix_len stays bytes → line ≡ take size bytes → drop size bytes ≡ next ∷ rest → lines bytes ≡ line ∷ lines rest
lines-ended size bytes line next rest counted is left =
    ended bytes next rest (ap (λ n. drop n bytes) (sym counted) ∙ left) ∙ ap (λ xs. xs ∷ lines rest) (ap (λ n. take n bytes) (sym counted) ∙ sym is)

-- the only line, with no line end
pub lines-unended : (size : ℕ) (bytes line rest : List ℕ) → 0 < length bytes → size ≡ prefix_len stays bytes → line ≡ take size bytes → drop size bytes ≡ rest → length rest ≡ 0 → lines bytes ≡ line ∷ lines rest
lines-unended size [] line rest some counted is left none = absurd (omega arith)
lines-unended size (b ∷ bytes) line rest some counted is left none =
    let nil : rest ≡ [] = nil_from_length rest none in
    let whole : b ∷ bytes ≡ line =
    sym (take-append-drop size (b ∷ bytes)) ∙ ap (λ xs. take size (b ∷ bytes) ++ xs) (left ∙ nil) ∙ append-nil (take size (b ∷ bytes)) ∙ sym is in
    unended b bytes (ap (λ n. drop n (b ∷ bytes)) (sym counted) ∙ left ∙ nil) ∙ ap (λ xs. xs ∷ []) whole ∙ ap (λ xs. line ∷ lines xs) (sym nil)
