-- Lists that are cut into rows: their length, a read, a push and a write of one row.
use Rattle.std.proofs.Common.{◌≡◌, ℕ, zero, suc, ◌+◌, ◌*◌, ◌<◌, ◌≤◌, List, [], ◌∷◌, ◌++◌, length, get_or, set, take, drop, arith, ap, refl, sym, ◌∙◌, append_assoc, length-drop}
use Rattle.std.proofs.lemmas.List.{drop-drop, take_at, drop_at, take_all, take-append-le, drop-append-le, nil_from_length, length-take-le}
use Rattle.std.proofs.Math.Seq.{take-add}
use Rattle.hk_kinds.specs.Joins.{state_join}
use Rattle.hk_kinds.specs.Parts.{part_at, with_part}
use Rattle.hk_kinds.specs.Rows.{Rows, rows_of}
use Rattle.hk_kinds.specs.declared.kinds.Kind.{Kind}
use Rattle.hk_kinds.specs.declared.properties.Prop.{Prop}

-- there are as many rows as were asked for
pub length-rows_of : {X : Type 0} → (count width : ℕ) (xs : List X) → length (rows_of count width xs) ≡ count
length-rows_of zero width xs = refl
length-rows_of (suc count) width xs = ap (λ n. suc n) (length-rows_of count width (drop width xs))

-- so many rows and one more
next_row : (count width : ℕ) → suc count * width ≡ width + count * width
next_row count width = omega arith

-- a row is the part that begins after the rows before it
pub row_at : {X : Type 0} → (count width : ℕ) (xs : List X) (i : ℕ) (d : List X) → i < count → get_or (rows_of count width xs) i d ≡ take width (drop (i * width) xs)
row_at zero width xs i d lt = absurd (omega arith)
row_at (suc count) width xs zero d lt =
    let e : 0 ≡ zero * width = omega arith in
    ap (λ n. take width (drop n xs)) e
row_at (suc count) width xs (suc i) d lt =
    let later : get_or (rows_of count width (drop width xs)) i d ≡ take width (drop (i * width) (drop width xs)) = row_at count width (drop width xs) i d (omega arith) in
    later ∙ (ap (take width) (drop-drop (i * width) width xs) ∙ ap (λ n. take width (drop n xs)) (sym (next_row i width)))

-- a row lies within the list
pub row_within : (count width i n : ℕ) → n ≡ count * width → i < count → i * width + width ≤ n
row_within count width i n is lt =
    let fits : suc i * width ≤ count * width = grind arith in
    omega (arith, next_row i width)

-- a row pushed to the list is the last of its rows
pub rows_push : {X : Type 0} → (count width : ℕ) (xs row : List X) → length xs ≡ count * width → length row ≡ width → rows_of (suc count) width (xs ++ row) ≡ rows_of count width xs ++ row ∷ []
rows_push zero width xs row long wide =
    let none : xs ≡ [] = nil_from_length xs (omega arith) in
    rw none (ap (λ r. r ∷ []) (take_all width row (omega arith)))
rows_push (suc count) width xs row long wide =
    let more : width ≤ length xs = omega (arith, next_row count width) in
    let rest : length (drop width xs) ≡ count * width = omega (arith, next_row count width, length-drop width xs) in
    let later : rows_of (suc count) width (drop width xs ++ row) ≡ rows_of count width (drop width xs) ++ row ∷ [] = rows_push count width (drop width xs) row rest wide in
    let first : take width (xs ++ row) ≡ take width xs = take-append-le width xs row more in
    let after : drop width (xs ++ row) ≡ drop width xs ++ row = drop-append-le width xs row more in
    rw (first, after, later)

-- a row written over the first one
write_first : (width n : ℕ) (row xs : List Prop) → n ≡ 0 → length row ≡ width → with_part n row xs ≡ row ++ drop width xs
write_first width n row xs none wide =
    let e : 0 + width ≡ width = omega arith in
    rw (none, wide) (ap (λ k. row ++ drop k xs) e)

-- a row written past the first one
write_later : (width n : ℕ) (row xs : List Prop) → with_part (width + n) row xs ≡ take width xs ++ with_part n row (drop width xs)
write_later width n row xs =
    let rest : drop (n + length row) (drop width xs) ≡ drop (width + n + length row) xs = drop-drop (n + length row) width xs ∙ ap (λ k. drop k xs) (omega arith) in
    rw (take-add width n xs, append_assoc, rest)

-- a row written into the list is another row there
pub rows_write : (count width : ℕ) (xs : List Prop) (i : ℕ) (row : List Prop) → length xs ≡ count * width → i < count → length row ≡ width → rows_of count width (with_part (i * width) row xs) ≡ set (rows_of count width xs) i row
rows_write zero width xs i row long lt wide = absurd (omega arith)
rows_write (suc count) width xs zero row long lt wide =
    let written : with_part (zero * width) row xs ≡ row ++ drop width xs = write_first width (zero * width) row xs (omega arith) wide in
    rw (written, take_at row (drop width xs) width wide, drop_at row (drop width xs) width wide)
rows_write (suc count) width xs (suc i) row long lt wide =
    let more : width ≤ length xs = omega (arith, next_row count width) in
    let rest : length (drop width xs) ≡ count * width = omega (arith, next_row count width, length-drop width xs) in
    let front : length (take width xs) ≡ width = length-take-le width xs more in
    let later : rows_of count width (with_part (i * width) row (drop width xs)) ≡ set (rows_of count width (drop width xs)) i row = rows_write count width (drop width xs) i row rest (omega arith) wide in
    let written : with_part (suc i * width) row xs ≡ take width xs ++ with_part (i * width) row (drop width xs) = ap (λ n. with_part n row xs) (next_row i width) ∙ write_later width (i * width) row xs in
    rw (written, take_at (take width xs) (with_part (i * width) row (drop width xs)) width front, drop_at (take width xs) (with_part (i * width) row (drop width xs)) width front, later)

-- so many properties, seen as states of a width
abbrev pub laid : ℕ → ℕ → List Prop → Rows
laid count width xs = record { width = width; rows = rows_of count width xs }

-- a place within the states is one within the count
laid_below : (count width i : ℕ) (xs : List Prop) (now : Rows) → laid count width xs ≡ now → i < length now.rows → i < count
laid_below count width i xs now seen lt =
    let long : length now.rows ≡ count = ap (λ (r : Rows). length r.rows) (sym seen) ∙ length-rows_of count width xs in
    omega arith

-- the count is the number of states
pub laid_length : (count width : ℕ) (xs : List Prop) (now : Rows) → laid count width xs ≡ now → count ≡ length now.rows
laid_length count width xs now seen = sym (length-rows_of count width xs) ∙ ap (λ (r : Rows). length r.rows) seen

-- a state lies within the properties
pub laid_within : (count width i n : ℕ) (xs : List Prop) (now : Rows) → laid count width xs ≡ now → length xs ≡ count * width → i < length now.rows → n ≡ length xs → i * width + width ≤ n
laid_within count width i n xs now seen long lt is = row_within count width i n (is ∙ long) (laid_below count width i xs now seen lt)

-- the part at a place is the state there
pub laid_at : (count width i : ℕ) (xs : List Prop) (now : Rows) → laid count width xs ≡ now → i < length now.rows → part_at (i * width) width xs ≡ get_or now.rows i []
laid_at count width i xs now seen lt = sym (row_at count width xs i [] (laid_below count width i xs now seen lt)) ∙ ap (λ (r : Rows). get_or r.rows i []) seen

-- as long as the width is each state
pub laid_wide : (count width i : ℕ) (xs : List Prop) (now : Rows) → laid count width xs ≡ now → length xs ≡ count * width → i < length now.rows → length (get_or now.rows i []) ≡ now.width
laid_wide count width i xs now seen long lt =
    let within : i * width + width ≤ length xs = laid_within count width i (length xs) xs now seen long lt refl in
    let part : length (part_at (i * width) width xs) ≡ width = length-take-le width (drop (i * width) xs) (omega (arith, length-drop (i * width) xs)) in
    ap length (sym (laid_at count width i xs now seen lt)) ∙ (part ∙ ap (λ (r : Rows). r.width) seen)

-- properties added at the end are a state more
pub laid_push : (count width : ℕ) (xs row : List Prop) (now : Rows) → laid count width xs ≡ now → length xs ≡ count * width → length row ≡ now.width → laid (count + 1) width (xs ++ row) ≡ record { width = now.width; rows = now.rows ++ row ∷ [] }
laid_push count width xs row now seen long wide =
    let wide' : length row ≡ width = wide ∙ ap (λ (r : Rows). r.width) (sym seen) in
    let e : count + 1 ≡ suc count = omega arith in
    let pushed : laid (count + 1) width (xs ++ row) ≡ record { width = width; rows = rows_of count width xs ++ row ∷ [] } = ap (λ rows. record { width = width; rows = rows }) (ap (λ n. rows_of n width (xs ++ row)) e ∙ rows_push count width xs row long wide') in
    pushed ∙ ap (λ (r : Rows). record { width = r.width; rows = r.rows ++ row ∷ [] }) seen

-- properties written over a state are another state in its place
pub laid_write : (count width i : ℕ) (xs row : List Prop) (now : Rows) → laid count width xs ≡ now → length xs ≡ count * width → i < length now.rows → length row ≡ now.width → laid count width (with_part (i * width) row xs) ≡ record { width = now.width; rows = set now.rows i row }
laid_write count width i xs row now seen long lt wide =
    let wide' : length row ≡ width = wide ∙ ap (λ (r : Rows). r.width) (sym seen) in
    let written : laid count width (with_part (i * width) row xs) ≡ record { width = width; rows = set (rows_of count width xs) i row } = ap (λ rows. record { width = width; rows = rows }) (rows_write count width xs i row long (laid_below count width i xs now seen lt) wide') in
    written ∙ ap (λ (r : Rows). record { width = r.width; rows = set r.rows i row }) seen

-- a join has as many properties as the first state
pub length-state_join : (kinds : List Kind) (mine theirs : List Prop) → length (state_join kinds mine theirs) ≡ length mine
length-state_join [] mine theirs = refl
length-state_join (kind ∷ kinds) [] theirs = refl
length-state_join (kind ∷ kinds) (p ∷ ps) [] = refl
length-state_join (kind ∷ kinds) (p ∷ ps) (q ∷ qs) = ap (λ n. suc n) (length-state_join kinds ps qs)
