-- The windows of a list of values, one after the other: what comes in, and what leaves.
use Rattle.std.proofs.Common.{◌≡◌, ℕ, zero, suc, ◌+◌, ◌-◌, ◌<◌, ◌≤◌, ◌↔◌, ℤ, pos, List, [], ◌∷◌, length, slice_index, take, drop, arith, sym, ap, ◌∙◌, subst, ◌⊎◌, inl, inr}
use Rattle.std.specs.Int.{bit_at}
use Rattle.std.proofs.Math.Seq.{drop-nil}
use Rattle.std.proofs.lemmas.List.{drop-map, take-map, length-drop, length-take}
use Rattle.hk_spec.specs.Meanings.{LiesFrom, AreAmong, EachWindow, count_in}
use Rattle.hk_group.specs.Solutions.{scope_values}
use Rattle.hk_group.proofs.Counts.{count_in-most}

-- nothing comes after an empty list
nothing_comes : (n y : ℕ) (ys : List ℕ) → drop n [] ≡ y ∷ ys → ⊥
nothing_comes n y ys is = let none : ◌≡◌ {A = List ℕ} (drop n []) [] = drop-nil n in cc

-- what comes in later, as the window moves by one
coming_more : (others x y : ℕ) (xs ys : List ℕ) → drop others (x ∷ xs) ≡ y ∷ ys → drop others xs ≡ ys
coming_more zero x y xs ys is = cc
coming_more (suc n) x y [] ys is = absurd (nothing_comes n y ys is)
coming_more (suc n) x y (z ∷ zs) ys is = coming_more n z y zs ys is

-- a window's count is that of its other values and of the one that comes in
window_count : (set others x y : ℕ) (xs ys : List ℕ) → drop others (x ∷ xs) ≡ y ∷ ys
    → count_in set (take (suc others) (x ∷ xs)) ≡ count_in set (take others (x ∷ xs)) + bit_at set y
window_count set zero x y xs ys is = let same : x ≡ y = cc in let bits = ap (bit_at set) same in omega arith
window_count set (suc n) x y [] ys is = absurd (nothing_comes n y ys is)
window_count set (suc n) x y (z ∷ zs) ys is = let more = window_count set n z y zs ys is in omega arith

-- the windows of a list are the one that begins it and those of its rest
windows_cons : (window set : ℕ) (least most : ℤ) (x : ℕ) (xs : List ℕ) → AreAmong set least most (take window (x ∷ xs)) → EachWindow window set least most xs → EachWindow window set least most (x ∷ xs)
windows_cons window set least most x xs here more zero within = here
windows_cons window set least most x xs here more (suc first) within = more first (omega arith)

windows_tail : (window set : ℕ) (least most : ℤ) (x : ℕ) (xs : List ℕ) → EachWindow window set least most (x ∷ xs) → EachWindow window set least most xs
windows_tail window set least most x xs all first within = all (suc first) (omega arith)

-- a list that is shorter than a window has none
pub no_window : (window set : ℕ) (least most : ℤ) (xs : List ℕ) → length xs < window → EachWindow window set least most xs
no_window window set least most xs short first within = absurd (omega arith)

-- the same of equal bounds
pub same_bounds : (window set : ℕ) {least most least' most' : ℤ} (xs : List ℕ) → least' ≡ least → most' ≡ most → EachWindow window set least' most' xs ↔ EachWindow window set least most xs
same_bounds window set {least} {most} {least'} {most'} xs l m = (
  (λ all. subst (λ z. EachWindow window set z most xs) l (subst (λ z. EachWindow window set least' z xs) m all)),
  (λ all. subst (λ z. EachWindow window set z most' xs) (sym l) (subst (λ z. EachWindow window set least z xs) (sym m) all)),
)

-- the windows that begin in the rest are left; the next is counted but for the value that comes in, the first one of those that come
pub record Slides (window others set : ℕ) (least most : ℤ) (whole rest coming : List ℕ) (count : ℕ) : Type 0 where
  pub one_less : window ≡ suc others
  pub left : EachWindow window set least most whole ↔ EachWindow window set least most rest
  pub comes : drop others rest ≡ coming
  pub counted : count ≡ count_in set (take others rest)

-- nothing has moved yet
pub Slides-start : (window set : ℕ) (least most : ℤ) (scope values begun rest coming : List ℕ) (count : ℕ) → 1 ≤ window → rest ≡ scope
    → begun ≡ take (window - 1) scope → coming ≡ drop (window - 1) scope → count ≡ count_in set (scope_values begun values)
    → Slides window (window - 1) set least most (scope_values scope values) (scope_values rest values) (scope_values coming values) count
Slides-start window set least most scope values begun rest coming count some same before after counted = record {
  one_less = omega arith;
  left = subst (λ (all : List ℕ). EachWindow window set least most (scope_values scope values) ↔ EachWindow window set least most (scope_values all values)) (sym same) ((λ all. all), (λ all. all));
  comes = ap (λ (all : List ℕ). drop (window - 1) (scope_values all values)) same ∙ drop-map (λ variable. slice_index values variable) (window - 1) scope ∙ ap (λ (all : List ℕ). scope_values all values) (sym after);
  counted = counted ∙ ap (count_in set) (ap (λ (all : List ℕ). scope_values all values) before ∙ sym (take-map (λ variable. slice_index values variable) (window - 1) scope) ∙ ap (λ (all : List ℕ). take (window - 1) (scope_values all values)) (sym same));
}

-- the variables whose values leave and come in at this turn are the first of those that are left
pub Slides-turn : {window others set : ℕ} {least most : ℤ} {whole rest more coming later : List ℕ} {count x y : ℕ} (values : List ℕ)
    → Slides window others set least most whole (scope_values rest values) (scope_values coming values) count → rest ≡ x ∷ more → coming ≡ y ∷ later
    → Slides window others set least most whole (slice_index values x ∷ scope_values more values) (slice_index values y ∷ scope_values later values) count
Slides-turn {window} {others} {set} {least} {most} {whole} {rest} {more} {coming} {later} {count} {x} {y} values slides leaves comes =
    subst (λ (all : List ℕ). Slides window others set least most whole (scope_values all values) (slice_index values y ∷ scope_values later values) count) leaves
    (subst (λ (all : List ℕ). Slides window others set least most whole (scope_values rest values) (scope_values all values) count) comes slides)

-- the next window's count: its values are those counted, and one that comes in
next_count : {window others set : ℕ} {least most : ℤ} {whole rest coming : List ℕ} {count x y entered : ℕ} → Slides window others set least most whole (x ∷ rest) (y ∷ coming) count
    → entered ≡ bit_at set y → count + entered ≡ count_in set (take window (x ∷ rest))
next_count {window} {others} {set} {least} {most} {whole} {rest} {coming} {count} {x} {y} {entered} slides enters =
    let whole_count = window_count set others x y rest coming slides.comes in
    let before = slides.counted in
    let next : count + entered ≡ count_in set (take (suc others) (x ∷ rest)) = omega arith in
    subst (λ n. count + entered ≡ count_in set (take n (x ∷ rest))) (sym slides.one_less) next

-- a count with one value more is far below what a number holds
pub Slides-room : {window others set : ℕ} {least most : ℤ} {whole rest coming : List ℕ} {count x y entered : ℕ} → Slides window others set least most whole (x ∷ rest) (y ∷ coming) count
    → entered ≡ bit_at set y → length rest < 256 → count + entered ≤ 256
Slides-room {window} {others} {set} {least} {most} {whole} {rest} {coming} {count} {x} {y} {entered} slides enters few =
    let counted = next_count slides enters in
    let most = count_in-most set (take window (x ∷ rest)) in
    let taken = length-take window (x ∷ rest) in
    omega arith

-- the next window has the value that leaves
left_count : {window others set : ℕ} {least most : ℤ} {whole rest coming : List ℕ} {count x y entered : ℕ} → Slides window others set least most whole (x ∷ rest) (y ∷ coming) count
    → entered ≡ bit_at set y → count + entered ≡ bit_at set x + count_in set (take others rest)
left_count {window} {others} {set} {least} {most} {whole} {rest} {coming} {count} {x} {y} {entered} slides enters =
    subst (λ n. count + entered ≡ count_in set (take n (x ∷ rest))) slides.one_less (next_count slides enters)

-- so that it may be taken away from the count
pub Slides-leaves : {window others set : ℕ} {least most : ℤ} {whole rest coming : List ℕ} {count x y entered leaving : ℕ} → Slides window others set least most whole (x ∷ rest) (y ∷ coming) count
    → entered ≡ bit_at set y → leaving ≡ bit_at set x → leaving ≤ count + entered
Slides-leaves slides enters leaves = let counted = left_count slides enters in omega arith

-- the next window holds, and the window moves by one
pub Slides-more : {window others set : ℕ} {least most : ℤ} {whole rest coming : List ℕ} {count x y entered leaving : ℕ} → Slides window others set least most whole (x ∷ rest) (y ∷ coming) count
    → entered ≡ bit_at set y → leaving ≡ bit_at set x → LiesFrom least most (pos (count + entered))
    → Slides window others set least most whole rest coming (count + entered - leaving)
Slides-more {window} {others} {set} {least} {most} {whole} {rest} {coming} {count} {x} {y} {entered} {leaving} slides enters leaves lies =
    let counted = left_count slides enters in
    let here : AreAmong set least most (take window (x ∷ rest)) = subst (λ n. LiesFrom least most (pos n)) (next_count slides enters) lies in
    record {
      one_less = slides.one_less;
      left = ((λ all. windows_tail window set least most x rest (slides.left.0 all)), (λ more. slides.left.1 (windows_cons window set least most x rest here more)));
      comes = coming_more others x y rest coming slides.comes;
      counted = omega arith;
    }

-- the next window doesn't hold
pub Slides-fails : {window others set : ℕ} {least most : ℤ} {whole rest coming : List ℕ} {count x y entered : ℕ} → Slides window others set least most whole (x ∷ rest) (y ∷ coming) count
    → entered ≡ bit_at set y → (LiesFrom least most (pos (count + entered)) → ⊥) → EachWindow window set least most whole → ⊥
Slides-fails {window} {others} {set} {least} {most} {whole} {rest} {coming} {count} {x} {y} {entered} slides enters fails all =
    let counts = length-drop others (x ∷ rest) in
    let comes : length (drop others (x ∷ rest)) ≡ suc (length coming) = ap length slides.comes in
    let one_less = slides.one_less in
    fails (subst (λ n. LiesFrom least most (pos n)) (sym (next_count slides enters)) (slides.left.0 all 0 (omega arith)))

-- no window is left
pub Slides-end : {window others set : ℕ} {least most : ℤ} {whole rest coming : List ℕ} {count : ℕ} → Slides window others set least most whole rest coming count
    → (length rest ≡ 0) ⊎ (length coming ≡ 0) → EachWindow window set least most whole
Slides-end {window} {others} {set} {least} {most} {whole} {rest} {coming} {count} slides ended =
    let counts = length-drop others rest in
    let comes : length (drop others rest) ≡ length coming = ap length slides.comes in
    let one_less = slides.one_less in
    slides.left.1 (no_window window set least most rest (elim ended [ inl none ↦ omega arith | inr none ↦ omega arith ]))
