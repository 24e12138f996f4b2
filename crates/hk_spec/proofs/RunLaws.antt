-- The exact run over the values that are left.
use Rattle.std.proofs.Common.{◌≡◌, ℕ, ℤ, true, false, ◌+◌, ◌<◌, ◌↔◌, zero, suc, List, [], ◌∷◌, ◌++◌, length, reverse, drop, get_or, All, arith, ap, sym, ◌∙◌, subst, refl, IsTrue, drop-cons}
use Rattle.std.proofs.lemmas.Grind.{common_steps}
use Rattle.std.proofs.lemmas.List.{length-append}
use Rattle.hk_kinds.specs.Shapes.{HasShape}
use Rattle.hk_kinds.specs.declared.properties.Prop.{Prop}
use Rattle.hk_spec.specs.Runs.{exact_up, AcceptsFrom, one_more}
use Rattle.hk_spec.specs.Specifications.{BoundSpecification, IsBound, up_shape}
use Rattle.hk_spec.specs.Steps.{down_step, test_passes}
use Rattle.hk_spec.specs.inside.UpStates.{exact_ups}
use Rattle.hk_spec.proofs.StepLaws.{up_step_has_shape}

-- what is left from a place on begins with the value there
pub left_is : (values : List ℕ) (i : ℕ) → i < length values → drop i values ≡ get_or values i 0 ∷ drop (i + 1) values
left_is values i h = grind (arith, common_steps, drop-cons values i 0)

all_tail : (x : ℕ) (xs : List ℕ) → All (λ v. v < 128) (x ∷ xs) → All (λ v. v < 128) xs
all_tail x xs h = λ k d below. h (suc k) d (omega arith)

pub all_left : (xs : List ℕ) (i : ℕ) → All (λ v. v < 128) xs → All (λ v. v < 128) (drop i xs)
all_left xs zero h = h
all_left [] (suc i) h = h
all_left (x ∷ xs) (suc i) h = all_left xs i (all_tail x xs h)

-- each up state of an exact run has the shape of up states
pub exact_up_has_shape : (b : BoundSpecification) → IsBound b → (position : ℕ) (values : List ℕ) → position + length values ≡ b.len → All (λ value. value < 128) values → HasShape (up_shape b.spec) (exact_up b position values)
exact_up_has_shape b bound position [] long small = bound.rules.initial_up
exact_up_has_shape b bound position (value ∷ values) long small =
    up_step_has_shape b position value (exact_up b (position + 1) values) bound (omega arith) (small 0 0 (omega arith)) (exact_up_has_shape b bound (position + 1) values (omega arith) (all_tail value values small))

tail_same : {x y : List Prop} {xs ys : List (List Prop)} → (x ∷ xs) ≡ (y ∷ ys) → xs ≡ ys
tail_same h = cc

head_same : {x y : List Prop} {xs ys : List (List Prop)} → (x ∷ xs) ≡ (y ∷ ys) → x ≡ y
head_same h = cc

both : {x y : List Prop} {xs ys : List (List Prop)} → x ≡ y → xs ≡ ys → (x ∷ xs) ≡ (y ∷ ys)
both h k = cc

too_long : (xs : List (List Prop)) (x : List Prop) → [] ≡ xs ++ x ∷ [] → ⊥
too_long xs x h = omega (arith, ap length h, length-append xs (x ∷ []))

reverse_cons : (x : List Prop) (xs : List (List Prop)) → reverse (x ∷ xs) ≡ reverse xs ++ x ∷ []
reverse_cons x xs = grind (arith, common_steps)

last_same : (xs ys : List (List Prop)) (x y : List Prop) → xs ++ x ∷ [] ≡ ys ++ y ∷ [] → (xs ≡ ys) × (x ≡ y)
last_same [] [] x y h = (refl, cc)
last_same [] (b ∷ ys) x y h = absurd (too_long ys y (tail_same h))
last_same (a ∷ xs) [] x y h = absurd (too_long xs x (sym (tail_same h)))
last_same (a ∷ xs) (b ∷ ys) x y h =
    let more = last_same xs ys x y (tail_same h) in
    (both (head_same h) more.0, more.1)

-- what was taken off the up states that are kept is the up state after the position
pub taken : (b : BoundSpecification) (position value : ℕ) (rest left : List ℕ) (ups new : List (List Prop)) (up : List Prop) → left ≡ value ∷ rest → ups ≡ reverse (exact_ups b position left) → ups ≡ new ++ up ∷ [] → (new ≡ reverse (exact_ups b (position + 1) rest)) × (up ≡ exact_up b (position + 1) rest)
taken b position value rest left ups new up is kept parts =
    last_same new (reverse (exact_ups b (position + 1) rest)) up (exact_up b (position + 1) rest) (sym parts ∙ (kept ∙ (ap (λ l. reverse (exact_ups b position l)) is ∙ reverse_cons (exact_up b (position + 1) rest) (exact_ups b (position + 1) rest))))

-- as many up states are kept as values are left
pub length-exact_ups : (b : BoundSpecification) (position : ℕ) (values : List ℕ) → length (exact_ups b position values) ≡ length values
length-exact_ups b position [] = refl
length-exact_ups b position (value ∷ values) = ap (λ n. suc n) (length-exact_ups b (position + 1) values)

test_of_run : {b : BoundSpecification} {best : ℤ} {position value : ℕ} {down : List Prop} {values : List ℕ} → AcceptsFrom b best position down (value ∷ values) → IsTrue (test_passes b position value down (exact_up b (position + 1) values) best)
test_of_run (one_more holds more) = holds

run_after : {b : BoundSpecification} {best : ℤ} {position value : ℕ} {down : List Prop} {values : List ℕ} → AcceptsFrom b best position down (value ∷ values) → AcceptsFrom b best (position + 1) (down_step b position value down) values
run_after (one_more holds more) = more

-- where the test holds at a position, the run accepts what is left exactly where it accepts the rest
pub goes_on : (b : BoundSpecification) (best : ℤ) (position value : ℕ) (down up next : List Prop) (rest left : List ℕ) → left ≡ value ∷ rest → up ≡ exact_up b (position + 1) rest → next ≡ down_step b position value down → test_passes b position value down up best ≡ true → AcceptsFrom b best position down left ↔ AcceptsFrom b best (position + 1) next rest
goes_on b best position value down up next rest left is after stepped passes =
    let holds : IsTrue (test_passes b position value down (exact_up b (position + 1) rest) best) = subst (λ u. test_passes b position value down u best ≡ true) after passes in
    (λ run. subst (λ s. AcceptsFrom b best (position + 1) s rest) (sym stepped) (run_after (subst (AcceptsFrom b best position down) is run)), λ run. subst (AcceptsFrom b best position down) (sym is) (one_more holds (subst (λ s. AcceptsFrom b best (position + 1) s rest) stepped run)))

-- where it doesn't, the run does not accept what is left
pub refused : (b : BoundSpecification) (best : ℤ) (position value : ℕ) (down up : List Prop) (rest left : List ℕ) → left ≡ value ∷ rest → up ≡ exact_up b (position + 1) rest → test_passes b position value down up best ≡ false → AcceptsFrom b best position down left → ⊥
refused b best position value down up rest left is after fails run =
    let holds = test_of_run (subst (AcceptsFrom b best position down) is run) in
    let same : test_passes b position value down (exact_up b (position + 1) rest) best ≡ false = subst (λ u. test_passes b position value down u best ≡ false) after fails in
    cc
