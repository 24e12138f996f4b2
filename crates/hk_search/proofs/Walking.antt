-- How a walk through values of the variables tries the solutions.
use Rattle.std.proofs.Common.{◌≡◌, ℕ, ◌+◌, ◌-◌, ◌<◌, List, [], ◌∷◌, ◌++◌, length, take, arith, refl, sym, ap, ◌∙◌, subst, append_assoc, length-append, inl, inr, Option, ◌⊎◌}
use Rattle.std.proofs.lemmas.Bool.{cases_lt}
use Rattle.std.proofs.lemmas.List.{length_push, take_at}
use Rattle.hk_base.specs.Lists.{IsFrontOf}
use Rattle.hk_base.specs.Sets.{Has}
use Rattle.std.specs.Prelude.{slice_index}
use Rattle.hk_group.specs.Problems.{PlainProblem, IsValid}
use Rattle.hk_group.specs.Solutions.{IsSolution, IsNotAfter}
use Rattle.hk_search.specs.declared.found.Found.{Found}
use Rattle.hk_search.specs.inside.Walks.{IsBestAfter, kept}
use Rattle.hk_search.proofs.Begun.{below_from_Has, next_in_set}
use Rattle.hk_search.proofs.Orders.{IsNotAfter-difference}
use Rattle.hk_search.proofs.Trying.{IsBestAfter-same, IsBestAfter-joined}

-- the values begin with the front and then a value below this one
pub record BeginsBelow (front : List ℕ) (value : ℕ) (values : List ℕ) : Type 0 where
  pub next : ℕ
  pub rest : List ℕ
  pub below : next < value
  pub parts : values ≡ front ++ next ∷ rest

-- before the first value nothing is tried
pub IsBestAfter-nothing : (p : PlainProblem) (front : List ℕ) (best : Option Found) → IsBestAfter p (BeginsBelow front 0) best best
IsBestAfter-nothing p front best = kept (λ values begins solution better. absurd (let below = begins.below in omega arith))

-- a value that isn't in the next variable's set begins no solution
pub IsBestAfter-skipped : (p : PlainProblem) (front : List ℕ) (value : ℕ) (before after : Option Found) → length front < length p.domains → (Has (slice_index p.domains (length front)) value → ⊥)
    → IsBestAfter p (BeginsBelow front value) before after → IsBestAfter p (BeginsBelow front (value + 1)) before after
IsBestAfter-skipped p front value before after more none tried =
    IsBestAfter-same p (BeginsBelow front value) (BeginsBelow front (value + 1)) fewer
    (λ values begins. record { next = begins.next; rest = begins.rest; below = (let below = begins.below in omega arith); parts = begins.parts }) tried
  where
    fewer : (values : List ℕ) → IsSolution p values → BeginsBelow front (value + 1) values → BeginsBelow front value values
    fewer values solution begins = elim (cases_lt begins.next value) [
      | inl less ↦ record { next = begins.next; rest = begins.rest; below = less; parts = begins.parts }
      | inr not_less ↦
          let same : begins.next ≡ value = (let below = begins.below in omega arith) in
          absurd (none (subst (Has (slice_index p.domains (length front))) same (next_in_set p front begins.rest begins.next more (subst (IsSolution p) begins.parts solution))))
    ]

-- what begins with a lesser value comes before what begins with a greater one
below_before : (front : List ℕ) (value : ℕ) (x y : List ℕ) → BeginsBelow front value x → IsFrontOf (front ++ value ∷ []) y → IsNotAfter x y
below_before front value x y lesser greater =
    subst (λ ys. IsNotAfter x ys) (sym (greater.parts ∙ append_assoc front (value ∷ []) greater.rest))
    (subst (λ xs. IsNotAfter xs (front ++ value ∷ greater.rest)) (sym lesser.parts)
    (IsNotAfter-difference front lesser.next value lesser.rest greater.rest lesser.below))

-- after the lesser values what begins with this one is tried
pub IsBestAfter-more : (p : PlainProblem) (front : List ℕ) (value : ℕ) (before middle after : Option Found)
    → IsBestAfter p (BeginsBelow front value) before middle → IsBestAfter p (IsFrontOf (front ++ value ∷ [])) middle after → IsBestAfter p (BeginsBelow front (value + 1)) before after
IsBestAfter-more p front value before middle after tried now =
    IsBestAfter-joined p (BeginsBelow front value) (IsFrontOf (front ++ value ∷ [])) (BeginsBelow front (value + 1)) (below_before front value)
    (λ values solution begins. parted values begins)
    (λ values begins. record { next = begins.next; rest = begins.rest; below = (let below = begins.below in omega arith); parts = begins.parts })
    (λ values begins. record { next = value; rest = begins.rest; below = omega arith; parts = begins.parts ∙ append_assoc front (value ∷ []) begins.rest })
    tried now
  where
    parted : (values : List ℕ) → BeginsBelow front (value + 1) values → BeginsBelow front value values ⊎ IsFrontOf (front ++ value ∷ []) values
    parted values begins = elim (cases_lt begins.next value) [
      | inl less ↦ inl (record { next = begins.next; rest = begins.rest; below = less; parts = begins.parts })
      | inr not_less ↦
          let same : begins.next ≡ value = (let below = begins.below in omega arith) in
          inr (record { rest = begins.rest; parts = begins.parts ∙ ap (λ next. front ++ next ∷ begins.rest) same ∙ sym (append_assoc front (value ∷ []) begins.rest) })
    ]

-- a solution that begins with the front goes on with a value
goes_on : (p : PlainProblem) (front values : List ℕ) → IsValid p → length front < length p.domains → IsSolution p values → IsFrontOf front values → BeginsBelow front 128 values
goes_on p front values valid more solution begins = by begins.rest begins.parts
  where
    by : (rest : List ℕ) → values ≡ front ++ rest → BeginsBelow front 128 values
    by [] parts = absurd (let size = ap length parts in let none = length-append front [] in let each = solution.one_each in omega arith)
    by (next ∷ rest) parts = record {
      next = next;
      rest = rest;
      below = below_from_Has p (length front) next valid more (next_in_set p front rest next more (subst (IsSolution p) parts solution));
      parts = parts;
    }

-- where all values of the next variable are tried, all that begins with the front is
pub IsBestAfter-all : (p : PlainProblem) (front : List ℕ) (before after : Option Found) → IsValid p → length front < length p.domains → IsBestAfter p (BeginsBelow front 128) before after → IsBestAfter p (IsFrontOf front) before after
IsBestAfter-all p front before after valid more tried =
    IsBestAfter-same p (BeginsBelow front 128) (IsFrontOf front) (λ values solution begins. goes_on p front values valid more solution begins)
    (λ values begins. record { rest = begins.next ∷ begins.rest; parts = begins.parts }) tried

-- a list with a value at its end, by what the list is
pub pushed_to : (front items : List ℕ) (value : ℕ) (pushed : List ℕ) → items ≡ front → pushed ≡ items ++ value ∷ [] → pushed ≡ front ++ value ∷ []
pushed_to front items value pushed same parts = parts ∙ ap (λ begun. begun ++ value ∷ []) same

-- a list of this length without its last value
pub front_of_push : (front whole : List ℕ) (value size : ℕ) → whole ≡ front ++ value ∷ [] → size ≡ length whole → take (size - 1) whole ≡ front
front_of_push front whole value size parts counted =
    let last : size - 1 ≡ length front = (let all = ap length parts in let more = length_push front value in omega arith) in
    ap (λ n. take n whole) last ∙ ap (take (length front)) parts ∙ take_at front (value ∷ []) (length front) refl
