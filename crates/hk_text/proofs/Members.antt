-- The values of a set, one after another.
use Rattle.std.proofs.Common.{◌≡◌, ℕ, zero, suc, ◌+◌, ◌≤◌, ◌-◌, ◌==◌, Bool, true, false, cond, List, [], ◌∷◌, ◌++◌, refl, sym, ap, ◌∙◌, append_assoc, arith, subst}
use Rattle.std.specs.Fmt.{decimal}
use Rattle.std.specs.Int.{bit_at}
use Rattle.std.specs.List.{filter, range_with_len}
use Rattle.std.proofs.lemmas.List.{append-nil, flat_map_more, map-id}
use Rattle.std.proofs.lemmas.List.FromFn.{filter_of_map_range_with_len_more}
use Rattle.hk_base.specs.Lists.{AppendsFront, IsFrontOf}
use Rattle.hk_text.specs.Sets.{members_below, members, values_text}

-- whether no value is there
abbrev pub is_none : List ℕ → Bool
is_none [] = true
is_none (value ∷ values) = false

-- one value more is looked at
pub members_below_more : (set n : ℕ) → members_below set (n + 1) ≡ members_below set n ++ cond (bit_at set n == 1) (n ∷ []) []
members_below_more set n =
    let p = λ (value : ℕ). bit_at set value == 1 in
    ap (filter p) (sym (map-id (range_with_len 0 (n + 1)))) ∙ filter_of_map_range_with_len_more p (λ value. value) 0 n n (omega arith) ∙ ap (λ xs. filter p xs ++ cond (bit_at set n == 1) (n ∷ []) []) (map-id (range_with_len 0 n))

-- a value that the set has comes at the end
pub members_below_one : (set n : ℕ) → (bit_at set n == 1) ≡ true → members_below set (n + 1) ≡ members_below set n ++ n ∷ []
members_below_one set n has = members_below_more set n ∙ ap (λ b. members_below set n ++ cond b (n ∷ []) []) has

-- and a value that it has not changes nothing
pub members_below_none : (set n : ℕ) → (bit_at set n == 1) ≡ false → members_below set (n + 1) ≡ members_below set n
members_below_none set n lacks = members_below_more set n ∙ ap (λ b. members_below set n ++ cond b (n ∷ []) []) lacks ∙ append-nil (members_below set n)

-- one value more in the text
pub values_text_more : (lead between : List ℕ) (values : List ℕ) (value : ℕ) → values_text lead between (values ++ value ∷ []) ≡ values_text lead between values ++ (cond (is_none values) [] between ++ (lead ++ decimal value))
values_text_more lead between [] value = append-nil (lead ++ decimal value)
values_text_more lead between (first ∷ values) value =
    sym (flat_map_more (λ v. between ++ (lead ++ decimal v)) (lead ++ decimal first) values value)

-- values that end with a value are some
pub is_none_more : (values : List ℕ) (value : ℕ) → is_none (values ++ value ∷ []) ≡ false
is_none_more [] value = refl
is_none_more (first ∷ values) value = refl

-- the values below a number are a front of those below a greater
members_below_front : (set n k : ℕ) → IsFrontOf (members_below set n) (members_below set (n + k))
members_below_front set n zero =
    let same : n + 0 ≡ n = omega arith in
    record { rest = []; parts = ap (members_below set) same ∙ sym (append-nil (members_below set n)) }
members_below_front set n (suc k) =
    let before = members_below_front set n k in
    let next : n + suc k ≡ n + k + 1 = omega arith in
    let last = cond (bit_at set (n + k) == 1) ((n + k) ∷ []) [] in
    record {
      rest = before.rest ++ last;
      parts = ap (members_below set) next ∙ members_below_more set (n + k) ∙ ap (λ xs. xs ++ last) before.parts ∙ append_assoc (members_below set n) before.rest last;
    }

-- the text of the first values is a front of the text of all
pub values_text_front : (lead between : List ℕ) (values more : List ℕ) → IsFrontOf (values_text lead between values) (values_text lead between (values ++ more))
values_text_front lead between values [] = record { rest = []; parts = ap (values_text lead between) (append-nil values) ∙ sym (append-nil (values_text lead between values)) }
values_text_front lead between values (value ∷ more) =
    let on = values_text_front lead between (values ++ value ∷ []) more in
    let piece = cond (is_none values) [] between ++ (lead ++ decimal value) in
    record {
      rest = piece ++ on.rest;
      parts =
          ap (values_text lead between) (sym (append_assoc values (value ∷ []) more))
          ∙ on.parts
          ∙ ap (λ xs. xs ++ on.rest) (values_text_more lead between values value)
          ∙ append_assoc (values_text lead between values) piece on.rest;
    }

-- while the values below a number are written, what is left of the text is a front of it
pub members_text_front : (lead between : List ℕ) (set n : ℕ) → n ≤ 128 → IsFrontOf (values_text lead between (members_below set n)) (values_text lead between (members set))
unfolding members
members_text_front lead between set n within =
    let all : n + (128 - n) ≡ 128 = omega arith in
    let some = members_below_front set n (128 - n) in
    let parts : members_below set 128 ≡ members_below set n ++ some.rest = sym (ap (members_below set) all) ∙ some.parts in
    subst (λ xs. IsFrontOf (values_text lead between (members_below set n)) (values_text lead between xs)) (sym parts) (values_text_front lead between (members_below set n) some.rest)

regroup : (a b c d : List ℕ) → (a ++ (b ++ c)) ++ d ≡ (a ++ b) ++ (c ++ d)
regroup a b c d = simp append_assoc

-- where a value is written in part, so is the text
pub members_text_stopped : (lead between : List ℕ) (set n : ℕ) (old middle new : List ℕ) → suc n ≤ 128 → (bit_at set n == 1) ≡ true → middle ≡ old ++ values_text lead between (members_below set n)
    → AppendsFront middle new (cond (is_none (members_below set n)) [] between ++ (lead ++ decimal n)) → AppendsFront old new (values_text lead between (members set))
members_text_stopped lead between set n old middle new within has before last =
    let some = members_below set n in
    let piece = cond (is_none some) [] between ++ (lead ++ decimal n) in
    let whole = members_text_front lead between set (n + 1) (omega arith) in
    let text = ap (values_text lead between) (members_below_one set n has) ∙ values_text_more lead between some n in
    record {
      front = values_text lead between some ++ last.front;
      is_front = record {
        rest = last.is_front.rest ++ whole.rest;
        parts =
            whole.parts
            ∙ ap (λ xs. xs ++ whole.rest) (text ∙ ap (λ xs. values_text lead between some ++ xs) last.is_front.parts)
            ∙ regroup (values_text lead between some) last.front last.is_front.rest whole.rest;
      };
      appended = last.appended ∙ ap (λ xs. xs ++ last.front) before ∙ append_assoc old (values_text lead between some) last.front;
    }
