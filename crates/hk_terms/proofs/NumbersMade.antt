-- The set that rising numbers make, or that one of them passes its limit.
use Rattle.std.proofs.Common.{◌≡◌, ℕ, ◌^◌, ◌<◌, ◌≤◌, suc, Bool, true, false, if◌then◌else◌, nat_lt, List, [], ◌∷◌, ◌++◌, map, All, Result, Ok, Err, bit_or, refl, sym, ap, ◌∙◌, subst, append_assoc, append-nil, arith}
use Rattle.std.specs.Fmt.{decimal}
use Rattle.std.specs.Int.{bit_at}
use Rattle.std.proofs.lemmas.Bool.Decides.{nat_tests}
use Rattle.std.proofs.lemmas.List.Elements.{All-cons, All-head, All-tail, All-nil}
use Rattle.std.proofs.lemmas.Nat.{or_lt}
use Rattle.std.proofs.lemmas.Nat.Bits.{bit_at-zero}
use Rattle.std.proofs.Math.Pow.{pow-lt}
use Rattle.hk_spec.specs.declared.expressions.SetExpr.TheOpen.{SetExpr-F}
use Rattle.hk_spec.specs.declared.expressions.SetExpr.TheVariants.{Lit, rolls-Lit}
use Rattle.hk_text.specs.Numbers.{IsNumber}
use Rattle.hk_terms.specs.declared.flaws.Flaw.{Flaw}
use Rattle.hk_terms.specs.declared.flaws.Flaw.TheVariants.{Name, Limit}
use Rattle.hk_terms.specs.Atoms.{IsBitsOf}
use Rattle.hk_terms.specs.inside.Forms.{with_number}
use Rattle.hk_terms.specs.Names.{WritesUpTo}
use Rattle.hk_terms.specs.SetTexts.{AreNumbers, no_number, then_number}
use Rattle.hk_terms.specs.SetTexts as sets
use Rattle.hk_terms.specs.Trees.{members}
use Rattle.hk_terms.proofs.Leaves.{set_leaf}
use Rattle.hk_terms.proofs.ListedNumbers.{RiseFrom}
use Rattle.hk_terms.proofs.LiteralTexts.{digits_are, writes_up_to}
use Rattle.hk_terms.proofs.MemberBits.{bit_kept, members_grown, no_members}

-- the set with more numbers, one after the other
pub with_numbers : Result ℕ Flaw → List ℕ → Result ℕ Flaw
with_numbers made [] = made
with_numbers made (n ∷ values) = with_numbers (with_number made n) values

pub with_none : (made : Result ℕ Flaw) → with_numbers made [] ≡ made
unfolding with_numbers
with_none made = refl

pub with_one : (made : Result ℕ Flaw) (n : ℕ) (values : List ℕ) → with_numbers made (n ∷ values) ≡ with_numbers (with_number made n) values
unfolding with_numbers
with_one made n values = refl

flaw_stays : (flaw : Flaw) (values : List ℕ) → with_numbers (Err flaw) values ≡ Err flaw
unfolding with_numbers
flaw_stays flaw [] = refl
flaw_stays flaw (n ∷ values) = flaw_stays flaw values

-- the set has the numbers before and those that the texts write, none of them above 127
record IsMade (before : List ℕ) (numbers : List (List ℕ)) (values : List ℕ) (set : ℕ) : Type 0 where
  members_are : members set ≡ before ++ values
  is_set : set < 2 ^ 128
  texts_are : map decimal values ≡ numbers
  small : All (WritesUpTo 127) numbers

-- that set, or Limit where one of the numbers passes its limit
abbrev Makes : List ℕ → List (List ℕ) → List ℕ → Result ℕ Flaw → Type 0
Makes before numbers values (Ok set) = IsMade before numbers values set
Makes before numbers values (Err Name) = ⊥
Makes before numbers values (Err Limit) = All (WritesUpTo 127) numbers → ⊥

-- the first of the numbers goes to those before
makes_more : (before text : List ℕ) (n : ℕ) (numbers : List (List ℕ)) (values : List ℕ) (made : Result ℕ Flaw) → IsNumber text n → n < 128 → Makes (before ++ n ∷ []) numbers values made → Makes before (text ∷ numbers) (n ∷ values) made
makes_more before text n numbers values (Ok set) number small makes = record {
  members_are = makes.members_are ∙ append_assoc before (n ∷ []) values;
  is_set = makes.is_set;
  texts_are = ap (λ first. first ∷ map decimal values) (digits_are number (omega (arith, small))) ∙ ap (λ texts. text ∷ texts) makes.texts_are;
  small = All-cons (WritesUpTo 127) text numbers (writes_up_to number (omega (arith, small))) makes.small;
}
makes_more before text n numbers values (Err Name) number small makes = makes
makes_more before text n numbers values (Err Limit) number small makes = λ all. makes (All-tail (WritesUpTo 127) text numbers all)

-- bits above a value that is added
bits_above : (set n i : ℕ) → ((j : ℕ) → n ≤ j → bit_at set j ≡ 0) → suc n ≤ i → bit_at (bit_or set (2 ^ n)) i ≡ 0
bits_above set n i none above = bit_kept set n i (omega (arith, above)) ∙ none i (omega (arith, above))

-- rising numbers make a set, one after the other
makes : {numbers : List (List ℕ)} {values : List ℕ} (before : List ℕ) (set least : ℕ) → members set ≡ before → set < 2 ^ 128 → ((i : ℕ) → least ≤ i → bit_at set i ≡ 0) → RiseFrom least values → AreNumbers numbers values → Makes before numbers values (with_numbers (Ok set) values)
unfolding with_numbers
makes before set least is fits none rise no_number = record {
  members_are = is ∙ sym (append-nil before);
  is_set = fits;
  texts_are = refl;
  small = All-nil (WritesUpTo 127);
}
makes before set least is fits none rise (then_number {text = text} {n = n} {texts = numbers} {numbers = values} number more) =
    by (nat_lt n 128) refl (λ small. makes (before ++ n ∷ []) (bit_or set (2 ^ n)) (suc n) (members_grown set n empty small ∙ ap (λ xs. xs ++ n ∷ []) is) (or_lt 128 set (2 ^ n) fits (pow-lt small)) (λ i above. bits_above set n i empty above) rise.1 more)
  where
    empty : (i : ℕ) → n ≤ i → bit_at set i ≡ 0
    empty i above = none i (omega (arith, above, rise.0))

    by : (test : Bool) → nat_lt n 128 ≡ test → (n < 128 → Makes (before ++ n ∷ []) numbers values (with_numbers (Ok (bit_or set (2 ^ n))) values)) → Makes before (text ∷ numbers) (n ∷ values) (with_numbers (if test then Ok (bit_or set (2 ^ n)) else Err Limit) values)
    by true test later = let small : n < 128 = grind (arith, nat_tests) in makes_more before text n numbers values (with_numbers (Ok (bit_or set (2 ^ n))) values) number small (later small)
    by false test later = subst (λ made. Makes before (text ∷ numbers) (n ∷ values) made) (sym (flaw_stays Limit values)) (λ all. let most = All-head (WritesUpTo 127) text numbers all n number in grind (arith, nat_tests))

-- what they make is what is made of them in braces
bits_made : (numbers : List (List ℕ)) (values : List ℕ) (made : Result ℕ Flaw) → Makes [] numbers values made → IsBitsOf numbers made
bits_made numbers values (Ok set) made = λ names.
    set_leaf names (SetExpr-F.Lit set) (Lit set) (sets.Values numbers) (rolls-Lit set) (ap sets.Values (ap (map decimal) made.members_are ∙ made.texts_are)) (let fits = made.is_set in grind (arith, nat_tests)) refl tt made.small
bits_made numbers values (Err Name) made = made
bits_made numbers values (Err Limit) made = made

pub bits_of_numbers : {numbers : List (List ℕ)} {values : List ℕ} → RiseFrom 0 values → AreNumbers numbers values → IsBitsOf numbers (with_numbers (Ok 0) values)
bits_of_numbers {numbers = numbers} {values = values} rise are =
    bits_made numbers values (with_numbers (Ok 0) values) (makes [] 0 0 no_members (omega arith) (λ i above. bit_at-zero i) rise are)
