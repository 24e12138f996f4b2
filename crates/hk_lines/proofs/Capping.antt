-- Phrases whose numbers are capped as they are read, and texts that begin with no such phrase.
use Rattle.std.proofs.Common.{◌≡◌, ◌≢◌, ℕ, ◌≤◌, ℤ, pos, negsuc, suc, zero, List, [], ◌∷◌, w64, of_z, to_z, FitsSigned, sym, ap, subst, ◌∙◌, arith}
use Rattle.std.specs.Prelude.{codes, neg_ℤ}
use Rattle.std.proofs.Math.Nat.{min-le_right}
use Rattle.std.proofs.lemmas.Int.{ints, to_z-of_z}
use Rattle.hk_text.specs.Numbers.{IsNumber}
use Rattle.hk_lines.specs.Limits.{above_limits}
use Rattle.hk_lines.specs.Phrases.{Values, SignedThen, then_plain, then_minus, BoundsThen, then_bounds, RangeThen}
use Rattle.hk_lines.specs.inside.Pieces.{NumberThen, WordThen, ItemThen, then_range, then_number, TermThen}
use Rattle.hk_lines.specs.Shapes.{capped, capped_signed, capped_values, capped_term}
use Rattle.hk_lines.specs.inside.Capped.{BeginsCapped, BeginsWithout, AreBounds}
use Rattle.hk_text.proofs.TokenTexts.{same_first, same_rest}
use Rattle.hk_lines.proofs.Marks.{minus_no_number}
use Rattle.hk_lines.proofs.Phrasing.{signed_one}

-- a capped number survives in a word of 64 bits
pub capped_in_word : (z : ℤ) (value : ℕ) → z ≡ pos value → value ≤ above_limits → to_z w64 (of_z w64 z) ≡ pos value
capped_in_word z value is small = ap (λ y. to_z w64 (of_z w64 y)) is ∙ to_z-of_z w64 (pos value) (omega (arith, ints))

-- so does its negation
pub negated_in_word : (z : ℤ) (value : ℕ) → z ≡ neg_ℤ (pos value) → value ≤ above_limits → to_z w64 (of_z w64 z) ≡ neg_ℤ (pos value)
negated_in_word z value is small = ap (λ y. to_z w64 (of_z w64 y)) is ∙ to_z-of_z w64 (neg_ℤ (pos value)) (fits value small)
  where
    fits : (value : ℕ) → value ≤ above_limits → FitsSigned w64 (neg_ℤ (pos value))
    fits zero small = omega (arith, ints)
    fits (suc n) small = omega (arith, ints)

-- and a number with a sign, once it is capped
pub signed_in_word : (z exact : ℤ) → z ≡ capped_signed exact → to_z w64 (of_z w64 z) ≡ z
signed_in_word z (pos n) is = capped_in_word z (capped n) is (min-le_right n above_limits) ∙ sym is
signed_in_word z (negsuc n) is = negated_in_word z (capped (suc n)) is (min-le_right (suc n) above_limits) ∙ sym is

-- a number that was read, as one with a sign
pub plain_said : {texts rest : List (List ℕ)} {value : ℕ} (z : ℤ) → BeginsCapped NumberThen capped texts value rest → z ≡ pos value → value ≤ above_limits → BeginsCapped SignedThen capped_signed texts (to_z w64 (of_z w64 z)) rest
plain_said {value = value} z read is small = record {
  exact = pos read.exact;
  phrase = then_plain read.phrase.parts read.phrase.number;
  is_capped = capped_in_word z value is small ∙ ap pos read.is_capped;
}

-- a number other than 0 that was read after a minus
pub minus_said : {texts after rest : List (List ℕ)} {value : ℕ} (z : ℤ) → texts ≡ codes "-" ∷ after → BeginsCapped NumberThen capped after value rest → value ≢ 0 → z ≡ neg_ℤ (pos value) → value ≤ above_limits → BeginsCapped SignedThen capped_signed texts (to_z w64 (of_z w64 z)) rest
minus_said {texts = texts} {after = after} {rest = rest} {value = value} z begins read some is small = by read.exact read.phrase read.is_capped
  where
    by : (n : ℕ) → NumberThen after n rest → value ≡ capped n → BeginsCapped SignedThen capped_signed texts (to_z w64 (of_z w64 z)) rest
    by zero number capped_is = absurd (some (capped_is ∙ omega arith))
    by (suc n) number capped_is = record {
      exact = negsuc n;
      phrase = then_minus (begins ∙ ap (λ more. codes "-" ∷ more) number.parts) number.number;
      is_capped = negated_in_word z value is small ∙ ap (λ k. neg_ℤ (pos k)) capped_is;
    }

-- texts that begin with no number and no minus begin with no signed number
pub no_plain : {texts : List (List ℕ)} → ((rest : List (List ℕ)) → texts ≡ codes "-" ∷ rest → ⊥) → BeginsWithout NumberThen texts → BeginsWithout SignedThen texts
no_plain no_minus no_number z rest (then_plain {text = text} {n = n} parts number) = no_number n rest (record { text = text; parts = parts; number = number })
no_plain no_minus no_number z rest (then_minus {text = text} parts number) = no_minus (text ∷ rest) parts

-- nor do those that go on with no number after a minus
pub no_minus : {texts after : List (List ℕ)} → texts ≡ codes "-" ∷ after → BeginsWithout NumberThen after → BeginsWithout SignedThen texts
no_minus begins no_number z rest (then_plain {n = n} parts number) = minus_no_number (subst (λ text. IsNumber text n) (same_first parts begins) number)
no_minus begins no_number z rest (then_minus {text = text} {n = n} parts number) = no_number (suc n) rest (record { text = text; parts = same_rest begins parts; number = number })

-- a range that was read
pub range_said : {texts after more rest : List (List ℕ)} {first last : ℕ} → BeginsCapped NumberThen capped texts first after → after ≡ codes ".." ∷ more → BeginsCapped NumberThen capped more last rest → BeginsCapped RangeThen capped_values texts (record { first = first; last = last }) rest
range_said from dots to =
    let parts = from.phrase.parts ∙ ap (λ ts. from.phrase.text ∷ ts) (dots ∙ ap (λ ts. codes ".." ∷ ts) to.phrase.parts) in
    record {
      exact = record { first = from.exact; last = to.exact };
      phrase = record { from = from.phrase.text; to = to.phrase.text; parts = parts; from_is = from.phrase.number; to_is = to.phrase.number };
      is_capped = both from.is_capped to.is_capped;
    }
  where
    both : {a b c d : ℕ} → a ≡ c → b ≡ d → ◌≡◌ {A = Values} (record { first = a; last = b }) (record { first = c; last = d })
    both x y = cc

-- texts that begin with no number begin with no range
pub no_range_first : {texts : List (List ℕ)} → BeginsWithout NumberThen texts → BeginsWithout RangeThen texts
no_range_first none values rest range = none values.first _ (record { text = range.from; parts = range.parts; number = range.from_is })

-- nor do those that go on with no number after the points
pub no_range_last : {texts after more : List (List ℕ)} {first : ℕ} → BeginsCapped NumberThen capped texts first after → after ≡ codes ".." ∷ more → BeginsWithout NumberThen more → BeginsWithout RangeThen texts
no_range_last from points none values rest range =
    none values.last rest (record { text = range.to; parts = same_rest points (same_rest from.phrase.parts range.parts); number = range.to_is })

-- a range that was read, as an item of a set
pub range_item_said : {texts rest : List (List ℕ)} {values : Values} → BeginsCapped RangeThen capped_values texts values rest → BeginsCapped ItemThen capped_values texts values rest
range_item_said range = record { exact = range.exact; phrase = then_range range.phrase; is_capped = range.is_capped }

-- a number that was read where no range begins
pub number_item_said : {texts rest : List (List ℕ)} {value : ℕ} → BeginsWithout RangeThen texts → BeginsCapped NumberThen capped texts value rest → BeginsCapped ItemThen capped_values texts (record { first = value; last = value }) rest
number_item_said none number = record {
  exact = record { first = number.exact; last = number.exact };
  phrase = then_number number.phrase none;
  is_capped = ap (λ n. record { first = n; last = n }) number.is_capped;
}

-- texts that begin with no range and no number begin with no item
pub no_item : {texts : List (List ℕ)} → BeginsWithout RangeThen texts → BeginsWithout NumberThen texts → BeginsWithout ItemThen texts
no_item no_range no_number values rest (then_range range) = no_range values rest range
no_item no_range no_number values rest (then_number number none) = no_number values.first rest number

-- a term that was read
pub term_said : {texts after more rest : List (List ℕ)} {coef : ℤ} {name : List ℕ} → BeginsCapped SignedThen capped_signed texts coef after → after ≡ codes "*" ∷ more → WordThen more name rest → BeginsCapped TermThen capped_term texts (record { coef = to_z w64 (of_z w64 coef); name = name }) rest
term_said {texts = texts} {coef = coef} {name = name} signed star word = record {
  exact = record { coef = signed.exact; name = name };
  phrase = record { signed = subst (λ ts. SignedThen texts signed.exact ts) (star ∙ ap (λ ts. codes "*" ∷ ts) word.parts) signed.phrase; is_word = word.is_word };
  is_capped = ap (λ z. record { coef = z; name = name }) (signed_in_word coef signed.exact signed.is_capped ∙ signed.is_capped);
}

-- texts that go on with no star after a signed number begin with no term
pub no_term_star : {texts after : List (List ℕ)} {coef : ℤ} → BeginsCapped SignedThen capped_signed texts coef after → ((rest : List (List ℕ)) → after ≡ codes "*" ∷ rest → ⊥) → BeginsWithout TermThen texts
no_term_star signed none term rest is = none _ (signed_one signed.phrase is.signed).1

-- nor do those that go on with no word after the star
pub no_term_word : {texts after more : List (List ℕ)} {coef : ℤ} → BeginsCapped SignedThen capped_signed texts coef after → after ≡ codes "*" ∷ more → BeginsWithout WordThen more → BeginsWithout TermThen texts
no_term_word signed star none term rest is =
    none term.name rest (record { parts = same_rest star (signed_one signed.phrase is.signed).1; is_word = is.is_word })

-- two bounds that were read
pub bounds_said : {texts after more rest : List (List ℕ)} {least most : ℤ} → BeginsCapped SignedThen capped_signed texts least after → after ≡ codes ".." ∷ more → BeginsCapped SignedThen capped_signed more most rest → rest ≡ [] → AreBounds texts (to_z w64 (of_z w64 least)) (to_z w64 (of_z w64 most))
bounds_said {texts = texts} {more = more} {least = least} {most = most} from points to over = record {
  from = from.exact;
  to = to.exact;
  bounds = then_bounds (subst (λ ts. SignedThen texts from.exact ts) points from.phrase) (subst (λ ts. SignedThen more to.exact ts) over to.phrase);
  least_is = signed_in_word least from.exact from.is_capped ∙ from.is_capped;
  most_is = signed_in_word most to.exact to.is_capped ∙ to.is_capped;
}

-- texts that go on with no two points after a signed number are no bounds
pub no_bounds_points : {texts after : List (List ℕ)} {value : ℤ} → BeginsCapped SignedThen capped_signed texts value after → ((rest : List (List ℕ)) → after ≡ codes ".." ∷ rest → ⊥) → (least most : ℤ) → BoundsThen texts least most [] → ⊥
no_bounds_points signed none least most (then_bounds from to) = none _ (signed_one signed.phrase from).1

-- nor are those that go on with no signed number after the points
pub no_bounds_most : {texts after more : List (List ℕ)} {value : ℤ} → BeginsCapped SignedThen capped_signed texts value after → after ≡ codes ".." ∷ more → BeginsWithout SignedThen more → (least most : ℤ) → BoundsThen texts least most [] → ⊥
no_bounds_most signed points none least most (then_bounds from to) =
    none most [] (subst (λ ts. SignedThen ts most []) (same_rest (signed_one signed.phrase from).1 points) to)

-- nor are those that go on after it
pub no_bounds_over : {texts after more rest : List (List ℕ)} {value other : ℤ} → BeginsCapped SignedThen capped_signed texts value after → after ≡ codes ".." ∷ more → BeginsCapped SignedThen capped_signed more other rest → rest ≢ [] → (least most : ℤ) → BoundsThen texts least most [] → ⊥
no_bounds_over signed points next some least most (then_bounds from to) =
    some (signed_one next.phrase (subst (λ ts. SignedThen ts most []) (same_rest (signed_one signed.phrase from).1 points) to)).1
