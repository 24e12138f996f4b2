-- Initial values as they are written, and what is made of them.
use Rattle.std.proofs.Common.{◌≡◌, ℕ, ℤ, w64, of_z, to_z, Bool, Option, None, Some, IfSome, List, [], ◌∷◌, ◌++◌, refl, sym, ap, ◌∙◌, subst}
use Rattle.std.specs.Prelude.{codes}
use Rattle.std.proofs.lemmas.List.{append-nil}
use Rattle.hk_kinds.specs.Shapes.{IsOfKind, is_min, is_max, is_interval, is_some, is_all}
use Rattle.hk_kinds.specs.declared.kinds.Kind.{Kind}
use Rattle.hk_kinds.specs.declared.kinds.Kind.TheVariants.{Min, Max, Interval, SomeBits, AllBits}
use Rattle.hk_kinds.specs.declared.properties.Prop.{Prop}
use Rattle.hk_kinds.specs.declared.properties.Prop.TheVariants as property
use Rattle.hk_parse.specs.inside.Headers.{IsSignedOf, SignedThen, IsInitOf, ReadsInit}
use Rattle.hk_parse.specs.LineTexts.{InitText, Single, Pair, Values, init_texts, IsInitText}
use Rattle.hk_terms.specs.Names.{WritesUpTo}
use Rattle.hk_terms.specs.NumTexts.{IsSigned, number_texts}
use Rattle.hk_parse.proofs.SignedTexts.{signed_end, signed_rest, within_in_word}
use Rattle.hk_text.proofs.TokenTexts.{same_rest}

-- the texts begin with no number
abbrev pub BeginsNoSigned : List (List ℕ) → Type 0
BeginsNoSigned texts = (negative : Bool) (digits : List ℕ) (rest : List (List ℕ)) → texts ≡ number_texts negative digits ++ rest → IsSigned negative digits → ⊥

-- the texts are no initial value of the kind
abbrev pub AreNoInit : Kind → List (List ℕ) → Type 0
AreNoInit kind texts = (init : InitText) → IsInitText kind init → texts ≡ init_texts init → ⊥

-- where no number begins, there is no initial value that is one
pub no_number_init : {texts : List (List ℕ)} → BeginsNoSigned texts → AreNoInit Min texts
no_number_init none (Single negative digits) written is = none negative digits [] (signed_end negative digits is) written
no_number_init none (Pair negative digits other others) written is = absurd written
no_number_init none (Values numbers) written is = absurd written

-- a number was read, and nothing follows it
number_texts_end : {texts rest : List (List ℕ)} {made : Option ℤ} (read : SignedThen texts made rest) → rest ≡ [] → texts ≡ number_texts read.negative read.digits
number_texts_end read over = read.texts_are ∙ ap (λ ts. number_texts read.negative read.digits ++ ts) over ∙ append-nil (number_texts read.negative read.digits)

single_value : {negative other : Bool} {digits others : List ℕ} → negative ≡ other → digits ≡ others → Single negative digits ≡ Single other others
single_value sign same = cc

pub number_read : {texts rest : List (List ℕ)} (n : ℤ) → SignedThen texts (Some n) rest → rest ≡ [] → ReadsInit Min texts (Some (property.Num (to_z w64 (of_z w64 n))))
number_read {texts = texts} n read over =
    let (sign, digits, within, small) = read.is_made in
    subst (λ m. ReadsInit Min texts (Some (property.Num m))) (sym (within_in_word n within)) (record {
      text = Single read.negative read.digits;
      texts_are = number_texts_end read over;
      written = read.written;
      is_made = (single_value sign digits, is_min within, small);
    })

pub number_passes : {texts rest : List (List ℕ)} → SignedThen texts None rest → rest ≡ [] → ReadsInit Min texts None
number_passes read over = record { text = Single read.negative read.digits; texts_are = number_texts_end read over; written = read.written; is_made = read.is_made }

module _ {texts after : List (List ℕ)} {low : Option ℤ} (first : SignedThen texts low after) where
  -- the texts of two numbers go on with `..` and the second after the first
  points_after : (negative other : Bool) (digits others : List ℕ) → IsSigned negative digits → texts ≡ init_texts (Pair negative digits other others) → after ≡ codes ".." ∷ number_texts other others
  points_after negative other digits others signed is = signed_rest negative digits first signed is

  module _ {next : List (List ℕ)} (points : after ≡ codes ".." ∷ next) where
    -- and then a second
    pub no_high : BeginsNoSigned next → AreNoInit Interval texts
    no_high none (Single negative digits) written is = absurd written
    no_high none (Pair negative digits other others) written is = none other others [] (signed_end other others (same_rest points (points_after negative other digits others written.0 is))) written.1
    no_high none (Values numbers) written is = absurd written

    -- and nothing more
    pub no_longer_interval : {rest : List (List ℕ)} {high : Option ℤ} → SignedThen next high rest → (rest ≡ [] → ⊥) → AreNoInit Interval texts
    no_longer_interval second more (Single negative digits) written is = absurd written
    no_longer_interval second more (Pair negative digits other others) written is = more (signed_rest other others second written.1 (signed_end other others (same_rest points (points_after negative other digits others written.0 is))))
    no_longer_interval second more (Values numbers) written is = absurd written

    pair_texts : {rest : List (List ℕ)} {high : Option ℤ} (second : SignedThen next high rest) → rest ≡ [] → texts ≡ init_texts (Pair first.negative first.digits second.negative second.digits)
    pair_texts second over = first.texts_are ∙ ap (λ ts. number_texts first.negative first.digits ++ ts) (points ∙ ap (λ ts. codes ".." ∷ ts) (number_texts_end second over))

    -- where a number passes its limit, no value is made of the two
    pub interval_passes : {rest : List (List ℕ)} {high : Option ℤ} → SignedThen next high rest → rest ≡ [] → ((m n : ℤ) → low ≡ Some m → high ≡ Some n → ⊥) → ReadsInit Interval texts None
    interval_passes {high = high} second over passes = record {
      text = Pair first.negative first.digits second.negative second.digits;
      texts_are = pair_texts second over;
      written = (first.written, second.written);
      is_made = λ small. by low high first.negative second.negative first.digits second.digits first.is_made second.is_made passes small;
    }
      where
        by : (low high : Option ℤ) (negative other : Bool) (digits others : List ℕ) → IsSignedOf negative digits low → IsSignedOf other others high → ((m n : ℤ) → low ≡ Some m → high ≡ Some n → ⊥) → WritesUpTo 1000000000000 digits × WritesUpTo 1000000000000 others → ⊥
        by None high negative sign digits others is other passes small = is small.0
        by (Some m) None negative sign digits others is other passes small = other small.1
        by (Some m) (Some n) negative sign digits others is other passes small = passes m n refl refl

pair_value : {negative negative' other other' : Bool} {digits digits' others others' : List ℕ} → negative ≡ negative' → digits ≡ digits' → other ≡ other' → others ≡ others' → Pair negative digits other others ≡ Pair negative' digits' other' others'
pair_value a b c d = cc

-- two numbers were read
pub interval_read : {texts after next rest : List (List ℕ)} (low high : ℤ) → SignedThen texts (Some low) after → after ≡ codes ".." ∷ next → SignedThen next (Some high) rest → rest ≡ []
    → ReadsInit Interval texts (Some (property.Pair (to_z w64 (of_z w64 low)) (to_z w64 (of_z w64 high))))
interval_read {texts = texts} low high first points second over =
    let (sign, digits, within, small) = first.is_made in
    let (also_sign, more_digits, also_within, also_small) = second.is_made in
    subst (λ m. ReadsInit Interval texts (Some (property.Pair m (to_z w64 (of_z w64 high))))) (sym (within_in_word low within))
    (subst (λ n. ReadsInit Interval texts (Some (property.Pair low n))) (sym (within_in_word high also_within)) (record {
      text = Pair first.negative first.digits second.negative second.digits;
      texts_are = pair_texts first points second over;
      written = (first.written, second.written);
      is_made = (pair_value sign digits also_sign more_digits, is_interval within also_within, (small, also_small));
    }))

max_written : (init : InitText) → IsInitText Min init → IsInitText Max init
max_written (Single negative digits) written = written
max_written (Pair negative digits other others) written = absurd written
max_written (Values numbers) written = absurd written

max_kind : {value : Prop} → IsOfKind Min value → IsOfKind Max value
max_kind (is_min within) = is_max within

all_written : (init : InitText) → IsInitText SomeBits init → IsInitText AllBits init
all_written (Single negative digits) written = absurd written
all_written (Pair negative digits other others) written = absurd written
all_written (Values numbers) written = written

all_kind : {value : Prop} → IsOfKind SomeBits value → IsOfKind AllBits value
all_kind (is_some set) = is_all set

-- what is read of a number or a set serves both kinds
pub as_max : {texts : List (List ℕ)} {made : Option Prop} → ReadsInit Min texts made → ReadsInit Max texts made
as_max {texts = texts} {made = made} read = by read.text made read.texts_are read.written read.is_made
  where
    by : (text : InitText) (made : Option Prop) → texts ≡ init_texts text → IsInitText Min text → IsInitOf Min text made → ReadsInit Max texts made
    by text None is written passes = record { text = text; texts_are = is; written = max_written text written; is_made = passes }
    by text (Some value) is written (same, kind, small) = record { text = text; texts_are = is; written = max_written text written; is_made = (same, max_kind kind, small) }

pub as_all : {texts : List (List ℕ)} {made : Option Prop} → ReadsInit SomeBits texts made → ReadsInit AllBits texts made
as_all {texts = texts} {made = made} read = by read.text made read.texts_are read.written read.is_made
  where
    by : (text : InitText) (made : Option Prop) → texts ≡ init_texts text → IsInitText SomeBits text → IsInitOf SomeBits text made → ReadsInit AllBits texts made
    by text None is written passes = record { text = text; texts_are = is; written = all_written text written; is_made = passes }
    by text (Some value) is written (same, kind, small) = record { text = text; texts_are = is; written = all_written text written; is_made = (same, all_kind kind, small) }

-- the same of an answer
pub max_read : {kind : Kind} (texts : List (List ℕ)) (read : Option (Option Prop)) → kind ≡ Max → IfSome read (ReadsInit Min texts) → IfSome read (ReadsInit kind texts)
max_read texts None is reads = tt
max_read texts (Some made) is reads = subst (λ kind. ReadsInit kind texts made) (sym is) (as_max reads)

pub all_read : {kind : Kind} (texts : List (List ℕ)) (read : Option (Option Prop)) → kind ≡ AllBits → IfSome read (ReadsInit SomeBits texts) → IfSome read (ReadsInit kind texts)
all_read texts None is reads = tt
all_read texts (Some made) is reads = subst (λ kind. ReadsInit kind texts made) (sym is) (as_all reads)
