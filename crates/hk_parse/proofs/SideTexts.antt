-- The texts of properties, and of kinds.
use Rattle.std.proofs.Common.{◌≡◌, ℕ, Option, List, ◌∷◌, refl, sym, ap, ap₂, ◌∙◌, subst}
use Rattle.hk_kinds.specs.declared.kinds.Kind.{Kind}
use Rattle.hk_kinds.specs.declared.kinds.Kind.TheVariants.{Min, Max, Interval, SomeBits, AllBits}
use Rattle.hk_kinds.specs.declared.properties.Prop.{Prop}
use Rattle.hk_text.specs.Lexemes.{IsWord}
use Rattle.hk_parse.specs.inside.Headers.{ArePropertyTexts, ReadsInit, ReadsProperty}
use Rattle.hk_parse.specs.LineTexts.{InitText, IsInitText, init_texts}
use Rattle.hk_print.specs.Printed.{kind_word}
use Rattle.hk_text.proofs.TokenTexts.{differ, same_first, same_rest}

-- the words of kinds are words
kind_word_word : (kind : Kind) → IsWord (kind_word kind)
kind_word_word Min = (refl, refl)
kind_word_word Max = (refl, refl)
kind_word_word Interval = (refl, refl)
kind_word_word SomeBits = (refl, refl)
kind_word_word AllBits = (refl, refl)

-- kinds with one word are one
pub kind_one : (kind other : Kind) → kind_word kind ≡ kind_word other → kind ≡ other
kind_one Min Min same = refl
kind_one Min Max same = absurd (differ same refl)
kind_one Min Interval same = absurd (differ same refl)
kind_one Min SomeBits same = absurd (differ same refl)
kind_one Min AllBits same = absurd (differ same refl)
kind_one Max Min same = absurd (differ same refl)
kind_one Max Max same = refl
kind_one Max Interval same = absurd (differ same refl)
kind_one Max SomeBits same = absurd (differ same refl)
kind_one Max AllBits same = absurd (differ same refl)
kind_one Interval Min same = absurd (differ same refl)
kind_one Interval Max same = absurd (differ same refl)
kind_one Interval Interval same = refl
kind_one Interval SomeBits same = absurd (differ same refl)
kind_one Interval AllBits same = absurd (differ same refl)
kind_one SomeBits Min same = absurd (differ same refl)
kind_one SomeBits Max same = absurd (differ same refl)
kind_one SomeBits Interval same = absurd (differ same refl)
kind_one SomeBits SomeBits same = refl
kind_one SomeBits AllBits same = absurd (differ same refl)
kind_one AllBits Min same = absurd (differ same refl)
kind_one AllBits Max same = absurd (differ same refl)
kind_one AllBits Interval same = absurd (differ same refl)
kind_one AllBits SomeBits same = absurd (differ same refl)
kind_one AllBits AllBits same = refl

-- no property without a name
pub no_property_name : {texts : List (List ℕ)} {name : List ℕ} {kind : Kind} {init : InitText} → ((word : List ℕ) (rest : List (List ℕ)) → texts ≡ word ∷ rest → IsWord word → ⊥) → ArePropertyTexts texts name kind init → ⊥
no_property_name none are = none _ _ are.texts_are are.is_word

module _ {texts after : List (List ℕ)} {word : List ℕ} (begins : texts ≡ word ∷ after) where
  -- nor without a word after it
  pub no_kind_word : {name : List ℕ} {kind : Kind} {init : InitText} → ((word : List ℕ) (rest : List (List ℕ)) → after ≡ word ∷ rest → IsWord word → ⊥) → ArePropertyTexts texts name kind init → ⊥
  no_kind_word {kind = kind} none are = none _ _ (same_rest begins are.texts_are) (kind_word_word kind)

  module _ {rest : List (List ℕ)} {spelled : List ℕ} (goes_on : after ≡ spelled ∷ rest) where
    -- nor where that is the word of no kind
    pub no_kind : {name : List ℕ} {kind : Kind} {init : InitText} → ((kind : Kind) → kind_word kind ≡ spelled → ⊥) → ArePropertyTexts texts name kind init → ⊥
    no_kind {kind = kind} none are = none kind (same_first (same_rest begins are.texts_are) goes_on)

    -- nor where no initial value of the kind follows
    pub no_init : {name : List ℕ} {kind : Kind} {init : InitText} (found : Kind) → kind_word found ≡ spelled → ((init : InitText) → IsInitText found init → rest ≡ init_texts init → ⊥) → ArePropertyTexts texts name kind init → ⊥
    no_init {kind = kind} {init = init} found is none are =
        let same : kind ≡ found = kind_one kind found (same_first (same_rest begins are.texts_are) goes_on ∙ sym is) in
        none init (subst (λ k. IsInitText k init) same are.written) (same_rest goes_on (same_rest begins are.texts_are))

-- a name, the word of a kind and an initial value are a property
pub property_read : {texts after rest : List (List ℕ)} {name word : List ℕ} {kind : Kind} {made : Option Prop} → texts ≡ name ∷ after → IsWord name → after ≡ word ∷ rest → kind_word kind ≡ word → ReadsInit kind rest made → ReadsProperty texts name kind made
property_read {name = name} begins named second spelled read = record {
  init = read.text;
  texts_are = record { texts_are = begins ∙ ap (λ ts. name ∷ ts) (second ∙ ap₂ (λ t ts. t ∷ ts) (sym spelled) read.texts_are); is_word = named; written = read.written };
  is_made = read.is_made;
}
