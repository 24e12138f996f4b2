-- What comes first in the bytes of a line, and the fault of a bad byte.
use Rattle.std.proofs.Common.{◌≡◌, ℕ, ◌+◌, true, List, [], ◌∷◌, ◌++◌, length, take, drop, refl, sym, ap, subst, ◌∙◌, append_assoc, arith, length-append, length-take-le, take-append-drop}
use Rattle.std.specs.List.{list_all, prefix_len}
use Rattle.std.proofs.lemmas.Bool.{and_from}
use Rattle.std.proofs.lemmas.List.{nil_from_length}
use Rattle.std.proofs.lemmas.List.Folds.{list_all-append}
use Rattle.std.proofs.lemmas.List.Sums.{prefix_len-le-length}
use Rattle.hk_text.specs.declared.tokenizer.Next.{Next}
use Rattle.hk_text.specs.declared.tokenizer.Next.TheVariants.{Found, Quiet, Stuck}
use Rattle.hk_text.specs.declared.tokenizer.TextFault.{TextFault}
use Rattle.hk_text.specs.declared.tokenizer.TextFault.TheVariants.{NotAscii, BadByte, Memory}
use Rattle.hk_text.specs.Bytes.{is_blank}
use Rattle.hk_text.specs.inside.Steps.{ComesNext, IsFaultAt}
use Rattle.hk_text.specs.Tokens.{IsQuiet, IsBadByte, IsFaultOf}
use Rattle.hk_text.proofs.Fronts.{list_all-front}

-- blanks beside blanks are blanks
both_blank : (xs ys : List ℕ) → list_all is_blank xs ≡ true → list_all is_blank ys ≡ true → list_all is_blank (xs ++ ys) ≡ true
both_blank xs ys x y = list_all-append is_blank xs ys ∙ and_from (list_all is_blank xs) (list_all is_blank ys) x y

-- what comes first comes first after blanks too, that much further on
after_blanks : (place : ℕ) (gap bytes : List ℕ) (next : Next) → list_all is_blank gap ≡ true → ComesNext (place + length gap) bytes next → ComesNext place (gap ++ bytes) next
after_blanks place gap bytes (Found token rest) blank comes = record {
  gap = gap ++ comes.gap;
  text = comes.text;
  parts = ap (λ xs. gap ++ xs) comes.parts ∙ sym (append_assoc gap comes.gap (comes.text ++ rest.now));
  blank = both_blank gap comes.gap blank comes.blank;
  start = omega (arith, comes.start, length-append gap comes.gap);
  end = comes.end;
  longest = comes.longest;
}
after_blanks place gap bytes Quiet blank comes = record {
  gap = gap ++ comes.gap;
  comment = comes.comment;
  parts = ap (λ xs. gap ++ xs) comes.parts ∙ sym (append_assoc gap comes.gap comes.comment);
  blank = both_blank gap comes.gap blank comes.blank;
  begins = comes.begins;
}
after_blanks place gap bytes (Stuck column byte) blank comes = record {
  gap = gap ++ comes.gap;
  rest = comes.rest;
  parts = ap (λ xs. gap ++ xs) comes.parts ∙ sym (append_assoc gap comes.gap (byte ∷ comes.rest));
  blank = both_blank gap comes.gap blank comes.blank;
  counted = omega (arith, comes.counted, length-append gap comes.gap);
  no_blank = comes.no_blank;
  no_comment = comes.no_comment;
  no_token = comes.no_token;
}

-- what comes first in the rest after the blanks in front comes first
pub after_gap : (place size : ℕ) (bytes rest : List ℕ) (next : Next) → size ≡ prefix_len is_blank bytes → drop size bytes ≡ rest → ComesNext (place + size) rest next → ComesNext place bytes next
after_gap place size bytes rest next counted left comes =
    let gap = take size bytes in
    let fits : length gap ≡ size = length-take-le size bytes (omega (arith, counted, prefix_len-le-length is_blank bytes)) in
    let blank : list_all is_blank gap ≡ true = ap (λ n. list_all is_blank (take n bytes)) counted ∙ list_all-front is_blank bytes in
    subst (λ (xs : List ℕ). ComesNext place xs next) (ap (λ xs. gap ++ xs) (sym left) ∙ take-append-drop size bytes)
    (after_blanks place gap rest next blank (subst (λ (n : ℕ). ComesNext (place + n) rest next) (sym fits) comes))

-- the bytes are quiet where none is left after the blanks in front
pub nothing_after_gap : (size : ℕ) (bytes rest : List ℕ) → size ≡ prefix_len is_blank bytes → drop size bytes ≡ rest → length rest ≡ 0 → IsQuiet bytes
nothing_after_gap size bytes rest counted left none =
    let is : rest ≡ [] = nil_from_length rest none in
    let quiet : IsQuiet [] = record { gap = []; comment = []; parts = refl; blank = refl; begins = tt } in
    after_gap 0 size bytes rest Quiet counted left (subst IsQuiet (sym is) quiet)

-- the fault of the first bad byte is the line's
pub fault_of_bad : (line : List ℕ) (column byte : ℕ) (fault : TextFault) → IsBadByte line column byte → IsFaultAt column byte fault → IsFaultOf line fault
fault_of_bad line column byte (NotAscii named) bad is = (byte, subst (λ (n : ℕ). IsBadByte line n byte) (sym is.0) bad, is.1)
fault_of_bad line column byte (BadByte named) bad is = (byte, subst (λ (n : ℕ). IsBadByte line n byte) (sym is.0) bad, is.1)
fault_of_bad line column byte Memory bad is = tt
