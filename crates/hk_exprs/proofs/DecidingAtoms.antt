-- Whether texts begin with an operand that no parenthesis stands around, or with a mark.
use Rattle.std.proofs.Common.{◌≡◌, ℕ, ◌<◌, ◌⊎◌, inl, inr, false, List, [], ◌∷◌, ◌++◌, Option, Some, None, length, bytes_eq, codes, refl, sym, ap, ap₂, subst, ◌∙◌, arith}
use Rattle.std.specs.List.Sorted.{IsStrictlyIncreasing}
use Rattle.std.proofs.Math.Decide.{map_dec}
use Rattle.std.proofs.lemmas.List.{length-append}
use Rattle.hk_text.specs.Lexemes.{IsWord}
use Rattle.hk_text.specs.Numbers.{IsNumber}
use Rattle.hk_text.proofs.Digits.{IsNumber-one}
use Rattle.hk_terms.specs.declared.marks.Mark.{Mark}
use Rattle.hk_terms.specs.declared.marks.Mark.TheVariants.{Union, Common, Without, Plus, Minus, Times, AtMost, Below, AtLeast, Above, Equal, In, NotIn, Sub, And, Or, Comma}
use Rattle.hk_terms.specs.SetTexts.{Values, listed, AreNumbers, no_number, then_number, AreRisingNumbers}
use Rattle.hk_terms.specs.SetTexts as sets
use Rattle.hk_terms.specs.NumTexts as nums
use Rattle.hk_terms.specs.Operands.{mark_text, Operand, Word, Num, Set, AtomThen, atom_word, atom_item, atom_low, atom_high, atom_number, atom_one, atom_values}
use Rattle.hk_exprs.specs.inside.Machines.{BeginsMark, BeginsNumber}
use Rattle.hk_text.proofs.TokenTexts.{eq_same, same_first, same_rest}
use Rattle.hk_exprs.proofs.MachineMarks.{mark_in, mark_at, mark_at_text, none_some}
use Rattle.hk_terms.proofs.MachineAtoms.{atom_some, listed_one}
use Rattle.hk_exprs.proofs.FramesTexts.{some_either}
use Rattle.hk_text.proofs.Deciding.{dec_both, dec_either, dec_not, dec_rising, dec_text, dec_word, dec_number, dec_begins, After, dec_after, dec_first}

-- numbers, at least one, and the brace after them
abbrev Items : List (List ℕ) → Type 0
Items texts = (first : List ℕ) × (numbers : List (List ℕ)) × (values : List ℕ) × (rest : List (List ℕ)) × (texts ≡ listed (first ∷ numbers) ++ (codes "}" ∷ rest)) × AreNumbers (first ∷ numbers) values

short_items : (texts : List (List ℕ)) → length texts < 2 → Items texts → ⊥
short_items texts short (first, [], values, rest, same, written) = let long = ap length same in omega (arith, long, short)
short_items texts short (first, second ∷ numbers, values, rest, same, written) = let long = ap length same in omega (arith, long, short)

dec_items : (texts : List (List ℕ)) → Dec (Items texts)
dec_items [] = no (short_items [] (omega arith))
dec_items (text ∷ []) = no (short_items (text ∷ []) (omega arith))
dec_items (text ∷ next ∷ more) = map_dec to from (dec_both (dec_number text) (dec_either (dec_text next (codes "}")) (dec_both (dec_text next (codes ",")) (dec_items more))))
  where
    to : ((n : ℕ) × IsNumber text n) × ((next ≡ codes "}") ⊎ ((next ≡ codes ",") × Items more)) → Items (text ∷ next ∷ more)
    to ((n, number), inl end) = (text, [], n ∷ [], more, ap (λ t. text ∷ t ∷ more) end, then_number number no_number)
    to ((n, number), inr (comma, (first, numbers, values, rest, same, written))) = (text, first ∷ numbers, n ∷ values, rest, ap₂ (λ t ts. text ∷ t ∷ ts) comma same, then_number number written)

    from : Items (text ∷ next ∷ more) → ((n : ℕ) × IsNumber text n) × ((next ≡ codes "}") ⊎ ((next ≡ codes ",") × Items more))
    from (first, [], values, rest, same, then_number {n = n} number written) = ((n, subst (λ t. IsNumber t n) (same_first same refl) number), inl (same_first refl (same_rest refl same)))
    from (first, second ∷ numbers, values, rest, same, then_number {n = n} {numbers = later} number written) =
        ((n, subst (λ t. IsNumber t n) (same_first same refl) number), inr (same_first refl (same_rest refl same), (second, numbers, later, rest, same_rest refl (same_rest refl same), written)))

-- numbers, and the brace after them
abbrev Listed : List (List ℕ) → Type 0
Listed texts = (numbers : List (List ℕ)) × (values : List ℕ) × (rest : List (List ℕ)) × (texts ≡ listed numbers ++ (codes "}" ∷ rest)) × AreNumbers numbers values

dec_items_or_none : (texts : List (List ℕ)) → Dec (Listed texts)
dec_items_or_none texts = map_dec to from (dec_either (dec_first (codes "}") texts) (dec_items texts))
  where
    to : ((rest : List (List ℕ)) × (texts ≡ codes "}" ∷ rest)) ⊎ Items texts → Listed texts
    to (inl (rest, same)) = ([], [], rest, same, no_number)
    to (inr (first, numbers, values, rest, same, written)) = (first ∷ numbers, values, rest, same, written)

    from : Listed texts → ((rest : List (List ℕ)) × (texts ≡ codes "}" ∷ rest)) ⊎ Items texts
    from ([], values, rest, same, written) = inl (rest, same)
    from (first ∷ numbers, values, rest, same, written) = inr (first, numbers, values, rest, same, written)

are_one : (texts : List (List ℕ)) {xs ys : List ℕ} → AreNumbers texts xs → AreNumbers texts ys → xs ≡ ys
are_one [] no_number no_number = refl
are_one (text ∷ texts) (then_number {n = m} one written) (then_number {n = n} two other) = ap₂ (λ x xs. x ∷ xs) (IsNumber-one text m n one two) (are_one texts written other)

-- numbers that rise, and the brace after them
abbrev pub Rising : List (List ℕ) → Type 0
Rising texts = (numbers : List (List ℕ)) × (rest : List (List ℕ)) × (texts ≡ listed numbers ++ (codes "}" ∷ rest)) × AreRisingNumbers numbers

-- whether texts begin so
pub dec_rising_numbers : (texts : List (List ℕ)) → Dec (Rising texts)
dec_rising_numbers texts = by (dec_items_or_none texts)
  where
    by : Dec (Listed texts) → Dec (Rising texts)
    by (yes (numbers, values, rest, same, written)) = map_dec
        (λ rising. (numbers, rest, same, record { numbers = values; written = written; rising = rising }))
        (λ some. again some.0 some.1 some.2 some.3)
        (dec_rising values)
      where
        again : (others after : List (List ℕ)) → texts ≡ listed others ++ (codes "}" ∷ after) → AreRisingNumbers others → IsStrictlyIncreasing values
        again others after other rising =
            let one = listed_one others numbers rising.written written (sym other ∙ same) in
            subst IsStrictlyIncreasing (are_one numbers (subst (λ ts. AreNumbers ts rising.numbers) one.0 rising.written) written) rising.rising
    by (no none) = no (λ some. none (some.0, some.3.numbers, some.1, some.2, some.3.written))

-- what follows a word alone
abbrev Plain : List (List ℕ) → Type 0
Plain rest = ((more : List (List ℕ)) × (rest ≡ codes "[" ∷ more) → ⊥) × ((more : List (List ℕ)) × (rest ≡ codes "." ∷ more) → ⊥)

abbrev Whatever : List (List ℕ) → Type 0
Whatever texts = Unit {0}

-- what follows a word
abbrev Tail : List (List ℕ) → Type 0
Tail rest = Plain rest ⊎ (After (codes "[") (After (codes "i") (After (codes "]") Whatever)) rest ⊎ (After (codes ".") (After (codes "lo") Whatever) rest ⊎ After (codes ".") (After (codes "hi") Whatever) rest))

dec_tail : (rest : List (List ℕ)) → Dec (Tail rest)
dec_tail rest =
    let any : (texts : List (List ℕ)) → Dec (Whatever texts) = λ texts. yes tt in
    dec_either (dec_both (dec_not (dec_first (codes "[") rest)) (dec_not (dec_first (codes ".") rest)))
    (dec_either (dec_after (codes "[") _ (dec_after (codes "i") _ (dec_after (codes "]") Whatever any)) rest)
    (dec_either (dec_after (codes ".") _ (dec_after (codes "lo") Whatever any) rest) (dec_after (codes ".") _ (dec_after (codes "hi") Whatever any) rest)))

-- texts that begin with an operand
abbrev pub Atom : List (List ℕ) → Type 0
Atom texts = (x : Operand) × (rest : List (List ℕ)) × AtomThen texts x rest

-- a text and the texts after it are an operand and more
abbrev Begun : List ℕ → List (List ℕ) → Type 0
Begun text rest = (IsWord text × Tail rest) ⊎ (((n : ℕ) × IsNumber text n) ⊎ ((text ≡ codes "{") × (After (codes "v") (After (codes "}") Whatever) rest ⊎ Rising rest)))

begun_atom : (text : List ℕ) (rest : List (List ℕ)) → Begun text rest → Atom (text ∷ rest)
begun_atom text rest (inl (word, inl (opening, point))) = (Word text, rest, atom_word refl word (λ more same. opening (more, same)) (λ more same. point (more, same)))
begun_atom text rest (inl (word, inr (inl (a, one, (b, two, (more, three, any)))))) =
    (Num (nums.Item text), more, atom_item (ap (λ ts. text ∷ ts) (one ∙ ap (λ ts. codes "[" ∷ ts) (two ∙ ap (λ ts. codes "i" ∷ ts) three))) word)
begun_atom text rest (inl (word, inr (inr (inl (a, one, (more, two, any)))))) = (Num (nums.Low text), more, atom_low (ap (λ ts. text ∷ ts) (one ∙ ap (λ ts. codes "." ∷ ts) two)) word)
begun_atom text rest (inl (word, inr (inr (inr (a, one, (more, two, any)))))) = (Num (nums.High text), more, atom_high (ap (λ ts. text ∷ ts) (one ∙ ap (λ ts. codes "." ∷ ts) two)) word)
begun_atom text rest (inr (inl (n, number))) = (Num (nums.Number false text), rest, atom_number refl number)
begun_atom text rest (inr (inr (brace, inl (a, one, (more, two, any))))) = (Set sets.One, more, atom_one (ap₂ (λ t ts. t ∷ ts) brace (one ∙ ap (λ ts. codes "v" ∷ ts) two)))
begun_atom text rest (inr (inr (brace, inr (numbers, more, same, rising)))) = (Set (Values numbers), more, atom_values (ap₂ (λ t ts. t ∷ ts) brace same) rising)

atom_begun : (text : List ℕ) (rest : List (List ℕ)) {x : Operand} {left : List (List ℕ)} → AtomThen (text ∷ rest) x left → Begun text rest
atom_begun text rest (atom_word is word opening point) =
    inl (subst IsWord (same_first is refl) word, inl (λ some. opening some.0 (same_rest is refl ∙ some.1), λ some. point some.0 (same_rest is refl ∙ some.1)))
atom_begun text rest (atom_item {rest = left} is word) = inl (subst IsWord (same_first is refl) word, inr (inl (codes "i" ∷ codes "]" ∷ left, same_rest refl is, (codes "]" ∷ left, refl, (left, refl, tt)))))
atom_begun text rest (atom_low {rest = left} is word) = inl (subst IsWord (same_first is refl) word, inr (inr (inl (codes "lo" ∷ left, same_rest refl is, (left, refl, tt)))))
atom_begun text rest (atom_high {rest = left} is word) = inl (subst IsWord (same_first is refl) word, inr (inr (inr (codes "hi" ∷ left, same_rest refl is, (left, refl, tt)))))
atom_begun text rest (atom_number {n = n} is number) = inr (inl (n, subst (λ t. IsNumber t n) (same_first is refl) number))
atom_begun text rest (atom_one {rest = left} is) = inr (inr (same_first refl is, inl (codes "}" ∷ left, same_rest refl is, (left, refl, tt))))
atom_begun text rest (atom_values {numbers = numbers} {rest = left} is rising) = inr (inr (same_first refl is, inr (numbers, left, same_rest refl is, rising)))

-- whether texts begin with an operand
pub dec_atom : (texts : List (List ℕ)) → Dec (Atom texts)
dec_atom [] = no (λ some. atom_some some.2 refl)
dec_atom (text ∷ rest) =
    let any : (texts : List (List ℕ)) → Dec (Whatever texts) = λ texts. yes tt in
    map_dec (begun_atom text rest) (λ some. atom_begun text rest some.2)
    (dec_either (dec_both (dec_word text) (dec_tail rest))
    (dec_either (dec_number text) (dec_both (dec_text text (codes "{")) (dec_either (dec_after (codes "v") _ (dec_after (codes "}") Whatever any) rest) (dec_rising_numbers rest)))))

-- an operand takes a text
pub atom_shorter : {texts rest : List (List ℕ)} {x : Operand} → AtomThen texts x rest → length rest < length texts
atom_shorter (atom_word is word opening point) = let long = ap length is in omega (arith, long)
atom_shorter (atom_item is word) = let long = ap length is in omega (arith, long)
atom_shorter (atom_low is word) = let long = ap length is in omega (arith, long)
atom_shorter (atom_high is word) = let long = ap length is in omega (arith, long)
atom_shorter (atom_number is number) = let long = ap length is in omega (arith, long)
atom_shorter (atom_one is) = let long = ap length is in omega (arith, long)
atom_shorter (atom_values {numbers = numbers} {rest = rest} is rising) =
    let long = ap length is in
    omega (arith, long, length-append (listed numbers) (codes "}" ∷ rest))

-- a mark that is found has the text
mark_in_text : (marks : List Mark) (text : List ℕ) {mark : Mark} → mark_in text marks ≡ Some mark → text ≡ mark_text mark
mark_in_text [] text same = absurd (none_some same)
mark_in_text (first ∷ more) text {mark = mark} same = elim (some_either (bytes_eq text (mark_text first)) same) [
  | inl here ↦ eq_same here.0 ∙ ap mark_text here.1
  | inr later ↦ mark_in_text more text later
]

mark_at_is : (text : List ℕ) {mark : Mark} → mark_at text ≡ Some mark → text ≡ mark_text mark
mark_at_is text same = mark_in_text (Union ∷ Common ∷ Without ∷ Plus ∷ Minus ∷ Times ∷ AtMost ∷ Below ∷ AtLeast ∷ Above ∷ Equal ∷ In ∷ NotIn ∷ Sub ∷ And ∷ Or ∷ Comma ∷ []) text same

-- whether a text is a mark, whether texts begin with one
dec_mark : (text : List ℕ) → Dec ((mark : Mark) × (text ≡ mark_text mark))
dec_mark text = by (mark_at text) refl
  where
    by : (o : Option Mark) → mark_at text ≡ o → Dec ((mark : Mark) × (text ≡ mark_text mark))
    by None none = no (λ some. none_some (sym none ∙ ap mark_at some.1 ∙ mark_at_text some.0))
    by (Some mark) same = yes (mark, mark_at_is text same)

pub dec_begins_mark : (texts : List (List ℕ)) → Dec (BeginsMark texts)
dec_begins_mark texts = map_dec
    (λ some. (some.3.0, some.1, some.2 ∙ ap (λ text. text ∷ some.1) some.3.1))
    (λ some. (mark_text some.0, some.1, some.2, (some.0, refl)))
    (dec_begins (λ text rest. (mark : Mark) × (text ≡ mark_text mark)) (λ text rest. dec_mark text) texts)

-- whether texts begin with a number
pub dec_begins_number : (texts : List (List ℕ)) → Dec (BeginsNumber texts)
dec_begins_number texts = map_dec
    (λ some. (some.0, some.3.0, some.1, some.2, some.3.1))
    (λ some. (some.0, some.2, some.3, (some.1, some.4)))
    (dec_begins (λ text rest. (n : ℕ) × IsNumber text n) (λ text rest. dec_number text) texts)
