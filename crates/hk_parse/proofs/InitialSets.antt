-- Initial values that are sets: numbers in braces.
use Rattle.std.proofs.Common.{◌≡◌, ◌^◌, ℕ, Bool, true, All, None, Some, Result, Ok, Err, List, [], ◌∷◌, ◌++◌, refl, sym, ap, ◌∙◌, subst}
use Rattle.std.specs.Prelude.{codes}
use Rattle.std.proofs.lemmas.Bool.{and_parts, ltb-true}
use Rattle.hk_kinds.specs.Sets.{IsSet}
use Rattle.hk_kinds.specs.Shapes.{is_some}
use Rattle.hk_kinds.specs.declared.kinds.Kind.TheVariants.{SomeBits}
use Rattle.hk_kinds.specs.declared.properties.Prop.TheVariants as property
use Rattle.hk_spec.specs.Scopes.{is_good_set, set_fits, set_fits_step}
use Rattle.hk_spec.specs.declared.expressions.SetExpr.TheFolds.{fold-roll-SetExpr}
use Rattle.hk_spec.specs.declared.expressions.SetExpr.TheOpen.{SetExpr-F}
use Rattle.hk_spec.specs.declared.expressions.SetExpr.TheVariants.{Lit, rolls-Lit}
use Rattle.hk_terms.specs.Atoms.{IsBitsOf, ReadsValues}
use Rattle.hk_terms.specs.Names.{scope_of}
use Rattle.hk_parse.specs.inside.Headers.{ReadsInit}
use Rattle.hk_parse.specs.LineTexts.{Single, Pair, Values, init_texts}
use Rattle.hk_terms.specs.Operands.{Operand, Set, AtomThen, atom_word, atom_item, atom_low, atom_high, atom_number, atom_one, atom_values}
use Rattle.hk_terms.specs.Names.{Names, WritesUpTo}
use Rattle.hk_terms.specs.SetTexts as sets
use Rattle.hk_terms.specs.SetTexts.{SetText, AreRisingNumbers, listed}
use Rattle.hk_parse.specs.LineTrees.{init_text}
use Rattle.hk_terms.specs.Trees.{set_text, set_text_step}
use Rattle.hk_terms.specs.declared.flaws.Flaw.{Flaw}
use Rattle.hk_terms.specs.declared.flaws.Flaw.TheVariants.{Name, Limit}
use Rattle.hk_parse.proofs.InitialTexts.{AreNoInit}
use Rattle.hk_terms.proofs.MachineAtoms.{atom_same}
use Rattle.hk_text.proofs.TokenTexts.{same_rest}

-- texts of numbers in braces begin with them as an operand
values_begin : {texts numbers : List (List ℕ)} → AreRisingNumbers numbers → texts ≡ init_texts (Values numbers) → AtomThen texts (Set (sets.Values numbers)) []
values_begin rising is = atom_values is rising

-- where no brace begins, there are no numbers in braces
pub no_brace : {texts : List (List ℕ)} → ((rest : List (List ℕ)) → texts ≡ codes "{" ∷ rest → ⊥) → AreNoInit SomeBits texts
no_brace none (Single negative digits) written is = absurd written
no_brace none (Pair negative digits other others) written is = absurd written
no_brace none (Values numbers) written is = none _ is

-- nor where no numbers follow the brace
pub no_values : {texts after : List (List ℕ)} → texts ≡ codes "{" ∷ after → ((numbers rest : List (List ℕ)) → after ≡ listed numbers ++ (codes "}" ∷ rest) → AreRisingNumbers numbers → ⊥) → AreNoInit SomeBits texts
no_values brace none (Single negative digits) written is = absurd written
no_values brace none (Pair negative digits other others) written is = absurd written
no_values brace none (Values numbers) written is = none numbers [] (same_rest brace is) written

-- nor where more follows them
pub no_longer_values : {texts after rest : List (List ℕ)} {made : Result ℕ Flaw} → texts ≡ codes "{" ∷ after → ReadsValues (codes "{" ∷ after) made rest → (rest ≡ [] → ⊥) → AreNoInit SomeBits texts
no_longer_values brace read more (Single negative digits) written is = absurd written
no_longer_values brace read more (Pair negative digits other others) written is = absurd written
no_longer_values brace read more (Values numbers) written is = more (atom_same read.begins (values_begin written (sym brace ∙ is))).1

-- the operand's texts are those of the numbers
values_texts : {texts rest : List (List ℕ)} {x : Operand} → AtomThen texts x rest → (numbers : List (List ℕ)) → x ≡ Set (sets.Values numbers) → rest ≡ [] → (texts ≡ init_texts (Values numbers)) × AreRisingNumbers numbers
values_texts (atom_word is word opening point) numbers same over = let never : ⊥ = cc in absurd never
values_texts (atom_item is word) numbers same over = let never : ⊥ = cc in absurd never
values_texts (atom_low is word) numbers same over = let never : ⊥ = cc in absurd never
values_texts (atom_high is word) numbers same over = let never : ⊥ = cc in absurd never
values_texts (atom_number is number) numbers same over = let never : ⊥ = cc in absurd never
values_texts (atom_one is) numbers same over = let never : ⊥ = cc in absurd never
values_texts (atom_values {numbers = others} {rest = rest} is rising) numbers same over =
    let one : others ≡ numbers = cc in
    (is ∙ ap (λ ns. codes "{" ∷ (listed ns ++ codes "}" ∷ rest)) one ∙ ap (λ rest. codes "{" ∷ (listed numbers ++ codes "}" ∷ rest)) over, subst AreRisingNumbers one rising)

-- the members of a set that is written with these numbers are these
values_same : {numbers : List (List ℕ)} (bits : ℕ) (names : Names) → set_text names (Lit bits) ≡ sets.Values numbers → init_text (property.Bits bits) ≡ Values numbers
values_same bits names same = by (sym (fold-roll-SetExpr SetText (set_text_step names) (SetExpr-F.Lit bits)) ∙ ap (set_text names) (rolls-Lit bits) ∙ same)
  where
    by : {members numbers : List (List ℕ)} → sets.Values members ≡ sets.Values numbers → Values members ≡ Values numbers
    by same = cc

-- a good literal is a set
set_is_small : (names : Names) (bits : ℕ) → is_good_set (scope_of names) (Lit bits) ≡ true → IsSet bits
set_is_small names bits good =
    ltb-true bits (2 ^ 128) (sym (fold-roll-SetExpr Bool (set_fits_step (scope_of names)) (SetExpr-F.Lit bits)) ∙ ap (set_fits (scope_of names)) (rolls-Lit bits) ∙ (and_parts _ _ good).0)

-- what was made is known by another name
pub values_made : {texts rest : List (List ℕ)} {made other : Result ℕ Flaw} → ReadsValues texts made rest → made ≡ other → ReadsValues texts other rest
values_made {texts = texts} {rest = rest} read same = subst (λ m. ReadsValues texts m rest) same read

-- a set was read
pub set_read : {texts after rest : List (List ℕ)} {bits : ℕ} → texts ≡ codes "{" ∷ after → ReadsValues (codes "{" ∷ after) (Ok bits) rest → rest ≡ [] → ReadsInit SomeBits texts (Some (property.Bits bits))
set_read {bits = bits} brace read over =
    let texts_are = values_texts read.begins read.numbers refl over in
    let (same, good, named, small) = read.is_made (record { params = []; down = []; up = [] }) in
    record { text = Values read.numbers; texts_are = brace ∙ texts_are.0; written = texts_are.1; is_made = (values_same bits (record { params = []; down = []; up = [] }) same, is_some (set_is_small (record { params = []; down = []; up = [] }) bits good), small) }

-- or its numbers pass the limit
pub set_passes : {texts after rest : List (List ℕ)} (flaw : Flaw) → texts ≡ codes "{" ∷ after → ReadsValues (codes "{" ∷ after) (Err flaw) rest → rest ≡ [] → ReadsInit SomeBits texts None
set_passes flaw brace read over =
    let texts_are = values_texts read.begins read.numbers refl over in
    record { text = Values read.numbers; texts_are = brace ∙ texts_are.0; written = texts_are.1; is_made = passes read.numbers flaw read.is_made }
  where
    passes : (numbers : List (List ℕ)) (flaw : Flaw) → IsBitsOf numbers (Err flaw) → All (WritesUpTo 127) numbers → ⊥
    passes numbers Name never small = never
    passes numbers Limit above small = above small
