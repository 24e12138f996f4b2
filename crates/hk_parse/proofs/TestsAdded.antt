-- What the line of a test adds, and why one is bad.
use Rattle.std.proofs.Common.{◌≡◌, ◌≤◌, ℕ, true, None, Some, Result, Ok, List, ◌∷◌, sym, ap, ◌∙◌, subst, arith}
use Rattle.std.specs.Prelude.{codes}
use Rattle.std.proofs.lemmas.Bool.{and_parts, leb-true}
use Rattle.hk_spec.specs.Scopes as scopes
use Rattle.hk_spec.specs.Scopes.{is_good_cond}
use Rattle.hk_spec.specs.declared.expressions.Cond.{Cond}
use Rattle.hk_parse.specs.BlockFaults.{GoesOn, IsLineFault}
use Rattle.hk_parse.specs.inside.LineParts.{IsTestFault}
use Rattle.hk_parse.specs.BlockLines.{Part, MayStand, Adds, adds_test, test_names}
use Rattle.hk_terms.specs.Names.{scope_of}
use Rattle.hk_parse.specs.Blocks.{FitsTest}
use Rattle.hk_terms.specs.CondTexts.{CondText}
use Rattle.hk_parse.specs.LineTexts.{Test, SaysLine}
use Rattle.hk_terms.specs.Names.{Names, cond_depth}
use Rattle.hk_exprs.specs.Reads.{ReadsCond}
use Rattle.hk_terms.specs.Trees.{cond_text}
use Rattle.hk_parse.specs.declared.faults.BlockFault.{BlockFault}
use Rattle.hk_parse.specs.declared.faults.BlockFault.TheVariants.{Syntax, Name, Limit, Memory}
use Rattle.hk_terms.specs.declared.flaws.Flaw.{Flaw}
use Rattle.hk_terms.proofs.Depths.{cond_deep}
use Rattle.hk_parse.proofs.LineWords.{test_line}

-- what is written of a good condition is not too deep
cond_shallow : (names : Names) {text : CondText} (c : Cond) → cond_text names c ≡ text → is_good_cond (scope_of names) c ≡ true → cond_depth text ≤ 32
cond_shallow names {text = text} c is good =
    let depth : cond_depth text ≡ scopes.cond_depth c = ap cond_depth (sym is) ∙ cond_deep names c in
    omega (arith, depth, leb-true (scopes.cond_depth c) 32 (and_parts (scopes.cond_fits (scope_of names) c) _ good).1)

says_test : {names : Names} {texts : List (List ℕ)} {made : Result Cond Flaw} (read : ReadsCond names texts made) → SaysLine (codes "test" ∷ texts) (Test read.text)
says_test read = record { texts_are = ap (λ ts. codes "test" ∷ ts) read.texts_are; written = read.written }

-- a test that was read may be added
pub test_fits : (part : Part) (c : Cond) {texts : List (List ℕ)} → part.test ≡ None → ReadsCond (test_names part) texts (Ok c) → FitsTest part c
test_fits part c awaited read = let (same, good, named, small) = read.is_made in record { awaited = awaited; good = good }

-- and goes on
pub test_goes_on : (before after : Part) (c : Cond) {texts : List (List ℕ)} → before.test ≡ None → ReadsCond (test_names before) texts (Ok c) → after ≡ record before { test = Some c } → GoesOn before (codes "test" ∷ texts) after
test_goes_on before after c awaited read is =
    let (same, good, named, small) = read.is_made in record {
      line = Test read.text;
      says = says_test read;
      good = record {
        stands = awaited;
        named = λ fault. fault named;
        small = λ fault. fault (small, cond_shallow (test_names before) c same good);
        adds = subst (λ part. Adds before (Test read.text) part) (sym is) (subst (λ text. Adds before (Test text) (record before { test = Some c })) same (adds_test good));
      };
    }

-- or it is bad
pub test_fault : (part : Part) (fault : BlockFault) (texts : List (List ℕ)) → part.test ≡ None → IsTestFault (test_names part) texts fault → IsLineFault part (codes "test" ∷ texts) fault
test_fault part Syntax texts awaited none = λ line says. test_line line says (λ l. MayStand part l → ⊥) (λ c written are stands. none c written are)
test_fault part Name texts awaited read = (Test read.text, says_test read, awaited, read.is_made)
test_fault part Limit texts awaited read = (Test read.text, says_test read, awaited, (λ fault. fault read.is_made.0), read.is_made.1)
test_fault part Memory texts awaited wrong = tt
