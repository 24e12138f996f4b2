-- What a line adds, and why one is bad.
use Rattle.std.proofs.Common.{ℕ, Option, Result, Ok, Err, IfErr, OnOk, List, ◌∷◌, sym, ap, subst, inl, inr, arith}
use Rattle.hk_kinds.specs.declared.kinds.Kind.{Kind}
use Rattle.hk_kinds.specs.declared.properties.Prop.{Prop}
use Rattle.hk_spec.specs.declared.expressions.Side.{Side}
use Rattle.hk_spec.specs.declared.expressions.Side.TheVariants.{Down, Up}
use Rattle.hk_parse.specs.BlockFaults.{GoesOn, IsLineFault}
use Rattle.hk_parse.specs.inside.LineParts.{IsDeclared, IsPropertyFault}
use Rattle.hk_parse.specs.BlockLines.{Part, MayStand, Adds, adds_property}
use Rattle.hk_parse.specs.Blocks.{AwaitsProperty}
use Rattle.hk_parse.specs.inside.Headers.{ArePropertyTexts, IsInitOf, ReadsProperty}
use Rattle.hk_parse.specs.LineTexts.{Property, InitText, side_word, SaysLine}
use Rattle.hk_parse.specs.declared.faults.BlockFault.{BlockFault}
use Rattle.hk_parse.specs.declared.faults.BlockFault.TheVariants.{Syntax, Name, Limit, Memory}

-- the texts of a property are those of its line
says_property : (side : Side) {texts : List (List ℕ)} {name : List ℕ} {kind : Kind} {init : InitText} → ArePropertyTexts texts name kind init → SaysLine (side_word side ∷ texts) (Property side name kind init)
says_property side are = record { texts_are = ap (λ ts. side_word side ∷ ts) are.texts_are; written = (are.is_word, are.written) }

-- a property that is awaited may stand
may_stand : (part : Part) (side : Side) (name : List ℕ) (kind : Kind) (init : InitText) → AwaitsProperty part side → MayStand part (Property side name kind init)
may_stand part Down name kind init awaited = awaited
may_stand part Up name kind init awaited = awaited

-- a property that was read and declared goes on
pub property_goes_on : (before : Part) (side : Side) (after : Part) {texts : List (List ℕ)} {name : List ℕ} {kind : Kind} {made : Option Prop} → AwaitsProperty before side → ReadsProperty texts name kind made → IsDeclared before side name kind made after → GoesOn before (side_word side ∷ texts) after
property_goes_on before side after {texts = texts} {name = name} {kind = kind} awaited read declared =
    let (same, of_kind, small) = subst (λ m. IsInitOf kind read.init m) declared.value_is read.is_made in record {
      line = Property side name kind read.init;
      says = says_property side read.texts_are;
      good = record {
        stands = may_stand before side name kind read.init awaited;
        named = declared.free;
        small = λ fault. elim fault [
          | inl long ↦ omega (arith, long, declared.short)
          | inr more ↦ elim more [ inl full ↦ omega (arith, full, declared.few) | inr large ↦ large small ]
        ];
        adds = subst (λ part. Adds before (Property side name kind read.init) part) (sym declared.after_is) (adds_property same of_kind);
      };
    }

-- or it is bad
pub property_fault : (before : Part) (side : Side) (fault : BlockFault) {texts : List (List ℕ)} {name : List ℕ} {kind : Kind} {made : Option Prop} → AwaitsProperty before side → ReadsProperty texts name kind made → IsPropertyFault before side name made fault → IsLineFault before (side_word side ∷ texts) fault
property_fault before side Syntax awaited read wrong = absurd wrong
property_fault before side Name {name = name} {kind = kind} awaited read wrong = (Property side name kind read.init, says_property side read.texts_are, may_stand before side name kind read.init awaited, wrong)
property_fault before side Limit {name = name} {kind = kind} {made = made} awaited read wrong = (
  Property side name kind read.init,
  says_property side read.texts_are,
  may_stand before side name kind read.init awaited,
  wrong.0,
  elim wrong.1 [
    | inl long ↦ inl long
    | inr more ↦ elim more [ inl full ↦ inr (inl full) | inr none ↦ inr (inr (subst (λ m. IsInitOf kind read.init m) none read.is_made)) ]
  ],
)
property_fault before side Memory awaited read wrong = tt

-- the same of an answer
pub property_answer : {X : Type 0} (before : Part) (side : Side) (answer : Result X BlockFault) {texts : List (List ℕ)} {name : List ℕ} {kind : Kind} {made : Option Prop} → AwaitsProperty before side → ReadsProperty texts name kind made → IfErr answer (IsPropertyFault before side name made) → IfErr answer (IsLineFault before (side_word side ∷ texts))
property_answer before side (Ok x) awaited read wrong = tt
property_answer before side (Err fault) awaited read wrong = property_fault before side fault awaited read wrong

pub property_added : {E : Type 0} (before : Part) (side : Side) (after : Part) (answer : Result (Unit {0}) E) {texts : List (List ℕ)} {name : List ℕ} {kind : Kind} {made : Option Prop} → AwaitsProperty before side → ReadsProperty texts name kind made → OnOk answer (IsDeclared before side name kind made after) → OnOk answer (GoesOn before (side_word side ∷ texts) after)
property_added before side after (Ok done) awaited read declared = property_goes_on before side after awaited read declared
property_added before side after (Err error) awaited read declared = tt
