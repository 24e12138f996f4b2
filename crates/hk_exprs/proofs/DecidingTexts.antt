-- Whether texts are those of an expression.
use Rattle.std.proofs.Common.{◌≡◌, ℕ, List, [], ◌∷◌, ◌++◌, Option, Some, refl, sym, ap, subst, ◌∙◌}
use Rattle.std.proofs.Math.Decide.{map_dec}
use Rattle.hk_terms.specs.SetTexts.{SetText, set_texts, IsSetText}
use Rattle.hk_terms.specs.NumTexts.{NumText, num_texts, IsNumText}
use Rattle.hk_terms.specs.CondTexts.{CondText, cond_texts, IsCondText}
use Rattle.hk_terms.specs.Operands.{Operand}
use Rattle.hk_exprs.specs.inside.Machines.{as_num, as_set, as_cond, Frame, Empty, One, First, Both, Steps}
use Rattle.hk_exprs.proofs.MachineSteps.{steps_one}
use Rattle.hk_exprs.proofs.MachineConds.{cond_found, num_found, set_found, pair_found}
use Rattle.hk_exprs.proofs.MachineReads.{one_same, both_same}
use Rattle.hk_exprs.proofs.FramesSaid.{cond_said, num_said, set_said, pair_said}
use Rattle.hk_text.proofs.Deciding.{dec_both, dec_some}
use Rattle.hk_exprs.proofs.DecidingRuns.{Ends, dec_run}

-- a run that ends with one operand which is an expression
abbrev Takes : {X : Type 0} → (Operand → Option X) → List (List ℕ) → Type 0
Takes {X} read texts = (x : Operand) × (e : X) × (read x ≡ Some e) × Steps (Empty ∷ []) texts (One x ∷ []) []

dec_one : (frames : List Frame) → Dec ((x : Operand) × (frames ≡ One x ∷ []))
dec_one [] = no (λ some. let same = some.1 in cc)
dec_one (One x ∷ []) = yes (x, refl)
dec_one (frame ∷ next ∷ frames) = no (λ some. let same = some.1 in cc)
dec_one (_ ∷ []) = no (λ some. let same = some.1 in cc)

dec_takes : {X : Type 0} (read : Operand → Option X) (texts : List (List ℕ)) → Dec (Takes read texts)
dec_takes {X = X} read texts = by (dec_run (Empty ∷ []) texts)
  where
    by : Dec (Ends (Empty ∷ []) texts) → Dec (Takes read texts)
    by (no none) = no (λ some. none (One some.0 ∷ [], some.3))
    by (yes (after, steps)) = at (dec_one after)
      where
        at : Dec ((x : Operand) × (after ≡ One x ∷ [])) → Dec (Takes read texts)
        at (no none) = no (λ some. none (some.0, steps_one steps some.3))
        at (yes (x, same)) = map_dec
            (λ some. (x, some.0, some.1, subst (λ frames. Steps (Empty ∷ []) texts frames []) same steps))
            (λ some. (some.1, ap read (one_same (sym same ∙ steps_one steps some.3)) ∙ some.2))
            (dec_some (read x))

-- whether texts are those of a condition, of a number, of a set
pub dec_cond : (texts : List (List ℕ)) → Dec ((c : CondText) × IsCondText c × (texts ≡ cond_texts c))
dec_cond texts = map_dec to from (dec_takes as_cond texts)
  where
    to : Takes as_cond texts → (c : CondText) × IsCondText c × (texts ≡ cond_texts c)
    to (x, c, is, steps) = let said = cond_said steps is in (c, said.0, said.1)

    from : (c : CondText) × IsCondText c × (texts ≡ cond_texts c) → Takes as_cond texts
    from (c, is, same) = let found = cond_found c is in (found.0, c, found.1, subst (λ ts. Steps (Empty ∷ []) ts (One found.0 ∷ []) []) (sym same) found.2)

pub dec_num : (texts : List (List ℕ)) → Dec ((e : NumText) × IsNumText e × (texts ≡ num_texts e))
dec_num texts = map_dec to from (dec_takes as_num texts)
  where
    to : Takes as_num texts → (e : NumText) × IsNumText e × (texts ≡ num_texts e)
    to (x, e, is, steps) = let said = num_said steps is in (e, said.0, said.1)

    from : (e : NumText) × IsNumText e × (texts ≡ num_texts e) → Takes as_num texts
    from (e, is, same) = let found = num_found e is in (found.0, e, found.1, subst (λ ts. Steps (Empty ∷ []) ts (One found.0 ∷ []) []) (sym same) found.2)

pub dec_set : (texts : List (List ℕ)) → Dec ((e : SetText) × IsSetText e × (texts ≡ set_texts e))
dec_set texts = map_dec to from (dec_takes as_set texts)
  where
    to : Takes as_set texts → (e : SetText) × IsSetText e × (texts ≡ set_texts e)
    to (x, e, is, steps) = let said = set_said steps is in (e, said.0, said.1)

    from : (e : SetText) × IsSetText e × (texts ≡ set_texts e) → Takes as_set texts
    from (e, is, same) = let found = set_found e is in (found.0, e, found.1, subst (λ ts. Steps (Empty ∷ []) ts (One found.0 ∷ []) []) (sym same) found.2)

-- a run that ends with two operands which are numbers
abbrev TakesTwo : List (List ℕ) → Type 0
TakesTwo texts = (a b : Operand) × (low high : NumText) × (as_num a ≡ Some low) × (as_num b ≡ Some high) × Steps (First ∷ []) texts (Both a b ∷ []) []

dec_two : (frames : List Frame) → Dec ((a b : Operand) × (frames ≡ Both a b ∷ []))
dec_two [] = no (λ some. let same = some.2 in cc)
dec_two (Both a b ∷ []) = yes (a, b, refl)
dec_two (frame ∷ next ∷ frames) = no (λ some. let same = some.2 in cc)
dec_two (_ ∷ []) = no (λ some. let same = some.2 in cc)

dec_takes_two : (texts : List (List ℕ)) → Dec (TakesTwo texts)
dec_takes_two texts = by (dec_run (First ∷ []) texts)
  where
    by : Dec (Ends (First ∷ []) texts) → Dec (TakesTwo texts)
    by (no none) = no (λ some. none (Both some.0 some.1 ∷ [], some.6))
    by (yes (after, steps)) = at (dec_two after)
      where
        at : Dec ((a b : Operand) × (after ≡ Both a b ∷ [])) → Dec (TakesTwo texts)
        at (no none) = no (λ some. none (some.0, some.1, steps_one steps some.6))
        at (yes (a, b, same)) = map_dec
            (λ some. (a, b, some.0.0, some.1.0, some.0.1, some.1.1, subst (λ frames. Steps (First ∷ []) texts frames []) same steps))
            (λ some. let are = both_same (sym same ∙ steps_one steps some.6) in ((some.2, ap as_num are.0 ∙ some.4), (some.3, ap as_num are.1 ∙ some.5)))
            (dec_both (dec_some (as_num a)) (dec_some (as_num b)))

-- whether texts are those of two numbers side by side
pub dec_pair : (texts : List (List ℕ)) → Dec ((low high : NumText) × IsNumText low × IsNumText high × (texts ≡ num_texts low ++ num_texts high))
dec_pair texts = map_dec to from (dec_takes_two texts)
  where
    to : TakesTwo texts → (low high : NumText) × IsNumText low × IsNumText high × (texts ≡ num_texts low ++ num_texts high)
    to (a, b, low, high, low_is, high_is, steps) = let said = pair_said steps low_is high_is in (low, high, said.0, said.1, said.2)

    from : (low high : NumText) × IsNumText low × IsNumText high × (texts ≡ num_texts low ++ num_texts high) → TakesTwo texts
    from (low, high, low_is, high_is, same) =
        let found = pair_found low high low_is high_is in
        (found.0, found.1, low, high, found.2, found.3, subst (λ ts. Steps (First ∷ []) ts (Both found.0 found.1 ∷ []) []) (sym same) found.4)
