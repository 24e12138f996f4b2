-- Where a run leads on to no expression, the texts are none; and texts are one expression at most.
use Rattle.std.proofs.Common.{◌≡◌, ℕ, List, [], ◌∷◌, ◌++◌, Some, sym, ap, subst, ◌∙◌}
use Rattle.hk_terms.specs.SetTexts.{SetText, set_texts, IsSetText}
use Rattle.hk_terms.specs.NumTexts.{NumText, num_texts, IsNumText}
use Rattle.hk_terms.specs.CondTexts.{CondText, cond_texts, IsCondText}
use Rattle.hk_terms.specs.Operands.{Operand}
use Rattle.hk_exprs.specs.inside.Machines.{as_num, as_set, as_cond, Frame, Empty, One, First, Both, Steps}
use Rattle.hk_exprs.proofs.MachineMarks.{some_one}
use Rattle.hk_exprs.proofs.MachineSteps.{steps_rest, steps_one}
use Rattle.hk_exprs.proofs.MachineConds.{cond_found, num_found, set_found, pair_found}

-- the texts are those of no condition
pub cond_none : {texts left : List (List ℕ)} {frames : List Frame} → Steps (Empty ∷ []) texts frames left → ((x : Operand) (c : CondText) → as_cond x ≡ Some c → Steps frames left (One x ∷ []) [] → ⊥) → (c : CondText) → IsCondText c → texts ≡ cond_texts c → ⊥
cond_none so_far none c is same =
    let found = cond_found c is in
    none found.0 c found.1 (steps_rest (subst (λ texts. Steps (Empty ∷ []) texts (One found.0 ∷ []) []) (sym same) found.2) so_far)

-- the same of a number, of a set, of two numbers side by side
pub num_none : {texts left : List (List ℕ)} {frames : List Frame} → Steps (Empty ∷ []) texts frames left → ((x : Operand) (e : NumText) → as_num x ≡ Some e → Steps frames left (One x ∷ []) [] → ⊥) → (e : NumText) → IsNumText e → texts ≡ num_texts e → ⊥
num_none so_far none e is same =
    let found = num_found e is in
    none found.0 e found.1 (steps_rest (subst (λ texts. Steps (Empty ∷ []) texts (One found.0 ∷ []) []) (sym same) found.2) so_far)

pub set_none : {texts left : List (List ℕ)} {frames : List Frame} → Steps (Empty ∷ []) texts frames left → ((x : Operand) (e : SetText) → as_set x ≡ Some e → Steps frames left (One x ∷ []) [] → ⊥) → (e : SetText) → IsSetText e → texts ≡ set_texts e → ⊥
set_none so_far none e is same =
    let found = set_found e is in
    none found.0 e found.1 (steps_rest (subst (λ texts. Steps (Empty ∷ []) texts (One found.0 ∷ []) []) (sym same) found.2) so_far)

pub pair_none : {texts left : List (List ℕ)} {frames : List Frame} → Steps (First ∷ []) texts frames left → ((a b : Operand) (low high : NumText) → as_num a ≡ Some low → as_num b ≡ Some high → Steps frames left (Both a b ∷ []) [] → ⊥) → (low high : NumText) → IsNumText low → IsNumText high → texts ≡ num_texts low ++ num_texts high → ⊥
pair_none so_far none low high low_is high_is same =
    let found = pair_found low high low_is high_is in
    none found.0 found.1 low high found.2 found.3 (steps_rest (subst (λ texts. Steps (First ∷ []) texts (Both found.0 found.1 ∷ []) []) (sym same) found.4) so_far)

-- one operand alone, or two side by side, are told by the frames that hold them
pub one_same : {x y : Operand} → One x ∷ [] ≡ One y ∷ [] → x ≡ y
one_same same = cc

-- two conditions with the same texts are one
pub cond_one : (c d : CondText) → IsCondText c → IsCondText d → cond_texts c ≡ cond_texts d → c ≡ d
cond_one c d c_is d_is same =
    let first = cond_found c c_is in
    let second = cond_found d d_is in
    let ends = steps_one (subst (λ texts. Steps (Empty ∷ []) texts (One first.0 ∷ []) []) same first.2) second.2 in
    some_one (sym first.1 ∙ ap as_cond (one_same ends) ∙ second.1)

-- the same of numbers, of sets, of two numbers side by side
pub num_one : (c d : NumText) → IsNumText c → IsNumText d → num_texts c ≡ num_texts d → c ≡ d
num_one c d c_is d_is same =
    let first = num_found c c_is in
    let second = num_found d d_is in
    let ends = steps_one (subst (λ texts. Steps (Empty ∷ []) texts (One first.0 ∷ []) []) same first.2) second.2 in
    some_one (sym first.1 ∙ ap as_num (one_same ends) ∙ second.1)

pub set_one : (c d : SetText) → IsSetText c → IsSetText d → set_texts c ≡ set_texts d → c ≡ d
set_one c d c_is d_is same =
    let first = set_found c c_is in
    let second = set_found d d_is in
    let ends = steps_one (subst (λ texts. Steps (Empty ∷ []) texts (One first.0 ∷ []) []) same first.2) second.2 in
    some_one (sym first.1 ∙ ap as_set (one_same ends) ∙ second.1)

pub both_same : {a b x y : Operand} → Both a b ∷ [] ≡ Both x y ∷ [] → (a ≡ x) × (b ≡ y)
both_same same = (cc, cc)

pub pair_one : (low high c d : NumText) → IsNumText low → IsNumText high → IsNumText c → IsNumText d → num_texts low ++ num_texts high ≡ num_texts c ++ num_texts d → (low ≡ c) × (high ≡ d)
pair_one low high c d low_is high_is c_is d_is same =
    let first = pair_found low high low_is high_is in
    let second = pair_found c d c_is d_is in
    let ends = both_same (steps_one (subst (λ texts. Steps (First ∷ []) texts (Both first.0 first.1 ∷ []) []) same first.4) second.4) in
    (some_one (sym first.2 ∙ ap as_num ends.0 ∙ second.2), some_one (sym first.3 ∙ ap as_num ends.1 ∙ second.3))
