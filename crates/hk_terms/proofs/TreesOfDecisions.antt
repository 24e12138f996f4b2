-- Where a name or a number of an expression can't be wrong, it is right.
use Rattle.std.proofs.Common.{◌≡◌, ◌≤◌, ℕ, zero, suc, nat_le, Bool, true, false, List, [], ◌∷◌, All, Any, Contains, inl, inr, ◌⊎◌, IsTrue, refl, sym, subst, arith}
use Rattle.std.specs.List.{list_any}
use Rattle.std.specs.Str.{bytes_eq}
use Rattle.std.proofs.lemmas.Bool.{both_ways}
use Rattle.std.proofs.lemmas.Bool.Decides.{nat_tests}
use Rattle.std.proofs.lemmas.List.Elements.{All-nil, All-cons, All-head, All-tail}
use Rattle.std.proofs.lemmas.Slice.Eq.{bytes_eq-Decides}
use Rattle.hk_kinds.specs.declared.kinds.Kind.{Kind}
use Rattle.hk_spec.specs.declared.parts.Param.{Param}
use Rattle.hk_spec.specs.declared.parts.ParamKind.{ParamKind}
use Rattle.hk_spec.specs.declared.parts.ParamKind.TheVariants as param
use Rattle.hk_spec.specs.declared.parts.PropDecl.{PropDecl}
use Rattle.hk_terms.specs.CondTexts as cond
use Rattle.hk_terms.specs.CondTexts.{CondText}
use Rattle.hk_terms.specs.Names.{Names, HasParam, HasProperty, NamesSet, NamesNum, NamesCond, WritesUpTo, SmallSet, SmallNum, SmallCond, plain_words}
use Rattle.hk_terms.specs.NumTexts as num
use Rattle.hk_terms.specs.NumTexts.{NumText}
use Rattle.hk_terms.specs.SetTexts as set
use Rattle.hk_terms.specs.SetTexts.{SetText}
use Rattle.hk_terms.proofs.FreeNames.{any_first, any_later}
use Rattle.hk_terms.proofs.NameLists.{listed_found, found_listed}

-- what can't fail holds
abbrev pub Stable : Type 0 → Type 0
Stable P = ((P → ⊥) → ⊥) → P

-- it holds or fails
abbrev pub Decided : Type 0 → Type 0
Decided P = P ⊎ (P → ⊥)

pub stable_decided : {P : Type 0} → Decided P → Stable P
stable_decided (inl holds) never = holds
stable_decided (inr fails) never = absurd (never fails)

pub stable_both : {P Q : Type 0} → Stable P → Stable Q → Stable (P × Q)
stable_both p q never = (p (λ fails. never (λ both. fails both.0)), q (λ fails. never (λ both. fails both.1)))

pub stable_unit : Stable (Unit {0})
stable_unit never = tt

decided_test : (test : Bool) → Decided (IsTrue test)
decided_test true = inl refl
decided_test false = inr (λ holds. both_ways _ refl holds)

decided_both : {P Q : Type 0} → Decided P → Decided Q → Decided (P × Q)
decided_both (inl p) (inl q) = inl (p, q)
decided_both (inr fails) q = inr (λ both. fails both.0)
decided_both (inl p) (inr fails) = inr (λ both. fails both.1)

decided_or : {P Q : Type 0} → Decided P → Decided Q → Decided (P ⊎ Q)
decided_or (inl p) q = inl (inl p)
decided_or (inr fails) (inl q) = inl (inr q)
decided_or {P = P} {Q = Q} (inr fails) (inr also) = inr none
  where
    none : P ⊎ Q → ⊥
    none (inl p) = fails p
    none (inr q) = also q

-- a test that tells whether it holds
decided_by : {P : Type 0} (test : Bool) → (test ≡ true → P) → (P → test ≡ true) → Decided P
decided_by true to from = inl (to refl)
decided_by false to from = inr (λ holds. both_ways _ refl (from holds))

pub decided_text : (a b : List ℕ) → Decided (a ≡ b)
decided_text a b = decided_by (bytes_eq a b) (bytes_eq-Decides a b).0 (bytes_eq-Decides a b).1

decided_kind : (a b : ParamKind) → Decided (a ≡ b)
decided_kind param.Num param.Num = inl refl
decided_kind param.Set param.Set = inl refl
decided_kind param.List param.List = inl refl
decided_kind _ _ = inr (λ same. cc)

decided_any : {X : Type 0} (P : X → Type 0) → ((x : X) → Decided (P x)) → (xs : List X) → Decided (Any P xs)
decided_any P test [] = inr none
  where
    none : Any P [] → ⊥
    none (k, x, inside, at, holds) = omega (arith, inside)
decided_any {X = X} P test (x ∷ xs) = by (test x) (decided_any P test xs)
  where
    neither : (P x → ⊥) → (Any P xs → ⊥) → Any P (x ∷ xs) → ⊥
    neither fails none (zero, y, inside, at, holds) = fails (subst P (sym at) holds)
    neither fails none (suc k, y, inside, at, holds) = none (k, y, omega (arith, inside), at, holds)

    by : Decided (P x) → Decided (Any P xs) → Decided (Any P (x ∷ xs))
    by (inl holds) more = inl (any_first P x xs holds)
    by (inr fails) (inl some) = inl (any_later P x xs some)
    by (inr fails) (inr none) = inr (neither fails none)

module _ (names : Names) where
  has_param : (kind : ParamKind) (word : List ℕ) → Decided (HasParam names kind word)
  has_param kind word = decided_any (λ (p : Param). (p.name ≡ word) × (p.kind ≡ kind)) (λ p. decided_both (decided_text p.name word) (decided_kind p.kind kind)) names.params

  has_property : (of : Kind → Bool) (word : List ℕ) → Decided (HasProperty names of word)
  has_property of word = decided_or (side names.down) (side names.up)
    where
      side : (properties : List PropDecl) → Decided (Any (λ (p : PropDecl). (p.name ≡ word) × IsTrue (of p.kind)) properties)
      side properties = decided_any (λ (p : PropDecl). (p.name ≡ word) × IsTrue (of p.kind)) (λ p. decided_both (decided_text p.name word) (decided_test (of p.kind))) properties

  is_plain : (word : List ℕ) → Decided (Contains plain_words word)
  is_plain word = decided_by (list_any (bytes_eq word) plain_words) (listed_found plain_words word) (found_listed plain_words word)

  -- where the names of an expression can't be wrong, each stands for what its place asks
  pub stable_set : (text : SetText) → Stable (NamesSet names text)
  stable_set (set.Values numbers) = stable_unit
  stable_set set.One = stable_unit
  stable_set (set.Named word) = stable_decided (decided_or (has_param _ word) (has_property _ word))
  stable_set (set.Joined operation a b) = stable_both (stable_set a) (stable_set b)

  pub stable_num : (text : NumText) → Stable (NamesNum names text)
  stable_num (num.Number negative digits) = stable_unit
  stable_num (num.Named word) = stable_decided (decided_or (is_plain word) (decided_or (has_param _ word) (has_property _ word)))
  stable_num (num.Item word) = stable_decided (has_param _ word)
  stable_num (num.Low word) = stable_decided (has_property _ word)
  stable_num (num.High word) = stable_decided (has_property _ word)
  stable_num (num.Card set) = stable_set set
  stable_num (num.Joined operation a b) = stable_both (stable_num a) (stable_num b)
  stable_num (num.Chosen choice a b) = stable_both (stable_num a) (stable_num b)
  stable_num (num.Negative a) = stable_num a

  pub stable_cond : (text : CondText) → Stable (NamesCond names text)
  stable_cond (cond.Truth holds) = stable_unit
  stable_cond (cond.Compared comparison a b) = stable_both (stable_num a) (stable_num b)
  stable_cond (cond.Member inside set) = stable_set set
  stable_cond (cond.Subset a b) = stable_both (stable_set a) (stable_set b)
  stable_cond (cond.Joined both a b) = stable_both (stable_cond a) (stable_cond b)
  stable_cond (cond.Not a) = stable_cond a

pub stable_below : (m n : ℕ) → Stable (m ≤ n)
stable_below m n = stable_decided (decided_by (nat_le m n) (λ test. grind (arith, nat_tests)) (λ below. grind (arith, nat_tests)))

-- a number that can't pass its limit is within it
pub stable_up_to : (most : ℕ) (text : List ℕ) → Stable (WritesUpTo most text)
stable_up_to most text never n number = stable_below n most (λ fails. never (λ small. fails (small n number)))

pub stable_all : (numbers : List (List ℕ)) → Stable (All (WritesUpTo 127) numbers)
stable_all [] never = All-nil (WritesUpTo 127)
stable_all (text ∷ more) never =
    All-cons (WritesUpTo 127) text more
    (stable_up_to 127 text (λ fails. never (λ all. fails (All-head (WritesUpTo 127) text more all))))
    (stable_all more (λ fails. never (λ all. fails (All-tail (WritesUpTo 127) text more all))))

pub stable_small_set : (text : SetText) → Stable (SmallSet text)
stable_small_set (set.Values numbers) = stable_all numbers
stable_small_set set.One = stable_unit
stable_small_set (set.Named word) = stable_unit
stable_small_set (set.Joined operation a b) = stable_both (stable_small_set a) (stable_small_set b)

pub stable_small_num : (text : NumText) → Stable (SmallNum text)
stable_small_num (num.Number negative digits) = stable_up_to 1000000000000 digits
stable_small_num (num.Named word) = stable_unit
stable_small_num (num.Item word) = stable_unit
stable_small_num (num.Low word) = stable_unit
stable_small_num (num.High word) = stable_unit
stable_small_num (num.Card set) = stable_small_set set
stable_small_num (num.Joined operation a b) = stable_both (stable_small_num a) (stable_small_num b)
stable_small_num (num.Chosen choice a b) = stable_both (stable_small_num a) (stable_small_num b)
stable_small_num (num.Negative a) = stable_small_num a

pub stable_small_cond : (text : CondText) → Stable (SmallCond text)
stable_small_cond (cond.Truth holds) = stable_unit
stable_small_cond (cond.Compared comparison a b) = stable_both (stable_small_num a) (stable_small_num b)
stable_small_cond (cond.Member inside set) = stable_small_set set
stable_small_cond (cond.Subset a b) = stable_both (stable_small_set a) (stable_small_set b)
stable_small_cond (cond.Joined both a b) = stable_both (stable_small_cond a) (stable_small_cond b)
stable_small_cond (cond.Not a) = stable_small_cond a
