-- The old rows that rows of the next layer come from, one value after the other.
use Rattle.std.proofs.Common.{◌≡◌, ℕ, ◌+◌, ◌<◌, ◌≤◌, ◌⊎◌, inl, inr, ⊎_elim, ◌↔◌, List, [], ◌∷◌, length, drop, get_or, set, slice_set, arith, ap, sym, ◌∙◌, subst, subst₂}
use Rattle.std.proofs.lemmas.List.{drop_all, drop_more, get_or_default, get_or-set_same, get_or-set_other}
use Rattle.std.proofs.lemmas.Bool.{cases_eq}
use Rattle.hk_base.specs.Sets.{Has}
use Rattle.hk_layers.specs.declared.leads.Lead.{Lead}
use Rattle.hk_layers.specs.declared.leads.Lead.TheVariants as lead
use Rattle.hk_layers.specs.inside.Uniting.{IsUnited, SendsTo, united_here, united_later}

-- two leads that are one lead to one row
to_row : (c other : ℕ) → lead.To c ≡ lead.To other → c ≡ other
to_row c other same = cc

-- the old rows of some values are those of the first one and of the others
united_first : (c row set : ℕ) (leading : Lead) (leads : List Lead) (sets : List ℕ) → IsUnited c (leading ∷ leads) (set ∷ sets) row ↔ (SendsTo c leading set row ⊎ IsUnited c leads sets row)
united_first c row set leading leads sets = (split, ⊎_elim (λ sends. united_here sends) (λ later. united_later later))
  where
    split : IsUnited c (leading ∷ leads) (set ∷ sets) row → SendsTo c leading set row ⊎ IsUnited c leads sets row
    split (united_here sends) = inl sends
    split (united_later later) = inr later

-- values without sets lead no old row anywhere
united_none : (c row : ℕ) (leads : List Lead) → IsUnited c leads [] row → ⊥
united_none c row leads united = elim united [ ]

-- no values lead no old row anywhere
united_empty : (c row : ℕ) (sets : List ℕ) → IsUnited c [] sets row → ⊥
united_empty c row sets united = elim united [ ]

-- what one value adds goes over from those that are left to those so far
moved : {A H N S U V : Type 0} → A ↔ (H ⊎ U) → N ↔ (H ⊎ S) → U ↔ (S ⊎ V) → A ↔ (N ⊎ V)
moved whole new left = (
  (λ a. ⊎_elim (λ h. inl (new.1 (inl h))) (λ u. ⊎_elim (λ s. inl (new.1 (inr s))) (λ v. inr v) (left.0 u)) (whole.0 a)),
  ⊎_elim (λ n. ⊎_elim (λ h. whole.1 (inl h)) (λ s. whole.1 (inr (left.1 (inl s)))) (new.0 n)) (λ v. whole.1 (inr (left.1 (inr v)))),
)

-- what nothing adds to stays
kept : {A H U V : Type 0} → A ↔ (H ⊎ U) → (U → ⊥) → (V → ⊥) → A ↔ (H ⊎ V)
kept whole none nothing = ((λ a. ⊎_elim (λ h. inl h) (λ u. absurd (none u)) (whole.0 a)), ⊎_elim (λ h. whole.1 (inl h)) (λ v. absurd (nothing v)))

-- a set that takes the old rows of a value in, where the value leads to its row; the other sets stay
pub united_at : (froms : List ℕ) (c other row d : ℕ) (leading : Lead) (set new : ℕ) → leading ≡ lead.To c → c < length froms → ((r : ℕ) → Has new r ↔ (Has (get_or froms c d) r ⊎ Has set r))
    → Has (get_or (slice_set froms c new) other 0) row ↔ (Has (get_or froms other 0) row ⊎ SendsTo other leading set row)
united_at froms c other row d leading set new to within united =
    ⊎_elim
    (λ same.
    let at : get_or (slice_set froms c new) other 0 ≡ new = ap (λ n. get_or (slice_set froms c new) n 0) same ∙ get_or-set_same froms c new 0 within in
    let old : get_or froms other 0 ≡ get_or froms c d = ap (λ n. get_or froms n 0) same ∙ get_or_default froms c 0 d within in (
      (λ h. ⊎_elim (λ o. inl (subst (λ n. Has n row) (sym old) o)) (λ s. inr (record { leads = to ∙ ap lead.To (sym same); has = s })) ((united row).0 (subst (λ n. Has n row) at h))),
      ⊎_elim (λ o. subst (λ n. Has n row) (sym at) ((united row).1 (inl (subst (λ n. Has n row) old o)))) (λ sends. subst (λ n. Has n row) (sym at) ((united row).1 (inr sends.has))),
    ))
    (λ apart.
    let at : get_or (slice_set froms c new) other 0 ≡ get_or froms other 0 = get_or-set_other froms c other new 0 apart in (
      (λ h. inl (subst (λ n. Has n row) at h)),
      ⊎_elim (λ o. subst (λ n. Has n row) (sym at) o) (λ sends. absurd (apart (to_row other c (sym sends.leads ∙ to)))),
    ))
    (cases_eq other c)

-- the value at a place is taken in
pub united_more : {A : Type 0} (c i row : ℕ) (leads : List Lead) (sets : List ℕ) (old new set e : ℕ) → i < length leads → i < length sets → set ≡ get_or sets i e → A ↔ (Has old row ⊎ IsUnited c (drop i leads) (drop i sets) row)
    → Has new row ↔ (Has old row ⊎ SendsTo c (get_or leads i lead.Gone) set row) → A ↔ (Has new row ⊎ IsUnited c (drop (i + 1) leads) (drop (i + 1) sets) row)
united_more c i row leads sets old new set e lt there same whole taken =
    let first = get_or leads i lead.Gone in
    let more = drop (i + 1) sets in
    let cut : drop i sets ≡ set ∷ more = drop_more sets i e there ∙ ap (λ s. s ∷ more) (sym same) in
    moved whole taken
    (subst₂ (λ ls ss. IsUnited c ls ss row ↔ (SendsTo c first set row ⊎ IsUnited c (drop (i + 1) leads) more row)) (sym (drop_more leads i lead.Gone lt)) (sym cut) (united_first c row set first (drop (i + 1) leads) more))

-- there is no set at a place, so that no value from there on counts
pub united_short : {A : Type 0} (c i row : ℕ) (leads : List Lead) (sets : List ℕ) (old : ℕ) → length sets ≤ i → A ↔ (Has old row ⊎ IsUnited c (drop i leads) (drop i sets) row) → A ↔ (Has old row ⊎ IsUnited c (drop (i + 1) leads) (drop (i + 1) sets) row)
united_short c i row leads sets old short whole =
    kept whole
    (λ u. united_none c row _ (subst (λ ss. IsUnited c (drop i leads) ss row) (drop_all i sets short) u))
    (λ v. united_none c row _ (subst (λ ss. IsUnited c (drop (i + 1) leads) ss row) (drop_all (i + 1) sets (omega arith)) v))

-- no value is left
pub united_all : {A : Type 0} (c i row : ℕ) (leads : List Lead) (sets : List ℕ) (old : ℕ) → length leads ≤ i → A ↔ (Has old row ⊎ IsUnited c (drop i leads) (drop i sets) row) → Has old row ↔ A
united_all c i row leads sets old all whole = (
  (λ h. whole.1 (inl h)),
  (λ a. ⊎_elim (λ h. h) (λ u. absurd (united_empty c row _ (subst (λ ls. IsUnited c ls (drop i sets) row) (drop_all i leads all) u))) (whole.0 a)),
)
