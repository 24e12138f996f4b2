-- Steps of Live entries: those of a row, entry after entry, and those of a layer, row after row.
use Rattle.std.proofs.Common.{◌≡◌, ◌≢◌, ◌⊎◌, ◌↔◌, ℕ, ◌+◌, ◌<◌, ◌==◌, List, [], ◌∷◌, refl, sym, ◌∙◌, ap, subst, inl, inr, arith, Some}
use Rattle.std.specs.Int.{bit_at}
use Rattle.std.specs.List.{slice_get}
use Rattle.std.proofs.lemmas.Bool.{cases_Bool, cases_eq, eq-eqb, eqb-true, ne_eqb}
use Rattle.hk_base.specs.Sets.{Has}
use Rattle.hk_table.proofs.Members.{Has-member}
use Rattle.hk_table.specs.Members.{Member, first, later}
use Rattle.hk_table.specs.Tables.{PlainRow}
use Rattle.hk_table.specs.declared.entries.Entry.{Entry}
use Rattle.hk_table.specs.declared.entries.Entry.TheVariants.{Live}
use Rattle.hk_table.specs.inside.Reaching.{EntryLeads, LayerLeads}
use Rattle.hk_table.specs.TakenIn.{TakesIn}
use Rattle.hk_text.specs.Sets.{members}

-- ---- one entry

-- an entry that is first leads by its own value, and the others by theirs
entry_cases : (v : ℕ) (values : List ℕ) (entry : Entry) (entries : List Entry) (value next : ℕ) → EntryLeads (v ∷ values) (entry ∷ entries) value next → ((value ≡ v) × (entry ≡ Live next)) ⊎ EntryLeads values entries value next
entry_cases v values entry entries value next leads = elim (cases_Bool (v == value)) [
  | inl same ↦ inl (sym (eqb-true v value same), rw same at leads)
  | inr apart ↦ inr (rw apart at leads)
]

entry_first : (v : ℕ) (values : List ℕ) (entry : Entry) (entries : List Entry) (next : ℕ) → entry ≡ Live next → EntryLeads (v ∷ values) (entry ∷ entries) v next
entry_first v values entry entries next live = rw (eq-eqb v v refl) live

entry_later : (v : ℕ) (values : List ℕ) (entry : Entry) (entries : List Entry) (value next : ℕ) → v ≢ value → EntryLeads values entries value next → EntryLeads (v ∷ values) (entry ∷ entries) value next
entry_later v values entry entries value next apart leads = rw (ne_eqb v value apart) leads

-- a value with a Live entry is one of those that the entries stand for
entry_member : (values : List ℕ) (entries : List Entry) (value next : ℕ) → EntryLeads values entries value next → Member value values
entry_member [] entries value next leads = cc
entry_member (v ∷ values) [] value next leads = cc
entry_member (v ∷ values) (entry ∷ entries) value next leads = elim (entry_cases v values entry entries value next leads) [
  | inl here ↦ subst (λ w. Member w (v ∷ values)) (sym here.0) first
  | inr on ↦ later (entry_member values entries value next on)
]

-- ---- what is taken in

-- two sets and the steps that are left have together what two earlier ones and the steps left then had
pub record SameSteps (Before After : ℕ → ℕ → Type 0) (old_values old_rows new_values new_rows : ℕ) : Type 0 where
  pub values : (value : ℕ) → (Has old_values value ⊎ ((next : ℕ) × Before value next)) ↔ (Has new_values value ⊎ ((next : ℕ) × After value next))
  pub rows : (next : ℕ) → (Has old_rows next ⊎ ((value : ℕ) × Before value next)) ↔ (Has new_rows next ⊎ ((value : ℕ) × After value next))

pub SameSteps-refl : (Step : ℕ → ℕ → Type 0) (values rows : ℕ) → SameSteps Step Step values rows values rows
SameSteps-refl Step values rows = record { values = λ value. (λ h. h, λ h. h); rows = λ next. (λ h. h, λ h. h) }

pub SameSteps-trans : (A B C : ℕ → ℕ → Type 0) (v0 r0 v1 r1 v2 r2 : ℕ) → SameSteps A B v0 r0 v1 r1 → SameSteps B C v1 r1 v2 r2 → SameSteps A C v0 r0 v2 r2
SameSteps-trans A B C v0 r0 v1 r1 v2 r2 one two = record {
  values = λ value. (λ h. (two.values value).0 ((one.values value).0 h), λ h. (one.values value).1 ((two.values value).1 h));
  rows = λ next. (λ h. (two.rows next).0 ((one.rows next).0 h), λ h. (one.rows next).1 ((two.rows next).1 h));
}

-- once no step is left, all are taken in
pub TakesIn-all : (A B : ℕ → ℕ → Type 0) (v0 r0 v1 r1 : ℕ) → SameSteps A B v0 r0 v1 r1 → ((value next : ℕ) → B value next → ⊥) → TakesIn A v0 r0 v1 r1
TakesIn-all A B v0 r0 v1 r1 same none = record {
  values = λ value. (λ has. (same.values value).1 (inl has), λ h. elim ((same.values value).0 h) [ inl has ↦ has | inr step ↦ absurd (none value step.0 step.1) ]);
  rows = λ next. (λ has. (same.rows next).1 (inl has), λ h. elim ((same.rows next).0 h) [ inl has ↦ has | inr step ↦ absurd (none step.0 next step.1) ]);
}

-- ---- one row

-- an entry that isn't Live is passed
pub entry_passed : (v : ℕ) (values : List ℕ) (entry : Entry) (entries : List Entry) (set rows : ℕ) → (Member v values → ⊥) → ((next : ℕ) → entry ≡ Live next → ⊥) → SameSteps (EntryLeads (v ∷ values) (entry ∷ entries)) (EntryLeads values entries) set rows set rows
entry_passed v values entry entries set rows alone dead =
    let on : (value next : ℕ) → EntryLeads (v ∷ values) (entry ∷ entries) value next → EntryLeads values entries value next = λ value next leads. elim (entry_cases v values entry entries value next leads) [
      | inl here ↦ absurd (dead next here.1)
      | inr on ↦ on
    ] in
    let back : (value next : ℕ) → EntryLeads values entries value next → EntryLeads (v ∷ values) (entry ∷ entries) value next = λ value next leads.
    entry_later v values entry entries value next (λ same. alone (subst (λ w. Member w values) (sym same) (entry_member values entries value next leads))) leads in record {
      values = λ value. (λ h. elim h [ inl had ↦ inl had | inr step ↦ inr (step.0, on value step.0 step.1) ], λ h. elim h [ inl had ↦ inl had | inr step ↦ inr (step.0, back value step.0 step.1) ]);
      rows = λ next. (λ h. elim h [ inl had ↦ inl had | inr step ↦ inr (step.0, on step.0 next step.1) ], λ h. elim h [ inl had ↦ inl had | inr step ↦ inr (step.0, back step.0 next step.1) ]);
    }

-- a Live entry is taken in
pub entry_taken : (v : ℕ) (values : List ℕ) (entry : Entry) (entries : List Entry) (to v0 r0 v1 r1 : ℕ) → (Member v values → ⊥) → entry ≡ Live to → TakesIn (λ value next. (value ≡ v) × (next ≡ to)) v0 r0 v1 r1
    → SameSteps (EntryLeads (v ∷ values) (entry ∷ entries)) (EntryLeads values entries) v0 r0 v1 r1
entry_taken v values entry entries to v0 r0 v1 r1 alone live takes =
    let back : (value next : ℕ) → EntryLeads values entries value next → EntryLeads (v ∷ values) (entry ∷ entries) value next = λ value next leads.
    entry_later v values entry entries value next (λ same. alone (subst (λ w. Member w values) (sym same) (entry_member values entries value next leads))) leads in
    let here : (value next : ℕ) → (value ≡ v) × (next ≡ to) → EntryLeads (v ∷ values) (entry ∷ entries) value next = λ value next step.
    rw step.0 (entry_first v values entry entries next (live ∙ ap Live (sym step.1))) in
    let named : (next : ℕ) → entry ≡ Live next → next ≡ to = λ next is. let same : Live next ≡ Live to = sym is ∙ live in cc in record {
      values = λ value. (
        λ h. elim h [
          | inl had ↦ inl ((takes.values value).1 (inl had))
          | inr step ↦ elim (entry_cases v values entry entries value step.0 step.1) [
            | inl now ↦ inl ((takes.values value).1 (inr (step.0, (now.0, named step.0 now.1))))
            | inr on ↦ inr (step.0, on)
          ]
        ],
        λ h. elim h [
          | inl has ↦ elim ((takes.values value).0 has) [ inl had ↦ inl had | inr step ↦ inr (step.0, here value step.0 step.1) ]
          | inr step ↦ inr (step.0, back value step.0 step.1)
        ],
      );
      rows = λ next. (
        λ h. elim h [
          | inl had ↦ inl ((takes.rows next).1 (inl had))
          | inr step ↦ elim (entry_cases v values entry entries step.0 next step.1) [
            | inl now ↦ inl ((takes.rows next).1 (inr (step.0, (now.0, named next now.1))))
            | inr on ↦ inr (step.0, on)
          ]
        ],
        λ h. elim h [
          | inl has ↦ elim ((takes.rows next).0 has) [ inl had ↦ inl had | inr step ↦ inr (step.0, here step.0 next step.1) ]
          | inr step ↦ inr (step.0, back step.0 next step.1)
        ],
      );
    }

-- where no entry is left, nothing leads anywhere
pub no_entries : (values : List ℕ) (value next : ℕ) → EntryLeads values [] value next → ⊥
no_entries [] value next leads = cc
no_entries (v ∷ values) value next leads = cc

-- one entry of a row is passed or taken in
module _ (Whole : ℕ → ℕ → Type 0) (v left rest : ℕ) (entry : Entry) (entries more : List Entry) (v0 r0 v1 r1 : ℕ) (values_are : members left ≡ v ∷ members rest) (entries_are : entries ≡ entry ∷ more) (gone : bit_at rest v ≡ 0) where
  alone : Member v (members rest) → ⊥
  alone m = let has = (Has-member rest m).0 in omega arith

  from_here : (a b : ℕ) → SameSteps (EntryLeads (v ∷ members rest) (entry ∷ more)) (EntryLeads (members rest) more) v1 r1 a b → SameSteps (EntryLeads (members left) entries) (EntryLeads (members rest) more) v1 r1 a b
  from_here a b same =
      subst (λ vs. SameSteps (EntryLeads vs entries) (EntryLeads (members rest) more) v1 r1 a b) (sym values_are)
      (subst (λ es. SameSteps (EntryLeads (v ∷ members rest) es) (EntryLeads (members rest) more) v1 r1 a b) (sym entries_are) same)

  pub step_passed : ((next : ℕ) → entry ≡ Live next → ⊥) → SameSteps Whole (EntryLeads (members left) entries) v0 r0 v1 r1 → SameSteps Whole (EntryLeads (members rest) more) v0 r0 v1 r1
  step_passed dead before =
      SameSteps-trans Whole (EntryLeads (members left) entries) (EntryLeads (members rest) more) v0 r0 v1 r1 v1 r1 before (from_here v1 r1 (entry_passed v (members rest) entry more v1 r1 alone dead))

  pub step_taken : (to v2 r2 : ℕ) → entry ≡ Live to → TakesIn (λ value next. (value ≡ v) × (next ≡ to)) v1 r1 v2 r2 → SameSteps Whole (EntryLeads (members left) entries) v0 r0 v1 r1 → SameSteps Whole (EntryLeads (members rest) more) v0 r0 v2 r2
  step_taken to v2 r2 live takes before =
      SameSteps-trans Whole (EntryLeads (members left) entries) (EntryLeads (members rest) more) v0 r0 v1 r1 v2 r2 before (from_here v2 r2 (entry_taken v (members rest) entry more to v1 r1 v2 r2 alone live takes))

-- one value and one row are taken in
pub TakesIn-one : (value row v0 r0 v1 r1 : ℕ) → ((v : ℕ) → Has v1 v ↔ (Has v0 v ⊎ (v ≡ value))) → ((r : ℕ) → Has r1 r ↔ (Has r0 r ⊎ (r ≡ row))) → TakesIn (λ v r. (v ≡ value) × (r ≡ row)) v0 r0 v1 r1
TakesIn-one value row v0 r0 v1 r1 values rows = record {
  values = λ v. (λ has. elim ((values v).0 has) [ inl had ↦ inl had | inr same ↦ inr (row, (same, refl)) ], λ h. elim h [ inl had ↦ (values v).1 (inl had) | inr step ↦ (values v).1 (inr step.1.0) ]);
  rows = λ r. (λ has. elim ((rows r).0 has) [ inl had ↦ inl had | inr same ↦ inr (value, (refl, same)) ], λ h. elim h [ inl had ↦ (rows r).1 (inl had) | inr step ↦ (rows r).1 (inr step.1.1) ]);
}

-- ---- one layer

-- before the first row nothing is reached
pub TakesIn-none : (values : List ℕ) (layer : List PlainRow) (reached : ℕ) → TakesIn (LayerLeads values layer reached 0) 0 0 0 0
TakesIn-none values layer reached = record {
  values = λ value. (λ has. inl has, λ h. elim h [ inl has ↦ has | inr step ↦ let within = step.1.within in absurd (omega arith) ]);
  rows = λ next. (λ has. inl has, λ h. elim h [ inl has ↦ has | inr step ↦ let within = step.1.within in absurd (omega arith) ]);
}

-- steps that are the same are taken in alike
TakesIn-same : (A B : ℕ → ℕ → Type 0) (v0 r0 v1 r1 : ℕ) → ((value next : ℕ) → A value next → B value next) → ((value next : ℕ) → B value next → A value next) → TakesIn A v0 r0 v1 r1 → TakesIn B v0 r0 v1 r1
TakesIn-same A B v0 r0 v1 r1 to from takes = record {
  values = λ value. (
    λ has. elim ((takes.values value).0 has) [ inl had ↦ inl had | inr step ↦ inr (step.0, to value step.0 step.1) ],
    λ h. elim h [ inl had ↦ (takes.values value).1 (inl had) | inr step ↦ (takes.values value).1 (inr (step.0, from value step.0 step.1)) ],
  );
  rows = λ next. (
    λ has. elim ((takes.rows next).0 has) [ inl had ↦ inl had | inr step ↦ inr (step.0, to step.0 next step.1) ],
    λ h. elim h [ inl had ↦ (takes.rows next).1 (inl had) | inr step ↦ (takes.rows next).1 (inr (step.0, from step.0 next step.1)) ],
  );
}

-- steps that are taken in one after the other are all taken in
TakesIn-both : (A B : ℕ → ℕ → Type 0) (v0 r0 v1 r1 v2 r2 : ℕ) → TakesIn A v0 r0 v1 r1 → TakesIn B v1 r1 v2 r2 → TakesIn (λ value next. A value next ⊎ B value next) v0 r0 v2 r2
TakesIn-both A B v0 r0 v1 r1 v2 r2 one two = record {
  values = λ value. (
    λ has. elim ((two.values value).0 has) [
      | inl had ↦ elim ((one.values value).0 had) [ inl had ↦ inl had | inr step ↦ inr (step.0, inl step.1) ]
      | inr step ↦ inr (step.0, inr step.1)
    ],
    λ h. elim h [
      | inl had ↦ (two.values value).1 (inl ((one.values value).1 (inl had)))
      | inr step ↦ elim step.1 [
        | inl a ↦ (two.values value).1 (inl ((one.values value).1 (inr (step.0, a))))
        | inr b ↦ (two.values value).1 (inr (step.0, b))
      ]
    ],
  );
  rows = λ next. (
    λ has. elim ((two.rows next).0 has) [
      | inl had ↦ elim ((one.rows next).0 had) [ inl had ↦ inl had | inr step ↦ inr (step.0, inl step.1) ]
      | inr step ↦ inr (step.0, inr step.1)
    ],
    λ h. elim h [
      | inl had ↦ (two.rows next).1 (inl ((one.rows next).1 (inl had)))
      | inr step ↦ elim step.1 [
        | inl a ↦ (two.rows next).1 (inl ((one.rows next).1 (inr (step.0, a))))
        | inr b ↦ (two.rows next).1 (inr (step.0, b))
      ]
    ],
  );
}

module _ (values : List ℕ) (layer : List PlainRow) (reached at : ℕ) where
  -- what is reached before a row is reached before the next
  leads_still : (value next : ℕ) → LayerLeads values layer reached at value next → LayerLeads values layer reached (at + 1) value next
  leads_still value next step = let below : step.at < at + 1 = omega (arith, step.within) in record { at = step.at; row = step.row; within = below; among = step.among; there = step.there; leads = step.leads }

  leads_before : (value next : ℕ) → (step : LayerLeads values layer reached (at + 1) value next) → step.at ≢ at → LayerLeads values layer reached at value next
  leads_before value next step apart = let below : step.at < at = omega (arith, step.within, apart) in record { at = step.at; row = step.row; within = below; among = step.among; there = step.there; leads = step.leads }

  -- a row that wasn't reached adds nothing
  pub row_passed : (v0 r0 v1 r1 : ℕ) → (Has reached at → ⊥) → TakesIn (LayerLeads values layer reached at) v0 r0 v1 r1 → TakesIn (LayerLeads values layer reached (at + 1)) v0 r0 v1 r1
  row_passed v0 r0 v1 r1 absent takes =
      TakesIn-same (LayerLeads values layer reached at) (LayerLeads values layer reached (at + 1)) v0 r0 v1 r1 leads_still (λ value next step. leads_before value next step (λ same. absent (subst (λ n. Has reached n) same step.among))) takes

  -- a row that was reached adds the steps of its entries
  pub row_taken : (row : PlainRow) (v0 r0 v1 r1 v2 r2 : ℕ) → Has reached at → slice_get layer at ≡ Some row → TakesIn (LayerLeads values layer reached at) v0 r0 v1 r1 → TakesIn (EntryLeads values row.entries) v1 r1 v2 r2 → TakesIn (LayerLeads values layer reached (at + 1)) v0 r0 v2 r2
  row_taken row v0 r0 v1 r1 v2 r2 has there before takes =
      TakesIn-same (λ value next. LayerLeads values layer reached at value next ⊎ EntryLeads values row.entries value next) (LayerLeads values layer reached (at + 1)) v0 r0 v2 r2
      (λ value next either. elim either [
        | inl step ↦ leads_still value next step
        | inr leads ↦ record { at = at; row = row; within = omega arith; among = has; there = there; leads = leads }
      ])
      (λ value next step. elim (cases_eq step.at at) [
        | inl same ↦
            let found : Some step.row ≡ Some row = sym step.there ∙ ap (slice_get layer) same ∙ there in
            let is : step.row ≡ row = cc in
            inr (subst (λ (r : PlainRow). EntryLeads values r.entries value next) is step.leads)
        | inr apart ↦ inl (leads_before value next step apart)
      ])
      (TakesIn-both (LayerLeads values layer reached at) (EntryLeads values row.entries) v0 r0 v1 r1 v2 r2 before takes)
