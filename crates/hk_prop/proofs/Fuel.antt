-- The passes of a node: they end where a pass removes nothing or empties a domain, and one after the other they are due.
use Rattle.std.proofs.Common.{◌≡◌, ℕ, ℤ, zero, suc, ◌<◌, ◌≤◌, ◌||◌, Bool, true, false, if◌then◌else◌, List, [], ◌∷◌, ◌++◌, Option, None, Some, refl, sym, ap, ◌∙◌, subst, arith, append_assoc}
use Rattle.std.proofs.lemmas.Bool.{eqb-false, eq-eqb}
use Rattle.std.proofs.lemmas.List.{append-nil}
use Rattle.hk_group.specs.Problems.{PlainProblem}
use Rattle.hk_table.specs.declared.items.TraceItem.{TraceItem}
use Rattle.hk_prop.specs.Contents.{Content, values_left, has_empty}
use Rattle.hk_prop.specs.Passes.{pass, ends_with, NodePasses, passes_from, node_passes}
use Rattle.hk_prop.specs.Supports.{all_allow}
use Rattle.hk_prop.specs.Told.{Now, told_more, pass_items, passes_items, passed, due_passes}
use Rattle.hk_prop.proofs.Prunings.{pruned_fewer}

-- what is told in two parts is told as a whole
pub told_twice : (told : Option (List TraceItem)) (xs ys : List TraceItem) → told_more (told_more told xs) ys ≡ told_more told (xs ++ ys)
told_twice None xs ys = refl
told_twice (Some told) xs ys = ap (λ items. Some items) (append_assoc told xs ys)

or_false : (a b : Bool) → (a || b) ≡ false → b ≡ false
or_false true b e = cc
or_false false b e = e

module _ (p : PlainProblem) (width : ℕ) (best : ℤ) where
  -- a pass adds no value
  pub pass_fewer : (at : Content) → values_left (pass p width best at).domains ≤ values_left at.domains
  pass_fewer at = pruned_fewer (all_allow p.domains p.groups (pass p width best at).tables) 0 at.domains

  -- a pass that doesn't end the passes removes one
  pub pass_less : (at : Content) → ends_with at (pass p width best at) ≡ false → values_left (pass p width best at).domains < values_left at.domains
  pass_less at goes =
      let apart = eqb-false (values_left (pass p width best at).domains) (values_left at.domains) (or_false (has_empty (pass p width best at).domains) _ goes) in
      omega (arith, pass_fewer at, apart)

  single : Content → NodePasses
  single next = record { each = next.tables ∷ []; last = next }

  -- a pass that ends the passes is the last, however many there may be
  pub passes_end : (more : ℕ) (at : Content) → ends_with at (pass p width best at) ≡ true → passes_from p width best more at ≡ record { each = (pass p width best at).tables ∷ []; last = pass p width best at }
  passes_end zero at ends = refl
  passes_end (suc more) at ends =
      let next : Content = pass p width best at in
      let later : NodePasses = passes_from p width best more next in
      ap (λ b. if b then record { each = next.tables ∷ []; last = next } else record { each = next.tables ∷ later.each; last = later.last }) ends

  pub passes_go_on : (more : ℕ) (at : Content) → ends_with at (pass p width best at) ≡ false
      → let next = pass p width best at in passes_from p width best (suc more) at ≡ record { each = next.tables ∷ (passes_from p width best more next).each; last = (passes_from p width best more next).last }
  passes_go_on more at goes =
      let next : Content = pass p width best at in
      let later : NodePasses = passes_from p width best more next in
      ap (λ b. if b then record { each = next.tables ∷ []; last = next } else record { each = next.tables ∷ later.each; last = later.last }) goes

  -- where no value is left a pass removes none
  pub ends_when_none : (at : Content) → values_left at.domains ≤ 0 → ends_with at (pass p width best at) ≡ true
  ends_when_none at none =
      let both : values_left (pass p width best at).domains ≡ values_left at.domains = omega (arith, pass_fewer at, none) in
      or_true (has_empty (pass p width best at).domains) (eq-eqb (values_left (pass p width best at).domains) (values_left at.domains) both)
    where
      or_true : (a : Bool) {b : Bool} → b ≡ true → (a || b) ≡ true
      or_true true e = refl
      or_true false e = e

  fuel_step : (j k : ℕ) (at : Content) → (values_left (pass p width best at).domains ≤ j → values_left (pass p width best at).domains ≤ k → passes_from p width best j (pass p width best at) ≡ passes_from p width best k (pass p width best at))
      → values_left at.domains ≤ suc j → values_left at.domains ≤ suc k → (b : Bool) → ends_with at (pass p width best at) ≡ b → passes_from p width best (suc j) at ≡ passes_from p width best (suc k) at
  fuel_step j k at rest low high true ends = passes_end (suc j) at ends ∙ sym (passes_end (suc k) at ends)
  fuel_step j k at rest low high false goes =
      let next : Content = pass p width best at in
      passes_go_on j at goes
      ∙ (ap (λ (later : NodePasses). let whole : NodePasses = record { each = next.tables ∷ later.each; last = later.last } in whole) (rest (omega (arith, pass_less at goes, low)) (omega (arith, pass_less at goes, high))) ∙ sym (passes_go_on k at goes))

  -- as many as there are values are enough
  pub same_fuel : (j k : ℕ) (at : Content) → values_left at.domains ≤ j → values_left at.domains ≤ k → passes_from p width best j at ≡ passes_from p width best k at
  same_fuel zero zero at low high = refl
  same_fuel zero (suc k) at low high = passes_end zero at (ends_when_none at low) ∙ sym (passes_end (suc k) at (ends_when_none at low))
  same_fuel (suc j) zero at low high = passes_end (suc j) at (ends_when_none at high) ∙ sym (passes_end zero at (ends_when_none at high))
  same_fuel (suc j) (suc k) at low high = fuel_step j k at (λ l h. same_fuel j k (pass p width best at) l h) low high (ends_with at (pass p width best at)) refl

  pub node_ends : (at : Content) → ends_with at (pass p width best at) ≡ true → node_passes p width best at ≡ record { each = (pass p width best at).tables ∷ []; last = pass p width best at }
  node_ends at ends = passes_end (values_left at.domains) at ends

  pub node_goes_on : (at : Content) → ends_with at (pass p width best at) ≡ false
      → let next = pass p width best at in node_passes p width best at ≡ record { each = next.tables ∷ (node_passes p width best next).each; last = (node_passes p width best next).last }
  node_goes_on at goes =
      let next : Content = pass p width best at in
      let left : ℕ = values_left at.domains in
      same_fuel left (suc left) at (omega arith) (omega arith)
      ∙ (passes_go_on left at goes
      ∙ ap (λ (later : NodePasses). let whole : NodePasses = record { each = next.tables ∷ later.each; last = later.last } in whole) (same_fuel left (values_left next.domains) next (pass_fewer at) (omega arith)))

  -- what is due of a node whose next pass is the last
  pub due_last : (now : Now) → ends_with now.at (passed p width best now).at ≡ true → due_passes p width best now ≡ passed p width best now
  due_last now ends =
      let next : Content = pass p width best now.at in
      ap (λ (passes : NodePasses). let after : Now = record { told = told_more now.told (passes_items passes.each); at = passes.last } in after) (node_ends now.at ends)
      ∙ ap (λ items. let after : Now = record { told = told_more now.told items; at = next } in after) (append-nil (pass_items next.tables))

  -- what is due of a node whose passes go on is what is due after the next one
  pub due_more : (now : Now) → ends_with now.at (passed p width best now).at ≡ false → due_passes p width best now ≡ due_passes p width best (passed p width best now)
  due_more now goes =
      let next : Content = pass p width best now.at in
      let later : NodePasses = node_passes p width best next in
      ap (λ (passes : NodePasses). let after : Now = record { told = told_more now.told (passes_items passes.each); at = passes.last } in after) (node_goes_on now.at goes)
      ∙ ap (λ told. let after : Now = record { told = told; at = later.last } in after) (sym (told_twice now.told (pass_items next.tables) (passes_items later.each)))

  -- what holds of a content, and after each pass where it held before, holds after the passes of a node
  pub after_passes : (P : Content → Type 0) → ((at : Content) → P at → P (pass p width best at)) → (more : ℕ) (at : Content) → P at → P (passes_from p width best more at).last
  after_passes P step zero at holds = step at holds
  after_passes P step (suc more) at holds = by (ends_with at (pass p width best at)) refl (after_passes P step more (pass p width best at) (step at holds))
    where
      by : (b : Bool) → ends_with at (pass p width best at) ≡ b → P (passes_from p width best more (pass p width best at)).last → P (passes_from p width best (suc more) at).last
      by true ends rest = subst (λ (n : NodePasses). P n.last) (sym (passes_end (suc more) at ends)) (step at holds)
      by false goes rest = subst (λ (n : NodePasses). P n.last) (sym (passes_go_on more at goes)) rest

  pub node_fewer : (at : Content) → values_left (node_passes p width best at).last.domains ≤ values_left at.domains
  node_fewer at = after_passes (λ c. values_left c.domains ≤ values_left at.domains) (λ c less. omega (arith, pass_fewer c, less)) (values_left at.domains) at (omega arith)
