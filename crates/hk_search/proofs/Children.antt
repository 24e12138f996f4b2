-- The children of a branch have fewer values left than the node.
use Rattle.std.proofs.Common.{◌≡◌, ℕ, ◌+◌, ◌<◌, eqb, ltb, not, Bool, true, false, List, [], ◌∷◌, length, get_or, slice_index, Option, None, Some, refl, sym, subst, arith}
use Rattle.std.proofs.lemmas.Bool.{ltb-true}
use Rattle.std.proofs.lemmas.List.Quantifiers.{position-Some}
use Rattle.hk_base.specs.Sets.{Has}
use Rattle.hk_spec.specs.Meanings.{set_of}
use Rattle.hk_table.specs.Members.{Member, first}
use Rattle.hk_table.proofs.Members.{Has-member}
use Rattle.hk_text.specs.Sets.{members}
use Rattle.hk_prop.specs.Contents.{Content, values_left, has_empty}
use Rattle.hk_prop.specs.Passes.{values_that}
use Rattle.hk_prop.proofs.ValueSets.{parted_count, one_count, values_left-set}
use Rattle.hk_search.specs.Nodes.{branches, end_by, end_of, first_child, second_child, first_unfixed, least_value}

-- what a branch says of the domains: the variable is one of them, with two values or more, of which this is the least
pub record Branches (domains : List ℕ) (variable value : ℕ) : Type 0 where
  pub within : variable < length domains
  pub several : 1 < length (members (slice_index domains variable))
  pub least : value ≡ least_value (slice_index domains variable)
  pub first : first_unfixed domains ≡ Some variable
  pub filled : has_empty domains ≡ false

pub branch_says : (domains : List ℕ) (variable value : ℕ) → end_of domains ≡ branches variable value → Branches domains variable value
branch_says domains variable value ends = by (has_empty domains) refl (first_unfixed domains) refl ends
  where
    by : (b : Bool) → has_empty domains ≡ b → (o : Option ℕ) → first_unfixed domains ≡ o → end_by domains b o ≡ branches variable value → Branches domains variable value
    by true e None f ends = cc
    by true e (Some x) f ends = cc
    by false e None f ends = cc
    by false e (Some x) f ends =
        let says = position-Some (λ s. ltb 1 (length (members s))) domains x 0 f in
        let same_x : x ≡ variable = cc in
        let same_d : least_value (slice_index domains x) ≡ value = cc in
        let at : Branches domains x (least_value (slice_index domains x)) = record { within = says.0; several = ltb-true 1 (length (members (slice_index domains x))) says.1; least = refl; first = f; filled = e } in
        subst (λ y. Branches domains y value) same_x (subst (λ v. Branches domains x v) same_d at)

first_member : (xs : List ℕ) → 0 < length xs → Member (get_or xs 0 0) xs
first_member [] some = absurd (omega arith)
first_member (x ∷ xs) some = first

-- the value of a branch is one of the variable's
pub branch_has : {domains : List ℕ} {variable value : ℕ} → Branches domains variable value → Has (slice_index domains variable) value × (value < 128)
branch_has {domains = domains} {variable = variable} {value = value} says =
    Has-member (slice_index domains variable) (subst (λ v. Member v (members (slice_index domains variable))) (sym says.least) (first_member (members (slice_index domains variable)) (omega (arith, says.several))))

-- how many values the variable of a branch has in the two children: together as many as in the node
pub parted : {domains : List ℕ} {variable value : ℕ} → Branches domains variable value
    → (length (members (set_of (value ∷ []))) ≡ 1) × (length (members (slice_index domains variable)) ≡ 1 + length (members (values_that (λ other. not (eqb other value)) (slice_index domains variable))))
parted {domains = domains} {variable = variable} {value = value} says = let has = branch_has says in (one_count value has.1, parted_count (slice_index domains variable) value has.1 has.0)

module _ (at : Content) (variable value : ℕ) (says : Branches at.domains variable value) where
  pub first_fewer : values_left (first_child at variable value).domains < values_left at.domains
  first_fewer = omega (arith, values_left-set at.domains variable (set_of (value ∷ [])) says.within, (parted says).0, says.several)

  pub second_fewer : values_left (second_child at variable value).domains < values_left at.domains
  second_fewer = omega (arith, values_left-set at.domains variable (values_that (λ other. not (eqb other value)) (slice_index at.domains variable)) says.within, (parted says).1, says.several)
