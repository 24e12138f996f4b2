-- The test of what a table supports says what a table supports.
use Rattle.std.proofs.Common.{◌≡◌, ◌↔◌, ◌||◌, ℕ, zero, suc, eqb, if◌then◌else◌, Bool, true, false, List, [], ◌∷◌, Option, None, Some, refl, ap, ◌∙◌, subst, inl, inr}
use Rattle.std.specs.List.{list_any, slice_get}
use Rattle.std.proofs.lemmas.Bool.{cases_Bool, eqb-true}
use Rattle.hk_layers.specs.Layers.{old_entry}
use Rattle.hk_table.specs.Keeps.{SupportsFrom, supports_here, supports_later, Supports}
use Rattle.hk_table.specs.Members.{Member, first, later}
use Rattle.hk_table.specs.Tables.{PlainRow, PlainShape, entry_for, layer_values}
use Rattle.hk_table.specs.declared.entries.Entry.{Entry}
use Rattle.hk_table.specs.declared.entries.Entry.TheVariants.{Gone, Cut, Dead, Live}
use Rattle.hk_prop.specs.Contents.{PlainTable}
use Rattle.hk_prop.specs.Supports.{is_live_where, supports_from, supports}

-- a row of a layer has a Live entry at a value, to a row that passes a test
record LeadsOn (passes : ℕ → Bool) (values : List ℕ) (layer : List PlainRow) (c value : ℕ) : Type 0 where
  row : PlainRow
  next : ℕ
  there : slice_get layer c ≡ Some row
  leads : entry_for values row.entries value ≡ Live next
  good : passes next ≡ true

leads_on : (passes : ℕ → Bool) (values : List ℕ) (layer : List PlainRow) (c value : ℕ) → is_live_where passes (old_entry values (slice_get layer c) value) ≡ true → LeadsOn passes values layer c value
leads_on passes values layer c value is = by_row (slice_get layer c) refl is
  where
    by_entry : (row : PlainRow) → slice_get layer c ≡ Some row → (e : Entry) → entry_for values row.entries value ≡ e → is_live_where passes e ≡ true → LeadsOn passes values layer c value
    by_entry row there (Live next) leads good = record { row = row; next = next; there = there; leads = leads; good = good }
    by_entry row there Gone leads good = cc
    by_entry row there Cut leads good = cc
    by_entry row there (Dead next) leads good = cc

    by_row : (o : Option PlainRow) → slice_get layer c ≡ o → is_live_where passes (old_entry values o value) ≡ true → LeadsOn passes values layer c value
    by_row None there good = cc
    by_row (Some row) there good = by_entry row there (entry_for values row.entries value) refl good

is_leading : (passes : ℕ → Bool) (values : List ℕ) (layer : List PlainRow) (c value : ℕ) (row : PlainRow) (next : ℕ) → slice_get layer c ≡ Some row → entry_for values row.entries value ≡ Live next → passes next ≡ true
    → is_live_where passes (old_entry values (slice_get layer c) value) ≡ true
is_leading passes values layer c value row next there leads good =
    ap (λ o. is_live_where passes (old_entry values o value)) there ∙ (ap (is_live_where passes) leads ∙ good)

-- some value of a list passes a test
record SomePasses (test : ℕ → Bool) (xs : List ℕ) : Type 0 where
  value : ℕ
  among : Member value xs
  good : test value ≡ true

some_passes : (test : ℕ → Bool) (xs : List ℕ) → list_any test xs ≡ true → SomePasses test xs
some_passes test [] is = cc
some_passes test (x ∷ xs) is = by (test x) refl is (λ any. some_passes test xs any)
  where
    by : (b : Bool) → test x ≡ b → (b || list_any test xs) ≡ true → (list_any test xs ≡ true → SomePasses test xs) → SomePasses test (x ∷ xs)
    by true here any more = record { value = x; among = first; good = here }
    by false here any more = let rest = more any in record { value = rest.value; among = later rest.among; good = rest.good }

passes_some : (test : ℕ → Bool) {x : ℕ} {xs : List ℕ} → Member x xs → test x ≡ true → list_any test xs ≡ true
passes_some test {xs = []} m good = elim m [ ]
passes_some test {xs = y ∷ ys} first good = ap (λ b. b || list_any test ys) good
passes_some test {xs = y ∷ ys} (later m) good = or_true (test y) (passes_some test m good)
  where
    or_true : (b : Bool) {c : Bool} → c ≡ true → (b || c) ≡ true
    or_true true e = refl
    or_true false e = e

-- what entries have a Live one for is one of the values
live_value : (values : List ℕ) (entries : List Entry) (value next : ℕ) → entry_for values entries value ≡ Live next → Member value values
live_value [] entries value next is = cc
live_value (v ∷ values) [] value next is = cc
live_value (v ∷ values) (entry ∷ entries) value next is = elim (cases_Bool (eqb v value)) [
  | inl same ↦ subst (λ y. Member y (v ∷ values)) (eqb-true v value same) first
  | inr apart ↦ later (live_value values entries value next (subst (λ b. (if b then entry else entry_for values entries value) ≡ Live next) apart is))
]

pub supports_says : (layers_values : List (List ℕ)) (table : PlainTable) (level c value : ℕ) → supports_from layers_values table level c value ≡ true → SupportsFrom layers_values table c level value
supports_says [] table level c value is = cc
supports_says (values ∷ more) [] level c value is = cc
supports_says (values ∷ more) (layer ∷ layers) zero c value is =
    let on = leads_on (λ next. true) values layer c value is in supports_here on.there on.leads
supports_says (values ∷ more) (layer ∷ layers) (suc level) c value is =
    let some = some_passes (λ step. is_live_where (λ next. supports_from more layers level next value) (old_entry values (slice_get layer c) step)) values is in
    let on = leads_on (λ next. supports_from more layers level next value) values layer c some.value some.good in
    supports_later some.value on.there on.leads (supports_says more layers level on.next value on.good)

pub supports_holds : {layers_values : List (List ℕ)} {table : PlainTable} {level c value : ℕ} → SupportsFrom layers_values table c level value → supports_from layers_values table level c value ≡ true
supports_holds (supports_here {values = values} {layer = layer} {c = c} {next = next} {value = value} {row = row} there leads) = is_leading (λ n. true) values layer c value row next there leads refl
supports_holds (supports_later {values = values} {more = more} {layer = layer} {layers = layers} {c = c} {next = next} {level = level} {value = value} {row = row} step there leads rest) =
    passes_some (λ s. is_live_where (λ n. supports_from more layers level n value) (old_entry values (slice_get layer c) s)) (live_value values row.entries step next leads)
    (is_leading (λ n. supports_from more layers level n value) values layer c step row next there leads (supports_holds rest))

-- of a table and its shape
pub supports_is : (shape : PlainShape) (table : PlainTable) (level value : ℕ) → (supports shape table level value ≡ true) ↔ Supports shape table level value
supports_is shape table level value = (supports_says (layer_values shape) table level 0 value, λ s. supports_holds s)
