-- What a name stands for, where a parameter or a property at a known place has it.
use Rattle.std.proofs.Common.{◌≡◌, ℕ, ◌<◌, zero, suc, true, List, [], ◌∷◌, length, option_map, Some, Ok, inl, inr, slice_get, slice_index_or, refl, sym, ap, ◌∙◌, arith}
use Rattle.std.proofs.lemmas.Option.{slice_get-map, get_or_from_slice_get}
use Rattle.hk_spec.specs.Scopes.{is_num_param, is_set_param, is_list_param, is_number_kind, is_interval_kind, is_set_kind, kinds_of}
use Rattle.hk_spec.specs.declared.expressions.NumExpr.TheOpen.{NumExpr-F}
use Rattle.hk_spec.specs.declared.expressions.NumExpr.TheVariants as number
use Rattle.hk_spec.specs.declared.expressions.SetExpr.TheOpen.{SetExpr-F}
use Rattle.hk_spec.specs.declared.expressions.SetExpr.TheVariants as values
use Rattle.hk_spec.specs.declared.expressions.Side.{Side}
use Rattle.hk_spec.specs.declared.expressions.Side.TheVariants.{Down, Up}
use Rattle.hk_spec.specs.declared.parts.Param.{Param}
use Rattle.hk_spec.specs.declared.parts.ParamKind.{ParamKind}
use Rattle.hk_spec.specs.declared.parts.ParamKind.TheVariants as param
use Rattle.hk_spec.specs.declared.parts.PropDecl.{PropDecl}
use Rattle.hk_terms.specs.inside.Forms.{has_form}
use Rattle.hk_terms.specs.Names.{scope_of}
use Rattle.hk_terms.specs.Names.{Names, HasParam, HasProperty}
use Rattle.hk_terms.specs.NumTexts as num
use Rattle.hk_terms.specs.Outcomes.{IsNumOf, IsSetOf}
use Rattle.hk_terms.specs.SetTexts as set
use Rattle.hk_terms.proofs.Leaves.{num_leaf, set_leaf}
use Rattle.hk_terms.specs.Trees.{param_name, property_name, properties_of}
use Rattle.hk_terms.specs.declared.lookups.Form.{Form}
use Rattle.hk_terms.specs.declared.lookups.Form.TheVariants as form

-- what stands at a place within a list
entry : {X : Type 0} (xs : List X) (k : ℕ) → k < length xs → (x : X) × (slice_get xs k ≡ Some x)
entry [] k inside = let never : ⊥ = omega arith in absurd never
entry (x ∷ xs) zero inside = (x, refl)
entry (x ∷ xs) (suc k) inside = entry xs k (omega arith)

-- a parameter of this kind and name stands at this place
pub record IsParamAt (names : Names) (place : ℕ) (kind : ParamKind) (word : List ℕ) : Type 0 where
  pub p : Param
  pub inside : place < length names.params
  pub got : slice_get names.params place ≡ Some p
  pub name : p.name ≡ word
  pub kind_is : p.kind ≡ kind

pub param_at : (names : Names) (place : ℕ) {kind : ParamKind} {word : List ℕ} → place < length names.params → ((d : Param) → (slice_index_or names.params place d).name ≡ word) → ((d : Param) → (slice_index_or names.params place d).kind ≡ kind) → IsParamAt names place kind word
param_at names place inside name kind =
    let found = entry names.params place inside in
    let at = get_or_from_slice_get names.params place found.0 found.0 found.1 in
    record { p = found.0; inside = inside; got = found.1; name = ap (λ (p : Param). p.name) (sym at) ∙ name found.0; kind_is = ap (λ (p : Param). p.kind) (sym at) ∙ kind found.0 }

has_param : {names : Names} {place : ℕ} {kind : ParamKind} {word : List ℕ} → IsParamAt names place kind word → HasParam names kind word
has_param {names = names} {place = place} at = (place, at.p, at.inside, get_or_from_slice_get names.params place at.p at.p at.got, (at.name, at.kind_is))

param_text : {names : Names} {place : ℕ} {kind : ParamKind} {word : List ℕ} → IsParamAt names place kind word → param_name (slice_get names.params place) ≡ word
param_text at = ap param_name at.got ∙ at.name

-- its kind is that of the scope
scope_kind : {names : Names} {place : ℕ} {kind : ParamKind} {word : List ℕ} → IsParamAt names place kind word → slice_get (scope_of names).params place ≡ Some kind
scope_kind {names = names} {place = place} at = slice_get-map (λ (p : Param). p.kind) names.params place ∙ ap (option_map (λ (p : Param). p.kind)) at.got ∙ ap Some at.kind_is

-- a num parameter is a number, a set parameter a set, and a list parameter has items
pub num_param : {names : Names} {place : ℕ} {word : List ℕ} → IsParamAt names place param.Num word → IsNumOf names (num.Named word) (Ok (number.Param place))
num_param {names = names} {place = place} {word = word} at =
    num_leaf names (NumExpr-F.Param place) (number.Param place) (num.Named word) (number.rolls-Param place) (ap num.Named (param_text at)) (ap is_num_param (scope_kind at)) refl (inr (inl (has_param at))) tt

pub item_param : {names : Names} {place : ℕ} {word : List ℕ} → IsParamAt names place param.List word → IsNumOf names (num.Item word) (Ok (number.Item place))
item_param {names = names} {place = place} {word = word} at =
    num_leaf names (NumExpr-F.Item place) (number.Item place) (num.Item word) (number.rolls-Item place) (ap num.Item (param_text at)) (ap is_list_param (scope_kind at)) refl (has_param at) tt

pub set_param : {names : Names} {place : ℕ} {word : List ℕ} → IsParamAt names place param.Set word → IsSetOf names (set.Named word) (Ok (values.Param place))
set_param {names = names} {place = place} {word = word} at =
    set_leaf names (SetExpr-F.Param place) (values.Param place) (set.Named word) (values.rolls-Param place) (ap set.Named (param_text at)) (ap is_set_param (scope_kind at)) refl (inl (has_param at)) tt

-- a property of this form and name stands at this place of a side
pub record IsPropertyAt (names : Names) (side : Side) (place : ℕ) (asked : Form) (word : List ℕ) : Type 0 where
  pub p : PropDecl
  pub inside : place < length (properties_of names side)
  pub got : slice_get (properties_of names side) place ≡ Some p
  pub name : p.name ≡ word
  pub has : has_form asked p.kind ≡ true

pub property_at : (names : Names) (side : Side) (place : ℕ) {asked : Form} {word : List ℕ} → place < length (properties_of names side) → ((d : PropDecl) → (slice_index_or (properties_of names side) place d).name ≡ word) → ((d : PropDecl) → has_form asked (slice_index_or (properties_of names side) place d).kind ≡ true) → IsPropertyAt names side place asked word
property_at names side place {asked = asked} inside name has =
    let found = entry (properties_of names side) place inside in
    let at = get_or_from_slice_get (properties_of names side) place found.0 found.0 found.1 in
    record { p = found.0; inside = inside; got = found.1; name = ap (λ (p : PropDecl). p.name) (sym at) ∙ name found.0; has = ap (λ (p : PropDecl). has_form asked p.kind) (sym at) ∙ has found.0 }

has_property : {names : Names} {side : Side} {place : ℕ} {asked : Form} {word : List ℕ} → IsPropertyAt names side place asked word → HasProperty names (has_form asked) word
has_property {names = names} {side = Down} {place = place} at = inl (place, at.p, at.inside, get_or_from_slice_get names.down place at.p at.p at.got, (at.name, at.has))
has_property {names = names} {side = Up} {place = place} at = inr (place, at.p, at.inside, get_or_from_slice_get names.up place at.p at.p at.got, (at.name, at.has))

property_text : {names : Names} {side : Side} {place : ℕ} {asked : Form} {word : List ℕ} → IsPropertyAt names side place asked word → property_name (slice_get (properties_of names side) place) ≡ word
property_text at = ap property_name at.got ∙ at.name

-- its kind is that of the scope
scope_form : {names : Names} {side : Side} {place : ℕ} {asked : Form} {word : List ℕ} (at : IsPropertyAt names side place asked word) → slice_get (kinds_of (scope_of names) side) place ≡ Some at.p.kind
scope_form {names = names} {side = Down} {place = place} at = slice_get-map (λ (p : PropDecl). p.kind) names.down place ∙ ap (option_map (λ (p : PropDecl). p.kind)) at.got
scope_form {names = names} {side = Up} {place = place} at = slice_get-map (λ (p : PropDecl). p.kind) names.up place ∙ ap (option_map (λ (p : PropDecl). p.kind)) at.got

-- a Min or Max property is a number, a SomeBits or AllBits property a set, and an Interval property has two ends
pub num_property : {names : Names} {side : Side} {place : ℕ} {word : List ℕ} → IsPropertyAt names side place form.Number word → IsNumOf names (num.Named word) (Ok (number.Number side place))
num_property {names = names} {side = side} {place = place} {word = word} at =
    num_leaf names (NumExpr-F.Number side place) (number.Number side place) (num.Named word) (number.rolls-Number side place) (ap num.Named (property_text at)) (ap is_number_kind (scope_form at) ∙ at.has) refl (inr (inr (has_property at))) tt

pub low_property : {names : Names} {side : Side} {place : ℕ} {word : List ℕ} → IsPropertyAt names side place form.Interval word → IsNumOf names (num.Low word) (Ok (number.Low side place))
low_property {names = names} {side = side} {place = place} {word = word} at =
    num_leaf names (NumExpr-F.Low side place) (number.Low side place) (num.Low word) (number.rolls-Low side place) (ap num.Low (property_text at)) (ap is_interval_kind (scope_form at) ∙ at.has) refl (has_property at) tt

pub high_property : {names : Names} {side : Side} {place : ℕ} {word : List ℕ} → IsPropertyAt names side place form.Interval word → IsNumOf names (num.High word) (Ok (number.High side place))
high_property {names = names} {side = side} {place = place} {word = word} at =
    num_leaf names (NumExpr-F.High side place) (number.High side place) (num.High word) (number.rolls-High side place) (ap num.High (property_text at)) (ap is_interval_kind (scope_form at) ∙ at.has) refl (has_property at) tt

pub set_property : {names : Names} {side : Side} {place : ℕ} {word : List ℕ} → IsPropertyAt names side place form.Set word → IsSetOf names (set.Named word) (Ok (values.Bits side place))
set_property {names = names} {side = side} {place = place} {word = word} at =
    set_leaf names (SetExpr-F.Bits side place) (values.Bits side place) (set.Named word) (values.rolls-Bits side place) (ap set.Named (property_text at)) (ap is_set_kind (scope_form at) ∙ at.has) refl (inr (has_property at)) tt
