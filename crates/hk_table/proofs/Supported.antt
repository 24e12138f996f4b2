-- Support, layer after layer: what is left of it once the rows that are reached so far are known.
use Rattle.std.proofs.Common.{◌≡◌, ◌↔◌, ◌⊎◌, ℕ, zero, suc, ◌+◌, ◌<◌, ◌≤◌, List, [], ◌∷◌, length, drop, get_or, set, slice_index, refl, sym, ◌∙◌, ap, subst, inl, inr, arith, All, Some}
use Rattle.std.specs.List.{slice_get}
use Rattle.std.proofs.lemmas.Bool.{cases_eq}
use Rattle.std.proofs.lemmas.List.{drop_more, get_or-map, length-map, get_or-set_same, get_or-set_other}
use Rattle.std.proofs.lemmas.List.Elements.{All-weaker}
use Rattle.std.proofs.lemmas.Nat.Bits.{bit_at-zero}
use Rattle.std.proofs.lemmas.Option.{slice_get_within}
use Rattle.hk_base.specs.Sets.{Has}
use Rattle.hk_table.specs.Keeps.{SupportsFrom, supports_here, supports_later}
use Rattle.hk_table.specs.Supporting.{IsSupportable, RowLeads}
use Rattle.hk_table.specs.Tables.{PlainRow, PlainShape, layer_values}
use Rattle.hk_table.specs.inside.Reaching.{EntryLeads, LayerLeads}
use Rattle.hk_table.specs.TakenIn.{TakesIn}
use Rattle.hk_text.specs.Sets.{members}

-- a value is supported so many layers on from one of the rows that are reached
pub record IsReached (layers_values : List (List ℕ)) (table : List (List PlainRow)) (reached level value : ℕ) : Type 0 where
  pub from : ℕ
  pub among : Has reached from
  pub supports : SupportsFrom layers_values table from level value

-- the parts of a support
record Here (values : List ℕ) (layer : List PlainRow) (from value : ℕ) : Type 0 where
  row : PlainRow
  next : ℕ
  there : slice_get layer from ≡ Some row
  leads : EntryLeads values row.entries value next

here_parts : {values : List ℕ} {more : List (List ℕ)} {layer : List PlainRow} {layers : List (List PlainRow)} {from value : ℕ} → SupportsFrom (values ∷ more) (layer ∷ layers) from zero value → Here values layer from value
here_parts (supports_here {next = next} {row = row} there leads) = record { row = row; next = next; there = there; leads = leads }

record Later (values : List ℕ) (more : List (List ℕ)) (layer : List PlainRow) (layers : List (List PlainRow)) (from level value : ℕ) : Type 0 where
  row : PlainRow
  next : ℕ
  step : ℕ
  there : slice_get layer from ≡ Some row
  leads : EntryLeads values row.entries step next
  supports : SupportsFrom more layers next level value

later_parts : {values : List ℕ} {more : List (List ℕ)} {layer : List PlainRow} {layers : List (List PlainRow)} {from level value : ℕ} → SupportsFrom (values ∷ more) (layer ∷ layers) from (suc level) value → Later values more layer layers from level value
later_parts (supports_later {next = next} {row = row} step there leads rest) = record { row = row; next = next; step = step; there = there; leads = leads; supports = rest }

-- the values that a layer's steps have are those that are supported here, and the rows that they lead to are those from
-- which the later ones are
module _ (values : List ℕ) (more : List (List ℕ)) (layer : List PlainRow) (layers : List (List PlainRow)) (reached found next : ℕ) (takes : TakesIn (LayerLeads values layer reached (length layer)) 0 0 found next) where
  reached_here : (value : ℕ) → Has found value ↔ IsReached (values ∷ more) (layer ∷ layers) reached 0 value
  reached_here value = (
    λ has. elim ((takes.values value).0 has) [
      | inl none ↦ let zero_there = bit_at-zero value in absurd (omega arith)
      | inr step ↦ record { from = step.1.at; among = step.1.among; supports = supports_here step.1.there step.1.leads }
    ],
    λ is.
        let parts = here_parts is.supports in
        (takes.values value).1 (inr (parts.next, record { at = is.from; row = parts.row; within = slice_get_within layer is.from parts.row parts.there; among = is.among; there = parts.there; leads = parts.leads })),
  )

  reached_later : (level value : ℕ) → IsReached (values ∷ more) (layer ∷ layers) reached (suc level) value ↔ IsReached more layers next level value
  reached_later level value = (
    λ is.
        let parts = later_parts is.supports in
        record {
          from = parts.next;
          among = (takes.rows parts.next).1 (inr (parts.step, record { at = is.from; row = parts.row; within = slice_get_within layer is.from parts.row parts.there; among = is.among; there = parts.there; leads = parts.leads }));
          supports = parts.supports;
        },
    λ is. elim ((takes.rows is.from).0 is.among) [
      | inl none ↦ let zero_there = bit_at-zero is.from in absurd (omega arith)
      | inr step ↦ record { from = step.1.at; among = step.1.among; supports = supports_later step.0 step.1.there step.1.leads is.supports }
    ],
  )

-- the values of the layers before this one are written, and the later ones are those that are supported from the rows
-- that are reached here
pub record IsSupportUpTo (layers_values : List (List ℕ)) (table : List (List PlainRow)) (out : List ℕ) (level reached : ℕ) : Type 0 where
  pub done : (k value : ℕ) → k < level → Has (slice_index out k) value ↔ SupportsFrom layers_values table 0 k value
  pub left : (k value : ℕ) → SupportsFrom layers_values table 0 (level + k) value ↔ IsReached (drop level layers_values) (drop level table) reached k value

-- at first row 0 alone is reached
pub support_begun : (layers_values : List (List ℕ)) (table : List (List PlainRow)) (out : List ℕ) (reached : ℕ) → ((other : ℕ) → Has reached other ↔ (Has 0 other ⊎ (other ≡ 0))) → IsSupportUpTo layers_values table out 0 reached
support_begun layers_values table out reached first = record {
  done = λ k value below. absurd (omega arith);
  left = λ k value.
      let same : 0 + k ≡ k = omega arith in (
        λ supports. record { from = 0; among = (first 0).1 (inr refl); supports = subst (λ n. SupportsFrom layers_values table 0 n value) same supports },
        λ is. elim ((first is.from).0 is.among) [
          | inl none ↦ let zero_there = bit_at-zero is.from in absurd (omega arith)
          | inr root ↦ subst (λ n. SupportsFrom layers_values table 0 n value) (sym same) (subst (λ c. SupportsFrom layers_values table c k value) root is.supports)
        ],
      );
}

-- one layer more
pub support_more : (layers_values : List (List ℕ)) (table : List (List PlainRow)) (out : List ℕ) (level reached found next : ℕ) (values : List ℕ) (layer : List PlainRow) → level < length out
    → drop level layers_values ≡ values ∷ drop (level + 1) layers_values → drop level table ≡ layer ∷ drop (level + 1) table → TakesIn (LayerLeads values layer reached (length layer)) 0 0 found next
    → IsSupportUpTo layers_values table out level reached → IsSupportUpTo layers_values table (set out level found) (level + 1) next
support_more layers_values table out level reached found next values layer within at_values at_table takes before =
    let more = drop (level + 1) layers_values in
    let layers = drop (level + 1) table in
    let left : (k value : ℕ) → SupportsFrom layers_values table 0 (level + k) value ↔ IsReached (values ∷ more) (layer ∷ layers) reached k value = λ k value.
    subst (λ t. SupportsFrom layers_values table 0 (level + k) value ↔ IsReached (values ∷ more) t reached k value) at_table
    (subst (λ vs. SupportsFrom layers_values table 0 (level + k) value ↔ IsReached vs (drop level table) reached k value) at_values (before.left k value)) in record {
      done = λ k value below. elim (cases_eq k level) [
        | inl same ↦
            let now : slice_index (set out level found) k ≡ found = ap (slice_index (set out level found)) same ∙ get_or-set_same out level found 0 within in
            let here = reached_here values more layer layers reached found next takes value in
            let place : level + 0 ≡ k = omega arith in (
              λ has. subst (λ n. SupportsFrom layers_values table 0 n value) place ((left 0 value).1 (here.0 (subst (λ n. Has n value) now has))),
              λ supports. subst (λ n. Has n value) (sym now) (here.1 ((left 0 value).0 (subst (λ n. SupportsFrom layers_values table 0 n value) (sym place) supports))),
            )
        | inr apart ↦ subst (λ n. Has n value ↔ SupportsFrom layers_values table 0 k value) (sym (get_or-set_other out level k found 0 apart)) (before.done k value (omega arith))
      ];
      left = λ k value.
          let later = reached_later values more layer layers reached found next takes k value in
          let place : level + suc k ≡ level + 1 + k = omega arith in (
            λ supports. later.0 ((left (suc k) value).0 (subst (λ n. SupportsFrom layers_values table 0 n value) (sym place) supports)),
            λ is. subst (λ n. SupportsFrom layers_values table 0 n value) place ((left (suc k) value).1 (later.1 is)),
          );
    }

-- the rows of a layer can be followed, and name rows below 256
pub layer_leads : (shape : PlainShape) (table : List (List PlainRow)) (level : ℕ) → IsSupportable shape table → level < length shape.domains → All (RowLeads (members (slice_index shape.domains level)) 256) (get_or table level [])
layer_leads shape table level supportable within =
    let values = members (slice_index shape.domains level) in
    let next = length (get_or table (level + 1) []) in
    let few : next ≤ 256 = supportable.few (level + 1) [] (omega (arith, supportable.long)) in
    All-weaker (RowLeads values next) (RowLeads values 256)
    (λ row leads. record { long = leads.long; names = λ k d below c is. let named = leads.names k d below c is in omega arith })
    (get_or table level []) (supportable.leads level within)

-- the values of a layer and those of the layers after it
pub values_from : (shape : PlainShape) (level : ℕ) → level < length shape.domains → drop level (layer_values shape) ≡ members (slice_index shape.domains level) ∷ drop (level + 1) (layer_values shape)
values_from shape level within =
    let long : level < length (layer_values shape) = omega (arith, length-map shape.domains members) in
    drop_more (layer_values shape) level [] long ∙ ap (λ values. values ∷ drop (level + 1) (layer_values shape)) (get_or-map members shape.domains level 0 [] within)

-- a layer that is read, and the layers after it
pub layer_read : (table : List (List PlainRow)) (level : ℕ) (layer : List PlainRow) → level < length table → layer ≡ get_or table level layer → drop level table ≡ layer ∷ drop (level + 1) table
layer_read table level layer within is = drop_more table level layer within ∙ ap (λ rows. rows ∷ drop (level + 1) table) (sym is)
