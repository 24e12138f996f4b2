-- Up states of rows, by the list that says which of them have one.
use Rattle.std.proofs.Common.{◌≡◌, ℕ, zero, suc, Bool, true, false, List, [], ◌∷◌, ◌++◌, length, get_or, None, Some, refl, sym, ◌∙◌, ap, arith}
use Rattle.hk_kinds.specs.declared.properties.Prop.{Prop}
use Rattle.hk_layers.specs.Views.{UpsView, up_if, ups_by}

-- there are as many rows as flags
pub length-ups_by : (flags : List Bool) (states : List (List Prop)) → length flags ≡ length states → length (ups_by flags states) ≡ length flags
length-ups_by [] states long = refl
length-ups_by (flag ∷ flags) [] long = absurd (omega arith)
length-ups_by (flag ∷ flags) (state ∷ states) long = ap (λ n. suc n) (length-ups_by flags states (omega arith))

-- the row at a place has the state there where its flag says so
pub ups_by-at : (flags : List Bool) (states : List (List Prop)) (i : ℕ) → length flags ≡ length states → get_or (ups_by flags states) i None ≡ up_if (get_or flags i false) (get_or states i [])
ups_by-at [] states i long = refl
ups_by-at (flag ∷ flags) [] i long = absurd (omega arith)
ups_by-at (flag ∷ flags) (state ∷ states) zero long = refl
ups_by-at (flag ∷ flags) (state ∷ states) (suc i) long = ups_by-at flags states i (omega arith)

-- a flag and a state at the end are a row more
pub ups_by-push : (flags : List Bool) (states : List (List Prop)) (flag : Bool) (state : List Prop) → length flags ≡ length states → ups_by (flags ++ flag ∷ []) (states ++ state ∷ []) ≡ ups_by flags states ++ up_if flag state ∷ []
ups_by-push [] [] flag state long = refl
ups_by-push [] (other ∷ states) flag state long = absurd (omega arith)
ups_by-push (other ∷ flags) [] flag state long = absurd (omega arith)
ups_by-push (first ∷ flags) (other ∷ states) flag state long = ap (λ ups. up_if first other ∷ ups) (ups_by-push flags states flag state (omega arith))

-- what contracts see of flags and states
abbrev pub seen_by : ℕ → List Bool → List (List Prop) → UpsView
seen_by width flags states = record { width = width; ups = ups_by flags states }

module _ (width : ℕ) (flags : List Bool) (states : List (List Prop)) (now : UpsView) (seen : seen_by width flags states ≡ now) (long : length flags ≡ length states) where
  pub seen_length : length states ≡ length now.ups
  seen_length = sym long ∙ (sym (length-ups_by flags states long) ∙ ap (λ (u : UpsView). length u.ups) seen)

  pub seen_at : (i : ℕ) → up_if (get_or flags i false) (get_or states i []) ≡ get_or now.ups i None
  seen_at i = sym (ups_by-at flags states i long) ∙ ap (λ (u : UpsView). get_or u.ups i None) seen

  pub seen_there : (i : ℕ) (flag : Bool) (state : List Prop) → flag ≡ get_or flags i false → flag ≡ true → state ≡ get_or states i [] → Some state ≡ get_or now.ups i None
  seen_there i flag state is there row = ap Some row ∙ (ap (λ b. up_if b (get_or states i [])) (sym there ∙ is) ∙ seen_at i)

  pub seen_none : (i : ℕ) → get_or flags i false ≡ false → None ≡ get_or now.ups i None
  seen_none i none = ap (λ b. up_if b (get_or states i [])) (sym none) ∙ seen_at i

  pub seen_push : (flag : Bool) (state : List Prop) → seen_by width (flags ++ flag ∷ []) (states ++ state ∷ []) ≡ record { width = now.width; ups = now.ups ++ up_if flag state ∷ [] }
  seen_push flag state =
      let pushed : seen_by width (flags ++ flag ∷ []) (states ++ state ∷ []) ≡ record { width = width; ups = ups_by flags states ++ up_if flag state ∷ [] } = ap (λ ups. record { width = width; ups = ups }) (ups_by-push flags states flag state long) in
      pushed ∙ ap (λ (u : UpsView). record { width = u.width; ups = u.ups ++ up_if flag state ∷ [] }) seen
