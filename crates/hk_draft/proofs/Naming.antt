-- Names as the keys of a map, in the order in which they were put there.
use Rattle.std.proofs.Common.{◌≡◌, ℕ, ◌+◌, Bool, false, cond, not, nat_eq, List, [], ◌∷◌, ◌++◌, map, position, None, Vec, refl, sym, ap, ◌∙◌}
use Rattle.std.proofs.lemmas.List.{length-map, map-append}
use Rattle.std.specs.Cmp.Lexicographic.{pointwise}
use Rattle.std.specs.Global.{Global}
use Rattle.std.specs.List.{position_or_len}
use Rattle.std.specs.Map.{keys_of, values_of}
use Rattle.indexmap.specs.IndexMap.{insert_entry}
use Rattle.indexmap.proofs.MapLemmas.{Missing-position, insert_entry-absent}
use Rattle.hk_draft.specs.declared.items.Item.{Item}
use Rattle.hk_draft.specs.declared.items.Rule.{Rule}
use Rattle.hk_draft.specs.Items.{constraints_of, objective_of, gather}
use Rattle.hk_draft.specs.inside.Items.{with_rule}
use Rattle.hk_draft.proofs.MoreItems.{constraints_more, objective_more, gather_more}
use Rattle.hk_draft.specs.Drafts.{PlainDraft}
use Rattle.hk_draft.specs.Declares.{place_of}

-- bytes as a key
abbrev pub Key : Type 0
Key = Vec ℕ Global

-- two keys have the same bytes
abbrev pub same_key : Key → Key → Bool
same_key x y = pointwise nat_eq x.items y.items

-- the bytes of keys
abbrev pub names_of : List Key → List (List ℕ)
names_of ks = map (λ key. key.items) ks

-- the draft whose variables are the entries, with these items
abbrev pub draft_of : List (Key × ℕ) → List Item → Bool → PlainDraft
draft_of entries items fresh = record {
  names = names_of (keys_of entries);
  domains = values_of entries;
  constraints = constraints_of items;
  groups = gather [] items;
  objective = objective_of items;
  fresh = fresh;
}

module _ {X Y : Type 0} (p : Y → Bool) (f : X → Y) where
  position_or_len-map : (xs : List X) → position_or_len p (map f xs) ≡ position_or_len (λ x. p (f x)) xs
  position_or_len-map [] = refl
  position_or_len-map (x ∷ xs) = ap (λ n. cond (not (p (f x))) (1 + n) 0) (position_or_len-map xs)

  position-map : (xs : List X) → position p (map f xs) ≡ position (λ x. p (f x)) xs
  position-map xs = simp (position_or_len-map, length-map)

-- the place of a name is that of its key
pub place_of-names_of : (ks : List Key) (name : List ℕ) → place_of (names_of ks) name ≡ position (λ key. pointwise nat_eq name key.items) ks
place_of-names_of ks name = position-map (λ other. pointwise nat_eq name other) (λ (key : Key). key.items) ks

-- a key whose name no entry has goes last
pub insert_entry-named : (entries : List (Key × ℕ)) (key : Key) (value : ℕ) → place_of (names_of (keys_of entries)) key.items ≡ None
    → insert_entry same_key entries key value ≡ entries ++ (key, value) ∷ []
insert_entry-named entries key value none =
    insert_entry-absent same_key key value entries (Missing-position (same_key key) entries (sym (place_of-names_of (keys_of entries) key.items) ∙ none)).absent

-- one more entry is one more variable
pub draft_of-push : (entries : List (Key × ℕ)) (key : Key) (name : List ℕ) (value : ℕ) (items : List Item) (fresh : Bool) → key.items ≡ name
    → draft_of (entries ++ (key, value) ∷ []) items fresh ≡ record (draft_of entries items fresh) { names = names_of (keys_of entries) ++ name ∷ []; domains = values_of entries ++ value ∷ [] }
draft_of-push entries key name value items fresh e =
    let names = ap names_of (map-append (λ (entry : Key × ℕ). entry.0) entries ((key, value) ∷ []))
    ∙ map-append (λ (k : Key). k.items) (keys_of entries) (key ∷ [])
    ∙ ap (λ text. names_of (keys_of entries) ++ text ∷ []) e in
    let domains = map-append (λ (entry : Key × ℕ). entry.1) entries ((key, value) ∷ []) in
    λ i. record (draft_of entries items fresh) { names = names i; domains = domains i }

-- one more item is one more rule
pub draft_of-rule : (entries : List (Key × ℕ)) (items : List Item) (starts : Bool) (rule : Rule)
    → draft_of entries (items ++ record { starts = starts; rule = rule } ∷ []) false ≡ with_rule (draft_of entries items starts) rule
draft_of-rule entries items starts rule =
    let item : Item = record { starts = starts; rule = rule } in
    let constraints = constraints_more items item in
    let groups = gather_more [] items item in
    let objective = objective_more items item in
    λ i. record (draft_of entries items false) { constraints = constraints i; groups = groups i; objective = objective i }
