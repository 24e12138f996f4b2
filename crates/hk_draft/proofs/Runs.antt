-- The items of a group, and the groups that are gathered from them.
use Rattle.std.proofs.Common.{◌≡◌, ◌⊎◌, inl, inr, ◌<◌, Bool, true, false, List, [], ◌∷◌, ◌++◌, length, map, refl, sym, ap, subst, ◌∙◌, append_assoc, arith}
use Rattle.std.specs.Prelude.{All}
use Rattle.std.proofs.lemmas.List.{append-nil, map-append}
use Rattle.std.proofs.lemmas.List.Elements.{All-nil, All-cons, All-head, All-tail, All-push}
use Rattle.hk_group.specs.Groups.{Part, PlainGroup}
use Rattle.hk_draft.specs.declared.items.Item.{Item}
use Rattle.hk_draft.specs.Drafts.{put, put_last}
use Rattle.hk_draft.specs.Items.{gather, rule_parts}
use Rattle.hk_draft.specs.inside.Items.{item_parts, BeginsGroup, IsRun}

-- the item begins no group
abbrev pub GoesOn : Item → Type 0
GoesOn item = item.starts ≡ false

-- parts put in the last group
last_put : (groups : List (List Part)) (group parts : List Part) → put_last (groups ++ group ∷ []) parts ≡ groups ++ (group ++ parts) ∷ []
last_put [] group parts = refl
last_put (first ∷ []) group parts = refl
last_put (first ∷ next ∷ more) group parts = ap (λ rest. first ∷ rest) (last_put (next ∷ more) group parts)

-- items that go on with the last group
goes_on : (later rest : List Item) (groups : List (List Part)) (group : List Part) → All GoesOn later → gather (groups ++ group ∷ []) (later ++ rest) ≡ gather (groups ++ (group ++ item_parts later) ∷ []) rest
goes_on [] rest groups group on = ap (λ g. gather (groups ++ g ∷ []) rest) (sym (append-nil group))
goes_on (item ∷ later) rest groups group on =
    let here : item.starts ≡ false = All-head GoesOn item later on in
    ap (λ (starts : Bool). gather (put starts (groups ++ group ∷ []) (rule_parts item.rule)) (later ++ rest)) here
    ∙ ap (λ gs. gather gs (later ++ rest)) (last_put groups group (rule_parts item.rule))
    ∙ goes_on later rest groups (group ++ rule_parts item.rule) (All-tail GoesOn item later on)
    ∙ ap (λ g. gather (groups ++ g ∷ []) rest) (append_assoc group (rule_parts item.rule) (item_parts later))

-- the first of a run begins a group where it says so, or where there is none
begins : (groups : List (List Part)) (item : Item) (parts : List Part) → (groups ≡ []) ⊎ (item.starts ≡ true) → put item.starts groups parts ≡ groups ++ parts ∷ []
begins groups item parts (inl none) = ap (λ gs. put item.starts gs parts) none ∙ first item.starts ∙ ap (λ (gs : List (List Part)). gs ++ parts ∷ []) (sym none)
  where
    first : (starts : Bool) → put starts [] parts ≡ parts ∷ []
    first true = refl
    first false = refl
begins groups item parts (inr starts) = ap (λ (b : Bool). put b groups parts) starts

-- where the first of a run begins a group, the run is its group
run_gathered : (run rest : List Item) (groups : List (List Part)) → IsRun run → ((item : Item) (later : List Item) → run ≡ item ∷ later → (groups ≡ []) ⊎ (item.starts ≡ true))
    → gather groups (run ++ rest) ≡ gather (groups ++ item_parts run ∷ []) rest
run_gathered [] rest groups run first = absurd run
run_gathered (item ∷ later) rest groups run first =
    ap (λ gs. gather gs (later ++ rest)) (begins groups item (rule_parts item.rule) (first item later refl)) ∙ goes_on later rest groups (rule_parts item.rule) run

-- the parts of each group
abbrev pub parts_of_each : List PlainGroup → List (List Part)
parts_of_each groups = map (λ (group : PlainGroup). group.parts) groups

-- the first of what is left begins a group
first_begins : (rest run after : List Item) → rest ≡ run ++ after → BeginsGroup rest → (item : Item) (later : List Item) → run ≡ item ∷ later → item.starts ≡ true
first_begins rest run after parts starts item later is = subst BeginsGroup (parts ∙ ap (λ items. items ++ after) is) starts

-- a group more, of the next run
pub gathered_more : (groups more : List PlainGroup) (group : PlainGroup) (rest run after : List Item) (whole : List (List Part)) → gather (parts_of_each groups) rest ≡ whole → (groups ≡ []) ⊎ BeginsGroup rest
    → rest ≡ run ++ after → IsRun run → group.parts ≡ item_parts run → more ≡ groups ++ group ∷ [] → gather (parts_of_each more) after ≡ whole
gathered_more groups more group rest run after whole gathered begins parts is_run made pushed =
    let shown : parts_of_each more ≡ parts_of_each groups ++ item_parts run ∷ [] =
    ap parts_of_each pushed ∙ map-append (λ (g : PlainGroup). g.parts) groups (group ∷ []) ∙ ap (λ ps. parts_of_each groups ++ ps ∷ []) made in
    ap (λ gs. gather gs after) shown ∙ sym (run_gathered run after (parts_of_each groups) is_run first) ∙ ap (gather (parts_of_each groups)) (sym parts) ∙ gathered
  where
    first : (item : Item) (later : List Item) → run ≡ item ∷ later → (parts_of_each groups ≡ []) ⊎ (item.starts ≡ true)
    first item later is = by begins
      where
        by : (groups ≡ []) ⊎ BeginsGroup rest → (parts_of_each groups ≡ []) ⊎ (item.starts ≡ true)
        by (inl none) = inl (ap parts_of_each none)
        by (inr starts) = inr (first_begins rest run after parts starts item later is)

-- what holds of each item of two lists holds of each of both
pub all_front : {X : Type 0} (P : X → Type 0) (xs ys : List X) → All P (xs ++ ys) → All P xs
all_front P [] ys all = All-nil P
all_front P (x ∷ xs) ys all = All-cons P x xs (All-head P x (xs ++ ys) all) (all_front P xs ys (All-tail P x (xs ++ ys) all))

pub all_back : {X : Type 0} (P : X → Type 0) (xs ys : List X) → All P (xs ++ ys) → All P ys
all_back P [] ys all = all
all_back P (x ∷ xs) ys all = all_back P xs ys (All-tail P x (xs ++ ys) all)

-- a run is some items, and goes on with one that begins no group
pub run_some : (run : List Item) → IsRun run → 0 < length run
run_some [] run = absurd run
run_some (item ∷ later) run = omega arith

pub run_more : (run : List Item) (item : Item) → IsRun run → item.starts ≡ false → IsRun (run ++ item ∷ [])
run_more [] item run on = absurd run
run_more (first ∷ later) item run on = All-push GoesOn later item run on
