-- The items of a set are a list of ranges and numbers up to the closing brace, and a set is a range or such items after the opening brace.
use Rattle.std.proofs.Common.{◌≡◌, ◌<◌, ℕ, List, [], ◌∷◌, length, map, drop, refl, sym, ap, ◌∙◌, subst, codes, arith}
use Rattle.hk_lines.specs.Phrases.{Values, ItemsThen, last_number, last_range, more_number, more_range, SetThen, set_range, set_empty, set_items, RangeThen}
use Rattle.hk_lines.specs.inside.Pieces.{ItemThen, then_range, then_number}
use Rattle.hk_lines.specs.Shapes.{capped_values}
use Rattle.hk_lines.specs.inside.Capped.{BeginsCapped, BeginsWithout}
use Rattle.hk_text.proofs.TokenTexts.{apart, differ, same_first, same_rest, mark_no_number}
use Rattle.hk_lines.proofs.Lists.{IsListOf, Opens, opens_last, opens_more}

item_last : {texts rest : List (List ℕ)} {x : Values} → ItemThen texts x (codes "}" ∷ rest) → ItemsThen texts (x ∷ []) rest
item_last (then_range range) = last_range range.parts range.from_is range.to_is
item_last (then_number number none) = last_number number.parts number.number

item_more : {texts more rest : List (List ℕ)} {x : Values} {xs : List Values} → ItemThen texts x (codes "," ∷ more) → ItemsThen more xs rest → ItemsThen texts (x ∷ xs) rest
item_more (then_range range) items = more_range range.parts range.from_is range.to_is items
item_more (then_number number none) items = more_number number.parts number.number items

items_open : {texts rest : List (List ℕ)} {xs : List Values} → ItemsThen texts xs rest → Opens ItemThen ItemsThen (codes "}") texts rest
items_open (last_number {text = text} is number) = opens_last (then_number (record { text = text; parts = is; number = number }) (λ values other range. apart 1 is range.parts refl))
items_open (last_range {from = from} {to = to} is from_is to_is) = opens_last (then_range (record { from = from; to = to; parts = is; from_is = from_is; to_is = to_is }))
items_open (more_number {text = text} is number items) = opens_more (then_number (record { text = text; parts = is; number = number }) (λ values other range. apart 1 is range.parts refl)) items
items_open (more_range {from = from} {to = to} is from_is to_is items) = opens_more (then_range (record { from = from; to = to; parts = is; from_is = from_is; to_is = to_is })) items

item_one : {texts after other : List (List ℕ)} {x y : Values} → ItemThen texts x after → ItemThen texts y other → after ≡ other
item_one (then_range one) (then_range two) = ap (drop 3) (sym one.parts ∙ two.parts)
item_one {x = x} (then_range one) (then_number two none) = absurd (none x _ one)
item_one {y = y} (then_number one none) (then_range two) = absurd (none y _ two)
item_one (then_number one none) (then_number two nothing) = ap (drop 1) (sym one.parts ∙ two.parts)

item_shorter : {texts after : List (List ℕ)} {x : Values} → ItemThen texts x after → length after < length texts
item_shorter {texts = texts} {after = after} (then_range range) =
    let same : length texts ≡ length (range.from ∷ codes ".." ∷ range.to ∷ after) = ap (λ ts. length ts) range.parts in
    omega (arith, same)
item_shorter {texts = texts} {after = after} (then_number number none) =
    let same : length texts ≡ length (number.text ∷ after) = ap (λ ts. length ts) number.parts in
    omega (arith, same)

-- the items of a set are a list of items
pub items_list : IsListOf ItemThen ItemsThen (codes "}")
items_list = record {
  last = item_last;
  more = item_more;
  opens = items_open;
  one = item_one;
  shorter = item_shorter;
  apart = λ same. differ same refl;
}

-- a set with nothing in its braces
pub empty_set_begins : {texts inner rest : List (List ℕ)} {answer : List Values} → texts ≡ codes "{" ∷ inner → inner ≡ codes "}" ∷ rest → answer ≡ [] → BeginsCapped SetThen (map capped_values) texts answer rest
empty_set_begins opens closes none = record { exact = []; phrase = set_empty (opens ∙ ap (λ ts. codes "{" ∷ ts) closes); is_capped = none }

-- a set whose items stand in braces
pub set_begins : {texts inner rest : List (List ℕ)} {answer : List Values} → texts ≡ codes "{" ∷ inner → BeginsCapped ItemsThen (map capped_values) inner answer rest → BeginsCapped SetThen (map capped_values) texts answer rest
set_begins opens items = record { exact = items.exact; phrase = set_items opens items.phrase; is_capped = items.is_capped }

-- a set that is a range
pub range_begins : {texts rest : List (List ℕ)} {value : Values} {answer : List Values} → BeginsCapped RangeThen capped_values texts value rest → answer ≡ value ∷ [] → BeginsCapped SetThen (map capped_values) texts answer rest
range_begins range is = record {
  exact = range.exact ∷ [];
  phrase = set_range range.phrase.parts range.phrase.from_is range.phrase.to_is;
  is_capped = is ∙ ap (λ values. values ∷ []) range.is_capped;
}

-- after an opening brace come neither the closing one nor items, so no set begins there
pub no_items_no_set : {texts inner : List (List ℕ)} → texts ≡ codes "{" ∷ inner → ((others : List (List ℕ)) → inner ≡ codes "}" ∷ others → ⊥) → BeginsWithout ItemsThen inner → BeginsWithout SetThen texts
no_items_no_set opens no_close no_items items rest (set_range is from_is to_is) = mark_no_number (same_first is opens) refl from_is
no_items_no_set opens no_close no_items items rest (set_empty is) = no_close rest (same_rest opens is)
no_items_no_set opens no_close no_items items rest (set_items is phrase) = no_items items rest (subst (λ texts. ItemsThen texts items rest) (same_rest is opens) phrase)

-- neither an opening brace nor a range, so no set begins there
pub no_range_no_set : {texts : List (List ℕ)} → ((others : List (List ℕ)) → texts ≡ codes "{" ∷ others → ⊥) → BeginsWithout RangeThen texts → BeginsWithout SetThen texts
no_range_no_set no_open no_range items rest (set_range {from = from} {to = to} {m = m} {n = n} is from_is to_is) =
    no_range (record { first = m; last = n }) rest (record { from = from; to = to; parts = is; from_is = from_is; to_is = to_is })
no_range_no_set no_open no_range items rest (set_empty {rest = others} is) = no_open (codes "}" ∷ others) is
no_range_no_set no_open no_range items rest (set_items {more = more} is phrase) = no_open more is
