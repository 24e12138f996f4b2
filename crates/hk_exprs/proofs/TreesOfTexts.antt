-- An expression that is well written, whose names stand for what their places ask and whose numbers and depth are within their limits, is that of a tree.
use Rattle.std.proofs.Common.{◌≡◌, ℕ, ◌+◌, ◌≤◌, max, ap, ◌∙◌, arith}
use Rattle.std.proofs.Math.Nat.{le-max_left, le-max_right}
use Rattle.hk_spec.specs.declared.expressions.NumExpr.{NumExpr}
use Rattle.hk_spec.specs.declared.expressions.NumExpr.TheOpen.{NumExpr-F}
use Rattle.hk_spec.specs.declared.expressions.NumExpr.TheVariants.{Card, Add, Least, Most, Minus, Negative, Times, rolls-Card, rolls-Add, rolls-Least, rolls-Most, rolls-Minus, rolls-Negative, rolls-Times}
use Rattle.hk_spec.specs.declared.expressions.SetExpr.{SetExpr}
use Rattle.hk_spec.specs.declared.expressions.SetExpr.TheOpen.{SetExpr-F}
use Rattle.hk_spec.specs.declared.expressions.SetExpr.TheVariants.{Union, Common, Without, rolls-Union, rolls-Common, rolls-Without}
use Rattle.hk_terms.specs.Names.{Names, NamesSet, NamesNum, SmallSet, SmallNum, set_depth, num_depth}
use Rattle.hk_terms.specs.NumTexts as num
use Rattle.hk_terms.specs.NumTexts.{NumText, NumOperation, Choice, IsNumText}
use Rattle.hk_terms.specs.SetTexts as set
use Rattle.hk_terms.specs.SetTexts.{SetText, SetOperation, IsSetText}
use Rattle.hk_exprs.specs.inside.Standing.{IsNum, IsSet}
use Rattle.hk_terms.specs.Trees.{set_text, num_text}
use Rattle.hk_exprs.proofs.MakingNums.{written as num_written, fitted as num_fitted, num_is, num_fit, fit_two as nums_fit}
use Rattle.hk_exprs.proofs.MakingSets.{written as set_written, fitted as set_fitted, set_is, set_fit, fit_two as sets_fit}
use Rattle.hk_exprs.proofs.TreesOfLeaves.{NumThere, SetThere, literal_there, values_there, one_there, num_word_there, set_word_there, item_there, low_there, high_there}

-- the parts of what is not too deep are not too deep
pub first_depth : (a b : ℕ) → max a b + 1 ≤ 32 → a ≤ 32
first_depth a b small = let first = le-max_left a b in omega (arith, first, small)

pub second_depth : (a b : ℕ) → max a b + 1 ≤ 32 → b ≤ 32
second_depth a b small = let second = le-max_right a b in omega (arith, second, small)

pub part_depth : (a : ℕ) → a + 1 ≤ 32 → a ≤ 32
part_depth a small = omega (arith, small)

module _ (names : Names) where
  module _ {x y : SetText} {a b : SetExpr} (h : IsSet names x a) (k : IsSet names y b) where
    sets_written : (operation : SetOperation) → set.Joined operation (set_text names a) (set_text names b) ≡ set.Joined operation x y
    sets_written operation = let left = h.text_is in let right = k.text_is in cc

    sets_joined : (operation : SetOperation) → max (set_depth x) (set_depth y) + 1 ≤ 32 → SetThere names (set.Joined operation x y)
    sets_joined set.Union small = (Union a b, set_is names _ (Union a b) (set_written names _ (SetExpr-F.Union a b) (rolls-Union a b) ∙ sets_written set.Union) (set_fitted names _ (SetExpr-F.Union a b) (rolls-Union a b) ∙ sets_fit names h k) small)
    sets_joined set.Common small = (Common a b, set_is names _ (Common a b) (set_written names _ (SetExpr-F.Common a b) (rolls-Common a b) ∙ sets_written set.Common) (set_fitted names _ (SetExpr-F.Common a b) (rolls-Common a b) ∙ sets_fit names h k) small)
    sets_joined set.Without small = (Without a b, set_is names _ (Without a b) (set_written names _ (SetExpr-F.Without a b) (rolls-Without a b) ∙ sets_written set.Without) (set_fitted names _ (SetExpr-F.Without a b) (rolls-Without a b) ∙ sets_fit names h k) small)

  -- a set as it is written is that of a tree
  pub set_there : (text : SetText) → NamesSet names text → SmallSet text → IsSetText text → set_depth text ≤ 32 → SetThere names text
  set_there (set.Values numbers) named small written deep = values_there names numbers small written
  set_there set.One named small written deep = one_there names
  set_there (set.Named word) named small written deep = set_word_there names named
  set_there (set.Joined operation a b) named small written deep =
      let (x, left) = set_there a named.0 small.0 written.0 (first_depth (set_depth a) (set_depth b) deep) in
      let (y, right) = set_there b named.1 small.1 written.1 (second_depth (set_depth a) (set_depth b) deep) in
      sets_joined left right operation deep

  module _ {x y : NumText} {a b : NumExpr} (h : IsNum names x a) (k : IsNum names y b) where
    nums_written : (operation : NumOperation) → num.Joined operation (num_text names a) (num_text names b) ≡ num.Joined operation x y
    nums_written operation = let left = h.text_is in let right = k.text_is in cc

    choice_written : (choice : Choice) → num.Chosen choice (num_text names a) (num_text names b) ≡ num.Chosen choice x y
    choice_written choice = let left = h.text_is in let right = k.text_is in cc

    nums_joined : (operation : NumOperation) → max (num_depth x) (num_depth y) + 1 ≤ 32 → NumThere names (num.Joined operation x y)
    nums_joined num.Plus small = (Add a b, num_is names _ (Add a b) (num_written names _ (NumExpr-F.Add a b) (rolls-Add a b) ∙ nums_written num.Plus) (num_fitted names _ (NumExpr-F.Add a b) (rolls-Add a b) ∙ nums_fit names h k) small)
    nums_joined num.Minus small = (Minus a b, num_is names _ (Minus a b) (num_written names _ (NumExpr-F.Minus a b) (rolls-Minus a b) ∙ nums_written num.Minus) (num_fitted names _ (NumExpr-F.Minus a b) (rolls-Minus a b) ∙ nums_fit names h k) small)
    nums_joined num.Times small = (Times a b, num_is names _ (Times a b) (num_written names _ (NumExpr-F.Times a b) (rolls-Times a b) ∙ nums_written num.Times) (num_fitted names _ (NumExpr-F.Times a b) (rolls-Times a b) ∙ nums_fit names h k) small)

    nums_chosen : (choice : Choice) → max (num_depth x) (num_depth y) + 1 ≤ 32 → NumThere names (num.Chosen choice x y)
    nums_chosen num.Least small = (Least a b, num_is names _ (Least a b) (num_written names _ (NumExpr-F.Least a b) (rolls-Least a b) ∙ choice_written num.Least) (num_fitted names _ (NumExpr-F.Least a b) (rolls-Least a b) ∙ nums_fit names h k) small)
    nums_chosen num.Most small = (Most a b, num_is names _ (Most a b) (num_written names _ (NumExpr-F.Most a b) (rolls-Most a b) ∙ choice_written num.Most) (num_fitted names _ (NumExpr-F.Most a b) (rolls-Most a b) ∙ nums_fit names h k) small)

  negative_there : {x : NumText} {a : NumExpr} → IsNum names x a → num_depth x + 1 ≤ 32 → NumThere names (num.Negative x)
  negative_there {a = a} h small = (Negative a, num_is names _ (Negative a) (num_written names _ (NumExpr-F.Negative a) (rolls-Negative a) ∙ ap num.Negative h.text_is) (num_fitted names _ (NumExpr-F.Negative a) (rolls-Negative a) ∙ num_fit names h) small)

  card_there : {x : SetText} {a : SetExpr} → IsSet names x a → set_depth x + 1 ≤ 32 → NumThere names (num.Card x)
  card_there {a = a} h small = (Card a, num_is names _ (Card a) (num_written names _ (NumExpr-F.Card a) (rolls-Card a) ∙ ap num.Card h.text_is) (num_fitted names _ (NumExpr-F.Card a) (rolls-Card a) ∙ set_fit names h) small)

  -- a number as it is written is that of a tree
  pub num_there : (text : NumText) → NamesNum names text → SmallNum text → IsNumText text → num_depth text ≤ 32 → NumThere names text
  num_there (num.Number negative digits) named small written deep = literal_there names negative digits small written
  num_there (num.Named word) named small written deep = num_word_there names named
  num_there (num.Item word) named small written deep = item_there names named
  num_there (num.Low word) named small written deep = low_there names named
  num_there (num.High word) named small written deep = high_there names named
  num_there (num.Card set) named small written deep =
      let (x, is) = set_there set named small written (part_depth (set_depth set) deep) in
      card_there is deep
  num_there (num.Joined operation a b) named small written deep =
      let (x, left) = num_there a named.0 small.0 written.0 (first_depth (num_depth a) (num_depth b) deep) in
      let (y, right) = num_there b named.1 small.1 written.1 (second_depth (num_depth a) (num_depth b) deep) in
      nums_joined left right operation deep
  num_there (num.Chosen choice a b) named small written deep =
      let (x, left) = num_there a named.0 small.0 written.0 (first_depth (num_depth a) (num_depth b) deep) in
      let (y, right) = num_there b named.1 small.1 written.1 (second_depth (num_depth a) (num_depth b) deep) in
      nums_chosen left right choice deep
  num_there (num.Negative a) named small written deep =
      let (x, is) = num_there a named small written (part_depth (num_depth a) deep) in
      negative_there is deep
