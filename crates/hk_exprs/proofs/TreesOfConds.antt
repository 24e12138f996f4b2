-- A condition that is well written, whose names stand for what their places ask and whose numbers and depth are within their limits, is that of a tree.
use Rattle.std.proofs.Common.{◌≡◌, ◌+◌, ◌≤◌, max, Bool, true, false, ap, ◌∙◌}
use Rattle.hk_spec.specs.declared.expressions.NumExpr.{NumExpr}
use Rattle.hk_spec.specs.declared.expressions.SetExpr.{SetExpr}
use Rattle.hk_spec.specs.declared.expressions.Cond.{Cond}
use Rattle.hk_spec.specs.declared.expressions.Cond.TheOpen.{Cond-F, Below as below_layer}
use Rattle.hk_spec.specs.declared.expressions.Cond.TheVariants.{Always, Never, AtMost, Below, AtLeast, Above, Equal, Has, Lacks, Subset, Both, Either, Not, rolls-AtMost, rolls-Below, rolls-AtLeast, rolls-Above, rolls-Equal, rolls-Has, rolls-Lacks, rolls-Subset, rolls-Both, rolls-Either, rolls-Not}
use Rattle.hk_terms.specs.CondTexts as cond
use Rattle.hk_terms.specs.CondTexts.{CondText, Comparison, IsCondText}
use Rattle.hk_terms.specs.Names.{Names, NamesCond, SmallCond, set_depth, num_depth, cond_depth}
use Rattle.hk_terms.specs.NumTexts.{NumText}
use Rattle.hk_terms.specs.SetTexts.{SetText}
use Rattle.hk_exprs.specs.inside.Standing.{IsNum, IsSet, IsCond}
use Rattle.hk_terms.specs.Trees.{num_text, set_text, cond_text}
use Rattle.hk_exprs.proofs.MakingConds.{written, fitted, cond_is, cond_fit, conds_fit, cond_always, cond_never}
use Rattle.hk_exprs.proofs.MakingNums.{fit_two as nums_fit}
use Rattle.hk_exprs.proofs.MakingSets.{set_fit, fit_two as sets_fit}
use Rattle.hk_exprs.proofs.TreesOfTexts.{first_depth, second_depth, part_depth, set_there, num_there}

-- a condition of a specification that is written so
abbrev pub CondThere : Names → CondText → Type 0
CondThere names text = (e : Cond) × IsCond names text e

module _ (names : Names) where
  module _ {x y : NumText} {a b : NumExpr} (h : IsNum names x a) (k : IsNum names y b) where
    nums_written : (comparison : Comparison) → cond.Compared comparison (num_text names a) (num_text names b) ≡ cond.Compared comparison x y
    nums_written comparison = let left = h.text_is in let right = k.text_is in cc

    compared_there : (comparison : Comparison) → max (num_depth x) (num_depth y) + 1 ≤ 32 → CondThere names (cond.Compared comparison x y)
    compared_there cond.AtMost small = (AtMost a b, cond_is names _ (AtMost a b) (written names _ (Cond-F.AtMost a b) (rolls-AtMost a b) ∙ nums_written cond.AtMost) (fitted names _ (Cond-F.AtMost a b) (rolls-AtMost a b) ∙ nums_fit names h k) small)
    compared_there cond.Below small = (Below a b, cond_is names _ (Below a b) (written names _ (below_layer a b) (rolls-Below a b) ∙ nums_written cond.Below) (fitted names _ (below_layer a b) (rolls-Below a b) ∙ nums_fit names h k) small)
    compared_there cond.AtLeast small = (AtLeast a b, cond_is names _ (AtLeast a b) (written names _ (Cond-F.AtLeast a b) (rolls-AtLeast a b) ∙ nums_written cond.AtLeast) (fitted names _ (Cond-F.AtLeast a b) (rolls-AtLeast a b) ∙ nums_fit names h k) small)
    compared_there cond.Above small = (Above a b, cond_is names _ (Above a b) (written names _ (Cond-F.Above a b) (rolls-Above a b) ∙ nums_written cond.Above) (fitted names _ (Cond-F.Above a b) (rolls-Above a b) ∙ nums_fit names h k) small)
    compared_there cond.Equal small = (Equal a b, cond_is names _ (Equal a b) (written names _ (Cond-F.Equal a b) (rolls-Equal a b) ∙ nums_written cond.Equal) (fitted names _ (Cond-F.Equal a b) (rolls-Equal a b) ∙ nums_fit names h k) small)

  module _ {x y : SetText} {a b : SetExpr} (h : IsSet names x a) (k : IsSet names y b) where
    sets_written : cond.Subset (set_text names a) (set_text names b) ≡ cond.Subset x y
    sets_written = let left = h.text_is in let right = k.text_is in cc

    subset_there : max (set_depth x) (set_depth y) + 1 ≤ 32 → CondThere names (cond.Subset x y)
    subset_there small = (Subset a b, cond_is names _ (Subset a b) (written names _ (Cond-F.Subset a b) (rolls-Subset a b) ∙ sets_written) (fitted names _ (Cond-F.Subset a b) (rolls-Subset a b) ∙ sets_fit names h k) small)

  member_there : (inside : Bool) {x : SetText} {a : SetExpr} → IsSet names x a → set_depth x + 1 ≤ 32 → CondThere names (cond.Member inside x)
  member_there true {a = a} h small = (Has a, cond_is names _ (Has a) (written names _ (Cond-F.Has a) (rolls-Has a) ∙ ap (cond.Member true) h.text_is) (fitted names _ (Cond-F.Has a) (rolls-Has a) ∙ set_fit names h) small)
  member_there false {a = a} h small = (Lacks a, cond_is names _ (Lacks a) (written names _ (Cond-F.Lacks a) (rolls-Lacks a) ∙ ap (cond.Member false) h.text_is) (fitted names _ (Cond-F.Lacks a) (rolls-Lacks a) ∙ set_fit names h) small)

  module _ {x y : CondText} {a b : Cond} (h : IsCond names x a) (k : IsCond names y b) where
    conds_written : (both : Bool) → cond.Joined both (cond_text names a) (cond_text names b) ≡ cond.Joined both x y
    conds_written both = let left = h.text_is in let right = k.text_is in cc

    joined_there : (both : Bool) → max (cond_depth x) (cond_depth y) + 1 ≤ 32 → CondThere names (cond.Joined both x y)
    joined_there true small = (Both a b, cond_is names _ (Both a b) (written names _ (Cond-F.Both a b) (rolls-Both a b) ∙ conds_written true) (fitted names _ (Cond-F.Both a b) (rolls-Both a b) ∙ conds_fit names h k) small)
    joined_there false small = (Either a b, cond_is names _ (Either a b) (written names _ (Cond-F.Either a b) (rolls-Either a b) ∙ conds_written false) (fitted names _ (Cond-F.Either a b) (rolls-Either a b) ∙ conds_fit names h k) small)

  not_there : {x : CondText} {a : Cond} → IsCond names x a → cond_depth x + 1 ≤ 32 → CondThere names (cond.Not x)
  not_there {a = a} h small = (Not a, cond_is names _ (Not a) (written names _ (Cond-F.Not a) (rolls-Not a) ∙ ap cond.Not h.text_is) (fitted names _ (Cond-F.Not a) (rolls-Not a) ∙ cond_fit names h) small)

  -- a condition as it is written is that of a tree
  pub cond_there : (text : CondText) → NamesCond names text → SmallCond text → IsCondText text → cond_depth text ≤ 32 → CondThere names text
  cond_there (cond.Truth true) named small written deep = (Always, cond_always names)
  cond_there (cond.Truth false) named small written deep = (Never, cond_never names)
  cond_there (cond.Compared comparison a b) named small written deep =
      let (x, left) = num_there names a named.0 small.0 written.0 (first_depth (num_depth a) (num_depth b) deep) in
      let (y, right) = num_there names b named.1 small.1 written.1 (second_depth (num_depth a) (num_depth b) deep) in
      compared_there left right comparison deep
  cond_there (cond.Member inside set) named small written deep =
      let (x, is) = set_there names set named small written (part_depth (set_depth set) deep) in
      member_there inside is deep
  cond_there (cond.Subset a b) named small written deep =
      let (x, left) = set_there names a named.0 small.0 written.0 (first_depth (set_depth a) (set_depth b) deep) in
      let (y, right) = set_there names b named.1 small.1 written.1 (second_depth (set_depth a) (set_depth b) deep) in
      subset_there left right deep
  cond_there (cond.Joined both a b) named small written deep =
      let (x, left) = cond_there a named.0 small.0 written.0 (first_depth (cond_depth a) (cond_depth b) deep) in
      let (y, right) = cond_there b named.1 small.1 written.1 (second_depth (cond_depth a) (cond_depth b) deep) in
      joined_there left right both deep
  cond_there (cond.Not a) named small written deep =
      let (x, is) = cond_there a named small written (part_depth (cond_depth a) deep) in
      not_there is deep
