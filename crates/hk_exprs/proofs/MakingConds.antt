-- What is made of conditions, and of numbers and sets that are compared.
use Rattle.std.proofs.Common.{◌≡◌, ◌+◌, ◌≤◌, max, Bool, true, false, ◌&&◌, Result, arith, sym, ap, ◌∙◌}
use Rattle.hk_kinds.specs.NumberLattices.{both_true, first_true}
use Rattle.hk_spec.specs.Scopes as scopes
use Rattle.hk_spec.specs.Scopes.{cond_fits, cond_fits_step}
use Rattle.hk_spec.specs.declared.expressions.NumExpr.{NumExpr}
use Rattle.hk_spec.specs.declared.expressions.SetExpr.{SetExpr}
use Rattle.hk_spec.specs.declared.expressions.Cond.{Cond}
use Rattle.hk_spec.specs.declared.expressions.Cond.TheOpen.{Cond-F, Below as below_layer}
use Rattle.hk_spec.specs.declared.expressions.Cond.TheVariants.{Always, Never, AtMost, Below, AtLeast, Above, Equal, Has, Lacks, Subset, Both, Either, Not, rolls-Always, rolls-Never, rolls-AtMost, rolls-Below, rolls-AtLeast, rolls-Above, rolls-Equal, rolls-Has, rolls-Lacks, rolls-Subset, rolls-Both, rolls-Either, rolls-Not}
use Rattle.hk_spec.specs.declared.expressions.Cond.TheViews.{roll-Cond}
use Rattle.hk_spec.specs.declared.expressions.Cond.TheFolds.{fold-roll-Cond, map-Cond}
use Rattle.hk_terms.proofs.Depths.{cond_deep}
use Rattle.hk_exprs.proofs.MakingNums.{fit_two as nums_fit}
use Rattle.hk_exprs.proofs.MakingSets.{set_fit, fit_two as sets_fit}
use Rattle.hk_exprs.proofs.MakingWholes.{good_from, made_of_one, made_of_two}
use Rattle.hk_terms.specs.Names.{scope_of}
use Rattle.hk_terms.specs.CondTexts as conds
use Rattle.hk_terms.specs.CondTexts.{CondText, Comparison}
use Rattle.hk_exprs.specs.inside.Making.{one_part, two_parts, whole_of_one, whole_of_two, comparison, compared, member, asks_both, cond_joined}
use Rattle.hk_terms.specs.Names.{Names, NamesSet, NamesNum, NamesCond, SmallSet, SmallNum, SmallCond, set_depth, num_depth, cond_depth}
use Rattle.hk_terms.specs.NumTexts.{NumText}
use Rattle.hk_terms.specs.SetTexts.{SetText}
use Rattle.hk_exprs.specs.inside.Standing.{IsSet, IsNum, IsCond, IsMadeSet, IsMadeNum, IsMadeCond}
use Rattle.hk_terms.specs.Trees.{set_text, num_text, cond_text, cond_text_step}
use Rattle.hk_terms.specs.declared.flaws.Flaw.{Flaw}
use Rattle.hk_terms.specs.declared.marks.Mark.{Mark}
use Rattle.hk_terms.specs.declared.marks.Mark.TheVariants as mark
use Rattle.hk_exprs.specs.declared.operands.Tree.{Tree}

module _ (names : Names) where
  -- how a condition is written, by its first layer
  pub written : (e : Cond) (layer : Cond-F Cond) → roll-Cond layer ≡ e → cond_text names e ≡ cond_text_step names (map-Cond Cond CondText (cond_text names) layer)
  written e layer rolls = ap (cond_text names) (sym rolls) ∙ fold-roll-Cond CondText (cond_text_step names) layer

  -- whether it fits, by its first layer
  pub fitted : (e : Cond) (layer : Cond-F Cond) → roll-Cond layer ≡ e → cond_fits (scope_of names) e ≡ cond_fits_step (scope_of names) (map-Cond Cond Bool (cond_fits (scope_of names)) layer)
  fitted e layer rolls = ap (cond_fits (scope_of names)) (sym rolls) ∙ fold-roll-Cond Bool (cond_fits_step (scope_of names)) layer

  -- a condition that is written so, fits and is not too deep is one of a specification
  pub cond_is : (text : CondText) (e : Cond) → cond_text names e ≡ text → cond_fits (scope_of names) e ≡ true → cond_depth text ≤ 32 → IsCond names text e
  cond_is text e same fits small =
      let deep = cond_deep names e in
      let alike = ap cond_depth same in
      record { text_is = same; good = good_from (cond_fits (scope_of names) e) (scopes.cond_depth e) fits (omega (arith, deep, alike)) }

  -- the condition fits
  pub cond_fit : {text : CondText} {e : Cond} → IsCond names text e → cond_fits (scope_of names) e ≡ true
  cond_fit is = first_true _ _ is.good

  nums_written : (how : Comparison) {x y : NumText} {a b : NumExpr} → IsNum names x a → IsNum names y b → conds.Compared how (num_text names a) (num_text names b) ≡ conds.Compared how x y
  nums_written how h k = cc

  compared_is : (m : Mark) (x y : NumText) (a b : NumExpr) → IsNum names x a → IsNum names y b → max (num_depth x) (num_depth y) + 1 ≤ 32 → IsCond names (conds.Compared (comparison m) x y) (compared m a b)
  compared_is mark.Below x y a b h k small = cond_is _ (Below a b) (written _ (below_layer a b) (rolls-Below a b) ∙ nums_written conds.Below h k) (fitted _ (below_layer a b) (rolls-Below a b) ∙ nums_fit names h k) small
  compared_is mark.AtLeast x y a b h k small = cond_is _ (AtLeast a b) (written _ (Cond-F.AtLeast a b) (rolls-AtLeast a b) ∙ nums_written conds.AtLeast h k) (fitted _ (Cond-F.AtLeast a b) (rolls-AtLeast a b) ∙ nums_fit names h k) small
  compared_is mark.Above x y a b h k small = cond_is _ (Above a b) (written _ (Cond-F.Above a b) (rolls-Above a b) ∙ nums_written conds.Above h k) (fitted _ (Cond-F.Above a b) (rolls-Above a b) ∙ nums_fit names h k) small
  compared_is mark.Equal x y a b h k small = cond_is _ (Equal a b) (written _ (Cond-F.Equal a b) (rolls-Equal a b) ∙ nums_written conds.Equal h k) (fitted _ (Cond-F.Equal a b) (rolls-Equal a b) ∙ nums_fit names h k) small
  compared_is _ x y a b h k small = cond_is _ (AtMost a b) (written _ (Cond-F.AtMost a b) (rolls-AtMost a b) ∙ nums_written conds.AtMost h k) (fitted _ (Cond-F.AtMost a b) (rolls-AtMost a b) ∙ nums_fit names h k) small

  -- two numbers that are compared
  pub nums_compared : (m : Mark) (x y : NumText) (a b : Result (Tree NumExpr) Flaw) → IsMadeNum names x a → IsMadeNum names y b → IsMadeCond names (conds.Compared (comparison m) x y) (whole_of_two (compared m) (two_parts a b))
  nums_compared m x y a b h k = made_of_two (IsNum names x) (IsNum names y) (IsCond names (conds.Compared (comparison m) x y)) (NamesNum names x) (NamesNum names y) (SmallNum x) (SmallNum y) (num_depth x) (num_depth y) (compared m) a b (λ p q. compared_is m x y p q) h k

  member_is : (inside : Bool) (x : SetText) (a : SetExpr) → IsSet names x a → set_depth x + 1 ≤ 32 → IsCond names (conds.Member inside x) (member inside a)
  member_is true x a h small = cond_is _ (Has a) (written _ (Cond-F.Has a) (rolls-Has a) ∙ ap (conds.Member true) h.text_is) (fitted _ (Cond-F.Has a) (rolls-Has a) ∙ set_fit names h) small
  member_is false x a h small = cond_is _ (Lacks a) (written _ (Cond-F.Lacks a) (rolls-Lacks a) ∙ ap (conds.Member false) h.text_is) (fitted _ (Cond-F.Lacks a) (rolls-Lacks a) ∙ set_fit names h) small

  -- the value is in a set, or not
  pub set_member : (inside : Bool) (x : SetText) (a : Result (Tree SetExpr) Flaw) → IsMadeSet names x a → IsMadeCond names (conds.Member inside x) (whole_of_one (member inside) (one_part a))
  set_member inside x a h = made_of_one (IsSet names x) (IsCond names (conds.Member inside x)) (NamesSet names x) (SmallSet x) (set_depth x) (member inside) a (λ p. member_is inside x p) h

  sets_written : {x y : SetText} {a b : SetExpr} → IsSet names x a → IsSet names y b → conds.Subset (set_text names a) (set_text names b) ≡ conds.Subset x y
  sets_written h k = cc

  subset_is : (x y : SetText) (a b : SetExpr) → IsSet names x a → IsSet names y b → max (set_depth x) (set_depth y) + 1 ≤ 32 → IsCond names (conds.Subset x y) (Subset a b)
  subset_is x y a b h k small = cond_is _ (Subset a b) (written _ (Cond-F.Subset a b) (rolls-Subset a b) ∙ sets_written h k) (fitted _ (Cond-F.Subset a b) (rolls-Subset a b) ∙ sets_fit names h k) small

  -- a set is within another
  pub sets_subset : (x y : SetText) (a b : Result (Tree SetExpr) Flaw) → IsMadeSet names x a → IsMadeSet names y b → IsMadeCond names (conds.Subset x y) (whole_of_two Subset (two_parts a b))
  sets_subset x y a b h k = made_of_two (IsSet names x) (IsSet names y) (IsCond names (conds.Subset x y)) (NamesSet names x) (NamesSet names y) (SmallSet x) (SmallSet y) (set_depth x) (set_depth y) Subset a b (λ p q. subset_is x y p q) h k

  -- two of them fit
  pub conds_fit : {x y : CondText} {a b : Cond} → IsCond names x a → IsCond names y b → (cond_fits (scope_of names) a && cond_fits (scope_of names) b) ≡ true
  conds_fit h k = both_true _ _ (cond_fit h) (cond_fit k)

  conds_written : (both : Bool) {x y : CondText} {a b : Cond} → IsCond names x a → IsCond names y b → conds.Joined both (cond_text names a) (cond_text names b) ≡ conds.Joined both x y
  conds_written both h k = cc

  joined_is : (m : Mark) (x y : CondText) (a b : Cond) → IsCond names x a → IsCond names y b → max (cond_depth x) (cond_depth y) + 1 ≤ 32 → IsCond names (conds.Joined (asks_both m) x y) (cond_joined m a b)
  joined_is mark.And x y a b h k small = cond_is _ (Both a b) (written _ (Cond-F.Both a b) (rolls-Both a b) ∙ conds_written true h k) (fitted _ (Cond-F.Both a b) (rolls-Both a b) ∙ conds_fit h k) small
  joined_is _ x y a b h k small = cond_is _ (Either a b) (written _ (Cond-F.Either a b) (rolls-Either a b) ∙ conds_written false h k) (fitted _ (Cond-F.Either a b) (rolls-Either a b) ∙ conds_fit h k) small

  -- both conditions, or one or both
  pub conds_joined : (m : Mark) (x y : CondText) (a b : Result (Tree Cond) Flaw) → IsMadeCond names x a → IsMadeCond names y b → IsMadeCond names (conds.Joined (asks_both m) x y) (whole_of_two (cond_joined m) (two_parts a b))
  conds_joined m x y a b h k = made_of_two (IsCond names x) (IsCond names y) (IsCond names (conds.Joined (asks_both m) x y)) (NamesCond names x) (NamesCond names y) (SmallCond x) (SmallCond y) (cond_depth x) (cond_depth y) (cond_joined m) a b (λ p q. joined_is m x y p q) h k

  not_is : (x : CondText) (a : Cond) → IsCond names x a → cond_depth x + 1 ≤ 32 → IsCond names (conds.Not x) (Not a)
  not_is x a h small = cond_is _ (Not a) (written _ (Cond-F.Not a) (rolls-Not a) ∙ ap conds.Not h.text_is) (fitted _ (Cond-F.Not a) (rolls-Not a) ∙ cond_fit h) small

  -- not a condition
  pub cond_not : (x : CondText) (a : Result (Tree Cond) Flaw) → IsMadeCond names x a → IsMadeCond names (conds.Not x) (whole_of_one Not (one_part a))
  cond_not x a h = made_of_one (IsCond names x) (IsCond names (conds.Not x)) (NamesCond names x) (SmallCond x) (cond_depth x) Not a (λ p. not_is x p) h

  -- a truth
  pub cond_always : IsCond names (conds.Truth true) Always
  cond_always = cond_is _ Always (written _ Cond-F.Always rolls-Always) (fitted _ Cond-F.Always rolls-Always) (omega arith)

  pub cond_never : IsCond names (conds.Truth false) Never
  cond_never = cond_is _ Never (written _ Cond-F.Never rolls-Never) (fitted _ Cond-F.Never rolls-Never) (omega arith)
