-- A condition is determined by how it is written.
use Rattle.std.proofs.Common.{◌≡◌, Bool, true, false, sym, ◌∙◌, subst, IsTrue}
use Rattle.std.proofs.lemmas.Bool.{and_parts}
use Rattle.hk_spec.specs.Scopes.{cond_fits, cond_fits_step, is_good_cond}
use Rattle.hk_spec.specs.declared.expressions.NumExpr.{NumExpr}
use Rattle.hk_spec.specs.declared.expressions.SetExpr.{SetExpr}
use Rattle.hk_spec.specs.declared.expressions.Cond.{Cond}
use Rattle.hk_spec.specs.declared.expressions.Cond.TheOpen.{Cond-F}
use Rattle.hk_spec.specs.declared.expressions.Cond.TheVariants.{Always, Never, AtMost, Below, AtLeast, Above, Equal, Has, Lacks, Subset, Both, Either, Not, rolls-Always, rolls-Never, rolls-AtMost, rolls-Below, rolls-AtLeast, rolls-Above, rolls-Equal, rolls-Has, rolls-Lacks, rolls-Subset, rolls-Both, rolls-Either, rolls-Not}
use Rattle.hk_spec.specs.declared.expressions.Cond.TheViews.{roll-Cond}
use Rattle.hk_spec.specs.declared.expressions.Cond.TheFolds.{ind-Cond, fold-roll-Cond, map-Cond}
use Rattle.hk_terms.specs.Names.{scope_of}
use Rattle.hk_terms.specs.CondTexts as cond
use Rattle.hk_terms.specs.CondTexts.{CondText, Comparison}
use Rattle.hk_terms.specs.Names.{Names}
use Rattle.hk_terms.specs.Trees.{cond_text, cond_text_step}
use Rattle.hk_terms.proofs.TreeTextsNums.{IsNumTree, num_tree, num_tree_one, two_one, part_one}
use Rattle.hk_terms.proofs.TreeTextsPlaces.{AreFree}
use Rattle.hk_terms.proofs.TreeTextsSets.{IsSetTree, set_tree, set_tree_one}

abbrev pub truth : Bool → Cond
truth true = Always
truth false = Never

abbrev pub compared : Comparison → NumExpr → NumExpr → Cond
compared cond.AtMost a b = AtMost a b
compared cond.Below a b = Below a b
compared cond.AtLeast a b = AtLeast a b
compared cond.Above a b = Above a b
compared cond.Equal a b = Equal a b

abbrev pub member : Bool → SetExpr → Cond
member true e = Has e
member false e = Lacks e

abbrev pub cond_joined : Bool → Cond → Cond → Cond
cond_joined true p q = Both p q
cond_joined false p q = Either p q

-- the condition is one that is written so
abbrev pub IsCondTree : Names → CondText → Cond → Type 0
IsCondTree names (cond.Truth holds) e = e ≡ truth holds
IsCondTree names (cond.Compared comparison a b) e = (x : NumExpr) × (y : NumExpr) × (e ≡ compared comparison x y) × IsNumTree names a x × IsNumTree names b y
IsCondTree names (cond.Member inside set) e = (x : SetExpr) × (e ≡ member inside x) × IsSetTree names set x
IsCondTree names (cond.Subset a b) e = (x : SetExpr) × (y : SetExpr) × (e ≡ Subset x y) × IsSetTree names a x × IsSetTree names b y
IsCondTree names (cond.Joined both a b) e = (x : Cond) × (y : Cond) × (e ≡ cond_joined both x y) × IsCondTree names a x × IsCondTree names b y
IsCondTree names (cond.Not a) e = (x : Cond) × (e ≡ Not x) × IsCondTree names a x

module _ (names : Names) where
  -- one condition is written so
  pub cond_tree_one : AreFree names → (text : CondText) (a b : Cond) → IsCondTree names text a → IsCondTree names text b → a ≡ b
  cond_tree_one free (cond.Truth holds) a b h k = h ∙ sym k
  cond_tree_one free (cond.Compared comparison l r) a b (x, y, is, left, right) (z, w, also_is, also_left, also_right) = two_one (compared comparison) is also_is (num_tree_one names free l x z left also_left) (num_tree_one names free r y w right also_right)
  cond_tree_one free (cond.Member inside set) a b (x, is, part) (y, also_is, also_part) = part_one (member inside) is also_is (set_tree_one names free set x y part also_part)
  cond_tree_one free (cond.Subset l r) a b (x, y, is, left, right) (z, w, also_is, also_left, also_right) = two_one Subset is also_is (set_tree_one names free l x z left also_left) (set_tree_one names free r y w right also_right)
  cond_tree_one free (cond.Joined both l r) a b (x, y, is, left, right) (z, w, also_is, also_left, also_right) = two_one (cond_joined both) is also_is (cond_tree_one free l x z left also_left) (cond_tree_one free r y w right also_right)
  cond_tree_one free (cond.Not l) a b (x, is, part) (y, also_is, also_part) = part_one Not is also_is (cond_tree_one free l x y part also_part)

  abbrev IsTree : Cond → Type 0
  IsTree e = cond_fits (scope_of names) e ≡ true → IsCondTree names (cond_text names e) e

  cond_layer : {X : Type 0} (tree : X → Cond) → ((x : X) → IsTree (tree x)) → (y : Cond-F X)
      → cond_fits_step (scope_of names) (map-Cond Cond Bool (cond_fits (scope_of names)) (map-Cond X Cond tree y)) ≡ true
      → IsCondTree names (cond_text_step names (map-Cond Cond CondText (cond_text names) (map-Cond X Cond tree y))) (roll-Cond (map-Cond X Cond tree y))
  cond_layer tree parts Cond-F.Always fits = rolls-Always
  cond_layer tree parts Cond-F.Never fits = rolls-Never
  cond_layer tree parts (Cond-F.AtMost a b) fits = let both = and_parts _ _ fits in (a, b, rolls-AtMost a b, num_tree names a both.0, num_tree names b both.1)
  cond_layer tree parts (Cond-F.Below a b) fits = let both = and_parts _ _ fits in (a, b, rolls-Below a b, num_tree names a both.0, num_tree names b both.1)
  cond_layer tree parts (Cond-F.AtLeast a b) fits = let both = and_parts _ _ fits in (a, b, rolls-AtLeast a b, num_tree names a both.0, num_tree names b both.1)
  cond_layer tree parts (Cond-F.Above a b) fits = let both = and_parts _ _ fits in (a, b, rolls-Above a b, num_tree names a both.0, num_tree names b both.1)
  cond_layer tree parts (Cond-F.Equal a b) fits = let both = and_parts _ _ fits in (a, b, rolls-Equal a b, num_tree names a both.0, num_tree names b both.1)
  cond_layer tree parts (Cond-F.Has e) fits = (e, rolls-Has e, set_tree names e fits)
  cond_layer tree parts (Cond-F.Lacks e) fits = (e, rolls-Lacks e, set_tree names e fits)
  cond_layer tree parts (Cond-F.Subset a b) fits = let both = and_parts _ _ fits in (a, b, rolls-Subset a b, set_tree names a both.0, set_tree names b both.1)
  cond_layer tree parts (Cond-F.Both p q) fits = let both = and_parts _ _ fits in (tree p, tree q, rolls-Both (tree p) (tree q), parts p both.0, parts q both.1)
  cond_layer tree parts (Cond-F.Either p q) fits = let both = and_parts _ _ fits in (tree p, tree q, rolls-Either (tree p) (tree q), parts p both.0, parts q both.1)
  cond_layer tree parts (Cond-F.Not p) fits = (tree p, rolls-Not (tree p), parts p fits)

  abbrev IsLayer : Cond-F Cond → Type 0
  IsLayer x = cond_fits_step (scope_of names) (map-Cond Cond Bool (cond_fits (scope_of names)) x) ≡ true → IsCondTree names (cond_text_step names (map-Cond Cond CondText (cond_text names) x)) (roll-Cond x)

  cond_rolled : (x : Cond-F Cond) → IsLayer x → IsTree (roll-Cond x)
  cond_rolled x layer fits =
      subst (λ text. IsCondTree names text (roll-Cond x)) (sym (fold-roll-Cond CondText (cond_text_step names) x)) (layer (sym (fold-roll-Cond Bool (cond_fits_step (scope_of names)) x) ∙ fits))

  -- a condition that fits is one that is written as it is
  pub cond_tree : (e : Cond) → IsTree e
  cond_tree = ind-Cond IsTree (λ x y same. cond_rolled x (subst IsLayer same (cond_layer (λ s. s.0) (λ s. s.1) y)))

  -- two conditions that fit and are written alike are one
  pub cond_fits_one : AreFree names → (a b : Cond) → cond_fits (scope_of names) a ≡ true → cond_fits (scope_of names) b ≡ true → cond_text names a ≡ cond_text names b → a ≡ b
  cond_fits_one free a b fits also_fits same = cond_tree_one free (cond_text names b) a b (subst (λ text. IsCondTree names text a) same (cond_tree a fits)) (cond_tree b also_fits)

  -- two conditions of a specification that are written alike are one
  pub cond_text_one : AreFree names → (a b : Cond) → IsTrue (is_good_cond (scope_of names) a) → IsTrue (is_good_cond (scope_of names) b) → cond_text names a ≡ cond_text names b → a ≡ b
  cond_text_one free a b good also_good same = cond_fits_one free a b (and_parts _ _ good).0 (and_parts _ _ also_good).0 same
