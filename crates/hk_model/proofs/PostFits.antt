-- A post's specification is found, its arguments fit the parameters and their limits, and it is bound to them.
use Rattle.std.proofs.Common.{◌≡◌, ◌<◌, ◌+◌, ◌↔◌, ℕ, suc, Bool, true, false, cond, List, [], ◌∷◌, ◌++◌, length, map, drop, take, slice_index_or, get_or, Some, find, IsTrue, refl, sym, ap, subst, ◌∙◌}
use Rattle.std.specs.Prelude.{All, Any}
use Rattle.std.proofs.lemmas.List.{drop_more, take_more, map-append, length-map, get_or-map}
use Rattle.hk_spec.specs.declared.arguments.Arg.{Arg}
use Rattle.hk_spec.specs.declared.parts.Param.{Param}
use Rattle.hk_spec.specs.declared.parts.ParamKind.{ParamKind}
use Rattle.hk_lines.specs.declared.phrases.Values.{Values as ReadValues}
use Rattle.hk_lines.specs.declared.posts.PostArg.{PostArg}
use Rattle.hk_lines.specs.declared.posts.PostArg.TheVariants as read
use Rattle.hk_lines.specs.Posts.{ArgText}
use Rattle.hk_model.specs.Postings.{FitKinds, IsSmallArg, IsArgOf, AreArgsOf}
use Rattle.hk_lines.specs.PostShapes.{plain_arg, args_of}
use Rattle.hk_text.proofs.Deciding.{dec_not, dec_any}
use Rattle.hk_lines.proofs.Elements.{each_from_none}
use Rattle.hk_model.proofs.PostEffects.{dec_small_arg}
use Rattle.hk_draft.proofs.SmallSets.{AreSmallValues, small_items, items_small}
use Rattle.hk_draft.proofs.CountDecisions.{since}

module _ {X : Type 0} (p : X → Bool) (xs : List X) (i : ℕ) (x : X) (within : i < length xs) (here : x ≡ slice_index_or xs i x) where
  left_is : drop i xs ≡ x ∷ drop (i + 1) xs
  left_is = drop_more xs i x within ∙ ap (λ y. y ∷ drop (i + 1) xs) (sym here)

  -- the first element of those that are left is found where it passes
  pub found_here : p x ≡ true → find p (drop i xs) ≡ Some x
  found_here passes = ap (find p) left_is ∙ ap (λ b. cond b (Some x) (find p (drop (i + 1) xs))) passes

  -- and else one of those after it
  pub found_later : p x ≡ false → find p (drop i xs) ≡ find p (drop (i + 1) xs)
  found_later fails = ap (find p) left_is ∙ ap (λ b. cond b (Some x) (find p (drop (i + 1) xs))) fails

-- a set is a small argument where its values are small
pub small_set_arg : (count : ℕ) (arg : PostArg) (set items : List ReadValues) (small : Bool) → arg ≡ read.Set set → items ≡ set → (IsTrue small ↔ AreSmallValues items) → IsTrue small ↔ IsSmallArg count (plain_arg arg)
small_set_arg count arg set items small is same test = subst (λ a. IsTrue small ↔ IsSmallArg count (plain_arg a)) (sym is) (
  λ passes. small_items set (subst AreSmallValues same (test.0 passes)),
  λ both. test.1 (subst AreSmallValues (sym same) (items_small set both.0 both.1)),
)

-- and its values are small where it is a small argument
pub small_arg_set : (count : ℕ) (arg : PostArg) (set items : List ReadValues) → arg ≡ read.Set set → items ≡ set → IsSmallArg count (plain_arg arg) → AreSmallValues items
small_arg_set count arg set items is same small =
    let both : IsSmallArg count (plain_arg (read.Set set)) = subst (λ a. IsSmallArg count (plain_arg a)) is small in
    subst AreSmallValues (sym same) (items_small set both.0 both.1)

-- the argument at a place is small where all are
pub small_at : (count : ℕ) (args : List PostArg) (i : ℕ) (d : PostArg) → i < length args → All (IsSmallArg count) (args_of args) → IsSmallArg count (plain_arg (get_or args i d))
small_at count args i d within all =
    let there : get_or (args_of args) i (plain_arg d) ≡ plain_arg (get_or args i d) = get_or-map plain_arg args i d (plain_arg d) within in
    subst (IsSmallArg count) there (all i (plain_arg d) (simp length-map within))

-- one argument more of those that were tested
args_take : (args : List PostArg) (i : ℕ) (d : PostArg) → i < length args → args_of (take (i + 1) args) ≡ args_of (take i args) ++ plain_arg (get_or args i d) ∷ []
args_take args i d within = ap args_of (take_more args i d within) ∙ map-append plain_arg (take i args) (get_or args i d ∷ [])

-- arguments and one more, and those that they are
args_push : (texts : List ArgText) (text : ArgText) (args : List Arg) (arg : Arg) → AreArgsOf texts args → IsArgOf text arg → AreArgsOf (texts ++ text ∷ []) (args ++ arg ∷ [])
args_push [] text [] arg are is = (is, tt)
args_push (t ∷ texts) text (a ∷ args) arg are is = (are.0, args_push texts text args arg are.1 is)
args_push texts text args arg are is = absurd are

-- one argument more is bound
pub bound_more : (args : List PostArg) (i : ℕ) (d : PostArg) (bound longer : List Arg) (arg : Arg) → i < length args → AreArgsOf (args_of (take i args)) bound → IsArgOf (plain_arg (get_or args i d)) arg → longer ≡ bound ++ arg ∷ [] → AreArgsOf (args_of (take (i + 1) args)) longer
bound_more args i d bound longer arg within are is pushed =
    subst (λ texts. AreArgsOf texts longer) (sym (args_take args i d within))
    (subst (AreArgsOf (args_of (take i args) ++ plain_arg (get_or args i d) ∷ [])) (sym pushed) (args_push (args_of (take i args)) (plain_arg (get_or args i d)) bound arg are is))

-- the kinds of parameters
abbrev pub kinds_of : List Param → List ParamKind
kinds_of params = map (λ param. param.kind) params

-- arguments that fit are one for each kind
pub fit_length : (params : List Param) (args : List PostArg) → FitKinds (kinds_of params) (args_of args) → length params ≡ length args
fit_length [] [] fit = refl
fit_length (param ∷ params) (arg ∷ args) fit = ap suc (fit_length params args fit.1)
fit_length params args fit = absurd fit

-- where not each argument is small, some argument is not
pub some_large_arg : (count : ℕ) (texts : List ArgText) → (All (IsSmallArg count) texts → ⊥) → Any (λ text. IsSmallArg count text → ⊥) texts
some_large_arg count texts some = since
    (dec_any (λ text. IsSmallArg count text → ⊥) (λ text. dec_not (dec_small_arg count text)) texts)
    (λ none. some (each_from_none (IsSmallArg count) (λ text. IsSmallArg count text → ⊥) (λ text. since (dec_small_arg count text)) texts none))
