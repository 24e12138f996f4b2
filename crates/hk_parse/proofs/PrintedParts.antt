-- The texts of a printed specification are good, one after the other.
use Rattle.std.proofs.Common.{◌≡◌, ℕ, zero, suc, ◌+◌, ◌<◌, nat_lt, if◌then◌else◌, Bool, true, false, List, [], ◌∷◌, ◌++◌, length, map, All, Any, Contains, None, Some, slice_get, inl, inr, refl, sym, ap, ◌∙◌, subst, arith, append_assoc, append-nil}
use Rattle.std.specs.Prelude.{codes}
use Rattle.std.specs.List.{list_all}
use Rattle.std.specs.Str.{bytes_eq}
use Rattle.std.proofs.lemmas.Bool.{both_ways, and_parts, and_from, leb-true, not-true, not_from_false, or_parts}
use Rattle.std.proofs.lemmas.Bool.Decides.{nat_tests}
use Rattle.std.proofs.lemmas.List.{map-append, length-append, length-map}
use Rattle.std.proofs.lemmas.List.Elements.{All-nil, All-cons}
use Rattle.std.proofs.lemmas.List.Folds.{list_any-append}
use Rattle.std.proofs.lemmas.Option.{slice_get_past}
use Rattle.hk_kinds.specs.Shapes.{HasShape, one_more}
use Rattle.hk_spec.specs.Names.{is_word, is_free_name, are_distinct, reserved_words}
use Rattle.hk_spec.specs.Scopes.{Scope, is_good_cond}
use Rattle.hk_spec.specs.Specifications.{Specification, IsSpecification, test_scope, down_scope, up_scope, kinds_of_properties, initial_values, is_step, are_steps}
use Rattle.hk_spec.specs.declared.expressions.Side.TheVariants.{Down, Up}
use Rattle.hk_spec.specs.declared.parts.Param.{Param}
use Rattle.hk_spec.specs.declared.parts.PropDecl.{PropDecl}
use Rattle.hk_spec.specs.declared.parts.StepExpr.{StepExpr}
use Rattle.hk_text.specs.Lexemes.{IsWord}
use Rattle.hk_parse.specs.BlockFaults.{BeginsWith, GoesOn, Ends}
use Rattle.hk_parse.specs.BlockLines.{Part, part_names, due, step_names, param_names, BeginNameFault, BeginLimitFault, with_step}
use Rattle.hk_terms.specs.Names.{scope_of}
use Rattle.hk_print.specs.Expressions.{naming_of, names_of_properties}
use Rattle.hk_parse.specs.inside.Headers.{param_text}
use Rattle.hk_parse.specs.LineTexts.{ParamText}
use Rattle.hk_print.specs.Pieces.{piece, tokens_of}
use Rattle.hk_print.specs.Printed.{first_line, property_line, step_lines, declaration_lines, rule_lines, spec_lines}
use Rattle.hk_parse.specs.SpecTexts.{Before, Within, Whole}
use Rattle.hk_parse.proofs.FittingTexts.{AreWords}
use Rattle.hk_terms.proofs.FreeNames.{any_to_map}
use Rattle.hk_parse.proofs.GoodTexts.{text_first, text_later, text_end, AreGoodTexts, no_text, then_text, AreGoodPieces, then_pieces}
use Rattle.hk_parse.proofs.LineTokens.{first_tokens, end_tokens}
use Rattle.hk_parse.proofs.NamesOfSpecs.{names_of_params, all_covered, down_covered, up_covered, free_words, free_short, free_unreserved, free_before, free_after, IsNewName, new_name}
use Rattle.hk_parse.proofs.PartLines.{got_after, property_goes_on, test_goes_on, step_goes_on}
use Rattle.hk_parse.proofs.PrintedTexts.{Covers}
use Rattle.hk_print.proofs.PrintedTokens.{name_word, free_name_word}

-- what no free name has none of them has
none_of_free : (P : List ℕ → Type 0) → ((name : List ℕ) → is_free_name name ≡ true → P name → ⊥) → (names : List (List ℕ)) → list_all is_free_name names ≡ true → Any P names → ⊥
none_of_free P never [] free (k, name, within, at, holds) = omega (arith, within)
none_of_free P never (first ∷ names) free (zero, name, within, at, holds) = never first (and_parts _ _ free).0 (subst P (sym at) holds)
none_of_free P never (first ∷ names) free (suc k, name, within, at, holds) = none_of_free P never names (and_parts _ _ free).1 (k, name, omega (arith, within), at, holds)

-- the first of distinct names are distinct
distinct_before : (xs ys : List (List ℕ)) → are_distinct (xs ++ ys) ≡ true → are_distinct xs ≡ true
distinct_before [] ys distinct = refl
distinct_before (x ∷ xs) ys distinct =
    let parts = and_parts _ _ distinct in
    and_from _ _ (not_from_false _ (or_parts _ _ (sym (list_any-append (bytes_eq x) xs ys) ∙ not-true _ parts.0)).0) (distinct_before xs ys parts.1)

texts_names : (params : List Param) → param_names (map param_text params) ≡ names_of_params params
texts_names [] = refl
texts_names (p ∷ params) = ap (λ names. p.name ∷ names) (texts_names params)

texts_words : (params : List Param) → list_all is_free_name (names_of_params params) ≡ true → All (λ (p : ParamText). IsWord p.name) (map param_text params)
texts_words [] free = All-nil (λ (p : ParamText). IsWord p.name)
texts_words (p ∷ params) free = let parts = and_parts _ _ free in All-cons (λ (p : ParamText). IsWord p.name) (param_text p) (map param_text params) (free_name_word p.name parts.0) (texts_words params parts.1)

-- there are as many steps as properties
pub steps_count : (scope : Scope) (properties : List PropDecl) (steps : List StepExpr) → are_steps scope (kinds_of_properties properties) steps ≡ true → length steps ≡ length properties
steps_count scope [] [] good = refl
steps_count scope (p ∷ properties) (e ∷ steps) good = let more : length steps ≡ length properties = steps_count scope properties steps (and_parts (is_step scope p.kind e) (are_steps scope (kinds_of_properties properties) steps) good).1 in omega (arith, more)
steps_count scope [] (e ∷ steps) good = absurd (both_ways _ refl good)
steps_count scope (p ∷ properties) [] good = absurd (both_ways _ refl good)

test_below : (m n : ℕ) → m < n → nat_lt m n ≡ true
test_below m n below = grind (arith, nat_tests)

test_same : (m n : ℕ) → m ≡ n → nat_lt m n ≡ false
test_same m n same = grind (arith, nat_tests)

regroup_down : (params done more up : List (List ℕ)) (name : List ℕ) → params ++ ((done ++ name ∷ more) ++ up) ≡ (params ++ (done ++ [])) ++ name ∷ (more ++ up)
regroup_down params done more up name = simp (append_assoc, append-nil)

regroup_up : (params down done more : List (List ℕ)) (name : List ℕ) → params ++ (down ++ (done ++ name ∷ more)) ≡ (params ++ (down ++ done)) ++ name ∷ more
regroup_up params down done more name = simp append_assoc

module _ (s : Specification) (valid : IsSpecification s) where
  free_params : list_all is_free_name (names_of_params s.params) ≡ true
  free_params = free_before (names_of_params s.params) _ valid.free_names

  free_properties : list_all is_free_name (names_of_properties s.down ++ names_of_properties s.up) ≡ true
  free_properties = free_after (names_of_params s.params) _ valid.free_names

  free_down : list_all is_free_name (names_of_properties s.down) ≡ true
  free_down = free_before (names_of_properties s.down) _ free_properties

  free_up : list_all is_free_name (names_of_properties s.up) ≡ true
  free_up = free_after (names_of_properties s.down) _ free_properties

  -- the parameters and the properties so far, before the test
  abbrev declared : List PropDecl → List PropDecl → Part
  declared down up = record { name = s.name; params = s.params; down = down; up = up; test = None; down_step = []; up_step = [] }

  -- all but the steps, and the steps so far
  abbrev stepped : List StepExpr → List StepExpr → Part
  stepped down_step up_step = record { name = s.name; params = s.params; down = s.down; up = s.up; test = Some s.test; down_step = down_step; up_step = up_step }

  header_begins : BeginsWith (tokens_of (first_line s)) (declared [] [])
  header_begins =
      let tokens = first_tokens s.name s.params in
      record {
        name = s.name;
        params = map param_text s.params;
        says = record { texts_are = tokens.are; written = (name_word s.name valid.named, texts_words s.params free_params) };
        begins = record { free = free; small = small; declared = s.params; params_are = refl; begun = refl };
      }
    where
      all_free : list_all is_free_name (param_names (map param_text s.params)) ≡ true
      all_free = ap (list_all is_free_name) (texts_names s.params) ∙ free_params

      free : BeginNameFault (map param_text s.params) → ⊥
      free (inl reserved) = none_of_free (Contains reserved_words) free_unreserved (param_names (map param_text s.params)) all_free reserved
      free (inr twice) = both_ways _ twice (ap are_distinct (texts_names s.params) ∙ distinct_before (names_of_params s.params) _ valid.distinct_names)

      short : (name : List ℕ) → is_free_name name ≡ true → 32 < length name → ⊥
      short name free long = omega (arith, free_short name free, long)

      small : BeginLimitFault s.name (map param_text s.params) → ⊥
      small (inl long) = omega (arith, long, leb-true (length s.name) 32 (and_parts (is_word s.name) _ valid.named).1)
      small (inr (inl long)) = none_of_free (λ name. 32 < length name) short (param_names (map param_text s.params)) all_free (any_to_map (λ name. 32 < length name) (λ (p : ParamText). p.name) (map param_text s.params) long)
      small (inr (inr many)) = omega (arith, many, valid.few_params, length-map s.params param_text)

  downs_good : (done more : List PropDecl) → s.down ≡ done ++ more → HasShape (kinds_of_properties more) (initial_values more) → AreGoodPieces (Within (declared done [])) (map (property_line (codes "down")) more) (Within (declared s.down []))
  downs_good done [] parts shape = subst (λ all. AreGoodTexts (Within (declared done [])) [] (Within (declared all []))) (sym (append-nil done) ∙ sym parts) no_text
  downs_good done (p ∷ more) parts (one_more kind shape) =
      then_text (text_later (property_goes_on (declared done []) Down p (refl, refl) new few kind)) (downs_good (done ++ p ∷ []) more (parts ∙ sym (append_assoc done (p ∷ []) more)) shape)
    where
      new : IsNewName (part_names (declared done [])) p.name
      new = new_name (part_names (declared done [])) p.name (names_of_properties more ++ names_of_properties s.up)
          (ap (λ down. names_of_params s.params ++ (names_of_properties down ++ names_of_properties s.up)) parts
          ∙ ap (λ names. names_of_params s.params ++ (names ++ names_of_properties s.up)) (map-append (λ (p : PropDecl). p.name) done (p ∷ more))
          ∙ regroup_down (names_of_params s.params) (names_of_properties done) (names_of_properties more) (names_of_properties s.up) p.name)
          valid.free_names valid.distinct_names

      few : length done < 32
      few = omega (arith, valid.few_down, ap (λ ps. length ps) parts, length-append done (p ∷ more))

  ups_good : (done more : List PropDecl) → s.up ≡ done ++ more → HasShape (kinds_of_properties more) (initial_values more) → AreGoodPieces (Within (declared s.down done)) (map (property_line (codes "up")) more) (Within (declared s.down s.up))
  ups_good done [] parts shape = subst (λ all. AreGoodTexts (Within (declared s.down done)) [] (Within (declared s.down all))) (sym (append-nil done) ∙ sym parts) no_text
  ups_good done (p ∷ more) parts (one_more kind shape) =
      then_text (text_later (property_goes_on (declared s.down done) Up p refl new few kind)) (ups_good (done ++ p ∷ []) more (parts ∙ sym (append_assoc done (p ∷ []) more)) shape)
    where
      new : IsNewName (part_names (declared s.down done)) p.name
      new = new_name (part_names (declared s.down done)) p.name (names_of_properties more)
          (ap (λ up. names_of_params s.params ++ (names_of_properties s.down ++ names_of_properties up)) parts
          ∙ ap (λ names. names_of_params s.params ++ (names_of_properties s.down ++ names)) (map-append (λ (p : PropDecl). p.name) done (p ∷ more))
          ∙ regroup_up (names_of_params s.params) (names_of_properties s.down) (names_of_properties done) (names_of_properties more) p.name)
          valid.free_names valid.distinct_names

      few : length done < 32
      few = omega (arith, valid.few_up, ap (λ ps. length ps) parts, length-append done (p ∷ more))

  down_words : AreWords (record { params = s.params; down = s.down; up = [] })
  down_words = free_words (record { params = s.params; down = s.down; up = [] }) free_params free_down refl

  up_words : AreWords (record { params = s.params; down = []; up = s.up })
  up_words = free_words (record { params = s.params; down = []; up = s.up }) free_params refl free_up

  down_steps_good : (before after : List PropDecl) (done more : List StepExpr) → s.down ≡ before ++ after → s.down_step ≡ done ++ more → length done ≡ length before → are_steps (down_scope s) (kinds_of_properties after) more ≡ true
      → AreGoodPieces (Within (stepped done [])) (step_lines (naming_of s) after more) (Within (stepped s.down_step []))
  down_steps_good before [] done [] parts steps count good = subst (λ all. AreGoodTexts (Within (stepped done [])) [] (Within (stepped all []))) (sym (append-nil done) ∙ sym steps) no_text
  down_steps_good before [] done (e ∷ more) parts steps count good = absurd (both_ways _ refl good)
  down_steps_good before (p ∷ after) done [] parts steps count good = absurd (both_ways _ refl good)
  down_steps_good before (p ∷ after) done (e ∷ more) parts steps count good =
      then_text (text_later (subst (GoesOn (stepped done []) _) stepped_is
      (step_goes_on (stepped done []) (naming_of s) p e refl due_is (down_words.property Down (length before) p got)
      (subst (Covers (naming_of s)) (sym names_are) (down_covered s.params s.down s.up)) (subst AreWords (sym names_are) down_words) (subst (λ names. is_step (scope_of names) p.kind e ≡ true) (sym names_are) (and_parts _ _ good).0))))
      (down_steps_good (before ++ p ∷ []) after (done ++ e ∷ []) more (parts ∙ sym (append_assoc before (p ∷ []) after)) (steps ∙ sym (append_assoc done (e ∷ []) more)) (omega (arith, count, length-append before (p ∷ []), length-append done (e ∷ []))) (and_parts _ _ good).1)
    where
      below : nat_lt (length done) (length s.down) ≡ true
      below = test_below (length done) (length s.down) (omega (arith, count, ap (λ ps. length ps) parts, length-append before (p ∷ after)))

      names_are : step_names (stepped done []) ≡ record { params = s.params; down = s.down; up = [] }
      names_are = ap (λ (test : Bool). if test then record { params = s.params; down = s.down; up = [] } else record { params = s.params; down = []; up = s.up }) below

      stepped_is : with_step (stepped done []) e ≡ stepped (done ++ e ∷ []) []
      stepped_is = ap (λ (test : Bool). if test then stepped (done ++ e ∷ []) [] else stepped done ([] ++ e ∷ [])) below

      got : slice_get s.down (length before) ≡ Some p
      got = ap (λ ps. slice_get ps (length before)) parts ∙ got_after before p after (length before) refl

      due_is : due (stepped done []) ≡ Some p
      due_is = ap (λ ps. slice_get (ps ++ s.up) (length done + 0)) parts ∙ ap (λ ps. slice_get ps (length done + 0)) (append_assoc before (p ∷ after) s.up) ∙ got_after before p (after ++ s.up) (length done + 0) (omega (arith, count))

  up_steps_good : (before after : List PropDecl) (done more : List StepExpr) → s.up ≡ before ++ after → s.up_step ≡ done ++ more → length done ≡ length before → are_steps (up_scope s) (kinds_of_properties after) more ≡ true
      → AreGoodPieces (Within (stepped s.down_step done)) (step_lines (naming_of s) after more) (Within (stepped s.down_step s.up_step))
  up_steps_good before [] done [] parts steps count good = subst (λ all. AreGoodTexts (Within (stepped s.down_step done)) [] (Within (stepped s.down_step all))) (sym (append-nil done) ∙ sym steps) no_text
  up_steps_good before [] done (e ∷ more) parts steps count good = absurd (both_ways _ refl good)
  up_steps_good before (p ∷ after) done [] parts steps count good = absurd (both_ways _ refl good)
  up_steps_good before (p ∷ after) done (e ∷ more) parts steps count good =
      then_text (text_later (subst (GoesOn (stepped s.down_step done) _) stepped_is
      (step_goes_on (stepped s.down_step done) (naming_of s) p e refl due_is (up_words.property Up (length before) p got)
      (subst (Covers (naming_of s)) (sym names_are) (up_covered s.params s.down s.up)) (subst AreWords (sym names_are) up_words) (subst (λ names. is_step (scope_of names) p.kind e ≡ true) (sym names_are) (and_parts _ _ good).0))))
      (up_steps_good (before ++ p ∷ []) after (done ++ e ∷ []) more (parts ∙ sym (append_assoc before (p ∷ []) after)) (steps ∙ sym (append_assoc done (e ∷ []) more)) (omega (arith, count, length-append before (p ∷ []), length-append done (e ∷ []))) (and_parts _ _ good).1)
    where
      over : nat_lt (length s.down_step) (length s.down) ≡ false
      over = test_same (length s.down_step) (length s.down) (steps_count (down_scope s) s.down s.down_step valid.good_down_steps)

      names_are : step_names (stepped s.down_step done) ≡ record { params = s.params; down = []; up = s.up }
      names_are = ap (λ (test : Bool). if test then record { params = s.params; down = s.down; up = [] } else record { params = s.params; down = []; up = s.up }) over

      stepped_is : with_step (stepped s.down_step done) e ≡ stepped s.down_step (done ++ e ∷ [])
      stepped_is = ap (λ (test : Bool). if test then stepped (s.down_step ++ e ∷ []) done else stepped s.down_step (done ++ e ∷ [])) over

      got : slice_get s.up (length before) ≡ Some p
      got = ap (λ ps. slice_get ps (length before)) parts ∙ got_after before p after (length before) refl

      due_is : due (stepped s.down_step done) ≡ Some p
      due_is =
          ap (λ ps. slice_get (s.down ++ ps) (length s.down_step + length done)) parts
          ∙ ap (λ ps. slice_get ps (length s.down_step + length done)) (sym (append_assoc s.down before (p ∷ after)))
          ∙ got_after (s.down ++ before) p after (length s.down_step + length done) (omega (arith, count, steps_count (down_scope s) s.down s.down_step valid.good_down_steps, length-append s.down before))

  ends : Ends (stepped s.down_step s.up_step) (tokens_of (piece (codes "end")))
  ends =
      let tokens = end_tokens in
      record { says = record { texts_are = tokens.are; written = tt }; stands = (refl, none_due) }
    where
      none_due : due (stepped s.down_step s.up_step) ≡ None
      none_due = slice_get_past (s.down ++ s.up) (length s.down_step + length s.up_step)
          (omega (arith, length-append s.down s.up, steps_count (down_scope s) s.down s.down_step valid.good_down_steps, steps_count (up_scope s) s.up s.up_step valid.good_up_steps))

  -- the texts of the lines of a specification whose test doesn't use the bound are good
  pub spec_texts_good : is_good_cond (record (test_scope s) { best = false }) s.test ≡ true → AreGoodPieces Before (spec_lines s) (Whole s)
  spec_texts_good good =
      then_pieces (declaration_lines s) (rule_lines s ++ piece (codes "end") ∷ [])
      (then_text (text_first header_begins) (then_pieces (map (property_line (codes "down")) s.down) (map (property_line (codes "up")) s.up) (downs_good [] s.down refl valid.initial_down) (ups_good [] s.up refl valid.initial_up)))
      (then_pieces (rule_lines s) (piece (codes "end") ∷ [])
      (then_text (text_later (test_goes_on (declared s.down s.up) (naming_of s) s.test refl (all_covered s.params s.down s.up) (free_words (record { params = s.params; down = s.down; up = s.up }) free_params free_down free_up) good))
      (then_pieces (step_lines (naming_of s) s.down s.down_step) (step_lines (naming_of s) s.up s.up_step) (down_steps_good [] s.down [] s.down_step refl refl refl valid.good_down_steps) (up_steps_good [] s.up [] s.up_step refl refl refl valid.good_up_steps)))
      (then_text (text_end ends refl) no_text))
