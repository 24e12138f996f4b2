-- What a first line begins.
use Rattle.std.proofs.Common.{◌≡◌, ◌<◌, ◌≤◌, ℕ, true, None, Result, Ok, Err, IfErr, List, [], ◌∷◌, length, map, refl, sym, ap, ◌∙◌, arith, inl, inr}
use Rattle.std.specs.List.{list_all}
use Rattle.std.proofs.lemmas.Bool.{true_from_ne_false}
use Rattle.std.proofs.lemmas.List.{append-nil, length-map}
use Rattle.std.proofs.lemmas.List.Elements.{All-map}
use Rattle.hk_kinds.specs.Shapes.{no_kinds}
use Rattle.hk_spec.specs.Names.{is_free_name, are_distinct}
use Rattle.hk_spec.specs.declared.parts.Param.{Param}
use Rattle.hk_spec.specs.declared.parts.PropDecl.{PropDecl}
use Rattle.hk_spec.specs.declared.parts.StepExpr.{StepExpr}
use Rattle.hk_text.specs.Lexemes.{IsWord}
use Rattle.hk_parse.specs.BlockFaults.{IsBeginFault}
use Rattle.hk_parse.specs.inside.LineParts.{IsHeaderFault}
use Rattle.hk_parse.specs.BlockLines.{Part, Begins, param_names, part_names}
use Rattle.hk_parse.specs.Blocks.{IsPart}
use Rattle.hk_parse.specs.inside.Headers.{IsHeader, param_text}
use Rattle.hk_parse.specs.LineTexts.{ParamText, Begin, SaysLine}
use Rattle.hk_parse.specs.declared.faults.BlockFault.{BlockFault}
use Rattle.hk_parse.specs.declared.faults.BlockFault.TheVariants.{Syntax, Name, Limit, Memory}
use Rattle.hk_terms.proofs.FreeNames.{word_is_name, words_are_free, any_from_map}

-- the names of parameters are those of their texts
declared_names : (declared : List Param) → map (λ (p : Param). p.name) declared ≡ param_names (map param_text declared)
declared_names [] = refl
declared_names (p ∷ more) = ap (λ names. p.name ∷ names) (declared_names more)

-- what a header says, and nothing more
abbrev pub begun : List ℕ → List Param → Part
begun name declared = record { name = name; params = declared; down = []; up = []; test = None; down_step = []; up_step = [] }

module _ (name : List ℕ) (params : List ParamText) (declared : List Param) (header : IsHeader name params) (are : map param_text declared ≡ params) where
  names_are : part_names (begun name declared) ≡ param_names params
  names_are = append-nil (map (λ (p : Param). p.name) declared) ∙ declared_names declared ∙ ap param_names are

  free_params : list_all is_free_name (param_names params) ≡ true
  free_params = words_are_free (param_names params)
      (All-map IsWord (λ (p : ParamText). p.name) params header.words)
      (λ long. header.small (inr (inl (any_from_map (λ n. 32 < length n) (λ (p : ParamText). p.name) params long))))
      (λ reserved. header.free (inl reserved))

  not_long : (32 < length name → ⊥) → length name ≤ 32
  not_long short = omega (arith, short)

  not_many : (16 < length params → ⊥) → length declared ≤ 16
  not_many few =
      let same : length declared ≡ length params = sym (length-map declared param_text) ∙ ap (λ ps. length ps) are in
      omega (arith, few, same)

  -- the beginning keeps the rules
  pub begun_is_part : IsPart (begun name declared)
  begun_is_part = record {
    named = word_is_name name header.is_word (not_long (λ long. header.small (inl long)));
    free_names = ap (list_all is_free_name) names_are ∙ free_params;
    distinct_names = ap are_distinct names_are ∙ true_from_ne_false _ (λ twice. header.free (inr twice));
    few_params = not_many (λ many. header.small (inr (inr many)));
    few_down = omega arith;
    few_up = omega arith;
    initial_down = no_kinds;
    initial_up = no_kinds;
    good_test = tt;
    test_first = λ none. (refl, refl);
    down_first = λ below. refl;
    down_steps = record { few = omega arith; good = refl };
    up_steps = record { few = omega arith; good = refl };
  }

  -- the header begins it
  pub header_begins : Begins name params (begun name declared)
  header_begins = record { free = header.free; small = header.small; declared = declared; params_are = are; begun = refl }

-- what is wrong with a line's header is wrong with its texts
pub texts_fault : {texts : List (List ℕ)} {name : List ℕ} {params : List ParamText} (fault : BlockFault) → SaysLine texts (Begin name params) → IsHeaderFault name params fault → IsBeginFault texts fault
texts_fault Syntax says wrong = absurd wrong
texts_fault {name = name} {params = params} Name says wrong = (name, params, says, wrong)
texts_fault {name = name} {params = params} Limit says wrong = (name, params, says, wrong.0, wrong.1)
texts_fault Memory says wrong = tt

-- an error about a header is one about its texts
pub texts_err : {X : Type 0} {texts : List (List ℕ)} {name : List ℕ} {params : List ParamText} (read : Result X BlockFault) → SaysLine texts (Begin name params) → IfErr read (IsHeaderFault name params) → IfErr read (IsBeginFault texts)
texts_err (Ok x) says wrong = tt
texts_err (Err fault) says wrong = texts_fault fault says wrong

-- a beginning by the values of its fields
pub begun_fields : {name other : List ℕ} {declared : List Param} {down up : List PropDecl} {down_step up_step : List StepExpr} → other ≡ name → down ≡ [] → up ≡ [] → down_step ≡ [] → up_step ≡ []
    → begun name declared ≡ record { name = other; params = declared; down = down; up = up; test = None; down_step = down_step; up_step = up_step }
begun_fields n d u ds us = cc
