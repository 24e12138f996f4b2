-- The tokens of printed lines are those of the lines as they are written.
use Rattle.std.proofs.Common.{◌≡◌, ℕ, true, List, [], ◌∷◌, ◌++◌, map, refl, ap}
use Rattle.std.specs.Prelude.{codes}
use Rattle.std.proofs.lemmas.Bool.{both_ways, and_parts}
use Rattle.hk_kinds.specs.declared.kinds.Kind.{Kind}
use Rattle.hk_kinds.specs.declared.kinds.Kind.TheVariants.{Min, Max, Interval, SomeBits, AllBits}
use Rattle.hk_kinds.specs.declared.properties.Prop.{Prop}
use Rattle.hk_kinds.specs.declared.properties.Prop.TheVariants as property
use Rattle.hk_spec.specs.Scopes.{is_good_num, is_good_set, is_good_cond}
use Rattle.hk_spec.specs.Specifications.{is_step}
use Rattle.hk_spec.specs.declared.expressions.Cond.{Cond}
use Rattle.hk_spec.specs.declared.expressions.NumExpr.{NumExpr}
use Rattle.hk_spec.specs.declared.expressions.SetExpr.{SetExpr}
use Rattle.hk_spec.specs.declared.expressions.Side.{Side}
use Rattle.hk_spec.specs.declared.parts.Param.{Param}
use Rattle.hk_spec.specs.declared.parts.PropDecl.{PropDecl}
use Rattle.hk_spec.specs.declared.parts.StepExpr.{StepExpr}
use Rattle.hk_spec.specs.declared.parts.StepExpr.TheVariants as step
use Rattle.hk_terms.specs.Names.{scope_of}
use Rattle.hk_print.specs.Expressions.{Naming, set_pieces, num_pieces, cond_pieces}
use Rattle.hk_parse.specs.inside.Headers.{param_text}
use Rattle.hk_parse.specs.LineTexts.{Begin, Property, Test, Step, End, param_texts, side_word, init_texts, step_texts, line_texts}
use Rattle.hk_terms.specs.Names.{Names}
use Rattle.hk_print.specs.Pieces.{piece, tokens_of}
use Rattle.hk_print.specs.Printed.{param_word, kind_word, param_pieces, comma_params, params_pieces, init_pieces, property_line, step_pieces, step_line}
use Rattle.hk_terms.specs.NumTexts.{num_texts}
use Rattle.hk_terms.specs.SetTexts.{in_parentheses, set_texts}
use Rattle.hk_parse.specs.LineTrees.{init_text, step_text}
use Rattle.hk_terms.specs.Trees.{set_text, num_text, cond_text}
use Rattle.hk_parse.proofs.PrintedPieces.{HasTokens, after_token, both_tokens, literal_tokens, signed_tokens}
use Rattle.hk_parse.proofs.PrintedTexts.{Covers, set_tokens, num_tokens, cond_tokens}

params_closed : (p : Param) (params : List Param) → tokens_of (param_pieces p ++ (comma_params params ++ piece (codes ")"))) ≡ param_texts (map param_text (p ∷ params)) ++ codes ")" ∷ []
params_closed p [] = refl
params_closed p (next ∷ params) = ap (λ tokens. param_word p.kind ∷ p.name ∷ codes "," ∷ tokens) (params_closed next params)

params_tokens : (params : List Param) → HasTokens (params_pieces params) (in_parentheses (param_texts (map param_text params)))
params_tokens [] = record { are = refl }
params_tokens (p ∷ params) = record { are = ap (λ tokens. codes "(" ∷ tokens) (params_closed p params) }

-- the tokens of the first line
pub first_tokens : (name : List ℕ) (params : List Param) → HasTokens (piece (codes "spec") ++ (piece name ++ params_pieces params)) (line_texts (Begin name (map param_text params)))
first_tokens name params = after_token (after_token (params_tokens params) name) (codes "spec")

init_tokens : (value : Prop) → HasTokens (init_pieces value) (init_texts (init_text value))
init_tokens (property.Num n) = signed_tokens n
init_tokens (property.Pair low high) = both_tokens (signed_tokens low) (after_token (signed_tokens high) (codes ".."))
init_tokens (property.Bits set) = literal_tokens set

-- the tokens of the line of a property
pub property_tokens : (side : Side) (p : PropDecl) → HasTokens (property_line (side_word side) p) (line_texts (Property side p.name p.kind (init_text p.init)))
property_tokens side p =
    let value = init_tokens p.init in
    record { are = ap (λ tokens. side_word side ∷ p.name ∷ kind_word p.kind ∷ tokens) value.are }

module _ {naming : Naming} {names : Names} (covers : Covers naming names) where
  -- the tokens of the line of the test
  pub test_tokens : (c : Cond) → is_good_cond (scope_of names) c ≡ true → HasTokens (piece (codes "test") ++ cond_pieces naming c) (line_texts (Test (cond_text names c)))
  test_tokens c good = after_token (cond_tokens covers c (and_parts _ _ good).0) (codes "test")

  set_step_tokens : (e : SetExpr) → is_good_set (scope_of names) e ≡ true → HasTokens (set_pieces naming e) (set_texts (set_text names e))
  set_step_tokens e good = set_tokens covers e (and_parts _ _ good).0

  num_step_tokens : (e : NumExpr) → is_good_num (scope_of names) e ≡ true → HasTokens (num_pieces naming e) (num_texts (num_text names e))
  num_step_tokens e good = num_tokens covers e (and_parts _ _ good).0

  step_tokens_of : (kind : Kind) (e : StepExpr) → is_step (scope_of names) kind e ≡ true → HasTokens (step_pieces naming e) (step_texts (step_text names e))
  step_tokens_of Min (step.Num e) good = num_step_tokens e good
  step_tokens_of Max (step.Num e) good = num_step_tokens e good
  step_tokens_of Interval (step.Pair low high) good = let both = and_parts _ _ good in both_tokens (num_step_tokens low both.0) (num_step_tokens high both.1)
  step_tokens_of SomeBits (step.Set e) good = set_step_tokens e good
  step_tokens_of AllBits (step.Set e) good = set_step_tokens e good
  step_tokens_of Min (step.Pair low high) good = absurd (both_ways _ refl good)
  step_tokens_of Min (step.Set e) good = absurd (both_ways _ refl good)
  step_tokens_of Max (step.Pair low high) good = absurd (both_ways _ refl good)
  step_tokens_of Max (step.Set e) good = absurd (both_ways _ refl good)
  step_tokens_of Interval (step.Num e) good = absurd (both_ways _ refl good)
  step_tokens_of Interval (step.Set e) good = absurd (both_ways _ refl good)
  step_tokens_of SomeBits (step.Num e) good = absurd (both_ways _ refl good)
  step_tokens_of SomeBits (step.Pair low high) good = absurd (both_ways _ refl good)
  step_tokens_of AllBits (step.Num e) good = absurd (both_ways _ refl good)
  step_tokens_of AllBits (step.Pair low high) good = absurd (both_ways _ refl good)

  -- the tokens of the line of a step
  pub step_tokens : (p : PropDecl) (e : StepExpr) → is_step (scope_of names) p.kind e ≡ true → HasTokens (step_line naming p e) (line_texts (Step p.name (step_text names e)))
  step_tokens p e good = after_token (after_token (step_tokens_of p.kind e good) p.name) (codes "step")

-- the tokens of the last line
pub end_tokens : HasTokens (piece (codes "end")) (line_texts End)
end_tokens = record { are = refl }
