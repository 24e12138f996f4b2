-- What a good line declares is sound where what was declared before it is.
use Rattle.std.proofs.Common.{◌≡◌, ℕ, ◌<◌, Bool, List, length, find, Option, None, Some, IsSome, is_some, refl, sym, ap, subst, ◌∙◌, true≢false, arith}
use Rattle.std.specs.Prelude.{All, IfSome}
use Rattle.std.proofs.lemmas.List.Elements.{All-nil, All-get_or, All-push}
use Rattle.hk_parse.specs.BlockLines.{Part, whole_spec}
use Rattle.hk_parse.specs.Blocks.{IsPart}
use Rattle.hk_spec.specs.Arguments.{AreArguments}
use Rattle.hk_spec.specs.Grades.{IsGraded}
use Rattle.hk_spec.specs.Specifications.{Specification, IsSpecification, IsWithoutBest, param_kinds}
use Rattle.hk_model.specs.Models.{Declared, nothing_declared, IsGoodLine, good_empty, good_statement, good_post, good_opening, good_inside, good_end}
use Rattle.hk_lines.specs.Posts.{Post, SaysPost}
use Rattle.hk_model.specs.Postings.{AddsPost}
use Rattle.hk_group.specs.Problems.{IsScope, IsPosted}
use Rattle.hk_draft.specs.Drafts.{PlainDraft, IsValidDraft}
use Rattle.hk_parse.proofs.PartRules.{begins_valid, good_after_valid, whole_valid, whole_no_best}
use Rattle.hk_model.proofs.GradedLines.{IsGradedPart, begins_graded, whole_graded, good_after_graded}
use Rattle.hk_group.proofs.SumSizes.{scope_short}
use Rattle.hk_draft.proofs.Validity.{IsValidSoFar, as_many, named_scope, constraint_valid, statement_valid}
use Rattle.hk_model.proofs.Bindings.{bound_arguments}
use Rattle.std.proofs.lemmas.Option.{slice_get_within, get_or_from_slice_get}
use Rattle.std.proofs.lemmas.List.Folds.{find_at}
use Rattle.std.specs.List.{position_or_len}

-- a declared specification is valid, its test doesn't use the bound on the cost, and it is graded
pub record IsDeclared (s : Specification) : Type 0 where
  pub rules : IsSpecification s
  pub no_best : IsWithoutBest s
  pub graded : IsGraded s

-- what is declared so far is valid, an open specification is graded, and specifications come after the header
pub record IsSound (declared : Declared) : Type 0 where
  pub problem : IsValidSoFar declared.problem
  pub specs : All IsDeclared declared.specs
  pub block : IfSome declared.block IsPart
  pub graded : IfSome declared.block IsGradedPart
  pub started : IsSome declared.block → IsSome declared.problem

-- before the first line
pub nothing_sound : IsSound nothing_declared
nothing_sound = record { problem = tt; specs = All-nil IsDeclared; block = tt; graded = tt; started = λ some. absurd (true≢false (sym some)) }

-- what each element has, the one that is found has
found_has : {X : Type 0} (P : X → Type 0) (test : X → Bool) (xs : List X) (x : X) → find test xs ≡ Some x → All P xs → P x
found_has P test xs x same all =
    let at = sym (find_at test xs) ∙ same in
    subst P (get_or_from_slice_get xs (position_or_len test xs) x x at) (All-get_or P xs (position_or_len test xs) x (slice_get_within xs (position_or_len test xs) x at) all)

-- the names of a post are some
names_some : {texts : List (List ℕ)} {post : Post} → SaysPost texts post → 0 < length post.names
names_some says = let names = ap length says.names.names_are in omega (arith, names)

-- a post that a line says keeps a problem valid
post_valid : {texts : List (List ℕ)} {specs : List Specification} {post : Post} {before after : PlainDraft} → SaysPost texts post → AddsPost specs post before after → All IsDeclared specs → IsValidDraft before → IsValidDraft after
post_valid {specs = specs} {post = post} {before = before} says adds declared valid = constraint_valid (scope, posted) adds.adds valid
  where
    scope : IsScope (length before.names) adds.scope
    scope = named_scope adds.names_are (names_some says)

    spec : IsDeclared adds.spec
    spec = found_has IsDeclared _ specs adds.spec adds.declared declared

    posted : IsPosted (record { spec = adds.spec; args = adds.args; len = length adds.scope }) (length adds.scope)
    posted = record {
      rules = record {
        few = (let short = scope_short (length before.names) adds.scope scope in let most = valid.variables in omega (arith, short, most));
        rules = spec.rules;
        arguments = subst (λ count. AreArguments count (param_kinds adds.spec) adds.args) (as_many adds.names_are)
            (bound_arguments (length post.names) (param_kinds adds.spec) post.args adds.args adds.fit adds.small adds.args_are);
      };
      len = refl;
      no_best = spec.no_best;
      graded = spec.graded;
    }

-- no specification is open
not_open : {block : Option Part} → block ≡ None → IsSome block → ⊥
not_open out some = true≢false (sym some ∙ ap is_some out)

-- what the open specification has
pub part_of : {block : Option Part} {part : Part} → block ≡ Some part → IfSome block IsPart → IsPart part
part_of is all = subst (λ given. IfSome given IsPart) is all

-- what an open specification says so far is as in a specification
pub open_part : {declared : Declared} {part : Part} → IsSound declared → declared.block ≡ Some part → IsPart part
open_part sound is = part_of is sound.block

-- and it is graded so far
open_graded : {declared : Declared} {part : Part} → IsSound declared → declared.block ≡ Some part → IsGradedPart part
open_graded sound is = subst (λ given. IfSome given IsGradedPart) is sound.graded

-- a good line keeps what is declared sound
pub good_line_sound : {before after : Declared} {line : List ℕ} → IsSound before → IsGoodLine before line after → IsSound after
good_line_sound sound (good_empty has) = sound
good_line_sound sound (good_statement has out says declares) =
    record { problem = statement_valid says declares sound.problem; specs = sound.specs; block = sound.block; graded = sound.graded; started = λ some. absurd (not_open out some) }
good_line_sound sound (good_post has out says started adds) = record {
  problem = post_valid says adds sound.specs (subst IsValidSoFar started sound.problem);
  specs = sound.specs;
  block = sound.block;
  graded = sound.graded;
  started = λ some. refl;
}
good_line_sound sound (good_opening has out says started opens) =
    record { problem = sound.problem; specs = sound.specs; block = begins_valid says.written opens.begins; graded = begins_graded opens.begins; started = λ some. ap is_some started }
good_line_sound sound (good_inside has is says good allowed) = record {
  problem = sound.problem;
  specs = sound.specs;
  block = good_after_valid (open_part sound is) says.written good;
  graded = good_after_graded (open_part sound is) good allowed (open_graded sound is);
  started = λ some. sound.started (ap is_some is);
}
good_line_sound {before = before} sound (good_end {part = part} {test = test} has is says stands tested) = record {
  problem = sound.problem;
  specs = All-push IsDeclared before.specs (whole_spec part test) sound.specs
      (record { rules = whole_valid (open_part sound is) tested stands.1; no_best = whole_no_best (open_part sound is) tested; graded = whole_graded tested (open_graded sound is) });
  block = tt;
  graded = tt;
  started = λ some. absurd (true≢false (sym some));
}
