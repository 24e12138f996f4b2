-- A line outside of a specification that posts one, or that says nothing.
use Rattle.hk_text.specs.Tokens.{HasTexts}
use Rattle.std.proofs.Common.{◌≡◌, ◌≢◌, ℕ, List, [], ◌∷◌, Option, None, Some, IsSome, is_some, refl, sym, ap, subst, ◌∙◌, true≢false}
use Rattle.std.specs.Prelude.{codes}
use Rattle.hk_parse.specs.LineTexts.{param_texts}
use Rattle.hk_parse.specs.SetTexts.{in_parentheses}
use Rattle.hk_draft.specs.declared.faults.LineFault.{LineFault}
use Rattle.hk_draft.specs.declared.faults.LineFault.TheVariants.{Bad, NoMemory}
use Rattle.hk_lines.specs.declared.posts.PostShape.{PostShape}
use Rattle.hk_draft.specs.declared.kinds.RefusalKind.{RefusalKind}
use Rattle.hk_lines.specs.declared.shapes.Shape.{Shape}
use Rattle.hk_lines.specs.Plain.{statement_of}
use Rattle.hk_draft.specs.declared.kinds.RefusalKind.TheVariants.{Syntax, Name, Limit, Scope}
use Rattle.hk_model.specs.inside.Faults.{IsLineFault, Posts, IsPostFaultAfter}
use Rattle.hk_model.specs.LineFaults.{IsFirstFault}
use Rattle.hk_model.specs.Models.{Declared, IsGoodLine, good_post}
use Rattle.hk_lines.specs.Posts.{Post, SaysPost}
use Rattle.hk_model.specs.Postings.{AddsPost}
use Rattle.hk_lines.specs.PostShapes.{plain_post, IsPostShapeOf}
use Rattle.hk_model.specs.inside.PostFaults.{IsFaultyPost, IsPostFault}
use Rattle.hk_draft.specs.Drafts.{PlainDraft}
use Rattle.hk_lines.specs.Shapes.{IsShapeOf, SayNothing}
use Rattle.hk_model.proofs.FirstWords.{statement_apart}
use Rattle.hk_draft.specs.Declares.{Declares}
use Rattle.hk_model.proofs.CappedPosts.{post_fault_whole, adds_post_whole}
use Rattle.hk_model.proofs.FaultRanks.{first_syntax, first_name, first_limit, first_scope, none_open, fault_bad}
use Rattle.hk_model.proofs.FirstFaults.{effect_of_statement}
use Rattle.hk_text.proofs.TokenTexts.{apart, apart_none}
use Rattle.hk_model.proofs.Meanings.{Meaning, Means, means_statement, means_post, means_opening, means_inside, outside_inside, none_say_nothing}

module _ (before : Declared) {line : List ℕ} {texts : List (List ℕ)} (has : HasTexts line texts) (some : texts ≢ []) (out : before.block ≡ None) where
  -- where a line is no statement, no post and no first line of a specification, it means nothing
  no_meaning : SayNothing texts → ((rest : List (List ℕ)) → texts ≡ codes "post" ∷ rest → ⊥) → ((rest : List (List ℕ)) → texts ≡ codes "spec" ∷ rest → ⊥) → {m : Meaning} → Means before texts m → ⊥
  no_meaning silent no_post no_spec (means_statement {statement = s} out' says stands) = silent s says
  no_meaning silent no_post no_spec (means_post {post = p} out' started says) = no_post (p.spec ∷ codes "(" ∷ says.more) says.parts
  no_meaning silent no_post no_spec (means_opening {name = name} {params = params} out' started says) = no_spec (name ∷ in_parentheses (param_texts params)) says.texts_are
  no_meaning silent no_post no_spec (means_inside is says stands) = outside_inside out is

  -- and is Syntax
  pub silent_line : SayNothing texts → ((rest : List (List ℕ)) → texts ≡ codes "post" ∷ rest → ⊥) → ((rest : List (List ℕ)) → texts ≡ codes "spec" ∷ rest → ⊥) → IsLineFault before line (Bad Syntax)
  silent_line silent no_post no_spec =
      let first = first_syntax has some (none_say_nothing (λ m means. no_meaning silent no_post no_spec means)) in
      (fault_bad (none_open before out) first.fault, first)

-- what is declared after the statement of a line is declared after the line
pub effect_after : (before : Declared) {line : List ℕ} {texts : List (List ℕ)} → HasTexts line texts → before.block ≡ None → (shape : Shape) → IsShapeOf texts shape → (after : Declared)
    → Declares before.problem (statement_of shape) after.problem × (after ≡ record before { problem = after.problem }) → IsGoodLine before line after
effect_after before {line = line} has out shape shaped after (declares, same) = subst (IsGoodLine before line) (sym same) (effect_of_statement has shape shaped before out after.problem declares)

module _ (before : Declared) {line : List ℕ} {rest : List (List ℕ)} (has : HasTexts line (codes "post" ∷ rest)) (out : before.block ≡ None) where
  -- where it says no post, it means nothing
  no_post_meant : ((post : Post) → IsSome before.problem → SaysPost (codes "post" ∷ rest) post → ⊥) → {m : Meaning} → Means before (codes "post" ∷ rest) m → ⊥
  no_post_meant none (means_statement out' says stands) = statement_apart says refl refl
  no_post_meant none (means_post {post = p} out' some says) = none p some says
  no_post_meant none (means_opening out' some says) = apart 0 refl says.texts_are refl
  no_post_meant none (means_inside is says stands) = outside_inside out is

  -- and is Syntax
  pub post_syntax : ((post : Post) → IsSome before.problem → SaysPost (codes "post" ∷ rest) post → ⊥) → IsLineFault before line (Bad Syntax)
  post_syntax none =
      let first = first_syntax has (λ nothing. apart_none nothing refl) (none_say_nothing (λ m means. no_post_meant none means)) in
      (fault_bad (none_open before out) first.fault, first)

  module _ {problem : PlainDraft} (started : before.problem ≡ Some problem) where
    -- the first fault of a post is that of the line that says it
    post_fault : {post : Post} → SaysPost (codes "post" ∷ rest) post → (kind : RefusalKind) → IsFaultyPost before.specs problem post kind → IsFirstFault before line kind
    post_fault says Name fault = first_name has started (means_post out (ap is_some started) says) fault
    post_fault says Limit (fault, no_name) = first_limit has started (means_post out (ap is_some started) says) fault no_name
    post_fault says Scope (fault, no_name, no_limit) = first_scope has started (means_post out (ap is_some started) says) fault no_name no_limit
    post_fault says kind fault = absurd fault

  module _ (shape : PostShape) (shaped : IsPostShapeOf (codes "post" ∷ rest) shape) where
    -- where the reader stops at a post after the header, it stops at the line
    first_after : {problem : PlainDraft} → before.problem ≡ Some problem → (fault : LineFault) → IsPostFault before.specs problem (plain_post shape) fault → IsLineFault before line fault
    first_after {problem = problem} started (Bad kind) fault =
        let first = post_fault started shaped.1 kind (post_fault_whole before.specs problem shaped.0 (Bad kind) (subst (λ p. IsPostFault before.specs problem p (Bad kind)) shaped.2 fault)) in
        (fault_bad (none_open before out) first.fault, first)
    first_after started NoMemory nothing = tt

    -- where the reader stops at the post of a line, it stops at the line
    pub first_of_post : (fault : LineFault) → IsPostFaultAfter before (plain_post shape) fault → IsLineFault before line fault
    first_of_post fault is = by before.problem refl is
      where
        by : (problem : Option PlainDraft) → before.problem ≡ problem → IsPostFaultAfter (record before { problem = problem }) (plain_post shape) fault → IsLineFault before line fault
        by None none is = subst (IsLineFault before line) (sym is) (post_syntax (λ post some says. true≢false (sym some ∙ ap is_some none)))
        by (Some problem) started is = first_after started fault is

    -- what is declared after the post is declared after the line
    pub effect_of_post : (after : Declared) → Posts before (plain_post shape) after → IsGoodLine before line after
    effect_of_post after posts = subst (IsGoodLine before line) (sym posts.declared) (good_post has out shaped.1 posts.started
        (adds_post_whole before.specs posts.problem shaped.0 (subst (λ p. AddsPost before.specs p posts.problem posts.next) shaped.2 posts.adds)))
