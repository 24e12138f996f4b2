-- What a line declares, by what it means: it is determined, and it is what makes the line good.
use Rattle.hk_text.specs.Tokens.{HasTexts}
use Rattle.std.proofs.Common.{◌≡◌, ℕ, List, [], ◌∷◌, ◌++◌, Option, None, Some, IsSome, is_some, refl, sym, ap, subst, true≢false}
use Rattle.hk_parse.specs.BlockLines.{Part, IsGoodAfter, whole_spec}
use Rattle.hk_parse.specs.LineTexts.{ParamText, LineText, End}
use Rattle.hk_spec.specs.declared.expressions.Cond.{Cond}
use Rattle.hk_model.specs.Models.{Declared, Opens, IsGoodLine, good_empty, good_statement, good_post, good_opening, good_inside, good_end, wrong_latest}
use Rattle.hk_lines.specs.Posts.{Post}
use Rattle.hk_model.specs.Postings.{AddsPost}
use Rattle.hk_draft.specs.Drafts.{PlainDraft}
use Rattle.hk_lines.specs.Statements.{Statement}
use Rattle.hk_draft.specs.Declares.{Declares}
use Rattle.hk_parse.proofs.LineEffects.{begins_one, good_after_one}
use Rattle.hk_draft.proofs.Effects.{effect_stands}
use Rattle.hk_text.proofs.Reading.{same_texts}
use Rattle.hk_draft.proofs.OneEffect.{declares_one}
use Rattle.hk_model.proofs.Meanings.{Meaning, Stating, Posting, Opening, Inside, Means, means_statement, means_post, means_opening, means_inside, means_one, nothing_means}
use Rattle.hk_model.proofs.PostEffects.{post_effect_one}
use Rattle.hk_model.proofs.Soundness.{IsSound, open_part}

-- what is declared after a line that means this
pub data Effect (before : Declared) : Meaning → Declared → Type 0 where
  effect_statement : {statement : Statement} {problem : Option PlainDraft} → Declares before.problem statement problem → Effect before (Stating statement) (record before { problem = problem })
  effect_post : {post : Post} {problem after : PlainDraft} → before.problem ≡ Some problem → AddsPost before.specs post problem after → Effect before (Posting post) (record before { problem = Some after })
  effect_opening : {name : List ℕ} {params : List ParamText} {part : Part} → Opens before.specs name params part → Effect before (Opening name params) (record before { block = Some part })
  effect_inside : {part after : Part} {text : LineText} → IsGoodAfter part text after → wrong_latest after ≡ None → Effect before (Inside part text) (record before { block = Some after })
  effect_end : {part : Part} {test : Cond} → part.test ≡ Some test → Effect before (Inside part End) (record before { specs = before.specs ++ whole_spec part test ∷ []; block = None })

-- what an option has that is some
pub some_value : {A : Type 0} (o : Option A) → IsSome o → (x : A) × (o ≡ Some x)
some_value None is = absurd (true≢false (sym is))
some_value (Some x) is = (x, refl)

-- a line that means something with an effect is good
pub meant_good : {before after : Declared} {line : List ℕ} {texts : List (List ℕ)} {m : Meaning} → HasTexts line texts → Means before texts m → Effect before m after → IsGoodLine before line after
meant_good has (means_statement out says stands) (effect_statement declares) = good_statement has out says declares
meant_good has (means_post out some says) (effect_post started adds) = good_post has out says started adds
meant_good {before = before} has (means_opening out some says) (effect_opening opens) = good_opening has out says (some_value before.problem some).1 opens
meant_good has (means_inside is says stands) (effect_inside good allowed) = good_inside has is says good allowed
meant_good has (means_inside is says stands) (effect_end tested) = good_end has is says stands tested

-- a good line has no tokens, or it means something
pub data Seen (before : Declared) (line : List ℕ) : Declared → Type 0 where
  seen_nothing : HasTexts line [] → Seen before line before
  seen_meaning : {texts : List (List ℕ)} {m : Meaning} {after : Declared} → HasTexts line texts → Means before texts m → Effect before m after → Seen before line after

pub seen : {before after : Declared} {line : List ℕ} → IsGoodLine before line after → Seen before line after
seen (good_empty has) = seen_nothing has
seen (good_statement has out says declares) = seen_meaning has (means_statement out says (effect_stands declares)) (effect_statement declares)
seen (good_post has out says started adds) = seen_meaning has (means_post out (ap is_some started) says) (effect_post started adds)
seen (good_opening has out says started opens) = seen_meaning has (means_opening out (ap is_some started) says) (effect_opening opens)
seen (good_inside has is says good allowed) = seen_meaning has (means_inside is says good.stands) (effect_inside good allowed)
seen (good_end has is says stands tested) = seen_meaning has (means_inside is says stands) (effect_end tested)

-- what a line means, whatever its tokens are called
pub means_here : {before : Declared} {line : List ℕ} {texts others : List (List ℕ)} {m : Meaning} → HasTexts line texts → HasTexts line others → Means before others m → Means before texts m
means_here {before = before} {m = m} has has' means = subst (λ texts. Means before texts m) (same_texts has' has) means

-- the end of a specification adds nothing to it
pub no_more : {part after : Part} → IsGoodAfter part End after → ⊥
no_more good = elim good.adds [ ]

-- a meaning has one effect
pub effect_one : {before a b : Declared} {texts : List (List ℕ)} {m : Meaning} → IsSound before → Means before texts m → Effect before m a → Effect before m b → a ≡ b
effect_one {before = before} sound means (effect_statement x) (effect_statement y) = ap (λ problem. record before { problem = problem }) (declares_one x y)
effect_one {before = before} sound means (effect_post {post = post} {after = after} started x) (effect_post {problem = other} {after = after'} started' y) =
    let same : _ ≡ other = same_problem started started' in
    ap (λ problem. record before { problem = Some problem }) (post_effect_one (subst (λ problem. AddsPost before.specs post problem after) same x) y)
  where
    same_problem : {p q : PlainDraft} → before.problem ≡ Some p → before.problem ≡ Some q → p ≡ q
    same_problem x y = cc
effect_one {before = before} sound means (effect_opening x) (effect_opening y) = ap (λ part. record before { block = Some part }) (begins_one x.begins y.begins)
effect_one {before = before} sound (means_inside is says stands) (effect_inside x _) (effect_inside y _) = ap (λ part. record before { block = Some part }) (good_after_one (open_part sound is) x y)
effect_one sound means (effect_inside x _) (effect_end tested) = absurd (no_more x)
effect_one sound means (effect_end tested) (effect_inside y _) = absurd (no_more y)
effect_one {before = before} sound means (effect_end {part = part} {test = test} tested) (effect_end {test = test'} tested') =
    let same : test ≡ test' = cc in
    ap (λ c. record before { specs = before.specs ++ whole_spec part c ∷ []; block = None }) same

-- a good line has one effect
pub good_line_one : {before after other : Declared} {line : List ℕ} → IsSound before → IsGoodLine before line after → IsGoodLine before line other → after ≡ other
good_line_one {before = before} {line = line} sound x y = by (seen x) (seen y)
  where
    by : {after other : Declared} → Seen before line after → Seen before line other → after ≡ other
    by (seen_nothing has) (seen_nothing has') = refl
    by (seen_nothing has) (seen_meaning has' means effect) = absurd (nothing_means (means_here has has' means))
    by (seen_meaning has means effect) (seen_nothing has') = absurd (nothing_means (means_here has' has means))
    by (seen_meaning {after = after} has means effect) (seen_meaning has' means' effect') =
        effect_one sound means' (subst (λ m. Effect before m after) (means_one (means_here has' has means) means') effect) effect'
