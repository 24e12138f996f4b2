-- What a line means where it stands, and that it means one thing.
use Rattle.std.proofs.Common.{◌≡◌, ℕ, List, [], Option, None, Some, IsSome, is_some, refl, ap, subst}
use Rattle.std.proofs.Math.Decide.{map_dec}
use Rattle.hk_parse.specs.BlockLines.{Part, MayStand as MayStandIn}
use Rattle.hk_parse.specs.LineTexts.{ParamText, LineText, Begin, End, SaysLine}
use Rattle.hk_model.specs.LineFaults.{SayNothingOutside, SayNothingAfter}
use Rattle.hk_model.specs.Models.{Declared}
use Rattle.hk_lines.specs.Posts.{Post, SaysPost}
use Rattle.hk_lines.specs.Statements.{Statement, Says}
use Rattle.hk_draft.specs.Declares.{MayStand}
use Rattle.hk_parse.proofs.LineReadings.{says_inside_one, opening_one}
use Rattle.hk_parse.proofs.LineDecisions.{dec_inside, dec_opening}
use Rattle.hk_text.proofs.Deciding.{dec_both, dec_true}
use Rattle.hk_lines.proofs.FirstWords.{statement_no_post, nothing_no_post}
use Rattle.hk_model.proofs.FirstWords.{statement_no_opening, post_no_opening, nothing_no_opening}
use Rattle.hk_lines.proofs.Grammar.{says_one, says_nothing}
use Rattle.hk_text.proofs.TokenTexts.{apart_none}
use Rattle.hk_lines.proofs.Posting.{says_post_one}
use Rattle.hk_lines.proofs.PostTexts.{dec_post}
use Rattle.hk_lines.proofs.Sayings.{dec_says}
use Rattle.hk_draft.proofs.StatementFaults.{dec_may_stand}

-- a statement, a post, the first line of a specification, or another line of one
pub data Meaning : Type 0 where
  Stating : (statement : Statement) → Meaning
  Posting : (post : Post) → Meaning
  Opening : (name : List ℕ) (params : List ParamText) → Meaning
  Inside : (part : Part) (text : LineText) → Meaning

-- the texts mean this, which may stand there
pub data Means (before : Declared) (texts : List (List ℕ)) : Meaning → Type 0 where
  means_statement : {statement : Statement} → before.block ≡ None → Says texts statement → MayStand before.problem statement → Means before texts (Stating statement)
  means_post : {post : Post} → before.block ≡ None → IsSome before.problem → SaysPost texts post → Means before texts (Posting post)
  means_opening : {name : List ℕ} {params : List ParamText} → before.block ≡ None → IsSome before.problem → SaysLine texts (Begin name params) → Means before texts (Opening name params)
  means_inside : {part : Part} {text : LineText} → before.block ≡ Some part → SaysLine texts text → MayStandIn part text → Means before texts (Inside part text)

-- no specification is open where one is not
pub outside_inside : {block : Option Part} {part : Part} → block ≡ None → block ≡ Some part → ⊥
outside_inside out is = cc

-- texts mean one thing
pub means_one : {before : Declared} {texts : List (List ℕ)} {m n : Meaning} → Means before texts m → Means before texts n → m ≡ n
means_one (means_statement out x stands) (means_statement out' y stands') = ap Stating (says_one x y)
means_one (means_statement out x stands) (means_post out' some y) = absurd (statement_no_post x y)
means_one (means_statement out x stands) (means_opening out' some y) = absurd (statement_no_opening x y)
means_one (means_statement out x stands) (means_inside is y stands') = absurd (outside_inside out is)
means_one (means_post out some x) (means_statement out' y stands) = absurd (statement_no_post y x)
means_one (means_post out some x) (means_post out' some' y) = ap Posting (says_post_one x y)
means_one (means_post out some x) (means_opening out' some' y) = absurd (post_no_opening x y)
means_one (means_post out some x) (means_inside is y stands) = absurd (outside_inside out is)
means_one (means_opening out some x) (means_statement out' y stands) = absurd (statement_no_opening y x)
means_one (means_opening out some x) (means_post out' some' y) = absurd (post_no_opening y x)
means_one (means_opening {name = n} {params = p} out some x) (means_opening {name = n'} {params = p'} out' some' y) =
    let same = opening_one x y in
    λ i. Opening (same.0 i) (same.1 i)
means_one (means_opening out some x) (means_inside is y stands) = absurd (outside_inside out is)
means_one (means_inside is x stands) (means_statement out y stands') = absurd (outside_inside out is)
means_one (means_inside is x stands) (means_post out some y) = absurd (outside_inside out is)
means_one (means_inside is x stands) (means_opening out some y) = absurd (outside_inside out is)
means_one (means_inside {part = part} {text = a} is x stands) (means_inside {part = part'} {text = b} is' y stands') =
    let same : part ≡ part' = cc in
    let texts_same : a ≡ b = says_inside_one part' x (subst (λ p. MayStandIn p a) same stands) y stands' in
    λ i. Inside (same i) (texts_same i)

-- no texts mean nothing
pub nothing_means : {before : Declared} {m : Meaning} → Means before [] m → ⊥
nothing_means (means_statement out says stands) = says_nothing says
nothing_means (means_post out some says) = nothing_no_post says
nothing_means (means_opening out some says) = nothing_no_opening says
nothing_means (means_inside {text = text} is says stands) = by text says
  where
    by : (text : LineText) → SaysLine [] text → ⊥
    by End says = apart_none refl says.texts_are
    by text says = apart_none refl says.texts_are

-- what it is that texts say nothing, outside of a specification and in one
pub nothing_outside : (before : Declared) (texts : List (List ℕ)) → before.block ≡ None → SayNothingAfter before texts → SayNothingOutside before.problem texts
nothing_outside before texts out none = subst (λ block. SayNothingAfter (record before { block = block }) texts) out none

pub nothing_inside : (before : Declared) (texts : List (List ℕ)) (part : Part) → before.block ≡ Some part → SayNothingAfter before texts → (text : LineText) → SaysLine texts text → MayStandIn part text → ⊥
nothing_inside before texts part is none = subst (λ block. SayNothingAfter (record before { block = block }) texts) is none

module _ {before : Declared} {texts : List (List ℕ)} where
  -- where the texts say nothing that may stand there, they mean nothing
  pub say_nothing_none : {m : Meaning} → SayNothingAfter before texts → Means before texts m → ⊥
  say_nothing_none none (means_statement {statement = s} out says stands) = (nothing_outside before texts out none).no_statement s says stands
  say_nothing_none none (means_post {post = p} out some says) = (nothing_outside before texts out none).no_post p some says
  say_nothing_none none (means_opening {name = n} {params = ps} out some says) = (nothing_outside before texts out none).no_opening n ps some says
  say_nothing_none none (means_inside {part = part} {text = text} is says stands) = nothing_inside before texts part is none text says stands

  -- where the texts mean nothing, they say nothing that may stand there
  pub none_say_nothing : ((m : Meaning) → Means before texts m → ⊥) → SayNothingAfter before texts
  none_say_nothing none = by before.block refl
    where
      by : (block : Option Part) → before.block ≡ block → SayNothingAfter (record before { block = block }) texts
      by None out = record {
        no_statement = λ s says stands. none (Stating s) (means_statement out says stands);
        no_post = λ p some says. none (Posting p) (means_post out some says);
        no_opening = λ name params some says. none (Opening name params) (means_opening out some says);
      }
      by (Some part) is = λ text says stands. none (Inside part text) (means_inside is says stands)

-- what texts mean
pub dec_means : (before : Declared) (texts : List (List ℕ)) → Dec ((m : Meaning) × Means before texts m)
dec_means before texts = by before.block refl
  where
    stated : Dec ((s : Statement) × Says texts s) → Dec ((s : Statement) × Says texts s × MayStand before.problem s)
    stated (no none) = no (λ some. none (some.0, some.1))
    stated (yes (s, says)) = map_dec
        (λ stands. (s, says, stands))
        (λ some. subst (MayStand before.problem) (says_one some.1 says) some.2)
        (dec_may_stand before.problem s)

    outside : before.block ≡ None → Dec ((s : Statement) × Says texts s × MayStand before.problem s) → Dec (IsSome before.problem × ((p : Post) × SaysPost texts p))
        → Dec (IsSome before.problem × ((name : List ℕ) × (params : List ParamText) × SaysLine texts (Begin name params))) → Dec ((m : Meaning) × Means before texts m)
    outside out (yes (s, says, stands)) posted opened = yes (Stating s, means_statement out says stands)
    outside out (no unsaid) (yes (some, (p, says))) opened = yes (Posting p, means_post out some says)
    outside out (no unsaid) (no unposted) (yes (some, (name, params, says))) = yes (Opening name params, means_opening out some says)
    outside out (no unsaid) (no unposted) (no unopened) = no (λ some. none some.1)
      where
        none : {m : Meaning} → Means before texts m → ⊥
        none (means_statement {statement = s} out' says stands) = unsaid (s, says, stands)
        none (means_post {post = p} out' some says) = unposted (some, (p, says))
        none (means_opening {name = name} {params = params} out' some says) = unopened (some, (name, params, says))
        none (means_inside is says stands) = outside_inside out is

    inside : (part : Part) → before.block ≡ Some part → {m : Meaning} → Means before texts m → (text : LineText) × SaysLine texts text × MayStandIn part text
    inside part is (means_statement out says stands) = absurd (outside_inside out is)
    inside part is (means_post out some says) = absurd (outside_inside out is)
    inside part is (means_opening out some says) = absurd (outside_inside out is)
    inside part is (means_inside {part = other} {text = text} is' says stands) =
        let same : other ≡ part = cc in
        (text, says, subst (λ p. MayStandIn p text) same stands)

    by : (block : Option Part) → before.block ≡ block → Dec ((m : Meaning) × Means before texts m)
    by None out = outside out (stated (dec_says texts)) (dec_both (dec_true (is_some before.problem)) (dec_post texts)) (dec_both (dec_true (is_some before.problem)) (dec_opening texts))
    by (Some part) is = map_dec (λ some. (Inside part some.0, means_inside is some.1 some.2)) (λ some. inside part is some.1) (dec_inside part texts)
