-- The faults of a line, by what it means: with one the line has no effect, and without one it has an effect.
use Rattle.std.proofs.Common.{◌≡◌, ℕ, ◌≤◌, ◌⊎◌, inl, inr, List, [], ◌∷◌, ◌++◌, length, Option, None, Some, IsSome, is_some, refl, sym, ap, subst, arith, ◌≢◌}
use Rattle.std.specs.Prelude.{IfSome}
use Rattle.std.proofs.Math.Decide.{dec_le, map_dec}
use Rattle.hk_parse.specs.BlockLines.{Part, MayStand as MayStandIn, BeginNameFault, BeginLimitFault, LineNameFault, LineLimitFault, IsGoodAfter, whole_spec}
use Rattle.hk_parse.specs.Blocks.{IsPart}
use Rattle.hk_parse.specs.LineTexts.{LineText, Begin, End, IsLineText}
use Rattle.hk_model.specs.Limits.{most_specifications}
use Rattle.hk_model.specs.LineFaults.{name_of_statement, name_of_post, name_of_opening, name_inside, limit_of_statement, limit_of_post, limit_of_opening, limit_inside, scope_of_statement, scope_of_post, SayNothingAfter, IsFault, fault_text, fault_syntax, fault_name, fault_limit, fault_scope, fault_grade}
use Rattle.hk_draft.specs.Faults.{IsNameFault, IsLimitFault, IsScopeFault}
use Rattle.hk_model.specs.Models.{Declared, wrong_latest}
use Rattle.hk_model.specs.Postings.{PostNameFault, PostLimitFault, PostScopeFault, AddsPost, spec_of}
use Rattle.hk_draft.specs.Drafts.{PlainDraft, empty_draft}
use Rattle.hk_lines.specs.Statements.{Statement, Header}
use Rattle.hk_draft.specs.Declares.{MayStand, Declares, declares_header}
use Rattle.hk_parse.proofs.LineEffects.{begins_exists, good_after_one, good_after_exists}
use Rattle.hk_parse.proofs.LineDecisions.{dec_begin_name, dec_begin_limit, dec_line_name, dec_line_limit}
use Rattle.hk_text.proofs.Deciding.{dec_either, dec_true}
use Rattle.hk_draft.proofs.Effects.{effect_of, named_no_effect, limited_no_effect, unordered_no_effect, none_since, lt_since}
use Rattle.hk_model.proofs.Meanings.{Meaning, Stating, Posting, Opening, Inside, Means, means_statement, means_post, means_opening, means_inside}
use Rattle.hk_model.proofs.MeantEffects.{Effect, effect_statement, effect_post, effect_opening, effect_inside, effect_end, no_more, some_value}
use Rattle.hk_model.proofs.PostEffects.{post_effect, named_no_post, limited_no_post, unordered_no_post, dec_post_name, dec_post_limit, dec_post_scope}
use Rattle.hk_model.proofs.Soundness.{IsSound, part_of, open_part}
use Rattle.hk_draft.proofs.Standing.{named_stands, limited_stands, unordered_stands}
use Rattle.hk_draft.proofs.StatementFaults.{dec_name_fault, dec_limit_fault, dec_scope_fault}
use Rattle.hk_text.specs.Tokens.{IsBadByte, HasTexts}
use Rattle.hk_draft.specs.declared.kinds.RefusalKind.{RefusalKind}
use Rattle.hk_draft.specs.declared.kinds.RefusalKind.TheVariants.{Text, Syntax, Name, Limit, Scope, Grade}
use Rattle.hk_parse.proofs.StepsGrow.{none_or_some}

-- the fault of a kind, by what a line means
abbrev pub FaultIn : Declared → PlainDraft → RefusalKind → Meaning → Type 0
FaultIn before problem Name (Stating s) = IsNameFault problem s
FaultIn before problem Limit (Stating s) = IsLimitFault problem s
FaultIn before problem Scope (Stating s) = IsScopeFault problem s
FaultIn before problem Name (Posting post) = PostNameFault before.specs problem post
FaultIn before problem Limit (Posting post) = PostLimitFault problem post
FaultIn before problem Scope (Posting post) = PostScopeFault problem post
FaultIn before problem Name (Opening name params) = IsSome (spec_of before.specs name) ⊎ BeginNameFault params
FaultIn before problem Limit (Opening name params) = (most_specifications ≤ length before.specs) ⊎ BeginLimitFault name params
FaultIn before problem Name (Inside part text) = LineNameFault part text
FaultIn before problem Limit (Inside part text) = LineLimitFault part text
FaultIn before problem Grade (Inside part text) = (after : Part) × IsGoodAfter part text after × IsSome (wrong_latest after)
FaultIn _ _ _ _ = ⊥

-- a line with a fault has a bad byte, says nothing which may stand there, or has the fault in what it means
pub data Faulty (before : Declared) (line : List ℕ) : RefusalKind → Type 0 where
  faulty_text : {column byte : ℕ} → IsBadByte line column byte → Faulty before line Text
  faulty_syntax : {texts : List (List ℕ)} → HasTexts line texts → texts ≢ [] → SayNothingAfter before texts → Faulty before line Syntax
  faulty_meaning : {texts : List (List ℕ)} {problem : PlainDraft} {m : Meaning} {kind : RefusalKind}
      → HasTexts line texts → before.problem ≡ Some problem → Means before texts m → FaultIn before problem kind m → Faulty before line kind

-- a statement that may stand after the header may stand where it is read
stands_started : {found : Option PlainDraft} {problem : PlainDraft} (s : Statement) → found ≡ Some problem → MayStand (Some problem) s → MayStand found s
stands_started s started stands = subst (λ p. MayStand p s) (sym started) stands

pub faulty : {before : Declared} {line : List ℕ} {kind : RefusalKind} → IsFault before line kind → Faulty before line kind
faulty (fault_text bad) = faulty_text bad
faulty (fault_syntax has some none) = faulty_syntax has some none
faulty (fault_name has started (name_of_statement {statement = s} out says fault)) = faulty_meaning has started (means_statement out says (stands_started s started (named_stands fault))) fault
faulty (fault_name has started (name_of_post out says fault)) = faulty_meaning has started (means_post out (ap is_some started) says) fault
faulty (fault_name has started (name_of_opening out says fault)) = faulty_meaning has started (means_opening out (ap is_some started) says) fault
faulty (fault_name has started (name_inside is says stands fault)) = faulty_meaning has started (means_inside is says stands) fault
faulty (fault_limit has started (limit_of_statement {statement = s} out says fault)) = faulty_meaning has started (means_statement out says (stands_started s started (limited_stands fault))) fault
faulty (fault_limit has started (limit_of_post out says fault)) = faulty_meaning has started (means_post out (ap is_some started) says) fault
faulty (fault_limit has started (limit_of_opening out says fault)) = faulty_meaning has started (means_opening out (ap is_some started) says) fault
faulty (fault_limit has started (limit_inside is says stands fault)) = faulty_meaning has started (means_inside is says stands) fault
faulty (fault_scope has started (scope_of_statement {statement = s} out says fault)) = faulty_meaning has started (means_statement out says (stands_started s started (unordered_stands s fault))) fault
faulty (fault_scope has started (scope_of_post out says fault)) = faulty_meaning has started (means_post out (ap is_some started) says) fault
faulty (fault_grade has started fault) = faulty_meaning has started (means_inside fault.is_open fault.says fault.good.stands) (fault.after, fault.good, fault.wrong)

-- a fault in what a line means is one of the line
pub meant_fault : {before : Declared} {line : List ℕ} {texts : List (List ℕ)} {problem : PlainDraft} {m : Meaning} → HasTexts line texts → before.problem ≡ Some problem → Means before texts m
    → (kind : RefusalKind) → FaultIn before problem kind m → IsFault before line kind
meant_fault has started (means_statement out says stands) Name fault = fault_name has started (name_of_statement out says fault)
meant_fault has started (means_statement out says stands) Limit fault = fault_limit has started (limit_of_statement out says fault)
meant_fault has started (means_statement out says stands) Scope fault = fault_scope has started (scope_of_statement out says fault)
meant_fault has started (means_post out some says) Name fault = fault_name has started (name_of_post out says fault)
meant_fault has started (means_post out some says) Limit fault = fault_limit has started (limit_of_post out says fault)
meant_fault has started (means_post out some says) Scope fault = fault_scope has started (scope_of_post out says fault)
meant_fault has started (means_opening out some says) Name fault = fault_name has started (name_of_opening out says fault)
meant_fault has started (means_opening out some says) Limit fault = fault_limit has started (limit_of_opening out says fault)
meant_fault has started (means_inside is says stands) Name fault = fault_name has started (name_inside is says stands fault)
meant_fault has started (means_inside is says stands) Limit fault = fault_limit has started (limit_inside is says stands fault)
meant_fault has started (means_inside {part = part} {text = text} is says stands) Grade (after, good, wrong) =
    fault_grade has started (record { part = part; is_open = is; text = text; says = says; after = after; good = good; wrong = wrong })
meant_fault has started means kind fault = absurd fault

-- what is declared by then is one problem
pub same_problem : {found : Option PlainDraft} {p q : PlainDraft} → found ≡ Some p → found ≡ Some q → p ≡ q
same_problem x y = cc

-- what means something with a fault has no effect
pub faulty_nothing : {before after : Declared} {texts : List (List ℕ)} {problem : PlainDraft} {m : Meaning} → IfSome before.block IsPart → before.problem ≡ Some problem → Means before texts m
    → Effect before m after → (kind : RefusalKind) → FaultIn before problem kind m → ⊥
faulty_nothing parts started means (effect_statement {statement = s} {problem = next} declares) Name fault = named_no_effect fault (subst (λ p. Declares p s next) started declares)
faulty_nothing parts started means (effect_statement {statement = s} {problem = next} declares) Limit fault = limited_no_effect fault (subst (λ p. Declares p s next) started declares)
faulty_nothing parts started means (effect_statement {statement = s} {problem = next} declares) Scope fault = unordered_no_effect fault (subst (λ p. Declares p s next) started declares)
faulty_nothing {before = before} parts started means (effect_post {post = post} {after = next} started' adds) Name fault = named_no_post fault (subst (λ p. AddsPost before.specs post p next) (same_problem started' started) adds)
faulty_nothing {before = before} parts started means (effect_post {post = post} {after = next} started' adds) Limit fault = limited_no_post fault (subst (λ p. AddsPost before.specs post p next) (same_problem started' started) adds)
faulty_nothing {before = before} parts started means (effect_post {post = post} {after = next} started' adds) Scope fault = unordered_no_post fault (subst (λ p. AddsPost before.specs post p next) (same_problem started' started) adds)
faulty_nothing {before = before} parts started means (effect_opening {name = name} opens) Name (inl taken) = none_or_some (spec_of before.specs name) opens.new taken
faulty_nothing parts started means (effect_opening opens) Name (inr fault) = opens.begins.free fault
faulty_nothing parts started means (effect_opening opens) Limit (inl many) = let room = opens.room in omega (arith, many, room)
faulty_nothing parts started means (effect_opening opens) Limit (inr fault) = opens.begins.small fault
faulty_nothing parts started means (effect_inside good allowed) Name fault = good.named fault
faulty_nothing parts started means (effect_inside good allowed) Limit fault = good.small fault
faulty_nothing parts started (means_inside is says stands) (effect_inside {after = after} good allowed) Grade fault =
    none_or_some (wrong_latest after) allowed (subst (λ a. IsSome (wrong_latest a)) (good_after_one (part_of is parts) fault.1 good) fault.2)
faulty_nothing parts started means (effect_end tested) Grade fault = no_more fault.1
faulty_nothing parts started means effect kind fault = fault

-- the faults of a meaning are decided
pub dec_name_in : (before : Declared) (problem : PlainDraft) (m : Meaning) → Dec (FaultIn before problem Name m)
dec_name_in before problem (Stating s) = dec_name_fault problem s
dec_name_in before problem (Posting post) = dec_post_name before.specs problem post
dec_name_in before problem (Opening name params) = dec_either (dec_true (is_some (spec_of before.specs name))) (dec_begin_name params)
dec_name_in before problem (Inside part text) = dec_line_name part text

pub dec_limit_in : (before : Declared) (problem : PlainDraft) (m : Meaning) → Dec (FaultIn before problem Limit m)
dec_limit_in before problem (Stating s) = dec_limit_fault problem s
dec_limit_in before problem (Posting post) = dec_post_limit problem post
dec_limit_in before problem (Opening name params) = dec_either (dec_le most_specifications (length before.specs)) (dec_begin_limit name params)
dec_limit_in before problem (Inside part text) = dec_line_limit part text

pub dec_scope_in : (before : Declared) (problem : PlainDraft) (m : Meaning) → Dec (FaultIn before problem Scope m)
dec_scope_in before problem (Stating s) = dec_scope_fault problem s
dec_scope_in before problem (Posting post) = dec_post_scope problem post
dec_scope_in before problem m = no (λ none. none)

module _ (before : Declared) (problem : PlainDraft) (part : Part) (is : IsPart part) where
  -- a line of a specification without a fault of a name or of a limit is its end, or adds something
  inside_after : (text : LineText) → IsLineText text → MayStandIn part text → (LineNameFault part text → ⊥) → (LineLimitFault part text → ⊥) → (text ≡ End) ⊎ ((after : Part) × IsGoodAfter part text after)
  inside_after (Begin name params) written stands named small = absurd stands
  inside_after End written stands named small = inl refl
  inside_after text written stands named small = inr (good_after_exists part text is written stands named small (λ same. cc))

  -- whether what it adds hasn't an allowed sense
  dec_after : (text : LineText) → (text ≡ End) ⊎ ((after : Part) × IsGoodAfter part text after) → Dec (FaultIn before problem Grade (Inside part text))
  dec_after text (inl ends) = no (λ fault. no_more (subst (λ t. IsGoodAfter part t fault.0) ends fault.1))
  dec_after text (inr (after, good)) = map_dec
      (λ wrong. (after, good, wrong))
      (λ fault. subst (λ a. IsSome (wrong_latest a)) (good_after_one is fault.1 good) fault.2)
      (dec_true (is_some (wrong_latest after)))

  -- the effect of a line of a specification without a fault
  inside_effect : (text : LineText) → MayStandIn part text → (text ≡ End) ⊎ ((after : Part) × IsGoodAfter part text after) → (FaultIn before problem Grade (Inside part text) → ⊥) → (after : Declared) × Effect before (Inside part text) after
  inside_effect text stands (inl ends) graded =
      let tested = some_value part.test (subst (MayStandIn part) ends stands).0 in
      (_, subst (λ t. Effect before (Inside part t) (record before { specs = before.specs ++ whole_spec part tested.0 ∷ []; block = None })) (sym ends) (effect_end tested.1))
  inside_effect text stands (inr (after, good)) graded = (record before { block = Some after }, effect_inside good (none_since (wrong_latest after) (λ wrong. graded (after, good, wrong))))

-- so the fault of a grade is decided where there is none of a name or of a limit
pub dec_grade_in : {before : Declared} (problem : PlainDraft) {texts : List (List ℕ)} {m : Meaning} → IsSound before → Means before texts m → (FaultIn before problem Name m → ⊥) → (FaultIn before problem Limit m → ⊥) → Dec (FaultIn before problem Grade m)
dec_grade_in {before = before} problem sound (means_inside {part = part} {text = text} is says stands) named limited =
    let rules = open_part sound is in
    dec_after before problem part rules text (inside_after before problem part rules text says.written stands named limited)
dec_grade_in problem sound means named limited = no (λ none. none)

-- a line after the header that means something without a fault has an effect
pub meant_effect : {before : Declared} {problem : PlainDraft} {texts : List (List ℕ)} {m : Meaning} → IsSound before → before.problem ≡ Some problem → Means before texts m
    → (FaultIn before problem Name m → ⊥) → (FaultIn before problem Limit m → ⊥) → (FaultIn before problem Scope m → ⊥) → (FaultIn before problem Grade m → ⊥) → (after : Declared) × Effect before m after
meant_effect {before = before} {problem = problem} sound started (means_statement {statement = s} out says stands) named limited unordered graded =
    let found = effect_of problem s (subst (λ p. MayStand p s) started stands) named limited unordered in
    (record before { problem = Some found.0 }, effect_statement (subst (λ p. Declares p s (Some found.0)) (sym started) found.1))
meant_effect {before = before} {problem = problem} sound started (means_post {post = post} out some says) named limited unordered graded =
    let found = post_effect before.specs problem post named limited unordered in
    (record before { problem = Some found.0 }, effect_post started found.1)
meant_effect {before = before} sound started (means_opening {name = name} {params = params} out some says) named limited unordered graded =
    let found = begins_exists name params (λ fault. named (inr fault)) (λ fault. limited (inr fault)) in (
      record before { block = Some found.0 },
      effect_opening (record {
        new = none_since (spec_of before.specs name) (λ taken. named (inl taken));
        room = lt_since (length before.specs) most_specifications (λ many. limited (inl many));
        begins = found.1;
      }),
    )
meant_effect {before = before} {problem = problem} sound started (means_inside {part = part} {text = text} is says stands) named limited unordered graded =
    let rules = open_part sound is in
    inside_effect before problem part rules text stands (inside_after before problem part rules text says.written stands named limited) graded

-- before the header a line that means something is the header
pub header_effect : {before : Declared} {texts : List (List ℕ)} {m : Meaning} → IsSound before → before.problem ≡ None → Means before texts m → (after : Declared) × Effect before m after
header_effect {before = before} sound start (means_statement {statement = s} out says stands) = by s (subst (λ p. MayStand p s) start stands)
  where
    by : (s : Statement) → MayStand None s → (after : Declared) × Effect before (Stating s) after
    by Header stands = (record before { problem = Some empty_draft }, effect_statement (subst (λ p. Declares p Header (Some empty_draft)) (sym start) declares_header))
    by s stands = absurd stands
header_effect {before = before} sound start (means_post out some says) = absurd (none_or_some before.problem start some)
header_effect {before = before} sound start (means_opening out some says) = absurd (none_or_some before.problem start some)
header_effect {before = before} sound start (means_inside is says stands) = absurd (none_or_some before.problem start (sound.started (ap is_some is)))
