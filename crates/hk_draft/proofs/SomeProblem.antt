-- A valid draft has a problem.
use Rattle.std.proofs.Common.{◌≡◌, ◌↔◌, ℕ, List, [], ◌∷◌, map, Contains, refl}
use Rattle.std.specs.Prelude.{All, Any}
use Rattle.std.proofs.lemmas.List.Elements.{All-nil, All-cons, All-head, All-tail}
use Rattle.hk_group.specs.Groups.{Part, PlainGroup, IsGroup}
use Rattle.hk_group.specs.Problems.{PlainProblem}
use Rattle.hk_group.specs.inside.Joined.{scopes_joined}
use Rattle.hk_group.proofs.Unions.{joined_is}
use Rattle.hk_draft.specs.Drafts.{PlainDraft, IsOf, IsValidDraft, MakeGroup}
use Rattle.hk_draft.proofs.RisingSets.{in_order, increasing}

-- parts of which a group may be composed make one
group_of : (parts : List Part) → MakeGroup parts → (g : PlainGroup) × (g.parts ≡ parts) × IsGroup g
group_of parts make =
    let vars = in_order (scopes_joined parts) in
    let union : (v : ℕ) → Contains vars.0 v ↔ Any (λ (part : Part). Contains part.scope v) parts = λ v. (λ is. (joined_is parts v).0 ((vars.2 v).0 is), λ some. (vars.2 v).1 ((joined_is parts v).1 some)) in
    (record { vars = vars.0; parts = parts }, refl, record { some = make.some; parts = make.each; rising = increasing vars.0 vars.1; union = union })

-- and the parts of several groups make these
groups_of : (groups : List (List Part)) → All MakeGroup groups → (found : List PlainGroup) × (map (λ (group : PlainGroup). group.parts) found ≡ groups) × All IsGroup found
groups_of [] all = ([], refl, All-nil IsGroup)
groups_of (parts ∷ groups) all =
    let first = group_of parts (All-head MakeGroup parts groups all) in
    let rest = groups_of groups (All-tail MakeGroup parts groups all) in
    (first.0 ∷ rest.0, (λ i. first.1 i ∷ rest.1 i), All-cons IsGroup first.0 rest.0 first.2 rest.2)

pub problem_exists : (draft : PlainDraft) → IsValidDraft draft → (p : PlainProblem) × IsOf draft p
problem_exists draft valid =
    let groups = groups_of draft.groups valid.groups in (
      record { names = draft.names; domains = draft.domains; constraints = draft.constraints; groups = groups.0; objective = draft.objective },
      record { names = refl; domains = refl; constraints = refl; objective = refl; groups = groups.1; composed = groups.2 },
    )
