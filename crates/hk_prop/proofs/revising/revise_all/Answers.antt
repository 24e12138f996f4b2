use Rattle.std.proofs.Common.{◌≡◌, ℕ, ◌<◌, List, length, All, arith, sym, ap, ◌∙◌, subst}
use Rattle.std.specs.Prelude.{slice_index_or}
use Rattle.std.proofs.lemmas.List.{get_or_default, length-set}
use Rattle.hk_group.specs.Groups.{PlainGroup}
use Rattle.hk_group.specs.Problems.{IsValid}
use Rattle.hk_prop.specs.Works.{WorkView, IsWorkFor}
use Rattle.hk_prop.specs.inside.Revised.{PlainRound, IsRevised}
use Rattle.hk_prop.proofs.GroupVars.{group_declared}
use Rattle.hk_prop.proofs.Turns.{set_done, set_left}
use Rattle.hk_prop.proofs.revising.revise_all.Goals as goal

pub enter-requires-clause-few : goal.enter-requires-clause-few
enter-requires-clause-few g c =
    let valid = subst (λ (r : PlainRound). IsValid r.problem) c.round.view_is c.groups-groups.ensures.valid in
    omega (arith, valid.few_groups, c.requires.works.one_each, c.diagrams-test.true, c.diagrams.auto.at-end, c.diagrams.invariant.long)

pub revise-requires-clause-work : goal.revise-requires-clause-work
revise-requires-clause-work g c =
    let round = c.args.round.now in
    let at = c.diagrams.at in
    let own = c.index-groups-at.result in
    let w = c.index-work-at.result in
    let within : at < length c.args.work.now = omega (arith, c.diagrams-test.true, c.diagrams.auto.at-end, c.diagrams.invariant.long) in
    let group_is : own ≡ slice_index_or round.problem.groups at own =
    c.index-groups-at.is ∙ ap (λ (gs : List PlainGroup). slice_index_or gs at own) (c.groups-groups.ensures.groups ∙ ap (λ (r : PlainRound). r.problem.groups) c.round.view_is) in
    let here = c.requires.works.each at own w within in
    subst (λ (group : PlainGroup). IsWorkFor group round.problem.domains round.width (slice_index_or c.diagrams.work at w)) (sym group_is)
    (subst (λ (v : WorkView). IsWorkFor (slice_index_or round.problem.groups at own) round.problem.domains round.width v) (sym (c.diagrams.invariant.left at w (omega arith) (omega (arith, within, c.diagrams.invariant.long)))) here)

pub revise-requires-clause-domains : goal.revise-requires-clause-domains
revise-requires-clause-domains g c =
    let round = c.args.round.now in
    let at = c.diagrams.at in
    let own = c.index-groups-at.result in
    let group_is : own ≡ slice_index_or round.problem.groups at own =
    c.index-groups-at.is ∙ ap (λ (gs : List PlainGroup). slice_index_or gs at own) (c.groups-groups.ensures.groups ∙ ap (λ (r : PlainRound). r.problem.groups) c.round.view_is) in
    let valid = subst (λ (r : PlainRound). IsValid r.problem) c.round.view_is c.groups-groups.ensures.valid in
    let within : at < length round.problem.groups = omega (arith, c.diagrams-test.true, c.diagrams.auto.at-end, c.diagrams.invariant.long, c.requires.works.one_each) in
    subst (λ (group : PlainGroup). All (λ variable. variable < length round.domains) group.vars) (sym group_is) (group_declared round.problem (length round.domains) valid c.requires.domains at own within)

pub diagrams-preserved : goal.diagrams-preserved
diagrams-preserved g c =
    let round = c.args.round.now in
    let at = c.diagrams.at in
    let own = c.index-groups-at.result in
    let w = c.index-work-at.result in
    let new = c.revise.new.self in
    let now = c.diagrams.work in
    let old = c.args.work.now in
    let within : at < length now = omega (arith, c.diagrams-test.true, c.diagrams.auto.at-end, c.diagrams.invariant.long) in
    let inside : at < length round.problem.groups = omega (arith, within, c.diagrams.invariant.long, c.requires.works.one_each) in
    let group_is : own ≡ slice_index_or round.problem.groups at own =
    c.index-groups-at.is ∙ ap (λ (gs : List PlainGroup). slice_index_or gs at own) (c.groups-groups.ensures.groups ∙ ap (λ (r : PlainRound). r.problem.groups) c.round.view_is) in
    let R : ℕ → PlainGroup → WorkView → WorkView → Type 0 = λ k group before after. IsRevised (slice_index_or round.problem.groups k group) round before after in
    record {
      long = length-set now at new ∙ c.diagrams.invariant.long;
      done = set_done R old now at new within c.diagrams.invariant.done (λ group d.
          let same_group : own ≡ slice_index_or round.problem.groups at group = group_is ∙ get_or_default round.problem.groups at own group inside in
          let same_work : slice_index_or now at w ≡ slice_index_or old at d = get_or_default now at w d within ∙ c.diagrams.invariant.left at d (omega arith) within in
          subst (λ (g' : PlainGroup). IsRevised g' round (slice_index_or old at d) new) same_group (subst (λ (v : WorkView). IsRevised own round v new) same_work c.revise.ensures));
      left = set_left old now at new c.diagrams.invariant.left;
    }
