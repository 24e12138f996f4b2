use Rattle.std.proofs.Common.{◌≡◌, ◌↔◌, ℕ, true, ◌+◌, ◌<◌, List, length, get_or, slice_index, arith, sym, ap, ◌∙◌, subst}
use Rattle.hk_base.specs.Sets.{Has}
use Rattle.hk_group.specs.Groups.{PlainGroup}
use Rattle.hk_prop.specs.Contents.{PlainTable}
use Rattle.hk_prop.specs.Supports.{all_allow, allows}
use Rattle.hk_prop.specs.Works.{WorkView, tables_of}
use Rattle.hk_prop.proofs.GroupVars.{group_declared}
use Rattle.hk_prop.proofs.Narrowings.{narrow_end, narrow_turn}
use Rattle.hk_prop.proofs.Prunings.{same_pruned}
use Rattle.hk_prop.proofs.WorkTables.{groups_first, tables_first}
use Rattle.std.proofs.Common.{All}
use Rattle.hk_prop.proofs.narrowing.narrow.Goals as goal

pub meet_group-requires-clause-declared : goal.meet_group-requires-clause-declared
meet_group-requires-clause-declared c =
    let p = c.args.problem.now in
    let at = c.groups.at in
    let own = c.index-groups-at.result in
    let group_is : own ≡ get_or p.groups at own = c.index-groups-at.is ∙ ap (λ (gs : List PlainGroup). get_or gs at own) c.groups-groups.ensures.groups in
    let within : at < length p.groups = omega (arith, c.groups-test.true, c.groups.auto.at-end, c.requires.one_each) in
    subst (λ (group : PlainGroup). All (λ variable. variable < length c.groups.sets) group.vars) (sym group_is) (group_declared p (length c.groups.sets) c.groups-groups.ensures.valid (c.groups.invariant.long ∙ c.requires.long) at own within)

pub groups-preserved : goal.groups-preserved
groups-preserved c =
    let p = c.args.problem.now in
    let at = c.groups.at in
    let own = c.index-groups-at.result in
    let w = c.index-work-at.result in
    let table : PlainTable = c.work.inside.diagram.table in
    let old = c.args.sets.now in
    let now = c.groups.sets in
    let new = c.meet_group.new.sets in
    let i = c.groups.invariant in
    let group_is : own ≡ get_or p.groups at own = c.index-groups-at.is ∙ ap (λ (gs : List PlainGroup). get_or gs at own) c.groups-groups.ensures.groups in
    let within : at < length p.groups = omega (arith, c.groups-test.true, c.groups.auto.at-end, c.requires.one_each) in
    let inside : at < length c.args.work.now = omega (arith, c.groups-test.true, c.groups.auto.at-end) in
    let table_is : table ≡ w.diagram.table = ap (λ (v : WorkView). v.diagram.table) c.work.view_is in
    record {
      long = c.in_ok-meet_group.ensures.long ∙ i.long;
      small = c.in_ok-meet_group.ensures.small;
      same = narrow_turn p.domains p.groups (tables_of c.args.work.now) at own table (groups_first p.groups at own within group_is) (tables_first c.args.work.now at w table inside c.index-work-at.is table_is) old now new i.long
          (subst (λ (model : List ℕ). (x value : ℕ) → x < length now → Has (slice_index new x) value ↔ (Has (slice_index now x) value × (allows model own table x value ≡ true))) c.domains-model.ensures.domains c.in_ok-meet_group.ensures.met)
          i.same;
    }

pub returns-clause-narrow : goal.returns-clause-narrow
returns-clause-narrow c =
    let p = c.args.problem.now in
    let tables = tables_of c.args.work.now in
    let old = c.args.sets.now in
    let now = c.groups.sets in
    let i = c.groups.invariant in
    same_pruned (all_allow p.domains p.groups tables) 0 old now i.long i.small (λ k value within low.
    let same : k ≡ 0 + k = omega arith in
    subst (λ n. Has (slice_index now k) value ↔ (Has (slice_index old k) value × (all_allow p.domains p.groups tables n value ≡ true))) same
    (narrow_end p.domains p.groups tables c.groups.at old now (omega (arith, c.groups-test.false, c.requires.one_each)) i.same k value within))
