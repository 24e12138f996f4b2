use Rattle.std.proofs.Common.{◌≡◌, ◌+◌, [], ◌∷◌, length, drop, get_or, sym, ap, subst, arith}
use Rattle.std.proofs.lemmas.List.{drop_all, drop_more}
use Rattle.hk_table.proofs.Steps.{SameSteps, TakesIn-all, no_entries, step_passed, step_taken}
use Rattle.hk_table.specs.declared.entries.Entry.TheVariants.{Gone}
use Rattle.hk_table.specs.declared.support.Found.{Found}
use Rattle.hk_table.specs.inside.Reaching.{EntryLeads}
use Rattle.hk_table.proofs.support.row_support.Goals as goal
use Rattle.hk_table.proofs.support.row_support.Goals.{in-Some, in_default}
use Rattle.hk_text.specs.Sets.{members}

pub add-requires-clause-row : goal.add-requires-clause-row
add-requires-clause-row c =
    let live = (c.live.ensures c.in-Some.row).0 c.in-Some.is in
    c.requires.names c.loop-at.at Gone c.loop-at-test.true c.in-Some.row live

pub loop-at-preserved : goal.loop-at-preserved
loop-at-preserved c =
    let entries = c.args.entries.now in
    let at = c.loop-at.at in
    let value = c.split_least-value.result.0 in
    let rest = c.split_least-value.result.1 in
    let old = c.args.found.now in
    let found = c.loop-at.found in
    let entry = get_or entries at Gone in
    let whole = EntryLeads (members c.args.domain) entries in
    let left = EntryLeads (members rest) (drop (at + 1) entries) in
    let values_are = c.split_least-value.ensures.values in
    let entries_are : drop at entries ≡ entry ∷ drop (at + 1) entries = drop_more entries at Gone c.loop-at-test.true in
    let long : length (drop (at + 1) entries) ≡ length (members rest) = omega (arith, ap length entries_are, ap length values_are, c.loop-at.invariant.long) in record {
      long = long;
      steps = elim c.match-live.branch [
        | in-Some w ↦
            subst (λ (f : Found). SameSteps whole left old.values old.rows f.values f.rows) (sym w.found-is)
            (step_taken whole value c.loop-at.left rest entry (drop at entries) (drop (at + 1) entries) old.values old.rows found.values found.rows values_are entries_are c.split_least-value.ensures.gone w.in-Some.row
            w.add.new.self.values w.add.new.self.rows ((c.live.ensures w.in-Some.row).0 w.in-Some.is) w.add.ensures c.loop-at.invariant.steps)
        | in_default w ↦
            subst (λ (f : Found). SameSteps whole left old.values old.rows f.values f.rows) (sym w.found-is)
            (step_passed whole value c.loop-at.left rest entry (drop at entries) (drop (at + 1) entries) old.values old.rows found.values found.rows values_are entries_are c.split_least-value.ensures.gone
            (λ next live. w.in_default.not-Some next ((c.live.ensures next).1 live)) c.loop-at.invariant.steps)
      ];
    }

pub returns : goal.returns
returns c =
    let entries = c.args.entries.now in
    let whole = EntryLeads (members c.args.domain) entries in
    let old = c.args.found.now in
    let found = c.loop-at.found in
    let none = drop_all c.loop-at.at entries c.loop-at-test.false in
    TakesIn-all whole (EntryLeads (members c.loop-at.left) []) old.values old.rows found.values found.rows
    (subst (λ es. SameSteps whole (EntryLeads (members c.loop-at.left) es) old.values old.rows found.values found.rows) none c.loop-at.invariant.steps)
    (no_entries (members c.loop-at.left))
