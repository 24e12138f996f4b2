use Rattle.std.proofs.Common.{◌≡◌, ◌+◌, ◌<◌, [], ◌∷◌, length, drop, get_or, sym, ◌∙◌, ap, subst, arith, length-drop}
use Rattle.std.proofs.lemmas.List.{drop_all, drop_more}
use Rattle.hk_table.proofs.Steps.{SameSteps, SameSteps-refl, TakesIn-all, no_entries, step_passed, step_taken}
use Rattle.hk_table.specs.declared.entries.Entry.TheVariants.{Gone}
use Rattle.hk_table.specs.declared.support.Found.{Found}
use Rattle.hk_table.specs.inside.Reaching.{EntryLeads}
use Rattle.hk_text.specs.Sets.{members}
use Rattle.hk_arena.proofs.SupportSteps.{row_long, rows_few}
use Rattle.hk_arena.specs.Diagrams.{row_in, values_of}
use Rattle.hk_arena.specs.Cells.{table_of}
use Rattle.hk_arena.proofs.support.row_support.Goals as goal
use Rattle.hk_arena.proofs.support.row_support.Goals.{in-Some, in_default}

pub loop-at-init : goal.loop-at-init
loop-at-init c =
    let form = c.args.layout.now in
    let content = c.args.store.now.content in
    let row = c.args.row in
    let entries = (row_in (table_of form content) row).entries in
    let found = c.args.found.now in
    let whole = EntryLeads (values_of form.shape row.layer) entries in record {
      long = row_long form content row c.requires.kept c.requires.row ∙ sym (ap length c.domain-left.ensures.values);
      steps = subst (λ values. SameSteps whole (EntryLeads values entries) found.values found.rows found.values found.rows) (sym c.domain-left.ensures.values) (SameSteps-refl whole found.values found.rows);
    }

pub split_least-value-requires : goal.split_least-value-requires
split_least-value-requires c =
    let entries = (row_in (table_of c.args.layout.now c.args.store.now.content) c.args.row).entries in
    let long = row_long c.args.layout.now c.args.store.now.content c.args.row c.requires.kept c.requires.row in
    omega (arith, c.loop-at.invariant.long, length-drop c.loop-at.at entries, c.values-at-end.ensures)

pub add-requires-clause-row : goal.add-requires-clause-row
add-requires-clause-row c =
    let layer = c.args.row.layer in
    let live = (c.live.ensures c.in-Some.next).0 c.in-Some.is in
    let place : c.loop-at.at < length (values_of c.args.layout.now.shape layer) = omega (arith, c.values-at-end.ensures) in
    let there = c.requires.live (record { row = c.args.row; at = c.loop-at.at }) c.in-Some.next (record { row = c.requires.row; layer = c.requires.layer; place = place }) (sym c.read_entry.ensures ∙ live) in
    omega (arith, rows_few c.args.layout.now c.args.store.now.content (layer + 1) c.requires.kept c.know.ensures)

pub loop-at-preserved : goal.loop-at-preserved
loop-at-preserved c =
    let form = c.args.layout.now in
    let entries = (row_in (table_of form c.args.store.now.content) c.args.row).entries in
    let at = c.loop-at.at in
    let value = c.split_least-value.result.0 in
    let rest = c.split_least-value.result.1 in
    let old = c.args.found.now in
    let found = c.loop-at.found in
    let entry = get_or entries at Gone in
    let whole = EntryLeads (values_of form.shape c.args.row.layer) entries in
    let left = EntryLeads (members rest) (drop (at + 1) entries) in
    let values_are = c.split_least-value.ensures.values in
    let within : at < length entries = omega (arith, row_long form c.args.store.now.content c.args.row c.requires.kept c.requires.row, c.values-at-end.ensures) in
    let entries_are : drop at entries ≡ entry ∷ drop (at + 1) entries = drop_more entries at Gone within in
    let long : length (drop (at + 1) entries) ≡ length (members rest) = omega (arith, ap length entries_are, ap length values_are, c.loop-at.invariant.long) in record {
      long = long;
      steps = elim c.match-live.branch [
        | in-Some w ↦
            subst (λ (f : Found). SameSteps whole left old.values old.rows f.values f.rows) (sym w.found-is)
            (step_taken whole value c.loop-at.left rest entry (drop at entries) (drop (at + 1) entries) old.values old.rows found.values found.rows values_are entries_are c.split_least-value.ensures.gone w.in-Some.next
            w.add.new.self.values w.add.new.self.rows (sym c.read_entry.ensures ∙ (c.live.ensures w.in-Some.next).0 w.in-Some.is) w.add.ensures c.loop-at.invariant.steps)
        | in_default w ↦
            subst (λ (f : Found). SameSteps whole left old.values old.rows f.values f.rows) (sym w.found-is)
            (step_passed whole value c.loop-at.left rest entry (drop at entries) (drop (at + 1) entries) old.values old.rows found.values found.rows values_are entries_are c.split_least-value.ensures.gone
            (λ next live. w.in_default.not-Some next ((c.live.ensures next).1 (c.read_entry.ensures ∙ live))) c.loop-at.invariant.steps)
      ];
    }

pub returns : goal.returns
returns c =
    let form = c.args.layout.now in
    let entries = (row_in (table_of form c.args.store.now.content) c.args.row).entries in
    let whole = EntryLeads (values_of form.shape c.args.row.layer) entries in
    let old = c.args.found.now in
    let found = c.loop-at.found in
    let none = drop_all c.loop-at.at entries (omega (arith, row_long form c.args.store.now.content c.args.row c.requires.kept c.requires.row, c.values-at-end.ensures)) in
    TakesIn-all whole (EntryLeads (members c.loop-at.left) []) old.values old.rows found.values found.rows
    (subst (λ es. SameSteps whole (EntryLeads (members c.loop-at.left) es) old.values old.rows found.values found.rows) none c.loop-at.invariant.steps)
    (no_entries (members c.loop-at.left))
