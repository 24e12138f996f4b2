use Rattle.std.proofs.Common.{◌≡◌, List, ℕ, map, Bor, Some, OnOk, sym, subst, rules}
use Rattle.std.proofs.lemmas.Result.{on_ok_weaker}
use Rattle.hk_lines.specs.declared.phrases.Values.{Values}
use Rattle.hk_lines.specs.declared.phrases.Term.{Term}
use Rattle.hk_lines.specs.declared.shapes.Shape.TheVariants.{Start, Variable, Distinct, Among, Sequence, Gcc, Total, Objective, NewGroup}
use Rattle.hk_lines.specs.Plain.{values_of, plain_counting, rows_of}
use Rattle.hk_draft.specs.inside.Fits.{AddsDistinct, AddsAmong, AddsSequence, AddsGcc, AddsTotal, AddsLeast}
use Rattle.hk_lines.specs.Statements.{Header, NewGroup as GroupStatement}
use Rattle.hk_draft.specs.Declares.{AddsVariable, Declares, declares_header, declares_variable, declares_group}
use Rattle.hk_draft.specs.Drafts.{PlainDraft}
use Rattle.hk_lines.specs.declared.counts.Row.{Row}
use Rattle.hk_draft.proofs.CountFitting.{among_declares, sequence_declares, gcc_declares}
use Rattle.hk_draft.proofs.Fitting.{distinct_declares, total_declares, objective_declares, declares_at}
use Rattle.hk_draft.proofs.declaring.declare.Goals as goal

pub returns-in-Start-clause-ok : goal.returns-in-Start-clause-ok
returns-in-Start-clause-ok c = on_ok_weaker c.start.result (λ both.
    declares_at Start both.0 c.in-Start.is (subst (Declares _ Header) (sym both.1) declares_header)) c.start.ensures.ok

pub returns-in-Some-clause-ok : goal.returns-in-Some-clause-ok
returns-in-Some-clause-ok c =
    let slice : c.as_slice.result.now ≡ c.in-Variable.set = c.as_slice.ensures in
    on_ok_weaker c.declare_variable.result (λ adds.
    declares_at (Variable c.in-Variable.name c.in-Variable.set) c.in-Some.is c.in-Variable.is (declares_variable
    (subst (λ (set : List Values). AddsVariable c.in-Variable.name.now (values_of set) c.in-Some.draft c.declare_variable.new.draft) slice adds))) c.declare_variable.ensures.ok

pub returns-in-Some-draft-clause-ok : goal.returns-in-Some-draft-clause-ok
returns-in-Some-draft-clause-ok c =
    let slice : c.as_slice-in-Some-draft.result.now ≡ c.in-Distinct.names = c.as_slice-in-Some-draft.ensures in
    on_ok_weaker c.declare_distinct.result (λ adds.
    declares_at (Distinct c.in-Distinct.names) c.in-Some-draft.is c.in-Distinct.is (distinct_declares
    (subst (λ (names : List (Bor (List ℕ))). AddsDistinct (map (λ name. name.now) names) c.in-Some-draft.draft c.declare_distinct.new.draft) slice adds))) c.declare_distinct.ensures.ok

pub returns-in-Some-draft-2-clause-ok : goal.returns-in-Some-draft-2-clause-ok
returns-in-Some-draft-2-clause-ok c =
    let ok : OnOk c.declare_among.result (AddsAmong (plain_counting c.in-Among.counting) c.in-Some-draft-2.draft c.declare_among.new.draft) = search (rules) in
    on_ok_weaker c.declare_among.result (λ adds. declares_at (Among c.in-Among.counting) c.in-Some-draft-2.is c.in-Among.is (among_declares adds)) ok

pub returns-in-Some-draft-3-clause-ok : goal.returns-in-Some-draft-3-clause-ok
returns-in-Some-draft-3-clause-ok c =
    let ok : OnOk c.declare_sequence.result (AddsSequence c.in-Sequence.window (plain_counting c.in-Sequence.counting) c.in-Some-draft-3.draft c.declare_sequence.new.draft) = search (rules) in
    on_ok_weaker c.declare_sequence.result (λ adds. declares_at (Sequence c.in-Sequence.window c.in-Sequence.counting) c.in-Some-draft-3.is c.in-Sequence.is (sequence_declares adds)) ok

pub returns-in-Some-draft-4-clause-ok : goal.returns-in-Some-draft-4-clause-ok
returns-in-Some-draft-4-clause-ok c =
    let names : c.as_slice-in-Some-draft-4.result.now ≡ c.in-Gcc.names = c.as_slice-in-Some-draft-4.ensures in
    let rows : c.as_slice-in-Some-draft-4-2.result.now ≡ c.in-Gcc.rows = c.as_slice-in-Some-draft-4-2.ensures in
    on_ok_weaker c.declare_gcc.result (λ adds.
    declares_at (Gcc c.in-Gcc.names c.in-Gcc.rows) c.in-Some-draft-4.is c.in-Gcc.is (gcc_declares
    (subst (λ (texts : List (Bor (List ℕ))). AddsGcc (map (λ name. name.now) texts) (rows_of c.in-Gcc.rows) c.in-Some-draft-4.draft c.declare_gcc.new.draft) names
    (subst (λ (read : List Row). AddsGcc (map (λ name. name.now) c.as_slice-in-Some-draft-4.result.now) (rows_of read) c.in-Some-draft-4.draft c.declare_gcc.new.draft) rows adds)))) c.declare_gcc.ensures.ok

pub returns-in-Some-draft-5-clause-ok : goal.returns-in-Some-draft-5-clause-ok
returns-in-Some-draft-5-clause-ok c =
    let slice : c.as_slice-in-Some-draft-5.result.now ≡ c.in-Total.terms = c.as_slice-in-Some-draft-5.ensures in
    let ok : OnOk c.declare_total.result (AddsTotal c.as_slice-in-Some-draft-5.result.now c.in-Total.least c.in-Total.most c.in-Some-draft-5.draft c.declare_total.new.draft) = search (rules) in
    on_ok_weaker c.declare_total.result (λ adds.
    declares_at (Total c.in-Total.terms c.in-Total.least c.in-Total.most) c.in-Some-draft-5.is c.in-Total.is (total_declares c.in-Total.terms
    (subst (λ (terms : List Term). AddsTotal terms c.in-Total.least c.in-Total.most c.in-Some-draft-5.draft c.declare_total.new.draft) slice adds))) ok

pub returns-in-Some-draft-6-clause-ok : goal.returns-in-Some-draft-6-clause-ok
returns-in-Some-draft-6-clause-ok c =
    let slice : c.as_slice-in-Some-draft-6.result.now ≡ c.in-Objective.terms = c.as_slice-in-Some-draft-6.ensures in
    on_ok_weaker c.declare_objective.result (λ adds.
    declares_at (Objective c.in-Objective.terms) c.in-Some-draft-6.is c.in-Objective.is (objective_declares c.in-Objective.terms
    (subst (λ (terms : List Term). AddsLeast terms c.in-Some-draft-6.draft c.declare_objective.new.draft) slice adds))) c.declare_objective.ensures.ok

pub returns-in-Some-draft-7-clause-ok : goal.returns-in-Some-draft-7-clause-ok
returns-in-Some-draft-7-clause-ok c = declares_at NewGroup c.in-Some-draft-7.is c.in-NewGroup.is
    (subst (λ (draft : PlainDraft). Declares (Some c.in-Some-draft-7.draft) GroupStatement (Some draft)) (sym c.begin_group.ensures) declares_group)
