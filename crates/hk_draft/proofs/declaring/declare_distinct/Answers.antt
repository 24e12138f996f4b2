use Rattle.std.proofs.Common.{◌≡◌, ◌<◌, length, map, true≢false, sym, ◌∙◌, subst, rules}
use Rattle.std.specs.List.Sorted.{IsStrictlyIncreasing}
use Rattle.hk_draft.specs.Drafts.{HasGroup}
use Rattle.hk_draft.specs.Faults.{many_differ}
use Rattle.hk_draft.proofs.Rooms.{no_room}
use Rattle.hk_lines.specs.Statements.{Distinct}
use Rattle.hk_draft.proofs.Fitting.{place_fault, distinct_named, distinct_fits}
use Rattle.hk_draft.proofs.declaring.declare_distinct.Goals as goal

pub returns-in_err-scope-clause-err : goal.returns-in_err-scope-clause-err
returns-in_err-scope-clause-err c =
    let fault = place_fault c.args.draft.now (Distinct (map (λ name. name.now) c.args.names.now)) c.in_err-scope.field-0.0 c.in_err-scope.ensures.err in
    search (rules, fault)

pub returns-then-not-has_room-clause-err : goal.returns-then-not-has_room-clause-err
returns-then-not-has_room-clause-err c =
    (no_room tt (λ many. many_differ many) (λ room. true≢false (sym (c.has_room.ensures.1 room) ∙ c.if-not-has_room.true)), distinct_named c.in_ok-scope.scope c.in_ok-scope.ensures.ok)

pub returns-then-not-is_rising-clause-err : goal.returns-then-not-is_rising-clause-err
returns-then-not-is_rising-clause-err c =
    let room : (length c.args.draft.now.constraints < 64) × HasGroup c.args.draft.now = c.has_room.ensures.0 c.if-not-has_room.false in
    let slice : c.as_slice.result.now ≡ c.in_ok-scope.scope = c.as_slice.ensures in (
      record {
        scope = c.in_ok-scope.scope;
        places = c.in_ok-scope.ensures.ok;
        falls = λ rising. true≢false (sym (c.is_rising.ensures.1 (subst IsStrictlyIncreasing (sym slice) rising)) ∙ c.if-not-is_rising.true);
      },
      distinct_named c.in_ok-scope.scope c.in_ok-scope.ensures.ok,
      distinct_fits room.0 room.1,
    )
