use Rattle.std.proofs.Common.{◌≡◌, ◌≢◌, ◌<◌, [], ◌∷◌, ◌++◌, length, reverse, get_or, sym, ◌∙◌, ap, arith}
use Rattle.std.proofs.lemmas.List.{length-reverse, reverse-append}
use Rattle.hk_trail.specs.declared.saved.Saved.{Saved}
use Rattle.hk_trail.specs.Levels.{PoolLevels}
use Rattle.hk_trail.proofs.Levelling.{length-stack, saved_contents-note}
use Rattle.hk_trail.proofs.Marking.{stamp_at, read-closed, read-noted, entries-le, logged_places-note, logged_places-noted, IsKept-note}
use Rattle.hk_trail.specs.Places.{on_highest, with_place}
use Rattle.hk_trail.proofs.track.Track.note.Goals as goal

pub returns-then-stamp-level-clause-written : goal.returns-then-stamp-level-clause-written
returns-then-stamp-level-clause-written g c =
    let content = ap (λ (v : PoolLevels g.row.T.Denot). v.content) c.self.view_is in
    let written = ap (λ (v : PoolLevels g.row.T.Denot). v.written) c.self.view_is in
    let level : c.len-level.result ≡ length c.self.inside.below.items = omega (arith, c.len-level.ensures, c.self.inside.below.ok) in
    let within : c.args.id < length c.self.inside.cells = omega (arith, ap length content, c.requires) in
    let stamp = stamp_at c.self.inside.stamps.items c.place-at.result c.args.id c.index-stamp.result.now (omega (arith, within, c.self.invariant.stamped)) c.place-at.ensures c.index-stamp.ensures in
    sym written ∙ (logged_places-noted _ _ _ _ c.args.id c.self.invariant.marks (sym stamp ∙ (c.if-stamp-level.true ∙ (level ∙ sym (length-reverse c.self.inside.below.items)))) ∙ ap (on_highest (with_place c.args.id)) written)

pub overflow_add-self : goal.overflow_add-self
overflow_add-self g c =
    omega (arith, entries-le _ _ _ _ c.self.invariant.marks, length-reverse c.self.inside.log.items, c.self.inside.log.ok, c.self.inside.log.small)

pub invariant_of-self-2 : goal.invariant_of-self-2
invariant_of-self-2 g c =
    let content = ap (λ (v : PoolLevels g.row.T.Denot). v.content) c.self.view_is in
    let level : c.len-level.result ≡ length c.self.inside.below.items = omega (arith, c.len-level.ensures, c.self.inside.below.ok) in
    let within : c.args.id < length c.self.inside.cells = omega (arith, ap length content, c.requires) in
    let stamp = stamp_at c.self.inside.stamps.items c.place-at.result c.args.id c.index-stamp.result.now (omega (arith, within, c.self.invariant.stamped)) c.place-at.ensures c.index-stamp.ensures in
    let other : get_or c.self.inside.stamps.items c.args.id 0 ≢ length c.self.inside.below.items = λ same. c.if-stamp-level.false (stamp ∙ (same ∙ sym level)) in
    let entry : Saved g.row.T.Denot = record { id = c.args.id; value = c.get-value.result; stamp = c.index-stamp.result.now } in
    let items : c.push_reserved.new.self.items ≡ c.self.inside.log.items ++ entry ∷ [] = c.push_reserved.ensures.items ∙ ap (λ l. l ++ entry ∷ []) c.reserve.ensures.items in
    rw (items, c.place-at.ensures, level) (IsKept-note _ _ entry _ _ _ c.self.invariant within other stamp)

pub returns-clause-stack : goal.returns-clause-stack
returns-clause-stack g c =
    let stack = ap (λ (v : PoolLevels g.row.T.Denot). v.stack) c.self.view_is in
    let entry : Saved g.row.T.Denot = record { id = c.args.id; value = c.get-value.result; stamp = c.index-stamp.result.now } in
    let items : c.push_reserved.new.self.items ≡ c.self.inside.log.items ++ entry ∷ [] = c.push_reserved.ensures.items ∙ ap (λ l. l ++ entry ∷ []) c.reserve.ensures.items in
    rw (items, reverse-append c.self.inside.log.items (entry ∷ [])) (saved_contents-note _ _ entry _ _ (c.get-value.ensures _) ∙ stack)

pub returns-clause-written : goal.returns-clause-written
returns-clause-written g c =
    let content = ap (λ (v : PoolLevels g.row.T.Denot). v.content) c.self.view_is in
    let written = ap (λ (v : PoolLevels g.row.T.Denot). v.written) c.self.view_is in
    let level : c.len-level.result ≡ length c.self.inside.below.items = omega (arith, c.len-level.ensures, c.self.inside.below.ok) in
    let within : c.args.id < length c.self.inside.cells = omega (arith, ap length content, c.requires) in
    let stamp = stamp_at c.self.inside.stamps.items c.place-at.result c.args.id c.index-stamp.result.now (omega (arith, within, c.self.invariant.stamped)) c.place-at.ensures c.index-stamp.ensures in
    let other : get_or c.self.inside.stamps.items c.args.id 0 ≢ length c.self.inside.below.items = λ same. c.if-stamp-level.false (stamp ∙ (same ∙ sym level)) in
    let entry : Saved g.row.T.Denot = record { id = c.args.id; value = c.get-value.result; stamp = c.index-stamp.result.now } in
    let items : c.push_reserved.new.self.items ≡ c.self.inside.log.items ++ entry ∷ [] = c.push_reserved.ensures.items ∙ ap (λ l. l ++ entry ∷ []) c.reserve.ensures.items in
    rw (items, reverse-append c.self.inside.log.items (entry ∷ [])) (logged_places-note _ _ entry _ _ c.self.invariant.marks (λ same. other (same ∙ length-reverse c.self.inside.below.items)) ∙ ap (on_highest (with_place c.args.id)) written)

pub returns-in_err-reserve-clause-closed : goal.returns-in_err-reserve-clause-closed
returns-in_err-reserve-clause-closed g c = λ closed.
    let content = ap (λ (v : PoolLevels g.row.T.Denot). v.content) c.self.view_is in
    let stack = ap (λ (v : PoolLevels g.row.T.Denot). v.stack) c.self.view_is in
    let level : c.len-level.result ≡ length c.self.inside.below.items = omega (arith, c.len-level.ensures, c.self.inside.below.ok) in
    let none : length c.self.inside.below.items ≡ 0 = sym (length-stack c.self.inside.entries c.self.inside.below.items (reverse c.self.inside.log.items) c.self.inside.cells) ∙ (ap length stack ∙ closed) in
    absurd (c.if-stamp-level.false (read-closed _ _ _ _ _ _ c.args.id _ _ c.self.invariant (omega (arith, ap length content, c.requires)) c.place-at.ensures c.index-stamp.ensures level none))

pub returns-clause-closed : goal.returns-clause-closed
returns-clause-closed g c = λ closed.
    let content = ap (λ (v : PoolLevels g.row.T.Denot). v.content) c.self.view_is in
    let stack = ap (λ (v : PoolLevels g.row.T.Denot). v.stack) c.self.view_is in
    let level : c.len-level.result ≡ length c.self.inside.below.items = omega (arith, c.len-level.ensures, c.self.inside.below.ok) in
    let none : length c.self.inside.below.items ≡ 0 = sym (length-stack c.self.inside.entries c.self.inside.below.items (reverse c.self.inside.log.items) c.self.inside.cells) ∙ (ap length stack ∙ closed) in
    absurd (c.if-stamp-level.false (read-closed _ _ _ _ _ _ c.args.id _ _ c.self.invariant (omega (arith, ap length content, c.requires)) c.place-at.ensures c.index-stamp.ensures level none))

pub returns-in_err-reserve-clause-noted : goal.returns-in_err-reserve-clause-noted
returns-in_err-reserve-clause-noted g c = λ noted.
    let content = ap (λ (v : PoolLevels g.row.T.Denot). v.content) c.self.view_is in
    let written = ap (λ (v : PoolLevels g.row.T.Denot). v.written) c.self.view_is in
    let level : c.len-level.result ≡ length c.self.inside.below.items = omega (arith, c.len-level.ensures, c.self.inside.below.ok) in
    let same = written ∙ (noted ∙ ap (on_highest (with_place c.args.id)) (sym written)) in
    absurd (c.if-stamp-level.false (read-noted _ _ _ _ _ _ c.args.id _ _ c.self.invariant (omega (arith, ap length content, c.requires)) c.place-at.ensures c.index-stamp.ensures level same))

pub returns-clause-noted : goal.returns-clause-noted
returns-clause-noted g c = λ noted.
    let content = ap (λ (v : PoolLevels g.row.T.Denot). v.content) c.self.view_is in
    let written = ap (λ (v : PoolLevels g.row.T.Denot). v.written) c.self.view_is in
    let level : c.len-level.result ≡ length c.self.inside.below.items = omega (arith, c.len-level.ensures, c.self.inside.below.ok) in
    let same = written ∙ (noted ∙ ap (on_highest (with_place c.args.id)) (sym written)) in
    absurd (c.if-stamp-level.false (read-noted _ _ _ _ _ _ c.args.id _ _ c.self.invariant (omega (arith, ap length content, c.requires)) c.place-at.ensures c.index-stamp.ensures level same))
