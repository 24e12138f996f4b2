use Rattle.std.proofs.Common.{◌↔◌, ◌+◌, ◌≤◌, ◌<◌, List, ℕ, IsTrue, get_or, refl, subst, arith}
use Rattle.std.specs.List.{Contains}
use Rattle.hk_arena.proofs.FromRows.{has_row}
use Rattle.hk_arena.proofs.RowWrites.{row_from}
use Rattle.hk_arena.specs.Forms.{bits_at}
use Rattle.hk_arena.proofs.from.is_from.Goals as goal

pub returns-then-old-ge256 : goal.returns-then-old-ge256
returns-then-old-ge256 c =
    let form = c.args.layout.now in
    let content = c.args.store.now.content in
    let place = bits_at form c.args.row.layer c.args.row.at in
    let from = row_from form content c.args.row (get_or content.bits place 0) (get_or content.bits (place + 1) 0) c.requires.kept c.requires.row refl refl in (
      λ yes. cc,
      λ contains.
          let has = (has_row _ c.args.old).1 (subst (λ rows. Contains rows c.args.old) from contains) in
          let above : 256 ≤ c.args.old = c.if-old-ge256.true in
          absurd (omega (arith, has.1)),
    )

pub returns : goal.returns
returns c =
    let below : c.args.old < 256 = c.if-old-ge256.false in
    subst (λ (rows : List ℕ). IsTrue c.has.result ↔ Contains rows c.args.old) c.read_from.ensures
    (λ yes. (has_row c.read_from.result c.args.old).0 (c.has.ensures.0 yes, below), λ contains. c.has.ensures.1 ((has_row c.read_from.result c.args.old).1 contains).0)
