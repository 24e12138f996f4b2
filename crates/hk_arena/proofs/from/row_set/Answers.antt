use Rattle.std.proofs.Common.{◌↔◌, ℕ, List, subst, inl, inr}
use Rattle.std.proofs.lemmas.List.{take_all}
use Rattle.std.specs.List.{Contains}
use Rattle.hk_base.specs.Sets.{Has}
use Rattle.hk_arena.proofs.FromRows.{contains_more}
use Rattle.hk_arena.proofs.from.row_set.Goals as goal

pub loop-at-preserved : goal.loop-at-preserved
loop-at-preserved c = λ row.
    let inserted = c.insert.ensures row in
    let before = c.loop-at.invariant row in
    let more = contains_more c.args.rows.now c.loop-at.at row c.loop-at-test.true in (
      λ has. more.1 (elim (inserted.0 has) [ inl had ↦ inl (before.0 had) | inr same ↦ inr same ]),
      λ contains. inserted.1 (elim (more.0 contains) [ inl had ↦ inl (before.1 had) | inr same ↦ inr same ]),
    )

pub returns : goal.returns
returns c = subst (λ (rows : List ℕ). (row : ℕ) → Has c.loop-at.set row ↔ Contains rows row) (take_all c.loop-at.at c.args.rows.now c.loop-at-test.false) c.loop-at.invariant
