use Rattle.std.proofs.Common.{◌∙◌, sym, ap, ◌-◌, List, ℕ, arith}
use Rattle.std.specs.Prelude.{bytes_eq}
use Rattle.hk_base.proofs.InputLaws.{told_of-last}
use Rattle.hk_base.proofs.inputs.open_last.Goals as goal

pub returns-then-eq-clause-told : goal.returns-then-eq-clause-told
returns-then-eq-clause-told c =
    let equal = ap (λ (bytes : List ℕ). bytes_eq bytes c.args.name.now) (sym c.as_slice.ensures) ∙ sym c.eq.ensures ∙ c.if-eq.true in
    sym (c.inputs.invariant.1 ∙ told_of-last _ c.inputs.input (c.inputs.input - 1) _ _ (omega arith) (omega arith) equal)
