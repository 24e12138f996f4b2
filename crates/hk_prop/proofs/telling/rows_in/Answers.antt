use Rattle.std.proofs.Common.{◌≡◌, ℕ, ◌==◌, ◌++◌, ◌∷◌, [], List, true, false, inl, inr, arith, sym, ap, ◌∙◌, subst}
use Rattle.std.specs.Int.{bit_at}
use Rattle.std.proofs.lemmas.Bool.{cases_Bool, eqb-true, eq-eqb}
use Rattle.hk_text.proofs.Members.{members_below_none, members_below_one}
use Rattle.hk_text.specs.Sets.{members_below}
use Rattle.hk_prop.proofs.telling.rows_in.Goals as goal
use Rattle.hk_prop.proofs.telling.rows_in.Goals.{then-has+in_ok-push, else-has}

pub rows-preserved : goal.rows-preserved
rows-preserved c =
    let set = c.args.set.now in
    let row = c.rows.row in
    elim c.if-has.branch [
      | then-has+in_ok-push w ↦
          w.rows-is ∙ (w.in_ok-push.ensures.ok ∙ (ap (λ (rows : List ℕ). rows ++ row ∷ []) c.rows.invariant ∙ sym (members_below_one set row (eq-eqb (bit_at set row) 1 (c.has.ensures.0 w.if-has.true)))))
      | else-has w ↦
          let lacks : (bit_at set row == 1) ≡ false = elim (cases_Bool (bit_at set row == 1)) [
            | inl is ↦ let told = c.has.ensures.1 (eqb-true (bit_at set row) 1 is) in let no : false ≡ true = sym w.if-has.false ∙ told in cc
            | inr isnt ↦ isnt
          ] in
          w.rows-is ∙ (c.rows.invariant ∙ sym (members_below_none set row lacks))
    ]

all_rows : (rows : List ℕ) (set n most : ℕ) → n ≡ most → rows ≡ members_below set n → rows ≡ members_below set most
all_rows rows set n most same is = subst (λ m. rows ≡ members_below set m) same is

pub returns : goal.returns
returns c = all_rows c.rows.rows c.args.set.now c.rows.row 256 (omega (arith, c.rows-test.false, c.rows.auto.row-end)) c.rows.invariant
