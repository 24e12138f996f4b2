use Rattle.std.proofs.Common.{◌≡◌, ◌⊎◌, inl, inr, None, refl, sym, subst}
use Rattle.hk_exprs.proofs.KeepingBoth.{ok_then}
use Rattle.hk_terms.specs.CondTexts as conds
use Rattle.hk_exprs.specs.inside.Machines as machine
use Rattle.hk_exprs.specs.inside.Making.{set_operation, num_operation, comparison, asks_both}
use Rattle.hk_terms.specs.NumTexts as nums
use Rattle.hk_terms.specs.SetTexts as sets
use Rattle.hk_exprs.specs.inside.Standing.{BothOrNone, IsKept, neither}
use Rattle.hk_terms.specs.declared.marks.Mark.{Mark}
use Rattle.hk_terms.specs.declared.marks.Mark.TheVariants as mark
use Rattle.hk_exprs.proofs.joining.joined.Goals as goal

sets_mark : (m : Mark) → ((m ≡ mark.Union) ⊎ ((m ≡ mark.Common) ⊎ (m ≡ mark.Without))) → (x y : machine.Operand) → machine.both (λ p q. machine.Set (sets.Joined (set_operation m) p q)) (machine.as_set x) (machine.as_set y) ≡ machine.joined x m y
sets_mark m (inl is) x y = subst (λ m. machine.both (λ p q. machine.Set (sets.Joined (set_operation m) p q)) (machine.as_set x) (machine.as_set y) ≡ machine.joined x m y) (sym is) refl
sets_mark m (inr (inl is)) x y = subst (λ m. machine.both (λ p q. machine.Set (sets.Joined (set_operation m) p q)) (machine.as_set x) (machine.as_set y) ≡ machine.joined x m y) (sym is) refl
sets_mark m (inr (inr is)) x y = subst (λ m. machine.both (λ p q. machine.Set (sets.Joined (set_operation m) p q)) (machine.as_set x) (machine.as_set y) ≡ machine.joined x m y) (sym is) refl

nums_mark : (m : Mark) → ((m ≡ mark.Plus) ⊎ ((m ≡ mark.Minus) ⊎ (m ≡ mark.Times))) → (x y : machine.Operand) → machine.both (λ p q. machine.Num (nums.Joined (num_operation m) p q)) (machine.as_num x) (machine.as_num y) ≡ machine.joined x m y
nums_mark m (inl is) x y = subst (λ m. machine.both (λ p q. machine.Num (nums.Joined (num_operation m) p q)) (machine.as_num x) (machine.as_num y) ≡ machine.joined x m y) (sym is) refl
nums_mark m (inr (inl is)) x y = subst (λ m. machine.both (λ p q. machine.Num (nums.Joined (num_operation m) p q)) (machine.as_num x) (machine.as_num y) ≡ machine.joined x m y) (sym is) refl
nums_mark m (inr (inr is)) x y = subst (λ m. machine.both (λ p q. machine.Num (nums.Joined (num_operation m) p q)) (machine.as_num x) (machine.as_num y) ≡ machine.joined x m y) (sym is) refl

compared_mark : (m : Mark) → ((m ≡ mark.AtMost) ⊎ ((m ≡ mark.Below) ⊎ ((m ≡ mark.AtLeast) ⊎ ((m ≡ mark.Above) ⊎ (m ≡ mark.Equal))))) → (x y : machine.Operand) → machine.both (λ p q. machine.Cond (conds.Compared (comparison m) p q)) (machine.as_num x) (machine.as_num y) ≡ machine.joined x m y
compared_mark m (inl is) x y = subst (λ m. machine.both (λ p q. machine.Cond (conds.Compared (comparison m) p q)) (machine.as_num x) (machine.as_num y) ≡ machine.joined x m y) (sym is) refl
compared_mark m (inr (inl is)) x y = subst (λ m. machine.both (λ p q. machine.Cond (conds.Compared (comparison m) p q)) (machine.as_num x) (machine.as_num y) ≡ machine.joined x m y) (sym is) refl
compared_mark m (inr (inr (inl is))) x y = subst (λ m. machine.both (λ p q. machine.Cond (conds.Compared (comparison m) p q)) (machine.as_num x) (machine.as_num y) ≡ machine.joined x m y) (sym is) refl
compared_mark m (inr (inr (inr (inl is)))) x y = subst (λ m. machine.both (λ p q. machine.Cond (conds.Compared (comparison m) p q)) (machine.as_num x) (machine.as_num y) ≡ machine.joined x m y) (sym is) refl
compared_mark m (inr (inr (inr (inr is)))) x y = subst (λ m. machine.both (λ p q. machine.Cond (conds.Compared (comparison m) p q)) (machine.as_num x) (machine.as_num y) ≡ machine.joined x m y) (sym is) refl

conds_mark : (m : Mark) → ((m ≡ mark.And) ⊎ (m ≡ mark.Or)) → (x y : machine.Operand) → machine.both (λ p q. machine.Cond (conds.Joined (asks_both m) p q)) (machine.as_cond x) (machine.as_cond y) ≡ machine.joined x m y
conds_mark m (inl is) x y = subst (λ m. machine.both (λ p q. machine.Cond (conds.Joined (asks_both m) p q)) (machine.as_cond x) (machine.as_cond y) ≡ machine.joined x m y) (sym is) refl
conds_mark m (inr is) x y = subst (λ m. machine.both (λ p q. machine.Cond (conds.Joined (asks_both m) p q)) (machine.as_cond x) (machine.as_cond y) ≡ machine.joined x m y) (sym is) refl

pub nums_between-requires : goal.nums_between-requires
nums_between-requires c = c.requires

pub nums_compared-requires : goal.nums_compared-requires
nums_compared-requires c = c.requires

pub returns-in-Union : goal.returns-in-Union
returns-in-Union c = ok_then _ _ c.sets_between.result c.sets_between.ensures (λ made is x y h k. subst (λ z. BothOrNone (IsKept c.args.names.now) z made) (sets_mark c.args.mark c.in-Union.is x y) (is x y h k))

pub returns-in-Plus : goal.returns-in-Plus
returns-in-Plus c = ok_then _ _ c.nums_between.result c.nums_between.ensures (λ made is x y h k. subst (λ z. BothOrNone (IsKept c.args.names.now) z made) (nums_mark c.args.mark c.in-Plus.is x y) (is x y h k))

pub returns-in-AtMost : goal.returns-in-AtMost
returns-in-AtMost c = ok_then _ _ c.nums_compared.result c.nums_compared.ensures (λ made is x y h k. subst (λ z. BothOrNone (IsKept c.args.names.now) z made) (compared_mark c.args.mark c.in-AtMost.is x y) (is x y h k))

pub returns-in-And : goal.returns-in-And
returns-in-And c = ok_then _ _ c.conds_between.result c.conds_between.ensures (λ made is x y h k. subst (λ z. BothOrNone (IsKept c.args.names.now) z made) (conds_mark c.args.mark c.in-And.is x y) (is c.args.names.now x y h k))

pub returns-in-In : goal.returns-in-In
returns-in-In c = ok_then _ _ c.member_of.result c.member_of.ensures (λ made is x y h k. subst (λ m. BothOrNone (IsKept c.args.names.now) (machine.joined x m y) made) (sym c.in-In.is) (is x y h k))

pub returns-in-NotIn : goal.returns-in-NotIn
returns-in-NotIn c = ok_then _ _ c.member_of-in-NotIn.result c.member_of-in-NotIn.ensures (λ made is x y h k. subst (λ m. BothOrNone (IsKept c.args.names.now) (machine.joined x m y) made) (sym c.in-NotIn.is) (is x y h k))

pub returns-in-Sub : goal.returns-in-Sub
returns-in-Sub c = ok_then _ _ c.subset_between.result c.subset_between.ensures (λ made is x y h k. subst (λ m. BothOrNone (IsKept c.args.names.now) (machine.joined x m y) made) (sym c.in-Sub.is) (is x y h k))

pub returns-in-Comma : goal.returns-in-Comma
returns-in-Comma c = λ x y h k. subst (λ m. BothOrNone (IsKept c.args.names.now) (machine.joined x m y) None) (sym c.in-Comma.is) neither
