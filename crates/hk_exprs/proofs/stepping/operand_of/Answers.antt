use Rattle.std.proofs.Common.{false, subst, refl}
use Rattle.hk_terms.specs.Atoms.{ReadsAtom}
use Rattle.hk_exprs.specs.inside.Machines as machine
use Rattle.hk_terms.specs.NumTexts as nums
use Rattle.hk_terms.specs.SetTexts as sets
use Rattle.hk_exprs.specs.inside.Standing.{kept_word, kept_num, kept_set}
use Rattle.hk_exprs.proofs.OperandsTaken.{one_well}
use Rattle.hk_exprs.proofs.StepsTaken.{number_then}
use Rattle.hk_exprs.proofs.stepping.operand_of.Goals as goal

pub num_literal-requires : goal.num_literal-requires
num_literal-requires c = number_then (subst (λ atom. ReadsAtom c.requires.read.0 atom c.requires.read.1) c.in-Number.is c.requires.read.2)

pub item_named-requires : goal.item_named-requires
item_named-requires c = record { few = c.requires.few }

pub low_named-requires : goal.low_named-requires
low_named-requires c = record { few = c.requires.few }

pub high_named-requires : goal.high_named-requires
high_named-requires c = record { few = c.requires.few }

pub returns-in-Word : goal.returns-in-Word
returns-in-Word c = λ texts rest is. (machine.Word c.in-Word.word.now, subst (λ atom. ReadsAtom texts atom rest) c.in-Word.is is, kept_word)

pub returns-in-Number : goal.returns-in-Number
returns-in-Number c = λ texts rest is. (machine.Num (nums.Number false c.in-Number.digits.now), subst (λ atom. ReadsAtom texts atom rest) c.in-Number.is is, kept_num (c.num_literal.ensures c.args.names.now))

pub returns-in-Item : goal.returns-in-Item
returns-in-Item c = λ texts rest is. (machine.Num (nums.Item c.in-Item.word.now), subst (λ atom. ReadsAtom texts atom rest) c.in-Item.is is, kept_num (c.num_made.ensures c.args.names.now (nums.Item c.in-Item.word.now) refl c.item_named.ensures.some c.item_named.ensures.none))

pub returns-in-Low : goal.returns-in-Low
returns-in-Low c = λ texts rest is. (machine.Num (nums.Low c.in-Low.word.now), subst (λ atom. ReadsAtom texts atom rest) c.in-Low.is is, kept_num (c.num_made-in-Low.ensures c.args.names.now (nums.Low c.in-Low.word.now) refl c.low_named.ensures.some c.low_named.ensures.none))

pub returns-in-High : goal.returns-in-High
returns-in-High c = λ texts rest is. (machine.Num (nums.High c.in-High.word.now), subst (λ atom. ReadsAtom texts atom rest) c.in-High.is is, kept_num (c.num_made-in-High.ensures c.args.names.now (nums.High c.in-High.word.now) refl c.high_named.ensures.some c.high_named.ensures.none))

pub returns-in-One : goal.returns-in-One
returns-in-One c = λ texts rest is. (machine.Set sets.One, subst (λ atom. ReadsAtom texts atom rest) c.in-One.is is, kept_set (one_well c.args.names.now c.leaf.ensures))

pub returns-in-Values : goal.returns-in-Values
returns-in-Values c = λ texts rest is.
    let reads = subst (λ atom. ReadsAtom texts atom rest) c.in-Values.is is in
    (machine.Set (sets.Values reads.numbers), reads.begins, kept_set (c.values_made.ensures c.args.names.now reads.numbers reads.is_made))
