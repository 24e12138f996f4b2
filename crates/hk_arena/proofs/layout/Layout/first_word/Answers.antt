use Rattle.std.proofs.Common.{arith}
use Rattle.hk_arena.proofs.Layouts.{layers_of, seen, first_word_is}
use Rattle.hk_arena.proofs.layout.Layout.first_word.Goals as goal

pub index-requires : goal.index-requires
index-requires c =
    let is = seen c.self.invariant c.self.view_is in
    omega (arith, layers_of is, c.self.inside.words.ok)

pub overflow_add-result : goal.overflow_add-result
overflow_add-result c =
    let is = seen c.self.invariant c.self.view_is in
    omega (arith, first_word_is is c.requires c.index.ensures c.value_count.ensures)

pub overflow_mul-result : goal.overflow_mul-result
overflow_mul-result c =
    let is = seen c.self.invariant c.self.view_is in
    omega (arith, first_word_is is c.requires c.index.ensures c.value_count.ensures)

pub overflow_add-result-2 : goal.overflow_add-result-2
overflow_add-result-2 c =
    let is = seen c.self.invariant c.self.view_is in
    omega (arith, first_word_is is c.requires c.index.ensures c.value_count.ensures)

pub returns-clause-place : goal.returns-clause-place
returns-clause-place c =
    let is = seen c.self.invariant c.self.view_is in
    (first_word_is is c.requires c.index.ensures c.value_count.ensures).is

pub returns-clause-fits : goal.returns-clause-fits
returns-clause-fits c =
    let is = seen c.self.invariant c.self.view_is in
    (first_word_is is c.requires c.index.ensures c.value_count.ensures).fits
