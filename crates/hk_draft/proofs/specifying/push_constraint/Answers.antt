use Rattle.std.proofs.Common.{◌≡◌, ◌≤◌, length, ap, subst, sym, ◌∙◌, rules}
use Rattle.std.proofs.lemmas.Result.{on_ok_weaker}
use Rattle.hk_spec.specs.Library.{alldifferent_bound, among_bound, sequence_bound, sum_bound}
use Rattle.hk_group.specs.Composed.{parts_of}
use Rattle.hk_group.specs.declared.problem.Constraint.TheVariants.{AllDifferent, Among, Sequence, Sum, User}
use Rattle.hk_draft.proofs.OneParts.{one_part, row_parts, alldifferent_parts, among_parts, sequence_parts, sum_parts, user_parts, coefs_few}
use Rattle.hk_draft.proofs.specifying.push_constraint.Goals as goal

pub sum-requires-clause-few : goal.sum-requires-clause-few
sum-requires-clause-few c =
    subst (λ n. n ≤ 256) (ap length (sym c.as_slice-in-Sum.ensures)) (coefs_few c.args.constraint.now c.in-Sum.scope c.in-Sum.coefs c.in-Sum.least c.in-Sum.most c.in-Sum.is c.requires.small)

pub returns-in-Gcc-clause-parts : goal.returns-in-Gcc-clause-parts
returns-in-Gcc-clause-parts c =
    on_ok_weaker c.push_rows.result (row_parts _ (parts_of c.args.specs.now c.args.scopes.now) c.args.constraint.now c.in-Gcc.scope c.as_slice.result.now c.in-Gcc.rows c.as_slice-in-Gcc.result.now
    c.in-Gcc.is c.as_slice.ensures c.as_slice-in-Gcc.ensures) c.push_rows.ensures.parts

pub returns-in_ok-bound-in-AllDifferent-clause-parts : goal.returns-in_ok-bound-in-AllDifferent-clause-parts
returns-in_ok-bound-in-AllDifferent-clause-parts c =
    let count : c.variable_count.result ≡ length c.in-AllDifferent.scope = c.variable_count.ensures ∙ ap length c.as_slice-in-AllDifferent.ensures in
    on_ok_weaker c.push_part.result (one_part _ (parts_of c.args.specs.now c.args.scopes.now) c.args.constraint.now (AllDifferent c.in-AllDifferent.scope) c.in-AllDifferent.scope c.as_slice-in-AllDifferent-2.result.now
    c.in_ok-bound-in-AllDifferent.bound (alldifferent_bound (length c.in-AllDifferent.scope)) c.in-AllDifferent.is (alldifferent_parts c.in-AllDifferent.scope) c.as_slice-in-AllDifferent-2.ensures
    (c.in_ok-bound-in-AllDifferent.ensures.text ∙ ap alldifferent_bound count)) c.push_part.ensures.parts

pub returns-in_ok-bound-in-Among-clause-parts : goal.returns-in_ok-bound-in-Among-clause-parts
returns-in_ok-bound-in-Among-clause-parts c =
    let a = c.in-Among in
    let count : c.variable_count-count.result ≡ length a.scope = c.variable_count-count.ensures ∙ ap length c.as_slice-in-Among.ensures in
    let text : c.in_ok-bound-in-Among.bound ≡ among_bound c.variable_count-count.result a.set a.least a.most = search (rules) in
    on_ok_weaker c.push_part-in-Among.result (one_part _ (parts_of c.args.specs.now c.args.scopes.now) c.args.constraint.now (Among a.scope a.set a.least a.most) a.scope c.as_slice-in-Among-2.result.now
    c.in_ok-bound-in-Among.bound (among_bound (length a.scope) a.set a.least a.most) a.is (among_parts a.scope a.set a.least a.most) c.as_slice-in-Among-2.ensures
    (text ∙ ap (λ n. among_bound n a.set a.least a.most) count)) c.push_part-in-Among.ensures.parts

pub returns-in_ok-bound-in-Sequence-clause-parts : goal.returns-in_ok-bound-in-Sequence-clause-parts
returns-in_ok-bound-in-Sequence-clause-parts c =
    let s = c.in-Sequence in
    let count : c.variable_count-count-in-Sequence.result ≡ length s.scope = c.variable_count-count-in-Sequence.ensures ∙ ap length c.as_slice-in-Sequence.ensures in
    let text : c.in_ok-bound-in-Sequence.bound ≡ sequence_bound c.variable_count-count-in-Sequence.result s.window s.set s.least s.most = search (rules) in
    on_ok_weaker c.push_part-in-Sequence.result (one_part _ (parts_of c.args.specs.now c.args.scopes.now) c.args.constraint.now (Sequence s.scope s.window s.set s.least s.most) s.scope c.as_slice-in-Sequence-2.result.now
    c.in_ok-bound-in-Sequence.bound (sequence_bound (length s.scope) s.window s.set s.least s.most) s.is (sequence_parts s.scope s.window s.set s.least s.most) c.as_slice-in-Sequence-2.ensures
    (text ∙ ap (λ n. sequence_bound n s.window s.set s.least s.most) count)) c.push_part-in-Sequence.ensures.parts

pub returns-in_ok-bound-in-Sum-clause-parts : goal.returns-in_ok-bound-in-Sum-clause-parts
returns-in_ok-bound-in-Sum-clause-parts c =
    let s = c.in-Sum in
    let text : c.in_ok-bound-in-Sum.bound ≡ sum_bound c.as_slice-in-Sum.result.now s.least s.most = search (rules) in
    on_ok_weaker c.push_part-in-Sum.result (one_part _ (parts_of c.args.specs.now c.args.scopes.now) c.args.constraint.now (Sum s.scope s.coefs s.least s.most) s.scope c.as_slice-in-Sum-2.result.now
    c.in_ok-bound-in-Sum.bound (sum_bound s.coefs s.least s.most) s.is (sum_parts s.scope s.coefs s.least s.most) c.as_slice-in-Sum-2.ensures
    (text ∙ ap (λ coefs. sum_bound coefs s.least s.most) c.as_slice-in-Sum.ensures)) c.push_part-in-Sum.ensures.parts

pub returns-in_ok-copy-in-User-clause-parts : goal.returns-in_ok-copy-in-User-clause-parts
returns-in_ok-copy-in-User-clause-parts c =
    let u = c.in-User in
    on_ok_weaker c.push_part-in-User.result (one_part _ (parts_of c.args.specs.now c.args.scopes.now) c.args.constraint.now (User u.bound u.scope) u.scope c.as_slice-in-User.result.now
    c.in_ok-copy-in-User.field-0 u.bound u.is (user_parts u.scope u.bound) c.as_slice-in-User.ensures
    c.in_ok-copy-in-User.ensures) c.push_part-in-User.ensures.parts
