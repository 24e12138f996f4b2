use Rattle.std.proofs.Common.{ℕ, List, is_some, ap, map, rules}
use Rattle.hk_text.specs.Texts.{texts_of}
use Rattle.hk_lines.specs.Posts.{ArgListThen, IsWholeScope}
use Rattle.hk_lines.specs.PostShapes.{args_of, capped_arg}
use Rattle.hk_lines.specs.inside.Capped.{BeginsCapped}
use Rattle.hk_lines.proofs.Membership.{now_of}
use Rattle.hk_lines.proofs.PostPhrases.{post_said, no_scope_no_post}
use Rattle.hk_lines.proofs.Words.{word_said}
use Rattle.hk_lines.proofs.posts.post_of.Goals as goal

pub returns-in_default-3-clause-none : goal.returns-in_default-3-clause-none
returns-in_default-3-clause-none c =
    let args : BeginsCapped ArgListThen (map capped_arg) (texts_of c.args.line.now c.in-Some-after_text.open.now) (args_of c.in-Some-2.args) (texts_of c.args.line.now c.in-Some-2.rest.now) = search rules in
    let none : (names : List (List ℕ)) → IsWholeScope (texts_of c.args.line.now c.in-Some-2.rest.now) names → ⊥ = c.in_ok-names.ensures.none (ap is_some c.in_default-3.is) in
    λ _. no_scope_no_post (word_said c.in-Some.ensures.some c.in-Some.ensures.word) c.in-Some-after_text.ensures.some args none

pub returns-clause-shape : goal.returns-clause-shape
returns-clause-shape c =
    let args : BeginsCapped ArgListThen (map capped_arg) (texts_of c.args.line.now c.in-Some-after_text.open.now) (args_of c.in-Some-2.args) (texts_of c.args.line.now c.in-Some-2.rest.now) = search rules in
    let names : IsWholeScope (texts_of c.args.line.now c.in-Some-2.rest.now) (map now_of c.in-Some-3.names) = search rules in
    post_said (word_said c.in-Some.ensures.some c.in-Some.ensures.word) c.in-Some-after_text.ensures.some args names
