-- Statements and posts are told apart by their first words.
use Rattle.std.proofs.Common.{ℕ, List, [], refl}
use Rattle.hk_lines.specs.Posts.{Post, SaysPost}
use Rattle.hk_lines.specs.Statements.{Statement, Says, says_header, says_variable, says_distinct, says_among, says_sequence, says_gcc, says_total, says_objective, says_new_group}
use Rattle.hk_text.proofs.TokenTexts.{apart, apart_none}

-- texts that say a statement say no post
pub statement_no_post : {texts : List (List ℕ)} {s : Statement} {p : Post} → Says texts s → SaysPost texts p → ⊥
statement_no_post (says_header x) post = apart 0 x post.parts refl
statement_no_post (says_variable x word set) post = apart 0 x post.parts refl
statement_no_post (says_distinct x words) post = apart 0 x post.parts refl
statement_no_post (says_among x counting) post = apart 0 x post.parts refl
statement_no_post (says_sequence x number counting) post = apart 0 x post.parts refl
statement_no_post (says_gcc x scope rows) post = apart 0 x post.parts refl
statement_no_post (says_total x terms bounds) post = apart 0 x post.parts refl
statement_no_post (says_objective x terms) post = apart 0 x post.parts refl
statement_no_post (says_new_group x) post = apart 0 x post.parts refl

-- no texts say no post
pub nothing_no_post : {p : Post} → SaysPost [] p → ⊥
nothing_no_post post = apart_none refl post.parts
