-- The first fault of a statement is that of the same with its numbers capped.
use Rattle.std.proofs.Common.{Option, None, Some}
use Rattle.hk_draft.specs.Drafts.{PlainDraft}
use Rattle.hk_lines.specs.Shapes.{capped_statement}
use Rattle.hk_lines.specs.Statements.{Statement}
use Rattle.hk_draft.specs.declared.kinds.RefusalKind.{RefusalKind}
use Rattle.hk_draft.specs.declared.kinds.RefusalKind.TheVariants.{Text, Syntax, Name, Limit, Scope, Grade, Unfinished}
use Rattle.hk_draft.specs.Faults.{IsFaultyStatement}
use Rattle.hk_draft.proofs.CappedStatements.{name_whole, name_capped, limit_whole, limit_capped, scope_whole, stand_capped}

-- the first fault of a statement with its numbers capped is that of the statement
pub faulty_whole : (before : Option PlainDraft) (s : Statement) (kind : RefusalKind) → IsFaultyStatement before (capped_statement s) kind → IsFaultyStatement before s kind
faulty_whole before s Text fault = fault
faulty_whole before s Syntax none = λ stands. none (stand_capped before s stands)
faulty_whole None s Name fault = fault
faulty_whole (Some before) s Name fault = name_whole before s fault
faulty_whole None s Limit fault = fault
faulty_whole (Some before) s Limit (fault, no_name) = (limit_whole before s fault, λ named. no_name (name_capped before s named))
faulty_whole None s Scope fault = fault
faulty_whole (Some before) s Scope (fault, no_name, no_limit) = (scope_whole before s fault, λ named. no_name (name_capped before s named), λ limited. no_limit (limit_capped before s limited))
faulty_whole before s Grade fault = fault
faulty_whole before s Unfinished fault = fault
