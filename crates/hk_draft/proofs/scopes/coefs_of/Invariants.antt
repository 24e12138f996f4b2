use Rattle.std.proofs.Common.{◌≡◌, ◌++◌, drop}
use Rattle.hk_lines.specs.Plain.{terms_of}
use Rattle.hk_draft.specs.Declares.{term_coefs}
use Rattle.hk_draft.proofs.scopes.coefs_of.Given as goal

-- the coefficients of all terms are those found, and those of the terms that are left
abbrev pub invariant-loop-term : goal.invariant-loop-term
invariant-loop-term l = term_coefs (terms_of l.terms) ≡ l.coefs ++ term_coefs (terms_of (drop l.term-index l.terms))
