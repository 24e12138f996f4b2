use Rattle.std.proofs.Common.{◌≡◌, drop}
use Rattle.hk_model.specs.Postings.{spec_of}
use Rattle.hk_model.proofs.binding.spec_named.Given as goal

-- the specification is the one that is found among those that are left
abbrev pub invariant-loop-spec : goal.invariant-loop-spec
invariant-loop-spec l = spec_of l.specs l.name ≡ spec_of (drop l.spec-index l.specs) l.name
