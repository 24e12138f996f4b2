use Rattle.std.proofs.Common.{◌≡◌, ◌++◌, map, drop, Some}
use Rattle.hk_draft.specs.Declares.{place_of}
use Rattle.hk_draft.proofs.Places.{name_of}
use Rattle.hk_draft.proofs.scopes.term_places.Given as goal

-- the places of all names are those found, and those of the names that are left
abbrev pub invariant-loop-term : goal.invariant-loop-term
invariant-loop-term l =
    map (place_of l.draft.names) (map name_of l.terms)
    ≡ map Some l.scope ++ map (place_of l.draft.names) (map name_of (drop l.term-index l.terms))
