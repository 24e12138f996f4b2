use Rattle.std.proofs.Common.{◌≡◌, ◌++◌, map, drop, Some}
use Rattle.hk_draft.specs.Declares.{place_of}
use Rattle.hk_lines.proofs.Membership.{now_of}
use Rattle.hk_draft.proofs.scopes.places_of.Given as goal

-- the places of all names are those found, and those of the names that are left
abbrev pub invariant-loop-name : goal.invariant-loop-name
invariant-loop-name l =
    map (place_of l.draft.names) (map now_of l.names)
    ≡ map Some l.scope ++ map (place_of l.draft.names) (map now_of (drop l.name-index l.names))
