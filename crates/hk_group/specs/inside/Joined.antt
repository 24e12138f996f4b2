-- The scopes of parts one after the other.
use Rattle.std.specs.Prelude.{ℕ, List, [], ◌∷◌, ◌++◌}
use Rattle.hk_group.specs.Groups.{Part}

-- the variables of the scopes of parts, scope after scope
abbrev pub scopes_joined : List Part → List ℕ
scopes_joined [] = []
scopes_joined (part ∷ parts) = part.scope ++ scopes_joined parts
