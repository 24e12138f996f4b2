use Rattle.std.proofs.Common.{◌≡◌, ◌∙◌, length, rules}
use Rattle.hk_layers.proofs.FrontLists.{front_length}
use Rattle.hk_layers.proofs.fronts.Front.len.Goals as goal

pub returns : goal.returns
returns c =
    let count : c.len.result ≡ length c.self.inside.froms.items = search rules in
    count ∙ front_length _ _ _ _ c.self.view_is c.self.invariant
