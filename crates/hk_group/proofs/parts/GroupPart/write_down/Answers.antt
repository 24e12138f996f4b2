use Rattle.std.proofs.Common.{◌≤◌, length, drop, sym, subst}
use Rattle.hk_spec.proofs.StepLaws.{down_room}
use Rattle.hk_group.proofs.parts.GroupPart.write_down.Goals as goal

pub part-own-requires : goal.part-own-requires
part-own-requires c = subst (λ n. n ≤ length (drop c.args.first c.args.from.now)) (sym c.down_count.ensures.count) (down_room c.args.self.now.bound c.args.first c.args.from.now c.requires.from)
