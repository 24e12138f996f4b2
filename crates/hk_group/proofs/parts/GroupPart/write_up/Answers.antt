use Rattle.std.proofs.Common.{◌≤◌, length, drop, sym, subst}
use Rattle.hk_spec.proofs.StepLaws.{up_room}
use Rattle.hk_group.proofs.parts.GroupPart.write_up.Goals as goal

pub part-own-requires : goal.part-own-requires
part-own-requires c = subst (λ n. n ≤ length (drop c.args.first c.args.from.now)) (sym c.up_count.ensures.count) (up_room c.args.self.now.bound c.args.first c.args.from.now c.requires.from)
