-- The opening world is a world, in which nothing was sent.
use Rattle.qu_world.proofs.RunLaws.{counted-opening}
use Rattle.qu_world.proofs.world.World.start.Goals as goal

pub invariant_of-result : goal.invariant_of-result
invariant_of-result c = (
  rw (
    c.in_ok-replicas.ensures,
    c.in_ok-clients.ensures,
    c.derive-keys.ensures,
    c.new-entries.ensures,
  ) (counted-opening c.args.setup c.requires),
  rw c.new-entries.ensures c.none.ensures,
)
