-- the steps of the clients so far stand behind the others, and each of these stands well
use Rattle.std.proofs.Common.{◌≡◌, ◌++◌}
use Rattle.std.specs.List.{flat_map}
use Rattle.qu_gather.specs.Gathered.{steps_of_client, ClientsStand}
use Rattle.qu_gather.proofs.held.put_clients.Given as goal

abbrev pub invariant-loop-kept : goal.invariant-loop-kept
invariant-loop-kept g l = record {
  steps : l.steps ≡ l.fn.steps ++ flat_map steps_of_client l.yielded;
  stand : ClientsStand g.N.RunName.setup g.N.RunName.calls l.yielded;
}
