-- the run of this replica, in which nobody lies and nobody is called
use Rattle.std.proofs.Common.{[]}
use Rattle.qu_run_tests.proofs.lock.replica_of_run.Given as goal

abbrev pub ghosts-replica_shared : goal.ghosts-replica_shared
ghosts-replica_shared g a = record {
  setup = record {
    bounds = a.replica.keys.bounds;
    seed = a.replica.keys.seed;
    clients = a.replica.keys.clients;
    kinds = a.replica.kinds;
    liars = [];
  };
  calls = [];
}
