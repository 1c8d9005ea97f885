-- the run of this client, in which nobody lies and nobody is called
use Rattle.std.proofs.Common.{[]}
use Rattle.qu_run_tests.proofs.lock.client_of_run.Given as goal

abbrev pub ghosts-client_shared : goal.ghosts-client_shared
ghosts-client_shared g a = record {
  setup = record {
    bounds = a.client.keys.bounds;
    seed = a.client.keys.seed;
    clients = a.client.keys.clients;
    kinds = [];
    liars = [];
  };
  calls = [];
}
