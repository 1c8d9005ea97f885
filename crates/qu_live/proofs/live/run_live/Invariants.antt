-- the run is that of this setup with these calls
use Rattle.qu_live.proofs.live.run_live.Given as goal

abbrev pub ghosts-run_as : goal.ghosts-run_as
ghosts-run_as g a = record { setup = a.setup; calls = a.calls.now }
