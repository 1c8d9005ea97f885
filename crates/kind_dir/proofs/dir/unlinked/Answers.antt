use Rattle.std.proofs.Common.{[], arith}
use Rattle.std.proofs.lemmas.Grind.{common_steps}
use Rattle.kind_dir.proofs.dir.unlinked.Goals as goal

pub returns-in_ok-removed-in-Ok : goal.returns-in_ok-removed-in-Ok
returns-in_ok-removed-in-Ok c = grind (arith, common_steps, c.in-Ok.ensures.found.number ([], 0))
