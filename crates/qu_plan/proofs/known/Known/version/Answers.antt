-- What is found is the version of the object.
use Rattle.std.proofs.Common.{rules, ◌≡◌, List, Some, find}
use Rattle.std.specs.Prelude.{◌==◌}
use Rattle.qu_plan.specs.Knowledge.{Version, versions_of}
use Rattle.qu_plan.proofs.Versions.{version_there}
use Rattle.qu_plan.proofs.known.Known.version.Goals as goal

pub returns-in-Some : goal.returns-in-Some
returns-in-Some c =
    let versions : List Version = c.self.inside.versions in
    let are : versions ≡ versions_of c.args.self.now.bounds c.args.self.now.sets = search rules in
    let there : find (λ (version : Version). (version.0).0 == (c.args.object).0) versions ≡ Some c.in-Some.found.now =
    search rules in
    version_there c.args.self.now.bounds c.args.self.now.sets c.args.object versions c.in-Some.found.now are there
