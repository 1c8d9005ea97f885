use Rattle.qu_versions.proofs.Lookup.{append_held, append_grows}
use Rattle.qu_versions.proofs.store.VersionStore.put_prepared.Goals as goal

pub returns-clause-held : goal.returns-clause-held
returns-clause-held c = λ object at.
    append_held object at c.args.self.now c.args.prepared c.join.new.self c.join.ensures.value

pub returns-clause-grows : goal.returns-clause-grows
returns-clause-grows c = append_grows c.args.self.now c.args.prepared c.join.new.self c.join.ensures.value
