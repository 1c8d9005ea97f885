use Rattle.std.proofs.lemmas.Result.{on_ok_weaker}
use Rattle.qu_versions.proofs.Lookup.{put_held, put_other, put_grows}
use Rattle.qu_versions.proofs.store.VersionStore.put.Goals as goal

pub returns-clause-held : goal.returns-clause-held
returns-clause-held c =
    on_ok_weaker c.hold.result
    (put_held c.args.object c.args.stamp c.args.self.now c.hold.new.self c.args.state) c.hold.ensures.value

pub returns-clause-others : goal.returns-clause-others
returns-clause-others c = λ other at differs.
    on_ok_weaker c.hold.result
    (put_other c.args.object c.args.stamp c.args.self.now c.hold.new.self c.args.state other at differs)
    c.hold.ensures.value

pub returns-clause-grows : goal.returns-clause-grows
returns-clause-grows c =
    on_ok_weaker c.hold.result
    (put_grows c.args.object c.args.stamp c.args.self.now c.hold.new.self c.args.state) c.hold.ensures.value
