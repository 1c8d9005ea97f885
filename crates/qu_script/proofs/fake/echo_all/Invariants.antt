-- One history for each object so far.
use Rattle.std.proofs.Common.{◌≡◌, map, take}
use Rattle.qu_script.specs.Fake.{echoed}
use Rattle.qu_script.proofs.fake.echo_all.Given as goal

abbrev pub invariant-loop-object : goal.invariant-loop-object
invariant-loop-object l = l.histories ≡ map (λ object. echoed l.shown l.me object) (take l.object-index l.objects)
