-- One history for each object so far.
use Rattle.std.proofs.Common.{◌≡◌, map, take}
use Rattle.qu_script.specs.Fake.{far_history}
use Rattle.qu_script.proofs.fake.far_all.Given as goal

abbrev pub invariant-loop-object : goal.invariant-loop-object
invariant-loop-object l = l.histories ≡ map (λ object. far_history l.me object) (take l.object-index l.objects)
