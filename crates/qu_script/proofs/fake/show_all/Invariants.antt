-- One history for each object so far.
use Rattle.std.proofs.Common.{◌≡◌, map, take}
use Rattle.qu_script.specs.Fake.{shown_now}
use Rattle.qu_script.proofs.fake.show_all.Given as goal

abbrev pub invariant-loop-object : goal.invariant-loop-object
invariant-loop-object l = l.histories ≡ map (λ object. shown_now l.world l.source l.me object)
    (take l.object-index l.objects)
