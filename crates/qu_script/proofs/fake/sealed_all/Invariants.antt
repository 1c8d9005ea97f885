-- The histories so far, sealed.
use Rattle.std.proofs.Common.{◌≡◌, map, take}
use Rattle.qu_adversary.specs.Sealing.{sealed_for}
use Rattle.qu_script.proofs.fake.sealed_all.Given as goal

abbrev pub invariant-loop-history : goal.invariant-loop-history
invariant-loop-history l = l.sealed ≡ map (λ history. sealed_for l.keys l.me l.good history)
    (take l.history-index l.histories)
