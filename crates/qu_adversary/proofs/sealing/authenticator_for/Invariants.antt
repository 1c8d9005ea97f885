-- The HMACs so far are those for the replicas so far.
use Rattle.std.proofs.Common.{◌≡◌, map}
use Rattle.std.specs.List.{range_with_len}
use Rattle.qu_adversary.specs.Sealing.{mac_for}
use Rattle.qu_adversary.proofs.sealing.authenticator_for.Given as goal

abbrev pub invariant-loop-number : goal.invariant-loop-number
invariant-loop-number l =
    l.macs ≡ map (λ number. mac_for l.keys l.me l.good l.text number) (range_with_len 0 l.number)
