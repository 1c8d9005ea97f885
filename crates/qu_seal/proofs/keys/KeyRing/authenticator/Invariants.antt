use Rattle.std.proofs.Common.{◌≡◌, ℕ, map}
use Rattle.std.specs.List.{range_with_len}
use Rattle.qu_base.specs.declared.party.Party.TheVariants.{Replica}
use Rattle.qu_seal.specs.Keys.{seal_of}
use Rattle.qu_seal.proofs.keys.KeyRing.authenticator.Given as goal

-- the HMACs for the replicas so far
abbrev pub invariant-loop-number : goal.invariant-loop-number
invariant-loop-number l =
    l.macs ≡ map (λ (number : ℕ). seal_of l.self (Replica l.me) (Replica (record { 0 = number })) l.text)
    (range_with_len 0 l.number)
