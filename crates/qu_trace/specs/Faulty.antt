-- The faulty parties of a setup. All others are correct: they begin as they should, and keep to the protocol.
use Rattle.std.specs.Prelude.{ℕ, Bool, true, false, not, ◌==◌}
use Rattle.std.specs.List.{list_any}
use Rattle.qu_base.specs.declared.party.Party.{Party}
use Rattle.qu_base.specs.declared.party.Party.TheVariants as party
use Rattle.qu_trace.specs.declared.trace.Setup.{Setup}

abbrev pub is_same : Party → Party → Bool
is_same (party.Replica one) (party.Replica other) = one.0 == other.0
is_same (party.Replica one) (party.Client other) = false
is_same (party.Client one) (party.Replica other) = false
is_same (party.Client one) (party.Client other) = one.0 == other.0

abbrev pub is_replica : Party → Bool
is_replica (party.Replica me) = true
is_replica (party.Client me) = false

-- whether the party is faulty
abbrev pub is_faulty : Setup → Party → Bool
is_faulty setup who = list_any (λ (liar : Party). is_same liar who) setup.liars

-- whether the replica with this number is correct
abbrev pub is_good : Setup → ℕ → Bool
is_good setup number = not (is_faulty setup (party.Replica (record { 0 = number })))
