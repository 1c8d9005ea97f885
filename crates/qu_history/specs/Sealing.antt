-- Sealed histories as their replicas make them (Query/Update: a replica sends each history with an authenticator,
-- which has an HMAC for each replica).
use Rattle.std.specs.Prelude.{Bool, List}
use Rattle.std.specs.List.{list_all}
use Rattle.qu_base.specs.declared.party.ReplicaId.{ReplicaId}
use Rattle.qu_seal.specs.Keys.{Ring, authenticator_of}
use Rattle.qu_history.specs.declared.sealed.Sealed.{Sealed}
use Rattle.qu_history.specs.declared.sets.SetOf.{SetOf}
use Rattle.qu_history.specs.History.{ObjectHistory}
use Rattle.qu_history.specs.Culling.{history_digest, is_right}

-- the history with the HMACs that its replica makes
abbrev pub sealed_by : Ring → ObjectHistory → Sealed
sealed_by ring history =
    record { history = history; macs = authenticator_of ring history.replica (history_digest history) }

-- each entry is right for this reader
unfoldable pub are_right : Ring → ReplicaId → List SetOf → Bool
are_right ring me sets = list_all (λ (set : SetOf). list_all (is_right ring me) set.entries) sets
