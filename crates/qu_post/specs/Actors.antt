-- The parties of a run, and those of them that take steps.
use Rattle.std.specs.Prelude.{ℕ, ◌+◌, Bool, false, not, ◌==◌, List, ◌++◌, map, filter}
use Rattle.std.specs.List.{list_any, range_with_len}
use Rattle.qu_base.specs.declared.party.Party.{Party}
use Rattle.qu_base.specs.declared.party.Party.TheVariants as party
use Rattle.qu_base.specs.Bounds.{replicas}

abbrev pub is_one_party : Party → Party → Bool
is_one_party (party.Replica one) (party.Replica other) = one.0 == other.0
is_one_party (party.Replica one) (party.Client other) = false
is_one_party (party.Client one) (party.Replica other) = false
is_one_party (party.Client one) (party.Client other) = one.0 == other.0

abbrev pub replica_numbered : ℕ → Party
replica_numbered number = party.Replica (record { 0 = number })

-- clients are numbered from 1
abbrev pub client_at_place : ℕ → Party
client_at_place place = party.Client (record { 0 = place + 1 })

-- all parties: the replicas and then the clients, each by rising number
abbrev pub parties_of : ℕ → ℕ → List Party
parties_of b clients =
    map replica_numbered (range_with_len 0 (replicas b)) ++ map client_at_place (range_with_len 0 clients)

-- whether a party is one of those that lie
abbrev pub is_liar : List Party → Party → Bool
is_liar liars who = list_any (λ (liar : Party). is_one_party liar who) liars

-- the parties that take steps of their own, in the order of all parties: those that do not lie
abbrev pub actors_of : ℕ → ℕ → List Party → List Party
actors_of b clients liars = filter (λ who. not (is_liar liars who)) (parties_of b clients)
