-- Sets as a replica culls them: an entry stays where its own HMAC is right (Query/Update: a replica checks its
-- HMAC of each authenticator, and leaves out the histories where it is wrong).
use Rattle.std.specs.Prelude.{ℕ, Bool, false, not, ◌==◌, ◌&&◌, List, map, filter, length, slice_get, Option, None, Some}
use Rattle.std.specs.List.{flat_map}
use Rattle.qu_base.specs.declared.party.Digest.{Digest}
use Rattle.qu_base.specs.declared.party.ObjectId.{ObjectId}
use Rattle.qu_base.specs.declared.party.Party.TheVariants.{Replica}
use Rattle.qu_base.specs.declared.party.ReplicaId.{ReplicaId}
use Rattle.qu_base.specs.Bounds.{replicas}
use Rattle.qu_seal.specs.declared.constants.TheConstants.{HISTORY_TAG}
use Rattle.qu_seal.specs.Digesting.{digest_of}
use Rattle.qu_seal.specs.Keys.{Ring, verifies}
use Rattle.qu_history.specs.declared.sealed.Sealed.{Sealed}
use Rattle.qu_history.specs.declared.sets.SetOf.{SetOf}
use Rattle.qu_history.specs.History.{ObjectHistory}
use Rattle.qu_history.specs.Formats.{history_form}

-- what the HMACs of a history are made of
unfoldable pub history_digest : ObjectHistory → Digest
history_digest history = record { 0 = digest_of HISTORY_TAG (history_form.spell history) }

-- the HMAC for this reader is there, and right
abbrev pub mac_is_right : Ring → ReplicaId → ObjectHistory → Option (List ℕ) → Bool
mac_is_right ring me history None = false
mac_is_right ring me history (Some mac) =
    verifies ring (Replica history.replica) (Replica me) (history_digest history) mac

-- and there is one for each replica
unfoldable pub is_right : Ring → ReplicaId → Sealed → Bool
is_right ring me sealed =
    length sealed.macs == replicas ring.bounds && mac_is_right ring me sealed.history (slice_get sealed.macs me.0)

-- the entries that stay
abbrev pub culled_set : Ring → ReplicaId → SetOf → SetOf
culled_set ring me set = record { object = set.object; entries = filter (is_right ring me) set.entries }

unfoldable pub culled : Ring → ReplicaId → List SetOf → List SetOf
culled ring me sets = map (culled_set ring me) sets

-- the object and the replica of each entry that does not
abbrev pub left_of : Ring → ReplicaId → SetOf → List (ObjectId × ReplicaId)
left_of ring me set = map (λ (sealed : Sealed). (set.object, (sealed.history).replica))
    (filter (λ sealed. not (is_right ring me sealed)) set.entries)

unfoldable pub left_out : Ring → ReplicaId → List SetOf → List (ObjectId × ReplicaId)
left_out ring me sets = flat_map (left_of ring me) sets
