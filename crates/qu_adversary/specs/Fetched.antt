-- What a faulty replica tells of what it holds under a stamp, in the form of a fetched frame.
use Rattle.std.specs.Prelude.{ℕ, List, ◌++◌}
use Rattle.std.specs.Int.{to_be_bytes, w8, w16}
use Rattle.qu_base.specs.declared.party.ObjectId.{ObjectId}
use Rattle.qu_base.specs.declared.party.Party.TheVariants.{Replica}
use Rattle.qu_base.specs.declared.party.ReplicaId.{ReplicaId}
use Rattle.qu_seal.specs.declared.constants.TheConstants.{FRAME_TAG}
use Rattle.qu_seal.specs.Digesting.{digest_of}
use Rattle.qu_seal.specs.Keys.{Ring, seal_of}
use Rattle.qu_stamp.specs.declared.stamp.Stamp.{Stamp}
use Rattle.qu_stamp.specs.Formats.{stamp_form}

-- version 1 of the format, kind 4, the replica, the object, the stamp, and any bytes in the place of the state
unfoldable pub fetched_head : ReplicaId → ObjectId → Stamp → List ℕ → List ℕ
fetched_head me object stamp state =
    to_be_bytes w8 1 ++ to_be_bytes w8 4 ++ to_be_bytes w8 me.0 ++ to_be_bytes w16 object.0 ++ stamp_form.spell stamp
    ++ state

-- with the HMAC that the replica makes for another one
unfoldable pub fetched_text : Ring → ReplicaId → ReplicaId → ObjectId → Stamp → List ℕ → List ℕ
fetched_text ring me to object stamp state =
    let head = fetched_head me object stamp state in
    head ++ seal_of ring (Replica me) (Replica to) (record { 0 = digest_of FRAME_TAG head })
