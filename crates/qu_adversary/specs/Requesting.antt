-- Requests of a faulty client's choice: the replica takes them for that client's, since it has the key.
use Rattle.std.specs.Prelude.{ℕ, List}
use Rattle.qu_base.specs.declared.party.ClientId.{ClientId}
use Rattle.qu_base.specs.declared.party.Party.TheVariants.{Replica}
use Rattle.qu_base.specs.declared.party.ReplicaId.{ReplicaId}
use Rattle.qu_seal.specs.Keys.{Ring}
use Rattle.qu_history.specs.declared.sets.SetOf.{SetOf}
use Rattle.qu_frames.specs.declared.frame.Body.{Body}
use Rattle.qu_frames.specs.declared.frame.Frame.TheVariants.{Request}
use Rattle.qu_frames.specs.Blank.{blank_mac}
use Rattle.qu_frames.specs.Signing.{signed}

-- a request, signed for the replica
unfoldable pub request_text : Ring → ClientId → ReplicaId → ℕ → ℕ → List SetOf → Body → List ℕ
request_text ring me to number round sets body =
    signed ring (Replica to) (Request me number round sets body blank_mac)
