-- Replies of a faulty replica's choice: the client takes them for that replica's, since it has the key.
use Rattle.std.specs.Prelude.{ℕ, List, []}
use Rattle.qu_base.specs.declared.party.ClientId.{ClientId}
use Rattle.qu_base.specs.declared.party.Party.TheVariants.{Client}
use Rattle.qu_base.specs.declared.party.ReplicaId.{ReplicaId}
use Rattle.qu_seal.specs.Keys.{Ring}
use Rattle.qu_history.specs.declared.sealed.Sealed.{Sealed}
use Rattle.qu_frames.specs.declared.frame.Frame.TheVariants.{Reply}
use Rattle.qu_verdicts.specs.declared.verdict.Verdict.{Verdict}
use Rattle.qu_frames.specs.Blank.{blank_mac}
use Rattle.qu_frames.specs.Signing.{signed}

-- a reply with no culled entries, signed for the client
unfoldable pub reply_text : Ring → ReplicaId → ClientId → ℕ → ℕ → Verdict → List Sealed → List ℕ
reply_text ring me client number round verdict shown =
    signed ring (Client client) (Reply me client number round verdict [] shown blank_mac)
