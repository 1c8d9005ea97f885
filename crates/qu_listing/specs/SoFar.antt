-- What is known of the earlier entries where an event is told.
use Rattle.std.specs.Prelude.{◌≡◌, ℕ, nat_eq, unwrap_or, is_none, List, map}
use Rattle.std.specs.declared.hash.FoldHasher.{FoldHasher}
use Rattle.std.specs.declared.hash.BuildHasherDefault.{BuildHasherDefault}
use Rattle.std.specs.HashMap.{get, HashMap}
use Rattle.qu_base.specs.declared.party.ClientId.{ClientId}
use Rattle.qu_frames.specs.declared.frame.Letter.{Letter}
use Rattle.qu_trace.specs.declared.trace.Entry.{Entry}
use Rattle.qu_trace.specs.declared.trace.Setup.{Setup}
use Rattle.qu_trace.specs.Letters.{letters_of}
use Rattle.qu_trace.specs.Operation.{begun_by}
use Rattle.qu_trace.specs.Starts.{AreStarts}
use Rattle.qu_listed.specs.Receivers.{frame_taken}
use Rattle.qu_listed.specs.World.{world_behind}
use Rattle.qu_listing.specs.declared.so_far.Sent.{Sent}
use Rattle.qu_listing.specs.declared.so_far.SoFar.{SoFar}

abbrev pub sent_of : Setup → Letter → Sent
sent_of setup letter = record { to = letter.to; ignored = is_none (frame_taken setup letter.to letter.text) }

-- how many operations a client began, by its number
abbrev pub calls_of : HashMap ℕ ℕ (BuildHasherDefault FoldHasher) → ℕ → ℕ
calls_of calls client = unwrap_or (get nat_eq calls client) 0

abbrev pub CountsCalls : List Entry → HashMap ℕ ℕ (BuildHasherDefault FoldHasher) → Type 0
CountsCalls entries calls = (client : ClientId) → calls_of calls client.0 ≡ begun_by client entries

pub record IsSoFar (setup : Setup) (entries : List Entry) (known : SoFar) : Type 0 where
  pub sent : known.sent ≡ map (sent_of setup) (letters_of entries)
  pub calls : CountsCalls entries known.calls
  pub starts : AreStarts entries known.starts
  pub world : known.world ≡ world_behind setup entries
