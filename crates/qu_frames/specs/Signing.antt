-- Frames whose HMAC their sender makes for one receiver.
use Rattle.std.specs.Prelude.{ℕ, ◌-◌, Bool, if◌then◌else◌, List, ◌++◌, take, length, Option, None, Some, Result, Ok, Err}
use Rattle.qu_base.specs.declared.bad_text.BadText.{BadText}
use Rattle.qu_base.specs.declared.party.Digest.{Digest}
use Rattle.qu_base.specs.declared.party.Party.{Party}
use Rattle.qu_base.specs.declared.party.Party.TheVariants as party
use Rattle.qu_seal.specs.Digesting.{digest_of}
use Rattle.qu_seal.specs.Keys.{Ring, seal_of, verifies}
use Rattle.qu_frames.specs.declared.frame.Frame.{Frame}
use Rattle.qu_frames.specs.declared.frame.Frame.TheVariants.{Request, Reply, Fetch, Fetched}
use Rattle.qu_seal.specs.declared.constants.TheConstants.{FRAME_TAG}
use Rattle.qu_frames.specs.Formats.{frame_form}
use Rattle.qu_frames.specs.Decoding.{decoded}

-- who sent it
abbrev pub sender : Frame → Party
sender (Request client number round sets body mac) = party.Client client
sender (Reply replica client number round verdict culled shown mac) = party.Replica replica
sender (Fetch replica object stamp mac) = party.Replica replica
sender (Fetched replica object stamp state mac) = party.Replica replica

abbrev pub mac_of : Frame → List ℕ
mac_of (Request client number round sets body mac) = mac
mac_of (Reply replica client number round verdict culled shown mac) = mac
mac_of (Fetch replica object stamp mac) = mac
mac_of (Fetched replica object stamp state mac) = mac

-- the same frame with another HMAC
abbrev pub with_mac : Frame → List ℕ → Frame
with_mac (Request client number round sets body mac) other = Request client number round sets body other
with_mac (Reply replica client number round verdict culled shown mac) other =
    Reply replica client number round verdict culled shown other
with_mac (Fetch replica object stamp mac) other = Fetch replica object stamp other
with_mac (Fetched replica object stamp state mac) other = Fetched replica object stamp state other

-- the bytes before the HMAC, which are the last 32
abbrev pub before_mac : List ℕ → List ℕ
before_mac text = take (length text - 32) text

-- what the HMAC is made of
unfoldable pub text_digest : List ℕ → Digest
text_digest text = record { 0 = digest_of FRAME_TAG (before_mac text) }

-- the HMAC that the sender makes for a receiver
abbrev pub signature : Ring → Party → Frame → List ℕ
signature ring to frame = seal_of ring (sender frame) to (text_digest (frame_form.spell frame))

-- the frame's text with this HMAC in the place of its own
unfoldable pub signed : Ring → Party → Frame → List ℕ
signed ring to frame = before_mac (frame_form.spell frame) ++ signature ring to frame

-- the HMAC of a frame with this text is right for the receiver
unfoldable pub is_signed : Ring → Party → List ℕ → Frame → Bool
is_signed ring to text frame = verifies ring (sender frame) to (text_digest text) (mac_of frame)

-- what was decoded of a text, where its HMAC is right for the receiver
abbrev pub if_signed : Ring → Party → List ℕ → Result Frame BadText → Option Frame
if_signed ring to text (Ok frame) = if is_signed ring to text frame then Some frame else None
if_signed ring to text (Err bad) = None

-- the frame that a text brings to a party
unfoldable pub brought : Ring → Party → List ℕ → Option Frame
brought ring to text = if_signed ring to text (decoded text)
