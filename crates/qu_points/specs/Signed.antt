-- Texts that a party signed for another one.
use Rattle.std.specs.Prelude.{◌≡◌, ℕ, true, List, Option, None, Some}
use Rattle.qu_base.specs.declared.party.Party.{Party}
use Rattle.qu_base.specs.declared.party.Party.TheVariants as party
use Rattle.qu_seal.specs.Keys.{Ring, have_key}
use Rattle.qu_frames.specs.declared.frame.Frame.{Frame}
use Rattle.qu_frames.specs.Signing.{sender, signed}

-- the text is a frame of this party that is signed for a receiver with which it has a key
pub record IsSignedBy (ring : Ring) (from to : Party) (text : List ℕ) : Type 0 where
  pub made : Frame
  pub is : text ≡ signed ring to made
  pub of : sender made ≡ from
  pub key : have_key ring from to ≡ true

-- the party, where it is a client
abbrev pub client_in : Party → Option Party
client_in (party.Replica me) = None
client_in (party.Client me) = Some (party.Client me)
