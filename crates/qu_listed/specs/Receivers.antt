-- What the parties of a run take of the texts that reach them.
use Rattle.std.specs.Prelude.{ℕ, if◌then◌else◌, List, Option, None}
use Rattle.qu_base.specs.declared.party.Party.{Party}
use Rattle.qu_seal.specs.Keys.{Ring}
use Rattle.qu_frames.specs.declared.frame.Frame.{Frame}
use Rattle.qu_frames.specs.Signing.{brought}
use Rattle.qu_trace.specs.declared.trace.Setup.{Setup}
use Rattle.qu_trace.specs.Faulty.{is_faulty}

-- the keys of a run
abbrev pub keys_of : Setup → Ring
keys_of setup = record { seed = setup.seed; bounds = setup.bounds; clients = setup.clients }

-- the frame that a party takes of a text: a faulty one takes none, since nothing happens at it
unfoldable pub frame_taken : Setup → Party → List ℕ → Option Frame
frame_taken setup to text = if is_faulty setup to then None else brought (keys_of setup) to text
