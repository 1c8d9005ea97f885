-- What a text makes of a replica.
use Rattle.std.proofs.Common.{◌≡◌, ℕ, List, Some, ap}
use Rattle.qu_base.specs.declared.party.Party.TheVariants as party
use Rattle.qu_frames.specs.declared.frame.Frame.{Frame}
use Rattle.qu_frames.specs.Signing.{brought}
use Rattle.qu_rows.specs.State.{ReplicaState}
use Rattle.qu_replica.specs.Step.{replica_on_frame, replica_on_received, replica_step}

-- a text that brings a frame is handled as the frame
pub step_of_frame : (state : ReplicaState) (text : List ℕ) (frame : Frame)
    → brought state.keys (party.Replica state.me) text ≡ Some frame → replica_step state text
    ≡ replica_on_frame state frame
step_of_frame state text frame is = ap (replica_on_received state) is
