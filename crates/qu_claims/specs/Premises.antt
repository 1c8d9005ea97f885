-- What is assumed of a run: nobody makes an HMAC of a correct party but that party, and digests do not collide
-- (Query/Update: authenticators cannot be forged, and hashes are free of collisions).
use Rattle.std.specs.Prelude.{◌≡◌, ℕ, true, false, ◌<◌, List, length, slice_get, get_or, Some, IfSome, Contains}
use Rattle.qu_base.specs.declared.party.Party.{Party}
use Rattle.qu_base.specs.declared.party.Party.TheVariants as party
use Rattle.qu_base.specs.declared.party.ReplicaId.{ReplicaId}
use Rattle.qu_history.specs.declared.sealed.Sealed.{Sealed}
use Rattle.qu_history.specs.Culling.{is_right}
use Rattle.qu_frames.specs.declared.frame.Frame.{Frame}
use Rattle.qu_frames.specs.declared.frame.Letter.{Letter}
use Rattle.qu_frames.specs.Signing.{sender, brought}
use Rattle.qu_trace.specs.declared.event.Event.{Event}
use Rattle.qu_trace.specs.declared.trace.Entry.{Entry}
use Rattle.qu_trace.specs.declared.trace.Trace.{Trace}
use Rattle.qu_trace.specs.Faulty.{is_faulty}
use Rattle.qu_world.specs.State.{WorldState, ring_of, letter_of}
use Rattle.qu_claims.specs.Carried.{handed}
use Rattle.qu_claims.specs.Handled.{entries_to, shown_by}
use Rattle.qu_claims.specs.Digested.{NoCollision}
use Rattle.qu_claims.specs.Times.{world_after}

-- the first party sent these bytes to the second
pub record HasSent (world : WorldState) (from to : Party) (text : List ℕ) : Type 0 where
  pub number : ℕ
  pub letter : Letter
  pub is_letter : letter_of world number ≡ Some letter
  pub from_is : letter.from ≡ from
  pub to_is : letter.to ≡ to
  pub text_is : letter.text ≡ text

-- a letter of the history's replica showed it, with the same HMAC for this reader
pub record WasShown (world : WorldState) (reader : ReplicaId) (sealed : Sealed) : Type 0 where
  pub number : ℕ
  pub letter : Letter
  pub is_letter : letter_of world number ≡ Some letter
  pub from_is : letter.from ≡ party.Replica (sealed.history).replica
  pub shown : Sealed
  pub by_letter : Contains (shown_by letter) shown
  pub history_is : shown.history ≡ sealed.history
  pub mac_is : slice_get shown.macs reader.0 ≡ slice_get sealed.macs reader.0

-- the HMACs of correct parties in bytes that a correct party is handed are their own: of a frame that they sent
-- to it, and of a history that they showed, where a replica does not cull it
pub record AreUnforged (world : WorldState) (to : Party) (text : List ℕ) : Type 0 where
  pub sent : (frame : Frame) → brought (ring_of world.setup) to text ≡ Some frame
      → is_faulty world.setup (sender frame) ≡ false → HasSent world (sender frame) to text
  pub shown : (me : ReplicaId) (sealed : Sealed) → to ≡ party.Replica me
      → Contains (entries_to world.setup text to) sealed → is_right (ring_of world.setup) me sealed ≡ true
      → is_faulty world.setup (party.Replica (sealed.history).replica) ≡ false → WasShown world me sealed

abbrev pub IsUnforgedAt : WorldState → Event → Type 0
IsUnforgedAt world event = IfSome (handed world event) (λ (given : Party × List ℕ). AreUnforged world given.0 given.1)

abbrev pub IsUnforged : Trace → Type 0
IsUnforged trace = (at : ℕ) (default : Entry) → at < length trace.entries → IsUnforgedAt (world_after trace at)
    (get_or trace.entries at default).event

-- that few replicas are faulty is asked of each setup
pub record MeetsPremises (trace : Trace) : Type 0 where
  pub unforged : IsUnforged trace
  pub no_collision : NoCollision trace
