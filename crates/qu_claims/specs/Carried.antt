-- What the bytes of a letter carry, and which bytes an event hands to a party.
use Rattle.std.specs.Prelude.{◌≡◌, ℕ, if◌then◌else◌, List, Option, None, Some, Ok}
use Rattle.qu_base.specs.declared.party.ClientId.{ClientId}
use Rattle.qu_base.specs.declared.party.ObjectId.{ObjectId}
use Rattle.qu_base.specs.declared.party.Party.{Party}
use Rattle.qu_base.specs.declared.party.Party.TheVariants as party
use Rattle.qu_base.specs.declared.party.ReplicaId.{ReplicaId}
use Rattle.qu_history.specs.declared.sealed.Sealed.{Sealed}
use Rattle.qu_history.specs.declared.sets.SetOf.{SetOf}
use Rattle.qu_frames.specs.declared.frame.Body.{Body}
use Rattle.qu_frames.specs.declared.frame.Frame.{Frame}
use Rattle.qu_frames.specs.declared.frame.Frame.TheVariants as frame
use Rattle.qu_frames.specs.declared.frame.Letter.{Letter}
use Rattle.qu_verdicts.specs.declared.verdict.Verdict.{Verdict}
use Rattle.qu_frames.specs.Decoding.{decoded}
use Rattle.qu_frames.specs.Signing.{brought}
use Rattle.qu_rows.specs.State.{ReplicaState}
use Rattle.qu_trace.specs.declared.event.Event.{Event}
use Rattle.qu_trace.specs.declared.trace.Entry.{Entry}
use Rattle.qu_trace.specs.declared.trace.Setup.{Setup}
pub use Rattle.qu_trace.specs.Letters.{offered_by}
use Rattle.qu_world.specs.State.{WorldState}
use Rattle.qu_world.specs.Step.{at_faulty}

-- the letter's text is decoded to this frame
abbrev pub Carries : Letter → Frame → Type 0
Carries letter sent = decoded letter.text ≡ Ok sent

-- the bytes that an event hands to a correct party
abbrev pub handed_by : Setup → List Entry → Event → Option (Party × List ℕ)
handed_by setup entries event = if at_faulty setup entries event then None else offered_by entries event

-- what an event brings in a world, and what it hands to a correct party
abbrev pub offered : WorldState → Event → Option (Party × List ℕ)
offered world event = offered_by world.entries event

abbrev pub handed : WorldState → Event → Option (Party × List ℕ)
handed world event = handed_by world.setup world.entries event

-- the replica handles the text as this frame, whose HMAC is right for it
abbrev pub Brings : ReplicaState → List ℕ → Frame → Type 0
Brings state text sent = brought state.keys (party.Replica state.me) text ≡ Some sent

-- it carries this request, whatever its HMAC
pub record Asks (letter : Letter) (client : ClientId) (number round : ℕ) (sets : List SetOf) (body : Body) : Type
    0 where
  pub mac : List ℕ
  pub carries : Carries letter (frame.Request client number round sets body mac)

-- it carries this reply, whatever was culled and whatever its HMAC
pub record Tells (letter : Letter) (replica : ReplicaId) (client : ClientId) (number round : ℕ)
    (verdict : Verdict) (shown : List Sealed) : Type 0 where
  pub culled : List (ObjectId × ReplicaId)
  pub mac : List ℕ
  pub carries : Carries letter (frame.Reply replica client number round verdict culled shown mac)
