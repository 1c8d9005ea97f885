-- Events that hand a party nothing but what was sent to it, or what a faulty party may have made, and begin operations
-- that have parts.
use Rattle.std.specs.Prelude.{true, ◌≡◌, ◌⊎◌, ℕ, ◌<◌, ◌^◌, List, length, get_or, None, Some, IsTrue}
use Rattle.qu_base.specs.declared.party.Party.{Party}
use Rattle.qu_base.specs.Format.{AreBytes}
use Rattle.std.specs.List.{AllByRecursion}
use Rattle.qu_objects.specs.declared.op.Op.{Op}
use Rattle.qu_objects.specs.declared.op.Op.TheVariants as op
use Rattle.qu_objects.specs.Parts.{are_parts}
use Rattle.qu_objects.specs.Digesting.{PartsFit, AsksFit}
use Rattle.qu_frames.specs.declared.frame.Frame.{Frame}
use Rattle.qu_frames.specs.declared.frame.Letter.{Letter}
use Rattle.qu_frames.specs.Signing.{sender, brought}
use Rattle.qu_trace.specs.declared.event.Event.{Event}
use Rattle.qu_trace.specs.declared.event.Event.TheVariants.{Invoke, Deliver, Tick, Inject}
use Rattle.qu_trace.specs.declared.trace.Entry.{Entry}
use Rattle.qu_trace.specs.declared.trace.Trace.{Trace}
use Rattle.qu_world.specs.State.{WorldState, ring_of, letter_of}
use Rattle.qu_trace.specs.Faulty.{is_faulty}
use Rattle.qu_world.specs.Step.{world_step, unchanged}
use Rattle.qu_claims.specs.Handled.{request_to}
use Rattle.qu_claims.specs.Premises.{IsUnforged}
use Rattle.qu_claims.specs.Times.{world_after}

-- the parts are those of an act or a query, the numbers of an act fit their bytes, and no part carries more than it may
abbrev pub HasOpParts : Op → Type 0
HasOpParts (op.Act parts) = IsTrue (are_parts parts) × PartsFit parts
HasOpParts (op.Query parts) = IsTrue (are_parts parts) × AsksFit parts

abbrev pub HasEventParts : Event → Type 0
HasEventParts (Invoke client op) = (client.0 < 2 ^ 16) × HasOpParts op
HasEventParts (Deliver letter) = Unit {0}
HasEventParts (Tick client) = Unit {0}
HasEventParts (Inject party text) = AreBytes text

-- each operation that begins has parts, and a client whose number fits its bytes; and what is injected are bytes
abbrev pub HaveParts : List Entry → Type 0
HaveParts entries = AllByRecursion (λ entry. HasEventParts entry.event) entries

-- bytes for a faulty party, or of which no frame with a right HMAC is decoded, so that nothing happens
pub record IsIgnored (world : WorldState) (to : Party) (text : List ℕ) : Type 0 where
  pub nothing : request_to world.setup text to ≡ None
  pub same : world_step world (Inject to text) ≡ unchanged world (Inject to text)

-- bytes that were sent to this party
pub record WasSent (world : WorldState) (to : Party) (text : List ℕ) : Type 0 where
  pub number : ℕ
  pub letter : Letter
  pub is_letter : letter_of world number ≡ Some letter
  pub to_is : letter.to ≡ to
  pub text_is : letter.text ≡ text

-- bytes that bring a party a frame of a faulty one
pub record IsOfFaulty (world : WorldState) (to : Party) (text : List ℕ) : Type 0 where
  pub bytes : AreBytes text
  pub taken : Frame
  pub brings : brought (ring_of world.setup) to text ≡ Some taken
  pub faulty : is_faulty world.setup (sender taken) ≡ true

-- where the bytes that a party takes are from
abbrev pub IsFrom : WorldState → Party → List ℕ → Type 0
IsFrom world to text = WasSent world to text ⊎ IsOfFaulty world to text

-- an event that hands a party no bytes that it takes but those of a letter that was sent to it, or those of a faulty
-- party
abbrev pub IsPlain : WorldState → Event → Type 0
IsPlain world (Invoke client op) = (client.0 < 2 ^ 16) × HasOpParts op
IsPlain world (Deliver letter) = Unit {0}
IsPlain world (Tick client) = Unit {0}
IsPlain world (Inject to text) = IsIgnored world to text ⊎ IsFrom world to text

-- what types and memory keep of the events of a run, whatever is forged
pub record AreTyped (trace : Trace) : Type 0 where
  pub parts : HaveParts trace.entries
  -- so many entries at most are in memory
  pub few : length trace.entries < 2 ^ 63

pub record ArePlain (trace : Trace) : Type 0 where
  pub typed : AreTyped trace
  pub unforged : IsUnforged trace
  pub plain_at : (at : ℕ) (default : Entry) → at < length trace.entries → IsPlain (world_after trace at)
      (get_or trace.entries at default).event
