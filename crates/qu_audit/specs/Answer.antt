-- What an audit of a run tells: that its premises hold, or the first event that breaks one.
use Rattle.std.specs.Prelude.{◌≡◌, ◌≢◌, ℕ, ◌+◌, ◌<◌, ◌≤◌, List, [], length, get_or, Option, None, Some, Contains}
use Rattle.qu_seal.specs.Digesting.{digest_of}
use Rattle.qu_trace.specs.declared.trace.Entry.{Entry}
use Rattle.qu_trace.specs.declared.trace.Trace.{Trace}
use Rattle.qu_world.specs.State.{numbered}
use Rattle.qu_claims.specs.Digested.{Text, texts_at}
use Rattle.qu_claims.specs.Premises.{IsUnforgedAt, MeetsPremises}
use Rattle.qu_claims.specs.Times.{world_after}
use Rattle.qu_trace.specs.declared.premises.Premises.{Premises}
use Rattle.qu_trace.specs.declared.premises.Premises.TheVariants.{Hold, Forged, Collide}

-- ---- the first event that hands over what is forged

-- nothing is forged at the event with this index
abbrev pub UnforgedAt : Trace → ℕ → Type 0
UnforgedAt trace index = (default : Entry) → IsUnforgedAt (world_after trace index)
    (get_or trace.entries index default).event

-- nothing is forged at the first events
abbrev pub UnforgedBefore : Trace → ℕ → Type 0
UnforgedBefore trace count = (index : ℕ) → index < length trace.entries → index < count → UnforgedAt trace index

-- ---- the first event that digests a text with the digest of another

abbrev pub texts_of_entry : Trace → Option Entry → List Text
texts_of_entry trace None = []
texts_of_entry trace (Some entry) = texts_at trace entry

-- the texts that are digested at the event with this number
abbrev pub texts_by : Trace → ℕ → List Text
texts_by trace event = texts_of_entry trace (numbered trace.entries event)

-- the second event digests a text that has the digest of another text, and the first event, which is not later,
-- digests that other text
pub record DoCollide (trace : Trace) (first second : ℕ) : Type 0 where
  pub order : first ≤ second
  pub one : Text
  pub other : Text
  pub at_first : Contains (texts_by trace first) one
  pub at_second : Contains (texts_by trace second) other
  pub apart : one ≢ other
  pub same : digest_of one.tag one.bytes ≡ digest_of other.tag other.bytes

-- no text collides at the events before this one
abbrev pub NoneCollideBefore : Trace → ℕ → Type 0
NoneCollideBefore trace event = (first second : ℕ) → second < event → ¬ (DoCollide trace first second)

-- ---- the answer

-- what is forged at this event is the first that breaks a premise; texts may collide at the event itself
pub record IsFirstForged (trace : Trace) (event : ℕ) : Type 0 where
  pub index : ℕ
  pub is_event : event ≡ index + 1
  pub within : index < length trace.entries
  pub forged : ¬ (UnforgedAt trace index)
  pub unforged_before : UnforgedBefore trace index
  pub none_collide : NoneCollideBefore trace event

-- two texts are the first that break a premise: the first event is the earliest with a text that collides at the
-- second one
pub record IsFirstCollision (trace : Trace) (first second : ℕ) : Type 0 where
  pub collide : DoCollide trace first second
  pub earliest : (event : ℕ) → DoCollide trace event second → first ≤ event
  pub none_before : NoneCollideBefore trace second
  pub unforged : UnforgedBefore trace second

abbrev pub IsAnswer : Trace → Premises → Type 0
IsAnswer trace Hold = MeetsPremises trace
IsAnswer trace (Forged event) = IsFirstForged trace event
IsAnswer trace (Collide first second) = IsFirstCollision trace first second
