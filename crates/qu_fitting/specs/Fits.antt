-- What a replica holds, and what it sends, fits the formats of bytes.
use Rattle.std.specs.Prelude.{◌≡◌, ℕ, ◌-◌, ◌^◌, ◌≤◌, List, length, slice_get, Option, None, Some, IsTrue}
use Rattle.std.specs.List.{AllByRecursion}
use Rattle.qu_base.specs.declared.limits.TheConstants.{LAST_CLIENT, OBJECT_IDS, REPLICA_IDS}
use Rattle.qu_base.specs.Bounds.{replicas, is_replica_count}
use Rattle.qu_history.specs.History.{ObjectHistory}
use Rattle.qu_history.specs.Formats.{candidates_form}
use Rattle.qu_objects.specs.declared.kind.Value.{Value}
use Rattle.qu_objects.specs.declared.state.KeptRow.{KeptRow}
use Rattle.qu_objects.specs.declared.state.ObjState.{ObjState}
use Rattle.qu_objects.specs.Formats.{answer_form}
use Rattle.qu_objects.specs.States.{value_form, links_form}
use Rattle.qu_kept.specs.Rows.{AreRising}
use Rattle.qu_frames.specs.declared.frame.Frame.{Frame}
use Rattle.qu_frames.specs.declared.frame.Letter.{Letter}
use Rattle.qu_frames.specs.Formats.{frame_form}
use Rattle.qu_versions.specs.declared.stored.Stored.{Stored}
use Rattle.qu_waiting.specs.Waiting.{Waiting, request_frame_of}
use Rattle.qu_rows.specs.State.{ReplicaState, AreHistories}

-- a value has bytes
abbrev pub ValueFits : Value → Type 0
ValueFits value = value_form.Fits value

-- what is kept of an update can be told
pub record RowFits (row : KeptRow) : Type 0 where
  pub low : 1 ≤ (row.client).0
  pub high : (row.client).0 ≤ LAST_CLIENT
  pub number : row.number ≤ 2 ^ 64 - 1
  pub act : length (row.act).0 ≡ 32
  pub answer : answer_form.Fits row.answer

-- its rows stand by rising clients
pub record VersionFits (version : ObjState) : Type 0 where
  pub value : ValueFits version.value
  pub kept : AllByRecursion RowFits version.kept
  pub rising : AreRising version.kept
  pub links : links_form.Fits version.links

abbrev pub VersionsFit : List Stored → Type 0
VersionsFit versions = AllByRecursion (λ stored. VersionFits stored.state) versions

abbrev pub SlotFits : Option Waiting → Type 0
SlotFits None = Unit {0}
SlotFits (Some waiting) = frame_form.Fits (request_frame_of waiting.request)

-- a replica that has a number, of as many as some number of faults wants, with no more objects than have numbers
pub record StateFits (state : ReplicaState) : Type 0 where
  pub me : (state.me).0 ≤ REPLICA_IDS - 1
  pub bounds : IsTrue (is_replica_count (replicas state.keys.bounds))
  pub few : length state.histories ≤ OBJECT_IDS
  pub own : AreHistories state
  pub histories : (place : ℕ) (history : ObjectHistory) → slice_get state.histories place ≡ Some history
      → (candidates_form history.object).Fits history.candidates
  pub versions : VersionsFit state.versions
  pub waiting : AllByRecursion SlotFits state.waiting

-- a letter carries the one spelling of a frame that fits
pub record LetterFits (letter : Letter) : Type 0 where
  pub sent : Frame
  pub fits : frame_form.Fits sent
  pub text : letter.text ≡ frame_form.spell sent

-- the state and the letters that a step makes
abbrev pub StepFits : ReplicaState × List Letter → Type 0
StepFits made = StateFits made.0 × AllByRecursion LetterFits made.1
