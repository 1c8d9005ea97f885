-- A request that a correct replica handles: the event at which its text came, the event at which it is handled, the
-- state before with what is learned then, and the state after. A request that waited is handled later than it came.
use Rattle.std.specs.Prelude.{◌≡◌, ℕ, ◌+◌, ◌≤◌, List, ◌++◌, All, slice_get, Option, None, Some, option_map}
use Rattle.qu_base.specs.declared.party.Party.TheVariants as party
use Rattle.qu_frames.specs.declared.frame.Frame.{Frame}
use Rattle.qu_frames.specs.Signing.{brought}
use Rattle.qu_versions.specs.declared.stored.Stored.{Stored}
use Rattle.qu_versions.specs.Versions.{version_at}
use Rattle.qu_rows.specs.State.{ReplicaState}
use Rattle.qu_waiting.specs.Waiting.{request_frame_of}
use Rattle.qu_replica.specs.Growth.{HoldsAlike}
use Rattle.qu_replica.specs.Step.{handled, replica_on_frame}
use Rattle.qu_trace.specs.declared.trace.Entry.{Entry}
use Rattle.qu_trace.specs.declared.trace.Trace.{Trace}
use Rattle.qu_claims.specs.Carried.{Brings, handed}
use Rattle.qu_claims.specs.Times.{world_after}

-- a version that a correct replica found under its stamp by this time
pub record WasFound (trace : Trace) (time : ℕ) (version : Stored) : Type 0 where
  pub past : ℕ
  pub earlier : past ≤ time
  pub place : ℕ
  pub state : ReplicaState
  pub is_state : slice_get (world_after trace past).replicas place ≡ Some state
  pub found : version_at version.object version.stamp state.versions ≡ Some version.state

-- what a replica learns at an event besides what it accepts: versions that correct replicas found before
pub record Learns (trace : Trace) (time : ℕ) (old mid : ReplicaState) : Type 0 where
  pub me : mid.me ≡ old.me
  pub keys : mid.keys ≡ old.keys
  pub histories : mid.histories ≡ old.histories
  pub more : List Stored
  pub versions : mid.versions ≡ old.versions ++ more
  pub were_found : All (WasFound trace time) more

-- the request that a replica handles at an event that brings it this frame, or none
abbrev pub handled_now : ReplicaState → Option Frame → Option Frame
handled_now state None = None
handled_now state (Some taken) = option_map request_frame_of (handled state taken)

-- at this event the replica at this place handles a request
pub record Handles (trace : Trace) (at place : ℕ) (old new : ReplicaState) : Type 0 where
  pub is_old : slice_get (world_after trace at).replicas place ≡ Some old
  pub is_new : slice_get (world_after trace (at + 1)).replicas place ≡ Some new
  -- what the event hands over, which decides the request
  pub now : Entry
  pub is_now : slice_get trace.entries at ≡ Some now
  pub given : List ℕ
  pub is_given : handed (world_after trace at) now.event ≡ Some (party.Replica (record { 0 = place }), given)
  pub carried : Frame
  pub is_carried : handled_now old (brought old.keys (party.Replica old.me) given) ≡ Some carried
  -- the event at which its text came to the replica, as this was then
  pub since : ℕ
  pub came : since ≤ at
  pub entry : Entry
  pub is_entry : slice_get trace.entries since ≡ Some entry
  pub receiver : ReplicaState
  pub is_receiver : slice_get (world_after trace since).replicas place ≡ Some receiver
  pub text : List ℕ
  pub is_handed : handed (world_after trace since) entry.event ≡ Some (party.Replica (record { 0 = place }), text)
  pub brings : Brings receiver text carried
  -- the state upon which it is handled, and what becomes of that
  pub mid : ReplicaState
  pub learns : Learns trace at old mid
  pub made : HoldsAlike new (replica_on_frame mid carried).0
