-- What a run shows of each of its objects: what is established without barrier is never lost, it stays an ancestor of
-- all such that comes above it (Query/Update: an established candidate is in the history of every later one).
use Rattle.std.specs.Prelude.{◌≡◌, true, length}
use Rattle.qu_base.specs.declared.party.ObjectId.{ObjectId}
use Rattle.qu_stamp.specs.declared.candidate.Candidate.{Candidate}
use Rattle.qu_stamp.specs.Stamp.{is_below}
use Rattle.qu_claims.specs.Setting.{IsAccepted, IsAncestor, ChainHolds}
use Rattle.qu_claims.specs.Decided.{IsDecided}
use Rattle.qu_trace.specs.declared.trace.Trace.{Trace}
use Rattle.qu_world.specs.State.{WorldState}
use Rattle.qu_claims.specs.RunSetting.{setting}
use Rattle.qu_claims.specs.Times.{world_after}

-- the world after all events of a trace
abbrev pub last_world : Trace → WorldState
last_world trace = world_after trace (length trace.entries)

pub record IsChained (trace : Trace) : Type 0 where
  -- of candidates without barrier, an established one is an ancestor of every attested one that is above it
  pub chain : ChainHolds (setting trace) (setting trace).last
  -- of two decided candidates of an object the lower one is an ancestor of the other
  pub ordered : (object : ObjectId) (first second : Candidate)
      → IsDecided (setting trace) (setting trace).last object first
      → IsDecided (setting trace) (setting trace).last object second
      → is_below first.stamp second.stamp ≡ true
      → IsAncestor (setting trace) (setting trace).last object first second
  -- a stamp that a replica accepted is that of one candidate
  pub one : (object : ObjectId) (first second : Candidate)
      → IsAccepted (setting trace) (setting trace).last object first
      → IsAccepted (setting trace) (setting trace).last object second
      → first.stamp ≡ second.stamp → first ≡ second
