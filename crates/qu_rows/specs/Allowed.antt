-- What a replica may accept, and so decide.
use Rattle.std.specs.Prelude.{◌≡◌, Bool, true, ◌<◌, ◌≤◌, List, [], ◌∷◌, length, IsTrue}
use Rattle.std.specs.List.{AllByRecursion}
use Rattle.qu_stamp.specs.declared.limits.TheConstants.{LAST_TIME}
use Rattle.qu_stamp.specs.Stamp.{is_below}
use Rattle.qu_history.specs.declared.limits.TheConstants.{HISTORY_LIMIT}
use Rattle.qu_objects.specs.Parts.{are_parts}
use Rattle.qu_frames.specs.declared.frame.Body.{Body}
use Rattle.qu_frames.specs.declared.frame.Body.TheVariants as body
use Rattle.qu_frames.specs.declared.frame.Frame.{Frame}
use Rattle.qu_frames.specs.declared.frame.Frame.TheVariants as frame
use Rattle.qu_mends.specs.declared.accepted.Accepted.{Accepted}
use Rattle.qu_rows.specs.declared.decision.Decision.{Decision}
use Rattle.qu_rows.specs.declared.decision.Decision.TheVariants.{Answers, Waits}
use Rattle.qu_rows.specs.State.{ReplicaState, own_candidates, own_latest}

-- a candidate that a replica may accept
pub record MayAccept (state : ReplicaState) (accepted : Accepted) : Type 0 where
  pub known : (accepted.object).0 < length state.histories
  pub later : is_below (own_latest state accepted.object) accepted.candidate.stamp ≡ true
  pub room : length (own_candidates state accepted.object) < HISTORY_LIMIT
  pub in_time : accepted.candidate.stamp.time ≤ LAST_TIME

-- candidates of different objects, each of which it may accept
abbrev pub MayAcceptAll : ReplicaState → List Accepted → Type 0
MayAcceptAll state [] = Unit {0}
MayAcceptAll state (accepted ∷ later) =
    MayAccept state accepted
    × AllByRecursion (λ other. other.object ≡ accepted.object → ⊥) later
    × MayAcceptAll state later

abbrev pub MayDecide : ReplicaState → Decision → Type 0
MayDecide state (Answers verdict accepted) = MayAcceptAll state accepted
MayDecide state (Waits missing) = Unit {0}

-- the parts of a request are those of an act or a query
abbrev pub has_parts : Body → Bool
has_parts (body.Act parts) = are_parts parts
has_parts (body.Ask parts) = are_parts parts
has_parts (body.Mend target) = true

abbrev pub HasParts : Frame → Type 0
HasParts (frame.Request client number round sets asked mac) = IsTrue (has_parts asked)
HasParts _ = Unit {0}
