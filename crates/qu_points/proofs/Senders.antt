-- Whose letters a replica sends.
use Rattle.std.proofs.Common.{◌≡◌, ℕ, zero, suc, ◌+◌, ◌==◌, true, List, [], ◌∷◌, Option, None, Some, refl}
use Rattle.std.specs.List.{AllByRecursion}
use Rattle.std.proofs.lemmas.Bool.{cond_both}
use Rattle.qu_base.specs.Bounds.{replicas}
use Rattle.qu_base.specs.declared.party.ObjectId.{ObjectId}
use Rattle.qu_base.specs.declared.party.Party.TheVariants as party
use Rattle.qu_base.specs.declared.party.ReplicaId.{ReplicaId}
use Rattle.qu_base.proofs.EachItem.{each_append}
use Rattle.qu_seal.specs.Keys.{Ring}
use Rattle.qu_stamp.specs.declared.stamp.Stamp.{Stamp}
use Rattle.qu_objects.specs.declared.state.ObjState.{ObjState}
use Rattle.qu_frames.specs.declared.frame.Frame.{Frame}
use Rattle.qu_frames.specs.declared.frame.Frame.TheVariants as frame
use Rattle.qu_frames.specs.declared.frame.Letter.{Letter}
use Rattle.qu_frames.specs.Signing.{brought}
use Rattle.qu_rows.specs.declared.decision.Decision.{Decision}
use Rattle.qu_rows.specs.declared.decision.Decision.TheVariants.{Answers, Waits}
use Rattle.qu_rows.specs.Rows.{asked_at, decision_on}
use Rattle.qu_rows.specs.State.{ReplicaState}
use Rattle.qu_waiting.specs.Waiting.{TakenRequest}
use Rattle.qu_replica.specs.Step.{fetches_from, fetches_of, version_letters, carried_out, handled, learned, if_handled, replica_on_frame, replica_on_received, replica_step}
use Rattle.qu_trace.specs.Faulty.{is_replica}

-- the letter is a replica's
abbrev pub IsOfReplica : Letter → Type 0
IsOfReplica letter = is_replica letter.from ≡ true

fetches_from-of : (keys : Ring) (me : ReplicaId) (key : ObjectId × Stamp) (replica count : ℕ)
    → AllByRecursion IsOfReplica (fetches_from keys me key replica count)
unfolding fetches_from
fetches_from-of keys me key replica zero = tt
fetches_from-of keys me key replica (suc count) =
    cond_both (replica == me.0) _ _ (AllByRecursion IsOfReplica) (λ _. fetches_from-of keys me key (replica + 1) count)
    (λ _. (refl, fetches_from-of keys me key (replica + 1) count))

fetches_of-of : (keys : Ring) (me : ReplicaId) (missing : List (ObjectId × Stamp))
    → AllByRecursion IsOfReplica (fetches_of keys me missing)
unfolding fetches_of
fetches_of-of keys me [] = tt
fetches_of-of keys me (key ∷ later) =
    each_append IsOfReplica _ _ (fetches_from-of keys me key 0 (replicas keys.bounds)) (fetches_of-of keys me later)

version_letters-of : (state : ReplicaState) (to : ReplicaId) (object : ObjectId) (stamp : Stamp)
    (found : Option ObjState) → AllByRecursion IsOfReplica (version_letters state to object stamp found)
version_letters-of state to object stamp None = tt
version_letters-of state to object stamp (Some version) = (refl, tt)

carried_out-of : (state : ReplicaState) (request : TakenRequest) (decision : Decision)
    → AllByRecursion IsOfReplica (carried_out state request decision).1
carried_out-of state request (Answers verdict accepted) = (refl, tt)
carried_out-of state request (Waits missing) = fetches_of-of state.keys state.me missing

if_handled-of : (state : ReplicaState) (found : Option TakenRequest)
    → AllByRecursion IsOfReplica (if_handled state found).1
if_handled-of state None = tt
if_handled-of state (Some request) =
    carried_out-of state request
    (decision_on state (asked_at state request.client request.number request.sets request.body) request.body)

on_frame-of : (state : ReplicaState) (sent : Frame) → AllByRecursion IsOfReplica (replica_on_frame state sent).1
on_frame-of state (frame.Request client number round sets body mac) =
    if_handled-of state (handled state (frame.Request client number round sets body mac))
on_frame-of state (frame.Fetched replica object stamp version mac) =
    if_handled-of (learned state (frame.Fetched replica object stamp version mac))
    (handled state (frame.Fetched replica object stamp version mac))
on_frame-of state (frame.Fetch replica object stamp mac) = version_letters-of state replica object stamp _
on_frame-of state (frame.Reply replica client number round verdict culled shown mac) = tt

on_received-of : (state : ReplicaState) (found : Option Frame)
    → AllByRecursion IsOfReplica (replica_on_received state found).1
on_received-of state None = tt
on_received-of state (Some sent) = on_frame-of state sent

-- all that a replica sends is its own
pub replica_sends : (state : ReplicaState) (text : List ℕ) → AllByRecursion IsOfReplica (replica_step state text).1
replica_sends state text = on_received-of state (brought state.keys (party.Replica state.me) text)
