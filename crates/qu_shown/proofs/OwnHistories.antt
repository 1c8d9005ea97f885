-- The history at each place of a replica is its own, of the object with that number. So a history
-- that a replica has is found where its own names point.
use Rattle.std.proofs.Common.{◌≡◌, ℕ, zero, suc, ◌+◌, List, [], ◌∷◌, ◌++◌, Option, Some, refl, sym, ap, subst, ◌∙◌, arith, inl, inr, add-zero, zero-add, None}
use Rattle.std.specs.Prelude.{slice_get, slice_set}
use Rattle.std.specs.Option.{option_and_then}
use Rattle.std.proofs.lemmas.Option.{none-some, same_Some}
use Rattle.qu_base.specs.declared.party.ObjectId.{ObjectId}
use Rattle.qu_base.specs.declared.party.ReplicaId.{ReplicaId}
use Rattle.qu_stamp.specs.declared.candidate.Candidate.{Candidate}
use Rattle.qu_history.specs.History.{ObjectHistory}
use Rattle.qu_objects.specs.declared.kind.KindName.{KindName}
use Rattle.qu_frames.specs.declared.frame.Frame.{Frame}
use Rattle.qu_frames.specs.declared.frame.Frame.TheVariants as frame
use Rattle.qu_mends.specs.declared.accepted.Accepted.{Accepted}
use Rattle.qu_rows.specs.declared.decision.Decision.{Decision}
use Rattle.qu_rows.specs.declared.decision.Decision.TheVariants.{Answers, Waits}
use Rattle.qu_rows.specs.State.{ReplicaState}
use Rattle.qu_fitting.specs.Holding.{with_candidate, accept, accept_all, replica_at_start}
use Rattle.qu_rows.specs.Rows.{asked_at, decision_on}
use Rattle.qu_replica.specs.Step.{with_waiting, carried_out, learned, handled, if_handled, replica_on_frame, replica_on_received, replica_step}
use Rattle.qu_waiting.specs.Waiting.{TakenRequest}
use Rattle.qu_rows.proofs.Own.{IsOwn, own_history}
use Rattle.qu_replica.proofs.States.Learning.{Learned, is_learned}
use Rattle.qu_fitting.proofs.OwnHistories.{opening-histories}
use Rattle.qu_world.specs.State.{WorldState, opening_replicas, history_at}
use Rattle.qu_world.proofs.Each.{set_cases}
use Rattle.qu_frames.specs.Signing.{brought}
use Rattle.qu_seal.specs.Keys.{Ring}
use Rattle.qu_base.specs.declared.party.Party.TheVariants as party

-- a history of this replica and of the object with this number
pub record IsOf (me : ReplicaId) (place : ℕ) (history : ObjectHistory) : Type 0 where
  pub object : (history.object).0 ≡ place
  pub replica : (history.replica).0 ≡ me.0

-- the replica has this number, and each of its histories is in its place
pub record IsInPlace (number : ℕ) (state : ReplicaState) : Type 0 where
  pub me : (state.me).0 ≡ number
  pub own : (place : ℕ) (history : ObjectHistory) → slice_get state.histories place ≡ Some history
      → IsOf state.me place history

abbrev pub AreInPlace : List ReplicaState → Type 0
AreInPlace states = (number : ℕ) (state : ReplicaState) → slice_get states number ≡ Some state → IsInPlace number state

-- ---- the steps of a replica

-- a history that was there before, with the same names
record WasNamed (histories : List ObjectHistory) (place : ℕ) (history : ObjectHistory) : Type 0 where
  before : ObjectHistory
  found : slice_get histories place ≡ Some before
  object : history.object ≡ before.object
  replica : history.replica ≡ before.replica

named_before : (number place : ℕ) (candidate : Candidate) (histories : List ObjectHistory)
    (history : ObjectHistory) → slice_get (with_candidate number candidate histories) place ≡ Some history
    → WasNamed histories place history
unfolding with_candidate
named_before number place candidate [] history found = absurd (none-some history found)
named_before zero zero candidate (first ∷ later) history found =
    let same : record first { candidates = first.candidates ++ candidate ∷ [] } ≡ history = same_Some _ history found in
    record {
      before = first;
      found = refl;
      object = ap (λ (it : ObjectHistory). it.object) (sym same);
      replica = ap (λ (it : ObjectHistory). it.replica) (sym same);
    }
named_before zero (suc place) candidate (first ∷ later) history found =
    record { before = history; found = found; object = refl; replica = refl }
named_before (suc number) zero candidate (first ∷ later) history found =
    record { before = history; found = found; object = refl; replica = refl }
named_before (suc number) (suc place) candidate (first ∷ later) history found =
    let was : WasNamed later place history = named_before number place candidate later history found in
    record { before = was.before; found = was.found; object = was.object; replica = was.replica }

accept-in_place : (number : ℕ) (state : ReplicaState) (accepted : Accepted) → IsInPlace number state
    → IsInPlace number (accept state accepted)
accept-in_place number state accepted in_place = record {
  me = in_place.me;
  own = λ place history found.
      let was : WasNamed state.histories place history =
      named_before (accepted.object).0 place accepted.candidate state.histories history found in
      let own : IsOf state.me place was.before = in_place.own place was.before was.found in
      record {
        object = ap (λ (it : ObjectId). it.0) was.object ∙ own.object;
        replica = ap (λ (it : ReplicaId). it.0) was.replica ∙ own.replica;
      };
}

accept_all-in_place : (number : ℕ) (state : ReplicaState) (accepted : List Accepted) → IsInPlace number state
    → IsInPlace number (accept_all state accepted)
unfolding accept_all
accept_all-in_place number state [] in_place = in_place
accept_all-in_place number state (first ∷ later) in_place =
    accept_all-in_place number (accept state first) later (accept-in_place number state first in_place)

-- nothing else of a state matters
in_place-as : (place : ℕ) (old new : ReplicaState) → new.me ≡ old.me → new.histories ≡ old.histories
    → IsInPlace place old → IsInPlace place new
in_place-as place old new me histories in_place = record {
  me = ap (λ (it : ReplicaId). it.0) me ∙ in_place.me;
  own = λ at history found.
      subst (λ (it : ReplicaId). IsOf it at history) (sym me)
      (in_place.own at history (ap (λ (them : List ObjectHistory). slice_get them at) (sym histories) ∙ found));
}

carried_out-in_place : (place : ℕ) (state : ReplicaState) (request : TakenRequest) (decision : Decision)
    → IsInPlace place state → IsInPlace place (carried_out state request decision).0
carried_out-in_place place state request (Answers verdict accepted) in_place =
    accept_all-in_place place state accepted in_place
carried_out-in_place place state request (Waits missing) in_place =
    in_place-as place state (with_waiting state request missing) refl refl in_place

if_handled-in_place : (place : ℕ) (state : ReplicaState) (found : Option TakenRequest) → IsInPlace place state
    → IsInPlace place (if_handled state found).0
if_handled-in_place place state None in_place = in_place
if_handled-in_place place state (Some request) in_place =
    carried_out-in_place place state request
    (decision_on state (asked_at state request.client request.number request.sets request.body) request.body) in_place

frame-in_place : (place : ℕ) (state : ReplicaState) (received : Frame) → IsInPlace place state
    → IsInPlace place (replica_on_frame state received).0
frame-in_place place state (frame.Request client number round sets body mac) in_place =
    if_handled-in_place place state (handled state (frame.Request client number round sets body mac)) in_place
frame-in_place place state (frame.Fetched replica object stamp version mac) in_place =
    let taken : Frame = frame.Fetched replica object stamp version mac in
    let is : Learned state taken (learned state taken) = is_learned state taken in
    if_handled-in_place place (learned state taken) (handled state taken)
    (in_place-as place state (learned state taken) is.me is.histories in_place)
frame-in_place place state _ in_place = in_place

brought-in_place : (place : ℕ) (state : ReplicaState) (found : Option Frame) → IsInPlace place state
    → IsInPlace place (replica_on_received state found).0
brought-in_place place state (Some taken) in_place = frame-in_place place state taken in_place
brought-in_place place state None in_place = in_place

pub step-in_place : (place : ℕ) (state : ReplicaState) (text : List ℕ) → IsInPlace place state
    → IsInPlace place (replica_step state text).0
step-in_place place state text in_place =
    brought-in_place place state (brought state.keys (party.Replica state.me) text) in_place

-- ---- all replicas of a world

opening-in_place : (me : ReplicaId) (keys : Ring) (kinds : List KindName)
    → IsInPlace me.0 (replica_at_start me keys kinds)
opening-in_place me keys kinds = record {
  me = refl;
  own = λ place history found.
      let own : IsOwn me place history = own_history (replica_at_start me keys kinds) place history
      (opening-histories me keys kinds) found in
      record { object = own.object; replica = own.replica };
}

opening_from : (first count : ℕ) (keys : Ring) (kinds : ℕ → List KindName) (number : ℕ)
    (state : ReplicaState) → slice_get (opening_replicas first count keys kinds) number ≡ Some state
    → IsInPlace (first + number) state
unfolding opening_replicas
opening_from first zero keys kinds number state found = absurd (none-some state found)
opening_from first (suc count) keys kinds zero state found =
    rw add-zero (subst (IsInPlace first) (same_Some _ state found)
    (opening-in_place (record { 0 = first }) keys (kinds first)))
opening_from first (suc count) keys kinds (suc number) state found =
    let sum : (first + 1) + number ≡ first + suc number = omega arith in
    subst (λ (it : ℕ). IsInPlace it state) sum (opening_from (first + 1) count keys kinds number state found)

pub opening-all_in_place : (count : ℕ) (keys : Ring) (kinds : ℕ → List KindName)
    → AreInPlace (opening_replicas 0 count keys kinds)
opening-all_in_place count keys kinds = λ number state found.
    subst (λ (it : ℕ). IsInPlace it state) (zero-add number) (opening_from 0 count keys kinds number state found)

pub set-in_place : (states : List ReplicaState) (number : ℕ) (new : ReplicaState) → AreInPlace states
    → IsInPlace number new → AreInPlace (slice_set states number new)
set-in_place states number new all here = λ other state found.
    elim (set_cases states number other new state found) [
      | inr before ↦ all other state before.1
      | inl it ↦ subst (λ (at : ℕ). IsInPlace at state) (sym it.0) (subst (IsInPlace number) (sym it.1) here)
    ]

-- ---- where a history is found

pub found_where_named : (world : WorldState) (number : ℕ) (state : ReplicaState) (place : ℕ)
    (history : ObjectHistory) → slice_get world.replicas number ≡ Some state → IsInPlace number state
    → slice_get state.histories place ≡ Some history → history_at world history.replica history.object ≡ Some history
found_where_named world number state place history is_state in_place found =
    let own : IsOf state.me place history = in_place.own place history found in
    let look : Option ReplicaState → Option ObjectHistory =
    λ there. option_and_then (λ (it : ReplicaState). slice_get it.histories (history.object).0) there in
    ap (λ (at : ℕ). look (slice_get world.replicas at)) (own.replica ∙ in_place.me) ∙
    ap look is_state ∙
    ap (λ (at : ℕ). slice_get state.histories at) own.object ∙
    found
