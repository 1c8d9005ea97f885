-- A replica's state only grows.
use Rattle.std.proofs.Common.{◌≡◌, ℕ, zero, suc, List, [], ◌∷◌, ◌++◌, length, Option, None, Some, refl, sym, ap, ◌∙◌, append_assoc, inl, inr}
use Rattle.std.specs.Prelude.{slice_get}
use Rattle.std.proofs.lemmas.List.{append-nil}
use Rattle.qu_base.specs.declared.party.Party.TheVariants as party
use Rattle.qu_stamp.specs.declared.candidate.Candidate.{Candidate}
use Rattle.qu_seal.specs.Keys.{Ring}
use Rattle.qu_history.specs.History.{ObjectHistory}
use Rattle.qu_frames.specs.declared.frame.Frame.{Frame}
use Rattle.qu_frames.specs.Signing.{brought}
use Rattle.qu_frames.specs.declared.frame.Frame.TheVariants as frame
use Rattle.qu_versions.specs.declared.stored.Stored.{Stored}
use Rattle.qu_mends.specs.declared.accepted.Accepted.{Accepted}
use Rattle.qu_rows.specs.declared.decision.Decision.{Decision}
use Rattle.qu_rows.specs.declared.decision.Decision.TheVariants.{Answers, Waits}
use Rattle.qu_rows.specs.State.{ReplicaState, own_candidates}
use Rattle.qu_mends.specs.Table.{candidates_in}
use Rattle.qu_fitting.specs.Holding.{with_candidate, stored_if, accept, accept_all}
use Rattle.qu_rows.specs.Rows.{asked_at, decision_on}
use Rattle.qu_waiting.specs.Waiting.{TakenRequest}
use Rattle.qu_replica.proofs.States.Learning.{Learned, is_learned}
use Rattle.qu_replica.specs.Step.{with_waiting, carried_out, learned, handled, if_handled, replica_on_frame, replica_on_received, replica_step}
use Rattle.qu_replica.specs.Growth.{Grows}
use Rattle.qu_fitting.proofs.Accepting.{length-with_candidate}

candidates-with_candidate : (number place : ℕ) (candidate : Candidate) (histories : List ObjectHistory)
    → (more : List Candidate)
    × (candidates_in (slice_get (with_candidate number candidate histories) place) ≡ candidates_in
    (slice_get histories place) ++ more)
unfolding with_candidate
candidates-with_candidate number place candidate [] = ([], refl)
candidates-with_candidate zero zero candidate (history ∷ later) = (candidate ∷ [], refl)
candidates-with_candidate zero (suc place) candidate (history ∷ later) = ([], sym (append-nil _))
candidates-with_candidate (suc number) zero candidate (history ∷ later) = ([], sym (append-nil _))
candidates-with_candidate (suc number) (suc place) candidate (history ∷ later) =
    candidates-with_candidate number place candidate later

pub grows-self : (state : ReplicaState) → Grows state state
grows-self state = record {
  me = refl;
  keys = refl;
  number = refl;
  candidates = λ object. ([], sym (append-nil _));
  versions = ([], sym (append-nil _));
}

pub grows-chain : (old middle new : ReplicaState) → Grows old middle → Grows middle new → Grows old new
grows-chain old middle new first second = record {
  me = second.me ∙ first.me;
  keys = second.keys ∙ first.keys;
  number = second.number ∙ first.number;
  candidates = λ object.
      let one = first.candidates object in
      let two = second.candidates object in (
        one.0 ++ two.0,
        two.1 ∙ ap (λ (held : List Candidate). held ++ two.0) one.1
            ∙ append_assoc (own_candidates old object) one.0 two.0,
      );
  versions =
      let one = first.versions in
      let two = second.versions in (
        one.0 ++ two.0,
        two.1 ∙ ap (λ (held : List Stored). held ++ two.0) one.1
            ∙ append_assoc old.versions one.0 two.0,
      );
}

pub accept-grows : (state : ReplicaState) (accepted : Accepted) → Grows state (accept state accepted)
accept-grows state accepted = record {
  me = refl;
  keys = refl;
  number = length-with_candidate (accepted.object).0 accepted.candidate state.histories;
  candidates = λ object. candidates-with_candidate (accepted.object).0 object.0 accepted.candidate state.histories;
  versions = (stored_if accepted.object accepted.candidate.stamp accepted.state, refl);
}

pub accept_all-grows : (state : ReplicaState) (accepted : List Accepted) → Grows state (accept_all state accepted)
unfolding accept_all
accept_all-grows state [] = grows-self state
accept_all-grows state (first ∷ later) =
    grows-chain state (accept state first) (accept_all (accept state first) later)
    (accept-grows state first) (accept_all-grows (accept state first) later)

pub accept_all-me : (state : ReplicaState) (accepted : List Accepted) → (accept_all state accepted).me ≡ state.me
accept_all-me state accepted = (accept_all-grows state accepted).me

pub accept_all-keys : (state : ReplicaState) (accepted : List Accepted) → (accept_all state accepted).keys ≡ state.keys
accept_all-keys state accepted = (accept_all-grows state accepted).keys

pub accept_all-bounds : (state : ReplicaState) (accepted : List Accepted)
    → (accept_all state accepted).keys.bounds ≡ state.keys.bounds
accept_all-bounds state accepted = ap (λ (it : Ring). it.bounds) (accept_all-keys state accepted)

-- what waits and what is fetched is no part of it
pub grows-waiting : (old new : ReplicaState) → new.me ≡ old.me → new.keys ≡ old.keys → new.histories ≡ old.histories
    → (more : List Stored) → new.versions ≡ old.versions ++ more → Grows old new
grows-waiting old new me keys histories more versions = record {
  me = me;
  keys = keys;
  number = ap length histories;
  candidates = λ object. (
    [],
    ap (λ (it : List ObjectHistory). candidates_in (slice_get it object.0)) histories ∙ sym (append-nil _),
  );
  versions = (more, versions);
}

pub carried_out-grows : (state : ReplicaState) (request : TakenRequest) (decision : Decision)
    → Grows state (carried_out state request decision).0
carried_out-grows state request (Answers verdict accepted) = accept_all-grows state accepted
carried_out-grows state request (Waits missing) =
    grows-waiting state (with_waiting state request missing) refl refl refl [] (sym (append-nil _))

pub if_handled-grows : (state : ReplicaState) (request : Option TakenRequest)
    → Grows state (if_handled state request).0
if_handled-grows state None = grows-self state
if_handled-grows state (Some request) =
    carried_out-grows state request
    (decision_on state (asked_at state request.client request.number request.sets request.body) request.body)

pub learned-grows : (state : ReplicaState) (frame : Frame) → Grows state (learned state frame)
learned-grows state frame =
    let is : Learned state frame (learned state frame) = is_learned state frame in
    elim is.versions [
      | inl same ↦ grows-waiting state (learned state frame) is.me is.keys is.histories []
          (same ∙ sym (append-nil _))
      | inr found ↦ grows-waiting state (learned state frame) is.me is.keys is.histories _ found.versions
    ]

-- a step forgets nothing
pub on_frame-grows : (state : ReplicaState) (frame : Frame) → Grows state (replica_on_frame state frame).0
on_frame-grows state (frame.Request client number round sets body mac) =
    if_handled-grows state (handled state (frame.Request client number round sets body mac))
on_frame-grows state (frame.Fetched replica object stamp version mac) =
    grows-chain state (learned state (frame.Fetched replica object stamp version mac)) _
    (learned-grows state (frame.Fetched replica object stamp version mac))
    (if_handled-grows (learned state (frame.Fetched replica object stamp version mac))
    (handled state (frame.Fetched replica object stamp version mac)))
on_frame-grows state _ = grows-self state

on_received-grows : (state : ReplicaState) (found : Option Frame) → Grows state (replica_on_received state found).0
on_received-grows state (Some frame) = on_frame-grows state frame
on_received-grows state None = grows-self state

pub step-grows : (state : ReplicaState) (text : List ℕ) → Grows state (replica_step state text).0
step-grows state text = on_received-grows state (brought state.keys (party.Replica state.me) text)
