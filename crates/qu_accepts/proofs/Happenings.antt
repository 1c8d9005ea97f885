-- What an event of a run adds to a replica, and why: what it learns, and what a request makes it accept.
use Rattle.std.proofs.Common.{◌≡◌, ◌⊎◌, ℕ, ◌+◌, ◌<◌, ◌≤◌, length, Option, None, Some, inl, inr, refl, sym, subst, ap, ◌∙◌, arith}
use Rattle.std.specs.Prelude.{slice_get, option_map}
use Rattle.std.proofs.lemmas.Option.{none-some, same_Some, get_or_from_slice_get}
use Rattle.qu_base.specs.declared.party.ObjectId.{ObjectId}
use Rattle.qu_base.specs.declared.party.Party.TheVariants as party
use Rattle.qu_base.specs.Bounds.{AreThresholds}
use Rattle.qu_base.proofs.ThresholdFacts.{are_thresholds}
use Rattle.qu_history.specs.Culling.{culled}
use Rattle.qu_history.specs.Formats.{sets_form}
use Rattle.qu_frames.specs.declared.frame.Body.{Body}
use Rattle.qu_frames.specs.declared.frame.Body.TheVariants as body
use Rattle.qu_frames.specs.declared.frame.Frame.{Frame}
use Rattle.qu_frames.specs.declared.frame.Frame.TheVariants as frame
use Rattle.qu_frames.specs.Formats.{frame_form}
use Rattle.qu_frames.specs.Signing.{brought}
use Rattle.qu_rows.specs.Rows.{asked_of}
use Rattle.qu_waiting.specs.Waiting.{TakenRequest, request_frame_of}
use Rattle.qu_rows.specs.State.{ReplicaState, own_candidates}
use Rattle.qu_replica.specs.Growth.{HoldsAlike}
use Rattle.qu_replica.specs.Step.{learned, handled, if_handled, replica_on_frame, replica_on_received}
use Rattle.qu_fitting.proofs.FitCulled.{culled-fits}
use Rattle.qu_fitting.proofs.FitRequests.{request-fits}
use Rattle.qu_trace.specs.declared.trace.Entry.{Entry}
use Rattle.qu_trace.specs.declared.trace.Trace.{Trace}
use Rattle.qu_world.specs.Run.{IsRun}
use Rattle.qu_claims.specs.Carried.{Brings, handed}
use Rattle.qu_claims.specs.Grounds.{Accepts, Reasons, IsMoved, IsDelivered}
use Rattle.qu_claims.specs.Handling.{Learns, handled_now, Handles}
use Rattle.qu_claims.specs.Times.{world_after}
use Rattle.qu_runs.specs.Plain.{ArePlain}
use Rattle.qu_runs.proofs.Fits.Carrying.{brings_decoded}
use Rattle.qu_runs.proofs.Fits.FitParts.{fits_parts}
use Rattle.qu_runs.proofs.Fits.Fitting.{handed_fits}
use Rattle.qu_grounds.proofs.Acceptance.{step_moves, IsFormed}
use Rattle.qu_grounds.proofs.ActAcceptance.{alike_candidates}
use Rattle.qu_grounds.proofs.Formed.{sets_formed, sets_grouped}
use Rattle.qu_accepts.proofs.Handling.{mid_bounds, learns_nothing, holds_alike, mid_candidates}
use Rattle.qu_grounds.proofs.Parts.{adds_or_not}
use Rattle.qu_accepts.proofs.Takings.{Takes, event_takes}
use Rattle.qu_accepts.proofs.Voting.{learns_true}
use Rattle.qu_accepts.proofs.Waiting.{Came, came_later, handled_waits, waiting_came}

pub formed_by : (state : ReplicaState) (carried : Frame) → AreThresholds state.keys.bounds → frame_form.Fits carried
    → IsFormed state carried
formed_by state (frame.Request client number round sets asks mac) thresholds fits = λ object.
    let kept : sets_form.Fits (culled state.keys state.me sets) =
    culled-fits state.keys state.me sets (request-fits client number round sets asks mac fits).shown in (
      sets_formed state.keys.bounds (culled state.keys state.me sets) thresholds kept object,
      sets_grouped (culled state.keys state.me sets) kept object,
    )
formed_by state _ thresholds fits = tt

-- ---- what is handled in a run

-- what a replica accepts, whose state it is that holds the same
accepts_alike : (mid other new : ReplicaState) (carried : Frame) → HoldsAlike new other → Accepts mid other carried
    → Accepts mid new carried
accepts_alike mid other new carried alike it = record {
  client = it.client;
  number = it.number;
  round = it.round;
  sent = it.sent;
  sets = it.sets;
  culls = it.culls;
  asks = it.asks;
  mac = it.mac;
  is_request = it.is_request;
  group = it.group;
  candidates = it.candidates;
  added = λ object adds. alike_candidates new other alike object ∙ it.added object adds;
  others = λ object not_added. alike_candidates new other alike object ∙ it.others object not_added;
  reasons = reasons_alike it.asks it.reasons;
}
  where
    reasons_alike : (asks : Body)
        → Reasons mid other (asked_of it.client it.number it.sets asks) asks it.group it.candidates
        → Reasons mid new (asked_of it.client it.number it.sets asks) asks it.group it.candidates
    reasons_alike (body.Act parts) performs = record {
      bases = performs.bases;
      grounds = performs.grounds;
      versions = performs.versions;
      performed = performs.performed;
      stored = alike.versions ∙ performs.stored;
    }
    reasons_alike (body.Ask parts) never = never
    reasons_alike (body.Mend target) mends = record {
      enough = mends.enough;
      current = mends.current;
      above = mends.above;
      whole = mends.whole;
      listed = mends.listed;
      versions = mends.versions;
      remedy = mends.remedy;
      stored = alike.versions ∙ mends.stored;
    }

module _ (trace : Trace) (is_run : IsRun trace) (have : ArePlain trace) (at : ℕ) (below : at < length trace.entries)
    (place : ℕ) (old new : ReplicaState) (handles : Handles trace at place old new) where
  -- what is handled fits its format
  pub handled_fits : frame_form.Fits handles.carried
  handled_fits =
      handed_fits trace is_run have.typed handles.since handles.entry (omega (arith, below, handles.came))
      (party.Replica (record { 0 = place })) handles.text
      (ap (λ (it : Entry). handed (world_after trace handles.since) it.event)
      (get_or_from_slice_get trace.entries handles.since handles.entry handles.entry handles.is_entry)
      ∙ handles.is_handed) handles.carried
      (brings_decoded handles.receiver handles.text handles.carried handles.brings)

  -- it is a request
  record Requested (carried : Frame) : Type 0 where
    request : TakenRequest
    is : request_frame_of request ≡ carried

  requested : Requested handles.carried
  requested = by_found (brought old.keys (party.Replica old.me) handles.given) handles.is_carried
    where
      by_request : (found : Option TakenRequest) → option_map request_frame_of found ≡ Some handles.carried
          → Requested handles.carried
      by_request None is = absurd (none-some handles.carried is)
      by_request (Some request) is =
          record { request = request; is = same_Some (request_frame_of request) handles.carried is }

      by_found : (found : Option Frame) → handled_now old found ≡ Some handles.carried → Requested handles.carried
      by_found None is = absurd (none-some handles.carried is)
      by_found (Some taken) is = by_request (handled old taken) is

  -- a replica that handles a request holds what it did, or accepts candidates
  pub handled_moves : HoldsAlike new handles.mid ⊎ Accepts handles.mid new handles.carried
  handled_moves =
      let asks : TakenRequest = requested.request in
      let fits : frame_form.Fits (request_frame_of asks) =
      subst (λ (it : Frame). frame_form.Fits it) (sym requested.is) handled_fits in
      let made : HoldsAlike new (replica_on_frame handles.mid (request_frame_of asks)).0 =
      subst (λ (it : Frame). HoldsAlike new (replica_on_frame handles.mid it).0) (sym requested.is) handles.made in
      elim (step_moves handles.mid asks (fits_parts (request_frame_of asks) fits)
      (formed_by handles.mid (request_frame_of asks)
      (subst AreThresholds (sym (mid_bounds trace at place old new handles))
      (are_thresholds trace.setup.bounds (is_run.setup).some_faults)) fits)) [
        | inl same ↦ inl (record {
          me = made.me ∙ same.me;
          keys = made.keys ∙ same.keys;
          histories = made.histories ∙ same.histories;
          versions = made.versions ∙ same.versions;
        })
        | inr accepts ↦
            inr (subst (Accepts handles.mid new) requested.is
            (accepts_alike handles.mid (replica_on_frame handles.mid (request_frame_of asks)).0 new
            (request_frame_of asks) made accepts))
      ]

-- ---- events of a run

-- a replica that accepts nothing at an event, whatever it learns
pub record LearnsAlone (trace : Trace) (at : ℕ) (old new : ReplicaState) : Type 0 where
  pub mid : ReplicaState
  pub learns : Learns trace at old mid
  pub alike : HoldsAlike new mid

pub before_next : (at since : ℕ) → since < at + 1 → since ≤ at
before_next at since order = omega (arith, order)

-- what a frame makes of a replica is what its request makes, upon what is learned
pub on_frame_is : (state : ReplicaState) (received : Frame)
    → (replica_on_frame state received).0 ≡ (if_handled (learned state received) (handled state received)).0
on_frame_is state (frame.Request client number round sets body mac) = refl
on_frame_is state (frame.Fetched replica object stamp version mac) = refl
on_frame_is state (frame.Reply replica client number round verdict culled shown mac) = refl
on_frame_is state (frame.Fetch replica object stamp mac) = refl

-- a text that a replica is handed at an event, and the frame that it brings
pub record TakesFrame (trace : Trace) (at place : ℕ) (old new : ReplicaState) : Type 0 where
  pub takes : Takes trace at place old new
  pub taken : Frame
  pub brings : Brings old takes.text taken

module _ (trace : Trace) (is_run : IsRun trace) (have : ArePlain trace) (at : ℕ) (below : at < length trace.entries)
    (place : ℕ) (old new : ReplicaState) (is_old : slice_get (world_after trace at).replicas place ≡ Some old)
    (is_new : slice_get (world_after trace (at + 1)).replicas place ≡ Some new) where
  -- what the frame tells was found before
  pub frame_learns : (it : TakesFrame trace at place old new) → Learns trace at old (learned old it.taken)
  frame_learns it =
      learns_true trace is_run have at below place old is_old it.takes.entry it.takes.is_entry it.takes.text
      it.takes.is_handed it.taken it.brings

  pub frame_steps : (it : TakesFrame trace at place old new)
      → new ≡ (if_handled (learned old it.taken) (handled old it.taken)).0
  frame_steps it =
      it.takes.steps ∙ ap (λ (found : Option Frame). (replica_on_received old found).0) it.brings
      ∙ on_frame_is old it.taken

  -- the request that it makes the replica handle came at this event, or before
  pub request_came : (it : TakesFrame trace at place old new) (request : TakenRequest)
      → handled old it.taken ≡ Some request → Came trace (at + 1) place request
  request_came it request is =
      elim (handled_waits old it.taken request is) [
        | inl same ↦ record {
          since = at;
          before = omega arith;
          entry = it.takes.entry;
          is_entry = it.takes.is_entry;
          receiver = old;
          is_receiver = is_old;
          text = it.takes.text;
          is_handed = it.takes.is_handed;
          brings = it.brings ∙ ap Some (sym same);
        }
        | inr waits ↦ came_later trace at (at + 1) place request (omega arith)
            (waiting_came trace at (omega (arith, below)) place old is_old request waits)
      ]

  -- and is handled upon what the frame tells
  abbrev pub handles_at : (it : TakesFrame trace at place old new) (request : TakenRequest)
      → handled old it.taken ≡ Some request → Handles trace at place old new
  handles_at it request is = record {
    is_old = is_old;
    is_new = is_new;
    now = it.takes.entry;
    is_now = it.takes.is_entry;
    given = it.takes.text;
    is_given = it.takes.is_handed;
    carried = request_frame_of request;
    is_carried = ap (handled_now old) it.brings ∙ ap (option_map request_frame_of) is;
    since = (request_came it request is).since;
    came = before_next at (request_came it request is).since (request_came it request is).before;
    entry = (request_came it request is).entry;
    is_entry = (request_came it request is).is_entry;
    receiver = (request_came it request is).receiver;
    is_receiver = (request_came it request is).is_receiver;
    text = (request_came it request is).text;
    is_handed = (request_came it request is).is_handed;
    brings = (request_came it request is).brings;
    mid = learned old it.taken;
    learns = frame_learns it;
    made = holds_alike new (if_handled (learned old it.taken) (Some request)).0
        (frame_steps it ∙ ap (λ (found : Option TakenRequest). (if_handled (learned old it.taken) found).0) is);
  }

  alone_by : new ≡ old → LearnsAlone trace at old new
  alone_by same = record {
    mid = old;
    learns = learns_nothing trace at old;
    alike = holds_alike new old same;
  }

  by_request : (it : TakesFrame trace at place old new) (found : Option TakenRequest) → handled old it.taken ≡ found
      → LearnsAlone trace at old new ⊎ Handles trace at place old new
  by_request it None is =
      inl (record {
        mid = learned old it.taken;
        learns = frame_learns it;
        alike = holds_alike new (learned old it.taken) (frame_steps it
            ∙ ap (λ (found : Option TakenRequest). (if_handled (learned old it.taken) found).0) is);
      })
  by_request it (Some request) is = inr (handles_at it request is)

  by_brought : (takes : Takes trace at place old new) (found : Option Frame)
      → brought old.keys (party.Replica old.me) takes.text ≡ found
      → LearnsAlone trace at old new ⊎ Handles trace at place old new
  by_brought takes None is =
      inl (alone_by (takes.steps ∙ ap (λ (found : Option Frame). (replica_on_received old found).0) is))
  by_brought takes (Some taken) is =
      by_request (record { takes = takes; taken = taken; brings = is }) (handled old taken) refl

  -- an event makes a replica learn, or handle a request upon what it learns
  pub happens_at : LearnsAlone trace at old new ⊎ Handles trace at place old new
  happens_at =
      elim (event_takes trace at place old new below is_old is_new) [
        | inl same ↦ inl (alone_by same)
        | inr takes ↦ by_brought takes (brought old.keys (party.Replica old.me) takes.text) refl
      ]

-- an event adds to a replica what it learns, or makes it handle what adds candidates
pub moves_at : (trace : Trace) → IsRun trace → ArePlain trace → (at : ℕ) → at < length trace.entries → (place : ℕ)
    (old new : ReplicaState) → slice_get (world_after trace at).replicas place ≡ Some old
    → slice_get (world_after trace (at + 1)).replicas place ≡ Some new
    → LearnsAlone trace at old new ⊎ IsMoved trace at place old new
moves_at trace is_run have at below place old new is_old is_new =
    elim (happens_at trace is_run have at below place old new is_old is_new) [
      | inl alone ↦ inl alone
      | inr it ↦ elim (handled_moves trace is_run have at below place old new it) [
        | inl same ↦ inl (record { mid = it.mid; learns = it.learns; alike = same })
        | inr accepts ↦ inr (record { handles = it; accepts = accepts })
      ]
    ]

-- the same of one object
pub accepts_at : (trace : Trace) → IsRun trace → ArePlain trace → (at : ℕ) → at < length trace.entries → (place : ℕ)
    (old new : ReplicaState) → slice_get (world_after trace at).replicas place ≡ Some old
    → slice_get (world_after trace (at + 1)).replicas place ≡ Some new → (object : ObjectId)
    → (own_candidates new object ≡ own_candidates old object) ⊎ IsDelivered trace at place old new object
accepts_at trace is_run have at below place old new is_old is_new object =
    elim (moves_at trace is_run have at below place old new is_old is_new) [
      | inl alone ↦ inl (alike_candidates new alone.mid alone.alike object
          ∙ mid_candidates trace at old alone.mid alone.learns object)
      | inr moved ↦ elim (adds_or_not (moved.accepts).asks (moved.accepts).group object) [
        | inr not_added ↦ inl ((moved.accepts).others object not_added
            ∙ mid_candidates trace at old (moved.handles).mid (moved.handles).learns object)
        | inl adds ↦ inr (record { handles = moved.handles; accepts = moved.accepts; adds = adds })
      ]
    ]
