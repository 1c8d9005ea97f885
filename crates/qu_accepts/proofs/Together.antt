-- What a replica accepts at an event is one group, whole.
use Rattle.std.proofs.lemmas.Option.{get_or_from_slice_get}
use Rattle.std.proofs.Common.{◌≡◌, ◌⊎◌, ℕ, suc, ◌+◌, ◌<◌, true, false, get_or, Option, None, refl, subst, add-one, [], ◌∷◌, ◌++◌, length, List, Some, inl, inr, sym, ap, ◌∙◌, arith}
use Rattle.std.specs.Prelude.{slice_get}
use Rattle.std.proofs.lemmas.Bool.{false≢true, cases_Bool}
use Rattle.std.proofs.lemmas.Option.{slice_get_within}
use Rattle.qu_base.specs.declared.party.Party.TheVariants as party
use Rattle.qu_base.specs.Bounds.{AreThresholds}
use Rattle.qu_base.proofs.ThresholdFacts.{are_thresholds}
use Rattle.qu_base.specs.declared.party.ObjectId.{ObjectId}
use Rattle.qu_base.specs.Bounds.{replicas}
use Rattle.qu_seal.specs.Keys.{Ring}
use Rattle.qu_stamp.specs.declared.stamp.Stamp.{Stamp}
use Rattle.qu_stamp.specs.declared.candidate.Candidate.{Candidate}
use Rattle.qu_stamp.proofs.Order.{is_below-self}
use Rattle.qu_history.specs.History.{ObjectHistory}
use Rattle.qu_history.specs.History.{holds}
use Rattle.qu_history.proofs.Rising.{holds_pushed}
use Rattle.qu_frames.specs.Formats.{frame_form}
use Rattle.qu_frames.specs.Signing.{brought}
use Rattle.qu_frames.specs.declared.frame.Frame.{Frame}
use Rattle.qu_mends.specs.Table.{candidates_in}
use Rattle.qu_waiting.specs.Waiting.{TakenRequest, request_frame_of}
use Rattle.qu_rows.specs.Rows.{asked_of}
use Rattle.qu_rows.specs.State.{ReplicaState, own_candidates}
use Rattle.qu_replica.specs.Step.{learned, handled, if_handled, replica_on_frame, replica_on_received}
use Rattle.qu_replica.proofs.States.Learning.{is_learned}
use Rattle.qu_replica.proofs.Fits.FitSteps.{handled-fits}
use Rattle.qu_trace.specs.declared.event.Event.{Event}
use Rattle.qu_trace.specs.declared.trace.Entry.{Entry}
use Rattle.qu_trace.specs.declared.trace.Trace.{Trace}
use Rattle.qu_world.specs.Run.{IsRun}
use Rattle.qu_world.specs.State.{WorldState}
use Rattle.qu_claims.specs.Carried.{handed}
use Rattle.qu_claims.specs.Accepted.{accepts}
use Rattle.qu_claims.specs.Grounds.{Accepts, AddsTo}
use Rattle.qu_claims.specs.RunSetting.{setting}
use Rattle.qu_claims.specs.Setting.{Apart, IsNew}
use Rattle.qu_claims.specs.Times.{world_after}
use Rattle.qu_claims.specs.Together.{IsJoined, AcceptsTogether}
use Rattle.qu_chain.proofs.Counting.{Found, found_at, test_at-here}
use Rattle.qu_runs.specs.Plain.{AreTyped}
use Rattle.qu_runs.proofs.Fits.Fitting.{replica_fits, handed_fits}
use Rattle.qu_runs.proofs.Fits.FitParts.{fits_parts}
use Rattle.qu_runs.proofs.Fits.Carrying.{brings_decoded}
use Rattle.qu_runs.proofs.Worlds.OpeningReplicas.{bounds_are}
use Rattle.qu_runs.proofs.Worlds.Befores.{WasBefore, was_before}
use Rattle.qu_runs.proofs.Worlds.WorldGrowth.{world_after-next}
use Rattle.qu_runs.proofs.Worlds.OpeningReplicas.{acceptor_is_good, all_replicas}
use Rattle.qu_grounds.proofs.Acceptance.{step_moves}
use Rattle.qu_grounds.proofs.ActAcceptance.{alike_candidates}
use Rattle.qu_grounds.proofs.Grounds.{added_above}
use Rattle.qu_grounds.proofs.Parts.{adds_or_not}
use Rattle.qu_grounds.proofs.Together.{added_together, member_added, one_group}
use Rattle.qu_accepts.proofs.Takings.{Takes, event_takes}
use Rattle.qu_accepts.proofs.Happenings.{formed_by, on_frame_is}
use Rattle.qu_accepts.proofs.Accepting.{some_entry, added_is}

-- ---- an event

-- upon what it learns, which leaves its candidates as they were, the replica accepts candidates
pub record AcceptsUpon (old new : ReplicaState) : Type 0 where
  pub mid : ReplicaState
  pub same : (object : ObjectId) → own_candidates mid object ≡ own_candidates old object
  pub received : Frame
  pub accepts : Accepts mid new received

-- a replica keeps its candidates, or accepts some
abbrev pub IsStep : ReplicaState → ReplicaState → Type 0
IsStep old new = ((object : ObjectId) → own_candidates new object ≡ own_candidates old object) ⊎ AcceptsUpon old new

-- at each event of the run
abbrev pub AreSteps : Trace → Type 0
AreSteps trace = (at : ℕ) → at < length trace.entries → (place : ℕ) (new : ReplicaState)
    → slice_get (world_after trace (suc at)).replicas place ≡ Some new
    → (old : ReplicaState) × (slice_get (world_after trace at).replicas place ≡ Some old) × IsStep old new

module _ (trace : Trace) (time place : ℕ) (below : time < length trace.entries) (old new : ReplicaState)
    (is_old : slice_get (world_after trace time).replicas place ≡ Some old)
    (is_new : slice_get (world_after trace (suc time)).replicas place ≡ Some new) where
  -- whether the replica has accepted it before and after
  held_before : (object : ObjectId) (candidate : Candidate)
      → (setting trace).accepted time object place candidate ≡ holds candidate (own_candidates old object)
  unfolding setting
  held_before object candidate =
      test_at-here (accepts object candidate) (world_after trace time).replicas place old is_old

  held_after : (object : ObjectId) (candidate : Candidate)
      → (setting trace).accepted (suc time) object place candidate ≡ holds candidate (own_candidates new object)
  unfolding setting
  held_after object candidate =
      test_at-here (accepts object candidate) (world_after trace (suc time)).replicas place new is_new

  module _ (upon : AcceptsUpon old new) where
    abbrev it : Accepts upon.mid new upon.received
    it = upon.accepts

    adds_behind : (object : ObjectId) → AddsTo it.asks it.group object
        → own_candidates new object ≡ own_candidates old object ++ it.candidates object ∷ []
    adds_behind object adds =
        it.added object adds
        ∙ ap (λ (held : List Candidate). held ++ it.candidates object ∷ []) (upon.same object)

    -- what the request adds is accepted now
    pub added_now : (object : ObjectId) → AddsTo it.asks it.group object
        → IsNew (setting trace) time object place (it.candidates object)
    unfolding setting
    added_now object adds =
        let candidate : Candidate = it.candidates object in
        let among : place < length (world_after trace time).replicas =
        slice_get_within (world_after trace time).replicas place old is_old in
        let all : length (world_after trace time).replicas ≡ replicas trace.setup.bounds = all_replicas trace time in
        let now : (setting trace).accepted (suc time) object place candidate ≡ true =
        held_after object candidate ∙ ap (holds candidate) (adds_behind object adds)
        ∙ holds_pushed candidate (own_candidates old object) in
        record {
          step = below;
          within = omega (arith, among, all);
          good = acceptor_is_good trace (suc time) place object candidate now;
          after = now;
          before = held_before object candidate ∙ elim (cases_Bool (holds candidate (own_candidates old object))) [
            | inr not_held ↦ not_held
            | inl held ↦
                absurd (false≢true (sym (is_below-self candidate.stamp)
                ∙ added_above upon.mid new (asked_of it.client it.number it.sets it.asks) it.group it.candidates it.asks
                it.reasons object adds candidate (ap (holds candidate) (upon.same object) ∙ held)))
          ];
        }

    -- what is accepted now the request adds
    record IsAdded (object : ObjectId) (candidate : Candidate) : Type 0 where
      adds : AddsTo it.asks it.group object
      is : it.candidates object ≡ candidate

    now_added : (object : ObjectId) (candidate : Candidate) → IsNew (setting trace) time object place candidate
        → IsAdded object candidate
    now_added object candidate is_now =
        let after : holds candidate (own_candidates new object) ≡ true =
        sym (held_after object candidate) ∙ is_now.after in
        let before : holds candidate (own_candidates old object) ≡ false =
        sym (held_before object candidate) ∙ is_now.before in
        elim (adds_or_not it.asks it.group object) [
          | inl adds ↦ record {
            adds = adds;
            is = added_is old new object (it.candidates object) candidate (adds_behind object adds) after before;
          }
          | inr not_added ↦
              absurd (false≢true (sym before ∙ ap (holds candidate) (sym (upon.same object))
              ∙ ap (holds candidate) (sym (it.others object not_added)) ∙ after))
        ]

    whole_now : (object : ObjectId) (candidate : Candidate) (other : ObjectId) (stamp : Stamp)
        → IsNew (setting trace) time object place candidate → (setting trace).member candidate other ≡ Some stamp
        → IsJoined trace time place candidate other stamp
    unfolding setting
    whole_now object candidate other stamp is_now is_member =
        let one : IsAdded object candidate = now_added object candidate is_now in
        let joined : AddsTo it.asks it.group other × ((it.candidates other).stamp ≡ stamp) =
        member_added upon.mid new (asked_of it.client it.number it.sets it.asks) it.group it.candidates it.asks
        it.reasons object one.adds other stamp
        (ap (λ (own : Candidate). (setting trace).member own other) one.is ∙ is_member) in
        record {
          companion = it.candidates other;
          stamp_is = joined.1;
          group_is = one_group upon.mid new (asked_of it.client it.number it.sets it.asks) it.group it.candidates
              it.asks it.reasons other object joined.0 one.adds ∙ ap (λ (own : Candidate). own.group) one.is;
          new = added_now other joined.0;
        }

    alone_now : (object other : ObjectId) (candidate companion : Candidate)
        → IsNew (setting trace) time object place candidate → IsNew (setting trace) time other place companion
        → Apart object other → (setting trace).member candidate other ≡ Some companion.stamp
    unfolding setting
    alone_now object other candidate companion is_now also apart =
        let one : IsAdded object candidate = now_added object candidate is_now in
        let two : IsAdded other companion = now_added other companion also in
        ap (λ (own : Candidate). (setting trace).member own other) (sym one.is)
        ∙ added_together upon.mid new (asked_of it.client it.number it.sets it.asks) it.group it.candidates it.asks
        it.reasons object other one.adds two.adds apart
        ∙ ap (λ (own : Candidate). Some own.stamp) two.is

-- ---- a run

-- an event at which a replica accepts something
record Moved (trace : Trace) (time place : ℕ) : Type 0 where
  old : ReplicaState
  new : ReplicaState
  is_old : slice_get (world_after trace time).replicas place ≡ Some old
  is_new : slice_get (world_after trace (suc time)).replicas place ≡ Some new
  upon : AcceptsUpon old new

moved : (trace : Trace) → AreSteps trace → (time : ℕ) (object : ObjectId) (place : ℕ) (candidate : Candidate)
    → IsNew (setting trace) time object place candidate → Moved trace time place
unfolding setting
moved trace steps time object place candidate new =
    let found : Found (accepts object candidate) (world_after trace (suc time)).replicas place =
    found_at (accepts object candidate) (world_after trace (suc time)).replicas place new.after in
    let step = steps time new.step place found.item found.is_at in
    elim (step.2) [
      | inl same ↦
          absurd (false≢true (sym new.before
          ∙ test_at-here (accepts object candidate) (world_after trace time).replicas place step.0 step.1
          ∙ ap (holds candidate) (sym (same object)) ∙ found.passed))
      | inr upon ↦ record { old = step.0; new = found.item; is_old = step.1; is_new = found.is_at; upon = upon }
    ]

pub accepts_together : (trace : Trace) → AreSteps trace → AcceptsTogether trace
unfolding setting
accepts_together trace steps = record {
  whole = λ time object place candidate other stamp new is_member.
      let it : Moved trace time place = moved trace steps time object place candidate new in
      whole_now trace time place new.step it.old it.new it.is_old it.is_new it.upon object candidate other stamp new
      is_member;
  alone = λ time object other place candidate companion new also apart.
      let it : Moved trace time place = moved trace steps time object place candidate new in
      alone_now trace time place new.step it.old it.new it.is_old it.is_new it.upon object other candidate companion
      new also apart;
}

-- ---- the events of a run, whatever is forged

module _ (trace : Trace) (is_run : IsRun trace) (typed : AreTyped trace) (at : ℕ) (below : at < length trace.entries)
    (place : ℕ) (old new : ReplicaState) (is_old : slice_get (world_after trace at).replicas place ≡ Some old) where
  learned_same : (taken : Frame) (object : ObjectId)
      → own_candidates (learned old taken) object ≡ own_candidates old object
  learned_same taken object =
      ap (λ (it : List ObjectHistory). candidates_in (slice_get it object.0)) (is_learned old taken).histories

  learned_thresholds : (taken : Frame) → AreThresholds (learned old taken).keys.bounds
  learned_thresholds taken =
      subst AreThresholds (sym (ap (λ (keys : Ring). keys.bounds) (is_learned old taken).keys
      ∙ bounds_are trace at place old is_old)) (are_thresholds trace.setup.bounds (is_run.setup).some_faults)

  -- a request that the frame makes the replica handle
  handled_step : (taken : Frame) → frame_form.Fits taken → (request : TakenRequest)
      → handled old taken ≡ Some request → new ≡ (if_handled (learned old taken) (Some request)).0 → IsStep old new
  handled_step taken fits request is steps =
      let mid : ReplicaState = learned old taken in
      let asked : frame_form.Fits (request_frame_of request) =
      handled-fits old taken (replica_fits trace is_run typed at (omega (arith, below)) place old is_old) fits request
      is
      in
      let made : ReplicaState = (replica_on_frame mid (request_frame_of request)).0 in
      elim (step_moves mid request (fits_parts (request_frame_of request) asked)
      (formed_by mid (request_frame_of request) (learned_thresholds taken) asked)) [
        | inl alike ↦
            inl (λ object. ap (λ (it : ReplicaState). own_candidates it object) steps
            ∙ alike_candidates made mid alike object ∙ learned_same taken object)
        | inr accepts ↦ inr (record {
          mid = mid;
          same = learned_same taken;
          received = request_frame_of request;
          accepts = subst (λ (it : ReplicaState). Accepts mid it (request_frame_of request)) (sym steps) accepts;
        })
      ]

  frame_step : (taken : Frame) → frame_form.Fits taken → (found : Option TakenRequest) → handled old taken ≡ found
      → new ≡ (if_handled (learned old taken) found).0 → IsStep old new
  frame_step taken fits None is steps =
      inl (λ object. ap (λ (it : ReplicaState). own_candidates it object) steps ∙ learned_same taken object)
  frame_step taken fits (Some request) is steps = handled_step taken fits request is steps

  taken_step : (it : Takes trace at place old new) (found : Option Frame)
      → brought old.keys (party.Replica old.me) it.text ≡ found → IsStep old new
  taken_step it None is =
      inl (λ object. ap (λ (state : ReplicaState). own_candidates state object)
      (it.steps ∙ ap (λ (found : Option Frame). (replica_on_received old found).0) is))
  taken_step it (Some taken) is =
      frame_step taken
      (handed_fits trace is_run typed at it.entry below (party.Replica (record { 0 = place })) it.text
      (ap (λ (entry : Entry). handed (world_after trace at) entry.event)
      (get_or_from_slice_get trace.entries at it.entry it.entry it.is_entry) ∙ it.is_handed) taken
      (brings_decoded old it.text taken is))
      (handled old taken) refl
      (it.steps ∙ ap (λ (found : Option Frame). (replica_on_received old found).0) is ∙ on_frame_is old taken)

  event_step : slice_get (world_after trace (at + 1)).replicas place ≡ Some new → IsStep old new
  event_step is_new = elim (event_takes trace at place old new below is_old is_new) [
    | inl same ↦ inl (λ object. ap (λ (it : ReplicaState). own_candidates it object) same)
    | inr takes ↦ taken_step takes (brought old.keys (party.Replica old.me) takes.text) refl
  ]

pub are_steps : (trace : Trace) → IsRun trace → AreTyped trace → AreSteps trace
are_steps trace is_run typed at below place new is_new =
    let event : Event = (get_or trace.entries at some_entry).event in
    let is_next : slice_get (world_after trace (at + 1)).replicas place ≡ Some new =
    ap (λ (count : ℕ). slice_get (world_after trace count).replicas place) (add-one at) ∙ is_new in
    let before : WasBefore (world_after trace at).replicas place new =
    was_before (world_after trace at) event place new
    (ap (λ (world : WorldState). slice_get world.replicas place) (sym (world_after-next trace at some_entry below))
    ∙ is_next) in (
      before.old,
      before.is_old,
      event_step trace is_run typed at below place before.old new before.is_old is_next,
    )
