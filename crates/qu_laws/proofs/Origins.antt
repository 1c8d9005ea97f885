-- A replica holds the opening candidate of an object, and else only what an event of the run made it accept.
use Rattle.std.proofs.Common.{◌≡◌, ◌⊎◌, ℕ, zero, suc, ◌+◌, ◌<◌, ◌≤◌, true, false, ◌||◌, length, get_or, Some, refl, sym, ap, subst, ◌∙◌, arith, add-one, inl, inr, Bool, IsTrue, List, [], ◌∷◌}
use Rattle.std.specs.Prelude.{slice_get}
use Rattle.std.proofs.lemmas.Bool.{false≢true, or_cases}
use Rattle.std.proofs.lemmas.List.{take_all}
use Rattle.qu_base.specs.declared.party.ObjectId.{ObjectId}
use Rattle.qu_stamp.specs.declared.candidate.Candidate.{Candidate}
use Rattle.qu_stamp.specs.Candidate.{opening, same}
use Rattle.qu_stamp.proofs.Order.{equal_by_same}
use Rattle.qu_history.specs.History.{holds}
use Rattle.qu_history.proofs.Rising.{holds_push}
use Rattle.qu_rows.specs.State.{ReplicaState, own_candidates}
use Rattle.qu_trace.specs.declared.event.Event.{Event}
use Rattle.qu_trace.specs.declared.trace.Trace.{Trace}
use Rattle.qu_world.specs.Step.{world_step}
use Rattle.qu_world.specs.Run.{IsRun, run, events_of}
use Rattle.qu_trace.specs.declared.trace.Entry.{Entry}
use Rattle.qu_claims.specs.Times.{world_after}
use Rattle.qu_claims.specs.Origins.{Origin}
use Rattle.qu_runs.specs.Plain.{ArePlain}
use Rattle.qu_runs.proofs.Worlds.WorldGrowth.{world_after-next}
use Rattle.qu_runs.proofs.Worlds.Befores.{WasBefore, was_before}
use Rattle.qu_accepts.proofs.Happenings.{accepts_at}
use Rattle.qu_runs.proofs.Worlds.OpeningReplicas.{opening_holds}
use Rattle.std.specs.List.{list_any}
use Rattle.qu_claims.specs.Chained.{last_world}
use Rattle.qu_claims.specs.Accepted.{accepts, is_accepted}
use Rattle.qu_claims.specs.Grounds.{IsDelivered, Accepts, IsFound, IsMadeFrom}
use Rattle.qu_history.specs.Sets.{order_of, entries_of}
use Rattle.qu_claims.specs.RunSetting.{setting}
use Rattle.qu_chain.proofs.Ancestry.{Acceptor, acceptor}
use Rattle.qu_claims.specs.Setting.{acceptors}
use Rattle.qu_rows.specs.Rows.{asked_of, linking_of}
use Rattle.qu_chain.proofs.Counting.{Found, found_at}
use Rattle.qu_history.specs.declared.sets.SetOf.{SetOf}
use Rattle.qu_base.specs.Bounds.{repair, replicas, AreThresholds}
use Rattle.qu_laws.proofs.KeptEntries.{shown_by_accepting}
use Rattle.qu_laws.proofs.ShownWhenAccepted.{acceptors_later}
use Rattle.qu_frames.specs.declared.frame.Frame.{Frame}
use Rattle.qu_runs.proofs.Worlds.FewFaults.{few_faulty}
use Rattle.qu_accepts.proofs.KnownObjects.{delivered_known}
use Rattle.qu_accepts.proofs.Accepting.{some_entry, delivered_adds}
use Rattle.qu_grounds.proofs.Grounds.{made_or_found}
use Rattle.std.proofs.lemmas.Option.{get_or_from_slice_get}
use Rattle.qu_base.proofs.ThresholdFacts.{are_thresholds}
use Rattle.qu_claims.specs.Handling.{Handles}
use Rattle.qu_accepts.proofs.Handling.{mid_bounds}
use Rattle.qu_accepts.proofs.Handled.{culls_so}
use Rattle.qu_trace.specs.declared.trace.Entry.{Entry}
use Rattle.qu_claims.specs.Carried.{handed}

-- all that a replica holds comes from the opening or from an event
abbrev ComesFrom : Trace → ℕ → Type 0
ComesFrom trace count =
    (place : ℕ) (state : ReplicaState) → slice_get (world_after trace count).replicas place ≡ Some state
    → (object : ObjectId) (candidate : Candidate) → holds candidate (own_candidates state object) ≡ true
    → (candidate ≡ opening) ⊎ Origin trace count object candidate

origin_later : (trace : Trace) (count : ℕ) (object : ObjectId) (candidate : Candidate)
    → Origin trace count object candidate → Origin trace (count + 1) object candidate
origin_later trace count object candidate origin =
    let before : origin.past < count = origin.earlier in
    record {
      past = origin.past;
      earlier = omega arith;
      place = origin.place;
      old = origin.old;
      new = origin.new;
      delivered = origin.delivered;
      is_candidate = origin.is_candidate;
      made = origin.made;
    }

came_before : (trace : Trace) (count : ℕ) (object : ObjectId) (candidate : Candidate) → (candidate ≡ opening)
    ⊎ Origin trace count object candidate → (candidate ≡ opening) ⊎ Origin trace (count + 1) object candidate
came_before trace count object candidate (inl begins) = inl begins
came_before trace count object candidate (inr origin) = inr (origin_later trace count object candidate origin)

module _ (trace : Trace) (is_run : IsRun trace) (have : ArePlain trace) where
  -- what so many show that it may be repaired was accepted by a correct replica
  module _ (count : ℕ) (below : count < length trace.entries) (place : ℕ) (old new : ReplicaState) (object : ObjectId)
      (delivered : IsDelivered trace count place old new object)
    where
      abbrev handles : Handles trace count place old new
      handles = delivered.handles

      abbrev one : Accepts handles.mid new handles.carried
      one = delivered.accepts

      shown_before : (candidate : Candidate) → order_of candidate (entries_of object one.sets)
          ≤ acceptors (setting trace) count object candidate + (setting trace).faults
      shown_before candidate =
          let at_first : order_of candidate (entries_of object one.sets)
          ≤ acceptors (setting trace) handles.since object candidate + (setting trace).faults =
          subst (λ (sets : List SetOf). order_of candidate (entries_of object sets)
          ≤ acceptors (setting trace) handles.since object candidate + (setting trace).faults)
          (culls_so trace is_run count below place old new object delivered)
          (shown_by_accepting trace is_run have handles.since (omega (arith, below, handles.came)) some_entry place
          handles.receiver handles.is_receiver handles.text
          (ap (λ (it : Entry). handed (world_after trace handles.since) it.event)
          (get_or_from_slice_get trace.entries handles.since handles.entry some_entry handles.is_entry)
          ∙ handles.is_handed) one.client one.number one.round one.sent one.asks one.mac
          (handles.brings ∙ ap (λ (it : Frame). Some it) one.is_request)
          (delivered_known trace count place old new object delivered) object candidate) in
          let later : acceptors (setting trace) handles.since object candidate
          ≤ acceptors (setting trace) count object candidate =
          acceptors_later trace is_run have handles.since count handles.came object candidate in
          omega (arith, at_first, later)

      found_before : (candidate : Candidate)
          → IsFound (handles.mid).keys.bounds (asked_of one.client one.number one.sets one.asks) object candidate
          → Acceptor (setting trace) count object candidate
      unfolding setting
      found_before candidate found =
          let shown : order_of candidate (entries_of object one.sets)
          ≤ acceptors (setting trace) count object candidate + (setting trace).faults = shown_before candidate in
          let enough : repair trace.setup.bounds ≤ order_of candidate (entries_of object one.sets) =
          subst (λ (bounds : ℕ). repair bounds ≤ order_of candidate (entries_of object one.sets))
          (mid_bounds trace count place old new handles) found.order in
          let few : (setting trace).faults ≤ trace.setup.bounds =
          few_faulty trace.setup (replicas trace.setup.bounds) (is_run.setup).few in
          let thresholds : AreThresholds trace.setup.bounds =
          are_thresholds trace.setup.bounds (is_run.setup).some_faults in
          acceptor (setting trace) count object candidate
          (omega (arith, shown, enough, few, thresholds.repair_outnumbers))

      -- so it came from elsewhere
      came_elsewhere : ComesFrom trace count → (candidate : Candidate) → Acceptor (setting trace) count object candidate
          → (candidate ≡ opening) ⊎ Origin trace count object candidate
      unfolding setting
      came_elsewhere before candidate who =
          let found : Found (accepts object candidate) (world_after trace count).replicas who.replica =
          found_at (accepts object candidate) (world_after trace count).replicas who.replica who.accepted in
          before who.replica found.item found.is_at object candidate found.passed

      -- what is added was made now, or was shown and came from elsewhere
      origin_added : ComesFrom trace count
          → (one.candidates object ≡ opening) ⊎ Origin trace (count + 1) object (one.candidates object)
      origin_added before =
          elim (made_or_found handles.mid new (asked_of one.client one.number one.sets one.asks) one.group
          one.candidates one.asks one.reasons object delivered.adds) [
            | inl made ↦ inr (record {
              past = count;
              earlier = omega arith;
              place = place;
              old = old;
              new = new;
              delivered = delivered;
              is_candidate = refl;
              made = subst (λ (bounds : ℕ).
                  IsMadeFrom bounds (linking_of handles.mid)
                  (asked_of one.client one.number one.sets one.asks) one.asks object
                  (one.candidates object))
                  (mid_bounds trace count place old new handles) made;
            })
            | inr found ↦
                came_before trace count object (one.candidates object)
                (came_elsewhere before (one.candidates object) (found_before (one.candidates object) found))
          ]

  origin_next : (count : ℕ) → count < length trace.entries → ComesFrom trace count → ComesFrom trace (count + 1)
  origin_next count below before place new is_new object candidate held =
      let event : Event = (get_or trace.entries count some_entry).event in
      let next : world_after trace (count + 1) ≡ world_step (world_after trace count) event =
      world_after-next trace count some_entry below in
      let is_next : slice_get (world_step (world_after trace count) event).replicas place ≡ Some new =
      subst (λ world. slice_get world.replicas place ≡ Some new) next is_new in
      let was : WasBefore (world_after trace count).replicas place new =
      was_before (world_after trace count) event place new is_next in
      elim (accepts_at trace is_run have count below place was.old new was.is_old is_new object) [
        | inl same ↦
            came_before trace count object candidate
            (before place was.old was.is_old object candidate (sym (ap (holds candidate) same) ∙ held))
        | inr delivered ↦
            let added : Candidate = (delivered.accepts).candidates object in
            let pushed : (holds candidate (own_candidates was.old object) || (same added candidate || false)) ≡ true =
            sym (ap (holds candidate) (delivered_adds trace count place was.old new object delivered)
            ∙ holds_push candidate added (own_candidates was.old object)) ∙ held in
            elim (or_cases (holds candidate (own_candidates was.old object)) _ pushed) [
              | inl earlier ↦ came_before trace count object candidate
                  (before place was.old was.is_old object candidate earlier)
              | inr here ↦ elim (or_cases (same added candidate) _ here) [
                | inl alike ↦
                    subst (λ (it : Candidate). (it ≡ opening) ⊎ Origin trace (count + 1) object it)
                    (equal_by_same added candidate alike)
                    (origin_added count below place was.old new object delivered before)
                | inr none ↦ absurd (false≢true none)
              ]
            ]
      ]

  comes_from : (count : ℕ) → count ≤ length trace.entries → ComesFrom trace count
  comes_from zero within =
      λ place state is_state object candidate held. inl (opening_holds trace place state is_state object candidate held)
  comes_from (suc count) within =
      subst (ComesFrom trace) (add-one count) (origin_next count (omega arith) (comes_from count (omega arith)))

-- a candidate that a replica holds is the opening one, or an event made a replica accept it
pub origin : (trace : Trace) → IsRun trace → ArePlain trace → (count : ℕ) → count ≤ length trace.entries
    → (place : ℕ) (state : ReplicaState) → slice_get (world_after trace count).replicas place ≡ Some state
    → (object : ObjectId) (candidate : Candidate) → holds candidate (own_candidates state object) ≡ true
    → (candidate ≡ opening) ⊎ Origin trace count object candidate
origin trace is_run have count within = comes_from trace is_run have count within

any_place : {X : Type 0} (test : X → Bool) (items : List X) → list_any test items ≡ true → (place : ℕ)
    × (item : X) × (slice_get items place ≡ Some item) × (test item ≡ true)
any_place test [] some = absurd (false≢true some)
any_place test (item ∷ later) some =
    elim (or_cases (test item) (list_any test later) some) [
      | inl here ↦ (0, item, refl, here)
      | inr there ↦
          let rest = any_place test later there in
          (suc rest.0, rest.1, rest.2, rest.3)
    ]

-- an accepted candidate is the opening one, or has an origin
pub accepted_from : (trace : Trace) → IsRun trace → ArePlain trace → (object : ObjectId) (candidate : Candidate)
    → IsTrue (is_accepted (last_world trace) object candidate) → (candidate ≡ opening)
    ⊎ Origin trace (length trace.entries) object candidate
accepted_from trace is_run have object candidate accepted =
    let found : (place : ℕ) × (state : ReplicaState) × (slice_get (last_world trace).replicas place ≡ Some state)
    × (accepts object candidate state ≡ true) =
    any_place (accepts object candidate) (last_world trace).replicas accepted in
    origin trace is_run have (length trace.entries) (omega arith) found.0 found.1 found.2 object candidate found.3

-- after the last event the world stays as it is
pub world_ends : (trace : Trace) (time : ℕ) → length trace.entries ≤ time
    → world_after trace time ≡ world_after trace (length trace.entries)
world_ends trace time past =
    ap (λ (entries : List Entry). run trace.setup (events_of entries))
    (take_all time trace.entries past ∙ sym (take_all (length trace.entries) trace.entries (omega arith)))
