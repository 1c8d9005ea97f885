-- What a replica accepts in a run, and what its request showed then.
use Rattle.std.proofs.Common.{◌≡◌, Bool, List, Some, ap, arith, false, length, not, refl, subst, suc, sym, true, ℕ, ◌<◌, ◌≤◌, ◌∙◌, ◌+◌, Option, get_or, count_by}
use Rattle.qu_accepts.proofs.Accepting.{some_entry, opening_alone, Acceptance, acceptance, added_is, delivered_adds}
use Rattle.qu_runs.proofs.Worlds.WorldGrowth.{has_more, world_after-grows}
use Rattle.qu_claims.specs.Grounds.{Accepts}
use Rattle.qu_runs.specs.Plain.{ArePlain}
use Rattle.qu_base.specs.Bounds.{AreThresholds, quorum, replicas, repair}
use Rattle.qu_stamp.specs.declared.candidate.Candidate.{Candidate}
use Rattle.qu_chain.proofs.Counting.{Found, found_at, test_at-here, count-not, count-more}
use Rattle.qu_frames.specs.declared.frame.Frame.{Frame}
use Rattle.qu_chain.specs.Laws.{Sizes}
use Rattle.qu_claims.specs.Setting.{IsNew, acceptors, IsEstablished}
use Rattle.qu_world.specs.Run.{IsRun}
use Rattle.qu_base.specs.declared.party.ObjectId.{ObjectId}
use Rattle.qu_mends.specs.Table.{candidates_in}
use Rattle.qu_trace.specs.declared.trace.Trace.{Trace}
use Rattle.qu_chain.proofs.Arrival.{Turn, turn_between}
use Rattle.qu_grounds.proofs.Grounds.{added_above}
use Rattle.qu_claims.specs.Accepted.{accepts}
use Rattle.qu_runs.proofs.Worlds.FewFaults.{few_faulty}
use Rattle.qu_runs.proofs.Worlds.OpeningReplicas.{bounds_are}
use Rattle.qu_base.proofs.ThresholdFacts.{are_thresholds}
use Rattle.qu_rows.specs.Rows.{asked_of, Asked}
use Rattle.std.proofs.lemmas.Bool.{false≢true, and_parts, and_from}
use Rattle.qu_claims.specs.Count.{test_at, count}
use Rattle.std.specs.Prelude.{◌&&◌}
use Rattle.qu_history.specs.Sets.{entries_of, order_of, latest_of, candidates_of}
use Rattle.qu_stamp.specs.Stamp.{is_below}
use Rattle.qu_stamp.proofs.Order.{is_below-not_back}
use Rattle.qu_laws.proofs.Acceptors.{more_at}
use Rattle.qu_history.specs.declared.sets.SetOf.{SetOf}
use Rattle.qu_stamp.specs.Candidate.{opening}
use Rattle.qu_history.specs.History.{holds, ObjectHistory}
use Rattle.qu_claims.specs.Carried.{handed, Brings}
use Rattle.qu_claims.specs.RunSetting.{setting}
use Rattle.qu_accepts.proofs.Happenings.{formed_by, handled_fits}
use Rattle.qu_laws.proofs.KeptEntries.{shown_by_accepting, counted}
use Rattle.qu_accepts.proofs.KnownObjects.{delivered_known}
use Rattle.qu_claims.specs.Times.{world_after}
use Rattle.qu_base.specs.declared.party.Party.TheVariants as party
use Rattle.qu_frames.specs.declared.frame.Frame.TheVariants as frame
use Rattle.qu_class.specs.Rows.{AreWellFormed}
use Rattle.qu_trace.specs.Faulty.{is_good}
use Rattle.qu_grounds.proofs.Acceptance.{IsFormed}
use Rattle.qu_grounds.proofs.Formed.{AreGrouped}
use Rattle.qu_shown.specs.Views.{WasHeld, HeldIfCorrect}
use Rattle.qu_laws.proofs.Acceptors.{StandsAt, stands_at}
use Rattle.qu_history.proofs.Stamps.{not_below_latest}
use Rattle.qu_claims.specs.Handling.{Handles}
use Rattle.qu_trace.specs.declared.trace.Entry.{Entry}
use Rattle.std.specs.List.{list_all}
use Rattle.qu_history.specs.Culling.{culled}
use Rattle.qu_accepts.proofs.Handling.{mid_candidates, mid_bounds}
use Rattle.std.proofs.lemmas.Option.{get_or_from_slice_get}
use Rattle.qu_claims.specs.Handled.{is_of_setup}
use Rattle.qu_accepts.proofs.Handled.{culls_so}

-- ---- sets

-- nothing that is shown is above the latest
pub not_above_shown : (shown : List ObjectHistory) (it : Candidate) → holds it (candidates_of shown) ≡ true
    → is_below (latest_of shown) it.stamp ≡ false
unfolding latest_of
not_above_shown shown it holding = not_below_latest (candidates_of shown) it holding

module _ (trace : Trace) (is_run : IsRun trace) (have : ArePlain trace) where
  pub sizes : Sizes (setting trace)
  unfolding setting
  sizes =
      let thresholds : AreThresholds trace.setup.bounds =
      are_thresholds trace.setup.bounds (is_run.setup).some_faults in
      record {
        borne = few_faulty trace.setup (replicas trace.setup.bounds) (is_run.setup).few;
        counted = refl;
        meets = omega arith;
        shares = omega arith;
        within = omega arith;
      }

  -- ---- what a replica accepts

  pub acceptance_of : (time : ℕ) (object : ObjectId) (place : ℕ) (candidate : Candidate)
      → IsNew (setting trace) time object place candidate → Acceptance trace time object place candidate
  unfolding setting
  acceptance_of time object place candidate new =
      acceptance trace is_run have time new.step object place candidate new.after new.before

  -- the request upon which it is accepted
  abbrev asked_for : {time : ℕ} {object : ObjectId} {place : ℕ} {candidate : Candidate}
      → Acceptance trace time object place candidate → Asked
  asked_for accepted =
      asked_of ((accepted.delivered).accepts).client ((accepted.delivered).accepts).number
      ((accepted.delivered).accepts).sets ((accepted.delivered).accepts).asks

  pub start : (object : ObjectId) (place : ℕ) (candidate : Candidate)
      → (setting trace).accepted 0 object place candidate ≡ true → candidate ≡ opening
  unfolding setting
  start object place candidate accepted =
      let found : Found (accepts object candidate) (world_after trace 0).replicas place =
      found_at (accepts object candidate) (world_after trace 0).replicas place accepted in
      opening_alone trace place found.item object candidate found.is_at found.passed

  pub grows : (time : ℕ) (object : ObjectId) (place : ℕ) (candidate : Candidate)
      → (setting trace).accepted time object place candidate ≡ true
      → (setting trace).accepted (suc time) object place candidate ≡ true
  unfolding setting
  grows time object place candidate accepted =
      more_at object candidate (world_after trace time).replicas (world_after trace (suc time)).replicas place
      (has_more (world_after trace time) (world_after trace (suc time))
      (world_after-grows trace time (suc time) (omega arith))).replicas accepted

  -- and so at each later time
  pub still_accepted : (from to : ℕ) → from ≤ to → (object : ObjectId) (place : ℕ) (candidate : Candidate)
      → (setting trace).accepted from object place candidate ≡ true
      → (setting trace).accepted to object place candidate ≡ true
  unfolding setting
  still_accepted from to order object place candidate accepted =
      more_at object candidate (world_after trace from).replicas (world_after trace to).replicas place
      (has_more (world_after trace from) (world_after trace to) (world_after-grows trace from to order)).replicas
      accepted

  -- so many accepted it later as did before
  pub acceptors_later : (from to : ℕ) → from ≤ to → (object : ObjectId) (candidate : Candidate)
      → acceptors (setting trace) from object candidate ≤ acceptors (setting trace) to object candidate
  unfolding setting
  acceptors_later from to order object candidate =
      let n : ℕ = replicas trace.setup.bounds in
      count-more n
      (λ replica. is_good trace.setup replica && (setting trace).accepted from object replica candidate)
      (λ replica. is_good trace.setup replica && (setting trace).accepted to object replica candidate)
      (λ replica below both.
      let parts = and_parts _ _ both in
      and_from _ _ parts.0 (still_accepted from to order object replica candidate parts.1))

  -- what the replica had accepted, on this object or another, it held, whatever it learned
  pub held_before : (time : ℕ) (object of : ObjectId) (place : ℕ) (candidate earlier : Candidate)
      (accepted : Acceptance trace time object place candidate)
      → (setting trace).accepted time of place earlier ≡ true
      → accepts of earlier ((accepted.delivered).handles).mid ≡ true
  unfolding setting
  held_before time object of place candidate earlier accepted before =
      let handles : Handles trace time place accepted.old accepted.new = (accepted.delivered).handles in
      ap (holds earlier) (mid_candidates trace time accepted.old handles.mid handles.learns of)
      ∙ sym (test_at-here (accepts of earlier) (world_after trace time).replicas place accepted.old handles.is_old)
      ∙ before

  pub rising : (time : ℕ) (object : ObjectId) (place : ℕ) (candidate earlier : Candidate)
      → IsNew (setting trace) time object place candidate
      → (setting trace).accepted time object place earlier ≡ true
      → is_below earlier.stamp candidate.stamp ≡ true
  rising time object place candidate earlier new before =
      let accepted : Acceptance trace time object place candidate = acceptance_of time object place candidate new in
      subst (λ (it : Candidate). is_below earlier.stamp it.stamp ≡ true) accepted.candidate_is
      (added_above ((accepted.delivered).handles).mid accepted.new (asked_for accepted)
      ((accepted.delivered).accepts).group ((accepted.delivered).accepts).candidates
      ((accepted.delivered).accepts).asks ((accepted.delivered).accepts).reasons object (accepted.delivered).adds
      earlier (held_before time object object place candidate earlier accepted before))

  pub alone : (time : ℕ) (object : ObjectId) (place : ℕ) (candidate other : Candidate)
      → IsNew (setting trace) time object place candidate → IsNew (setting trace) time object place other
      → candidate ≡ other
  unfolding setting
  alone time object place candidate other new second =
      let accepted : Acceptance trace time object place candidate = acceptance_of time object place candidate new in
      let handles : Handles trace time place accepted.old accepted.new = (accepted.delivered).handles in
      let after : accepts object other accepted.new ≡ true =
      sym (test_at-here (accepts object other) (world_after trace (suc time)).replicas place accepted.new
      accepted.is_new) ∙ second.after in
      let before : accepts object other accepted.old ≡ false =
      sym (test_at-here (accepts object other) (world_after trace time).replicas place accepted.old handles.is_old)
      ∙ second.before in
      sym accepted.candidate_is
      ∙ added_is accepted.old accepted.new object (((accepted.delivered).accepts).candidates object) other
      (delivered_adds trace time place accepted.old accepted.new object accepted.delivered) after before

  -- ---- what was shown when it was accepted

  module _ (time : ℕ) (within : time < length trace.entries) (object : ObjectId) (place : ℕ) (candidate : Candidate)
      (accepted : Acceptance trace time object place candidate) where
    abbrev handles : Handles trace time place accepted.old accepted.new
    handles = (accepted.delivered).handles

    abbrev one : Accepts handles.mid accepted.new handles.carried
    one = (accepted.delivered).accepts

    -- of an object of the request, which may be another than that on which it is accepted
    abbrev pub shown_then : ObjectId → List ObjectHistory
    shown_then of = entries_of of one.sets

    pub bounds_then : (handles.mid).keys.bounds ≡ trace.setup.bounds
    bounds_then = mid_bounds trace time place accepted.old accepted.new handles

    -- the event at which the text came
    came_within : handles.since < length trace.entries
    came_within = omega (arith, within, handles.came)

    hands_it : handed (world_after trace handles.since) (get_or trace.entries handles.since some_entry).event
        ≡ Some (party.Replica (record { 0 = place }), handles.text)
    hands_it =
        ap (λ (it : Entry). handed (world_after trace handles.since) it.event)
        (get_or_from_slice_get trace.entries handles.since handles.entry some_entry handles.is_entry)
        ∙ handles.is_handed

    brings_it : Brings handles.receiver handles.text
        (frame.Request one.client one.number one.round one.sent one.asks one.mac)
    brings_it = handles.brings ∙ ap (λ (it : Frame). Some it) one.is_request

    known_it : list_all (is_of_setup trace.setup) one.sent ≡ true
    known_it = delivered_known trace time place accepted.old accepted.new object accepted.delivered

    culls_it : culled (handles.receiver).keys (handles.receiver).me one.sent ≡ one.sets
    culls_it = culls_so trace is_run time within place accepted.old accepted.new object accepted.delivered

    formed_frame : IsFormed handles.receiver handles.carried
    formed_frame =
        formed_by handles.receiver handles.carried
        (subst AreThresholds (sym (bounds_are trace handles.since place handles.receiver handles.is_receiver))
        (are_thresholds trace.setup.bounds (is_run.setup).some_faults))
        (handled_fits trace is_run have time within place accepted.old accepted.new handles)

    -- the entries of an object are histories, of which the class can be told
    pub formed_then : (of : ObjectId) → AreWellFormed trace.setup.bounds (shown_then of)
    formed_then of =
        subst (λ (bounds : ℕ). AreWellFormed bounds (shown_then of))
        (bounds_are trace handles.since place handles.receiver handles.is_receiver)
        (subst (λ (sets : List SetOf). AreWellFormed (handles.receiver).keys.bounds (entries_of of sets)) culls_it
        (subst (IsFormed handles.receiver) one.is_request formed_frame of).0)

    -- and their candidates have groups, or stand alone
    pub grouped_then : (of : ObjectId) → AreGrouped (shown_then of)
    grouped_then of =
        subst (λ (sets : List SetOf). AreGrouped (entries_of of sets)) culls_it
        (subst (IsFormed handles.receiver) one.is_request formed_frame of).1

    -- so many accepted what is shown that with the faulty ones they are as many as show it
    pub shown_accepted : (of : ObjectId) (other : Candidate)
        → order_of other (shown_then of) ≤ acceptors (setting trace) time of other + (setting trace).faults
    shown_accepted of other =
        let at_first : order_of other (shown_then of)
        ≤ acceptors (setting trace) handles.since of other + (setting trace).faults =
        subst (λ (sets : List SetOf). order_of other (entries_of of sets)
        ≤ acceptors (setting trace) handles.since of other + (setting trace).faults) culls_it
        (shown_by_accepting trace is_run have handles.since came_within some_entry place handles.receiver
        handles.is_receiver handles.text hands_it one.client one.number one.round one.sent one.asks one.mac brings_it
        known_it of other) in
        let later : acceptors (setting trace) handles.since of other ≤ acceptors (setting trace) time of other =
        acceptors_later handles.since time handles.came of other in
        omega (arith, at_first, later)

    -- ---- what is established is shown below a barrier that a quorum shows

    -- the replica at this place did not ever accept the other candidate, or is faulty
    abbrev lacks : ObjectId → Candidate → ℕ → Bool
    lacks of other at = not (is_good trace.setup at && (setting trace).accepted (setting trace).last of at other)

    -- a correct replica whose history has the higher candidate, and not the lower one, never accepts the lower one
    never_later : (of : ObjectId) (history : ObjectHistory) (higher lower : Candidate) → history.object ≡ of
        → WasHeld trace handles.since history → holds higher history.candidates ≡ true
        → holds lower history.candidates ≡ false → is_below lower.stamp higher.stamp ≡ true
        → is_good trace.setup (history.replica).0 ≡ true → (history.replica).0 < (setting trace).n
        → (setting trace).accepted (setting trace).last of (history.replica).0 lower ≡ true → ⊥
    unfolding setting
    never_later of history higher lower objects was has lacks_it below good among ever =
        let at : ℕ = (history.replica).0 in
        let stands : StandsAt (world_after trace was.past) history =
        stands_at (world_after trace was.past) history was.held in
        let earlier : was.past ≤ handles.since = was.earlier in
        let then : (it : Candidate) → test_at (accepts of it) (world_after trace was.past).replicas at
        ≡ holds it history.candidates =
        λ it. ap (λ (on : ObjectId). test_at (accepts on it) (world_after trace was.past).replicas at) (sym objects)
        ∙ test_at-here (accepts history.object it) (world_after trace was.past).replicas at stands.state
        stands.is_replica
        ∙ ap (λ (found : Option ObjectHistory). holds it (candidates_in found)) stands.found in
        let turn : Turn (λ (now : ℕ). (setting trace).accepted now of at lower) was.past (length trace.entries) =
        turn_between (λ (now : ℕ). (setting trace).accepted now of at lower) was.past (length trace.entries)
        (omega (arith, earlier, came_within)) (then lower ∙ lacks_it) ever in
        let new : IsNew (setting trace) turn.time of at lower = record {
          step = turn.within;
          within = among;
          good = good;
          after = turn.after;
          before = turn.before;
        } in
        false≢true (sym (is_below-not_back lower.stamp higher.stamp below)
        ∙ rising turn.time of at lower higher new
        (still_accepted was.past turn.time turn.from of at higher (then higher ∙ has)))

    pub established_is_shown : (of : ObjectId) (barrier other : Candidate)
        → quorum trace.setup.bounds ≤ order_of barrier (shown_then of)
        → IsEstablished (setting trace) (setting trace).last of other
        → is_below other.stamp barrier.stamp ≡ true → repair trace.setup.bounds ≤ order_of other (shown_then of)
    unfolding setting order_of
    established_is_shown of barrier other full established below =
        let n : ℕ = replicas trace.setup.bounds in
        let ever : ℕ → Bool = λ at. is_good trace.setup at && (setting trace).accepted (setting trace).last of at other
        in
        let most : count_by (λ (it : ObjectHistory). holds barrier it.candidates) (shown_then of)
        ≤ count_by (λ (it : ObjectHistory). holds other it.candidates) (shown_then of) + count n (lacks of other) =
        subst (λ (sets : List SetOf). count_by (λ (it : ObjectHistory). holds barrier it.candidates)
        (entries_of of sets)
        ≤ count_by (λ (it : ObjectHistory). holds other it.candidates) (entries_of of sets)
        + count n (lacks of other)) culls_it
        (counted trace is_run have handles.since came_within some_entry place handles.receiver handles.is_receiver
        handles.text hands_it one.client one.number one.round one.sent one.asks one.mac brings_it known_it
        of (λ it. holds barrier it.candidates) (λ it. holds other it.candidates) (lacks of other)
        (λ history objects among was has lacks_it. lacking history objects among was has lacks_it)) in
        let all : count n ever + count n (lacks of other) ≡ n = count-not n ever in
        let enough : (setting trace).quorum ≤ count n ever + (setting trace).b = established in
        let sizes_are : Sizes (setting trace) = sizes in
        let shares : n + trace.setup.bounds + repair trace.setup.bounds
        ≤ quorum trace.setup.bounds + quorum trace.setup.bounds = sizes_are.shares in
        omega (arith, most, all, enough, shares, full)
      where
        by_test : (test : Bool) → (test ≡ true → ⊥) → not test ≡ true
        by_test true never = absurd (never refl)
        by_test false never = refl

        lacking : (history : ObjectHistory) → history.object ≡ of
            → (history.replica).0 < replicas trace.setup.bounds → HeldIfCorrect trace handles.since history
            → holds barrier history.candidates ≡ true → holds other history.candidates ≡ false
            → lacks of other (history.replica).0 ≡ true
        lacking history objects among was has lacks_it =
            by_test _ (λ both.
            let parts = and_parts _ _ both in
            never_later of history barrier other objects (was parts.0) has lacks_it below parts.0 among parts.1)
