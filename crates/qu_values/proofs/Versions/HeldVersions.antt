-- Every replica has a version of each candidate without barrier that it holds: it stores one with what a request makes
-- it accept, unless it finds one already, and what it found it still finds.
use Rattle.std.proofs.Common.{◌≡◌, ℕ, zero, suc, ◌+◌, ◌<◌, ◌≤◌, true, false, length, get_or, Option, None, Some, inl, inr, refl, sym, ap, subst, ◌∙◌, arith, add-one, ◌++◌, List}
use Rattle.std.specs.Prelude.{slice_get}
use Rattle.std.proofs.lemmas.Bool.{false≢true, or_cases}
use Rattle.qu_base.specs.declared.party.ObjectId.{ObjectId}
use Rattle.qu_base.specs.declared.party.ReplicaId.{ReplicaId}
use Rattle.qu_stamp.specs.declared.stamp.Stamp.{Stamp}
use Rattle.qu_stamp.specs.declared.candidate.Candidate.{Candidate}
use Rattle.qu_stamp.specs.Candidate.{same}
use Rattle.qu_stamp.proofs.Order.{equal_by_same}
use Rattle.qu_history.specs.History.{holds}
use Rattle.qu_history.proofs.Rising.{holds_push}
use Rattle.qu_objects.specs.declared.state.ObjState.{ObjState}
use Rattle.qu_kept.specs.Performing.{copied_state}
use Rattle.qu_versions.specs.declared.stored.Stored.{Stored}
use Rattle.qu_versions.specs.Versions.{version_at}
use Rattle.qu_versions.proofs.Lookup.{append_grows}
use Rattle.qu_frames.specs.declared.frame.Body.{Body}
use Rattle.qu_frames.specs.declared.frame.Body.TheVariants as body
use Rattle.qu_frames.specs.declared.frame.Frame.{Frame}
use Rattle.qu_rows.specs.Rows.{Asked, asked_of}
use Rattle.qu_rows.specs.State.{ReplicaState, own_candidates}
use Rattle.qu_replica.specs.Growth.{HoldsAlike}
use Rattle.qu_trace.specs.declared.trace.Entry.{Entry}
use Rattle.qu_trace.specs.declared.trace.Trace.{Trace}
use Rattle.qu_trace.specs.declared.event.Event.{Event}
use Rattle.qu_world.specs.Run.{IsRun}
use Rattle.qu_world.specs.State.{WorldState}
use Rattle.qu_claims.specs.Grounds.{Accepts, AddsTo, Reasons, IsRemedy}
use Rattle.qu_claims.specs.Handling.{Learns, Handles}
use Rattle.qu_claims.specs.Times.{world_after}
use Rattle.qu_runs.specs.Plain.{ArePlain}
use Rattle.qu_runs.proofs.Small.{some_entry}
use Rattle.qu_runs.proofs.Worlds.Befores.{WasBefore, was_before}
use Rattle.qu_runs.proofs.Worlds.OpeningReplicas.{opening_at}
use Rattle.qu_runs.proofs.Worlds.WorldGrowth.{world_after-next}
use Rattle.qu_grounds.proofs.ActAcceptance.{alike_candidates}
use Rattle.qu_grounds.proofs.Parts.{adds_or_not}
use Rattle.qu_grounds.proofs.Performed.{version_of_performed, version_of_mended}
use Rattle.qu_accepts.proofs.Handling.{mid_candidates}
use Rattle.qu_accepts.proofs.Happenings.{moves_at}
use Rattle.qu_values.proofs.Versions.BegunVersions.{Finds, FindsHeld, at_start, begun_finds}

finds_more : (old new : ReplicaState) (more : List Stored) → new.versions ≡ old.versions ++ more → (object : ObjectId)
    (stamp : Stamp) → Finds object stamp old → Finds object stamp new
finds_more old new more grows object stamp found =
    (found.0, append_grows old.versions more new.versions grows object stamp found.0 found.1)

-- ---- what a request makes a replica accept

module _ (mid new : ReplicaState) (carried : Frame) (one : Accepts mid new carried) where
  grown : (asks : Body)
      → Reasons mid new (asked_of one.client one.number one.sets asks) asks one.group one.candidates
      → (more : List Stored) × (new.versions ≡ mid.versions ++ more)
  grown (body.Act parts) performs = (_, performs.stored)
  grown (body.Ask parts) never = absurd never
  grown (body.Mend target) mends = (_, mends.stored)

  -- what it found it still finds
  still_finds : (object : ObjectId) (stamp : Stamp) → Finds object stamp mid → Finds object stamp new
  still_finds object stamp found =
      let more : (more : List Stored) × (new.versions ≡ mid.versions ++ more) = grown one.asks one.reasons in
      finds_more mid new more.0 more.1 object stamp found

  -- it finds what it stores, unless it found a version there before
  finds_stored : (object : ObjectId) (stamp : Stamp) (version : ObjState)
      → (version_at object stamp mid.versions ≡ None → version_at object stamp new.versions ≡ Some version)
      → (found : Option ObjState) → version_at object stamp mid.versions ≡ found → Finds object stamp new
  finds_stored object stamp version stored (Some held) is_held = still_finds object stamp (held, is_held)
  finds_stored object stamp version stored None none = (version, stored none)

  finds_mended : (asked : Asked) (target object : ObjectId) (candidate : Candidate) (found : Option ObjState)
      → candidate.stamp.barrier ≡ false → IsRemedy mid asked target object candidate found
      → ((version : ObjState) → found ≡ Some version → version_at object candidate.stamp mid.versions ≡ None
      → version_at object candidate.stamp new.versions ≡ Some version)
      → Finds object candidate.stamp new
  finds_mended asked target object candidate found plain (IsRemedy.inline_barrier barrier shown) stored =
      absurd (false≢true (sym plain ∙ barrier))
  finds_mended asked target object candidate found plain (IsRemedy.inline_method its kind shown is) stored =
      still_finds object candidate.stamp (its, is)
  finds_mended asked target object candidate found plain (IsRemedy.barrier barrier made) stored =
      absurd (false≢true (sym plain ∙ barrier))
  finds_mended asked target object candidate found plain
      (IsRemedy.copy latest plan its kind planned named made barrier is_latest full is) stored =
      finds_stored object candidate.stamp (copied_state object candidate its)
      (stored (copied_state object candidate its) refl) (version_at object candidate.stamp mid.versions) refl

  finds_added : (asks : Body)
      → Reasons mid new (asked_of one.client one.number one.sets asks) asks one.group one.candidates
      → (object : ObjectId) → AddsTo asks one.group object → (one.candidates object).stamp.barrier ≡ false
      → Finds object (one.candidates object).stamp new
  finds_added (body.Act parts) performs object names plain =
      finds_stored object (one.candidates object).stamp (performs.versions object)
      (version_of_performed mid new (asked_of one.client one.number one.sets (body.Act parts)) parts one.candidates
      performs object names) (version_at object (one.candidates object).stamp mid.versions) refl
  finds_added (body.Ask parts) never object adds plain = absurd never
  finds_added (body.Mend target) mends object mended plain =
      finds_mended (asked_of one.client one.number one.sets (body.Mend target)) target object (one.candidates object)
      (mends.versions object) plain (mends.remedy object mended)
      (λ version has none.
      version_of_mended mid new one.candidates mends.versions target one.group object version mends.stored mended has
      none)

  -- what it holds on an object to which the request adds, it held before, or it is what the request adds
  module _ (before : FindsHeld mid) where
    added_finds : (object : ObjectId) → AddsTo one.asks one.group object → (candidate : Candidate)
        → candidate.stamp.barrier ≡ false → holds candidate (own_candidates new object) ≡ true
        → Finds object candidate.stamp new
    added_finds object adds candidate plain held =
        let fresh : Candidate = one.candidates object in
        elim (or_cases _ _ (sym (holds_push candidate fresh (own_candidates mid object)) ∙ ap (holds candidate)
        (sym (one.added object adds)) ∙ held)) [
          | inl earlier ↦ still_finds object candidate.stamp (before object candidate plain earlier)
          | inr last ↦ elim (or_cases (same fresh candidate) false last) [
            | inl is ↦
                let equal : fresh ≡ candidate = equal_by_same fresh candidate is in
                subst (λ (it : Candidate). Finds object it.stamp new) equal
                (finds_added one.asks one.reasons object adds
                (ap (λ (it : Candidate). it.stamp.barrier) equal ∙ plain))
            | inr never ↦ absurd (false≢true never)
          ]
        ]

    moved_finds : FindsHeld new
    moved_finds object candidate plain held =
        elim (adds_or_not one.asks one.group object) [
          | inr not_added ↦
              still_finds object candidate.stamp
              (before object candidate plain (ap (holds candidate) (sym (one.others object not_added)) ∙ held))
          | inl adds ↦ added_finds object adds candidate plain held
        ]

-- ---- an event

learned_finds : (trace : Trace) (count : ℕ) (old mid : ReplicaState) → Learns trace count old mid → FindsHeld old
    → FindsHeld mid
learned_finds trace count old mid learns before object candidate plain held =
    finds_more old mid learns.more learns.versions object candidate.stamp
    (before object candidate plain
    (ap (holds candidate) (sym (mid_candidates trace count old mid learns object)) ∙ held))

alike_finds : (one other : ReplicaState) → HoldsAlike one other → FindsHeld other → FindsHeld one
alike_finds one other alike before object candidate plain held =
    let found : Finds object candidate.stamp other =
    before object candidate plain (ap (holds candidate) (sym (alike_candidates one other alike object)) ∙ held) in
    (found.0, ap (version_at object candidate.stamp) alike.versions ∙ found.1)

abbrev AllFind : Trace → ℕ → Type 0
AllFind trace count =
    (place : ℕ) (state : ReplicaState) → slice_get (world_after trace count).replicas place ≡ Some state
    → FindsHeld state

first_find : (trace : Trace) → AllFind trace 0
first_find trace place state is_state =
    let me : ReplicaId = record { 0 = place } in
    let begun : state ≡ at_start trace me = opening_at trace place state is_state in
    subst FindsHeld (sym begun) (begun_finds trace me)

module _ (trace : Trace) (is_run : IsRun trace) (have : ArePlain trace) where
  event_finds : (count : ℕ) → count < length trace.entries → (place : ℕ) (old new : ReplicaState)
      → slice_get (world_after trace count).replicas place ≡ Some old
      → slice_get (world_after trace (count + 1)).replicas place ≡ Some new → FindsHeld old → FindsHeld new
  event_finds count below place old new is_old is_new before =
      elim (moves_at trace is_run have count below place old new is_old is_new) [
        | inl alone ↦
            alike_finds new alone.mid alone.alike (learned_finds trace count old alone.mid alone.learns before)
        | inr moved ↦
            moved_finds (moved.handles).mid new (moved.handles).carried moved.accepts
            (learned_finds trace count old (moved.handles).mid (moved.handles).learns before)
      ]

  next_find : (count : ℕ) → count < length trace.entries → AllFind trace count → AllFind trace (count + 1)
  next_find count below all place new is_new =
      let default : Entry = some_entry trace.entries (omega arith) in
      let event : Event = (get_or trace.entries count default).event in
      let was : WasBefore (world_after trace count).replicas place new =
      was_before (world_after trace count) event place new
      (ap (λ (world : WorldState). slice_get world.replicas place) (sym (world_after-next trace count default below))
      ∙ is_new) in
      event_finds count below place was.old new was.is_old is_new (all place was.old was.is_old)

  -- the versions of what is held
  pub held_found : (count : ℕ) → count ≤ length trace.entries → (place : ℕ) (state : ReplicaState)
      → slice_get (world_after trace count).replicas place ≡ Some state → FindsHeld state
  held_found zero within = first_find trace
  held_found (suc count) within =
      subst (AllFind trace) (add-one count) (next_find count (omega arith) (held_found count (omega arith)))

  -- also where a frame is handled, with what is learned then
  pub held_upon : (count : ℕ) → count < length trace.entries → (place : ℕ) (old new : ReplicaState)
      (handles : Handles trace count place old new) → FindsHeld handles.mid
  held_upon count below place old new handles =
      learned_finds trace count old handles.mid handles.learns
      (held_found count (omega (arith, below)) place old handles.is_old)
