-- Whatever a correct replica stores is the version of its stamp, and every replica that accepted a candidate without
-- barrier stores the version of the candidate with it.
use Rattle.std.proofs.Common.{◌≡◌, ℕ, ◌+◌, ◌<◌, ◌≤◌, true, [], length, Some, inl, inr, sym, ap, subst, ◌∙◌, arith, ◌++◌, List}
use Rattle.std.specs.Prelude.{slice_get}
use Rattle.std.specs.List.{AllByRecursion}
use Rattle.std.proofs.lemmas.Bool.{not-true}
use Rattle.std.proofs.lemmas.List.{append-nil}
use Rattle.qu_base.specs.declared.party.ObjectId.{ObjectId}
use Rattle.qu_base.specs.declared.party.ReplicaId.{ReplicaId}
use Rattle.qu_stamp.specs.declared.stamp.Stamp.{Stamp}
use Rattle.qu_stamp.specs.declared.candidate.Candidate.{Candidate}
use Rattle.qu_history.specs.History.{holds}
use Rattle.qu_objects.specs.declared.state.ObjState.{ObjState}
use Rattle.qu_versions.specs.declared.stored.Stored.{Stored}
use Rattle.qu_versions.specs.Versions.{version_at}
use Rattle.qu_rows.specs.State.{ReplicaState, own_candidates}
use Rattle.qu_trace.specs.declared.trace.Trace.{Trace}
use Rattle.qu_world.specs.Run.{IsRun}
use Rattle.qu_chain.specs.Laws.{Laws}
use Rattle.qu_chain.specs.Joint.{Joint}
use Rattle.qu_claims.specs.Grounds.{Accepts}
use Rattle.qu_claims.specs.Handling.{Handles}
use Rattle.qu_claims.specs.RunSetting.{setting}
use Rattle.qu_claims.specs.Times.{world_after}
use Rattle.qu_claims.specs.Truth.{IsVersionOf}
use Rattle.qu_claims.specs.Updates.{IsEverAccepted}
use Rattle.qu_claims.specs.Values.{HasVersion}
use Rattle.qu_runs.specs.Plain.{ArePlain}
use Rattle.qu_runs.proofs.Worlds.OpeningReplicas.{opening_at}
use Rattle.qu_accepts.proofs.Happenings.{handled_moves}
use Rattle.qu_accepts.proofs.StoredSo.{AllSo, stored_so, upon_so}
use Rattle.qu_values.proofs.Versions.BegunVersions.{Finds, at_start, begun_of_stamp}
use Rattle.qu_values.proofs.Versions.EverAccepted.{held_ever}
use Rattle.qu_values.proofs.Versions.HeldVersions.{held_found}
use Rattle.qu_values.proofs.Versions.SteppedVersions.{AreOfStamps, AddsOfStamps, later_of_stamp, version_of_stamp, moved_adds, same_behind}

-- what stands behind others is so where what is added to them is
added_are : (P : Stored → Type 0) (before some more : List Stored) → before ++ some ≡ before ++ more
    → AllByRecursion P some → AllByRecursion P more
added_are P before some more same all = subst (AllByRecursion P) (same_behind before some more same) all

module _ (trace : Trace) (laws : Laws (setting trace)) (joint : Joint (setting trace)) (is_run : IsRun trace)
    (have : ArePlain trace) where
  first_of_stamps : AllSo trace (IsVersionOf trace) (later_of_stamp trace laws) 0
  first_of_stamps place state is_state object stamp version found =
      let me : ReplicaId = record { 0 = place } in
      let begun : state ≡ at_start trace me = opening_at trace place state is_state in
      begun_of_stamp trace me (is_state ∙ ap (λ (it : ReplicaState). Some it) begun) object stamp version
      (ap (λ (it : ReplicaState). version_at object stamp it.versions) (sym begun) ∙ found)

  adds_of_stamps : (count : ℕ) → count < length trace.entries → (place : ℕ) (old new : ReplicaState)
      (handles : Handles trace count place old new) → Accepts handles.mid new handles.carried
      → AreOfStamps trace laws count handles.mid → AddsOfStamps trace laws (count + 1) handles.mid new
  adds_of_stamps count below place old new handles accepts before =
      moved_adds trace laws joint is_run have count below place old new handles accepts before

  -- what is found under a stamp is the version of an accepted candidate with this stamp
  pub found_of_stamp : (count : ℕ) → count ≤ length trace.entries → (place : ℕ) (state : ReplicaState)
      → slice_get (world_after trace count).replicas place ≡ Some state
      → (object : ObjectId) (stamp : Stamp) (version : ObjState)
      → version_at object stamp state.versions ≡ Some version → IsVersionOf trace count object stamp version
  found_of_stamp count within place state is_state =
      stored_so trace (IsVersionOf trace) (later_of_stamp trace laws) is_run have first_of_stamps adds_of_stamps count
      within place state is_state

  -- and so the version of an accepted candidate where it is found under its stamp
  pub version_is : (count : ℕ) → count ≤ length trace.entries → (place : ℕ) (state : ReplicaState)
      → slice_get (world_after trace count).replicas place ≡ Some state → (object : ObjectId) (candidate : Candidate)
      → IsEverAccepted trace object candidate → (version : ObjState)
      → version_at object candidate.stamp state.versions ≡ Some version → HasVersion trace object candidate version
  version_is count within place state is_state object candidate ever version found =
      version_of_stamp trace laws joint count within object candidate version ever
      (found_of_stamp count within place state is_state object candidate.stamp version found)

  -- each candidate without barrier that is held has its version
  pub version_held : (count : ℕ) → count ≤ length trace.entries → (place : ℕ) (state : ReplicaState)
      → slice_get (world_after trace count).replicas place ≡ Some state → (object : ObjectId) (candidate : Candidate)
      → (setting trace).plain candidate ≡ true → holds candidate (own_candidates state object) ≡ true
      → (version : ObjState) × (version_at object candidate.stamp state.versions ≡ Some version)
      × HasVersion trace object candidate version
  unfolding setting
  version_held count within place state is_state object candidate plain held =
      let found : Finds object candidate.stamp state =
      held_found trace is_run have count within place state is_state object candidate
      (not-true candidate.stamp.barrier plain) held in (
        found.0,
        found.1,
        version_is count within place state is_state object candidate
            (held_ever trace laws count within place state is_state object candidate held) found.0 found.1,
      )

  -- ---- where a frame is handled

  module _ (count : ℕ) (below : count < length trace.entries) (place : ℕ) (old new : ReplicaState)
      (handles : Handles trace count place old new) where
    -- what is found there is the version of its stamp
    pub found_upon : (object : ObjectId) (stamp : Stamp) (version : ObjState)
        → version_at object stamp (handles.mid).versions ≡ Some version → IsVersionOf trace count object stamp version
    found_upon =
        upon_so trace (IsVersionOf trace) (later_of_stamp trace laws) is_run have first_of_stamps adds_of_stamps count
        below place old new handles

    pub upon_is : (object : ObjectId) (candidate : Candidate) → IsEverAccepted trace object candidate
        → (version : ObjState) → version_at object candidate.stamp (handles.mid).versions ≡ Some version
        → HasVersion trace object candidate version
    upon_is object candidate ever version found =
        version_of_stamp trace laws joint count (omega (arith, below)) object candidate version ever
        (found_upon object candidate.stamp version found)

    -- the versions that are added are those of their stamps
    pub added_of_stamps : (more : List Stored) → new.versions ≡ (handles.mid).versions ++ more
        → AllByRecursion (λ (it : Stored). IsVersionOf trace (count + 1) it.object it.stamp it.state) more
    added_of_stamps more adds =
        elim (handled_moves trace is_run have count below place old new handles) [
          | inl alike ↦
              added_are _ (handles.mid).versions [] more
              (append-nil (handles.mid).versions ∙ sym alike.versions ∙ adds) tt
          | inr accepts ↦
              let added : AddsOfStamps trace laws (count + 1) handles.mid new =
              adds_of_stamps count below place old new handles accepts found_upon in
              added_are _ (handles.mid).versions added.more more (sym added.versions ∙ adds) added.each
        ]
