-- What correct replicas store is so, where it is at first, and where each request adds only what is so if all is upon
-- which it rests: what a replica learns was stored by a correct one before.
use Rattle.std.proofs.Common.{cond, ◌≡◌, ℕ, zero, suc, ◌+◌, ◌<◌, ◌≤◌, true, Bool, List, [], ◌∷◌, ◌++◌, length, get_or, Some, inl, inr, sym, ap, subst, ◌∙◌, arith, add-one, eqb-true, All}
use Rattle.std.specs.Prelude.{◌==◌, slice_get}
use Rattle.std.specs.List.{AllByRecursion}
use Rattle.std.proofs.lemmas.Bool.{cases_eq, cases_Bool, and_parts}
use Rattle.std.proofs.lemmas.Option.{same_Some, none-some}
use Rattle.std.proofs.lemmas.List.Elements.{All-head, All-tail, All-from_recursion}
use Rattle.qu_base.specs.declared.party.ObjectId.{ObjectId}
use Rattle.qu_stamp.specs.declared.stamp.Stamp.{Stamp}
use Rattle.qu_stamp.specs.Stamp.{same_stamp}
use Rattle.qu_stamp.proofs.Order.{equal_by_same_stamp}
use Rattle.qu_objects.specs.declared.state.ObjState.{ObjState}
use Rattle.qu_versions.specs.declared.stored.Stored.{Stored}
use Rattle.qu_versions.specs.Versions.{is_stored, version_at}
use Rattle.qu_rows.specs.State.{ReplicaState}
use Rattle.qu_trace.specs.declared.trace.Entry.{Entry}
use Rattle.qu_trace.specs.declared.event.Event.{Event}
use Rattle.qu_trace.specs.declared.trace.Trace.{Trace}
use Rattle.qu_world.specs.State.{WorldState}
use Rattle.qu_world.specs.Run.{IsRun}
use Rattle.qu_claims.specs.Grounds.{Accepts}
use Rattle.qu_claims.specs.Handling.{WasFound, Learns, Handles}
use Rattle.qu_claims.specs.Times.{world_after}
use Rattle.qu_runs.specs.Plain.{ArePlain}
use Rattle.qu_runs.proofs.Small.{some_entry}
use Rattle.qu_runs.proofs.Worlds.Befores.{WasBefore, was_before}
use Rattle.qu_runs.proofs.Worlds.WorldGrowth.{world_after-next}
use Rattle.qu_grounds.proofs.Performed.{stored_cases}
use Rattle.qu_accepts.proofs.Happenings.{moves_at}

-- what is found among versions of which each is so is so
found_among : (P : Stored → Type 0) (versions : List Stored) → All P versions → (object : ObjectId) (stamp : Stamp)
    (version : ObjState) → version_at object stamp versions ≡ Some version
    → P (record { object = object; stamp = stamp; state = version })
unfolding version_at
found_among P [] all object stamp version found = absurd (none-some version found)
found_among P (held ∷ later) all object stamp version found =
    elim (cases_Bool (is_stored object stamp held)) [
      | inl here ↦
          let tests : (((held.object).0 == object.0) ≡ true) × (same_stamp held.stamp stamp ≡ true) =
          and_parts _ _ here in
          let objects : held.object ≡ object = λ i. record { 0 = eqb-true _ _ tests.0 i } in
          let stamps : held.stamp ≡ stamp = equal_by_same_stamp held.stamp stamp tests.1 in
          let states : held.state ≡ version =
          same_Some held.state version
          (ap (λ (test : Bool). cond test (Some held.state) (version_at object stamp later)) (sym here) ∙ found) in
          subst P (λ i. record { object = objects i; stamp = stamps i; state = states i }) (All-head P held later all)
      | inr there ↦
          found_among P later (All-tail P held later all) object stamp version
          (ap (λ (test : Bool). cond test (Some held.state) (version_at object stamp later)) (sym there) ∙ found)
    ]

module _ (trace : Trace) (Is : ℕ → ObjectId → Stamp → ObjState → Type 0)
    (later : (past count : ℕ) → past ≤ count → (object : ObjectId) (stamp : Stamp) (version : ObjState)
    → Is past object stamp version → Is count object stamp version) where
  -- all versions that the replica has are so by this time
  abbrev pub AreSo : ℕ → ReplicaState → Type 0
  AreSo count state =
      (object : ObjectId) (stamp : Stamp) (version : ObjState) → version_at object stamp state.versions ≡ Some version
      → Is count object stamp version

  -- and those of all correct replicas
  abbrev pub AllSo : ℕ → Type 0
  AllSo count =
      (place : ℕ) (state : ReplicaState) → slice_get (world_after trace count).replicas place ≡ Some state
      → AreSo count state

  abbrev pub IsSo : ℕ → Stored → Type 0
  IsSo count stored = Is count stored.object stored.stamp stored.state

  -- what is added to the versions is so
  pub record AreAdded (count : ℕ) (old new : ReplicaState) : Type 0 where
    pub more : List Stored
    pub versions : new.versions ≡ old.versions ++ more
    pub each : AllByRecursion (IsSo count) more

  module _ (count : ℕ) (all : (past : ℕ) → past ≤ count → AllSo past) where
    learned_so : (old mid : ReplicaState) → Learns trace count old mid → AreSo count old → AreSo count mid
    learned_so old mid learns before object stamp version found =
        elim (stored_cases object stamp old.versions learns.more version
        (ap (version_at object stamp) (sym learns.versions) ∙ found)) [
          | inl earlier ↦ before object stamp version earlier
          | inr told ↦
              let was : WasFound trace count (record { object = object; stamp = stamp; state = version }) =
              found_among (WasFound trace count) learns.more learns.were_found object stamp version told in
              later was.past count was.earlier object stamp version
              (all was.past was.earlier was.place was.state was.is_state object stamp version was.found)
        ]

    next_so : (old new : ReplicaState) → AreSo count old → AreAdded (count + 1) old new → AreSo (count + 1) new
    next_so old new before added object stamp version found =
        elim (stored_cases object stamp old.versions added.more version
        (ap (version_at object stamp) (sym added.versions) ∙ found)) [
          | inl earlier ↦ later count (count + 1) (omega arith) object stamp version
              (before object stamp version earlier)
          | inr newest ↦
              found_among (IsSo (count + 1)) added.more (All-from_recursion (IsSo (count + 1)) added.more added.each)
              object stamp version newest
        ]

  module _ (is_run : IsRun trace) (have : ArePlain trace) (opening : AllSo 0)
      (made : (count : ℕ) → count < length trace.entries → (place : ℕ) (old new : ReplicaState)
      (handles : Handles trace count place old new) → Accepts handles.mid new handles.carried
      → AreSo count handles.mid → AreAdded (count + 1) handles.mid new) where
    event_so : (count : ℕ) → count < length trace.entries → ((past : ℕ) → past ≤ count → AllSo past) → (place : ℕ)
        (old new : ReplicaState) → slice_get (world_after trace count).replicas place ≡ Some old
        → slice_get (world_after trace (count + 1)).replicas place ≡ Some new → AreSo (count + 1) new
    event_so count below all place old new is_old is_new =
        let before : AreSo count old = all count (omega arith) place old is_old in
        elim (moves_at trace is_run have count below place old new is_old is_new) [
          | inl alone ↦ λ object stamp version found.
              later count (count + 1) (omega arith) object stamp version
              (learned_so count all old alone.mid alone.learns before object stamp version
              (ap (version_at object stamp) (sym (alone.alike).versions) ∙ found))
          | inr moved ↦
              let mid : ReplicaState = (moved.handles).mid in
              let upon : AreSo count mid = learned_so count all old mid (moved.handles).learns before in
              next_so count all mid new upon (made count below place old new moved.handles moved.accepts upon)
        ]

    all_next : (count : ℕ) → count < length trace.entries → ((past : ℕ) → past ≤ count → AllSo past)
        → AllSo (count + 1)
    all_next count below all place new is_new =
        let default : Entry = some_entry trace.entries (omega arith) in
        let event : Event = (get_or trace.entries count default).event in
        let was : WasBefore (world_after trace count).replicas place new =
        was_before (world_after trace count) event place new
        (ap (λ (world : WorldState). slice_get world.replicas place)
        (sym (world_after-next trace count default below)) ∙ is_new) in
        event_so count below all place was.old new was.is_old is_new

    all_so : (count : ℕ) → count ≤ length trace.entries → (past : ℕ) → past ≤ count → AllSo past
    all_so zero within past order =
        let none : 0 ≡ past = omega (arith, order) in
        subst AllSo none opening
    all_so (suc count) within past order =
        elim (cases_eq past (suc count)) [
          | inl last ↦
              subst AllSo (add-one count ∙ sym last)
              (all_next count (omega arith) (all_so count (omega arith)))
          | inr earlier ↦ all_so count (omega arith) past (omega (arith, order, earlier))
        ]

    pub stored_so : (count : ℕ) → count ≤ length trace.entries → AllSo count
    stored_so count within = all_so count within count (omega arith)

    -- also what a replica has where it handles a frame, with what it learned of it
    pub upon_so : (count : ℕ) → count < length trace.entries → (place : ℕ) (old new : ReplicaState)
        (handles : Handles trace count place old new) → AreSo count handles.mid
    upon_so count below place old new handles =
        learned_so count (all_so count (omega (arith, below))) old handles.mid handles.learns
        (stored_so count (omega (arith, below)) place old handles.is_old)
