-- What the replicas of a run begin with: the opening candidates, and the bounds of the setup, which they keep.
use Rattle.std.proofs.Common.{Bool, ◌≡◌, ℕ, zero, suc, ◌+◌, true, List, [], ◌∷◌, Some, sym, ap, subst, ◌∙◌, arith, inl, inr, zero-add, add-zero, length, refl, false, ◌<◌}
use Rattle.std.specs.Prelude.{slice_get}
use Rattle.std.proofs.lemmas.Bool.{false≢true, cases_Bool, or_cases, or_left, not-true}
use Rattle.std.proofs.lemmas.Option.{none-some, same_Some}
use Rattle.std.specs.Prelude.{not, if◌then◌else◌}
use Rattle.qu_base.specs.declared.party.Party.TheVariants as party
use Rattle.qu_history.specs.History.{ObjectHistory}
use Rattle.qu_trace.specs.declared.trace.Setup.{Setup}
use Rattle.qu_trace.specs.Faulty.{is_faulty, is_good}
use Rattle.qu_chain.proofs.Counting.{Found, found_at}
use Rattle.qu_base.specs.declared.party.ObjectId.{ObjectId}
use Rattle.qu_base.specs.declared.party.ReplicaId.{ReplicaId}
use Rattle.qu_base.specs.Bounds.{replicas}
use Rattle.qu_stamp.specs.declared.candidate.Candidate.{Candidate}
use Rattle.qu_stamp.specs.Candidate.{opening, same}
use Rattle.qu_stamp.proofs.Order.{equal_by_same, same-self}
use Rattle.qu_history.specs.History.{holds}
use Rattle.qu_objects.specs.declared.kind.KindName.{KindName}
use Rattle.qu_rows.specs.State.{ReplicaState, own_candidates}
use Rattle.qu_mends.specs.Table.{candidates_in}
use Rattle.qu_fitting.specs.Holding.{opening_histories, replica_at_start}
use Rattle.qu_trace.specs.declared.trace.Trace.{Trace}
use Rattle.qu_world.specs.State.{WorldState, kinds_at, opening_replicas, ring_of}
use Rattle.qu_claims.specs.Times.{world_after}
use Rattle.qu_runs.proofs.Worlds.WorldGrowth.{world_after-none, world_after-grows}
use Rattle.qu_runs.proofs.Worlds.Befores.{WasBefore, grown_from}
use Rattle.qu_seal.specs.Keys.{Ring}
use Rattle.std.proofs.lemmas.List.Elements.{length_all_zip}
use Rattle.qu_replica.specs.Growth.{Grows}
use Rattle.qu_claims.specs.Accepted.{accepts}
use Rattle.qu_claims.specs.Count.{test_at}

-- a replica begins with its place as its name
opening_replica : (number count : ℕ) (keys : Ring) (kinds : ℕ → List KindName) (place : ℕ) (state : ReplicaState)
    → slice_get (opening_replicas number count keys kinds) place ≡ Some state
    → state ≡ replica_at_start (record { 0 = number + place }) keys (kinds (number + place))
unfolding opening_replicas
opening_replica number zero keys kinds place state found = absurd (none-some state found)
opening_replica number (suc count) keys kinds zero state found =
    sym (same_Some _ state found) ∙ ap (λ (it : ℕ). replica_at_start (record { 0 = it }) keys (kinds it))
    (sym (add-zero number))
opening_replica number (suc count) keys kinds (suc place) state found =
    let sum : (number + 1) + place ≡ number + suc place = omega arith in
    opening_replica (number + 1) count keys kinds place state found
    ∙ ap (λ (it : ℕ). replica_at_start (record { 0 = it }) keys (kinds it)) sum

pub opening_at : (trace : Trace) (place : ℕ) (state : ReplicaState)
    → slice_get (world_after trace 0).replicas place ≡ Some state
    → state ≡ replica_at_start (record { 0 = place }) (ring_of trace.setup) (kinds_at trace.setup place)
opening_at trace place state is_state =
    opening_replica 0 (replicas trace.setup.bounds) (ring_of trace.setup) (kinds_at trace.setup) place state
    (ap (λ (world : WorldState). slice_get world.replicas place) (sym (world_after-none trace)) ∙ is_state)
    ∙ ap (λ (it : ℕ). replica_at_start (record { 0 = it }) (ring_of trace.setup) (kinds_at trace.setup it)) (zero-add
    place)

-- what is held at the beginning
opening_held : (me : ReplicaId) (first : ℕ) (kinds : List KindName) (place : ℕ) (candidate : Candidate)
    → holds candidate (candidates_in (slice_get (opening_histories me first kinds) place)) ≡ true → candidate ≡ opening
unfolding opening_histories
opening_held me first [] place candidate held = absurd (false≢true held)
opening_held me first (kind ∷ kinds) zero candidate held =
    elim (or_cases (same opening candidate) _ held) [
      | inl here ↦ sym (equal_by_same opening candidate here)
      | inr none ↦ absurd (false≢true none)
    ]
opening_held me first (kind ∷ kinds) (suc place) candidate held = opening_held me (first + 1) kinds place candidate held

pub opening_holds : (trace : Trace) (place : ℕ) (state : ReplicaState) → slice_get (world_after trace 0).replicas
    place ≡ Some state → (object : ObjectId) (candidate : Candidate)
    → holds candidate (own_candidates state object) ≡ true → candidate ≡ opening
opening_holds trace place state is_state object candidate held =
    opening_held (record { 0 = place }) 0 (kinds_at trace.setup place) object.0 candidate
    (ap (λ (it : ReplicaState). holds candidate (own_candidates it object))
    (sym (opening_at trace place state is_state))
    ∙ held)

-- ---- the name and the keys of the replicas

-- each replica of a run grew from what it began with
grown_at : (trace : Trace) (count place : ℕ) (state : ReplicaState)
    → slice_get (world_after trace count).replicas place ≡ Some state
    → Grows (replica_at_start (record { 0 = place }) (ring_of trace.setup) (kinds_at trace.setup place)) state
grown_at trace count place state is_state =
    let before : WasBefore (world_after trace 0).replicas place state =
    grown_from (world_after trace 0).replicas (world_after trace count).replicas place state
    (world_after-grows trace 0 count (omega arith)).replicas is_state in
    subst (λ (it : ReplicaState). Grows it state) (opening_at trace place before.old before.is_old) before.grows

-- its keys are those of the run
pub keys_are : (trace : Trace) (count place : ℕ) (state : ReplicaState)
    → slice_get (world_after trace count).replicas place ≡ Some state → state.keys ≡ ring_of trace.setup
keys_are trace count place state is_state = (grown_at trace count place state is_state).keys

-- its bounds are those of its setup
pub bounds_are : (trace : Trace) (count place : ℕ) (state : ReplicaState)
    → slice_get (world_after trace count).replicas place ≡ Some state → state.keys.bounds ≡ trace.setup.bounds
bounds_are trace count place state is_state = ap (λ (it : Ring). it.bounds) (keys_are trace count place state is_state)

-- its name is its place
pub me_is : (trace : Trace) (count place : ℕ) (state : ReplicaState)
    → slice_get (world_after trace count).replicas place ≡ Some state → state.me ≡ record { 0 = place }
me_is trace count place state is_state = (grown_at trace count place state is_state).me

-- ---- their number

length-opening : (first count : ℕ) (keys : Ring) (kinds : ℕ → List KindName)
    → length (opening_replicas first count keys kinds) ≡ count
unfolding opening_replicas
length-opening first zero keys kinds = refl
length-opening first (suc count) keys kinds = ap suc (length-opening (first + 1) count keys kinds)

pub all_replicas : (trace : Trace) (count : ℕ) → length (world_after trace count).replicas ≡ replicas trace.setup.bounds
all_replicas trace count =
    sym (length_all_zip Grows (world_after trace 0).replicas (world_after trace count).replicas
    (world_after-grows trace 0 count (omega arith)).replicas) ∙
    ap (λ (world : WorldState). length world.replicas) (world_after-none trace) ∙
    length-opening 0 (replicas trace.setup.bounds) (ring_of trace.setup) (kinds_at trace.setup)

-- ---- what all of them begin with

-- each object begins with the opening candidate
pub begins_held : (me : ReplicaId) (number : ℕ) (kinds : List KindName) (place : ℕ) → place < length kinds
    → holds opening (candidates_in (slice_get (opening_histories me number kinds) place)) ≡ true
unfolding opening_histories
begins_held me number [] place below = absurd (omega arith)
begins_held me number (first ∷ kinds) zero below = or_left (same opening opening) false (same-self opening)
begins_held me number (first ∷ kinds) (suc place) below = begins_held me (number + 1) kinds place (omega arith)

begins_accepted : (object : ObjectId) (number count : ℕ) (keys : Ring) (kinds : ℕ → List KindName) (place : ℕ)
    → place < count → object.0 < length (kinds (number + place))
    → test_at (accepts object opening) (opening_replicas number count keys kinds) place ≡ true
unfolding opening_replicas
begins_accepted object number zero keys kinds place below known = absurd (omega arith)
begins_accepted object number (suc count) keys kinds zero below known =
    begins_held (record { 0 = number }) 0 (kinds number) object.0 (rw add-zero at known)
begins_accepted object number (suc count) keys kinds (suc place) below known =
    let sum : number + suc place ≡ (number + 1) + place = omega arith in
    begins_accepted object (number + 1) count keys kinds place (omega arith) (rw sum at known)

-- a correct one keeps all objects
pub correct_kinds : (setup : Setup) (place : ℕ) → is_good setup place ≡ true → kinds_at setup place ≡ setup.kinds
correct_kinds setup place good =
    ap (λ (test : Bool). if test then [] else setup.kinds)
    (not-true (is_faulty setup (party.Replica (record { 0 = place }))) good)

pub all_begin : (trace : Trace) (object : ObjectId) (place : ℕ) → object.0 < length trace.setup.kinds
    → is_good trace.setup place ≡ true → place < replicas trace.setup.bounds
    → test_at (accepts object opening) (world_after trace 0).replicas place ≡ true
all_begin trace object place known good below =
    let kinds : kinds_at trace.setup place ≡ trace.setup.kinds = correct_kinds trace.setup place good in
    ap (λ (world : WorldState). test_at (accepts object opening) world.replicas place) (world_after-none trace)
    ∙ begins_accepted object 0 (replicas trace.setup.bounds) (ring_of trace.setup) (kinds_at trace.setup)
    place below (subst (λ (it : ℕ). object.0 < length (kinds_at trace.setup it)) (sym (zero-add place))
    (subst (λ (it : List KindName). object.0 < length it) (sym kinds) known))

-- ---- a faulty one accepts nothing

no_kinds : (setup : Setup) (place : ℕ) → is_faulty setup (party.Replica (record { 0 = place })) ≡ true
    → kinds_at setup place ≡ []
no_kinds setup place faulty = ap (λ (test : Bool). if test then [] else setup.kinds) faulty

no_items : (histories : List ObjectHistory) → length histories ≡ 0 → histories ≡ []
no_items [] none = refl
no_items (history ∷ later) none = absurd (omega arith)

none_held : (object : ObjectId) (candidate : Candidate) (state : ReplicaState) → length state.histories ≡ 0
    → accepts object candidate state ≡ false
none_held object candidate state none =
    ap (λ (histories : List ObjectHistory). holds candidate (candidates_in (slice_get histories object.0)))
    (no_items state.histories none)

-- who accepted anything is correct
pub acceptor_is_good : (trace : Trace) (time place : ℕ) (object : ObjectId) (candidate : Candidate)
    → test_at (accepts object candidate) (world_after trace time).replicas place ≡ true
    → is_good trace.setup place ≡ true
unfolding opening_histories
acceptor_is_good trace time place object candidate accepted =
    let found : Found (accepts object candidate) (world_after trace time).replicas place =
    found_at (accepts object candidate) (world_after trace time).replicas place accepted in
    elim (cases_Bool (is_faulty trace.setup (party.Replica (record { 0 = place })))) [
      | inr correct ↦ ap not correct
      | inl faulty ↦
          let grows : Grows (replica_at_start (record { 0 = place }) (ring_of trace.setup) (kinds_at trace.setup place))
          found.item = grown_at trace time place found.item found.is_at in
          let before : length (opening_histories (record { 0 = place }) 0 (kinds_at trace.setup place)) ≡ 0 =
          ap (λ (kinds : List KindName). length (opening_histories (record { 0 = place }) 0 kinds))
          (no_kinds trace.setup place faulty) in
          let now : length (found.item).histories
          ≡ length (opening_histories (record { 0 = place }) 0 (kinds_at trace.setup place)) = grows.number in
          let none : length (found.item).histories ≡ 0 = now ∙ before in
          absurd (false≢true (sym (none_held object candidate found.item none) ∙ found.passed))
    ]
