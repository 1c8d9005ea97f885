-- A replica of a run has as many objects as the setup has kinds.
use Rattle.std.proofs.Common.{Bool, false, ◌≡◌, ℕ, zero, suc, ◌+◌, ◌≤◌, List, [], ◌∷◌, length, arith, Some, sym, subst, None, Option, refl, true, ◌<◌}
use Rattle.std.specs.List.{AllZip}
use Rattle.qu_base.specs.Bounds.{replicas}
use Rattle.qu_objects.specs.declared.kind.KindName.{KindName}
use Rattle.qu_rows.specs.State.{ReplicaState}
use Rattle.qu_mends.specs.Table.{candidates_in}
use Rattle.qu_fitting.specs.Holding.{opening_histories}
use Rattle.qu_replica.specs.Growth.{Grows}
use Rattle.qu_trace.specs.declared.trace.Setup.{Setup}
use Rattle.std.specs.Prelude.{if◌then◌else◌}
use Rattle.qu_base.specs.declared.party.Party.TheVariants as party
use Rattle.qu_trace.specs.Faulty.{is_faulty}
use Rattle.qu_world.specs.State.{opening_replicas, opening_world, kinds_at, ring_of, WorldState}
use Rattle.qu_fitting.proofs.FitState.{opening_number}
use Rattle.qu_seal.specs.Keys.{Ring}
use Rattle.std.specs.Prelude.{slice_get}
use Rattle.std.proofs.lemmas.Option.{none-some, same_Some, slice_get_within}
use Rattle.qu_trace.specs.declared.trace.Trace.{Trace}
use Rattle.qu_claims.specs.Times.{world_after}
use Rattle.qu_runs.proofs.Worlds.WorldGrowth.{world_after-grows, world_after-none}
use Rattle.qu_stamp.specs.declared.candidate.Candidate.{Candidate}
use Rattle.qu_chain.proofs.Counting.{Found, found_at}
use Rattle.qu_history.specs.History.{ObjectHistory, holds}
use Rattle.qu_base.specs.declared.party.ObjectId.{ObjectId}
use Rattle.qu_claims.specs.Accepted.{accepts}
use Rattle.qu_claims.specs.Count.{test_at}
use Rattle.std.proofs.lemmas.Bool.{false≢true}

abbrev pub EachHas : ℕ → List ReplicaState → Type 0
EachHas objects [] = Unit {0}
EachHas objects (replica ∷ later) = (length replica.histories ≤ objects) × EachHas objects later

pub each_has-grows : (objects : ℕ) (olds news : List ReplicaState) → AllZip Grows olds news → EachHas objects olds
    → EachHas objects news
each_has-grows objects [] [] grows few = tt
each_has-grows objects [] (new ∷ news) grows few = absurd grows
each_has-grows objects (old ∷ olds) [] grows few = tt
each_has-grows objects (old ∷ olds) (new ∷ news) grows few =
    let number : length new.histories ≡ length old.histories = grows.0.number in
    let before : length old.histories ≤ objects = few.0 in
    (omega arith, each_has-grows objects olds news grows.1 few.1)

each_has-opening : (most number count : ℕ) (keys : Ring) (kinds : ℕ → List KindName)
    → ((place : ℕ) → length (kinds place) ≤ most) → EachHas most (opening_replicas number count keys kinds)
unfolding opening_replicas
each_has-opening most number zero keys kinds few = tt
each_has-opening most number (suc count) keys kinds few =
    let same_number : length (opening_histories (record { 0 = number }) 0 (kinds number)) ≡ length (kinds number) =
    opening_number (record { 0 = number }) 0 (kinds number) in
    let here : length (kinds number) ≤ most = few number in
    (omega arith, each_has-opening most (number + 1) count keys kinds few)

-- a replica keeps no more objects than there are
pub few_kinds : (setup : Setup) (place : ℕ) → length (kinds_at setup place) ≤ length setup.kinds
few_kinds setup place = fewer (is_faulty setup (party.Replica (record { 0 = place })))
  where
    fewer : (test : Bool) → length (if test then [] else setup.kinds) ≤ length setup.kinds
    fewer true = omega arith
    fewer false = omega arith

pub opening_has : (setup : Setup) → EachHas (length setup.kinds) (opening_world setup).replicas
opening_has setup = each_has-opening (length setup.kinds) 0 (replicas setup.bounds) (ring_of setup) (kinds_at setup)
    (few_kinds setup)

-- the replicas of a run have the objects of its setup
pub run_has : (trace : Trace) (count : ℕ) → EachHas (length trace.setup.kinds) (world_after trace count).replicas
run_has trace count =
    let opening : EachHas (length trace.setup.kinds) (world_after trace 0).replicas =
    subst (λ (world : WorldState). EachHas (length trace.setup.kinds) world.replicas)
    (sym (world_after-none trace)) (opening_has trace.setup) in
    each_has-grows (length trace.setup.kinds) (world_after trace 0).replicas (world_after trace count).replicas
    (world_after-grows trace 0 count (omega arith)).replicas opening

-- a replica among these has at most so many objects
pub found_within : (number : ℕ) (states : List ReplicaState) (place : ℕ) (state : ReplicaState)
    → EachHas number states → slice_get states place ≡ Some state → length state.histories ≤ number
found_within number [] place state each found = absurd (none-some state found)
found_within number (first ∷ later) zero state each found =
    subst (λ (it : ReplicaState). length it.histories ≤ number) (same_Some first state found) each.0
found_within number (first ∷ later) (suc place) state each found = found_within number later place state each.1 found

-- who holds a candidate of an object has this object
pub held_within : (candidate : Candidate) (histories : List ObjectHistory) (place : ℕ) (found : Option ObjectHistory)
    → slice_get histories place ≡ found → holds candidate (candidates_in found) ≡ true → place < length histories
held_within candidate histories place None is held = absurd (false≢true held)
held_within candidate histories place (Some history) is held = slice_get_within histories place history is

-- what a replica accepted is a candidate of an object that there is
pub accepted_known : (trace : Trace) (time place : ℕ) (object : ObjectId) (candidate : Candidate)
    → test_at (accepts object candidate) (world_after trace time).replicas place ≡ true
    → object.0 < length trace.setup.kinds
accepted_known trace time place object candidate accepted =
    let world : WorldState = world_after trace time in
    let found : Found (accepts object candidate) world.replicas place =
    found_at (accepts object candidate) world.replicas place accepted in
    let few : length (found.item).histories ≤ length trace.setup.kinds =
    found_within (length trace.setup.kinds) world.replicas place found.item (run_has trace time) found.is_at in
    let here : object.0 < length (found.item).histories =
    held_within candidate (found.item).histories object.0 (slice_get (found.item).histories object.0) refl
    found.passed in
    omega arith
