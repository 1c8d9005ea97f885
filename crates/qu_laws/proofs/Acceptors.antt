-- The replicas that accepted a candidate are, with the faulty ones, at least as many as sets show it whose entries were
-- held before, where they are of correct replicas.
use Rattle.std.proofs.Common.{◌≡◌, ℕ, zero, suc, ◌+◌, ◌≤◌, Bool, true, cond, List, [], ◌∷◌, Option, None, Some, refl, sym, ap, ◌∙◌, arith, inl, inr, filter, false, ◌||◌, ◌<◌, not, subst, add-one}
use Rattle.std.specs.Prelude.{slice_get, count_by, ◌==◌}
use Rattle.std.specs.List.{AllZip, AllByRecursion}
use Rattle.std.specs.Option.{option_and_then}
use Rattle.std.proofs.lemmas.Bool.{cases_Bool, false≢true, cond_both, or_left, or_right, and_parts, ltb-true}
use Rattle.std.proofs.lemmas.List.Sums.{sum_by-cons}
use Rattle.std.proofs.lemmas.Option.{none-some}
use Rattle.qu_base.specs.declared.party.ObjectId.{ObjectId}
use Rattle.qu_base.specs.Bounds.{replicas, quorum}
use Rattle.qu_stamp.specs.declared.candidate.Candidate.{Candidate}
use Rattle.qu_history.specs.declared.sets.SetOf.{SetOf}
use Rattle.qu_history.specs.History.{ObjectHistory, holds}
use Rattle.qu_history.specs.Sets.{histories, entries_of, order_of, method_at}
use Rattle.qu_rows.specs.State.{ReplicaState}
use Rattle.qu_mends.specs.Table.{candidates_in}
use Rattle.qu_trace.specs.declared.trace.Trace.{Trace}
use Rattle.qu_world.specs.State.{WorldState, history_at}
use Rattle.qu_claims.specs.Accepted.{accepts}
use Rattle.qu_claims.specs.Times.{world_after}
use Rattle.qu_shown.specs.Views.{WasHeld, HeldIfCorrect, EachEntry, AreHeld}
use Rattle.qu_runs.proofs.Worlds.WorldGrowth.{AcceptsMore, has_more, world_after-grows}
use Rattle.qu_grounds.proofs.Grounds.{is_base}
use Rattle.qu_history.specs.declared.sealed.Sealed.{Sealed}
use Rattle.qu_claims.specs.Count.{count, test_at}
use Rattle.qu_chain.proofs.Counting.{bit, test_at-here, count-further}
use Rattle.qu_history.specs.Culling.{culled, is_right, mac_is_right}
use Rattle.qu_claims.specs.RunSetting.{setting}
use Rattle.qu_seal.specs.Keys.{Ring, verifies}
use Rattle.qu_base.specs.declared.party.ReplicaId.{ReplicaId}
use Rattle.qu_trace.specs.Faulty.{is_good}
use Rattle.qu_claims.specs.Setting.{acceptors}
use Rattle.qu_runs.proofs.Worlds.Settings.{acceptors_counted}
use Rattle.qu_runs.proofs.Worlds.FewFaults.{either_counted}
use Rattle.qu_base.specs.Format.{FitsFrom}
use Rattle.qu_base.proofs.Numbered.{tested_object}
use Rattle.qu_history.specs.Formats.{entry_form, sealed_entry_form, next_entry, entries_form, set_form, sets_form}
use Rattle.qu_class.proofs.EntriesFit.{not_below}
use Rattle.qu_fitting.proofs.FitCulled.{culled-fits}

-- ---- what was held is still accepted

-- a history that is found stands with a replica
pub record StandsAt (world : WorldState) (history : ObjectHistory) : Type 0 where
  pub state : ReplicaState
  pub is_replica : slice_get world.replicas (history.replica).0 ≡ Some state
  pub found : slice_get state.histories (history.object).0 ≡ Some history

stands_with : (object : ObjectId) (there : Option ReplicaState) (history : ObjectHistory)
    → option_and_then (λ (it : ReplicaState). slice_get it.histories object.0) there ≡ Some history
    → (state : ReplicaState) × (there ≡ Some state) × (slice_get state.histories object.0 ≡ Some history)
stands_with object None history found = absurd (none-some history found)
stands_with object (Some state) history found = (state, refl, found)

pub stands_at : (world : WorldState) (history : ObjectHistory)
    → history_at world history.replica history.object ≡ Some history → StandsAt world history
stands_at world history held =
    let with : (state : ReplicaState) × (slice_get world.replicas (history.replica).0 ≡ Some state)
    × (slice_get state.histories (history.object).0 ≡ Some history) =
    stands_with history.object (slice_get world.replicas (history.replica).0) history held in
    record { state = with.0; is_replica = with.1; found = with.2 }

-- what was accepted at a place is so later
pub more_at : (object : ObjectId) (candidate : Candidate) (olds news : List ReplicaState) (place : ℕ)
    → AllZip AcceptsMore olds news
    → test_at (accepts object candidate) olds place ≡ true → test_at (accepts object candidate) news place ≡ true
more_at object candidate [] news place more accepted = absurd (false≢true accepted)
more_at object candidate (old ∷ olds) [] place more accepted = absurd more
more_at object candidate (old ∷ olds) (new ∷ news) zero more accepted = more.0 object candidate accepted
more_at object candidate (old ∷ olds) (new ∷ news) (suc place) more accepted =
    more_at object candidate olds news place more.1 accepted

-- the replica of a history that was held accepted what it holds
pub still_accepts : (trace : Trace) (count : ℕ) (history : ObjectHistory) (candidate : Candidate)
    → WasHeld trace count history → holds candidate history.candidates ≡ true
    → test_at (accepts history.object candidate) (world_after trace count).replicas (history.replica).0 ≡ true
still_accepts trace count history candidate was held =
    let stands : StandsAt (world_after trace was.past) history =
    stands_at (world_after trace was.past) history was.held in
    more_at history.object candidate (world_after trace was.past).replicas (world_after trace count).replicas
    (history.replica).0
    (has_more (world_after trace was.past) (world_after trace count)
    (world_after-grows trace was.past count was.earlier)).replicas
    (test_at-here (accepts history.object candidate) (world_after trace was.past).replicas (history.replica).0
    stands.state stands.is_replica
    ∙ ap (λ (found : Option ObjectHistory). holds candidate (candidates_in found)) stands.found ∙ held)

-- ---- entries by rising replicas

-- the entry's replica is below n, and passes the test where the first holds of its history and the second does not
pub record CountsIn (n : ℕ) (first second : ObjectHistory → Bool) (test : ℕ → Bool) (sealed : Sealed) : Type 0 where
  pub within : ((sealed.history).replica).0 < n
  pub passes : first sealed.history ≡ true → second sealed.history ≡ false
      → test ((sealed.history).replica).0 ≡ true

bit_either : (first second test : Bool) → (first ≡ true → second ≡ false → test ≡ true)
    → cond first 1 0 ≤ cond second 1 0 + bit test
bit_either false second test follows = omega arith
bit_either true true test follows = omega arith
bit_either true false true follows = omega arith
bit_either true false false follows = absurd (false≢true (follows refl refl))

entry_object : (object : ObjectId) (least : ℕ) (sealed : Sealed) → (sealed_entry_form object least).Fits sealed
    → (((sealed.history).object).0 == object.0) ≡ true
unfolding sealed_entry_form entry_form
entry_object object least sealed fits = fits.0.0.1

-- the entries of which the first holds are at most those of which the second holds and the numbers that pass the test
counted_rising : (object : ObjectId) (first second : ObjectHistory → Bool) (n : ℕ) (test : ℕ → Bool)
    (entries : List Sealed) (least : ℕ) → least ≤ n → FitsFrom (sealed_entry_form object) next_entry least entries
    → AllByRecursion (CountsIn n first second test) entries
    → count_by first (histories entries) + count least test ≤ count_by second (histories entries) + count n test
unfolding count
counted_rising object first second n test [] least order fits each =
    let further : count least test ≤ count n test = count-further test least n order in
    omega (arith, further)
counted_rising object first second n test (sealed ∷ later) least order fits each =
    let replica : ℕ = ((sealed.history).replica).0 in
    let below : replica < n = each.0.within in
    let above : least ≤ replica = not_below object least sealed fits.0 in
    let rest : count_by first (histories later) + count (replica + 1) test
    ≤ count_by second (histories later) + count n test =
    counted_rising object first second n test later (replica + 1) (omega arith) fits.1 each.1 in
    let next : count (replica + 1) test ≡ count replica test + bit (test replica) =
    counted_next test replica in
    let here : cond (first sealed.history) 1 0 ≤ cond (second sealed.history) 1 0 + bit (test replica) =
    bit_either (first sealed.history) (second sealed.history) (test replica) (each.0).passes in
    let before : count least test ≤ count replica test = count-further test least replica above in
    let sum : count_by first (sealed.history ∷ histories later)
    ≡ cond (first sealed.history) 1 0 + count_by first (histories later) =
    sum_by-cons (λ (it : ObjectHistory). cond (first it) 1 0) sealed.history (histories later) in
    let other : count_by second (sealed.history ∷ histories later)
    ≡ cond (second sealed.history) 1 0 + count_by second (histories later) =
    sum_by-cons (λ (it : ObjectHistory). cond (second it) 1 0) sealed.history (histories later) in
    rw (sum, other) (omega (arith, rest, next, here, before))
  where
    counted_next : (test : ℕ → Bool) (number : ℕ) → count (number + 1) test ≡ count number test + bit (test number)
    counted_next test number = ap (λ (it : ℕ). count it test) (add-one number)

-- ---- sets

-- the same of the entries of the object that the sets show
counted_in_sets : (object : ObjectId) (first second : ObjectHistory → Bool) (n : ℕ) (test : ℕ → Bool)
    (sets : List SetOf) (least : ℕ)
    → FitsFrom set_form (λ (set : SetOf). (set.object).0 + 1) least sets
    → AllByRecursion (λ (set : SetOf). ((set.object).0 == object.0) ≡ true
    → AllByRecursion (CountsIn n first second test) set.entries) sets
    → count_by first (entries_of object sets) ≤ count_by second (entries_of object sets) + count n test
unfolding entries_of set_form entries_form
counted_in_sets object first second n test [] least fits each = omega arith
counted_in_sets object first second n test (set ∷ later) least fits each =
    elim (cases_Bool ((set.object).0 == object.0)) [
      | inl here ↦
          let own : count_by first (histories set.entries) + count 0 test
          ≤ count_by second (histories set.entries) + count n test =
          counted_rising set.object first second n test set.entries 0 (omega arith) ((((fits.0).1).1).1)
          (each.0 here) in
          let less : count_by first (histories set.entries) ≤ count_by second (histories set.entries) + count n test =
          omega (arith, own) in
          subst (λ (it : Bool). count_by first (cond it (histories set.entries) (entries_of object later))
          ≤ count_by second (cond it (histories set.entries) (entries_of object later)) + count n test) (sym here) less
      | inr other ↦
          subst (λ (it : Bool). count_by first (cond it (histories set.entries) (entries_of object later))
          ≤ count_by second (cond it (histories set.entries) (entries_of object later)) + count n test) (sym other)
          (counted_in_sets object first second n test later ((set.object).0 + 1) fits.1 each.1)
    ]

none_counted : (entries : List ObjectHistory) → count_by (λ (it : ObjectHistory). false) entries ≡ 0
none_counted [] = refl
none_counted (entry ∷ later) =
    sum_by-cons (λ (it : ObjectHistory). cond false 1 0) entry later ∙ ap (λ (it : ℕ). 0 + it) (none_counted later)

-- ---- what sets show, where each of their entries was held

-- the entry is of a replica of the run, which held it, if it is correct
abbrev pub Stays : Trace → ℕ → Sealed → Type 0
Stays trace time sealed = (((sealed.history).replica).0 < replicas trace.setup.bounds)
    × HeldIfCorrect trace time sealed.history

module _ (trace : Trace) (time : ℕ) (object : ObjectId) where
  module _ (first second : ObjectHistory → Bool) (test : ℕ → Bool)
      (passes : (history : ObjectHistory) → history.object ≡ object
      → (history.replica).0 < replicas trace.setup.bounds → HeldIfCorrect trace time history
      → first history ≡ true → second history ≡ false → test (history.replica).0 ≡ true) where
    shows_so : (of : ObjectId) (least : ℕ) (sealed : Sealed) → (of.0 == object.0) ≡ true
        → (sealed_entry_form of least).Fits sealed → Stays trace time sealed
        → CountsIn (replicas trace.setup.bounds) first second test sealed
    shows_so of least sealed same fits it = record {
      within = it.0;
      passes = passes sealed.history
          (tested_object (sealed.history).object of (entry_object of least sealed fits) ∙ tested_object of object same)
          it.0 it.1;
    }

    entries_show : (of : ObjectId) (least : ℕ) (entries : List Sealed) → (of.0 == object.0) ≡ true
        → FitsFrom (sealed_entry_form of) next_entry least entries → AllByRecursion (Stays trace time) entries
        → AllByRecursion (CountsIn (replicas trace.setup.bounds) first second test) entries
    entries_show of least [] same fits each = tt
    entries_show of least (sealed ∷ later) same fits each = (
      shows_so of least sealed same fits.0 each.0,
      entries_show of (next_entry sealed) later same fits.1 each.1,
    )

    sets_show : (least : ℕ) (sets : List SetOf)
        → FitsFrom set_form (λ (set : SetOf). (set.object).0 + 1) least sets → EachEntry (Stays trace time) sets
        → AllByRecursion (λ (set : SetOf). ((set.object).0 == object.0) ≡ true
        → AllByRecursion (CountsIn (replicas trace.setup.bounds) first second test) set.entries) sets
    unfolding set_form entries_form
    sets_show least [] fits each = tt
    sets_show least (set ∷ later) fits each = (
      λ same. entries_show set.object 0 set.entries same ((((fits.0).1).1).1) each.0,
      sets_show ((set.object).0 + 1) later fits.1 each.1,
    )

    pub counted_held : (sets : List SetOf) → sets_form.Fits sets → EachEntry (Stays trace time) sets
        → count_by first (entries_of object sets)
        ≤ count_by second (entries_of object sets) + count (replicas trace.setup.bounds) test
    unfolding sets_form
    counted_held sets fits each =
        counted_in_sets object first second (replicas trace.setup.bounds) test sets 0 fits.1.1
        (sets_show 0 sets fits.1.1 each)

  module _ (candidate : Candidate) where
    -- the replica at this place accepted it, or is faulty
    abbrev may_show : ℕ → Bool
    may_show at = test_at (accepts object candidate) (world_after trace time).replicas at
        || not (is_good trace.setup at)

    held_shows : (history : ObjectHistory) → history.object ≡ object → HeldIfCorrect trace time history
        → holds candidate history.candidates ≡ true → may_show (history.replica).0 ≡ true
    held_shows history objects was held =
        let at : ℕ = (history.replica).0 in
        let accepted : ℕ → Bool = test_at (accepts object candidate) (world_after trace time).replicas in
        elim (cases_Bool (is_good trace.setup at)) [
          | inr faulty ↦ or_right (accepted at) (not (is_good trace.setup at)) (ap not faulty)
          | inl good ↦
              or_left (accepted at) (not (is_good trace.setup at))
              (ap (λ (one : ObjectId). test_at (accepts one candidate) (world_after trace time).replicas at)
              (sym objects)
              ∙ still_accepts trace time history candidate (was good) held)
        ]

    -- so many accepted a candidate that with the faulty ones they are as many as show it
    pub shown_by_held : (sets : List SetOf) → sets_form.Fits sets → EachEntry (Stays trace time) sets
        → order_of candidate (entries_of object sets)
        ≤ acceptors (setting trace) time object candidate + (setting trace).faults
    unfolding setting order_of
    shown_by_held sets fits each =
        let n : ℕ = replicas trace.setup.bounds in
        let accepted : ℕ → Bool = test_at (accepts object candidate) (world_after trace time).replicas in
        let faulty : ℕ → Bool = λ at. not (is_good trace.setup at) in
        let of_all : acceptors (setting trace) time object candidate ≡ count n accepted =
        acceptors_counted trace time object candidate in
        let either : count n (λ at. accepted at || faulty at) ≤ count n accepted + count n faulty =
        either_counted n accepted faulty in
        let holding : ObjectHistory → Bool = λ it. holds candidate it.candidates in
        let most : count_by holding (entries_of object sets)
        ≤ count_by (λ (it : ObjectHistory). false) (entries_of object sets) + count n may_show =
        counted_held holding (λ it. false) may_show
        (λ history objects among was held none. held_shows history objects was held) sets fits each in
        let no_more : count_by (λ (it : ObjectHistory). false) (entries_of object sets) ≡ 0 =
        none_counted (entries_of object sets) in
        omega (arith, of_all, either, most, no_more)

    -- and what the sets are based on, so many accepted that with the faulty ones they are a quorum
    pub base_by_held : (sets : List SetOf) → sets_form.Fits sets → EachEntry (Stays trace time) sets
        → method_at trace.setup.bounds (entries_of object sets) ≡ Some candidate
        → quorum trace.setup.bounds ≤ acceptors (setting trace) time object candidate + (setting trace).faults
    base_by_held sets fits each is =
        let shown : quorum trace.setup.bounds ≤ order_of candidate (entries_of object sets) =
        (is_base trace.setup.bounds (entries_of object sets) candidate is).of_quorum in
        let most : order_of candidate (entries_of object sets)
        ≤ acceptors (setting trace) time object candidate + (setting trace).faults =
        shown_by_held sets fits each in
        omega (arith, shown, most)

-- ---- culling

filtered_each : (P Q : Sealed → Type 0) (test : Sealed → Bool) (entries : List Sealed)
    → ((sealed : Sealed) → P sealed → test sealed ≡ true → Q sealed) → AllByRecursion P entries
    → AllByRecursion Q (filter test entries)
filtered_each P Q test [] right each = tt
filtered_each P Q test (sealed ∷ later) right each =
    let rest : AllByRecursion Q (filter test later) = filtered_each P Q test later right each.1 in
    cond_both (test sealed) (sealed ∷ filter test later) (filter test later) (AllByRecursion Q)
    (λ passes. (right sealed each.0 passes, rest)) (λ _. rest)

-- what holds of each entry that is right, where something holds of all
pub culled_each : (P Q : Sealed → Type 0) (keys : Ring) (me : ReplicaId) (sets : List SetOf)
    → ((sealed : Sealed) → P sealed → is_right keys me sealed ≡ true → Q sealed) → EachEntry P sets
    → EachEntry Q (culled keys me sets)
unfolding culled
culled_each P Q keys me [] right each = tt
culled_each P Q keys me (set ∷ later) right each =
    (filtered_each P Q (is_right keys me) set.entries right each.0, culled_each P Q keys me later right each.1)

-- whoever sealed an entry that is right is a replica of the ring
mac_within : (keys : Ring) (me : ReplicaId) (history : ObjectHistory) (found : Option (List ℕ))
    → mac_is_right keys me history found ≡ true → (history.replica).0 < replicas keys.bounds
unfolding verifies
mac_within keys me history None is = absurd (false≢true is)
mac_within keys me history (Some mac) is =
    ltb-true _ _ (and_parts _ _ (and_parts _ _ is).0).0

pub right_within : (keys : Ring) (me : ReplicaId) (sealed : Sealed) → is_right keys me sealed ≡ true
    → ((sealed.history).replica).0 < replicas keys.bounds
unfolding is_right
right_within keys me sealed right = mac_within keys me sealed.history (slice_get sealed.macs me.0)
    (and_parts _ _ right).1

-- what a replica finds as the base of sets that a client showed when it asked, so many had accepted by then that with
-- the faulty ones they are a quorum
pub method_is_shown : (trace : Trace) (time : ℕ) (sets : List SetOf) → sets_form.Fits sets → AreHeld trace time sets
    → (keys : Ring) → keys.bounds ≡ trace.setup.bounds → (me : ReplicaId) (object : ObjectId) (base : Candidate)
    → method_at trace.setup.bounds (entries_of object (culled keys me sets)) ≡ Some base
    → quorum trace.setup.bounds ≤ acceptors (setting trace) time object base + (setting trace).faults
method_is_shown trace time sets fits held keys same me object base is =
    base_by_held trace time object base (culled keys me sets) (culled-fits keys me sets fits)
    (culled_each (λ (it : Sealed). HeldIfCorrect trace time it.history) (Stays trace time) keys me sets
    (λ sealed was right. (
      subst (λ (bounds : ℕ). ((sealed.history).replica).0 < replicas bounds) same (right_within keys me sealed right),
      was,
    )) held) is
