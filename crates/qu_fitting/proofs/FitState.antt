-- All that a replica holds fits its format, at the beginning and once it accepted a candidate that fits.
use Rattle.std.proofs.Common.{◌≡◌, ◌-◌, ℕ, zero, suc, ◌+◌, ◌<◌, ◌≤◌, true, List, [], ◌∷◌, ◌++◌, length, length-append, Option, None, Some, refl, sym, ap, subst, ◌∙◌, arith, replicate}
use Rattle.std.specs.Prelude.{IsTrue, IfSome, slice_get}
use Rattle.std.proofs.lemmas.Bool.{false≢true}
use Rattle.std.proofs.lemmas.Option.{none-some, same_Some}
use Rattle.qu_base.specs.declared.limits.TheConstants.{OBJECT_IDS, REPLICA_IDS, LAST_CLIENT}
use Rattle.qu_base.specs.declared.party.ObjectId.{ObjectId}
use Rattle.qu_base.specs.declared.party.ReplicaId.{ReplicaId}
use Rattle.qu_base.specs.Bounds.{replicas, is_replica_count}
use Rattle.qu_base.specs.Format.{FitsFrom}
use Rattle.qu_seal.specs.Keys.{Ring}
use Rattle.qu_stamp.specs.declared.stamp.Stamp.{Stamp}
use Rattle.qu_stamp.specs.declared.candidate.Candidate.{Candidate}
use Rattle.qu_stamp.specs.Stamp.{is_below, same_stamp}
use Rattle.qu_stamp.specs.Candidate.{opening}
use Rattle.qu_stamp.specs.Formats.{basis_form}
use Rattle.qu_history.specs.declared.limits.TheConstants.{HISTORY_LIMIT}
use Rattle.qu_history.specs.History.{ObjectHistory, is_history, latest, last_from}
use Rattle.qu_history.specs.Formats.{next_candidate, candidates_form}
use Rattle.qu_history.proofs.Rising.{latest_is_last}
use Rattle.qu_objects.specs.declared.kind.KindName.{KindName}
use Rattle.qu_objects.specs.declared.state.ObjState.{ObjState}
use Rattle.qu_mends.specs.declared.accepted.Accepted.{Accepted}
use Rattle.qu_versions.specs.declared.stored.Stored.{Stored}
use Rattle.qu_rows.specs.State.{ReplicaState}
use Rattle.qu_mends.specs.Table.{candidates_in}
use Rattle.qu_fitting.specs.Holding.{with_candidate, stored_if, accept, accept_all, opening_histories, replica_at_start}
use Rattle.qu_rows.specs.Allowed.{MayAccept, MayAcceptAll}
use Rattle.qu_fitting.proofs.AcceptingAll.{all_after}
use Rattle.qu_versions.specs.Versions.{opening_store}
use Rattle.qu_fitting.proofs.FitValues.{fresh_fits}
use Rattle.qu_fitting.specs.Fits.{VersionFits, VersionsFit, SlotFits, StateFits}
use Rattle.qu_fitting.proofs.Accepting.{length-with_candidate}
use Rattle.qu_rows.proofs.Own.{own_history}
use Rattle.qu_fitting.proofs.OwnHistories.{accept-histories, opening-histories}
use Rattle.qu_fitting.proofs.FitVersions.{none_rising, no_links}
use Rattle.qu_fitting.proofs.FitStamps.{CandidateFits, opening_fits, opening_candidate_fits}
use Rattle.std.specs.List.{AllByRecursion}
use Rattle.qu_fitting.proofs.FitAccepted.{AcceptFits, AcceptAllFit}

-- ---- one more candidate of a history

abbrev stamp_after : Option Stamp → List Candidate → Option Stamp
stamp_after before [] = before
stamp_after before (first ∷ later) = stamp_after (Some first.stamp) later

after_is_last : (first : Candidate) (later : List Candidate) → stamp_after (Some first.stamp) later ≡ Some
    (last_from first later).stamp
unfolding last_from
after_is_last first [] = refl
after_is_last first (next ∷ later) = after_is_last next later

fits_after : (object : ObjectId) (before : Option Stamp) (candidates : List Candidate) (candidate : Candidate)
    → FitsFrom (next_candidate object) (λ (it : Candidate). Some it.stamp) before candidates
    → (next_candidate object (stamp_after before candidates)).Fits candidate
    → FitsFrom (next_candidate object) (λ (it : Candidate). Some it.stamp) before (candidates ++ candidate ∷ [])
fits_after object before [] candidate fits here = (here, tt)
fits_after object before (first ∷ later) candidate fits here =
    (fits.0, fits_after object (Some first.stamp) later candidate fits.1 here)

-- a candidate that fits, above the stamp before it
next_fits : (object : ObjectId) (before : Stamp) (candidate : Candidate) → CandidateFits object candidate
    → is_below before candidate.stamp ≡ true → (next_candidate object (Some before)).Fits candidate
unfolding next_candidate basis_form
next_fits object before candidate fits below = ((fits.stamp, below), (fits.prior, fits.group))

last_is : (candidates : List Candidate) → IsTrue (is_history candidates) → stamp_after None candidates ≡ Some
    (latest candidates)
unfolding is_history last_from
last_is [] rises = absurd (false≢true rises)
last_is (first ∷ later) rises = after_is_last first later ∙ ap Some (sym (latest_is_last (first ∷ later) rises))

pub push_fits : (object : ObjectId) (candidates : List Candidate) (candidate : Candidate)
    → (candidates_form object).Fits candidates
    → IsTrue (is_history candidates) → is_below (latest candidates) candidate.stamp ≡ true
    → length candidates < HISTORY_LIMIT → CandidateFits object candidate
    → (candidates_form object).Fits (candidates ++ candidate ∷ [])
unfolding candidates_form
push_fits object candidates candidate fits rises later room here =
    let count : length (candidates ++ candidate ∷ []) ≡ length candidates + 1 =
    length-append candidates (candidate ∷ []) in (
      (omega (arith, count), omega (arith, count, room)),
      (
        refl,
        fits_after object None candidates candidate (fits.1).1
            (subst (λ (before : Option Stamp). (next_candidate object before).Fits candidate)
            (sym (last_is candidates rises)) (next_fits object (latest candidates) candidate here later)),
      ),
    )

-- ---- a candidate is accepted

histories_with : (number : ℕ) (candidate : Candidate) (histories : List ObjectHistory)
    → ((place : ℕ) (history : ObjectHistory) → slice_get histories place ≡ Some history
    → (candidates_form history.object).Fits history.candidates)
    → ((history : ObjectHistory) → slice_get histories number ≡ Some history
    → (candidates_form history.object).Fits (history.candidates ++ candidate ∷ []))
    → (place : ℕ) (history : ObjectHistory) → slice_get (with_candidate number candidate histories) place ≡ Some
    history → (candidates_form history.object).Fits history.candidates
unfolding with_candidate
histories_with number candidate [] before grown place history found = before place history found
histories_with zero candidate (here ∷ later) before grown zero history found =
    subst (λ (it : ObjectHistory). (candidates_form it.object).Fits it.candidates)
    (same_Some (record here { candidates = here.candidates ++ candidate ∷ [] }) history found) (grown here refl)
histories_with zero candidate (here ∷ later) before grown (suc place) history found = before (suc place) history found
histories_with (suc number) candidate (here ∷ later) before grown zero history found = before zero history found
histories_with (suc number) candidate (here ∷ later) before grown (suc place) history found =
    histories_with number candidate later (λ at it. before (suc at) it) grown place history found

stored_fits : (object : ObjectId) (stamp : Stamp) (version : Option ObjState) → IfSome version VersionFits
    → VersionsFit (stored_if object stamp version)
stored_fits object stamp None fits = tt
stored_fits object stamp (Some version) fits = (fits, tt)

pub versions_with : (versions more : List Stored) → VersionsFit versions → VersionsFit more
    → VersionsFit (versions ++ more)
versions_with [] more fits here = here
versions_with (first ∷ later) more fits here = (fits.0, versions_with later more fits.1 here)

pub accept-fits : (state : ReplicaState) (accepted : Accepted) → StateFits state → MayAccept state accepted
    → AcceptFits accepted → StateFits (accept state accepted)
accept-fits state accepted fits may made = record {
  me = fits.me;
  bounds = fits.bounds;
  few =
      let number : length (with_candidate (accepted.object).0 accepted.candidate state.histories) ≡ length
      state.histories = length-with_candidate (accepted.object).0 accepted.candidate state.histories in
      omega (arith, number, fits.few);
  own = accept-histories state accepted fits.own may;
  histories = histories_with (accepted.object).0 accepted.candidate state.histories fits.histories (λ history found.
      let later : is_below (latest history.candidates) accepted.candidate.stamp ≡ true =
      ap (λ (it : Option ObjectHistory). is_below (latest (candidates_in it)) accepted.candidate.stamp)
      (sym found) ∙ may.later in
      let room : length history.candidates < HISTORY_LIMIT =
      subst (λ (it : Option ObjectHistory). length (candidates_in it) < HISTORY_LIMIT) found may.room in
      let own = own_history state (accepted.object).0 history fits.own found in
      let object : accepted.object ≡ history.object = λ i. record { 0 = sym own.object i } in
      push_fits history.object history.candidates accepted.candidate (fits.histories (accepted.object).0 history found)
      own.rises later room (subst (λ (it : ObjectId). CandidateFits it accepted.candidate) object
      (record { stamp = made.stamp; prior = made.prior; group = made.group })));
  versions = versions_with state.versions _ fits.versions
      (stored_fits accepted.object accepted.candidate.stamp accepted.state made.version);
  waiting = fits.waiting;
}

pub accept_all-fits : (state : ReplicaState) (accepted : List Accepted) → StateFits state
    → MayAcceptAll state accepted → AcceptAllFit accepted → StateFits (accept_all state accepted)
unfolding accept_all
accept_all-fits state [] fits may made = fits
accept_all-fits state (first ∷ later) fits may made =
    accept_all-fits (accept state first) later (accept-fits state first fits may.0 made.0)
    (all_after state first later may.1 may.2) made.1

-- ---- the beginning

opening_candidates : (object : ObjectId) → (candidates_form object).Fits (opening ∷ [])
unfolding candidates_form next_candidate basis_form same_stamp
opening_candidates object =
    let fits = opening_candidate_fits object in
    ((omega arith, omega arith), (refl, (((opening_fits, refl), (fits.prior, fits.group)), tt)))

pub opening_number : (me : ReplicaId) (first : ℕ) (kinds : List KindName)
    → length (opening_histories me first kinds) ≡ length kinds
unfolding opening_histories
opening_number me first [] = refl
opening_number me first (kind ∷ kinds) = ap suc (opening_number me (first + 1) kinds)

opening_histories_fit : (me : ReplicaId) (first : ℕ) (kinds : List KindName) (place : ℕ) (history : ObjectHistory)
    → slice_get (opening_histories me first kinds) place ≡ Some history
    → (candidates_form history.object).Fits history.candidates
unfolding opening_histories
opening_histories_fit me first [] place history found = absurd (none-some history found)
opening_histories_fit me first (kind ∷ kinds) zero history found =
    subst (λ (it : ObjectHistory). (candidates_form it.object).Fits it.candidates) (same_Some _ history found)
    (opening_candidates _)
opening_histories_fit me first (kind ∷ kinds) (suc place) history found =
    opening_histories_fit me (first + 1) kinds place history found

opening_store_fits : (first : ℕ) (kinds : List KindName) → VersionsFit (opening_store first kinds)
unfolding opening_store
opening_store_fits first [] = tt
opening_store_fits first (kind ∷ kinds) = (
  record { value = fresh_fits kind; kept = tt; rising = none_rising; links = no_links },
  opening_store_fits (first + 1) kinds,
)

none_wait : (count : ℕ) → AllByRecursion SlotFits (replicate count None)
none_wait zero = tt
none_wait (suc count) = (tt, none_wait count)

-- a replica begins so
pub opening-fits : (me : ReplicaId) (keys : Ring) (kinds : List KindName) → me.0 ≤ REPLICA_IDS - 1
    → IsTrue (is_replica_count (replicas keys.bounds)) → length kinds ≤ OBJECT_IDS
    → StateFits (replica_at_start me keys kinds)
opening-fits me keys kinds within sized few = record {
  me = within;
  bounds = sized;
  few = let number : length (opening_histories me 0 kinds) ≡ length kinds =
      opening_number me 0 kinds in omega (arith, number, few);
  own = opening-histories me keys kinds;
  histories = opening_histories_fit me 0 kinds;
  versions = opening_store_fits 0 kinds;
  waiting = none_wait (LAST_CLIENT + 1);
}
