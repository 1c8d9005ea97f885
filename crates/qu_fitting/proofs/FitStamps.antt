-- The stamps that a replica makes of what was decoded fit their format.
use Rattle.std.proofs.Common.{◌≡◌, ℕ, ◌+◌, ◌≤◌, Bool, true, false, not, ◌&&◌, ◌||◌, cond, List, [], ◌∷◌, ◌++◌, length, Option, None, Some, inl, inr, refl, sym, ap, subst, ◌∙◌, arith}
use Rattle.std.specs.Prelude.{nat_le, ◌==◌}
use Rattle.std.specs.List.{filter, flat_map}
use Rattle.std.proofs.lemmas.Bool.Decides.{nat_tests}
use Rattle.std.proofs.lemmas.Bool.{false≢true, not-true, and_from, and_parts, cases_Bool}
use Rattle.std.proofs.lemmas.Option.{none-some, same_Some, cond_some}
use Rattle.std.proofs.lemmas.List.Folds.{list_any-append}
use Rattle.qu_base.specs.declared.limits.TheConstants.{LAST_CLIENT}
use Rattle.qu_base.specs.declared.party.ClientId.{ClientId}
use Rattle.qu_base.specs.declared.party.Digest.{Digest}
use Rattle.qu_base.specs.declared.party.ObjectId.{ObjectId}
use Rattle.qu_base.specs.Bounds.{quorum, repair}
use Rattle.qu_base.specs.Format.{FitsFrom, optional, digest_form, flag}
use Rattle.qu_base.proofs.Numbered.{tested_object}
use Rattle.qu_stamp.specs.declared.stamp.Stamp.{Stamp}
use Rattle.qu_stamp.specs.declared.limits.TheConstants.{LAST_TIME}
use Rattle.qu_stamp.specs.declared.candidate.Candidate.{Candidate}
use Rattle.qu_stamp.specs.Stamp.{opening_stamp, is_below, same_stamp}
use Rattle.qu_stamp.specs.Candidate.{opening, same}
use Rattle.qu_stamp.specs.Formats.{stamp_with, stamp_form, prior_form, group_form, basis_form, plain_stamp_form}
use Rattle.qu_stamp.proofs.Forms.{alone_fits}
use Rattle.qu_stamp.proofs.Order.{equal_by_same, equal_by_same_stamp}
use Rattle.qu_history.specs.declared.sealed.Sealed.{Sealed}
use Rattle.qu_history.specs.declared.sets.SetOf.{SetOf}
use Rattle.qu_history.specs.History.{ObjectHistory, holds}
use Rattle.qu_history.specs.Sets.{histories, entries_of, order_of, candidates_of, latest_of, greatest, object_candidate, if_method, method_at}
use Rattle.qu_history.specs.Formats.{next_candidate, candidates_form, sealed_entry_form, entry_form, next_entry, entries_form, set_form, sets_form}
use Rattle.qu_history.proofs.Greatest.{greatest_cases, holds-filter}
use Rattle.qu_class.specs.Repairable.{is_shown_of_kind, greatest_of_kind, barrier_candidate}

-- ---- a fresh stamp

act_fits : (act : Option Digest) → ((digest : Digest) → act ≡ Some digest → length digest.0 ≡ 32)
    → (optional true digest_form).Fits act
act_fits None sized = ((omega arith, omega arith), refl)
act_fits (Some digest) sized = ((omega arith, omega arith), sized digest refl)

-- a stamp above time 0 that is no barrier's
pub stamp_fits : (time : ℕ) (client : ClientId) (act : Option Digest) (set : Digest) → (time == 0) ≡ false
    → time ≤ LAST_TIME → 1 ≤ client.0 → client.0 ≤ LAST_CLIENT
    → ((digest : Digest) → act ≡ Some digest → length digest.0 ≡ 32) → length set.0 ≡ 32
    → stamp_form.Fits (record { time = time; barrier = false; client = client; act = act; set = set })
unfolding stamp_with
stamp_fits time client act set above within low high acted sized =
    rw above (((omega arith, within), ((omega arith, omega arith), ((low, high), (act_fits act acted, (sized, refl))))))

-- a stamp above time 0 without an act, a barrier's or not
pub actless_stamp_fits : (time : ℕ) (barrier : Bool) (client : ClientId) (set : Digest) → (time == 0) ≡ false
    → time ≤ LAST_TIME → 1 ≤ client.0 → client.0 ≤ LAST_CLIENT → length set.0 ≡ 32
    → stamp_form.Fits (record { time = time; barrier = barrier; client = client; act = None; set = set })
unfolding stamp_with
actless_stamp_fits time true client set above within low high sized =
    rw above
    ((
      (omega arith, within),
      (
        (omega arith, omega arith),
        ((low, high), (((omega arith, omega arith), refl), (sized, refl))),
      ),
    ))
actless_stamp_fits time false client set above within low high sized =
    rw above
    ((
      (omega arith, within),
      (
        (omega arith, omega arith),
        ((low, high), (((omega arith, omega arith), refl), (sized, refl))),
      ),
    ))

-- a stamp of no barrier fits where only such may stand
pub plain_fits : (stamp : Stamp) → stamp.barrier ≡ false → stamp_form.Fits stamp → plain_stamp_form.Fits stamp
unfolding stamp_with
plain_fits stamp plain fits = (
  fits.0,
  (subst (λ (it : Bool). (flag false).Fits it) (sym plain) (omega arith, omega arith), (fits.1).1),
)

pub later_time : (time : ℕ) → ((time + 1) == 0) ≡ false
later_time time = grind (arith, nat_tests)

pub not_opening : (stamp : Stamp) → (stamp.time == 0) ≡ false → same_stamp stamp opening_stamp ≡ false
unfolding same_stamp
not_opening stamp above = rw above refl

pub prior_fits : (stamp prior : Stamp) → same_stamp stamp opening_stamp ≡ false → stamp_form.Fits prior
    → is_below prior stamp ≡ true → prior.barrier ≡ false → (prior_form stamp).Fits prior
prior_fits stamp prior other fits below plain = (
  fits,
  and_from _ _ (ap (λ (test : Bool). cond test (same_stamp prior opening_stamp) (is_below prior stamp))
      other ∙ below) (ap not plain),
)

pub opening_fits : stamp_form.Fits opening_stamp
unfolding stamp_with same_stamp
opening_fits = (
  (omega arith, omega arith),
  ((omega arith, omega arith), ((omega arith, omega arith), (((omega arith, omega arith), refl), (refl, refl)))),
)

-- the prior of the opening candidate
pub prior_of_opening_fits : (prior_form opening_stamp).Fits opening_stamp
unfolding same_stamp
prior_of_opening_fits = (opening_fits, refl)

-- ---- what entries hold

-- a candidate on this object
pub record CandidateFits (object : ObjectId) (candidate : Candidate) : Type 0 where
  pub stamp : stamp_form.Fits candidate.stamp
  pub prior : (prior_form candidate.stamp).Fits candidate.prior
  pub group : (group_form object candidate.stamp).Fits candidate.group

pub opening_candidate_fits : (object : ObjectId) → CandidateFits object opening
opening_candidate_fits object =
    record { stamp = opening_fits; prior = prior_of_opening_fits; group = alone_fits object opening_stamp }

-- all of these fit
abbrev pub CandidatesFit : ObjectId → List Candidate → Type 0
CandidatesFit object candidates = (held : Candidate) → holds held candidates ≡ true → CandidateFits object held

-- one of two
pub of_either : {P : Type 0} (left right : Bool) → (left ≡ true → P) → (right ≡ true → P) → (left || right) ≡ true → P
of_either true right one two is = one refl
of_either false right one two is = two is

pub candidates_fit_from : (object : ObjectId) (before : Option Stamp) (candidates : List Candidate)
    → FitsFrom (next_candidate object) (λ (candidate : Candidate). Some candidate.stamp) before candidates
    → CandidatesFit object candidates
unfolding next_candidate basis_form
candidates_fit_from object before [] fits held holding = absurd (false≢true holding)
candidates_fit_from object None (first ∷ later) fits held holding =
    of_either (same first held) (holds held later)
    (λ is. subst (CandidateFits object) (equal_by_same first held is)
    (record { stamp = (((fits.0).0).0); prior = ((fits.0).1).0; group = ((fits.0).1).1 }))
    (λ there. candidates_fit_from object (Some first.stamp) later fits.1 held there) holding
candidates_fit_from object (Some stamp) (first ∷ later) fits held holding =
    of_either (same first held) (holds held later)
    (λ is. subst (CandidateFits object) (equal_by_same first held is)
    (record { stamp = (((fits.0).0).0); prior = ((fits.0).1).0; group = ((fits.0).1).1 }))
    (λ there. candidates_fit_from object (Some first.stamp) later fits.1 held there) holding

pub candidates_fit : (object : ObjectId) (candidates : List Candidate) → (candidates_form object).Fits candidates
    → CandidatesFit object candidates
unfolding candidates_form
candidates_fit object candidates fits = candidates_fit_from object None candidates (fits.1).1

joined_fit : (object : ObjectId) (one two : List Candidate) → CandidatesFit object one → CandidatesFit object two
    → CandidatesFit object (one ++ two)
joined_fit object one two fits later held holding =
    of_either (holds held one) (holds held two) (fits held) (later held)
    (sym (list_any-append (λ (it : Candidate). same it held) one two) ∙ holding)

entries_fit : (object : ObjectId) (least : ℕ) (entries : List Sealed)
    → FitsFrom (sealed_entry_form object) next_entry least entries
    → CandidatesFit object (candidates_of (histories entries))
unfolding sealed_entry_form entry_form candidates_of
entries_fit object least [] fits = λ held holding. absurd (false≢true holding)
entries_fit object least (sealed ∷ later) fits =
    let each : ObjectHistory → List Candidate = λ (entry : ObjectHistory). entry.candidates in
    joined_fit object (sealed.history).candidates (flat_map each (histories later))
    (subst (λ (it : ObjectId). CandidatesFit it (sealed.history).candidates)
    (tested_object (sealed.history).object object ((((fits.0).0).0).1))
    (candidates_fit (sealed.history).object (sealed.history).candidates ((((fits.0).0).1).1)))
    (entries_fit object (next_entry sealed) later fits.1)

none_fit : (object : ObjectId) → CandidatesFit object (candidates_of [])
unfolding candidates_of
none_fit object held holding = absurd (false≢true holding)

sets_fit_from : (least : ℕ) (sets : List SetOf) → FitsFrom set_form (λ (set : SetOf). (set.object).0 + 1) least
    sets → (object : ObjectId) → CandidatesFit object (candidates_of (entries_of object sets))
unfolding set_form entries_form entries_of
sets_fit_from least [] fits object = none_fit object
sets_fit_from least (set ∷ later) fits object =
    elim (cases_Bool ((set.object).0 == object.0)) [
      | inl is ↦
          subst (λ (test : Bool). CandidatesFit object
          (candidates_of (cond test (histories set.entries) (entries_of object later)))) (sym is)
          (subst (λ (it : ObjectId). CandidatesFit it (candidates_of (histories set.entries)))
          (tested_object set.object object is) (entries_fit set.object 0 set.entries (((fits.0).1).1).1))
      | inr other ↦
          subst (λ (test : Bool). CandidatesFit object
          (candidates_of (cond test (histories set.entries) (entries_of object later)))) (sym other)
          (sets_fit_from ((set.object).0 + 1) later fits.1 object)
    ]

-- all that fitting sets show of an object
pub shown_fit : (sets : List SetOf) → sets_form.Fits sets → (object : ObjectId)
    → CandidatesFit object (candidates_of (entries_of object sets))
unfolding sets_form
shown_fit sets fits object = sets_fit_from 0 sets (fits.1).1 object

-- ---- what operations and repairs rest upon

held_greatest : (test : Candidate → Bool) (candidates : List Candidate) (found : Option Candidate)
    → greatest (filter test candidates) ≡ found → (base : Candidate) → found ≡ Some base
    → (holds base candidates ≡ true) × (test base ≡ true)
held_greatest test candidates found is base given =
    elim (greatest_cases (filter test candidates)) [
      | inl none ↦ absurd (none-some base (sym none.0 ∙ is ∙ given))
      | inr best ↦
          let equal : best.0 ≡ base = same_Some best.0 base (sym best.1 ∙ is ∙ given) in
          subst (λ (it : Candidate). (holds it candidates ≡ true) × (test it ≡ true)) equal
          (holds-filter test best.0 candidates (best.2).held)
    ]

-- an object candidate is held by an entry, and is no barrier
pub object_candidate_shown : (bounds : ℕ) (entries : List ObjectHistory) (base : Candidate)
    → object_candidate bounds entries ≡ Some base
    → (holds base (candidates_of entries) ≡ true) × (base.stamp.barrier ≡ false)
unfolding object_candidate
object_candidate_shown bounds entries base given =
    let test : Candidate → Bool = λ (other : Candidate). not other.stamp.barrier && nat_le (repair bounds)
    (order_of other entries) in
    let held = held_greatest test (candidates_of entries) _ refl base given in
    (held.0, not-true base.stamp.barrier (and_parts _ _ held.1).0)

-- so is a barrier that may be repaired
pub barrier_candidate_shown : (bounds : ℕ) (entries : List ObjectHistory) (barrier : Candidate)
    → barrier_candidate bounds entries ≡ Some barrier → holds barrier (candidates_of entries) ≡ true
unfolding greatest_of_kind
barrier_candidate_shown bounds entries barrier given =
    (held_greatest (is_shown_of_kind true (repair bounds) entries) (candidates_of entries) _ refl barrier given).0

module _ (bounds : ℕ) (entries : List ObjectHistory) (base : Candidate) where
  found_passes : (found : Option Candidate) → if_method bounds entries found ≡ Some base → (found ≡ Some base)
      × (base.stamp ≡ latest_of entries)
  unfolding if_method
  found_passes None given = absurd (none-some base given)
  found_passes (Some candidate) given =
      let passing :
      ((same_stamp candidate.stamp (latest_of entries) && nat_le (quorum bounds) (order_of candidate entries))
      ≡ true) × (candidate ≡ base) = cond_some _ candidate base given in
      let parts = and_parts _ _ passing.0 in (
        ap Some passing.1,
        ap (λ (it : Candidate). it.stamp) (sym passing.1) ∙ equal_by_same_stamp candidate.stamp
            (latest_of entries) parts.0,
      )

  pub base_latest : method_at bounds entries ≡ Some base → base.stamp ≡ latest_of entries
  unfolding method_at
  base_latest given = (found_passes (object_candidate bounds entries) given).1

  pub base_shown : method_at bounds entries ≡ Some base → holds base (candidates_of entries) ≡ true
  unfolding method_at
  base_shown given =
      (object_candidate_shown bounds entries base (found_passes (object_candidate bounds entries) given).0).0
