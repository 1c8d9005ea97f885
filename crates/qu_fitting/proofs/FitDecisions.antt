-- What a replica decides fits where its verdict and the candidates that it accepts do; the rows that all requests
-- share.
use Rattle.std.proofs.Common.{◌≡◌, ◌-◌, ◌^◌, ℕ, ◌+◌, ◌≤◌, Bool, cond, List, [], ◌∷◌, length, Option, None, Some, inl, inr, refl, sym, ap, subst, ◌∙◌}
use Rattle.std.specs.Prelude.{IsTrue, find, option_map, slice_get}
use Rattle.std.specs.List.{AllByRecursion}
use Rattle.std.proofs.lemmas.Bool.{cases_Bool}
use Rattle.std.proofs.lemmas.Option.{none-some, same_Some}
use Rattle.qu_base.specs.declared.limits.TheConstants.{LAST_CLIENT, OBJECT_IDS}
use Rattle.qu_base.specs.declared.party.Digest.{Digest}
use Rattle.qu_base.specs.declared.party.ObjectId.{ObjectId}
use Rattle.qu_base.specs.Format.{FitsFrom}
use Rattle.qu_stamp.specs.declared.stamp.Stamp.{Stamp}
use Rattle.qu_stamp.specs.Formats.{stamp_form, plain_stamp_form}
use Rattle.qu_history.specs.declared.sets.SetOf.{SetOf}
use Rattle.qu_history.specs.History.{ObjectHistory, is_history, greatest_stamp, latest, last}
use Rattle.qu_history.specs.Formats.{set_form, sets_form}
use Rattle.qu_history.proofs.Rising.{latest_is_last}
use Rattle.qu_history.proofs.Stamps.{holds_last}
use Rattle.qu_verdicts.specs.declared.verdict.Refusal.{Refusal}
use Rattle.qu_verdicts.specs.declared.verdict.Refusal.TheVariants.{UnknownObject, Thin}
use Rattle.qu_verdicts.specs.declared.verdict.Verdict.TheVariants.{Refused}
use Rattle.qu_verdicts.specs.Formats.{verdict_form}
use Rattle.qu_rows.specs.declared.decision.Decision.{Decision}
use Rattle.qu_rows.specs.declared.decision.Decision.TheVariants.{Answers, Waits}
use Rattle.qu_rows.specs.State.{ReplicaState, own_latest}
use Rattle.qu_mends.specs.Table.{candidates_in, first_given}
use Rattle.qu_rows.specs.Rows.{Asked, refuse, row_unknown, row_thin}
use Rattle.qu_rows.proofs.Own.{own_history}
use Rattle.qu_fitting.specs.Fits.{StateFits}
use Rattle.qu_kept.proofs.RisingObjects.{IsNumbered}
use Rattle.qu_fitting.proofs.FitStamps.{opening_fits, candidates_fit}
use Rattle.qu_fitting.proofs.FitVerdicts.{unknown_fits, thin_fits}
use Rattle.qu_fitting.proofs.FitAccepted.{AcceptAllFit}

-- a request whose fields fit
pub record AskedFits (asked : Asked) : Type 0 where
  pub low : 1 ≤ (asked.client).0
  pub high : (asked.client).0 ≤ LAST_CLIENT
  pub number : asked.number ≤ 2 ^ 64 - 1
  pub sets : sets_form.Fits asked.sets
  pub act : (digest : Digest) → asked.act ≡ Some digest → length digest.0 ≡ 32
  pub set : length (asked.set).0 ≡ 32

-- a version under this key can be fetched
pub record KeyFits (key : ObjectId × Stamp) : Type 0 where
  pub object : (key.0).0 ≤ OBJECT_IDS - 1
  pub stamp : plain_stamp_form.Fits key.1

abbrev pub DecisionFits : Decision → Type 0
DecisionFits (Answers verdict accepted) = verdict_form.Fits verdict × AcceptAllFit accepted
DecisionFits (Waits missing) = AllByRecursion KeyFits missing

-- ---- rows one after the other

abbrev pub Gives : Option Decision → Type 0
Gives row = (decision : Decision) → row ≡ Some decision → DecisionFits decision

pub past : (row : Option Decision) (later : List (Option Decision)) → Gives row
    → (row ≡ None → DecisionFits (first_given (Waits []) later)) → DecisionFits (first_given (Waits []) (row ∷ later))
unfolding first_given
past None later gives next = next refl
past (Some decision) later gives next = gives decision refl

pub no_row : DecisionFits (first_given (Waits []) [])
unfolding first_given
no_row = tt

pub refusing : {A : Type 0} (why : A → Refusal) (refused : Option A)
    → ((it : A) → refused ≡ Some it → verdict_form.Fits (Refused (why it)))
    → Gives (option_map (λ it. refuse (why it)) refused)
refusing why None fits decision given = absurd (none-some decision given)
refusing why (Some it) fits decision given = subst DecisionFits (same_Some (refuse (why it)) decision given)
    (fits it refl, tt)

-- what all have, that which is found has
pub found_has : {X : Type 0} (P : X → Type 0) (test : X → Bool) (items : List X) → AllByRecursion P items
    → (found : X) → find test items ≡ Some found → P found
found_has P test [] all found given = absurd (none-some found given)
found_has P test (item ∷ later) all found given =
    elim (cases_Bool (test item)) [
      | inl is ↦
          subst P
          (same_Some item found (sym (ap (λ (it : Bool). cond it (Some item) (find test later)) is) ∙ given)) all.0
      | inr not ↦
          found_has P test later all.1 found
          (sym (ap (λ (it : Bool). cond it (Some item) (find test later)) not) ∙ given)
    ]

-- ---- the rows of the sets

sets_from : (least : ℕ) (sets : List SetOf)
    → FitsFrom set_form (λ (set : SetOf). (set.object).0 + 1) least sets
    → AllByRecursion (λ (set : SetOf). IsNumbered set.object) sets
unfolding set_form
sets_from least [] fits = tt
sets_from least (set ∷ later) fits = (((fits.0).0).0.1, sets_from ((set.object).0 + 1) later fits.1)

pub sets_numbered : (sets : List SetOf) → sets_form.Fits sets
    → AllByRecursion (λ (set : SetOf). IsNumbered set.object) sets
unfolding sets_form
sets_numbered sets fits = sets_from 0 sets (fits.1).1

no_latest : stamp_form.Fits (latest [])
unfolding greatest_stamp
no_latest = opening_fits

module _ (state : ReplicaState) (asked : Asked) (fits : StateFits state) (asks : AskedFits asked) where
  -- what the replica accepted last
  latest_in : (object : ObjectId) (found : Option ObjectHistory) → slice_get state.histories object.0 ≡ found
      → stamp_form.Fits (latest (candidates_in found))
  latest_in object None is = no_latest
  latest_in object (Some history) is =
      let rises : IsTrue (is_history history.candidates) = (own_history state object.0 history fits.own is).rises in
      subst (λ (it : Stamp). stamp_form.Fits it) (sym (latest_is_last history.candidates rises))
      (candidates_fit history.object history.candidates (fits.histories object.0 history is) (last history.candidates)
      (holds_last history.candidates rises)).stamp

  pub own_fits : (object : ObjectId) → stamp_form.Fits (own_latest state object)
  own_fits object = latest_in object (slice_get state.histories object.0) refl

  numbered_set : (test : SetOf → Bool) (set : SetOf) → find test asked.sets ≡ Some set → IsNumbered set.object
  numbered_set test set found =
      found_has (λ (it : SetOf). IsNumbered it.object) test asked.sets (sets_numbered asked.sets asks.sets) set found

  pub unknown : Gives (row_unknown state asked)
  unfolding row_unknown
  unknown = refusing (λ (set : SetOf). UnknownObject set.object) _
      (λ set found. unknown_fits set.object (numbered_set _ set found))

  pub thin : Gives (row_thin state asked)
  unfolding row_thin
  thin = refusing (λ (set : SetOf). Thin set.object) _
      (λ set found. thin_fits set.object (numbered_set _ set found))
