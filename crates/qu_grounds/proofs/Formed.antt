-- The sets of a request that fits its format are histories whose stamps rise, of which a replica tells the class, and
-- each candidate in them has a group, or stands alone.
use Rattle.std.proofs.Common.{◌≡◌, ℕ, ◌+◌, ◌==◌, ◌&&◌, ◌||◌, Bool, true, false, not, List, [], ◌∷◌, length, cond, IsTrue, Option, None, Some, inl, inr, refl, sym, ap, subst, ◌∙◌}
use Rattle.std.specs.List.{All, flat_map}
use Rattle.std.proofs.lemmas.Bool.{cases_Bool, false≢true, and_parts, or_cases}
use Rattle.std.proofs.lemmas.List.Folds.{list_any-append}
use Rattle.std.proofs.lemmas.List.Elements.{All-nil, All-cons}
use Rattle.qu_base.specs.Format.{FitsFrom}
use Rattle.qu_base.specs.Bounds.{AreThresholds}
use Rattle.qu_base.specs.declared.party.ObjectId.{ObjectId}
use Rattle.qu_stamp.specs.declared.stamp.Stamp.{Stamp}
use Rattle.qu_stamp.specs.declared.candidate.Candidate.{Candidate}
use Rattle.qu_stamp.specs.Candidate.{same}
use Rattle.qu_stamp.specs.Group.{is_group, is_group_size}
use Rattle.qu_stamp.specs.Formats.{is_opening_time, may_have_act, members_form, group_form, basis_form}
use Rattle.qu_stamp.proofs.Forms.{fits_group, some_size}
use Rattle.qu_stamp.proofs.Order.{equal_by_same}
use Rattle.qu_history.specs.declared.sealed.Sealed.{Sealed}
use Rattle.qu_history.specs.declared.sets.SetOf.{SetOf}
use Rattle.qu_history.specs.Formats.{next_candidate, candidates_form, sealed_entry_form, entry_form, next_entry, set_form, entries_form, sets_form}
use Rattle.qu_history.specs.History.{ObjectHistory, is_history, holds}
use Rattle.qu_history.specs.Sets.{histories, entries_of, candidates_of}
use Rattle.qu_history.proofs.Forms.{fits_history}
use Rattle.qu_class.specs.Rows.{AreWellFormed}

abbrev IsRising : ObjectHistory → Type 0
IsRising entry = IsTrue (is_history entry.candidates)

entries_rise : (object : ObjectId) (least : ℕ) (entries : List Sealed)
    → FitsFrom (sealed_entry_form object) next_entry least entries → All IsRising (histories entries)
unfolding sealed_entry_form entry_form
entries_rise object least [] fits = All-nil IsRising
entries_rise object least (sealed ∷ later) fits =
    All-cons IsRising sealed.history (histories later)
    (fits_history (sealed.history).object (sealed.history).candidates ((((fits.0).0).1).1))
    (entries_rise object (next_entry sealed) later fits.1)

sets_rise_from : (least : ℕ) (sets : List SetOf)
    → FitsFrom set_form (λ (set : SetOf). (set.object).0 + 1) least sets
    → (object : ObjectId) → All IsRising (entries_of object sets)
unfolding set_form entries_form entries_of
sets_rise_from least [] fits object = All-nil IsRising
sets_rise_from least (set ∷ later) fits object =
    elim (cases_Bool ((set.object).0 == object.0)) [
      | inl is ↦
          subst (λ (test : Bool). All IsRising (cond test (histories set.entries) (entries_of object later))) (sym is)
          (entries_rise set.object 0 set.entries (((fits.0).1).1).1)
      | inr other ↦
          subst (λ (test : Bool). All IsRising (cond test (histories set.entries) (entries_of object later)))
          (sym other) (sets_rise_from ((set.object).0 + 1) later fits.1 object)
    ]

pub sets_formed : (bounds : ℕ) (sets : List SetOf) → AreThresholds bounds → sets_form.Fits sets → (object : ObjectId)
    → AreWellFormed bounds (entries_of object sets)
unfolding sets_form
sets_formed bounds sets thresholds fits object = record {
  thresholds = thresholds;
  histories = sets_rise_from 0 sets (fits.1).1 object;
}

-- ---- groups

-- what the format keeps of a candidate's group: it is one, and a barrier stands alone
pub record IsGrouped (candidate : Candidate) : Type 0 where
  pub whole : is_group candidate.group ≡ true
  pub alone : candidate.stamp.barrier ≡ true → candidate.group ≡ []

-- of each candidate that the entries hold
abbrev pub AreGrouped : List ObjectHistory → Type 0
AreGrouped entries = (candidate : Candidate) → holds candidate (candidates_of entries) ≡ true → IsGrouped candidate

barrier_has_none : (size opened : Bool) → size ≡ false → (size || (opened && not true)) ≡ false
barrier_has_none true opened is = absurd (false≢true (sym is))
barrier_has_none false true is = refl
barrier_has_none false false is = refl

barrier_alone : (object : ObjectId) (stamp : Stamp) (group : List (ObjectId × ℕ)) → (group_form object stamp).Fits group
    → stamp.barrier ≡ true → group ≡ []
unfolding group_form members_form
barrier_alone object stamp [] fits is = refl
barrier_alone object stamp (member ∷ later) fits is =
    let size = and_parts (is_group_size (length (member ∷ later))) _ (((fits.0).0).1) in
    absurd (false≢true
    (sym (barrier_has_none (length (member ∷ later) == 0) (not (is_opening_time stamp.time))
    (some_size (length later)))
    ∙ sym (ap (λ (barrier : Bool). length (member ∷ later) == 0 || may_have_act stamp.time barrier) is) ∙ size.1))

grouped : (object : ObjectId) (candidate : Candidate) → (group_form object candidate.stamp).Fits candidate.group
    → IsGrouped candidate
unfolding group_form
grouped object candidate fits = record {
  whole = fits_group candidate.stamp candidate.group fits.0;
  alone = barrier_alone object candidate.stamp candidate.group fits;
}

candidates_grouped : (object : ObjectId) (before : Option Stamp) (candidates : List Candidate)
    → FitsFrom (next_candidate object) (λ candidate. Some candidate.stamp) before candidates
    → (candidate : Candidate) → holds candidate candidates ≡ true → IsGrouped candidate
unfolding next_candidate basis_form
candidates_grouped object before [] fits candidate held = absurd (false≢true held)
candidates_grouped object before (first ∷ later) fits candidate held =
    elim (or_cases (same first candidate) (holds candidate later) held) [
      | inl here ↦ subst IsGrouped (equal_by_same first candidate here) (grouped object first ((fits.0).1).1)
      | inr there ↦ candidates_grouped object (Some first.stamp) later fits.1 candidate there
    ]

history_grouped : (object : ObjectId) (candidates : List Candidate) → (candidates_form object).Fits candidates
    → (candidate : Candidate) → holds candidate candidates ≡ true → IsGrouped candidate
unfolding candidates_form
history_grouped object candidates fits = candidates_grouped object None candidates (fits.1).1

entries_grouped : (object : ObjectId) (least : ℕ) (entries : List Sealed)
    → FitsFrom (sealed_entry_form object) next_entry least entries → AreGrouped (histories entries)
unfolding sealed_entry_form entry_form candidates_of
entries_grouped object least [] fits candidate held = absurd (false≢true held)
entries_grouped object least (sealed ∷ later) fits candidate held =
    let either : (holds candidate (sealed.history).candidates || holds candidate (candidates_of (histories later)))
    ≡ true = sym (list_any-append (λ (it : Candidate). same it candidate) (sealed.history).candidates
    (flat_map (λ (it : ObjectHistory). it.candidates) (histories later))) ∙ held in
    elim (or_cases (holds candidate (sealed.history).candidates) _ either) [
      | inl here ↦
          history_grouped (sealed.history).object (sealed.history).candidates ((((fits.0).0).1).1) candidate here
      | inr there ↦ entries_grouped object (next_entry sealed) later fits.1 candidate there
    ]

none_grouped : AreGrouped []
unfolding candidates_of
none_grouped candidate held = absurd (false≢true held)

sets_grouped_from : (least : ℕ) (sets : List SetOf)
    → FitsFrom set_form (λ (set : SetOf). (set.object).0 + 1) least sets
    → (object : ObjectId) → AreGrouped (entries_of object sets)
unfolding set_form entries_form entries_of
sets_grouped_from least [] fits object = none_grouped
sets_grouped_from least (set ∷ later) fits object =
    elim (cases_Bool ((set.object).0 == object.0)) [
      | inl is ↦
          subst (λ (test : Bool). AreGrouped (cond test (histories set.entries) (entries_of object later))) (sym is)
          (entries_grouped set.object 0 set.entries (((fits.0).1).1).1)
      | inr other ↦
          subst (λ (test : Bool). AreGrouped (cond test (histories set.entries) (entries_of object later)))
          (sym other) (sets_grouped_from ((set.object).0 + 1) later fits.1 object)
    ]

pub sets_grouped : (sets : List SetOf) → sets_form.Fits sets → (object : ObjectId)
    → AreGrouped (entries_of object sets)
unfolding sets_form
sets_grouped sets fits = sets_grouped_from 0 sets (fits.1).1
