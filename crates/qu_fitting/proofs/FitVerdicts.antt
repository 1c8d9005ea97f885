-- What a replica answers to a request that was decoded fits its format.
use Rattle.std.proofs.Common.{◌≡◌, ℕ, suc, ◌+◌, ◌-◌, ◌^◌, ◌<◌, ◌≤◌, List, [], ◌∷◌, length, Option, None, Some, refl, ap, ◌∙◌, arith}
use Rattle.std.specs.Prelude.{IsTrue}
use Rattle.std.specs.List.{AllByRecursion}
use Rattle.std.proofs.lemmas.Bool.{le-leb}
use Rattle.std.proofs.lemmas.List.{length-map}
use Rattle.qu_base.specs.declared.limits.TheConstants.{OBJECT_IDS}
use Rattle.qu_base.specs.declared.party.ObjectId.{ObjectId}
use Rattle.qu_base.specs.Format.{FitsFrom}
use Rattle.qu_stamp.specs.declared.stamp.Stamp.{Stamp}
use Rattle.qu_stamp.specs.Formats.{stamp_form}
use Rattle.qu_objects.specs.declared.act.Method.{Method}
use Rattle.qu_objects.specs.declared.query.Ask.{Ask}
use Rattle.qu_base.specs.declared.kind.Item.{Item}
use Rattle.qu_objects.specs.declared.answer.Answer.{Answer}
use Rattle.qu_objects.specs.declared.limits.TheConstants.{MOST_PARTS}
use Rattle.qu_base.specs.declared.kind.Applied.{Applied}
use Rattle.qu_base.specs.declared.kind.Applied.TheVariants as made
use Rattle.qu_objects.specs.declared.kind.Value.{Value}
use Rattle.qu_objects.specs.Kind.{value_told}
use Rattle.qu_objects.specs.RefusalNumber.{is_kind_refusal}
use Rattle.qu_objects.specs.Digesting.{PartsFit}
use Rattle.qu_objects.specs.Performing.{outcomes, refusal_from, items_of, changed_values, answer_by, values_by, answer_from, performed_answer, performed_values, told_outcomes, told_answer}
use Rattle.qu_objects.specs.Formats.{item_form, answer_form}
use Rattle.qu_kept.proofs.EachObject.{objects_named}
use Rattle.qu_kept.proofs.PerformedStates.{made_each}
use Rattle.qu_verdicts.specs.declared.verdict.ClassCode.{ClassCode}
use Rattle.qu_verdicts.specs.declared.verdict.ClassCode.TheVariants.{InlineMethod, Copy, InlineBarrier, Barrier, Needs}
use Rattle.qu_verdicts.specs.declared.verdict.Refusal.{Refusal}
use Rattle.qu_verdicts.specs.declared.verdict.Refusal.TheVariants.{HistoryFull, Thin, NotCurrent, NotMethod, Spent, TimeSpent, UnknownObject, Sound}
use Rattle.qu_verdicts.specs.declared.verdict.Refusal.TheVariants as refusal
use Rattle.qu_verdicts.specs.declared.verdict.Verdict.TheVariants.{Done, Told, Already, Mended, Refused}
use Rattle.qu_verdicts.specs.Formats.{class_form, refusal_form, stamp_from, after_told, stamps_form, verdict_form}
use Rattle.qu_fitting.specs.Fits.{ValueFits}
use Rattle.qu_fitting.proofs.CarriedEach.{with_stamps}
use Rattle.qu_kept.proofs.RisingObjects.{RiseFrom}
use Rattle.qu_fitting.proofs.RisingParts.{PartsRise}
use Rattle.qu_fitting.proofs.FitValues.{refusal_within, IsFitting, applied_fits, value_told-fits, left_fits}

-- ---- refusals

refused_fits : (why : Refusal) → refusal_form.Fits why → verdict_form.Fits (Refused why)
unfolding verdict_form
refused_fits why fits = (((omega arith, omega arith), refl), fits)

class_fits : (class : ClassCode) → class_form.Fits class
class_fits InlineMethod = (omega arith, omega arith)
class_fits Copy = (omega arith, omega arith)
class_fits InlineBarrier = (omega arith, omega arith)
class_fits Barrier = (omega arith, omega arith)
class_fits Needs = (omega arith, omega arith)

module _ (object : ObjectId) (within : object.0 ≤ OBJECT_IDS - 1) where
  pub unknown_fits : verdict_form.Fits (Refused (UnknownObject object))
  unfolding refusal_form
  unknown_fits = refused_fits _ (((omega arith, omega arith), refl), (omega arith, within))

  pub thin_fits : verdict_form.Fits (Refused (Thin object))
  unfolding refusal_form
  thin_fits = refused_fits _ (((omega arith, omega arith), refl), (omega arith, within))

  pub time_fits : verdict_form.Fits (Refused (TimeSpent object))
  unfolding refusal_form
  time_fits = refused_fits _ (((omega arith, omega arith), refl), (omega arith, within))

  pub full_fits : verdict_form.Fits (Refused (HistoryFull object))
  unfolding refusal_form
  full_fits = refused_fits _ (((omega arith, omega arith), refl), (omega arith, within))

  pub needs_fits : verdict_form.Fits (Refused (refusal.Needs object))
  unfolding refusal_form
  needs_fits = refused_fits _ (((omega arith, omega arith), refl), (omega arith, within))

  pub stale_fits : verdict_form.Fits (Refused (refusal.Stale object))
  unfolding refusal_form
  stale_fits = refused_fits _ (((omega arith, omega arith), refl), (omega arith, within))

  pub sound_fits : verdict_form.Fits (Refused (Sound object))
  unfolding refusal_form
  sound_fits = refused_fits _ (((omega arith, omega arith), refl), (omega arith, within))

  pub method_fits : (class : ClassCode) → verdict_form.Fits (Refused (NotMethod object class))
  unfolding refusal_form
  method_fits class =
      refused_fits _ (((omega arith, omega arith), refl), ((omega arith, within), class_fits class))

  pub current_fits : (latest : Stamp) → stamp_form.Fits latest → verdict_form.Fits (Refused (NotCurrent object latest))
  unfolding refusal_form
  current_fits latest fits = refused_fits _ (((omega arith, omega arith), refl), ((omega arith, within), fits))

  pub spent_fits : (number : ℕ) → number ≤ 2 ^ 64 - 1 → verdict_form.Fits (Refused (Spent object number))
  unfolding refusal_form
  spent_fits number fits =
      refused_fits _ (((omega arith, omega arith), refl), ((omega arith, within), (omega arith, fits)))

  pub mended_fits : (stamp : Stamp) → stamp_form.Fits stamp → verdict_form.Fits (Mended object stamp)
  unfolding verdict_form
  mended_fits stamp fits = (((omega arith, omega arith), refl), ((omega arith, within), fits))

pub already_fits : (answer : Answer) → answer_form.Fits answer → verdict_form.Fits (Already answer)
unfolding verdict_form
already_fits answer fits = (((omega arith, omega arith), refl), fits)

-- ---- stamps

-- the objects, each with a stamp that fits
stamps_from : (stamp : ObjectId → Stamp) (least : ℕ) (objects : List ObjectId) → RiseFrom least objects
    → AllByRecursion (λ (object : ObjectId). stamp_form.Fits (stamp object)) objects
    → FitsFrom stamp_from after_told least (with_stamps stamp objects)
stamps_from stamp least [] rise fits = tt
stamps_from stamp least (object ∷ later) rise fits =
    ((((omega arith, rise.1), le-leb _ _ rise.0), fits.0), stamps_from stamp (object.0 + 1) later rise.2 fits.1)

pub stamps_fit : {X : Type 0} (stamp : ObjectId → Stamp) (parts : List (ObjectId × X)) → PartsRise parts
    → AllByRecursion (λ (object : ObjectId). stamp_form.Fits (stamp object)) (objects_named parts)
    → stamps_form.Fits (with_stamps stamp (objects_named parts))
unfolding stamps_form
stamps_fit stamp parts rise fits =
    let many : length (with_stamps stamp (objects_named parts)) ≡ length parts =
    length-map (objects_named parts) (λ (object : ObjectId). (object, stamp object))
    ∙ length-map parts (λ part. part.0) in
    let some : 1 ≤ length parts = rise.some in
    let few : length parts ≤ MOST_PARTS = rise.few in (
      (omega (arith, many, some), omega (arith, many, few)),
      (refl, stamps_from stamp 0 (objects_named parts) rise.rise fits),
    )

pub done_fits : (stamps : List (ObjectId × Stamp)) (answer : Answer) → stamps_form.Fits stamps
    → answer_form.Fits answer → verdict_form.Fits (Done stamps answer)
unfolding verdict_form
done_fits stamps answer fits answered = (((omega arith, omega arith), refl), (fits, answered))

pub told_fits : (stamps : List (ObjectId × Stamp)) (answer : Answer) → stamps_form.Fits stamps
    → answer_form.Fits answer → verdict_form.Fits (Told stamps answer)
unfolding verdict_form
told_fits stamps answer fits answered = (((omega arith, omega arith), refl), (fits, answered))

-- ---- answers

-- of the parts from this position on all have an item, or the first refused one is among them
abbrev IsRefusalFrom : ℕ → List (Applied Value) → Option (ℕ × ℕ) → Type 0
IsRefusalFrom from outcomes None = length (items_of outcomes) ≡ length outcomes
IsRefusalFrom from outcomes (Some refused) =
    (refused.0 < from + length outcomes) × IsTrue (is_kind_refusal refused.1)

one_more : (from : ℕ) (after : Value) (item : Item) (later : List (Applied Value)) (found : Option (ℕ × ℕ))
    → IsRefusalFrom (from + 1) later found → IsRefusalFrom from (made.Changed after item ∷ later) found
one_more from after item later None is = ap suc is
one_more from after item later (Some refused) is =
    let below : refused.0 < from + 1 + length later = is.0 in (omega (arith, below), is.1)

is_refusal : (from : ℕ) (outcomes : List (Applied Value)) → AllByRecursion IsFitting outcomes
    → IsRefusalFrom from outcomes (refusal_from from outcomes)
is_refusal from [] fit = refl
is_refusal from (made.Changed after item ∷ later) fit =
    one_more from after item later (refusal_from (from + 1) later) (is_refusal (from + 1) later fit.1)
is_refusal from (made.Refused why ∷ later) fit = (omega arith, fit.0)

items_fit : (outcomes : List (Applied Value)) → AllByRecursion IsFitting outcomes
    → FitsFrom {K = Unit {0}} (λ before. item_form) (λ item. tt) tt (items_of outcomes)
items_fit [] fit = tt
items_fit (made.Changed after item ∷ later) fit = (fit.0.1, items_fit later fit.1)
items_fit (made.Refused why ∷ later) fit = items_fit later fit.1

answer_from-fits : (outcomes : List (Applied Value)) → 1 ≤ length outcomes → length outcomes ≤ MOST_PARTS
    → AllByRecursion IsFitting outcomes → answer_form.Fits (answer_from outcomes)
unfolding answer_form
answer_from-fits outcomes some few fit = by (refusal_from 0 outcomes) (is_refusal 0 outcomes fit)
  where
    by : (found : Option (ℕ × ℕ)) → IsRefusalFrom 0 outcomes found
        → answer_form.Fits (answer_by found (items_of outcomes))
    by None is = (
      ((omega arith, omega arith), refl),
      ((omega (arith, is, some), omega (arith, is, few)), (refl, items_fit outcomes fit)),
    )
    by (Some refused) is =
        let below : refused.0 < 0 + length outcomes = is.0 in (
          ((omega arith, omega arith), refl),
          ((omega arith, omega (arith, below, few)), ((omega arith, refusal_within refused.1 is.1), is.1)),
        )

changed_fit : (outcomes : List (Applied Value)) → AllByRecursion IsFitting outcomes
    → AllByRecursion ValueFits (changed_values outcomes)
changed_fit [] fit = tt
changed_fit (made.Changed after item ∷ later) fit = (fit.0.0, changed_fit later fit.1)
changed_fit (made.Refused why ∷ later) fit = changed_fit later fit.1

outcomes_fit : (parts : List (ObjectId × Method)) (values : List Value) → PartsFit parts
    → AllByRecursion ValueFits values → AllByRecursion IsFitting (outcomes parts values)
outcomes_fit [] values sized fit = tt
outcomes_fit (part ∷ parts) [] sized fit = tt
outcomes_fit (part ∷ parts) (value ∷ values) sized fit =
    (applied_fits part.1 value sized.0 fit.0, outcomes_fit parts values sized.1 fit.1)

told_outcomes_fit : (parts : List (ObjectId × Ask)) (values : List Value) → AllByRecursion ValueFits values
    → AllByRecursion IsFitting (told_outcomes parts values)
told_outcomes_fit [] values fit = tt
told_outcomes_fit (part ∷ parts) [] fit = tt
told_outcomes_fit (part ∷ parts) (value ∷ values) fit = (
  left_fits value (value_told part.1 value) fit.0 (value_told-fits part.1 value fit.0),
  told_outcomes_fit parts values fit.1,
)

told_each : (parts : List (ObjectId × Ask)) (values : List Value) → length values ≡ length parts
    → length (told_outcomes parts values) ≡ length parts
told_each [] values fit = refl
told_each (part ∷ parts) [] fit = absurd (omega arith)
told_each (part ∷ parts) (value ∷ values) fit = grind (arith, told_each parts values)

module _ (parts : List (ObjectId × Method)) (rise : PartsRise parts) (sized : PartsFit parts) (values : List Value)
    (fit : AllByRecursion ValueFits values) (many : length values ≡ length parts) where
  pub performed_fits : answer_form.Fits (performed_answer parts values)
  performed_fits =
      let made : length (outcomes parts values) ≡ length parts = made_each parts values many in
      let some : 1 ≤ length parts = rise.some in
      let few : length parts ≤ MOST_PARTS = rise.few in
      answer_from-fits (outcomes parts values) (omega (arith, made, some)) (omega (arith, made, few))
      (outcomes_fit parts values sized fit)

  -- the values after it
  pub values_fitting : AllByRecursion ValueFits (performed_values parts values)
  values_fitting = by (refusal_from 0 (outcomes parts values))
    where
      by : (found : Option (ℕ × ℕ))
          → AllByRecursion ValueFits (values_by found values (changed_values (outcomes parts values)))
      by None = changed_fit (outcomes parts values) (outcomes_fit parts values sized fit)
      by (Some refused) = fit

-- what a query is told
pub read_fits : (parts : List (ObjectId × Ask)) → PartsRise parts → (values : List Value)
    → AllByRecursion ValueFits values → length values ≡ length parts → answer_form.Fits (told_answer parts values)
read_fits parts rise values fit many =
    let made : length (told_outcomes parts values) ≡ length parts = told_each parts values many in
    let some : 1 ≤ length parts = rise.some in
    let few : length parts ≤ MOST_PARTS = rise.few in
    answer_from-fits (told_outcomes parts values) (omega (arith, made, some)) (omega (arith, made, few))
    (told_outcomes_fit parts values fit)
