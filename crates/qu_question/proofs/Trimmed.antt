-- Trimmed sets are made of what the sets were made of, and fit where those did.
use Rattle.std.proofs.Common.{◌≡◌, ℕ, zero, suc, ◌+◌, ◌≤◌, Bool, cond, List, [], ◌∷◌, length, Option, None, Some, inl, inr, refl, sym, ap, subst, ◌∙◌, arith}
use Rattle.std.specs.Prelude.{nat_le, not, ◌%◌, ◌==◌, ◌&&◌, map, filter}
use Rattle.std.specs.List.{AllByRecursion}
use Rattle.std.proofs.lemmas.Bool.{cases_Bool, cond_both}
use Rattle.std.proofs.lemmas.List.{length-map}
use Rattle.std.proofs.lemmas.Option.{none-some, same_Some}
use Rattle.qu_base.specs.declared.limits.TheConstants.{REPLICA_IDS}
use Rattle.qu_base.specs.declared.party.ObjectId.{ObjectId}
use Rattle.qu_base.specs.Bounds.{replicas, quorum, repair}
use Rattle.qu_base.specs.Format.{FitsFrom}
use Rattle.qu_base.proofs.Items.{few_left}
use Rattle.qu_stamp.specs.declared.candidate.Candidate.{Candidate}
use Rattle.qu_history.specs.declared.sealed.Sealed.{Sealed}
use Rattle.qu_history.specs.declared.sets.SetOf.{SetOf}
use Rattle.qu_history.specs.Formats.{entries_form, set_form, sets_form}
use Rattle.qu_history.specs.History.{ObjectHistory}
use Rattle.qu_history.specs.Sets.{histories}
use Rattle.qu_history.specs.Trimming.{greatest_shown, is_up_to, entries_up_to, trimmed_set, trimmed}
use Rattle.qu_class.proofs.EntriesFit.{EntriesFit, entries_left}
use Rattle.qu_question.specs.declared.kept.Kept.{Kept}
use Rattle.qu_question.specs.Question.{entries_from, whole_sets, sets_of}
use Rattle.qu_question.specs.Kept.{is_left_out, kept_of}

-- ---- what holds of all that is kept holds of each entry of the sets

each_left : (Q : Sealed → Type 0) (test : Sealed → Bool) (entries : List Sealed) → AllByRecursion Q entries
    → AllByRecursion Q (filter test entries)
each_left Q test [] each = tt
each_left Q test (sealed ∷ later) each =
    cond_both (test sealed) _ _ (AllByRecursion Q) (λ _. (each.0, each_left Q test later each.1))
    (λ _. each_left Q test later each.1)

each_up_to : (Q : Sealed → Type 0) (bounds : ℕ) (greatest : Option Candidate) (entries : List Sealed)
    → AllByRecursion Q entries → AllByRecursion Q (entries_up_to bounds greatest entries)
each_up_to Q bounds None entries each = each
each_up_to Q bounds (Some candidate) entries each =
    cond_both (nat_le (quorum bounds) (length (filter (is_up_to candidate) entries))) _ _ (AllByRecursion Q)
    (λ _. each_left Q (is_up_to candidate) entries each) (λ _. each)

-- each entry of each of the sets
abbrev pub OfEntries : (Sealed → Type 0) → List SetOf → Type 0
OfEntries Q sets = AllByRecursion (λ (set : SetOf). AllByRecursion Q set.entries) sets

each_trimmed : (Q : Sealed → Type 0) (bounds : ℕ) (sets : List SetOf) → OfEntries Q sets
    → OfEntries Q (trimmed bounds sets)
unfolding trimmed
each_trimmed Q bounds [] each = tt
each_trimmed Q bounds (set ∷ later) each = (
  each_up_to Q bounds (greatest_shown (histories set.entries) (repair bounds)) set.entries each.0,
  each_trimmed Q bounds later each.1,
)

each_found : (Q : Sealed → Type 0) (object : ObjectId) (replica : ℕ) (kept : List Kept) (sealed : Sealed)
    → AllByRecursion (λ (it : Kept). Q it.sealed) kept → kept_of object replica kept ≡ Some sealed → Q sealed
unfolding kept_of
each_found Q object replica [] sealed each found = absurd (none-some sealed found)
each_found Q object replica (held ∷ later) sealed each found =
    let own : ObjectHistory = (held.sealed).history in
    let test : Bool = (own.object).0 == object.0 && ((own.replica).0 == replica && not (is_left_out held.mark)) in
    let rest : Option Sealed = kept_of object replica later in
    elim (cases_Bool test) [
      | inl here ↦
          let same : held.sealed ≡ sealed =
          same_Some _ _ (sym (ap (λ (it : Bool). cond it (Some held.sealed) rest) here) ∙ found) in
          subst Q same each.0
      | inr other ↦ each_found Q object replica later sealed each.1
          (sym (ap (λ (it : Bool). cond it (Some held.sealed) rest) other) ∙ found)
    ]

each_next : (Q : Sealed → Type 0) (found : Option Sealed) (later : List Sealed)
    → ((sealed : Sealed) → found ≡ Some sealed → Q sealed) → AllByRecursion Q later
    → AllByRecursion Q (elim found [ None ↦ later | Some sealed ↦ sealed ∷ later ])
each_next Q None later is each = each
each_next Q (Some sealed) later is each = (is sealed refl, each)

each_from : (Q : Sealed → Type 0) (object : ObjectId) (replica count : ℕ) (kept : List Kept)
    → AllByRecursion (λ (it : Kept). Q it.sealed) kept
    → AllByRecursion Q (entries_from object replica count kept)
unfolding entries_from
each_from Q object replica zero kept each = tt
each_from Q object replica (suc count) kept each =
    each_next Q (kept_of object replica kept) (entries_from object (replica + 1) count kept)
    (λ sealed found. each_found Q object replica kept sealed each found)
    (each_from Q object (replica + 1) count kept each)

each_whole : (Q : Sealed → Type 0) (bounds : ℕ) (kept : List Kept) (objects : List ObjectId)
    → AllByRecursion (λ (it : Kept). Q it.sealed) kept → OfEntries Q (whole_sets bounds kept objects)
each_whole Q bounds kept [] each = tt
each_whole Q bounds kept (object ∷ later) each =
    (each_from Q object 0 (replicas bounds) kept each, each_whole Q bounds kept later each)

pub each_of_sets : (Q : Sealed → Type 0) (bounds round : ℕ) (kept : List Kept) (objects : List ObjectId)
    → AllByRecursion (λ (it : Kept). Q it.sealed) kept → OfEntries Q (sets_of bounds round kept objects)
each_of_sets Q bounds round kept objects each =
    let whole : OfEntries Q (whole_sets bounds kept objects) = each_whole Q bounds kept objects each in
    cond_both (round % 2 == 1) _ _ (OfEntries Q)
    (λ _. each_trimmed Q bounds (whole_sets bounds kept objects) whole) (λ _. whole)

-- ---- trimmed sets fit

-- these entries fit, and are so many at most
abbrev AreFew : ObjectId → List Sealed → List Sealed → Type 0
AreFew object entries left = EntriesFit object 0 left × (length left ≤ length entries)

up_to_fit : (bounds : ℕ) (object : ObjectId) (greatest : Option Candidate) (entries : List Sealed)
    → EntriesFit object 0 entries → AreFew object entries (entries_up_to bounds greatest entries)
up_to_fit bounds object None entries fits = (fits, omega arith)
up_to_fit bounds object (Some candidate) entries fits =
    cond_both (nat_le (quorum bounds) (length (filter (is_up_to candidate) entries))) _ _ (AreFew object entries)
    (λ _. (entries_left (is_up_to candidate) object 0 entries fits, few_left (is_up_to candidate) entries))
    (λ _. (fits, omega arith))

set_trimmed : (bounds least : ℕ) (set : SetOf) → (set_form least).Fits set
    → (set_form least).Fits (trimmed_set bounds set)
unfolding set_form entries_form
set_trimmed bounds least set fits =
    let left : AreFew set.object set.entries (trimmed_set bounds set).entries =
    up_to_fit bounds set.object (greatest_shown (histories set.entries) (repair bounds)) set.entries (((fits.1).1).1) in
    let few : length set.entries ≤ REPLICA_IDS = ((fits.1).0).1 in (
      fits.0,
      ((omega arith, omega (arith, left.1, few)), (refl, left.0)),
    )

sets_trimmed : (bounds least : ℕ) (sets : List SetOf)
    → FitsFrom set_form (λ (set : SetOf). (set.object).0 + 1) least sets
    → FitsFrom set_form (λ (set : SetOf). (set.object).0 + 1) least (map (trimmed_set bounds) sets)
sets_trimmed bounds least [] fits = tt
sets_trimmed bounds least (set ∷ later) fits =
    (set_trimmed bounds least set fits.0, sets_trimmed bounds ((set.object).0 + 1) later fits.1)

pub trimmed-fits : (bounds : ℕ) (sets : List SetOf) → sets_form.Fits sets → sets_form.Fits (trimmed bounds sets)
unfolding sets_form trimmed
trimmed-fits bounds sets fits =
    let same : length (map (trimmed_set bounds) sets) ≡ length sets = length-map sets (trimmed_set bounds) in
    let size = fits.0 in
    ((omega (arith, same, size.0), omega (arith, same, size.1)), (refl, sets_trimmed bounds 0 sets (fits.1).1))
