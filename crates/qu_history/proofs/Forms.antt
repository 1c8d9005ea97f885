-- The formats of histories and sets are exact, and what fits them is a history, and are sets.
use Rattle.std.proofs.Common.{◌≡◌, ℕ, ◌+◌, ◌^◌, ◌<◌, true, List, [], ◌∷◌, Option, None, Some, Result, Ok, IsTrue, ◌≤◌, length, refl, ap, arith}
use Rattle.std.specs.Int.{w8, w16}
use Rattle.std.proofs.lemmas.Bool.{and_from, lt-ltb, le-leb}
use Rattle.qu_base.specs.declared.bad_text.ReadFail.{ReadFail}
use Rattle.qu_base.specs.declared.bad_text.Why.TheVariants.{Range, Order}
use Rattle.qu_base.specs.declared.limits.TheConstants.{REPLICA_IDS}
use Rattle.qu_base.specs.declared.party.ObjectId.{ObjectId}
use Rattle.qu_base.specs.declared.party.ReplicaId.{ReplicaId}
use Rattle.qu_base.specs.Cursor.{Front}
use Rattle.qu_base.specs.Format.{IsPrefixCode, Format, IsExact, AreBytes, FitsFrom, number, bytes, tested, object_form, replica_form}
use Rattle.qu_base.specs.Reading.{Gives, IsGiven}
use Rattle.qu_base.proofs.Formats.{wide8, wide16, number-exact, bytes-exact, both-exact, tested-exact, fields-exact, counted-exact, object-exact, replica-exact}
use Rattle.qu_base.proofs.PrefixCodes.{prefix_code}
use Rattle.qu_base.proofs.Reading.{given_exactly}
use Rattle.qu_base.specs.Bounds.{is_replica_count}
use Rattle.qu_stamp.specs.declared.stamp.Stamp.{Stamp}
use Rattle.qu_stamp.specs.declared.candidate.Candidate.{Candidate}
use Rattle.qu_stamp.specs.Formats.{stamp_form, next_stamp, group_form, basis_form, members_form, spelled_candidate}
use Rattle.qu_stamp.specs.Group.{same_group}
use Rattle.qu_stamp.specs.Stamp.{opening_stamp, same_stamp}
use Rattle.qu_stamp.proofs.Forms.{prior_of_opening, group_of_opening, stamp_with-exact, object_from-exact, candidate_with-exact}
use Rattle.qu_history.specs.declared.limits.TheConstants.{HISTORY_LIMIT, OBJECTS_LIMIT}
use Rattle.qu_history.specs.declared.sealed.Sealed.{Sealed}
use Rattle.qu_history.specs.declared.sets.SetOf.{SetOf}
use Rattle.qu_history.specs.History.{ObjectHistory, is_history, rises_from}
use Rattle.qu_history.specs.Sets.{histories, is_entry, are_entries, is_set, are_sets_from, are_sets}
use Rattle.qu_history.specs.Formats.{next_candidate, candidates_form, history_with, history_form, macs_form, sealed_with, sealed_form, entry_form, next_replica, sealed_entry_form, next_entry, entries_form, set_form, sets_form, histories_form, object_text_form, sets_text_form, sealed_from, object_after, shown_form}

-- ---- histories

next_stamp-exact : (before : Option Stamp) → IsExact (next_stamp before)
next_stamp-exact None = tested-exact _ Range stamp_form (stamp_with-exact true)
next_stamp-exact (Some before) = tested-exact _ Order stamp_form (stamp_with-exact true)

next_candidate-exact : (object : ObjectId) (before : Option Stamp) → IsExact (next_candidate object before)
unfolding next_candidate
next_candidate-exact object before = candidate_with-exact object (next_stamp before) (next_stamp-exact before)

next_candidate-spelled : (object : ObjectId) (before : Option Stamp) (candidate : Candidate)
    → (next_candidate object before).spell candidate ≡ spelled_candidate candidate
unfolding next_candidate basis_form group_form members_form
next_candidate-spelled object None candidate = refl
next_candidate-spelled object (Some before) candidate = refl

pub candidates-exact : (object : ObjectId) → IsExact (candidates_form object)
unfolding candidates_form
candidates-exact object =
    counted-exact spelled_candidate (next_candidate object) (λ candidate. Some candidate.stamp)
    (next_candidate-exact object) (next_candidate-spelled object)
    (number w16 1 HISTORY_LIMIT) None (number-exact w16 (2 ^ 16) 1 HISTORY_LIMIT wide16 (omega arith))

history_with-exact : (object_field : Format ObjectId) (replica_field : Format ReplicaId) → IsExact object_field
    → IsExact replica_field → IsExact (history_with object_field replica_field)
history_with-exact object_field replica_field objects replicas =
    fields-exact _ _ _
    (both-exact object_field _ objects
    (λ object fits. both-exact replica_field _ replicas (λ replica fits. candidates-exact object)))
    (λ found fits. refl) (λ history. refl)

pub history-exact : IsExact history_form
unfolding history_form
history-exact = history_with-exact object_form replica_form object-exact replica-exact

-- ---- sealed histories

macs-exact : IsExact macs_form
macs-exact =
    counted-exact {K = Unit {0}} (λ mac. mac) (λ before. bytes 32) (λ mac. tt) (λ before. bytes-exact 32)
    (λ before mac. refl)
    (tested is_replica_count Range (number w8 0 255)) tt
    (tested-exact is_replica_count Range (number w8 0 255) (number-exact w8 (2 ^ 8) 0 255 wide8 (omega arith)))

sealed_with-exact : (form : Format ObjectHistory) → IsExact form → IsExact (sealed_with form)
sealed_with-exact form exact = fields-exact _ _ _ (both-exact form _ exact (λ history fits. macs-exact))
    (λ found fits. refl) (λ sealed. refl)

pub sealed-exact : IsExact sealed_form
unfolding sealed_form
sealed-exact = sealed_with-exact history_form history-exact

-- ---- sets

entry-exact : (object : ObjectId) (least : ℕ) → IsExact (entry_form object least)
unfolding entry_form
entry-exact object least = history_with-exact _ _ (tested-exact _ Range object_form object-exact)
    (tested-exact _ Order replica_form replica-exact)

entry-spelled : (object : ObjectId) (least : ℕ) (history : ObjectHistory)
    → (entry_form object least).spell history ≡ history_form.spell history
unfolding entry_form history_form
entry-spelled object least history = refl

sealed_entry-exact : (object : ObjectId) (least : ℕ) → IsExact (sealed_entry_form object least)
unfolding sealed_entry_form
sealed_entry-exact object least = sealed_with-exact (entry_form object least) (entry-exact object least)

sealed_entry-spelled : (object : ObjectId) (least : ℕ) (sealed : Sealed) → (sealed_entry_form object least).spell
    sealed ≡ sealed_form.spell sealed
unfolding sealed_entry_form sealed_form entry_form history_form
sealed_entry-spelled object least sealed = refl

entries-exact : (object : ObjectId) → IsExact (entries_form object)
unfolding entries_form
entries-exact object =
    counted-exact sealed_form.spell (sealed_entry_form object) next_entry (sealed_entry-exact object)
    (sealed_entry-spelled object)
    (number w8 0 REPLICA_IDS) 0 (number-exact w8 (2 ^ 8) 0 REPLICA_IDS wide8 (omega arith))

set-exact : (least : ℕ) → IsExact (set_form least)
unfolding set_form
set-exact least =
    fields-exact _ _ _ (both-exact _ entries_form (object_from-exact least) (λ object fits. entries-exact object))
    (λ found fits. refl) (λ set. refl)

set-spelled : (least : ℕ) (set : SetOf) → (set_form least).spell set ≡ (set_form 0).spell set
unfolding set_form
set-spelled least set = refl

pub sets-exact : IsExact sets_form
unfolding sets_form
sets-exact =
    counted-exact (set_form 0).spell set_form (λ (set : SetOf). (set.object).0 + 1) set-exact set-spelled
    (number w8 1 OBJECTS_LIMIT) 0 (number-exact w8 (2 ^ 8) 1 OBJECTS_LIMIT wide8 (omega arith))

-- ---- what is digested of sets

histories-exact : (object : ObjectId) → IsExact (histories_form object)
unfolding histories_form
histories-exact object =
    counted-exact history_form.spell (entry_form object) next_replica (entry-exact object) (entry-spelled object)
    (number w8 0 REPLICA_IDS) 0 (number-exact w8 (2 ^ 8) 0 REPLICA_IDS wide8 (omega arith))

object_text-exact : (least : ℕ) → IsExact (object_text_form least)
unfolding object_text_form
object_text-exact least = both-exact _ histories_form (object_from-exact least) (λ object fits. histories-exact object)

object_text-spelled : (least : ℕ) (set : ObjectId × List ObjectHistory)
    → (object_text_form least).spell set ≡ (object_text_form 0).spell set
unfolding object_text_form
object_text-spelled least set = refl

pub sets_text-exact : IsExact sets_text_form
unfolding sets_text_form
sets_text-exact =
    counted-exact (object_text_form 0).spell object_text_form (λ set. (set.0).0 + 1) object_text-exact
    object_text-spelled
    (number w8 1 OBJECTS_LIMIT) 0 (number-exact w8 (2 ^ 8) 1 OBJECTS_LIMIT wide8 (omega arith))

-- ---- what a replica shows

shown_by-exact : (replica : ReplicaId) (least : ℕ) → IsExact (sealed_from replica least)
unfolding sealed_from
shown_by-exact replica least =
    sealed_with-exact _
    (history_with-exact _ _ (object_from-exact least) (tested-exact _ Range replica_form replica-exact))

shown_by-spelled : (replica : ReplicaId) (least : ℕ) (sealed : Sealed)
    → (sealed_from replica least).spell sealed ≡ sealed_form.spell sealed
unfolding sealed_from sealed_form history_form
shown_by-spelled replica least sealed = refl

pub shown-exact : (replica : ReplicaId) → IsExact (shown_form replica)
unfolding shown_form
shown-exact replica =
    counted-exact sealed_form.spell (sealed_from replica) object_after (shown_by-exact replica) (shown_by-spelled
    replica)
    (number w8 0 OBJECTS_LIMIT) 0 (number-exact w8 (2 ^ 8) 0 OBJECTS_LIMIT wide8 (omega arith))

-- ---- what fits

-- candidates that rise from this stamp on
rises : (object : ObjectId) (stamp : Stamp) (candidates : List Candidate)
    → FitsFrom (next_candidate object) (λ candidate. Some candidate.stamp) (Some stamp) candidates
    → rises_from stamp candidates ≡ true
unfolding next_candidate rises_from
rises object stamp [] fits = refl
rises object stamp (candidate ∷ later) fits =
    and_from _ _ ((fits.0).0).1 (rises object candidate.stamp later fits.1)

-- what fits is a history
history_fits : (object : ObjectId) (candidates : List Candidate)
    → FitsFrom (next_candidate object) (λ candidate. Some candidate.stamp) None candidates
    → 1 ≤ length candidates → IsTrue (is_history candidates)
unfolding next_candidate basis_form is_history
history_fits object [] fits some = absurd (omega (arith, some))
history_fits object (first ∷ later) fits some =
    let opening_first : same_stamp first.stamp opening_stamp ≡ true = ((fits.0).0).1 in
    let basis = (fits.0).1 in
    let alone = group_of_opening object first.stamp first.group basis.1 opening_first in
    and_from _ _
    (and_from _ _ opening_first (and_from _ _ (prior_of_opening first.stamp first.prior basis.0 opening_first)
    (ap (λ group. same_group group []) alone)))
    (rises object first.stamp later fits.1)

pub fits_history : (object : ObjectId) (candidates : List Candidate) → (candidates_form object).Fits candidates
    → IsTrue (is_history candidates)
unfolding candidates_form
fits_history object candidates fits = history_fits object candidates (fits.1).1 (fits.0).0

pub candidates_are_history : (object : ObjectId) (old new : Front) (candidates : List Candidate) → AreBytes old.rest
    → (candidates_form object).read old ≡ Ok (candidates, new) → IsTrue (is_history candidates)
candidates_are_history object old new candidates fit given =
    fits_history object candidates ((candidates-exact object).found old new candidates fit given).fits

pub candidates_are_few : (object : ObjectId) (old new : Front) (candidates : List Candidate) → AreBytes old.rest
    → (candidates_form object).read old ≡ Ok (candidates, new) → length candidates ≤ HISTORY_LIMIT
unfolding candidates_form
candidates_are_few object old new candidates fit given =
    (((candidates-exact object).found old new candidates fit given).fits.0).1

pub history_read : (result : Result ObjectHistory ReadFail) (old new : Front) → AreBytes old.rest
    → Gives history_form result old new → IsGiven history_form result old new
history_read = given_exactly history_form history-exact

-- a replica that was read is below the limit
pub replica_below : (old new : Front) (replica : ReplicaId) → AreBytes old.rest → replica_form.read old ≡ Ok
    (replica, new) → replica.0 < REPLICA_IDS
replica_below old new replica fit given = let within = ((replica-exact.found old new replica fit given).fits).1 in
    omega (arith, within)

-- what fits are entries
entries_fit : (object : ObjectId) (least : ℕ) (entries : List Sealed)
    → FitsFrom (sealed_entry_form object) next_entry least entries
    → are_entries object least (histories entries) ≡ true
unfolding sealed_entry_form entry_form are_entries
entries_fit object least [] fits = refl
entries_fit object least (sealed ∷ later) fits =
    let header = (fits.0).0 in
    let here : is_entry object least sealed.history ≡ true =
    and_from _ _ (and_from _ _ (header.0).1 ((header.1).0).1) (lt-ltb _ _ (omega (arith, (((header.1).0).0).1))) in
    and_from _ _ here (entries_fit object (next_replica sealed.history) later fits.1)

-- what fits are objects that rise
sets_fit_from : (least : ℕ) (sets : List SetOf) → FitsFrom set_form (λ (set : SetOf). (set.object).0 + 1) least
    sets → are_sets_from least sets ≡ true
unfolding set_form entries_form are_sets_from
sets_fit_from least [] fits = refl
sets_fit_from least (set ∷ later) fits =
    let object = (fits.0).0 in
    let here : is_set least set ≡ true =
    and_from _ _ (and_from _ _ object.1 (lt-ltb _ _ (omega (arith, (object.0).1))))
    (entries_fit set.object 0 set.entries (((fits.0).1).1).1) in
    and_from _ _ here (sets_fit_from ((set.object).0 + 1) later fits.1)

-- what fits are sets
pub sets_fit : (sets : List SetOf) → sets_form.Fits sets → are_sets sets ≡ true
unfolding sets_form are_sets
sets_fit sets fits =
    let some : 0 < length sets = omega (arith, (fits.0).0) in
    let few : length sets ≤ OBJECTS_LIMIT = omega (arith, (fits.0).1) in
    and_from _ _ (and_from _ _ (lt-ltb _ _ some) (le-leb _ _ few)) (sets_fit_from 0 sets (fits.1).1)

pub sets_were_read : (old new : Front) (sets : List SetOf) → AreBytes old.rest
    → sets_form.read old ≡ Ok (sets, new) → are_sets sets ≡ true
sets_were_read old new sets fit given = sets_fit sets (sets-exact.found old new sets fit given).fits

pub ruleset sets_laws = (given_exactly, sets-exact, sets_were_read)

pub ruleset shown_laws = (given_exactly, shown-exact)

-- ---- each is a prefix code

pub history-code : IsPrefixCode history_form
history-code = prefix_code history_form history-exact

pub sealed-code : IsPrefixCode sealed_form
sealed-code = prefix_code sealed_form sealed-exact

pub sets-code : IsPrefixCode sets_form
sets-code = prefix_code sets_form sets-exact

pub shown-code : (replica : ReplicaId) → IsPrefixCode (shown_form replica)
shown-code replica = prefix_code (shown_form replica) (shown-exact replica)

pub sets_text-code : IsPrefixCode sets_text_form
sets_text-code = prefix_code sets_text_form sets_text-exact

pub ruleset code_laws = (history-code, sealed-code, sets-code, shown-code, sets_text-code)
