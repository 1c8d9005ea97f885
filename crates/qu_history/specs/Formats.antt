-- The formats of histories, of sealed histories, of the sets of a request, and of what is digested of these.
use Rattle.std.specs.Prelude.{ℕ, ◌==◌, ◌+◌, nat_le, List, Option, None, Some}
use Rattle.std.specs.Int.{w8, w16}
use Rattle.qu_base.specs.declared.bad_text.Why.TheVariants.{Range, Order}
use Rattle.qu_base.specs.declared.limits.TheConstants.{REPLICA_IDS}
use Rattle.qu_base.specs.declared.party.ObjectId.{ObjectId}
use Rattle.qu_base.specs.declared.party.ReplicaId.{ReplicaId}
use Rattle.qu_base.specs.Format.{Format, number, both, tested, made, bytes, items, counted, object_form, replica_form}
use Rattle.qu_base.specs.Bounds.{is_replica_count}
use Rattle.qu_stamp.specs.declared.stamp.Stamp.{Stamp}
use Rattle.qu_stamp.specs.declared.candidate.Candidate.{Candidate}
use Rattle.qu_stamp.specs.Formats.{next_stamp, object_from, candidate_with, spelled_candidate}
use Rattle.qu_history.specs.declared.limits.TheConstants.{HISTORY_LIMIT, OBJECTS_LIMIT}
use Rattle.qu_history.specs.declared.sealed.Sealed.{Sealed}
use Rattle.qu_history.specs.declared.sets.SetOf.{SetOf}
use Rattle.qu_history.specs.History.{ObjectHistory}

-- ---- histories

-- a candidate on this object after one with this stamp
unfoldable pub next_candidate : ObjectId → Option Stamp → Format Candidate
next_candidate object before = candidate_with object (next_stamp before)

-- a count, and so many candidates on this object by rising stamps
unfoldable pub candidates_form : ObjectId → Format (List Candidate)
candidates_form object = counted (number w16 1 HISTORY_LIMIT) spelled_candidate (next_candidate object)
    (λ candidate. Some candidate.stamp) None

-- a history whose object and replica have these formats
abbrev pub history_with : Format ObjectId → Format ReplicaId → Format ObjectHistory
history_with object_field replica_field =
    made (λ fields. record { object = fields.0; replica = (fields.1).0; candidates = (fields.1).1 })
    (λ (history : ObjectHistory). Some (history.object, (history.replica, history.candidates)))
    (both object_field (λ object. both replica_field (λ replica. candidates_form object)))

unfoldable pub history_form : Format ObjectHistory
history_form = history_with object_form replica_form

-- ---- sealed histories

abbrev pub some_macs : ℕ → Format (List (List ℕ))
some_macs count = items {K = Unit {0}} (λ mac. mac) (λ before. bytes 32) (λ mac. tt) tt count

-- an HMAC for each replica
abbrev pub macs_form : Format (List (List ℕ))
macs_form = counted {K = Unit {0}} (tested is_replica_count Range (number w8 0 255)) (λ mac. mac)
    (λ before. bytes 32) (λ mac. tt) tt

-- a history of this format, and its HMACs
abbrev pub sealed_with : Format ObjectHistory → Format Sealed
sealed_with form =
    made (λ fields. record { history = fields.0; macs = fields.1 })
    (λ (sealed : Sealed). Some (sealed.history, sealed.macs))
    (both form (λ history. macs_form))

unfoldable pub sealed_form : Format Sealed
sealed_form = sealed_with history_form

-- ---- the sets of a request

-- the history of an entry of this object, by a replica that is not below this number
unfoldable pub entry_form : ObjectId → ℕ → Format ObjectHistory
entry_form object least =
    history_with (tested (λ (other : ObjectId). other.0 == object.0) Range object_form)
    (tested (λ (replica : ReplicaId). nat_le least replica.0) Order replica_form)

abbrev pub next_replica : ObjectHistory → ℕ
next_replica history = (history.replica).0 + 1

-- with its HMACs
unfoldable pub sealed_entry_form : ObjectId → ℕ → Format Sealed
sealed_entry_form object least = sealed_with (entry_form object least)

abbrev pub next_entry : Sealed → ℕ
next_entry sealed = next_replica sealed.history

abbrev pub some_entries : ObjectId → ℕ → ℕ → Format (List Sealed)
some_entries object least count = items sealed_form.spell (sealed_entry_form object) next_entry least count

-- at most one of each replica, by rising replicas
unfoldable pub entries_form : ObjectId → Format (List Sealed)
entries_form object = counted (number w8 0 REPLICA_IDS) sealed_form.spell (sealed_entry_form object) next_entry 0

-- an object that is not below this number, with its entries
unfoldable pub set_form : ℕ → Format SetOf
set_form least =
    made (λ fields. record { object = fields.0; entries = fields.1 }) (λ (set : SetOf). Some (set.object, set.entries))
    (both (object_from least) entries_form)

abbrev pub some_sets : ℕ → ℕ → Format (List SetOf)
some_sets least count = items (set_form 0).spell set_form (λ (set : SetOf). (set.object).0 + 1) least count

-- by rising objects
unfoldable pub sets_form : Format (List SetOf)
sets_form = counted (number w8 1 OBJECTS_LIMIT) (set_form 0).spell set_form (λ (set : SetOf). (set.object).0 + 1) 0

-- ---- what is digested of them: the histories without their HMACs

unfoldable pub histories_form : ObjectId → Format (List ObjectHistory)
histories_form object = counted (number w8 0 REPLICA_IDS) history_form.spell (entry_form object) next_replica 0

unfoldable pub object_text_form : ℕ → Format (ObjectId × List ObjectHistory)
object_text_form least = both (object_from least) histories_form

unfoldable pub sets_text_form : Format (List (ObjectId × List ObjectHistory))
sets_text_form =
    counted (number w8 1 OBJECTS_LIMIT) (object_text_form 0).spell object_text_form (λ set. (set.0).0 + 1) 0

-- ---- what a replica shows of its histories

-- a sealed history of this replica, of an object that is not below this number
unfoldable pub sealed_from : ReplicaId → ℕ → Format Sealed
sealed_from replica least =
    sealed_with (history_with (object_from least)
    (tested (λ (other : ReplicaId). other.0 == replica.0) Range replica_form))

abbrev pub object_after : Sealed → ℕ
object_after sealed = ((sealed.history).object).0 + 1

abbrev pub some_shown : ReplicaId → ℕ → ℕ → Format (List Sealed)
some_shown replica least count = items sealed_form.spell (sealed_from replica) object_after least count

-- by rising objects
unfoldable pub shown_form : ReplicaId → Format (List Sealed)
shown_form replica = counted (number w8 0 OBJECTS_LIMIT) sealed_form.spell (sealed_from replica) object_after 0
