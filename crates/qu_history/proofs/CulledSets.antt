-- Sets without some of their entries are sets.
use Rattle.std.proofs.Common.{◌≡◌, ℕ, ◌+◌, ◌≤◌, ◌==◌, Bool, true, cond, List, [], ◌∷◌, length, refl, ap, ◌∙◌, arith, inl, inr}
use Rattle.std.specs.Prelude.{nat_lt, nat_le, ◌&&◌, map, filter}
use Rattle.std.proofs.lemmas.Bool.{cases_Bool, and_parts, and_from, leb-true, le-leb}
use Rattle.std.proofs.lemmas.List.{length-map}
use Rattle.qu_base.specs.declared.limits.TheConstants.{OBJECT_IDS, REPLICA_IDS}
use Rattle.qu_base.specs.declared.party.ObjectId.{ObjectId}
use Rattle.qu_base.specs.declared.party.ReplicaId.{ReplicaId}
use Rattle.qu_seal.specs.Keys.{Ring}
use Rattle.qu_history.specs.declared.limits.TheConstants.{OBJECTS_LIMIT}
use Rattle.qu_history.specs.declared.sealed.Sealed.{Sealed}
use Rattle.qu_history.specs.declared.sets.SetOf.{SetOf}
use Rattle.qu_history.specs.History.{ObjectHistory}
use Rattle.qu_history.specs.Sets.{histories, is_entry, are_entries, is_set, are_sets_from, are_sets}
use Rattle.qu_history.specs.Culling.{is_right, culled_set, culled}

entry_lower : (object : ObjectId) (least lower : ℕ) (entry : ObjectHistory) → lower ≤ least
    → is_entry object least entry ≡ true → is_entry object lower entry ≡ true
entry_lower object least lower entry order is =
    let parts = and_parts ((entry.object).0 == object.0 && nat_le least (entry.replica).0)
    (nat_lt (entry.replica).0 REPLICA_IDS) is in
    let within = and_parts ((entry.object).0 == object.0) (nat_le least (entry.replica).0) parts.0 in
    let above : least ≤ (entry.replica).0 = leb-true _ _ within.1 in
    and_from _ _ (and_from _ _ within.0 (le-leb lower (entry.replica).0 (omega arith))) parts.1

not_below : (object : ObjectId) (least : ℕ) (entry : ObjectHistory) → is_entry object least entry ≡ true
    → least ≤ (entry.replica).0
not_below object least entry is =
    leb-true _ _ (and_parts ((entry.object).0 == object.0) (nat_le least (entry.replica).0)
    (and_parts ((entry.object).0 == object.0 && nat_le least (entry.replica).0)
    (nat_lt (entry.replica).0 REPLICA_IDS) is).0).1

entries_lower : (object : ObjectId) (least lower : ℕ) (entries : List ObjectHistory) → lower ≤ least
    → are_entries object least entries ≡ true → are_entries object lower entries ≡ true
unfolding are_entries
entries_lower object least lower [] order are = refl
entries_lower object least lower (entry ∷ later) order are =
    let parts = and_parts (is_entry object least entry) (are_entries object ((entry.replica).0 + 1) later) are in
    and_from _ _ (entry_lower object least lower entry order parts.0) parts.1

pub entries_filtered : (test : Sealed → Bool) (object : ObjectId) (least : ℕ) (entries : List Sealed)
    → are_entries object least (histories entries) ≡ true
    → are_entries object least (histories (filter test entries)) ≡ true
unfolding are_entries
entries_filtered test object least [] are = refl
entries_filtered test object least (sealed ∷ later) are =
    let parts = and_parts (is_entry object least sealed.history)
    (are_entries object (((sealed.history).replica).0 + 1) (histories later)) are in
    let rest = entries_filtered test object (((sealed.history).replica).0 + 1) later parts.1 in
    elim (cases_Bool (test sealed)) [
      | inl stays ↦
          ap (λ (it : Bool). are_entries object least
          (histories (cond it (sealed ∷ filter test later) (filter test later)))) stays ∙
          and_from (is_entry object least sealed.history) _ parts.0 rest
      | inr leaves ↦
          let order : least ≤ ((sealed.history).replica).0 = not_below object least sealed.history parts.0 in
          ap (λ (it : Bool). are_entries object least
          (histories (cond it (sealed ∷ filter test later) (filter test later)))) leaves ∙
          entries_lower object (((sealed.history).replica).0 + 1) least (histories (filter test later))
          (omega arith) rest
    ]

sets_culled : (ring : Ring) (me : ReplicaId) (least : ℕ) (sets : List SetOf) → are_sets_from least sets ≡ true
    → are_sets_from least (map (culled_set ring me) sets) ≡ true
unfolding are_sets_from
sets_culled ring me least [] are = refl
sets_culled ring me least (set ∷ later) are =
    let parts = and_parts (is_set least set) (are_sets_from ((set.object).0 + 1) later) are in
    let fields = and_parts (nat_le least (set.object).0 && nat_lt (set.object).0 OBJECT_IDS)
    (are_entries set.object 0 (histories set.entries)) parts.0 in
    and_from (is_set least (culled_set ring me set)) _
    (and_from _ _ fields.0 (entries_filtered (is_right ring me) set.object 0 set.entries fields.1))
    (sets_culled ring me ((set.object).0 + 1) later parts.1)

pub culled_are_sets : (ring : Ring) (me : ReplicaId) (sets : List SetOf) → are_sets sets ≡ true
    → are_sets (culled ring me sets) ≡ true
unfolding are_sets culled
culled_are_sets ring me sets are =
    let size : length (map (culled_set ring me) sets) ≡ length sets = length-map sets (culled_set ring me) in
    let counted = and_parts (nat_lt 0 (length sets) && nat_le (length sets) OBJECTS_LIMIT) (are_sets_from 0 sets) are in
    and_from _ _ (ap (λ (it : ℕ). nat_lt 0 it && nat_le it OBJECTS_LIMIT) size ∙ counted.0)
    (sets_culled ring me 0 sets counted.1)
