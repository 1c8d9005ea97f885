-- Trimmed sets are sets, and where an object had a quorum of entries it has one still.
use Rattle.std.proofs.Common.{◌≡◌, ℕ, ◌+◌, ◌≤◌, ◌==◌, Bool, true, false, cond, List, [], ◌∷◌, Option, None, Some, length, refl, ap, ◌∙◌, arith, inl, inr}
use Rattle.std.specs.Prelude.{nat_lt, nat_le, ◌&&◌, map, filter}
use Rattle.std.proofs.lemmas.Bool.{cases_Bool, and_parts, and_from, leb-true}
use Rattle.std.proofs.lemmas.List.{length-map}
use Rattle.qu_base.specs.declared.limits.TheConstants.{OBJECT_IDS}
use Rattle.qu_base.specs.declared.party.ObjectId.{ObjectId}
use Rattle.qu_base.specs.Bounds.{quorum, repair}
use Rattle.qu_stamp.specs.declared.candidate.Candidate.{Candidate}
use Rattle.qu_history.specs.declared.limits.TheConstants.{OBJECTS_LIMIT}
use Rattle.qu_history.specs.declared.sealed.Sealed.{Sealed}
use Rattle.qu_history.specs.declared.sets.SetOf.{SetOf}
use Rattle.qu_history.specs.Sets.{histories, are_entries, is_set, are_sets_from, are_sets, entries_of}
use Rattle.qu_history.specs.Trimming.{greatest_shown, is_up_to, if_quorum, entries_up_to, trimmed_set, trimmed}
use Rattle.qu_history.proofs.CulledSets.{entries_filtered}

-- ---- they are sets

if_quorum_are : (bounds : ℕ) (object : ObjectId) (entries others : List Sealed)
    → are_entries object 0 (histories entries) ≡ true → are_entries object 0 (histories others) ≡ true
    → are_entries object 0 (histories (if_quorum bounds entries others)) ≡ true
if_quorum_are bounds object entries others one other =
    elim (nat_le (quorum bounds) (length entries))
    as (λ (test : Bool). are_entries object 0 (histories (cond test entries others)) ≡ true) [
      | true ↦ one
      | false ↦ other
    ]

up_to_are : (bounds : ℕ) (object : ObjectId) (greatest : Option Candidate) (entries : List Sealed)
    → are_entries object 0 (histories entries) ≡ true
    → are_entries object 0 (histories (entries_up_to bounds greatest entries)) ≡ true
up_to_are bounds object None entries are = are
up_to_are bounds object (Some candidate) entries are =
    if_quorum_are bounds object (filter (is_up_to candidate) entries) entries
    (entries_filtered (is_up_to candidate) object 0 entries are) are

sets_trimmed : (bounds least : ℕ) (sets : List SetOf) → are_sets_from least sets ≡ true
    → are_sets_from least (map (trimmed_set bounds) sets) ≡ true
unfolding are_sets_from
sets_trimmed bounds least [] are = refl
sets_trimmed bounds least (set ∷ later) are =
    let parts = and_parts (is_set least set) (are_sets_from ((set.object).0 + 1) later) are in
    let fields = and_parts (nat_le least (set.object).0 && nat_lt (set.object).0 OBJECT_IDS)
    (are_entries set.object 0 (histories set.entries)) parts.0 in
    and_from (is_set least (trimmed_set bounds set)) _
    (and_from _ _ fields.0
    (up_to_are bounds set.object (greatest_shown (histories set.entries) (repair bounds)) set.entries fields.1))
    (sets_trimmed bounds ((set.object).0 + 1) later parts.1)

pub trimmed_are_sets : (bounds : ℕ) (sets : List SetOf) → are_sets sets ≡ true
    → are_sets (trimmed bounds sets) ≡ true
unfolding are_sets trimmed
trimmed_are_sets bounds sets are =
    let size : length (map (trimmed_set bounds) sets) ≡ length sets = length-map sets (trimmed_set bounds) in
    let counted = and_parts (nat_lt 0 (length sets) && nat_le (length sets) OBJECTS_LIMIT) (are_sets_from 0 sets) are in
    and_from _ _ (ap (λ (it : ℕ). nat_lt 0 it && nat_le it OBJECTS_LIMIT) size ∙ counted.0)
    (sets_trimmed bounds 0 sets counted.1)

-- ---- enough entries are left

histories_many : (entries : List Sealed) → length (histories entries) ≡ length entries
histories_many entries = length-map entries (λ (sealed : Sealed). sealed.history)

if_quorum_enough : (bounds : ℕ) (entries others : List Sealed) → quorum bounds ≤ length others
    → quorum bounds ≤ length (if_quorum bounds entries others)
if_quorum_enough bounds entries others enough =
    elim (cases_Bool (nat_le (quorum bounds) (length entries))) [
      | inl most ↦
          let left : if_quorum bounds entries others ≡ entries = ap (λ (test : Bool). cond test entries others) most in
          omega (arith, ap length left, leb-true _ _ most)
      | inr few ↦
          let left : if_quorum bounds entries others ≡ others = ap (λ (test : Bool). cond test entries others) few in
          omega (arith, ap length left, enough)
    ]

up_to_enough : (bounds : ℕ) (greatest : Option Candidate) (entries : List Sealed) → quorum bounds ≤ length entries
    → quorum bounds ≤ length (entries_up_to bounds greatest entries)
up_to_enough bounds None entries enough = enough
up_to_enough bounds (Some candidate) entries enough =
    if_quorum_enough bounds (filter (is_up_to candidate) entries) entries enough

enough_left : (bounds : ℕ) (object : ObjectId) (sets : List SetOf) → quorum bounds ≤ length (entries_of object sets)
    → quorum bounds ≤ length (entries_of object (map (trimmed_set bounds) sets))
unfolding entries_of
enough_left bounds object [] enough = enough
enough_left bounds object (set ∷ later) enough =
    elim (cases_Bool ((set.object).0 == object.0)) [
      | inl here ↦
          let entries : List Sealed = set.entries in
          let some : quorum bounds ≤ length (histories entries) = rw here at enough in
          let found : quorum bounds ≤ length (histories (trimmed_set bounds set).entries) =
          omega (
            arith,
            histories_many (trimmed_set bounds set).entries,
            up_to_enough bounds (greatest_shown (histories entries) (repair bounds)) entries
                (omega (arith, some, histories_many entries)),
          ) in
          rw here found
      | inr other ↦ rw other (enough_left bounds object later (rw other at enough))
    ]

pub trimmed_enough : (bounds : ℕ) (object : ObjectId) (sets trim : List SetOf)
    → quorum bounds ≤ length (entries_of object sets) → trim ≡ trimmed bounds sets
    → quorum bounds ≤ length (entries_of object trim)
unfolding trimmed
trimmed_enough bounds object sets trim enough is = rw is (enough_left bounds object sets enough)
