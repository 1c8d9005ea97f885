-- How tests and look-ups go along the objects of some sets, and along the entries of an object.
use Rattle.std.proofs.Common.{◌≡◌, ◌+◌, ◌<◌, ◌≤◌, ℕ, List, [], ◌∷◌, true, false, ◌&&◌, cond, eqb, leb, ltb, IsTrue, sym, ap, subst, inl, inr, ◌∙◌, drop, length, get_or, arith}
use Rattle.std.proofs.lemmas.Bool.{cases_Bool, and_parts, and_from, and_left, and_right, leb-true, ltb-true, lt-ltb, le-ltb, le-leb, lt-leb}
use Rattle.std.proofs.lemmas.List.{drop_more, drop_all, length-map}
use Rattle.qu_base.specs.declared.limits.TheConstants.{OBJECT_IDS, REPLICA_IDS}
use Rattle.qu_base.specs.declared.party.ObjectId.{ObjectId}
use Rattle.qu_history.specs.declared.limits.TheConstants.{OBJECTS_LIMIT}
use Rattle.qu_history.specs.declared.sealed.Sealed.{Sealed}
use Rattle.qu_history.specs.declared.sets.SetOf.{SetOf}
use Rattle.qu_history.specs.History.{ObjectHistory}
use Rattle.qu_history.specs.Sets.{histories, is_entry, are_entries, is_set, are_sets_from, are_sets, entries_of}

module _ (object : ObjectId) (entries : List ObjectHistory) (least index : ℕ)
    (so_far : are_entries object 0 entries ≡ are_entries object least (drop index entries)) where
  -- a test that has seen all entries
  pub are_entries_all : length entries ≤ index → true ≡ are_entries object 0 entries
  unfolding are_entries
  are_entries_all whole = sym (so_far ∙ ap (are_entries object least) (drop_all index entries whole))

  module _ (entry : ObjectHistory) (within : index < length entries) (here : entry ≡ get_or entries index entry) where
    next : are_entries object 0 entries ≡ (is_entry object least entry && are_entries object
        ((entry.replica).0 + 1) (drop (index + 1) entries))
    unfolding are_entries
    next =
        so_far ∙ ap (are_entries object least) (drop_more entries index entry within) ∙
        ap (λ (other : ObjectHistory). are_entries object least (other ∷ drop (index + 1) entries)) (sym here)

    pub are_entries_no : is_entry object least entry ≡ false → false ≡ are_entries object 0 entries
    are_entries_no refused =
        sym (next ∙ and_left _ (are_entries object ((entry.replica).0 + 1) (drop (index + 1) entries)) refused)

    pub are_entries_more : is_entry object least entry ≡ true → are_entries object 0 entries ≡ are_entries object
        ((entry.replica).0 + 1) (drop (index + 1) entries)
    are_entries_more passes =
        next ∙ ap (λ test. test && are_entries object ((entry.replica).0 + 1) (drop (index + 1) entries)) passes

module _ (sets : List SetOf) (least index : ℕ)
    (so_far : are_sets_from 0 sets ≡ are_sets_from least (drop index sets)) where
  -- a test that has seen all objects
  pub are_sets_all : length sets ≤ index → 0 < length sets → length sets ≤ OBJECTS_LIMIT → true ≡ are_sets sets
  unfolding are_sets are_sets_from
  are_sets_all whole some few =
      sym (and_from _ _ (and_from _ _ (lt-ltb 0 (length sets) some) (le-leb (length sets) OBJECTS_LIMIT few))
      (so_far ∙ ap (are_sets_from least) (drop_all index sets whole)))

  module _ (set : SetOf) (within : index < length sets) (here : set ≡ get_or sets index set) where
    next_set : are_sets_from 0 sets ≡ (is_set least set && are_sets_from ((set.object).0 + 1) (drop (index + 1) sets))
    unfolding are_sets_from
    next_set =
        so_far ∙ ap (are_sets_from least) (drop_more sets index set within) ∙
        ap (λ (other : SetOf). are_sets_from least (other ∷ drop (index + 1) sets)) (sym here)

    pub are_sets_no : is_set least set ≡ false → false ≡ are_sets sets
    unfolding are_sets
    are_sets_no refused =
        sym (and_right _ _ (next_set ∙ and_left _ (are_sets_from ((set.object).0 + 1) (drop (index + 1) sets)) refused))

    pub are_sets_more : is_set least set ≡ true → are_sets_from 0 sets ≡ are_sets_from ((set.object).0 + 1)
        (drop (index + 1) sets)
    are_sets_more passes =
        next_set ∙ ap (λ test. test && are_sets_from ((set.object).0 + 1) (drop (index + 1) sets)) passes

pub are_sets_none : (sets : List SetOf) → length sets ≡ 0 → false ≡ are_sets sets
unfolding are_sets
are_sets_none sets none =
    sym (and_left _ (are_sets_from 0 sets)
    (and_left _ (leb (length sets) OBJECTS_LIMIT) (le-ltb 0 (length sets) (omega arith))))

pub are_sets_many : (sets : List SetOf) → OBJECTS_LIMIT < length sets → false ≡ are_sets sets
unfolding are_sets
are_sets_many sets many =
    sym (and_left _ (are_sets_from 0 sets)
    (and_right (ltb 0 (length sets)) _ (lt-leb (length sets) OBJECTS_LIMIT many)))

-- the entries of an object are at most as many as replicas have numbers, since their replicas rise
length_entries : (object : ObjectId) (least : ℕ) (entries : List ObjectHistory) → least ≤ REPLICA_IDS
    → are_entries object least entries ≡ true → length entries + least ≤ REPLICA_IDS
unfolding are_entries
length_entries object least [] below passes = omega arith
length_entries object least (entry ∷ later) below passes =
    let parts : (is_entry object least entry ≡ true) × (are_entries object ((entry.replica).0 + 1) later ≡ true) =
    and_parts _ _ passes in
    let tests : ((eqb (entry.object).0 object.0 && leb least (entry.replica).0) ≡ true)
    × (ltb (entry.replica).0 REPLICA_IDS ≡ true) = and_parts _ _ parts.0 in
    let above : least ≤ (entry.replica).0 =
    leb-true least (entry.replica).0
    (and_parts (eqb (entry.object).0 object.0) (leb least (entry.replica).0) tests.0).1 in
    let under : (entry.replica).0 < REPLICA_IDS = ltb-true (entry.replica).0 REPLICA_IDS tests.1 in
    let rest : length later + ((entry.replica).0 + 1) ≤ REPLICA_IDS =
    length_entries object ((entry.replica).0 + 1) later (omega arith) parts.1 in
    omega arith

length_entries_of : (object : ObjectId) (least : ℕ) (sets : List SetOf) → are_sets_from least sets ≡ true
    → length (entries_of object sets) ≤ REPLICA_IDS
unfolding are_sets_from entries_of
length_entries_of object least [] passes = omega arith
length_entries_of object least (set ∷ later) passes =
    let parts : (is_set least set ≡ true) × (are_sets_from ((set.object).0 + 1) later ≡ true) = and_parts _ _ passes in
    let entries : are_entries set.object 0 (histories set.entries) ≡ true =
    (and_parts (leb least (set.object).0 && ltb (set.object).0 OBJECT_IDS)
    (are_entries set.object 0 (histories set.entries)) parts.0).1 in
    let own : length (histories set.entries) + 0 ≤ REPLICA_IDS =
    length_entries set.object 0 (histories set.entries) (omega arith) entries in
    let rest : length (entries_of object later) ≤ REPLICA_IDS =
    length_entries_of object ((set.object).0 + 1) later parts.1 in
    elim (cases_Bool (eqb (set.object).0 object.0)) [
      | inl found ↦
          let here : cond (eqb (set.object).0 object.0) (histories set.entries)
          (entries_of object later) ≡ (histories set.entries) =
          ap (λ test. cond test (histories set.entries) (entries_of object later)) found in
          subst (λ entries. length entries ≤ REPLICA_IDS) (sym here) (omega arith)
      | inr other ↦
          let there : cond (eqb (set.object).0 object.0) (histories set.entries)
          (entries_of object later) ≡ entries_of object later =
          ap (λ test. cond test (histories set.entries) (entries_of object later)) other in
          subst (λ entries. length entries ≤ REPLICA_IDS) (sym there) rest
    ]

pub few_entries : (object : ObjectId) (sets : List SetOf) → IsTrue (are_sets sets)
    → length (entries_of object sets) ≤ REPLICA_IDS
unfolding are_sets
few_entries object sets passes = length_entries_of object 0 sets (and_parts _ _ passes).1

-- and so are those that were found
pub few_found : (found : List Sealed) (object : ObjectId) (sets : List SetOf)
    → histories found ≡ entries_of object sets → IsTrue (are_sets sets) → length found ≤ REPLICA_IDS
few_found found object sets here passes =
    let same_length = length-map found (λ (sealed : Sealed). sealed.history) in
    omega (arith, same_length, ap length here, few_entries object sets passes)

module _ (object : ObjectId) (sets : List SetOf) (index : ℕ)
    (so_far : entries_of object sets ≡ entries_of object (drop index sets)) where
  -- a look-up that has seen all objects
  pub entries_of_all : length sets ≤ index → [] ≡ entries_of object sets
  unfolding entries_of
  entries_of_all whole = sym (so_far ∙ ap (entries_of object) (drop_all index sets whole))

  module _ (set : SetOf) (within : index < length sets) (here : set ≡ get_or sets index set) where
    next_object : entries_of object sets ≡ cond (eqb (set.object).0 object.0) (histories set.entries)
        (entries_of object (drop (index + 1) sets))
    unfolding entries_of
    next_object =
        so_far ∙ ap (entries_of object) (drop_more sets index set within) ∙
        ap (λ (other : SetOf). entries_of object (other ∷ drop (index + 1) sets)) (sym here)

    pub entries_of_found : eqb (set.object).0 object.0 ≡ true → histories set.entries ≡ entries_of object sets
    entries_of_found found =
        sym (next_object
        ∙ ap (λ test. cond test (histories set.entries) (entries_of object (drop (index + 1) sets))) found)

    pub entries_of_more : eqb (set.object).0 object.0 ≡ false → entries_of object sets ≡ entries_of object
        (drop (index + 1) sets)
    entries_of_more other =
        next_object ∙ ap (λ test. cond test (histories set.entries) (entries_of object (drop (index + 1) sets))) other
