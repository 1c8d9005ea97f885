-- The sets of a round are built replica by replica and object by object.
use Rattle.std.proofs.Common.{◌≡◌, ℕ, zero, suc, ◌+◌, ◌-◌, ◌<◌, ◌≤◌, eqb, true, ◌&&◌, IsTrue, not, List, [], ◌∷◌, map, length, Option, None, Some, refl, sym, inl, inr, ap, subst, ◌∙◌, ◌++◌, append_assoc, append-nil, take, arith}
use Rattle.std.specs.Prelude.{nat_lt, nat_le}
use Rattle.std.proofs.lemmas.List.{take_all, length-map}
use Rattle.std.proofs.lemmas.Bool.{cases_Bool, and_from, and_parts, eq-eqb, eqb-true, le-leb, lt-ltb}
use Rattle.qu_base.specs.declared.limits.TheConstants.{OBJECT_IDS, REPLICA_IDS}
use Rattle.qu_base.specs.declared.party.ObjectId.{ObjectId}
use Rattle.qu_base.specs.Bounds.{replicas}
use Rattle.qu_history.specs.declared.limits.TheConstants.{OBJECTS_LIMIT}
use Rattle.qu_history.specs.declared.sets.SetOf.{SetOf}
use Rattle.qu_history.specs.declared.sealed.Sealed.{Sealed}
use Rattle.qu_history.specs.Sets.{histories, are_entries, are_sets_from, are_sets}
use Rattle.qu_objects.specs.declared.limits.TheConstants.{MOST_PARTS}
use Rattle.qu_objects.specs.Parts.{are_objects_from, are_parts}
use Rattle.qu_objects.proofs.PartLaws.{parts_are}
use Rattle.qu_question.specs.declared.kept.Kept.{Kept}
use Rattle.qu_question.specs.Kept.{is_left_out, kept_of}
use Rattle.qu_question.specs.Named.{are_objects}
use Rattle.qu_question.specs.Question.{entries_from, set_of}

-- so many are left of a number below another
pub left_after : (n at : ℕ) → at < n → n - at ≡ suc (n - (at + 1))
left_after n at below = omega arith

entries_from-some : (object : ObjectId) (replica count : ℕ) (kept : List Kept) (sealed : Sealed)
    → kept_of object replica kept ≡ Some sealed → entries_from object replica
    (suc count) kept ≡ sealed ∷ entries_from object (replica + 1) count kept
unfolding entries_from
entries_from-some object replica count kept sealed is = rw (is, entries_from) refl

entries_from-none : (object : ObjectId) (replica count : ℕ) (kept : List Kept)
    → kept_of object replica kept ≡ None → entries_from object replica (suc count) kept ≡ entries_from object
    (replica + 1) count kept
unfolding entries_from
entries_from-none object replica count kept is = rw (is, entries_from) refl

module _ (object : ObjectId) (replica n : ℕ) (kept : List Kept) (entries total : List Sealed)
    (so_far : entries ++ entries_from object replica (n - replica) kept ≡ total) where
  -- a replica of which a sealed history is kept, and copied
  pub entries_from_some : (sealed copied : Sealed) (grown : List Sealed) → replica < n
      → Some sealed ≡ kept_of object replica kept → copied ≡ sealed → grown ≡ entries ++ copied ∷ []
      → grown ++ entries_from object (replica + 1) (n - (replica + 1)) kept ≡ total
  entries_from_some sealed copied grown below is same grows =
      ap (λ front. front ++ entries_from object (replica + 1) (n - (replica + 1)) kept)
      (grows ∙ ap (λ (last : Sealed). entries ++ last ∷ []) same) ∙
      append_assoc entries (sealed ∷ []) _ ∙
      ap (λ later. entries ++ later)
      (sym (entries_from-some object replica (n - (replica + 1)) kept sealed (sym is))
      ∙ ap (λ count. entries_from object replica count kept) (sym (left_after n replica below))) ∙
      so_far

  -- a replica of which none is kept
  pub entries_from_none : (same : List Sealed) → replica < n → None ≡ kept_of object replica kept → same ≡ entries
      → same ++ entries_from object (replica + 1) (n - (replica + 1)) kept ≡ total
  entries_from_none same below is stays =
      ap (λ front. front ++ entries_from object (replica + 1) (n - (replica + 1)) kept) stays ∙
      ap (λ later. entries ++ later) (sym (entries_from-none object replica (n - (replica + 1)) kept (sym is))
      ∙ ap (λ count. entries_from object replica count kept) (sym (left_after n replica below))) ∙
      so_far

  -- after the last replica
  pub entries_from_end : n ≤ replica → entries ≡ total
  unfolding entries_from
  entries_from_end past =
      let none : n - replica ≡ 0 = omega arith in
      sym (append-nil entries) ∙ ap (λ count. entries ++ entries_from object replica count kept) (sym none) ∙ so_far

-- what is kept of an object and a replica is a history of that object at that replica
IsOf : ObjectId → ℕ → Sealed → Type 0
IsOf object replica sealed = ((sealed.history.object).0 ≡ object.0) × ((sealed.history.replica).0 ≡ replica)

some_same : {a b : Sealed} → Some a ≡ Some b → a ≡ b
some_same is = cc

kept_of-is : (object : ObjectId) (replica : ℕ) (kept : List Kept) (sealed : Sealed)
    → kept_of object replica kept ≡ Some sealed → IsOf object replica sealed
unfolding kept_of IsOf
kept_of-is object replica [] sealed is = cc
kept_of-is object replica (held ∷ later) sealed is =
    elim (cases_Bool (eqb ((held.sealed.history).object).0 object.0
    && (eqb ((held.sealed.history).replica).0 replica && not (is_left_out held.mark)))) [
      | inl here ↦
          let parts : (eqb ((held.sealed.history).object).0 object.0 ≡ true)
          × ((eqb ((held.sealed.history).replica).0 replica && not (is_left_out held.mark)) ≡ true) =
          and_parts _ _ here in
          let second : (eqb ((held.sealed.history).replica).0 replica ≡ true) × (not (is_left_out held.mark) ≡ true) =
          and_parts _ _ parts.1 in
          let same : held.sealed ≡ sealed = some_same (rw here at is) in
          let P : Sealed → Type 0 = λ found. ((found.history.object).0 ≡ object.0)
          × ((found.history.replica).0 ≡ replica) in
          subst P same (eqb-true _ _ parts.0, eqb-true _ _ second.0)
      | inr there ↦ kept_of-is object replica later sealed (rw there at is)
    ]

are_entries-cons : (object : ObjectId) (replica least : ℕ) (sealed : Sealed) (later : List Sealed)
    → IsOf object replica sealed → least ≤ replica → replica < REPLICA_IDS → are_entries object (replica + 1)
    (histories later) ≡ true → are_entries object least (histories (sealed ∷ later)) ≡ true
unfolding are_entries IsOf
are_entries-cons object replica least sealed later of at_least below rest =
    let place : ℕ = (sealed.history.replica).0 in
    let rest_here : are_entries object (place + 1) (histories later) ≡ true = rw of.1 rest in
    and_from _ _ (and_from _ _ (and_from _ _ (eq-eqb _ _ of.0) (le-leb least place (omega arith)))
    (lt-ltb place REPLICA_IDS (omega arith))) rest_here

are_entries-step : (count : ℕ) (object : ObjectId) (replica least : ℕ) (kept : List Kept) → least ≤ replica
    → replica + suc count ≤ REPLICA_IDS
    → ((other : ℕ) → other ≤ replica + 1
    → are_entries object other (histories (entries_from object (replica + 1) count kept)) ≡ true)
    → (found : Option Sealed) → kept_of object replica kept ≡ found
    → are_entries object least (histories (entries_from object replica (suc count) kept)) ≡ true
are_entries-step count object replica least kept at_least within rest None is =
    rw (entries_from-none object replica count kept is) (rest least (omega arith))
are_entries-step count object replica least kept at_least within rest (Some sealed) is =
    rw (entries_from-some object replica count kept sealed is)
    (are_entries-cons object replica least sealed (entries_from object (replica + 1) count kept)
    (kept_of-is object replica kept sealed is) at_least (omega arith) (rest (replica + 1) (omega arith)))

are_entries-from : (count : ℕ) (object : ObjectId) (replica least : ℕ) (kept : List Kept) → least ≤ replica
    → replica + count ≤ REPLICA_IDS
    → are_entries object least (histories (entries_from object replica count kept)) ≡ true
unfolding entries_from are_entries
are_entries-from zero object replica least kept at_least within = refl
are_entries-from (suc count) object replica least kept at_least within =
    are_entries-step count object replica least kept at_least within
    (λ other most. are_entries-from count object (replica + 1) other kept most (omega arith))
    (kept_of object replica kept) refl

-- what is kept of objects that rise from this number on
are_sets_kept_from : (bounds : ℕ) (kept : List Kept) (least : ℕ) (objects : List ObjectId)
    → are_objects_from least objects ≡ true → replicas bounds ≤ REPLICA_IDS
    → are_sets_from least (map (λ object. set_of bounds kept object) objects) ≡ true
unfolding are_objects_from are_sets_from
are_sets_kept_from bounds kept least [] rising few = refl
are_sets_kept_from bounds kept least (object ∷ later) rising few =
    let parts = and_parts (nat_le least object.0 && nat_lt object.0 OBJECT_IDS) (are_objects_from (object.0 + 1) later)
    rising in
    let entries : are_entries object 0 (histories (entries_from object 0 (replicas bounds) kept)) ≡ true =
    are_entries-from (replicas bounds) object 0 0 kept (omega arith) (omega arith) in
    and_from _ _ (and_from _ _ parts.0 entries) (are_sets_kept_from bounds kept (object.0 + 1) later parts.1 few)

-- what is kept of these objects makes sets
pub are_sets_kept : (bounds : ℕ) (kept : List Kept) (objects : List ObjectId) → IsTrue (are_objects objects)
    → replicas bounds ≤ REPLICA_IDS → are_sets (map (λ object. set_of bounds kept object) objects) ≡ true
unfolding are_sets are_objects
are_sets_kept bounds kept objects ordered few =
    let size : length (map (λ object. set_of bounds kept object) objects) ≡ length objects =
    length-map objects (λ object. set_of bounds kept object) in
    let counted = and_parts (nat_lt 0 (length objects) && nat_le (length objects) OBJECTS_LIMIT)
    (are_objects_from 0 objects) ordered in
    and_from _ _ (ap (λ (it : ℕ). nat_lt 0 it && nat_le it OBJECTS_LIMIT) size ∙ counted.0)
    (are_sets_kept_from bounds kept 0 objects counted.1 few)

-- the objects of an operation's parts
pub are_objects_of_parts : {X : Type 0} (parts : List (ObjectId × X)) → IsTrue (are_parts parts)
    → IsTrue (are_objects (map (λ part. part.0) parts))
unfolding are_objects
are_objects_of_parts parts ordered =
    let are = parts_are parts ordered in
    let size : length (map (λ part. part.0) parts) ≡ length parts = length-map parts (λ part. part.0) in
    let some : 1 ≤ length parts = are.some in
    let few : length parts ≤ MOST_PARTS = are.few in
    let count : ℕ = length (map (λ part. part.0) parts) in
    and_from _ _ (and_from _ _ (lt-ltb 0 count (omega (arith, size, some)))
    (le-leb count OBJECTS_LIMIT (omega (arith, size, few)))) are.rise

-- so they are never refused
pub are_sets_made : (bounds : ℕ) (kept : List Kept) (sets : List SetOf) (objects : List ObjectId) (index : ℕ)
    → sets ≡ map (λ object. set_of bounds kept object) (take index objects) → length objects ≤ index
    → IsTrue (are_objects objects) → replicas bounds ≤ REPLICA_IDS → are_sets sets ≡ true
are_sets_made bounds kept sets objects index made whole ordered few =
    ap are_sets (made ∙ ap (λ those. map (λ object. set_of bounds kept object) those) (take_all index objects whole)) ∙
    are_sets_kept bounds kept objects ordered few
