-- Objects that rise, below the number that there are.
use Rattle.std.proofs.Common.{◌≡◌, ℕ, ◌+◌, ◌-◌, ◌<◌, ◌≤◌, List, [], ◌∷◌, ap, arith, ltb-true}
use Rattle.std.specs.Prelude.{IsTrue, nat_le, nat_lt}
use Rattle.std.specs.List.{AllByRecursion}
use Rattle.std.proofs.lemmas.Bool.{and_parts, leb-true}
use Rattle.qu_base.specs.declared.limits.TheConstants.{OBJECT_IDS}
use Rattle.qu_base.specs.declared.party.ObjectId.{ObjectId}
use Rattle.qu_objects.specs.Parts.{is_object_from, are_objects_from, are_parts}
use Rattle.qu_objects.proofs.PartLaws.{parts_are}
use Rattle.qu_kept.proofs.EachObject.{AreDistinct, objects_named}

abbrev pub IsNumbered : ObjectId → Type 0
IsNumbered object = object.0 ≤ OBJECT_IDS - 1

-- from this number on
abbrev pub RiseFrom : ℕ → List ObjectId → Type 0
RiseFrom least [] = Unit {0}
RiseFrom least (object ∷ later) = (least ≤ object.0) × IsNumbered object × RiseFrom (object.0 + 1) later

pub all_numbered : (least : ℕ) (objects : List ObjectId) → RiseFrom least objects → AllByRecursion IsNumbered objects
all_numbered least [] rise = tt
all_numbered least (object ∷ later) rise = (rise.1, all_numbered (object.0 + 1) later rise.2)

-- a lower one is none of them
none_is : (lower : ObjectId) (least : ℕ) (objects : List ObjectId) → lower.0 < least → RiseFrom least objects
    → AllByRecursion (λ other. other ≡ lower → ⊥) objects
none_is lower least [] order rise = tt
none_is lower least (object ∷ later) order rise =
    let from : least ≤ object.0 = rise.0 in (
      λ same. let is : object.0 ≡ lower.0 = ap (λ (it : ObjectId). it.0) same in omega (arith, is, from, order),
      none_is lower (object.0 + 1) later (omega (arith, from, order)) rise.2,
    )

pub all_distinct : (least : ℕ) (objects : List ObjectId) → RiseFrom least objects → AreDistinct objects
all_distinct least [] rise = tt
all_distinct least (object ∷ later) rise = (
  none_is object (object.0 + 1) later (omega arith) rise.2,
  all_distinct (object.0 + 1) later rise.2,
)

-- those of the parts of an operation do
objects_rise : (least : ℕ) (objects : List ObjectId) → IsTrue (are_objects_from least objects) → RiseFrom least objects
unfolding are_objects_from
objects_rise least [] are = tt
objects_rise least (object ∷ later) are =
    let both = and_parts (is_object_from least object) (are_objects_from (object.0 + 1) later) are in
    let own = and_parts (nat_le least object.0) (nat_lt object.0 OBJECT_IDS) both.0 in
    let below : object.0 < OBJECT_IDS = ltb-true _ _ own.1 in
    (leb-true _ _ own.0, omega (arith, below), objects_rise (object.0 + 1) later both.1)

pub parts_objects_rise : {X : Type 0} (parts : List (ObjectId × X)) → IsTrue (are_parts parts)
    → RiseFrom 0 (objects_named parts)
parts_objects_rise parts are = objects_rise 0 (objects_named parts) (parts_are parts are).rise
