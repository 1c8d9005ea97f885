-- What an act makes of the versions of its objects, by functions of the objects.
use Rattle.std.proofs.Common.{◌≡◌, ℕ, ◌+◌, ◌<◌, ◌≤◌, ◌==◌, ◌&&◌, Bool, true, false, IsTrue, List, [], ◌∷◌, length, map, refl, sym, ap, ◌∙◌, arith}
use Rattle.std.specs.Prelude.{if◌then◌else◌, nat_le, nat_lt, zip}
use Rattle.std.specs.List.{AllByRecursion}
use Rattle.std.proofs.lemmas.Bool.{and_parts, leb-true, eqb-true, eq-eqb}
use Rattle.std.proofs.lemmas.List.{length-map}
use Rattle.qu_base.specs.declared.limits.TheConstants.{OBJECT_IDS}
use Rattle.qu_base.specs.declared.party.ClientId.{ClientId}
use Rattle.qu_base.specs.declared.party.ObjectId.{ObjectId}
use Rattle.qu_stamp.specs.declared.stamp.Stamp.{Stamp}
use Rattle.qu_objects.specs.declared.act.Method.{Method}
use Rattle.qu_objects.specs.declared.kind.Value.{Value}
use Rattle.qu_objects.specs.declared.state.KeptRow.{KeptRow}
use Rattle.qu_objects.specs.declared.state.ObjState.{ObjState}
use Rattle.qu_objects.specs.Parts.{is_object_from, are_objects_from, are_parts}
use Rattle.qu_objects.specs.Performing.{performed_values}
use Rattle.qu_objects.proofs.PartLaws.{parts_are}
use Rattle.qu_kept.specs.Performing.{values_of, row_by, links_to_others, state_after, written, states_after, performed_states}
use Rattle.qu_kept.proofs.PerformedStates.{values_fit}

-- ---- different objects

abbrev pub objects_named : {X : Type 0} → List (ObjectId × X) → List ObjectId
objects_named parts = map (λ part. part.0) parts

-- no object is there twice
abbrev pub AreDistinct : List ObjectId → Type 0
AreDistinct [] = Unit {0}
AreDistinct (object ∷ later) = AllByRecursion (λ other. other ≡ object → ⊥) later × AreDistinct later

-- a lower object is none of those that rise
none_is : (lower : ObjectId) (least : ℕ) (objects : List ObjectId) → lower.0 < least
    → IsTrue (are_objects_from least objects) → AllByRecursion (λ other. other ≡ lower → ⊥) objects
unfolding are_objects_from
none_is lower least [] order rise = tt
none_is lower least (object ∷ later) order rise =
    let both = and_parts (is_object_from least object) (are_objects_from (object.0 + 1) later) rise in
    let here = and_parts (nat_le least object.0) (nat_lt object.0 OBJECT_IDS) both.0 in
    let from : least ≤ object.0 = leb-true _ _ here.0 in (
      λ same. let is : object.0 ≡ lower.0 = ap (λ (it : ObjectId). it.0) same in omega (arith, is, from, order),
      none_is lower (object.0 + 1) later (omega (arith, from, order)) both.1,
    )

distinct_from : (least : ℕ) (objects : List ObjectId) → IsTrue (are_objects_from least objects) → AreDistinct objects
unfolding are_objects_from
distinct_from least [] rise = tt
distinct_from least (object ∷ later) rise =
    let both = and_parts (is_object_from least object) (are_objects_from (object.0 + 1) later) rise in
    (none_is object (object.0 + 1) later (omega arith) both.1, distinct_from (object.0 + 1) later both.1)

-- the parts of an operation are of different objects
pub distinct_parts : {X : Type 0} (parts : List (ObjectId × X)) → IsTrue (are_parts parts)
    → AreDistinct (objects_named parts)
distinct_parts parts are = distinct_from 0 (objects_named parts) (parts_are parts are).rise

-- ---- the value of an object among those of the parts

abbrev pub value_of : {X : Type 0} → (ObjectId → Value) → List (ObjectId × X) → List Value → ObjectId → Value
value_of other [] values object = other object
value_of other (part ∷ parts) [] object = other object
value_of other (part ∷ parts) (value ∷ values) object =
    if (part.0).0 == object.0 then value else value_of other parts values object

-- the value of the first part is no value of the others' objects
past_first : {X : Type 0} (object : ObjectId) (value : Value) (look : ObjectId → Value) (parts : List (ObjectId × X))
    → AllByRecursion (λ other. other ≡ object → ⊥) (objects_named parts)
    → map (λ (part : ObjectId × X). look part.0) parts
    ≡ map (λ (part : ObjectId × X). if object.0 == (part.0).0 then value else look part.0) parts
past_first object value look [] apart = refl
past_first object value look (part ∷ parts) apart =
    ap (λ (later : List Value). look part.0 ∷ later) (past_first object value look parts apart.1)
    ∙ ap (λ (here : Value). here ∷ map (λ part. if object.0 == (part.0).0 then value else look part.0) parts)
    (by (object.0 == (part.0).0) refl)
  where
    by : (test : Bool) → (object.0 == (part.0).0) ≡ test → look part.0 ≡ if test then value else look part.0
    by true is = absurd (apart.0 (ap (λ (number : ℕ). record { 0 = number }) (sym (eqb-true _ _ is))))
    by false is = refl

pub values_each : {X : Type 0} (other : ObjectId → Value) (parts : List (ObjectId × X)) (values : List Value)
    → AreDistinct (objects_named parts) → length values ≡ length parts
    → values ≡ map (λ (part : ObjectId × X). value_of other parts values part.0) parts
values_each other [] [] apart fit = refl
values_each other [] (value ∷ values) apart fit = absurd (omega arith)
values_each other (part ∷ parts) [] apart fit = absurd (omega arith)
values_each other (part ∷ parts) (value ∷ values) apart fit =
    let same : ((part.0).0 == (part.0).0) ≡ true = eq-eqb _ _ refl in
    ap (λ (later : List Value). value ∷ later)
    (values_each other parts values apart.1 (omega arith)
    ∙ past_first part.0 value (value_of other parts values) parts apart.0)
    ∙ ap (λ (test : Bool). (if test then value else value_of other parts values part.0)
    ∷ map (λ it. value_of other (part ∷ parts) (value ∷ values) it.0) parts) (sym same)

-- ---- an act

module _ (client : ClientId) (number : ℕ) (parts : List (ObjectId × Method)) (stamp : ObjectId → Stamp)
    (before : ObjectId → ObjState) where
  abbrev pub values_before : List Value
  values_before = map (λ part. (before part.0).value) parts

  abbrev pub value_after : ObjectId → Value
  value_after object = value_of (λ it. (before it).value) parts (performed_values parts values_before) object

  abbrev pub version_after : ObjectId → ObjState
  version_after object = state_after (row_by client number parts values_before) (value_after object)
      (links_to_others object (stamp object) parts) (before object)

  pub values_are-before : (some : List (ObjectId × Method)) → values_of (map before (objects_named some))
      ≡ map (λ (part : ObjectId × Method). (before part.0).value) some
  values_are-before [] = refl
  values_are-before (part ∷ later) =
      ap (λ (values : List Value). (before part.0).value ∷ values) (values_are-before later)

  module _ (apart : AreDistinct (objects_named parts)) where
    pub values_are : performed_values parts values_before
        ≡ map (λ (part : ObjectId × Method). value_after part.0) parts
    values_are = values_each (λ it. (before it).value) parts (performed_values parts values_before) apart
        (values_fit parts values_before (length-map parts (λ part. (before part.0).value)))

    -- what is written for some of the parts
    written_are : (row : KeptRow) (value : ObjectId → Value) (some : List (ObjectId × Method))
        → map (written row parts) (zip some (zip (map stamp (objects_named some))
        (zip (map (λ part. value part.0) some) (map before (objects_named some)))))
        ≡ map (λ (object : ObjectId). state_after row (value object) (links_to_others object (stamp object) parts)
        (before object)) (objects_named some)
    written_are row value [] = refl
    written_are row value (part ∷ later) =
        ap (λ (states : List ObjState). state_after row (value part.0)
        (links_to_others part.0 (stamp part.0) parts) (before part.0) ∷ states) (written_are row value later)

    pub states_are : performed_states client number parts (map stamp (objects_named parts))
        (map before (objects_named parts)) ≡ map version_after (objects_named parts)
    states_are =
        ap (λ (values : List Value). states_after (row_by client number parts values) parts
        (map stamp (objects_named parts)) (performed_values parts values) (map before (objects_named parts)))
        (values_are-before parts)
        ∙ ap (λ (values : List Value). states_after (row_by client number parts values_before) parts
        (map stamp (objects_named parts)) values (map before (objects_named parts))) values_are
        ∙ written_are (row_by client number parts values_before) value_after parts
