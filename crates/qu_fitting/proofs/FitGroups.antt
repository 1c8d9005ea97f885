-- The group of the candidates that an act makes fits each of them.
use Rattle.std.proofs.Common.{◌≡◌, ℕ, ◌+◌, ◌==◌, ◌<◌, ◌≤◌, Bool, true, false, List, [], ◌∷◌, length, map, Some, refl, sym, ap, subst, ◌∙◌, arith}
use Rattle.std.specs.Prelude.{nat_le, nat_lt}
use Rattle.std.specs.List.{AllByRecursion}
use Rattle.std.proofs.lemmas.Bool.{and_from, and_parts, leb-true, ltb-true, eq-eqb, or_right}
use Rattle.std.proofs.lemmas.Bool.Decides.{nat_tests}
use Rattle.std.proofs.lemmas.List.{length-map}
use Rattle.qu_base.specs.declared.limits.TheConstants.{OBJECT_IDS}
use Rattle.qu_base.specs.declared.party.ObjectId.{ObjectId}
use Rattle.qu_base.specs.Format.{FitsFrom}
use Rattle.qu_base.proofs.EachItem.{each_weaker}
use Rattle.qu_stamp.specs.declared.limits.TheConstants.{LAST_TIME}
use Rattle.qu_stamp.specs.declared.stamp.Stamp.{Stamp}
use Rattle.qu_stamp.specs.Formats.{member_form, after_member, may_have_act, may_be_size, is_time, members_form, group_form}
use Rattle.qu_stamp.specs.Group.{is_group_size, is_member_from, are_members_from, is_group, listed_time}
use Rattle.qu_stamp.proofs.Forms.{alone_fits}
use Rattle.qu_history.specs.Sets.{latest_of}
use Rattle.qu_objects.specs.declared.limits.TheConstants.{MOST_PARTS}
use Rattle.qu_kept.proofs.EachObject.{objects_named}
use Rattle.qu_rows.specs.Rows.{Asked, objects_of, shown_of, fresh_stamp, unless_alone, fresh_group}
use Rattle.qu_rows.proofs.FreshGroups.{HasTime, group_whole, each_listed}
use Rattle.qu_kept.proofs.RisingObjects.{RiseFrom}
use Rattle.qu_fitting.proofs.FitStamps.{later_time}
use Rattle.qu_fitting.proofs.RisingParts.{PartsRise}

-- ---- members

acted : (time : ℕ) (barrier : Bool) → (time == 0) ≡ false → barrier ≡ false → may_have_act time barrier ≡ true
acted time barrier above plain = rw (above, plain) refl

-- a group fits a candidate without barrier for whose object it has its time
from_members : (least : ℕ) (members : List (ObjectId × ℕ)) → are_members_from least members ≡ true
    → FitsFrom member_form after_member least members
unfolding member_form are_members_from
from_members least [] rise = tt
from_members least (member ∷ later) rise =
    let both = and_parts (is_member_from least member) (are_members_from ((member.0).0 + 1) later) rise in
    let above = and_parts (nat_le least (member.0).0) _ both.0 in
    let number = and_parts (nat_lt (member.0).0 OBJECT_IDS) _ above.1 in
    let times = and_parts (nat_le 1 member.1) (nat_le member.1 LAST_TIME) number.1 in
    let within : (member.0).0 < OBJECT_IDS = ltb-true _ _ number.0 in (
      (
        ((omega arith, omega (arith, within)), above.0),
        (leb-true 1 member.1 times.0, leb-true member.1 LAST_TIME times.1),
      ),
      from_members ((member.0).0 + 1) later both.1,
    )

few_members : (count : ℕ) → is_group_size count ≡ true → count ≤ 255
few_members count is = grind (arith, nat_tests, is)

pub group_fits : (object : ObjectId) (stamp : Stamp) (group : List (ObjectId × ℕ)) → (stamp.time == 0) ≡ false
    → stamp.barrier ≡ false → is_group group ≡ true → listed_time object group ≡ Some stamp.time
    → (group_form object stamp).Fits group
unfolding group_form members_form is_group
group_fits object stamp group above plain is listed =
    let both = and_parts (is_group_size (length group)) (are_members_from 0 group) is in
    let sized : may_be_size stamp (length group) ≡ true =
    and_from _ _ both.0
    (or_right (length group == 0) (may_have_act stamp.time stamp.barrier)
    (acted stamp.time stamp.barrier above plain)) in (
      (((omega arith, few_members (length group) both.0), sized), (refl, from_members 0 group both.1)),
      or_right (length group == 0) (is_time stamp.time (listed_time object group))
          (ap (is_time stamp.time) listed ∙ eq-eqb stamp.time stamp.time refl),
    )

-- ---- those of an act

-- rising objects with times are the group of each of them
joined_fit : (object : ObjectId) (stamp : Stamp) (members : List (ObjectId × ℕ)) → (stamp.time == 0) ≡ false
    → stamp.barrier ≡ false → length members ≤ MOST_PARTS → RiseFrom 0 (objects_of members)
    → AllByRecursion HasTime members → listed_time object members ≡ Some stamp.time
    → (group_form object stamp).Fits (unless_alone members)
joined_fit object stamp [] above plain few rise timed listed = alone_fits object stamp
joined_fit object stamp (member ∷ []) above plain few rise timed listed = alone_fits object stamp
joined_fit object stamp (first ∷ second ∷ later) above plain few rise timed listed =
    group_fits object stamp (first ∷ second ∷ later) above plain
    (group_whole (first ∷ second ∷ later) few rise timed) listed

module _ (asked : Asked) where
  abbrev fresh_members : List ObjectId → List (ObjectId × ℕ)
  fresh_members objects = map (λ object. (object, (fresh_stamp asked object).time)) objects

  objects_are : (objects : List ObjectId) → objects_of (fresh_members objects) ≡ objects
  objects_are [] = refl
  objects_are (object ∷ later) = ap (λ (rest : List ObjectId). object ∷ rest) (objects_are later)

  times_are : (objects : List ObjectId)
      → AllByRecursion (λ object. (latest_of (shown_of asked object)).time < LAST_TIME) objects
      → AllByRecursion HasTime (fresh_members objects)
  times_are [] in_time = tt
  times_are (object ∷ later) in_time =
      let below : (latest_of (shown_of asked object)).time < LAST_TIME = in_time.0 in
      ((omega arith, omega (arith, below)), times_are later in_time.1)

  -- the group fits the candidate of each object
  pub fresh_groups_fit : {X : Type 0} (parts : List (ObjectId × X)) → PartsRise parts
      → AllByRecursion (λ object. (latest_of (shown_of asked object)).time < LAST_TIME) (objects_named parts)
      → AllByRecursion (λ object. (group_form object (fresh_stamp asked object)).Fits
      (fresh_group asked (objects_named parts))) (objects_named parts)
  fresh_groups_fit parts rise in_time =
      let objects : List ObjectId = objects_named parts in
      let members : List (ObjectId × ℕ) = fresh_members objects in
      let few : length parts ≤ MOST_PARTS = rise.few in
      let with_time : ObjectId → ObjectId × ℕ = λ object. (object, (fresh_stamp asked object).time) in
      let many : length members ≡ length objects = length-map objects with_time in
      let parted : length objects ≡ length parts = length-map parts (λ part. part.0) in
      each_weaker (λ object. listed_time object members ≡ Some (fresh_stamp asked object).time)
      (λ object. (group_form object (fresh_stamp asked object)).Fits (fresh_group asked objects)) objects
      (λ object listed. joined_fit object (fresh_stamp asked object) members
      (later_time (latest_of (shown_of asked object)).time) refl (omega (arith, few, many, parted))
      (subst (RiseFrom 0) (sym (objects_are objects)) rise.rise) (times_are objects in_time) listed)
      (each_listed asked objects)
