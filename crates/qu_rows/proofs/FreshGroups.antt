-- The group of the candidates that an act makes: its members are few, with rising objects and with times.
use Rattle.std.proofs.Common.{◌≡◌, ℕ, suc, ◌+◌, ◌==◌, ◌<◌, ◌≤◌, Bool, true, false, ◌||◌, cond, List, [], ◌∷◌, length, map, Some, refl, sym, ap, subst, arith}
use Rattle.std.specs.Prelude.{find}
use Rattle.std.specs.List.{All, AllByRecursion, list_any}
use Rattle.std.specs.Option.{option_map}
use Rattle.std.proofs.lemmas.Bool.{and_from, le-leb, lt-ltb, true≢false, eqb-true, eq-eqb, or_right}
use Rattle.std.proofs.lemmas.Bool.Decides.{nat_tests}
use Rattle.std.proofs.lemmas.List.Elements.{recursion_from_All}
use Rattle.std.proofs.lemmas.List.{length-map}
use Rattle.qu_base.specs.declared.limits.TheConstants.{OBJECT_IDS}
use Rattle.qu_base.specs.declared.party.ObjectId.{ObjectId}
use Rattle.qu_stamp.specs.declared.limits.TheConstants.{LAST_TIME}
use Rattle.qu_stamp.specs.Group.{is_group_size, are_members_from, is_group, listed_time}
use Rattle.qu_objects.specs.declared.limits.TheConstants.{MOST_PARTS}
use Rattle.qu_objects.proofs.PartLaws.{few_parts}
use Rattle.qu_mends.specs.declared.seen.Seen.{Seen}
use Rattle.qu_mends.specs.Remedy.{fresh_member}
use Rattle.qu_rows.specs.Rows.{Asked, AreOperated, objects_of, stamp_after, fresh_stamp, unless_alone, fresh_group, members_seen, group_seen}
use Rattle.qu_kept.proofs.RisingObjects.{IsNumbered, RiseFrom, parts_objects_rise}

-- ---- rising objects with times are a group

-- a member with the time of a candidate
abbrev pub HasTime : ObjectId × ℕ → Type 0
HasTime member = (1 ≤ member.1) × (member.1 ≤ LAST_TIME)

pub members_from : (least : ℕ) (members : List (ObjectId × ℕ)) → RiseFrom least (objects_of members)
    → AllByRecursion HasTime members → are_members_from least members ≡ true
unfolding are_members_from
members_from least [] rise timed = refl
members_from least (member ∷ later) rise timed =
    let within : IsNumbered member.0 = rise.1 in
    let below : (member.0).0 < OBJECT_IDS = omega (arith, within) in
    and_from _ _
    (and_from _ _ (le-leb _ _ rise.0)
    (and_from _ _ (lt-ltb _ _ below) (and_from _ _ (le-leb _ _ timed.0.0) (le-leb _ _ timed.0.1))))
    (members_from ((member.0).0 + 1) later rise.2 timed.1)

size_of_more : (count : ℕ) → suc (suc count) ≤ 4 → is_group_size (suc (suc count)) ≡ true
size_of_more count few = grind (arith, nat_tests, few)

pub group_whole : (members : List (ObjectId × ℕ)) → length members ≤ MOST_PARTS → RiseFrom 0 (objects_of members)
    → AllByRecursion HasTime members → is_group (unless_alone members) ≡ true
unfolding is_group are_members_from
group_whole [] few rise timed = refl
group_whole (member ∷ []) few rise timed = refl
group_whole (first ∷ second ∷ later) few rise timed =
    and_from _ _ (size_of_more (length later) few) (members_from 0 (first ∷ second ∷ later) rise timed)

-- ---- what a group lists

abbrev is_among : ObjectId → List ObjectId → Bool
is_among object objects = list_any (λ (other : ObjectId). other.0 == object.0) objects

listed_among : (time : ObjectId → ℕ) (object : ObjectId) (objects : List ObjectId) → is_among object objects ≡ true
    → listed_time object (map (λ (it : ObjectId). (it, time it)) objects) ≡ Some (time object)
unfolding listed_time
listed_among time object [] among = absurd (true≢false (sym among))
listed_among time object (first ∷ later) among =
    by (first.0 == object.0) refl among (listed_among time object later)
  where
    by : (test : Bool) → (first.0 == object.0) ≡ test → (test || is_among object later) ≡ true
        → (is_among object later ≡ true
        → option_map (λ (member : ObjectId × ℕ). member.1) (find (λ (member : ObjectId × ℕ).
        (member.0).0 == object.0) (map (λ (it : ObjectId). (it, time it)) later)) ≡ Some (time object))
        → option_map (λ (member : ObjectId × ℕ). member.1) (cond test (Some (first, time first))
        (find (λ (member : ObjectId × ℕ). (member.0).0 == object.0) (map (λ (it : ObjectId). (it, time it)) later)))
        ≡ Some (time object)
    by true is here so_far = ap (λ (number : ℕ). Some (time (record { 0 = number }))) (eqb-true _ _ is)
    by false is there so_far = so_far there

among_later : (all later : List ObjectId)
    → ((object : ObjectId) → is_among object later ≡ true → is_among object all ≡ true)
    → AllByRecursion (λ object. is_among object all ≡ true) later
among_later all [] are = tt
among_later all (object ∷ later) are = (
  are object (ap (λ (test : Bool). test || is_among object later) (eq-eqb object.0 object.0 refl)),
  among_later all later
      (λ other there. are other (or_right (object.0 == other.0) (is_among other later) there)),
)

-- the group of more candidates than one lists each object of an act with the time of its candidate
pub each_listed : (asked : Asked) (objects : List ObjectId)
    → AllByRecursion (λ object. listed_time object (map (λ (it : ObjectId). (it, (fresh_stamp asked it).time)) objects)
    ≡ Some (fresh_stamp asked object).time) objects
each_listed asked objects = each objects (among_later objects objects (λ object among. among))
  where
    each : (later : List ObjectId) → AllByRecursion (λ object. is_among object objects ≡ true) later
        → AllByRecursion (λ object.
        listed_time object (map (λ (it : ObjectId). (it, (fresh_stamp asked it).time)) objects)
        ≡ Some (fresh_stamp asked object).time) later
    each [] among = tt
    each (object ∷ later) among =
        (listed_among (λ it. (fresh_stamp asked it).time) object objects among.0, each later among.1)

-- ---- the group of what is made on the objects of a group

made_members : (asked : Asked) (group : List (ObjectId × ℕ))
    → map (fresh_member asked.sets) group
    ≡ map (λ (it : ObjectId). (it, (fresh_stamp asked it).time)) (objects_of group)
made_members asked [] = refl
made_members asked (member ∷ later) =
    ap (λ (rest : List (ObjectId × ℕ)). (member.0, (fresh_stamp asked member.0).time) ∷ rest)
    (made_members asked later)

of_members : (P : ObjectId → Type 0) (group : List (ObjectId × ℕ)) → AllByRecursion P (objects_of group)
    → AllByRecursion (λ (member : ObjectId × ℕ). P member.0) group
of_members P [] all = tt
of_members P (member ∷ later) all = (all.0, of_members P later all.1)

-- it lists each with the time of its candidate
pub made_listed : (asked : Asked) (group : List (ObjectId × ℕ))
    → AllByRecursion (λ (member : ObjectId × ℕ). listed_time member.0 (map (fresh_member asked.sets) group)
    ≡ Some (fresh_stamp asked member.0).time) group
made_listed asked group =
    subst (λ (made : List (ObjectId × ℕ)). AllByRecursion (λ (member : ObjectId × ℕ). listed_time member.0 made
    ≡ Some (fresh_stamp asked member.0).time) group) (sym (made_members asked group))
    (of_members (λ object. listed_time object (map (λ (it : ObjectId). (it, (fresh_stamp asked it).time))
    (objects_of group)) ≡ Some (fresh_stamp asked object).time) group (each_listed asked (objects_of group)))

-- as that of an act does
pub made_fresh : (asked : Asked) (group : List (ObjectId × ℕ)) → is_group group ≡ true
    → map (fresh_member asked.sets) group ≡ fresh_group asked (objects_of group)
unfolding is_group
made_fresh asked [] is = refl
made_fresh asked (member ∷ []) is = absurd (true≢false (sym is))
made_fresh asked (first ∷ second ∷ later) is = made_members asked (first ∷ second ∷ later)

-- ---- by what was seen of the objects

objects_seen : (asked : Asked) (seen : List Seen) → objects_of (map (λ (one : Seen). (one.object, one)) seen)
    ≡ objects_of (members_seen asked seen)
objects_seen asked [] = refl
objects_seen asked (one ∷ later) = ap (λ (objects : List ObjectId). one.object ∷ objects) (objects_seen asked later)

times_seen : (asked : Asked) (seen : List Seen) → AllByRecursion (λ one. one.latest.time < LAST_TIME) seen
    → AllByRecursion HasTime (members_seen asked seen)
times_seen asked [] in_time = tt
times_seen asked (one ∷ later) in_time =
    let here : one.latest.time < LAST_TIME = in_time.0 in
    ((omega arith, omega (arith, here)), times_seen asked later in_time.1)

few_seen : (asked : Asked) (seen : List Seen) → AreOperated seen → length (members_seen asked seen) ≤ MOST_PARTS
few_seen asked seen are =
    let with_it : Seen → ObjectId × Seen = λ one. (one.object, one) in
    let with_time : Seen → ObjectId × ℕ = λ one. (one.object, (stamp_after asked one.latest).time) in
    let few : length (map with_it seen) ≤ MOST_PARTS = few_parts (map with_it seen) are in
    let as_many : length (map with_it seen) ≡ length seen = length-map seen with_it in
    let members : length (members_seen asked seen) ≡ length seen = length-map seen with_time in
    omega (arith, few, as_many, members)

pub group_seen-whole : (asked : Asked) (seen : List Seen) → AreOperated seen
    → All (λ one. one.latest.time < LAST_TIME) seen → is_group (group_seen asked seen) ≡ true
group_seen-whole asked seen are in_time =
    group_whole (members_seen asked seen) (few_seen asked seen are)
    (subst (RiseFrom 0) (objects_seen asked seen)
    (parts_objects_rise (map (λ (one : Seen). (one.object, one)) seen) are))
    (times_seen asked seen (recursion_from_All (λ (one : Seen). one.latest.time < LAST_TIME) seen in_time))

pub alone_seen : (asked : Asked) (seen : List Seen) → length seen ≡ 1 → group_seen asked seen ≡ []
alone_seen asked [] one = refl
alone_seen asked (seen ∷ []) one = refl
alone_seen asked (first ∷ second ∷ later) one = absurd (omega (arith, one))

pub others_seen : (asked : Asked) (seen : List Seen) → (length seen ≡ 1 → ⊥)
    → group_seen asked seen ≡ members_seen asked seen
others_seen asked [] more = refl
others_seen asked (seen ∷ []) more = absurd (more refl)
others_seen asked (first ∷ second ∷ later) more = refl
