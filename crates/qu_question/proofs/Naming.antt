-- Objects that are named rise, are at most as many as one set may have, and stay named where one is added.
use Rattle.std.proofs.Common.{◌≡◌, ℕ, suc, ◌+◌, ◌<◌, ◌≤◌, Bool, true, false, cond, ◌&&◌, List, [], ◌∷◌, ◌++◌, filter, length, length-append, IsTrue, refl, sym, ◌∙◌, arith, inl, inr}
use Rattle.std.specs.Prelude.{◌==◌, nat_lt, nat_le}
use Rattle.std.proofs.lemmas.Bool.{false≢true, cases_Bool, cond_both, and_parts, and_from, or_cases, or_left, or_right, eq-eqb, eqb-true, leb-true, le-leb, ltb-true, ltb-false, lt-ltb}
use Rattle.std.proofs.lemmas.List.Folds.{list_any-append}
use Rattle.qu_base.specs.declared.limits.TheConstants.{OBJECT_IDS}
use Rattle.qu_base.specs.declared.party.ObjectId.{ObjectId}
use Rattle.qu_history.specs.declared.limits.TheConstants.{OBJECTS_LIMIT}
use Rattle.qu_objects.specs.Formats.{is_one_of}
use Rattle.qu_objects.specs.Parts.{are_objects_from}
use Rattle.qu_question.specs.Named.{are_objects, among, with_named}

abbrev below : ObjectId → ObjectId → Bool
below object other = nat_lt other.0 object.0

abbrev above : ObjectId → ObjectId → Bool
above object other = nat_lt object.0 other.0

-- ---- they rise

-- what is known of the first of some that rise
record IsFirstOf (least : ℕ) (object : ObjectId) (later : List ObjectId) : Type 0 where
  test : (nat_le least object.0 && nat_lt object.0 OBJECT_IDS) ≡ true
  order : least ≤ object.0
  numbered : nat_lt object.0 OBJECT_IDS ≡ true
  rest : are_objects_from (object.0 + 1) later ≡ true

first_of : (least : ℕ) (object : ObjectId) (later : List ObjectId) → are_objects_from least (object ∷ later) ≡ true
    → IsFirstOf least object later
unfolding are_objects_from
first_of least object later rising =
    let parts = and_parts (nat_le least object.0 && nat_lt object.0 OBJECT_IDS) (are_objects_from (object.0 + 1) later)
    rising in
    let tests = and_parts (nat_le least object.0) (nat_lt object.0 OBJECT_IDS) parts.0 in
    record { test = parts.0; order = leb-true least object.0 tests.0; numbered = tests.1; rest = parts.1 }

-- the first of some that rise
and_first : (least : ℕ) (object : ObjectId) (later : List ObjectId) → least ≤ object.0
    → nat_lt object.0 OBJECT_IDS ≡ true → are_objects_from (object.0 + 1) later ≡ true
    → are_objects_from least (object ∷ later) ≡ true
unfolding are_objects_from
and_first least object later order numbered rest =
    and_from _ _ (and_from _ _ (le-leb least object.0 order) numbered) rest

none_rise : (least : ℕ) → are_objects_from least [] ≡ true
unfolding are_objects_from
none_rise least = refl

-- from a lower number on too
from_lower : (least lower : ℕ) (objects : List ObjectId) → lower ≤ least → are_objects_from least objects ≡ true
    → are_objects_from lower objects ≡ true
from_lower least lower [] order rising = none_rise lower
from_lower least lower (object ∷ later) order rising =
    let first : IsFirstOf least object later = first_of least object later rising in
    and_first lower object later (omega (arith, order, first.order)) first.numbered first.rest

-- those that pass a test
from_passing : (test : ObjectId → Bool) (least : ℕ) (objects : List ObjectId) → are_objects_from least objects ≡ true
    → are_objects_from least (filter test objects) ≡ true
from_passing test least [] rising = none_rise least
from_passing test least (object ∷ later) rising =
    let first : IsFirstOf least object later = first_of least object later rising in
    let rest : are_objects_from (object.0 + 1) (filter test later) ≡ true =
    from_passing test (object.0 + 1) later first.rest in
    cond_both (test object) _ _ (λ (it : List ObjectId). are_objects_from least it ≡ true)
    (λ _. and_first least object (filter test later) first.order first.numbered rest)
    (λ _. from_lower (object.0 + 1) least (filter test later) (omega (arith, first.order)) rest)

-- those above an object
from_above : (object : ObjectId) (least : ℕ) (others : List ObjectId) → are_objects_from least others ≡ true
    → are_objects_from (object.0 + 1) (filter (above object) others) ≡ true
from_above object least [] rising = none_rise (object.0 + 1)
from_above object least (other ∷ later) rising =
    let first : IsFirstOf least other later = first_of least other later rising in
    cond_both (nat_lt object.0 other.0) _ _ (λ (it : List ObjectId). are_objects_from (object.0 + 1) it ≡ true)
    (λ is.
    let order : object.0 < other.0 = ltb-true object.0 other.0 is in
    and_first (object.0 + 1) other (filter (above object) later) (omega (arith, order)) first.numbered
    (from_passing (above object) (other.0 + 1) later first.rest))
    (λ _. from_above object (other.0 + 1) later first.rest)

-- those below an object, it, and others behind it
from_among : (object : ObjectId) (least : ℕ) (others behind : List ObjectId) → least ≤ object.0
    → nat_lt object.0 OBJECT_IDS ≡ true → are_objects_from least others ≡ true
    → are_objects_from (object.0 + 1) behind ≡ true
    → are_objects_from least ((filter (below object) others ++ object ∷ []) ++ behind) ≡ true
from_among object least [] behind order numbered rising after = and_first least object behind order numbered after
from_among object least (other ∷ later) behind order numbered rising after =
    let first : IsFirstOf least other later = first_of least other later rising in
    cond_both (nat_lt other.0 object.0) _ _
    (λ (it : List ObjectId). are_objects_from least ((it ++ object ∷ []) ++ behind) ≡ true)
    (λ is.
    let under : other.0 < object.0 = ltb-true other.0 object.0 is in
    and_first least other ((filter (below object) later ++ object ∷ []) ++ behind) first.order first.numbered
    (from_among object (other.0 + 1) later behind (omega (arith, under)) numbered first.rest after))
    (λ _.
    from_among object least later behind order numbered
    (from_lower (other.0 + 1) least later (omega (arith, first.order)) first.rest) after)

-- ---- how many they are

both_few : (object : ObjectId) (others : List ObjectId)
    → length (filter (below object) others) + length (filter (above object) others) ≤ length others
both_few object [] = omega arith
both_few object (other ∷ later) =
    let rest : length (filter (below object) later) + length (filter (above object) later) ≤ length later =
    both_few object later in
    let lower : List ObjectId = filter (below object) later in
    let higher : List ObjectId = filter (above object) later in
    cond_both (nat_lt other.0 object.0) (other ∷ lower) lower
    (λ (it : List ObjectId).
    length it + length (cond (nat_lt object.0 other.0) (other ∷ higher) higher) ≤ suc (length later))
    (λ under.
    cond_both (nat_lt object.0 other.0) (other ∷ higher) higher
    (λ (it : List ObjectId). suc (length lower) + length it ≤ suc (length later))
    (λ over. absurd (omega (arith, ltb-true other.0 object.0 under, ltb-true object.0 other.0 over)))
    (λ _. omega (arith, rest)))
    (λ _.
    cond_both (nat_lt object.0 other.0) (other ∷ higher) higher
    (λ (it : List ObjectId). length lower + length it ≤ suc (length later)) (λ _. omega (arith, rest))
    (λ _. omega (arith, rest)))

-- one more at most, and one at least
among-number : (object : ObjectId) (others : List ObjectId)
    → (0 < length (among object others)) × (length (among object others) ≤ length others + 1)
unfolding among
among-number object others =
    let lower : List ObjectId = filter (below object) others in
    let higher : List ObjectId = filter (above object) others in
    let few : length lower + length higher ≤ length others = both_few object others in
    let whole : length ((lower ++ object ∷ []) ++ higher) ≡ length (lower ++ object ∷ []) + length higher =
    length-append (lower ++ object ∷ []) higher in
    let front : length (lower ++ object ∷ []) ≡ length lower + 1 = length-append lower (object ∷ []) in
    (omega (arith, whole, front), omega (arith, whole, front, few))

pub among_are : (object : ObjectId) (named : List ObjectId) → IsTrue (are_objects named) → object.0 < OBJECT_IDS
    → length named < OBJECTS_LIMIT → IsTrue (are_objects (among object named))
unfolding are_objects among
among_are object named are numbered room =
    let rising : are_objects_from 0 named ≡ true =
    (and_parts (nat_lt 0 (length named) && nat_le (length named) OBJECTS_LIMIT) (are_objects_from 0 named) are).1 in
    let number : (0 < length (among object named)) × (length (among object named) ≤ length named + 1) =
    among-number object named in
    and_from _ _
    (and_from _ _ (lt-ltb 0 (length (among object named)) number.0)
    (le-leb (length (among object named)) OBJECTS_LIMIT (omega (arith, number.1, room))))
    (from_among object 0 named (filter (above object) named) (omega arith) (lt-ltb object.0 OBJECT_IDS numbered)
    rising (from_above object 0 named rising))

-- ---- they stay named

passing_holds : (test : ObjectId → Bool) (others : List ObjectId) (other : ObjectId)
    → ((it : ObjectId) → (it.0 == other.0) ≡ true → test it ≡ true) → is_one_of others other ≡ true
    → is_one_of (filter test others) other ≡ true
passing_holds test [] other passes is = is
passing_holds test (first ∷ later) other passes is =
    elim (cases_Bool (first.0 == other.0)) [
      | inl here ↦
          cond_both (test first) (first ∷ filter test later) (filter test later)
          (λ (it : List ObjectId). is_one_of it other ≡ true)
          (λ _. or_left (first.0 == other.0) (is_one_of (filter test later) other) here)
          (λ fails. absurd (false≢true (sym fails ∙ passes first here)))
      | inr there ↦
          let rest : is_one_of (filter test later) other ≡ true =
          passing_holds test later other passes (else_later first later other there is) in
          cond_both (test first) (first ∷ filter test later) (filter test later)
          (λ (it : List ObjectId). is_one_of it other ≡ true)
          (λ _. or_right (first.0 == other.0) (is_one_of (filter test later) other) rest) (λ _. rest)
    ]
  where
    else_later : (first : ObjectId) (later : List ObjectId) (other : ObjectId) → (first.0 == other.0) ≡ false
        → is_one_of (first ∷ later) other ≡ true → is_one_of later other ≡ true
    else_later first later other there is =
        elim (or_cases (first.0 == other.0) (is_one_of later other) is) [
          | inl here ↦ absurd (false≢true (sym there ∙ here))
          | inr after ↦ after
        ]

in_front : (objects behind : List ObjectId) (other : ObjectId) → is_one_of objects other ≡ true
    → is_one_of (objects ++ behind) other ≡ true
in_front objects behind other is =
    list_any-append (λ (it : ObjectId). it.0 == other.0) objects behind
    ∙ or_left (is_one_of objects other) (is_one_of behind other) is

behind_them : (objects behind : List ObjectId) (other : ObjectId) → is_one_of behind other ≡ true
    → is_one_of (objects ++ behind) other ≡ true
behind_them objects behind other is =
    list_any-append (λ (it : ObjectId). it.0 == other.0) objects behind
    ∙ or_right (is_one_of objects other) (is_one_of behind other) is

below_too : (object other it : ObjectId) → other.0 < object.0 → (it.0 == other.0) ≡ true → below object it ≡ true
below_too object other it order same =
    let is : it.0 ≡ other.0 = eqb-true it.0 other.0 same in lt-ltb it.0 object.0 (omega (arith, is, order))

above_too : (object other it : ObjectId) → object.0 < other.0 → (it.0 == other.0) ≡ true → above object it ≡ true
above_too object other it order same =
    let is : it.0 ≡ other.0 = eqb-true it.0 other.0 same in lt-ltb object.0 it.0 (omega (arith, is, order))

among-holds : (object : ObjectId) (others : List ObjectId) (other : ObjectId) → is_one_of others other ≡ true
    → is_one_of (among object others) other ≡ true
unfolding among
among-holds object others other is =
    let lower : List ObjectId = filter (below object) others in
    let higher : List ObjectId = filter (above object) others in
    elim (cases_Bool (nat_lt other.0 object.0)) [
      | inl under ↦
          in_front (lower ++ object ∷ []) higher other
          (in_front lower (object ∷ []) other
          (passing_holds (below object) others other
          (λ it same. below_too object other it (ltb-true other.0 object.0 under) same) is))
      | inr least ↦
          elim (cases_Bool (nat_lt object.0 other.0)) [
            | inl over ↦
                behind_them (lower ++ object ∷ []) higher other
                (passing_holds (above object) others other
                (λ it same. above_too object other it (ltb-true object.0 other.0 over) same) is)
            | inr most ↦
                let same : object.0 ≡ other.0 =
                omega (arith, ltb-false other.0 object.0 least, ltb-false object.0 other.0 most) in
                in_front (lower ++ object ∷ []) higher other
                (behind_them lower (object ∷ []) other
                (or_left (object.0 == other.0) false (eq-eqb object.0 other.0 same)))
          ]
    ]

-- they are as objects that are named have to be, where the old ones were, and all old ones are among them
pub record AreMore (old new : List ObjectId) : Type 0 where
  pub are : IsTrue (are_objects old) → IsTrue (are_objects new)
  pub hold : (object : ObjectId) → is_one_of old object ≡ true → is_one_of new object ≡ true

pub same_named : (named : List ObjectId) → AreMore named named
same_named named = record { are = λ are. are; hold = λ object is. is }

pub and_more : {old new newer : List ObjectId} → AreMore old new → AreMore new newer → AreMore old newer
and_more first second = record {
  are = λ are. second.are (first.are are);
  hold = λ object is. second.hold object (first.hold object is);
}

pub with_named-more : (object : ObjectId) (named : List ObjectId) → AreMore named (with_named object named)
unfolding with_named
with_named-more object named =
    cond_both (nat_lt object.0 OBJECT_IDS && nat_lt (length named) OBJECTS_LIMIT) (among object named) named
    (AreMore named)
    (λ fits.
    let tests = and_parts (nat_lt object.0 OBJECT_IDS) (nat_lt (length named) OBJECTS_LIMIT) fits in
    record {
      are = λ are. among_are object named are (ltb-true object.0 OBJECT_IDS tests.0)
          (ltb-true (length named) OBJECTS_LIMIT tests.1);
      hold = among-holds object named;
    })
    (λ _. same_named named)
