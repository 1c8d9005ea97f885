-- What the parts of an operation are: few, on objects that rise; and a test along their objects.
use Rattle.std.proofs.Common.{◌≡◌, ℕ, ◌+◌, ◌<◌, ◌≤◌, ◌&&◌, true, false, List, ◌∷◌, length, map, drop, get_or, Option, None, Some, refl, sym, ap, ◌∙◌, arith}
use Rattle.std.specs.Prelude.{IsTrue, nat_le}
use Rattle.std.proofs.lemmas.Bool.{and_parts, and_left, leb-true, lt-ltb, ltb-true}
use Rattle.std.proofs.lemmas.List.{drop_more, drop_all}
use Rattle.qu_base.specs.declared.party.ObjectId.{ObjectId}
use Rattle.qu_objects.specs.declared.act.Method.{Method}
use Rattle.qu_objects.specs.declared.limits.TheConstants.{MOST_PARTS}
use Rattle.qu_objects.specs.declared.op.Op.TheVariants.{Act}
use Rattle.qu_objects.specs.Formats.{is_after}
use Rattle.qu_objects.specs.Parts.{is_object_from, are_objects_from, is_parts_count, are_parts}

pub record AreParts {X : Type 0} (parts : List (ObjectId × X)) : Type 0 where
  pub some : 1 ≤ length parts
  pub few : length parts ≤ MOST_PARTS
  pub rise : IsTrue (are_objects_from 0 (map (λ part. part.0) parts))

pub parts_are : {X : Type 0} (parts : List (ObjectId × X)) → IsTrue (are_parts parts) → AreParts parts
parts_are parts is =
    let both = and_parts (is_parts_count (length parts)) (are_objects_from 0 (map (λ part. part.0) parts)) is in
    let count = and_parts (nat_le 1 (length parts)) (nat_le (length parts) MOST_PARTS) both.0 in
    record { some = leb-true _ _ count.0; few = leb-true _ _ count.1; rise = both.1 }

-- their positions fit an answer
pub few_parts : {X : Type 0} (parts : List (ObjectId × X)) → IsTrue (are_parts parts) → length parts ≤ MOST_PARTS
few_parts parts is = (parts_are parts is).few

-- equal acts have equal parts
pub same_parts : (parts others : List (ObjectId × Method)) → Act parts ≡ Act others → parts ≡ others
same_parts parts others same = cc

-- ---- the object of a part, and the one before it

-- the least number of an object behind this one
abbrev pub after_object : Option ObjectId → ℕ
after_object None = 0
after_object (Some before) = before.0 + 1

pub is_from : (before : Option ObjectId) (object : ObjectId) → IsTrue (is_after before object)
    → after_object before ≤ object.0
is_from None object is = omega arith
is_from (Some before) object is =
    let below : before.0 < object.0 = ltb-true _ _ is in omega (arith, below)

pub is_behind : (before : Option ObjectId) (object : ObjectId) → after_object before ≤ object.0
    → IsTrue (is_after before object)
is_behind None object from = refl
is_behind (Some before) object from = lt-ltb _ _ (omega (arith, from))

-- ---- a test along the objects

module _ {X : Type 0} (parts : List (ObjectId × X)) (least index : ℕ)
    (so_far : are_objects_from 0 (map (λ part. part.0) parts)
    ≡ are_objects_from least (map (λ part. part.0) (drop index parts))) where
  -- a test that has seen all of them
  pub rise_all : length parts ≤ index → true ≡ are_objects_from 0 (map (λ part. part.0) parts)
  unfolding are_objects_from
  rise_all whole =
      sym (so_far ∙ ap (λ (rest : List (ObjectId × X)). are_objects_from least (map (λ part. part.0) rest))
      (drop_all index parts whole))

  module _ (part : ObjectId × X) (within : index < length parts) (is : part ≡ get_or parts index part) where
    next : are_objects_from 0 (map (λ part. part.0) parts)
        ≡ (is_object_from least part.0
        && are_objects_from ((part.0).0 + 1) (map (λ part. part.0) (drop (index + 1) parts)))
    unfolding are_objects_from
    next =
        so_far
        ∙ ap (λ (rest : List (ObjectId × X)). are_objects_from least (map (λ part. part.0) rest))
        (drop_more parts index part within
        ∙ ap (λ (it : ObjectId × X). it ∷ drop (index + 1) parts) (sym is))

    pub rise_no : is_object_from least part.0 ≡ false → false ≡ are_objects_from 0 (map (λ part. part.0) parts)
    rise_no refused =
        sym (next ∙ and_left _
        (are_objects_from ((part.0).0 + 1) (map (λ part. part.0) (drop (index + 1) parts))) refused)

    pub rise_more : is_object_from least part.0 ≡ true
        → are_objects_from 0 (map (λ part. part.0) parts)
        ≡ are_objects_from ((part.0).0 + 1) (map (λ part. part.0) (drop (index + 1) parts))
    rise_more passes =
        next ∙ ap (λ test. test
        && are_objects_from ((part.0).0 + 1) (map (λ part. part.0) (drop (index + 1) parts))) passes
