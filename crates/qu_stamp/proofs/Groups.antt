-- What groups are: few members; and their order, which is total, and in which groups that compare alike are equal.
use Rattle.std.proofs.Common.{◌≡◌, ℕ, ◌+◌, ◌==◌, ◌<◌, ◌≤◌, ◌&&◌, true, false, List, [], ◌∷◌, length, drop, get_or, refl, sym, ap, ◌∙◌, arith}
use Rattle.std.specs.Prelude.{None}
use Rattle.std.specs.List.{find}
use Rattle.std.specs.Option.{option_map}
use Rattle.std.specs.Ordering.{nat_cmp, is_eq}
use Rattle.std.specs.declared.cmp.Ordering.TheVariants.{Equal}
use Rattle.std.specs.Bool.{Decides}
use Rattle.std.specs.Cmp.{IsTotalOrder}
use Rattle.std.specs.Cmp.Lexicographic.{slice_cmp, pointwise_decides}
use Rattle.std.proofs.lemmas.Cmp.{nat_cmp_total, lists_total, on_total, then_total}
use Rattle.std.proofs.lemmas.Map.Lookups.{CmpEqualImpliesEq, exact_unsigned}
use Rattle.std.proofs.lemmas.Bool.{false≢true, and_parts, and_from, and_left, eq-eqb, eqb-true, leb-true}
use Rattle.std.proofs.lemmas.Bool.Decides.{nat_tests}
use Rattle.std.proofs.lemmas.List.{drop_more, drop_all}
use Rattle.qu_base.specs.declared.party.ObjectId.{ObjectId}
use Rattle.qu_stamp.proofs.Below.{both_equal}
use Rattle.qu_stamp.specs.declared.candidate.Candidate.{Candidate}
use Rattle.qu_stamp.specs.Candidate.{member as member_on}
use Rattle.qu_stamp.specs.Group.{listed_time, is_group_size, is_member_from, are_members_from, is_group, member_cmp, group_cmp, same_member, same_group}

-- ---- how many there are

few_by_size : (count : ℕ) → is_group_size count ≡ true → count ≤ 4
few_by_size count is = grind (arith, nat_tests)

pub member_from : (least : ℕ) (member : ObjectId × ℕ) → is_member_from least member ≡ true → least ≤ (member.0).0
member_from least member is = leb-true least (member.0).0 (and_parts _ _ is).0

pub members_are_few : (group : List (ObjectId × ℕ)) → is_group group ≡ true → length group ≤ 4
unfolding is_group
members_are_few group is = few_by_size (length group) ((and_parts (is_group_size (length group)) _ is).0)

-- ---- a test along the members

module _ (members : List (ObjectId × ℕ)) (least index : ℕ)
    (so_far : are_members_from 0 members ≡ are_members_from least (drop index members)) where
  -- a test that has seen all members
  pub are_members_all : length members ≤ index → true ≡ are_members_from 0 members
  unfolding are_members_from
  are_members_all whole = sym (so_far ∙ ap (are_members_from least) (drop_all index members whole))

  module _ (default : ObjectId × ℕ) (within : index < length members) where
    abbrev member : ObjectId × ℕ
    member = get_or members index default

    next : are_members_from 0 members
        ≡ (is_member_from least member && are_members_from ((member.0).0 + 1) (drop (index + 1) members))
    unfolding are_members_from
    next = so_far ∙ ap (are_members_from least) (drop_more members index default within)

    pub are_members_no : is_member_from least member ≡ false → false ≡ are_members_from 0 members
    are_members_no refused =
        sym (next ∙ and_left _ (are_members_from ((member.0).0 + 1) (drop (index + 1) members)) refused)

    pub are_members_more : is_member_from least member ≡ true
        → are_members_from 0 members ≡ are_members_from ((member.0).0 + 1) (drop (index + 1) members)
    are_members_more passes =
        next ∙ ap (λ test. test && are_members_from ((member.0).0 + 1) (drop (index + 1) members)) passes

-- ---- the order

members_total : IsTotalOrder member_cmp
members_total = then_total (on_total (λ (member : ObjectId × ℕ). (member.0).0) nat_cmp_total)
    (on_total (λ (member : ObjectId × ℕ). member.1) nat_cmp_total)

pub groups_total : IsTotalOrder group_cmp
groups_total = lists_total members_total

-- ---- equality

decides_member : (a b : ObjectId × ℕ) → Decides (same_member a b) (a ≡ b)
decides_member a b = (
  λ alike.
      let parts = and_parts ((a.0).0 == (b.0).0) (a.1 == b.1) alike in
      λ i. (record { 0 = eqb-true (a.0).0 (b.0).0 parts.0 i }, eqb-true a.1 b.1 parts.1 i),
  λ equal. and_from _ _ (eq-eqb (a.0).0 (b.0).0 (ap (λ (it : ObjectId × ℕ). (it.0).0) equal))
      (eq-eqb a.1 b.1 (ap (λ (it : ObjectId × ℕ). it.1) equal)),
)

pub decides_group : (a b : List (ObjectId × ℕ)) → Decides (same_group a b) (a ≡ b)
decides_group = pointwise_decides decides_member

pub same_group-self : (group : List (ObjectId × ℕ)) → same_group group group ≡ true
same_group-self group = (decides_group group group).1 refl

-- ---- members

-- a candidate that stands alone has no member
pub alone_has_no_member : (candidate : Candidate) (object : ObjectId) → candidate.group ≡ []
    → member_on candidate object ≡ None
unfolding member_on listed_time
alone_has_no_member candidate object alone =
    ap (λ (group : List (ObjectId × ℕ)). option_map (λ (time : ℕ). record candidate.stamp { time = time })
    (option_map (λ (member : ObjectId × ℕ). member.1) (find (λ member. (member.0).0 == object.0) group))) alone

-- ---- groups that compare alike are equal

exact_members : CmpEqualImpliesEq member_cmp
exact_members a b level =
    let parts : (nat_cmp (a.0).0 (b.0).0 ≡ Equal) × (nat_cmp a.1 b.1 ≡ Equal) = both_equal _ _ level in
    let object = exact_unsigned (a.0).0 (b.0).0 parts.0 in
    let time = exact_unsigned a.1 b.1 parts.1 in
    λ i. (record { 0 = object i }, time i)

pub exact_groups : CmpEqualImpliesEq group_cmp
exact_groups [] [] level = refl
exact_groups [] (b ∷ bs) level = absurd (false≢true (ap is_eq level))
exact_groups (a ∷ others) [] level = absurd (false≢true (ap is_eq level))
exact_groups (a ∷ others) (b ∷ bs) level =
    let parts : (member_cmp a b ≡ Equal) × (slice_cmp member_cmp others bs ≡ Equal) = both_equal _ _ level in
    let first = exact_members a b parts.0 in
    let later = exact_groups others bs parts.1 in
    λ i. first i ∷ later i
