-- The group rule: what it makes of a class, and what the class then tells.
use Rattle.std.proofs.Common.{◌≡◌, ◌↔◌, ◌+◌, ◌≤◌, ℕ, Bool, true, false, not, ◌&&◌, cond, List, [], ◌∷◌, find, Option, Some, None, IsSome, length, refl, sym, ap, subst, ◌∙◌, inl, inr, arith}
use Rattle.std.specs.Prelude.{◌==◌}
use Rattle.std.specs.List.{AllByRecursion, list_all}
use Rattle.std.specs.Option.{option_map}
use Rattle.std.proofs.lemmas.Bool.{false≢true, and_parts, and_from, or_parts, eq-eqb}
use Rattle.std.proofs.lemmas.Option.{none-some, same_Some}
use Rattle.qu_base.specs.Bounds.{quorum}
use Rattle.qu_base.specs.declared.party.ObjectId.{ObjectId}
use Rattle.qu_stamp.specs.declared.stamp.Stamp.{Stamp}
use Rattle.qu_stamp.specs.declared.candidate.Candidate.{Candidate}
use Rattle.qu_stamp.specs.Stamp.{same_stamp}
use Rattle.qu_stamp.specs.Group.{same_group, is_group_size, is_group, is_member_from, are_members_from, listed_time}
use Rattle.qu_stamp.proofs.Order.{same_stamp-self, equal_by_same_stamp}
use Rattle.qu_stamp.proofs.Groups.{decides_group, member_from}
use Rattle.qu_history.specs.History.{ObjectHistory}
use Rattle.qu_history.specs.declared.sets.SetOf.{SetOf}
use Rattle.qu_history.specs.Sets.{histories, entries_of, candidates_of, greatest, latest_of, method_at}
use Rattle.qu_class.specs.declared.class.Class.{Class}
use Rattle.qu_class.specs.declared.class.Class.TheVariants.{Method, InlineMethod, Copy, InlineBarrier, Barrier, Needs}
use Rattle.qu_class.specs.Repairable.{greatest_of_kind, object_base}
use Rattle.qu_class.specs.Class.{is_latest, is_full, barrier_class, class_of, is_in_sets, listed_stamp, agrees, all_agree, first_absent, inline_class, with_members, class_in}
use Rattle.qu_class.specs.Rows.{AreWellFormed, IsClassOf, Agrees, AllShown, IsLowestAbsent, IsClassIn, HasGroup}
use Rattle.qu_class.proofs.ClassRows.{latest_test, class_tells, method_is}

-- ---- the first that is absent is the lowest

listed_more : (object : ObjectId) (member : ObjectId × ℕ) (later : List (ObjectId × ℕ))
    → IsSome (listed_time object later) → IsSome (listed_time object (member ∷ later))
unfolding listed_time
listed_more object member later listed =
    elim ((member.0).0 == object.0) as (λ (test : Bool). IsSome (option_map (λ (it : ObjectId × ℕ). it.1)
    (cond test (Some member) (find (λ (it : ObjectId × ℕ). (it.0).0 == object.0) later)))) [
      | true ↦ grind arith
      | false ↦ listed
    ]

listed_first : (member : ObjectId × ℕ) (later : List (ObjectId × ℕ)) → IsSome (listed_time member.0 (member ∷ later))
unfolding listed_time
listed_first member later =
    subst (λ (test : Bool). IsSome (option_map (λ (it : ObjectId × ℕ). it.1)
    (cond test (Some member) (find (λ (it : ObjectId × ℕ). (it.0).0 == (member.0).0) later))))
    (sym (eq-eqb (member.0).0 (member.0).0 refl)) (grind arith)

module _ (sets : List SetOf) where
  -- a number of an object is at least this one, wherever its object is absent
  abbrev AreFrom : ℕ → List (ObjectId × ℕ) → Type 0
  AreFrom least group = AllByRecursion (λ member. is_in_sets sets member.0 ≡ false → least ≤ (member.0).0) group

  all_from : (low least : ℕ) (group : List (ObjectId × ℕ)) → low ≤ least → are_members_from least group ≡ true
      → AreFrom low group
  unfolding are_members_from
  all_from low least [] below rise = tt
  all_from low least (member ∷ later) below rise =
      let parts = and_parts (is_member_from least member) _ rise in
      let first : least ≤ (member.0).0 = member_from least member parts.0 in (
        λ absent. omega (arith, below, first),
        all_from low ((member.0).0 + 1) later (omega (arith, below, first))
            parts.1,
      )

  record IsFirst (least : ℕ) (group : List (ObjectId × ℕ)) (object : ObjectId) : Type 0 where
    from : least ≤ object.0
    lowest : IsLowestAbsent sets group object

  first_by : (least : ℕ) (member : ObjectId × ℕ) (later : List (ObjectId × ℕ)) (object : ObjectId) (shown : Bool)
      → is_in_sets sets member.0 ≡ shown → least ≤ (member.0).0 → are_members_from ((member.0).0 + 1) later ≡ true
      → option_map (λ (it : ObjectId × ℕ). it.0)
      (cond (not shown) (Some member) (find (λ (it : ObjectId × ℕ). not (is_in_sets sets it.0)) later)) ≡ Some object
      → (first_absent sets later ≡ Some object → IsFirst ((member.0).0 + 1) later object)
      → IsFirst least (member ∷ later) object
  first_by least member later object true shown from rise is rest =
      let there : IsFirst ((member.0).0 + 1) later object = rest is in
      record {
        from = omega (arith, from, there.from);
        lowest = record {
          listed = listed_more object member later (there.lowest).listed;
          absent = (there.lowest).absent;
          lowest = (λ absent. absurd (false≢true (sym absent ∙ shown)), (there.lowest).lowest);
        };
      }
  first_by least member later object false absent from rise is rest =
      let equal : member.0 ≡ object = same_Some member.0 object is in
      subst (IsFirst least (member ∷ later)) equal (record {
        from = from;
        lowest = record {
          listed = listed_first member later;
          absent = absent;
          lowest = (λ _. omega arith, all_from (member.0).0 ((member.0).0 + 1) later (omega arith) rise);
        };
      })

  first_is_lowest : (least : ℕ) (group : List (ObjectId × ℕ)) (object : ObjectId)
      → are_members_from least group ≡ true → first_absent sets group ≡ Some object → IsFirst least group object
  unfolding are_members_from
  first_is_lowest least [] object rise is = absurd (none-some object is)
  first_is_lowest least (member ∷ later) object rise is =
      let parts = and_parts (is_member_from least member) _ rise in
      first_by least member later object (is_in_sets sets member.0) refl (member_from least member parts.0) parts.1 is
      (first_is_lowest ((member.0).0 + 1) later object parts.1)

  lowest_absent : (group : List (ObjectId × ℕ)) (object : ObjectId) → is_group group ≡ true
      → first_absent sets group ≡ Some object → IsLowestAbsent sets group object
  unfolding is_group
  lowest_absent group object is first =
      (first_is_lowest 0 group object (and_parts (is_group_size (length group)) _ is).1 first).lowest

  -- where none is absent, all are shown
  shown_by : (member : ObjectId × ℕ) (later : List (ObjectId × ℕ)) (shown : Bool) → is_in_sets sets member.0 ≡ shown
      → option_map (λ (it : ObjectId × ℕ). it.0)
      (cond (not shown) (Some member) (find (λ (it : ObjectId × ℕ). not (is_in_sets sets it.0)) later)) ≡ None
      → (first_absent sets later ≡ None → AllShown sets later) → AllShown sets (member ∷ later)
  shown_by member later true shown none rest = (shown, rest none)
  shown_by member later false absent none rest = absurd (none-some member.0 (sym none))

  pub all_shown : (group : List (ObjectId × ℕ)) → first_absent sets group ≡ None → AllShown sets group
  all_shown [] none = tt
  all_shown (member ∷ later) none =
      shown_by member later (is_in_sets sets member.0) refl none (all_shown later)

-- what is absent has no entries, and is not of class COPY
pub none_shown : (sets : List SetOf) (object : ObjectId) → is_in_sets sets object ≡ false → entries_of object sets ≡ []
unfolding entries_of
none_shown [] object absent = refl
none_shown (set ∷ later) object absent =
    let both = or_parts ((set.object).0 == object.0) (is_in_sets later object) absent in
    ap (λ (test : Bool). cond test (histories set.entries) (entries_of object later)) both.0
    ∙ none_shown later object both.1

no_copy : (bounds : ℕ) → class_of bounds [] ≡ Copy → ⊥
unfolding class_of barrier_class greatest_of_kind candidates_of greatest
no_copy bounds is =
    by_tests (is_latest [] (object_base bounds []) && is_full bounds [] (object_base bounds []))
    (is_latest [] (object_base bounds [])) is
  where
    by_tests : (full latest : Bool)
        → cond full (Method (object_base bounds []))
        (cond latest (InlineMethod (object_base bounds [])) (Barrier (object_base bounds []).stamp)) ≡ Copy → ⊥
    by_tests true latest it = absurd cc
    by_tests false true it = absurd cc
    by_tests false false it = absurd cc

-- ---- agreement

agrees_is : (bounds : ℕ) (entries : List ObjectHistory) (stamp : Stamp) (group : List (ObjectId × ℕ))
    → agrees bounds entries stamp group ≡ true → Agrees bounds entries stamp group
agrees_is bounds entries stamp group test =
    let base : Candidate = object_base bounds entries in
    let parts = and_parts (is_latest entries base) _ test in
    let both = and_parts (same_stamp base.stamp stamp) (same_group base.group group) parts.1 in
    let equal : base.stamp ≡ stamp = equal_by_same_stamp base.stamp stamp both.0 in
    record {
      latest = sym equal ∙ equal_by_same_stamp base.stamp (latest_of entries) parts.0;
      base = equal;
      whole = (decides_group base.group group).0 both.1;
    }

agrees_test : (bounds : ℕ) (entries : List ObjectHistory) (stamp : Stamp) (group : List (ObjectId × ℕ))
    → Agrees bounds entries stamp group → agrees bounds entries stamp group ≡ true
agrees_test bounds entries stamp group is =
    let base : Candidate = object_base bounds entries in
    and_from _ _ (latest_test entries base (is.base ∙ is.latest))
    (and_from _ _
    (ap (λ (it : Stamp). same_stamp it stamp) is.base ∙ same_stamp-self stamp)
    ((decides_group base.group group).1 is.whole))

module _ (bounds : ℕ) (sets : List SetOf) (candidate : Candidate) where
  abbrev member_test : ObjectId × ℕ → Bool
  member_test member =
      agrees bounds (entries_of member.0 sets) (listed_stamp candidate member) candidate.group

  abbrev MemberAgrees : ObjectId × ℕ → Type 0
  MemberAgrees member =
      Agrees bounds (entries_of member.0 sets) (listed_stamp candidate member) candidate.group

  all_are : (members : List (ObjectId × ℕ)) → list_all member_test members ≡ true
      → AllByRecursion MemberAgrees members
  all_are [] test = tt
  all_are (member ∷ later) test =
      let parts = and_parts (member_test member) (list_all member_test later) test in (
        agrees_is bounds (entries_of member.0 sets) (listed_stamp candidate member) candidate.group parts.0,
        all_are later parts.1,
      )

  all_tested : (members : List (ObjectId × ℕ)) → AllByRecursion MemberAgrees members
      → list_all member_test members ≡ true
  all_tested [] are = refl
  all_tested (member ∷ later) are =
      and_from _ _
      (agrees_test bounds (entries_of member.0 sets) (listed_stamp candidate member) candidate.group are.0)
      (all_tested later are.1)

-- ---- what the rule makes of a class

module _ (bounds : ℕ) (sets : List SetOf) where
  pub inline_by : (Fact : Class → Type 0) (base : Candidate)
      → ((object : ObjectId) → first_absent sets base.group ≡ Some object → Fact (Needs object))
      → (first_absent sets base.group ≡ None → all_agree bounds sets base ≡ true → Fact (InlineMethod base))
      → (first_absent sets base.group ≡ None → all_agree bounds sets base ≡ false → Fact (Barrier base.stamp))
      → Fact (inline_class bounds sets base)
  unfolding inline_class
  inline_by Fact base absent agreed other =
      by_found (first_absent sets base.group) refl
    where
      by_test : first_absent sets base.group ≡ None → (test : Bool) → all_agree bounds sets base ≡ test
          → Fact (cond test (InlineMethod base) (Barrier base.stamp))
      by_test none true is = agreed none is
      by_test none false is = other none is

      by_found : (found : Option ObjectId) → first_absent sets base.group ≡ found
          → Fact (elim found [
            | Some object ↦ Needs object
            | None ↦ cond (all_agree bounds sets base) (InlineMethod base) (Barrier base.stamp)
          ])
      by_found (Some object) is = absent object is
      by_found None is = by_test is (all_agree bounds sets base) refl

  -- it makes no METHOD, no COPY and no INLINE_METHOD
  method_stays : (class : Class) (candidate : Candidate) → with_members bounds sets class ≡ Method candidate
      → class ≡ Method candidate
  unfolding with_members
  method_stays (Method base) candidate is = is
  method_stays (InlineMethod base) candidate is =
      inline_by (λ it. it ≡ Method candidate → InlineMethod base ≡ Method candidate) base
      (λ object first it. absurd cc) (λ none all it. it) (λ none some it. absurd cc) is
  method_stays Copy candidate is = is
  method_stays (InlineBarrier barrier) candidate is = is
  method_stays (Barrier prior) candidate is = is
  method_stays (Needs object) candidate is = is

  method_kept : (class : Class) (candidate : Candidate) → class ≡ Method candidate
      → with_members bounds sets class ≡ Method candidate
  unfolding with_members
  method_kept class candidate is = ap (with_members bounds sets) is

  copy_stays : (class : Class) → with_members bounds sets class ≡ Copy → class ≡ Copy
  unfolding with_members
  copy_stays (Method base) is = is
  copy_stays (InlineMethod base) is =
      inline_by (λ it. it ≡ Copy → InlineMethod base ≡ Copy) base
      (λ object first it. absurd cc) (λ none all it. it) (λ none some it. absurd cc) is
  copy_stays Copy is = is
  copy_stays (InlineBarrier barrier) is = is
  copy_stays (Barrier prior) is = is
  copy_stays (Needs object) is = is

  module _ (object : ObjectId) where
    abbrev entries : List ObjectHistory
    entries = entries_of object sets

    pub method_in_is : AreWellFormed bounds entries → (candidate : Candidate)
        → (class_in bounds sets object ≡ Method candidate) ↔ (method_at bounds entries ≡ Some candidate)
    unfolding class_in
    method_in_is formed candidate = (
      λ is. (method_is bounds entries formed candidate).0 (method_stays (class_of bounds entries) candidate is),
      λ is. method_kept (class_of bounds entries) candidate ((method_is bounds entries formed candidate).1 is),
    )

    pub copy_is_own : class_in bounds sets object ≡ Copy → class_of bounds entries ≡ Copy
    unfolding class_in
    copy_is_own is = copy_stays (class_of bounds entries) is

    -- the sets show what is of class COPY
    pub copy_in_sets : class_in bounds sets object ≡ Copy → is_in_sets sets object ≡ true
    copy_in_sets is = by_test (is_in_sets sets object) refl
      where
        by_test : (test : Bool) → is_in_sets sets object ≡ test → is_in_sets sets object ≡ true
        by_test true shown = shown
        by_test false absent =
            absurd (no_copy bounds
            (sym (ap (class_of bounds) (none_shown sets object absent)) ∙ copy_is_own is))

    tells_by : (class : Class) → IsClassOf bounds entries class → HasGroup class
        → IsClassIn bounds sets object (with_members bounds sets class)
    unfolding with_members
    tells_by (Method base) tells group = tells
    tells_by (InlineMethod base) tells group =
        inline_by (IsClassIn bounds sets object) base
        (λ absent first. (base, tells, lowest_absent sets base.group absent group first))
        (λ none agree. (tells, all_shown sets base.group none, all_are bounds sets base base.group agree))
        (λ none differ. inr (
          base,
          tells,
          refl,
          all_shown sets base.group none,
          λ agree. false≢true (sym differ ∙ all_tested bounds sets base base.group agree),
        ))
    tells_by Copy tells group = tells
    tells_by (InlineBarrier barrier) tells group = tells
    tells_by (Barrier prior) tells group = inl tells
    tells_by (Needs member) tells group = absurd tells

    -- what no group is asked for tells of the object's own histories
    abbrev pub OwnTells : Class → Type 0
    OwnTells (Method candidate) = IsClassOf bounds entries (Method candidate)
    OwnTells (InlineMethod candidate) = IsClassOf bounds entries (InlineMethod candidate)
    OwnTells Copy = IsClassOf bounds entries Copy
    OwnTells (InlineBarrier candidate) = IsClassOf bounds entries (InlineBarrier candidate)
    OwnTells (Barrier prior) = Unit {0}
    OwnTells (Needs member) = Unit {0}

    own_by : (class : Class) → IsClassOf bounds entries class → OwnTells (with_members bounds sets class)
    unfolding with_members
    own_by (Method base) tells = tells
    own_by (InlineMethod base) tells =
        inline_by OwnTells base (λ absent first. tt) (λ none agree. tells) (λ none differ. tt)
    own_by Copy tells = tells
    own_by (InlineBarrier barrier) tells = tells
    own_by (Barrier prior) tells = tt
    own_by (Needs member) tells = tt

    pub own_tells : AreWellFormed bounds entries → quorum bounds ≤ length entries
        → OwnTells (class_in bounds sets object)
    unfolding class_in
    own_tells formed enough = own_by (class_of bounds entries) (class_tells bounds entries formed enough)

    -- what the class says is so
    pub class_in_tells : AreWellFormed bounds entries → quorum bounds ≤ length entries
        → HasGroup (class_of bounds entries) → IsClassIn bounds sets object (class_in bounds sets object)
    unfolding class_in
    class_in_tells formed enough group =
        tells_by (class_of bounds entries) (class_tells bounds entries formed enough) group
