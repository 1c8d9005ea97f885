-- What sets tell that a plan reads: the members of groups, what may be repaired, what is chosen or skipped, and the
-- versions that are read.
use Rattle.std.proofs.Common.{◌≡◌, ◌⊎◌, ◌≤◌, ◌+◌, ℕ, Bool, true, false, not, leb, cond, List, [], ◌∷◌, filter, find, length, Option, Some, None, refl, sym, ap, ◌∙◌, inl, inr, arith}
use Rattle.std.specs.Prelude.{◌==◌, filter_map, nat_le, option_map}
use Rattle.std.specs.List.{cons_option, list_any}
use Rattle.std.proofs.lemmas.Bool.{false≢true, cases_Bool, and_parts, and_from, or_cases, or_left, or_right, not-true, not_from_false, leb-true, le-leb, eqb-false, eq-eqb, ne_eqb}
use Rattle.std.proofs.lemmas.Option.{none-some, same_Some}
use Rattle.qu_base.specs.Bounds.{repair}
use Rattle.qu_base.specs.declared.party.ObjectId.{ObjectId}
use Rattle.qu_base.proofs.Items.{not_first}
use Rattle.qu_base.proofs.Numbered.{tested_object}
use Rattle.qu_stamp.specs.declared.stamp.Stamp.{Stamp}
use Rattle.qu_stamp.specs.declared.candidate.Candidate.{Candidate}
use Rattle.qu_stamp.specs.Stamp.{is_below}
use Rattle.qu_stamp.specs.Candidate.{same, member as member_on}
use Rattle.qu_stamp.specs.Group.{is_group_size, is_member_from, are_members_from, is_group}
use Rattle.qu_history.specs.declared.sets.SetOf.{SetOf}
use Rattle.qu_history.specs.Sets.{entries_of, order_of, candidates_of, method_at}
use Rattle.qu_class.proofs.Tested.{held_passes}
use Rattle.qu_class.specs.declared.class.Class.TheVariants.{Copy}
use Rattle.qu_plan.specs.Linked.{is_passed}
use Rattle.qu_plan.specs.Beside.{is_repairable}
use Rattle.qu_plan.specs.Chosen.{passes_over, is_passed_at, is_skipped, chosen_on}
use Rattle.qu_class.specs.Class.{is_in_sets, listed_stamp, class_in}
use Rattle.qu_plan.specs.Copying.{Names}
use Rattle.qu_plan.specs.Beside.{has_member, is_beside, reads, is_seen}
use Rattle.qu_plan.specs.Evidence.{seen_for, is_read, method_key, read_key, evidence_of}
use Rattle.qu_plan.specs.Linking.{Linking}
use Rattle.qu_class.specs.Rows.{AreWellFormed, MayBeRepaired}
use Rattle.qu_plan.proofs.Chosen.{any_of_entries, chosen_greatest, chosen_sound}
use Rattle.qu_plan.proofs.Versions.{no_method}
use Rattle.qu_plan.proofs.PlanEvidence.{any_seen}
use Rattle.qu_class.proofs.ClassRows.{copy_has_quorum}
use Rattle.qu_class.proofs.GroupRule.{copy_is_own, none_shown}
use Rattle.qu_class.proofs.OfKind.{held_if_repairable}
use Rattle.qu_grounds.proofs.Formed.{AreGrouped}
use Rattle.qu_grounds.proofs.Together.{time_in, time_is, listed_named, IsMemberAt, member_at, member_is}
use Rattle.qu_claims.specs.Setting.{Apart}

-- ---- what lists have

not_kept : {X : Type 0} (test : X → Bool) (item : X) (later : List X) → filter test (item ∷ later) ≡ []
    → (test item ≡ false) × (filter test later ≡ [])
not_kept test item later none = by (test item) refl none
  where
    by : (kept : Bool) → test item ≡ kept → cond kept (item ∷ filter test later) (filter test later) ≡ []
        → (test item ≡ false) × (filter test later ≡ [])
    by true is none = absurd (omega (arith, ap length none))
    by false is none = (is, none)

pub names_more : {X : Type 0} (first : Option (ObjectId × X)) (later : List (ObjectId × X)) (object : ObjectId)
    → Names later object → Names (cons_option first later) object
names_more None later object there = there
names_more (Some part) later object there = inr there

-- ---- the members of a group

abbrev pub is_on : ObjectId → ObjectId × ℕ → Bool
is_on object member = (member.0).0 == object.0

pub names_any : (members : List (ObjectId × ℕ)) (object : ObjectId) → Names members object
    → list_any (λ (member : ObjectId × ℕ). (member.0).0 == object.0) members ≡ true
names_any [] object none = absurd none
names_any (member ∷ later) object (inl same) =
    or_left ((member.0).0 == object.0) (list_any (is_on object) later)
    (eq-eqb (member.0).0 object.0 (ap (λ (it : ObjectId). it.0) same))
names_any (member ∷ later) object (inr there) =
    or_right ((member.0).0 == object.0) (list_any (is_on object) later) (names_any later object there)

-- a member of a candidate's group
pub member_has : (candidate : Candidate) (other : ObjectId) (stamp : Stamp) → member_on candidate other ≡ Some stamp
    → has_member other candidate ≡ true
member_has candidate other stamp is =
    let it : IsMemberAt candidate other stamp = member_at candidate other stamp is in
    names_any candidate.group other (listed_named candidate.group other it.time it.listed)

-- objects rise
behind : (least : ℕ) (members : List (ObjectId × ℕ)) → are_members_from least members ≡ true → (object : ObjectId)
    → Names members object → least ≤ object.0
unfolding are_members_from
behind least [] rise object none = absurd none
behind least (member ∷ later) rise object (inl same) =
    let both = and_parts (is_member_from least member) (are_members_from ((member.0).0 + 1) later) rise in
    let from : least ≤ (member.0).0 = leb-true least (member.0).0 (and_parts (nat_le least (member.0).0) _ both.0).0 in
    let here : (member.0).0 ≡ object.0 = ap (λ (it : ObjectId). it.0) same in
    omega (arith, from, here)
behind least (member ∷ later) rise object (inr there) =
    let both = and_parts (is_member_from least member) (are_members_from ((member.0).0 + 1) later) rise in
    let from : least ≤ (member.0).0 = leb-true least (member.0).0 (and_parts (nat_le least (member.0).0) _ both.0).0 in
    let rest : (member.0).0 + 1 ≤ object.0 = behind ((member.0).0 + 1) later both.1 object there in
    omega (arith, from, rest)

-- a member that passes, which is the one that the list has on its object
pub record IsPicked (test : ObjectId × ℕ → Bool) (members : List (ObjectId × ℕ)) : Type 0 where
  pub member : ObjectId × ℕ
  pub passes : test member ≡ true
  pub named : Names members member.0
  pub listed : time_in member.0 members ≡ Some member.1

pub picked : (test : ObjectId × ℕ → Bool) (least : ℕ) (members : List (ObjectId × ℕ))
    → are_members_from least members ≡ true → list_any test members ≡ true → IsPicked test members
unfolding are_members_from
picked test least [] rise some = absurd (false≢true some)
picked test least (member ∷ later) rise some =
    let both = and_parts (is_member_from least member) (are_members_from ((member.0).0 + 1) later) rise in
    elim (or_cases (test member) (list_any test later) some) [
      | inl here ↦ record {
        member = member;
        passes = here;
        named = inl refl;
        listed = ap (λ (own : Bool). time_by own member (find (is_on member.0) later))
            (eq-eqb (member.0).0 (member.0).0 refl);
      }
      | inr there ↦
          let it : IsPicked test later = picked test ((member.0).0 + 1) later both.1 there in
          let above : (member.0).0 + 1 ≤ (it.member.0).0 =
          behind ((member.0).0 + 1) later both.1 it.member.0 it.named in
          record {
            member = it.member;
            passes = it.passes;
            named = inr it.named;
            listed = ap (λ (own : Bool). time_by own member (find (is_on it.member.0) later))
                (ne_eqb (member.0).0 (it.member.0).0 (λ same. apart above same))
                ∙ it.listed;
          }
    ]
  where
    time_by : Bool → ObjectId × ℕ → Option (ObjectId × ℕ) → Option ℕ
    time_by own first rest = option_map (λ (it : ObjectId × ℕ). it.1) (cond own (Some first) rest)

    apart : {number other : ℕ} → number + 1 ≤ other → number ≡ other → ⊥
    apart above same = omega (arith, above, same)

-- where nothing is found, what the list has on an object does not pass
pub none_at : (test : ObjectId × ℕ → Bool) (members : List (ObjectId × ℕ)) → find test members ≡ None
    → (object : ObjectId) (time : ℕ) → time_in object members ≡ Some time → test (object, time) ≡ false
none_at test [] none object time listed = absurd (none-some time listed)
none_at test (member ∷ later) none object time listed =
    let both : (test member ≡ false) × (find test later ≡ None) =
    not_first (test member) member (find test later) none in
    by ((member.0).0 == object.0) refl listed both.0 (none_at test later both.1 object time)
  where
    by : (here : Bool) → ((member.0).0 == object.0) ≡ here
        → option_map (λ (it : ObjectId × ℕ). it.1) (cond here (Some member) (find (is_on object) later)) ≡ Some time
        → test member ≡ false → (time_in object later ≡ Some time → test (object, time) ≡ false)
        → test (object, time) ≡ false
    by true is given fails rest =
        let same : member.0 ≡ object = tested_object member.0 object is in
        let times : member.1 ≡ time = same_Some member.1 time given in
        let pair : member ≡ (object, time) = λ i. (same i, times i) in
        ap test (sym pair) ∙ fails
    by false is given fails rest = rest given

-- ---- what sets show

module _ (bounds : ℕ) (sets : List SetOf) where
  -- what may be repaired, as a test and as a fact
  pub may_of_shown : (object : ObjectId) (candidate : Candidate) → is_repairable bounds sets object candidate ≡ true
      → MayBeRepaired bounds (entries_of object sets) false candidate
  may_of_shown object candidate shown =
      let parts = and_parts (not candidate.stamp.barrier)
      (leb (repair bounds) (order_of candidate (entries_of object sets))) shown in
      record {
        kind = not-true candidate.stamp.barrier parts.0;
        order = leb-true (repair bounds) (order_of candidate (entries_of object sets)) parts.1;
      }

  pub shown_of_may : (object : ObjectId) (candidate : Candidate)
      → MayBeRepaired bounds (entries_of object sets) false candidate
      → is_repairable bounds sets object candidate ≡ true
  shown_of_may object candidate may =
      and_from (not candidate.stamp.barrier) (leb (repair bounds) (order_of candidate (entries_of object sets)))
      (not_from_false candidate.stamp.barrier may.kind)
      (le-leb (repair bounds) (order_of candidate (entries_of object sets)) may.order)

  method_in_sets : (object : ObjectId) (version : Candidate) → method_at bounds (entries_of object sets) ≡ Some version
      → is_in_sets sets object ≡ true
  method_in_sets object version is = elim (cases_Bool (is_in_sets sets object)) [
    | inl there ↦ there
    | inr absent ↦
        absurd (none-some version (sym (no_method bounds)
        ∙ ap (method_at bounds) (sym (none_shown sets object absent)) ∙ is))
  ]

  -- ---- what is read

  -- the objects of the group of what may be repaired are read
  pub reads_member : (over other : ObjectId) (candidate : Candidate) → AreWellFormed bounds (entries_of over sets)
      → is_repairable bounds sets over candidate ≡ true → has_member other candidate ≡ true
      → reads bounds sets over other ≡ true
  unfolding reads
  reads_member over other candidate formed shown has =
      sym (any_of_entries (is_beside bounds sets over other) (entries_of over sets))
      ∙ held_passes (is_beside bounds sets over other) candidate (candidates_of (entries_of over sets))
      (held_if_repairable bounds (entries_of over sets) formed candidate (may_of_shown over candidate shown).order)
      (and_from (has_member other candidate) (is_repairable bounds sets over candidate) has shown)

  -- what is read over an object that is seen is read
  pub read_from : (target over other : ObjectId) → is_in_sets sets over ≡ true → is_seen bounds sets target over ≡ true
      → reads bounds sets over other ≡ true → is_read bounds sets target other ≡ true
  unfolding is_read seen_for
  read_from target over other there seen read =
      any_seen bounds sets target over (λ (it : ObjectId). reads bounds sets it other) sets there seen read

  -- ---- of what is read nothing is missing

  kept_key : (missing : ObjectId × Stamp → Bool) (key : ObjectId → Option (ObjectId × Stamp)) (members : List SetOf)
      → filter missing (filter_map (λ (set : SetOf). key set.object) members) ≡ []
      → (object : ObjectId) (is : ObjectId × Stamp) → is_in_sets members object ≡ true → key object ≡ Some is
      → missing is ≡ false
  kept_key missing key [] none object is there given = absurd (false≢true there)
  kept_key missing key (set ∷ later) none object is there given =
      elim (or_cases ((set.object).0 == object.0) (is_in_sets later object) there) [
        | inl here ↦ first (key set.object) none (ap key (tested_object set.object object here) ∙ given)
        | inr further ↦ kept_key missing key later (rest (key set.object) none) object is further given
      ]
    where
      later_keys : List (ObjectId × Stamp)
      later_keys = filter_map (λ (set : SetOf). key set.object) later

      first : (found : Option (ObjectId × Stamp)) → filter missing (cons_option found later_keys) ≡ []
          → found ≡ Some is → missing is ≡ false
      first None none found = absurd (none-some is found)
      first (Some it) none found = ap missing (sym (same_Some it is found)) ∙ (not_kept missing it later_keys none).0

      rest : (found : Option (ObjectId × Stamp)) → filter missing (cons_option found later_keys) ≡ []
          → filter missing later_keys ≡ []
      rest None none = none
      rest (Some it) none = (not_kept missing it later_keys none).1

  pub read_known : (missing : ObjectId × Stamp → Bool) (target object : ObjectId) (version : Candidate)
      → filter missing (evidence_of bounds sets target) ≡ [] → is_read bounds sets target object ≡ true
      → method_at bounds (entries_of object sets) ≡ Some version → missing (object, version.stamp) ≡ false
  unfolding evidence_of
  read_known missing target object version none read is =
      kept_key missing (read_key bounds sets target) sets none object (object, version.stamp)
      (method_in_sets object version is)
      (ap (λ (test : Bool). cond test (method_key bounds sets object) None) read
      ∙ ap (option_map (λ (it : Candidate). (object, it.stamp))) is)

-- ---- what is chosen

module _ (bounds : ℕ) (sets : List SetOf) (link : Linking) where
  abbrev pub chosen_at : ObjectId → Candidate
  chosen_at object = chosen_on bounds sets link object

  pub chosen_may : (object : ObjectId) → AreWellFormed bounds (entries_of object sets)
      → class_in bounds sets object ≡ Copy → MayBeRepaired bounds (entries_of object sets) false (chosen_at object)
  chosen_may object formed copy =
      chosen_sound bounds sets link object formed
      (copy_has_quorum bounds (entries_of object sets) (copy_is_own bounds sets object copy))

  -- a member of the candidate's group was passed over on another object
  pub record IsSkippedAt (object : ObjectId) (candidate : Candidate) : Type 0 where
    pub other : ObjectId
    pub stamp : Stamp
    pub version : Candidate
    pub apart : Apart object other
    pub is_member : member_on candidate other ≡ Some stamp
    pub is_method : method_at bounds (entries_of other sets) ≡ Some version
    pub above : is_below stamp version.stamp ≡ true
    pub passed : (own : Stamp) → link other version.stamp object ≡ Some own → is_below own stamp ≡ true

  skipped_at : (object : ObjectId) (candidate : Candidate) → is_group candidate.group ≡ true
      → is_skipped bounds sets link object candidate ≡ true → IsSkippedAt object candidate
  unfolding is_skipped is_group passes_over is_passed
  skipped_at object candidate whole skipped =
      let it : IsPicked (is_passed_at bounds sets link object candidate) candidate.group =
      picked (is_passed_at bounds sets link object candidate) 0 candidate.group
      (and_parts (is_group_size (length candidate.group)) (are_members_from 0 candidate.group) whole).1 skipped in
      let both = and_parts (not ((it.member.0).0 == object.0))
      (passes_over link object it.member.0 (listed_stamp candidate it.member)
      (method_at bounds (entries_of it.member.0 sets))) it.passes in
      by_method it.member.0 (listed_stamp candidate it.member)
      (λ same. eqb-false (it.member.0).0 object.0 (not-true ((it.member.0).0 == object.0) both.0) (sym same))
      (member_is candidate candidate.stamp candidate.group it.member.0 it.member.1 refl refl
      (time_is it.member.0 candidate.group ∙ it.listed))
      (method_at bounds (entries_of it.member.0 sets)) refl both.1
    where
      by_method : (other : ObjectId) (stamp : Stamp) → Apart object other → member_on candidate other ≡ Some stamp
          → (found : Option Candidate) → method_at bounds (entries_of other sets) ≡ found
          → passes_over link object other stamp found ≡ true → IsSkippedAt object candidate
      by_method other stamp apart is_member None is passes = absurd (false≢true passes)
      by_method other stamp apart is_member (Some version) is passes =
          let both = and_parts (is_below stamp version.stamp) (is_passed stamp (link other version.stamp object)) passes
          in
          record {
            other = other;
            stamp = stamp;
            version = version;
            apart = apart;
            is_member = is_member;
            is_method = is;
            above = both.0;
            passed = λ own given. sym (ap (is_passed stamp) given) ∙ both.1;
          }

  -- what is chosen is not below what may be repaired, unless that is skipped
  pub not_below_chosen : (object : ObjectId) → AreWellFormed bounds (entries_of object sets)
      → AreGrouped (entries_of object sets) → (other : Candidate) → is_repairable bounds sets object other ≡ true
      → (is_below (chosen_at object).stamp other.stamp ≡ false) ⊎ IsSkippedAt object other
  not_below_chosen object formed grouped other shown =
      let may : MayBeRepaired bounds (entries_of object sets) false other =
      may_of_shown bounds sets object other shown in
      elim (cases_Bool (is_below (chosen_at object).stamp other.stamp)) [
        | inl above ↦
            inr (skipped_at object other
            (grouped other (held_if_repairable bounds (entries_of object sets) formed other may.order)).whole
            (chosen_greatest bounds sets link object formed other may above))
        | inr not_below ↦ inl not_below
      ]
