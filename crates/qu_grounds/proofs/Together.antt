-- What one request adds on several objects is one group, which each of them has whole.
use Rattle.std.proofs.Common.{◌≡◌, ◌==◌, ℕ, Bool, true, false, cond, List, [], ◌∷◌, map, Option, None, Some, inl, inr, refl, sym, ap, ◌∙◌}
use Rattle.std.specs.Prelude.{find, option_map}
use Rattle.std.proofs.lemmas.Bool.{false≢true, eqb-true, eq-eqb}
use Rattle.std.proofs.lemmas.Option.{none-some, same_Some}
use Rattle.qu_base.specs.declared.party.ObjectId.{ObjectId}
use Rattle.qu_stamp.specs.declared.stamp.Stamp.{Stamp}
use Rattle.qu_stamp.specs.declared.candidate.Candidate.{Candidate}
use Rattle.qu_stamp.specs.Candidate.{member as member_on}
use Rattle.qu_stamp.specs.Group.{listed_time}
use Rattle.qu_stamp.proofs.Groups.{alone_has_no_member}
use Rattle.qu_objects.specs.declared.act.Method.{Method}
use Rattle.qu_frames.specs.declared.frame.Body.{Body}
use Rattle.qu_frames.specs.declared.frame.Body.TheVariants as body
use Rattle.qu_rows.specs.Rows.{Asked, fresh_stamp, fresh_group, objects_of}
use Rattle.qu_rows.specs.State.{ReplicaState}
use Rattle.qu_claims.specs.Grounds.{AddsTo, MendsOn, Reasons}
use Rattle.qu_claims.specs.Parts.{Names}
use Rattle.qu_claims.specs.Setting.{Apart}

-- ---- what a group lists

abbrev pub time_in : ObjectId → List (ObjectId × ℕ) → Option ℕ
time_in object group =
    option_map (λ (it : ObjectId × ℕ). it.1) (find (λ (it : ObjectId × ℕ). (it.0).0 == object.0) group)

pub time_is : (object : ObjectId) (group : List (ObjectId × ℕ)) → listed_time object group ≡ time_in object group
unfolding listed_time
time_is object group = refl

-- a group names what it lists
found_named : (group : List (ObjectId × ℕ)) (object : ObjectId) (time : ℕ) → time_in object group ≡ Some time
    → Names group object
found_named [] object time found = absurd (none-some time found)
found_named (member ∷ later) object time found =
    by ((member.0).0 == object.0) refl found (found_named later object time)
  where
    by : (test : Bool) → ((member.0).0 == object.0) ≡ test
        → option_map (λ (it : ObjectId × ℕ). it.1)
        (cond test (Some member) (find (λ (it : ObjectId × ℕ). (it.0).0 == object.0) later)) ≡ Some time
        → (time_in object later ≡ Some time → Names later object) → Names (member ∷ later) object
    by true is found rest = inl (ap (λ (number : ℕ). record { 0 = number }) (eqb-true _ _ is))
    by false is found rest = inr (rest found)

pub listed_named : (group : List (ObjectId × ℕ)) (object : ObjectId) (time : ℕ) → listed_time object group ≡ Some time
    → Names group object
listed_named group object time listed = found_named group object time (sym (time_is object group) ∙ listed)

-- of the objects of parts, each with its time, that of a part is found with its own
finds_part : {X : Type 0} (time : ObjectId → ℕ) (parts : List (ObjectId × X)) (object : ObjectId) → Names parts object
    → time_in object (map (λ (it : ObjectId). (it, time it)) (objects_of parts)) ≡ Some (time object)
finds_part time [] object names = absurd names
finds_part time (part ∷ later) object names =
    by ((part.0).0 == object.0) refl names (finds_part time later object)
  where
    by : (test : Bool) → ((part.0).0 == object.0) ≡ test → Names (part ∷ later) object
        → (Names later object
        → time_in object (map (λ (it : ObjectId). (it, time it)) (objects_of later)) ≡ Some (time object))
        → option_map (λ (it : ObjectId × ℕ). it.1) (cond test (Some (part.0, time part.0))
        (find (λ (it : ObjectId × ℕ). (it.0).0 == object.0)
        (map (λ (it : ObjectId). (it, time it)) (objects_of later)))) ≡ Some (time object)
    by true is names rest = ap (λ (number : ℕ). Some (time (record { 0 = number }))) (eqb-true _ _ is)
    by false is (inl same) rest = absurd (false≢true (sym is ∙ eq-eqb _ _ (ap (λ (it : ObjectId). it.0) same)))
    by false is (inr named) rest = rest named

lists_part : {X : Type 0} (time : ObjectId → ℕ) (parts : List (ObjectId × X)) (object : ObjectId) → Names parts object
    → listed_time object (map (λ (it : ObjectId). (it, time it)) (objects_of parts)) ≡ Some (time object)
lists_part time parts object names =
    time_is object (map (λ (it : ObjectId). (it, time it)) (objects_of parts)) ∙ finds_part time parts object names

-- and no other is listed
part_listed : {X : Type 0} (time : ObjectId → ℕ) (parts : List (ObjectId × X)) (object : ObjectId)
    → Names (map (λ (it : ObjectId). (it, time it)) (objects_of parts)) object → Names parts object
part_listed time [] object none = none
part_listed time (part ∷ later) object (inl same) = inl same
part_listed time (part ∷ later) object (inr named) = inr (part_listed time later object named)

-- ---- members

-- the member of a candidate with this stamp and this group
pub member_is : (candidate : Candidate) (stamp : Stamp) (group : List (ObjectId × ℕ)) (object : ObjectId) (time : ℕ)
    → candidate.stamp ≡ stamp → candidate.group ≡ group → listed_time object group ≡ Some time
    → member_on candidate object ≡ Some (record stamp { time = time })
unfolding member_on
member_is candidate stamp group object time stamps groups listed =
    ap (λ (it : List (ObjectId × ℕ)). option_map (λ (at : ℕ). record candidate.stamp { time = at })
    (listed_time object it)) groups
    ∙ ap (option_map (λ (at : ℕ). record candidate.stamp { time = at })) listed
    ∙ ap (λ (it : Stamp). Some (record it { time = time })) stamps

-- a member has a time in the group, and shares all else with the candidate
pub record IsMemberAt (candidate : Candidate) (object : ObjectId) (stamp : Stamp) : Type 0 where
  pub time : ℕ
  pub listed : listed_time object candidate.group ≡ Some time
  pub is : record candidate.stamp { time = time } ≡ stamp

pub member_at : (candidate : Candidate) (object : ObjectId) (stamp : Stamp) → member_on candidate object ≡ Some stamp
    → IsMemberAt candidate object stamp
unfolding member_on
member_at candidate object stamp is = by (listed_time object candidate.group) refl is
  where
    by : (found : Option ℕ) → listed_time object candidate.group ≡ found
        → option_map (λ (time : ℕ). record candidate.stamp { time = time }) found ≡ Some stamp
        → IsMemberAt candidate object stamp
    by None listed given = absurd (none-some stamp given)
    by (Some time) listed given = record {
      time = time;
      listed = listed;
      is = same_Some (record candidate.stamp { time = time }) stamp given;
    }

-- ---- the candidates of an act

module _ (asked : Asked) where
  abbrev time_on : ObjectId → ℕ
  time_on object = (fresh_stamp asked object).time

  fresh_lists : (parts : List (ObjectId × Method)) (object other : ObjectId) → Names parts object → Names parts other
      → Apart object other → listed_time other (fresh_group asked (objects_of parts)) ≡ Some (time_on other)
  fresh_lists [] object other names besides apart = absurd names
  fresh_lists (part ∷ []) object other (inl is) (inl also) apart =
      absurd (apart (ap (λ (it : ObjectId). it.0) (sym is ∙ also)))
  fresh_lists (part ∷ []) object other (inr none) besides apart = absurd none
  fresh_lists (part ∷ []) object other (inl is) (inr none) apart = absurd none
  fresh_lists (first ∷ second ∷ later) object other names besides apart =
      lists_part time_on (first ∷ second ∷ later) other besides

  pub fresh_listed : {X : Type 0} (parts : List (ObjectId × X)) (other : ObjectId) (time : ℕ)
      → listed_time other (fresh_group asked (objects_of parts)) ≡ Some time
      → Names parts other × (time_on other ≡ time)
  fresh_listed [] other time listed = absurd (listed_named [] other time listed)
  fresh_listed (part ∷ []) other time listed = absurd (listed_named [] other time listed)
  fresh_listed (first ∷ second ∷ later) other time listed =
      let named : Names (first ∷ second ∷ later) other =
      part_listed time_on (first ∷ second ∷ later) other
      (listed_named (fresh_group asked (objects_of (first ∷ second ∷ later))) other time listed) in
      (named, same_Some (time_on other) time (sym (lists_part time_on (first ∷ second ∷ later) other named) ∙ listed))

-- ---- what a request adds

module _ (old new : ReplicaState) (asked : Asked) (group : List (ObjectId × ℕ)) (candidates : ObjectId → Candidate)
  where
    -- what it adds on two objects has the stamps of one group
    pub added_together : (asks : Body) → Reasons old new asked asks group candidates → (object other : ObjectId)
        → AddsTo asks group object → AddsTo asks group other → Apart object other
        → member_on (candidates object) other ≡ Some (candidates other).stamp
    added_together (body.Act parts) reasons object other names besides apart =
        member_is (candidates object) (fresh_stamp asked object) (fresh_group asked (objects_of parts)) other
        (time_on asked other) (reasons.grounds object names).stamp (reasons.grounds object names).group
        (fresh_lists asked parts object other names besides apart)
        ∙ ap (λ (it : Stamp). Some it) (sym (reasons.grounds other besides).stamp)
    added_together (body.Ask parts) reasons object other never besides apart = absurd never
    added_together (body.Mend target) reasons object other mended besides apart =
        by_group group mended besides (reasons.listed object other)
      where
        by_group : (members : List (ObjectId × ℕ)) → MendsOn target members object → MendsOn target members other
            → (Names members object → Names members other
            → member_on (candidates object) other ≡ Some (candidates other).stamp)
            → member_on (candidates object) other ≡ Some (candidates other).stamp
        by_group [] is also listed = absurd (apart (ap (λ (it : ObjectId). it.0) (sym is ∙ also)))
        by_group (member ∷ later) named also listed = listed named also

    -- a member of what it adds is added too
    pub member_added : (asks : Body) → Reasons old new asked asks group candidates → (object : ObjectId)
        → AddsTo asks group object → (other : ObjectId) (stamp : Stamp)
        → member_on (candidates object) other ≡ Some stamp
        → AddsTo asks group other × ((candidates other).stamp ≡ stamp)
    member_added (body.Act parts) reasons object names other stamp is =
        let grounds = reasons.grounds object names in
        let it : IsMemberAt (candidates object) other stamp = member_at (candidates object) other stamp is in
        let listed : Names parts other × (time_on asked other ≡ it.time) =
        fresh_listed asked parts other it.time
        (ap (listed_time other) (sym grounds.group) ∙ it.listed) in (
          listed.0,
          (reasons.grounds other listed.0).stamp
              ∙ ap (λ (time : ℕ). record (fresh_stamp asked object) { time = time }) listed.1
              ∙ ap (λ (own : Stamp). record own { time = it.time }) (sym grounds.stamp) ∙ it.is,
        )
    member_added (body.Ask parts) reasons object never other stamp is = absurd never
    member_added (body.Mend target) reasons object mended other stamp is =
        by_group group mended (reasons.whole object mended) (reasons.listed object other)
      where
        by_group : (members : List (ObjectId × ℕ)) → MendsOn target members object
            → (candidates object).group ≡ members
            → (Names members object → Names members other
            → member_on (candidates object) other ≡ Some (candidates other).stamp)
            → MendsOn target members other × ((candidates other).stamp ≡ stamp)
        by_group [] mended whole listed =
            absurd (none-some stamp (sym (alone_has_no_member (candidates object) other whole) ∙ is))
        by_group (member ∷ later) named whole listed =
            let it : IsMemberAt (candidates object) other stamp = member_at (candidates object) other stamp is in
            let also : Names (member ∷ later) other =
            listed_named (member ∷ later) other it.time (ap (listed_time other) (sym whole) ∙ it.listed) in
            (also, same_Some (candidates other).stamp stamp (sym (listed named also) ∙ is))

    -- all that it adds has one group
    pub one_group : (asks : Body) → Reasons old new asked asks group candidates → (object other : ObjectId)
        → AddsTo asks group object → AddsTo asks group other → (candidates object).group ≡ (candidates other).group
    one_group (body.Act parts) reasons object other names besides =
        (reasons.grounds object names).group ∙ sym (reasons.grounds other besides).group
    one_group (body.Ask parts) reasons object other never besides = absurd never
    one_group (body.Mend target) reasons object other mended besides =
        reasons.whole object mended ∙ sym (reasons.whole other besides)
