-- What a replica accepts on all objects of a group upon a request to mend one of them.
use Rattle.std.proofs.Common.{◌≡◌, ◌==◌, ℕ, Bool, true, false, cond, List, [], ◌∷◌, ◌++◌, map, length, Option, None, Some, inl, inr, refl, sym, ap, subst, ◌∙◌, ◌≤◌}
use Rattle.std.specs.Prelude.{find, option_map}
use Rattle.std.specs.List.{AllByRecursion, list_all}
use Rattle.std.proofs.lemmas.Bool.{false≢true, and_parts, eqb-true, eq-eqb}
use Rattle.qu_base.specs.Bounds.{quorum}
use Rattle.qu_base.specs.declared.party.ObjectId.{ObjectId}
use Rattle.qu_stamp.specs.declared.stamp.Stamp.{Stamp}
use Rattle.qu_stamp.specs.declared.candidate.Candidate.{Candidate}
use Rattle.qu_stamp.specs.Candidate.{member as member_on}
use Rattle.qu_stamp.specs.Group.{is_group}
use Rattle.qu_stamp.specs.Stamp.{is_below, same_stamp}
use Rattle.qu_stamp.proofs.Order.{equal_by_same_stamp}
use Rattle.qu_history.specs.Sets.{latest_of, entries_of}
use Rattle.qu_history.specs.declared.sets.SetOf.{SetOf}
use Rattle.qu_history.specs.Culling.{culled}
use Rattle.qu_class.specs.declared.class.Class.TheVariants.{InlineMethod}
use Rattle.qu_class.specs.Class.{agrees, is_latest, listed_stamp, class_in}
use Rattle.qu_class.specs.Repairable.{object_base}
use Rattle.qu_kept.specs.Remedy.{whole_group}
use Rattle.qu_mends.proofs.Members.{inline_joined, whole_is}
use Rattle.qu_frames.specs.declared.frame.Body.TheVariants as body
use Rattle.qu_frames.specs.declared.frame.Frame.TheVariants as frame
use Rattle.qu_base.specs.declared.party.ClientId.{ClientId}
use Rattle.qu_mends.specs.declared.accepted.Accepted.{Accepted}
use Rattle.qu_mends.specs.Table.{candidates_in}
use Rattle.qu_rows.specs.State.{ReplicaState, own_latest}
use Rattle.qu_objects.specs.declared.state.ObjState.{ObjState}
use Rattle.qu_rows.specs.Rows.{Asked, asked_at, shown_of, objects_of}
use Rattle.qu_rows.specs.Allowed.{MayAcceptAll}
use Rattle.qu_versions.specs.declared.stored.Stored.{Stored}
use Rattle.qu_fitting.specs.Holding.{accept_all, accepted_of, stored_if, stored_all}
use Rattle.qu_fitting.proofs.AcceptingAll.{accept_all-is, accepted_may, history_of}
use Rattle.qu_replica.specs.Growth.{HoldsAlike}
use Rattle.qu_claims.specs.Parts.{Names}
use Rattle.qu_claims.specs.Grounds.{Accepts, IsRemedy, stored_mended}
use Rattle.qu_grounds.proofs.ActAcceptance.{own_after, candidates_after}
use Rattle.qu_grounds.proofs.Together.{time_in, time_is, member_is}

-- what holds of each member holds of each object that they name
pub each_member : {X : Type 0} (P : ObjectId → Type 0) (group : List (ObjectId × X))
    → AllByRecursion (λ member. P member.0) group → (object : ObjectId) → Names group object → P object
each_member P [] all object names = absurd names
each_member P (member ∷ later) all object (inl same) = subst P same all.0
each_member P (member ∷ later) all object (inr named) = each_member P later all.1 object named

-- ---- what is accepted of each

module _ (candidates : ObjectId → Candidate) (versions : ObjectId → Option ObjState) where
  abbrev pub joined : ObjectId → Accepted
  joined object = record { object = object; candidate = candidates object; state = versions object }

  abbrev pub all_joined : List (ObjectId × ℕ) → List Accepted
  all_joined group = map (λ (member : ObjectId × ℕ). joined member.0) group

  of_member : (group : List (ObjectId × ℕ)) (object : ObjectId) → Names group object
      → accepted_of object (all_joined group) ≡ Some (joined object)
  of_member [] object names = absurd names
  of_member (member ∷ later) object names = by ((member.0).0 == object.0) refl names (of_member later object)
    where
      by : (test : Bool) → ((member.0).0 == object.0) ≡ test → Names (member ∷ later) object
          → (Names later object → accepted_of object (all_joined later) ≡ Some (joined object))
          → cond test (Some (joined member.0)) (accepted_of object (all_joined later)) ≡ Some (joined object)
      by true is names so_far = ap (λ (number : ℕ). Some (joined (record { 0 = number }))) (eqb-true _ _ is)
      by false is (inl same) so_far =
          absurd (false≢true (sym is ∙ eq-eqb _ _ (ap (λ (it : ObjectId). it.0) same)))
      by false is (inr named) so_far = so_far named

  of_no_member : (group : List (ObjectId × ℕ)) (object : ObjectId) → (Names group object → ⊥)
      → accepted_of object (all_joined group) ≡ None
  of_no_member [] object other = refl
  of_no_member (member ∷ later) object other =
      by ((member.0).0 == object.0) refl (of_no_member later object (λ named. other (inr named)))
    where
      by : (test : Bool) → ((member.0).0 == object.0) ≡ test → accepted_of object (all_joined later) ≡ None
          → cond test (Some (joined member.0)) (accepted_of object (all_joined later)) ≡ None
      by true is so_far = absurd (other (inl (ap (λ (number : ℕ). record { 0 = number }) (eqb-true _ _ is))))
      by false is so_far = so_far

  all_stored : (group : List (ObjectId × ℕ))
      → stored_all (all_joined group) ≡ stored_mended candidates versions (objects_of group)
  all_stored [] = refl
  all_stored (member ∷ later) =
      ap (λ (rest : List Stored). stored_if member.0 (candidates member.0).stamp (versions member.0) ++ rest)
      (all_stored later)

-- ---- what is added on a group

module _ (state : ReplicaState) (asked : Asked) (target : ObjectId) (group : List (ObjectId × ℕ))
    (candidates : ObjectId → Candidate) (versions : ObjectId → Option ObjState) where
  -- on an object
  pub record IsJoinedAt (object : ObjectId) : Type 0 where
    pub enough : quorum state.keys.bounds ≤ length (shown_of asked object)
    pub current : is_below (latest_of (shown_of asked object)) (own_latest state object) ≡ false
    pub above : is_below (own_latest state object) (candidates object).stamp ≡ true
    pub whole : (candidates object).group ≡ group
    pub remedy : IsRemedy state asked target object (candidates object) (versions object)

-- and on all of the group, which lists the stamp of each
pub record AddsGroup (state : ReplicaState) (asked : Asked) (target : ObjectId) (group : List (ObjectId × ℕ))
    (accepted : List Accepted) : Type 0 where
  pub candidates : ObjectId → Candidate
  pub versions : ObjectId → Option ObjState
  pub all : accepted ≡ all_joined candidates versions group
  pub each : (object : ObjectId) → Names group object → IsJoinedAt state asked target group candidates versions object
  pub listed : (object other : ObjectId) → Names group object → Names group other
      → member_on (candidates object) other ≡ Some (candidates other).stamp

-- the object candidates of these objects have the stamps that the group of the first lists
abbrev pub HaveListed : Candidate → (ObjectId → Candidate) → List (ObjectId × ℕ) → Type 0
HaveListed first base members = AllByRecursion (λ member. (base member.0).stamp ≡ listed_stamp first member) members

-- ---- the stamps that it lists

module _ (first : Candidate) (base : ObjectId → Candidate) where
  record HasListed (group : List (ObjectId × ℕ)) (object : ObjectId) : Type 0 where
    time : ℕ
    found : time_in object group ≡ Some time
    is : (base object).stamp ≡ record first.stamp { time = time }

  listed_of : (group : List (ObjectId × ℕ)) → HaveListed first base group → (object : ObjectId) → Names group object
      → HasListed group object
  listed_of [] stamps object names = absurd names
  listed_of (member ∷ later) stamps object names =
      by ((member.0).0 == object.0) refl names (listed_of later stamps.1 object)
    where
      by : (test : Bool) → ((member.0).0 == object.0) ≡ test → Names (member ∷ later) object
          → (Names later object → HasListed later object) → HasListed (member ∷ later) object
      by true is names rest = record {
        time = member.1;
        found = ap (λ (test : Bool). option_map (λ (it : ObjectId × ℕ). it.1)
            (cond test (Some member) (find (λ (it : ObjectId × ℕ). (it.0).0 == object.0) later))) is;
        is = subst (λ (it : ObjectId). (base it).stamp ≡ listed_stamp first member)
            (ap (λ (number : ℕ). record { 0 = number }) (eqb-true _ _ is)) stamps.0;
      }
      by false is (inl same) rest =
          absurd (false≢true (sym is ∙ eq-eqb _ _ (ap (λ (it : ObjectId). it.0) same)))
      by false is (inr named) rest = record {
        time = (rest named).time;
        found = ap (λ (test : Bool). option_map (λ (it : ObjectId × ℕ). it.1)
            (cond test (Some member) (find (λ (it : ObjectId × ℕ). (it.0).0 == object.0) later))) is
            ∙ (rest named).found;
        is = (rest named).is;
      }

  -- so each of them is a member of the others' groups
  pub members_listed : (group : List (ObjectId × ℕ)) → HaveListed first base group → (object other : ObjectId)
      → (base object).group ≡ group → Names group object → Names group other
      → member_on (base object) other ≡ Some (base other).stamp
  members_listed group stamps object other whole names besides =
      let here : HasListed group object = listed_of group stamps object names in
      let there : HasListed group other = listed_of group stamps other besides in
      member_is (base object) (record first.stamp { time = here.time }) group other there.time here.is whole
      (time_is other group ∙ there.found) ∙ ap (λ (it : Stamp). Some it) (sym there.is)

-- ---- what agrees has them

module _ (bounds : ℕ) (sets : List SetOf) where
  abbrev base_on : ObjectId → Candidate
  base_on object = object_base bounds (entries_of object sets)

  agreeing_stamps : (first : Candidate) (members : List (ObjectId × ℕ))
      → list_all (λ member. agrees bounds (entries_of member.0 sets) (listed_stamp first member) first.group) members
      ≡ true → HaveListed first base_on members
  agreeing_stamps first [] test = tt
  agreeing_stamps first (member ∷ later) test =
      let base : Candidate = base_on member.0 in
      let both = and_parts (agrees bounds (entries_of member.0 sets) (listed_stamp first member) first.group) _ test in
      let rest = and_parts (is_latest (entries_of member.0 sets) base) _ both.0 in
      let stamps = and_parts (same_stamp base.stamp (listed_stamp first member)) _ rest.1 in (
        equal_by_same_stamp base.stamp (listed_stamp first member) stamps.0,
        agreeing_stamps first later both.1,
      )

  -- the object candidates of the group that is added as it is
  pub group_stamps : (object : ObjectId) (candidate : Candidate) (member : ObjectId × ℕ) (later : List (ObjectId × ℕ))
      → class_in bounds sets object ≡ InlineMethod candidate → whole_group candidate.group ≡ member ∷ later
      → HaveListed candidate base_on (member ∷ later)
  group_stamps object candidate member later is group =
      subst (HaveListed candidate base_on) (whole_is candidate.group (is_group candidate.group) member later group)
      (agreeing_stamps candidate candidate.group (inline_joined bounds sets object candidate is).1)

-- ---- the request

module _ (state new : ReplicaState) (client : ClientId) (number round : ℕ) (sent : List SetOf) (mac : List ℕ)
    (target : ObjectId) (accepted : List Accepted) (may : MayAcceptAll state accepted)
    (is_new : HoldsAlike new (accept_all state accepted)) where
  abbrev asked : Asked
  asked = asked_at state client number sent (body.Mend target)

  pub adds_group : (member : ObjectId × ℕ) (later : List (ObjectId × ℕ))
      → AddsGroup state asked target (member ∷ later) accepted
      → Accepts state new (frame.Request client number round sent (body.Mend target) mac)
  adds_group member later made =
      let group : List (ObjectId × ℕ) = member ∷ later in
      let candidates : ObjectId → Candidate = made.candidates in
      let versions : ObjectId → Option ObjState = made.versions in
      record {
        client = client;
        number = number;
        round = round;
        sent = sent;
        sets = culled state.keys state.me sent;
        culls = refl;
        asks = body.Mend target;
        mac = mac;
        is_request = refl;
        group = group;
        candidates = candidates;
        added = λ object names.
            let one : Accepted =
            record { object = object; candidate = candidates object; state = versions object } in
            let found : accepted_of object accepted ≡ Some one =
            ap (accepted_of object) made.all ∙ of_member candidates versions group object names in
            own_after state new accepted may is_new object
            ∙ ap (λ (it : Option Accepted). candidates_in (history_of state.histories object it)) found
            ∙ candidates_after object.0 (candidates object) state.histories
            (accepted_may state object accepted one may found).known;
        others = λ object apart.
            own_after state new accepted may is_new object
            ∙ ap (λ (it : Option Accepted). candidates_in (history_of state.histories object it))
            (ap (accepted_of object) made.all ∙ of_no_member candidates versions group object apart);
        reasons = record {
          enough = λ object names. (made.each object names).enough;
          current = λ object names. (made.each object names).current;
          above = λ object names. (made.each object names).above;
          whole = λ object names. (made.each object names).whole;
          listed = made.listed;
          versions = versions;
          remedy = λ object names. (made.each object names).remedy;
          stored = is_new.versions ∙ ap (λ (it : ReplicaState). it.versions) (accept_all-is state accepted)
              ∙ ap (λ (it : List Accepted). state.versions ++ stored_all it) made.all
              ∙ ap (λ (it : List Stored). state.versions ++ it) (all_stored candidates versions group);
        };
      }
