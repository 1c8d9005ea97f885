-- What an event stores with the candidates that it makes a replica accept: their versions, where what the replica finds
-- is that of its stamps.
use Rattle.std.proofs.Common.{◌≡◌, ℕ, ◌+◌, ◌<◌, ◌≤◌, true, false, List, length, Some, inl, inr, refl, sym, ap, subst, ◌∙◌, arith, Option, not, None, ◌++◌, is_some}
use Rattle.std.specs.List.{AllByRecursion}
use Rattle.std.proofs.lemmas.Bool.{false≢true}
use Rattle.qu_base.specs.declared.party.ObjectId.{ObjectId}
use Rattle.qu_stamp.specs.declared.candidate.Candidate.{Candidate}
use Rattle.qu_stamp.specs.Stamp.{is_below, opening_stamp}
use Rattle.qu_stamp.specs.Candidate.{opening}
use Rattle.qu_stamp.proofs.Order.{is_below-self, is_below_by_time}
use Rattle.qu_history.specs.History.{ObjectHistory}
use Rattle.qu_history.specs.Sets.{entries_of, method_at}
use Rattle.qu_objects.specs.declared.state.ObjState.{ObjState}
use Rattle.qu_kept.specs.Performing.{copied_state}
use Rattle.qu_frames.specs.declared.frame.Body.TheVariants as body
use Rattle.qu_rows.specs.State.{ReplicaState}
use Rattle.qu_fitting.specs.Holding.{stored_if}
use Rattle.qu_versions.specs.Versions.{version_at}
use Rattle.qu_trace.specs.declared.trace.Entry.{Entry}
use Rattle.qu_trace.specs.declared.trace.Trace.{Trace}
use Rattle.qu_world.specs.Run.{IsRun}
use Rattle.qu_rows.specs.Rows.{asked_of, Asked, objects_of}
use Rattle.qu_chain.specs.Laws.{Laws}
use Rattle.qu_chain.specs.Joint.{Joint}
use Rattle.qu_claims.specs.Groups.{IsOneAct}
use Rattle.qu_stamp.specs.declared.stamp.Stamp.{Stamp}
use Rattle.qu_accepts.proofs.Handled.{made_for}
use Rattle.qu_claims.specs.Handled.{IsHandled}
use Rattle.qu_claims.specs.Parts.{Names}
use Rattle.qu_claims.specs.Grounds.{IsGround, Accepts, Performs, IsRemedy, made_stamp, Mends, MendsOn, mended_objects, stored_mended}
use Rattle.qu_claims.specs.Times.{world_after}
use Rattle.qu_claims.specs.Updates.{IsEverAccepted}
use Rattle.qu_claims.specs.Values.{HasVersion}
use Rattle.qu_claims.specs.RunSetting.{setting}
use Rattle.qu_runs.specs.Plain.{ArePlain}
use Rattle.qu_laws.proofs.KeptEntries.{base_accepted as accepted_of_base}
use Rattle.qu_grounds.proofs.Grounds.{above_base}
use Rattle.qu_claims.specs.Truth.{IsVersionOf}
use Rattle.qu_values.proofs.Updating.Updates.{same_accepted}
use Rattle.qu_values.proofs.Versions.EverAccepted.{once_accepted, quorum_ever}
use Rattle.qu_history.specs.declared.sets.SetOf.{SetOf}
use Rattle.qu_claims.specs.Carried.{handed}
use Rattle.qu_frames.specs.declared.frame.Frame.{Frame}
use Rattle.qu_chain.proofs.Parents.{parent}
use Rattle.qu_history.proofs.Method.{method_at_plain}
use Rattle.qu_objects.specs.declared.act.Method.{Method}
use Rattle.qu_chain.proofs.Ancestry.{some-later, accepted_by_attested}
use Rattle.qu_base.specs.declared.party.Digest.{Digest}
use Rattle.std.proofs.Common.{[], ◌∷◌}
use Rattle.std.proofs.lemmas.Bool.{cases_eq}
use Rattle.qu_history.specs.History.{holds}
use Rattle.qu_history.proofs.Rising.{holds_pushed}
use Rattle.qu_rows.specs.State.{own_candidates}
use Rattle.qu_claims.specs.Setting.{IsNew}
use Rattle.qu_accepts.proofs.Handled.{handled}
use Rattle.qu_claims.specs.Grounds.{Reasons, AddsTo, IsDelivered}
use Rattle.qu_grounds.proofs.Parts.{Lists}
use Rattle.qu_laws.proofs.Laws.{new_accepted}
use Rattle.qu_values.proofs.Versions.EverAccepted.{held_accepted, held_ever}
use Rattle.qu_frames.specs.declared.frame.Body.{Body}
use Rattle.qu_versions.specs.declared.stored.Stored.{Stored}
use Rattle.std.proofs.lemmas.List.{drop_at}
use Rattle.std.specs.Prelude.{drop}
use Rattle.qu_claims.specs.Grounds.{stored_of}
use Rattle.qu_claims.specs.Handling.{Handles}
use Rattle.qu_claims.specs.Grounds.{IsDelivered}
use Rattle.qu_accepts.proofs.Handled.{culls_so}
use Rattle.qu_accepts.proofs.Handling.{mid_bounds}
use Rattle.qu_accepts.proofs.StoredSo.{AreSo, AreAdded}
use Rattle.qu_accepts.proofs.KnownObjects.{delivered_known}
use Rattle.std.proofs.lemmas.Option.{get_or_from_slice_get}

-- what is among the objects that are mended is mended
listed_named : {X : Type 0} (parts : List (ObjectId × X)) (object : ObjectId) → Lists (objects_of parts) object
    → Names parts object
listed_named [] object never = never
listed_named (part ∷ later) object (inl same) = inl same
listed_named (part ∷ later) object (inr there) = inr (listed_named later object there)

listed_mended : (target : ObjectId) (group : List (ObjectId × ℕ)) (object : ObjectId)
    → Lists (mended_objects target group) object → MendsOn target group object
listed_mended target [] object (inl same) = same
listed_mended target [] object (inr never) = absurd never
listed_mended target (member ∷ later) object listed = listed_named (member ∷ later) object listed

-- the version of the stamp of an accepted candidate is that of the candidate
pub version_of_stamp : (trace : Trace) → Laws (setting trace) → Joint (setting trace) → (count : ℕ)
    → count ≤ length trace.entries → (object : ObjectId) (candidate : Candidate) (version : ObjState)
    → IsEverAccepted trace object candidate → IsVersionOf trace count object candidate.stamp version
    → HasVersion trace object candidate version
version_of_stamp trace laws joint count within object candidate version ever it =
    subst (λ (its : Candidate). HasVersion trace object its version)
    (same_accepted trace laws joint object it.candidate candidate
    (once_accepted trace laws count within object it.candidate it.accepted) ever it.under) it.has

-- what was the version of a stamp still is
pub later_of_stamp : (trace : Trace) → Laws (setting trace) → (early late : ℕ) → early ≤ late → (object : ObjectId)
    (stamp : Stamp) (version : ObjState) → IsVersionOf trace early object stamp version
    → IsVersionOf trace late object stamp version
later_of_stamp trace laws early late order object stamp version it = record {
  candidate = it.candidate;
  under = it.under;
  plain = it.plain;
  accepted = some-later (setting trace) laws.lasting early late order object it.candidate it.accepted;
  has = it.has;
}

-- all that the replica finds are versions of their stamps
abbrev pub AreOfStamps : (trace : Trace) → Laws (setting trace) → ℕ → ReplicaState → Type 0
AreOfStamps trace laws count state = AreSo trace (IsVersionOf trace) (later_of_stamp trace laws) count state

-- what is added to its versions are those of their stamps
abbrev pub AddsOfStamps : (trace : Trace) → Laws (setting trace) → ℕ → ReplicaState → ReplicaState → Type 0
AddsOfStamps trace laws count old new = AreAdded trace (IsVersionOf trace) (later_of_stamp trace laws) count old new

-- ---- lists of versions

-- what stands behind the same is the same
pub same_behind : (before more other : List Stored) → before ++ more ≡ before ++ other → more ≡ other
same_behind before more other same =
    sym (drop_at before more (length before) refl) ∙ ap (drop (length before)) same
    ∙ drop_at before other (length before) refl

-- ---- what accepted candidates are made of

pub plain_of_method : (trace : Trace) (bounds : ℕ) (entries : List ObjectHistory) (base : Candidate)
    → method_at bounds entries ≡ Some base → (setting trace).plain base ≡ true
unfolding setting
plain_of_method trace bounds entries base is = ap not (method_at_plain bounds entries base is)

module _ (trace : Trace) (laws : Laws (setting trace)) (joint : Joint (setting trace)) (is_run : IsRun trace)
    (have : ArePlain trace) (count : ℕ) (below : count < length trace.entries) (place : ℕ) (old new : ReplicaState)
    (handles : Handles trace count place old new) (one : Accepts handles.mid new handles.carried)
    (before : AreOfStamps trace laws count handles.mid) where
  abbrev mid : ReplicaState
  mid = handles.mid

  within : count ≤ length trace.entries
  within = omega (arith, below)

  abbrev delivered_on : (object : ObjectId) → AddsTo one.asks one.group object
      → IsDelivered trace count place old new object
  delivered_on object adds = record { handles = handles; accepts = one; adds = adds }

  now_new : (object : ObjectId) → AddsTo one.asks one.group object
      → IsNew (setting trace) count object place (one.candidates object)
  now_new object adds = new_accepted trace is_run have count below place old new object (delivered_on object adds)

  now_held : (object : ObjectId) → AddsTo one.asks one.group object
      → holds (one.candidates object) (own_candidates new object) ≡ true
  now_held object adds =
      ap (holds (one.candidates object)) (one.added object adds)
      ∙ holds_pushed (one.candidates object) (own_candidates mid object)

  now_accepted : (object : ObjectId) → AddsTo one.asks one.group object
      → IsEverAccepted trace object (one.candidates object)
  now_accepted object adds =
      held_ever trace laws (count + 1) (omega (arith, below)) place new handles.is_new object (one.candidates object)
      (now_held object adds)

  -- what one event adds is one act
  companions : (object other : ObjectId) → AddsTo one.asks one.group object → AddsTo one.asks one.group other
      → IsOneAct (setting trace) object other (one.candidates object) (one.candidates other)
  companions object other adds besides =
      elim (cases_eq object.0 other.0) [
        | inl same ↦
            let objects : object ≡ other = λ i. record { 0 = same i } in
            inl (objects, ap one.candidates objects)
        | inr apart ↦ inr (record {
          apart = apart;
          is_member = joint.together count object other place place (one.candidates object) (one.candidates other)
              apart (now_new object adds) (now_new other besides);
        })
      ]

  -- the version that the replica finds under the stamp of an accepted candidate is that candidate's
  version_under : (object : ObjectId) (base : Candidate) → IsEverAccepted trace object base → (version : ObjState)
      → version_at object base.stamp mid.versions ≡ Some version → HasVersion trace object base version
  version_under object base ever version found =
      version_of_stamp trace laws joint count within object base version ever
      (before object base.stamp version found)

  -- ---- of an act

  module _ (parts : List (ObjectId × Method)) (is : one.asks ≡ body.Act parts)
      (performs : Performs mid new (asked_of one.client one.number one.sets (body.Act parts)) parts one.candidates)
    where
      adds_part : (object : ObjectId) → Names parts object → AddsTo one.asks one.group object
      adds_part object names = subst (λ (asks : Body). AddsTo asks one.group object) (sym is) names

      was_handled : (object : ObjectId) → Names parts object → IsHandled trace one.client one.number parts
      was_handled object names =
          handled trace is_run count below place old new object (delivered_on object (adds_part object names)) parts is

      -- a quorum showed the base, so it was accepted
      base_accepted : (object : ObjectId) → Names parts object → IsEverAccepted trace object (performs.bases object)
      base_accepted object names =
          let adds : AddsTo one.asks one.group object = adds_part object names in
          quorum_ever trace laws handles.since (omega (arith, within, handles.came)) object (performs.bases object)
          (accepted_of_base trace is_run have handles.since (omega (arith, below, handles.came)) handles.entry place
          handles.receiver handles.is_receiver handles.text
          (ap (λ (it : Entry). handed (world_after trace handles.since) it.event)
          (get_or_from_slice_get trace.entries handles.since handles.entry handles.entry handles.is_entry)
          ∙ handles.is_handed) one.client one.number one.round one.sent one.asks one.mac
          (handles.brings ∙ ap (λ (it : Frame). Some it) one.is_request)
          (delivered_known trace count place old new object (delivered_on object adds)) object (performs.bases object)
          (ap (λ (sets : List SetOf). method_at trace.setup.bounds (entries_of object sets))
          (culls_so trace is_run count below place old new object (delivered_on object adds))
          ∙ ap (λ (bounds : ℕ). method_at bounds (entries_of object one.sets))
          (sym (mid_bounds trace count place old new handles))
          ∙ (performs.grounds object names).method))

      -- the version that the replica stores under the stamp of the base is that of the base
      base_version : (object : ObjectId) → Names parts object
          → HasVersion trace object (performs.bases object) ((performs.performed).befores object)
      base_version object names =
          version_under object (performs.bases object) (base_accepted object names)
          ((performs.performed).befores object) ((performs.performed).of_bases object names)

      -- what the act makes of them is the version of what is accepted
      act_has : (object : ObjectId) → Names parts object
          → HasVersion trace object (one.candidates object) (performs.versions object)
      act_has object names =
          let candidate : Candidate = one.candidates object in
          let grounds : IsGround mid (asked_of one.client one.number one.sets (body.Act parts)) (objects_of parts)
          object candidate (performs.bases object) = performs.grounds object names in
          HasVersion.of_update object candidate
          (record { client = one.client; number = one.number; parts = parts }) performs.bases
          (performs.performed).befores (λ other. (performs.versions other).value) (performs.versions object)
          (ap (λ (it : Stamp). is_below it candidate.stamp) grounds.prior ∙ above_base grounds)
          (record {
            made = made_for trace mid new one.client one.number one.sets parts one.candidates object performs names
                candidate refl (was_handled object names);
            names = names;
          })
          (λ other besides. record {
            companion = one.candidates other;
            is_companion = companions object other (adds_part object names) (adds_part other besides);
            accepted = now_accepted other (adds_part other besides);
            prior = (performs.grounds other besides).prior;
            base_accepted = base_accepted other besides;
          })
          base_version (performs.performed).values ((performs.performed).afters object names)
          (performs.performed).lower

  -- ---- of a repair

  -- the version of a copy is made of that of its prior
  copy_has : (target : ObjectId) (copy : Candidate) (its : ObjState)
      → (setting trace).plain copy ≡ true → (setting trace).is_act copy ≡ false → IsEverAccepted trace target copy
      → is_below opening.stamp copy.stamp ≡ true → version_at target copy.prior mid.versions ≡ Some its
      → HasVersion trace target copy (copied_state target copy its)
  copy_has target copy its plain no_act ever above found =
      elim (parent (setting trace) laws (setting trace).last (omega arith) target copy ever plain) [
        | inl begins ↦
            absurd (false≢true (sym (is_below-self opening.stamp)
            ∙ ap (λ (it : Candidate). is_below opening.stamp it.stamp) (sym begins) ∙ above))
        | inr upon ↦
            let base : Candidate = (upon.link).base in
            let first : upon.first.time < (setting trace).last = (upon.first).within in
            let base_ever : IsEverAccepted trace target base =
            some-later (setting trace) laws.lasting upon.first.time (setting trace).last (omega (arith, first)) target
            base (accepted_by_attested (setting trace) laws.lasting upon.first.time target base (upon.link).attested) in
            HasVersion.of_copy target copy base its (copied_state target copy its)
            (ap (λ (it : Stamp). is_below it copy.stamp) (upon.link).prior ∙ (upon.link).below) plain no_act
            (upon.link).prior base_ever
            (version_under target base base_ever its
            (ap (λ (it : Stamp). version_at target it mid.versions) (sym (upon.link).prior) ∙ found)) refl
      ]

  -- so is that of a copy which the replica makes
  copied_has : (asked : Asked) (target : ObjectId) (candidate : Candidate) (its : ObjState) → asked.act ≡ None
      → (setting trace).plain candidate ≡ true
      → candidate.stamp ≡ made_stamp asked target candidate.stamp.barrier → IsEverAccepted trace target candidate
      → version_at target candidate.prior mid.versions ≡ Some its
      → HasVersion trace target candidate (copied_state target candidate its)
  unfolding setting
  copied_has asked target candidate its no_act plain made ever found =
      copy_has target candidate its plain
      (ap (λ (act : Option Digest). is_some act) (ap (λ (it : Stamp). it.act) made ∙ no_act)) ever
      (is_below_by_time opening_stamp candidate.stamp (later_time candidate.stamp.time _
      (ap (λ (it : Stamp). it.time) made))) found
    where
      later_time : (time before : ℕ) → time ≡ before + 1 → 0 < time
      later_time time before is_next = omega (arith, is_next)

  -- the version of a candidate without barrier that the request adds is that of its stamp
  fresh_of_stamp : (object : ObjectId) → AddsTo one.asks one.group object
      → (one.candidates object).stamp.barrier ≡ false → (version : ObjState)
      → HasVersion trace object (one.candidates object) version
      → IsVersionOf trace (count + 1) object (one.candidates object).stamp version
  unfolding setting
  fresh_of_stamp object adds plain version has =
      let fresh : Candidate = one.candidates object in
      record {
        candidate = fresh;
        under = refl;
        plain = ap not plain;
        accepted = held_accepted trace (count + 1) place new handles.is_new object fresh (now_held object adds);
        has = has;
      }

  -- ---- the versions that the request adds

  abbrev IsTrue : Stored → Type 0
  IsTrue it = IsVersionOf trace (count + 1) it.object it.stamp it.state

  act_adds : (parts : List (ObjectId × Method)) → one.asks ≡ body.Act parts
      → (performs : Performs mid new (asked_of one.client one.number one.sets (body.Act parts)) parts one.candidates)
      → (some : List (ObjectId × Method)) → ((object : ObjectId) → Names some object → Names parts object)
      → AllByRecursion IsTrue (stored_of one.candidates performs.versions some)
  act_adds parts is performs [] among = tt
  act_adds parts is performs (part ∷ later) among =
      let names : Names parts part.0 = among part.0 (inl refl) in (
        fresh_of_stamp part.0 (adds_part parts is performs part.0 names)
            (ap (λ (it : Stamp). it.barrier) (performs.grounds part.0 names).stamp) (performs.versions part.0)
            (act_has parts is performs part.0 names),
        act_adds parts is performs later (λ object named. among object (inr named)),
      )

  mend_adds : (target object : ObjectId) → AddsTo one.asks one.group object → (found : Option ObjState)
      → IsRemedy mid (asked_of one.client one.number one.sets (body.Mend target)) target object (one.candidates object)
      found → AllByRecursion IsTrue (stored_if object (one.candidates object).stamp found)
  unfolding setting
  mend_adds target object adds found (IsRemedy.inline_barrier barrier shown) = tt
  mend_adds target object adds found (IsRemedy.inline_method its plain shown found_so) = tt
  mend_adds target object adds found (IsRemedy.barrier barrier made) = tt
  mend_adds target object adds found
      (IsRemedy.copy latest plan its plain planned named made barrier is_latest full is) = (
        fresh_of_stamp object adds plain (copied_state object (one.candidates object) its)
            (copied_has (asked_of one.client one.number one.sets (body.Mend target)) object (one.candidates object) its
            refl (ap not plain) made.stamp (now_accepted object adds) is),
        tt,
      )

  all_both : (first second : List Stored) → AllByRecursion IsTrue first → AllByRecursion IsTrue second
      → AllByRecursion IsTrue (first ++ second)
  all_both [] second all more = more
  all_both (it ∷ later) second all more = (all.0, all_both later second all.1 more)

  mends_add : (target : ObjectId) → one.asks ≡ body.Mend target
      → (mends : Mends mid new (asked_of one.client one.number one.sets (body.Mend target)) target one.group
      one.candidates) → (objects : List ObjectId)
      → ((object : ObjectId) → Lists objects object → MendsOn target one.group object)
      → AllByRecursion IsTrue (stored_mended one.candidates mends.versions objects)
  mends_add target is mends [] among = tt
  mends_add target is mends (object ∷ later) among =
      let mended : MendsOn target one.group object = among object (inl refl) in
      all_both (stored_if object (one.candidates object).stamp (mends.versions object))
      (stored_mended one.candidates mends.versions later)
      (mend_adds target object (subst (λ (asks : Body). AddsTo asks one.group object) (sym is) mended)
      (mends.versions object) (mends.remedy object mended))
      (mends_add target is mends later (λ other there. among other (inr there)))

  request_adds : (asks : Body) → one.asks ≡ asks
      → Reasons mid new (asked_of one.client one.number one.sets asks) asks one.group one.candidates
      → AddsOfStamps trace laws (count + 1) mid new
  request_adds (body.Act parts) is performs = record {
    more = stored_of one.candidates performs.versions parts;
    versions = performs.stored;
    each = act_adds parts is performs parts (λ object names. names);
  }
  request_adds (body.Ask parts) is never = absurd never
  request_adds (body.Mend target) is mends = record {
    more = stored_mended one.candidates mends.versions (mended_objects target one.group);
    versions = mends.stored;
    each = mends_add target is mends (mended_objects target one.group) (listed_mended target one.group);
  }

  pub moved_adds : AddsOfStamps trace laws (count + 1) mid new
  moved_adds = request_adds one.asks refl one.reasons
