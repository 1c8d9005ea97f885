-- What a request that mends copies, on all objects of its target's plan: it gives what the theory of links asks of a
-- step
-- that copies. And what an act makes rests on what a quorum shows.
use Rattle.std.proofs.Common.{◌≡◌, ◌⊎◌, ◌≤◌, ◌<◌, ◌+◌, ℕ, true, false, not, List, [], ◌∷◌, length, Option, Some, None, refl, sym, ap, subst, ◌∙◌, inl, inr, arith}
use Rattle.std.specs.Prelude.{is_some, option_and_then}
use Rattle.std.proofs.lemmas.Bool.{false≢true, cases_Bool, not-true, not-false}
use Rattle.qu_base.specs.Bounds.{AreThresholds, quorum, repair}
use Rattle.qu_base.specs.declared.party.Digest.{Digest}
use Rattle.qu_base.specs.declared.party.ObjectId.{ObjectId}
use Rattle.qu_base.proofs.ThresholdFacts.{are_thresholds}
use Rattle.qu_base.proofs.Items.{some_found}
use Rattle.qu_stamp.specs.declared.stamp.Stamp.{Stamp}
use Rattle.qu_stamp.specs.declared.candidate.Candidate.{Candidate}
use Rattle.qu_stamp.specs.Stamp.{is_below, same_stamp}
use Rattle.qu_stamp.specs.Candidate.{member as member_on}
use Rattle.qu_stamp.specs.Group.{listed_time}
use Rattle.qu_stamp.proofs.Order.{is_below-not_chain, is_below-other, equal_by_same_stamp}
use Rattle.qu_history.specs.declared.sets.SetOf.{SetOf}
use Rattle.qu_history.specs.History.{ObjectHistory}
use Rattle.qu_history.specs.Sets.{entries_of, order_of, latest_of, method_at}
use Rattle.qu_history.proofs.Method.{method_at_plain}
use Rattle.qu_history.proofs.Stamps.{not_below_latest}
use Rattle.qu_objects.specs.declared.act.Method.{Method}
use Rattle.qu_objects.specs.declared.state.ObjState.{ObjState}
use Rattle.qu_versions.specs.Versions.{version_at, has_version}
use Rattle.qu_class.specs.declared.class.Class.TheVariants.{Copy}
use Rattle.qu_plan.specs.declared.plan.CopyPlan.{CopyPlan}
use Rattle.qu_plan.specs.Beside.{is_repairable}
use Rattle.qu_plan.specs.Chosen.{chosen_on}
use Rattle.qu_class.specs.Class.{class_in}
use Rattle.qu_plan.specs.Copying.{link_from}
use Rattle.qu_plan.specs.Evidence.{is_read}
use Rattle.qu_plan.specs.Linking.{link_in}
use Rattle.qu_class.specs.Rows.{AreWellFormed, MayBeRepaired}
use Rattle.qu_class.proofs.GroupRule.{copy_in_sets}
use Rattle.qu_class.proofs.OfKind.{held_if_repairable}
use Rattle.qu_rows.specs.Rows.{Asked, objects_of, linking_of}
use Rattle.qu_rows.specs.State.{ReplicaState, own_candidates, own_latest}
use Rattle.qu_rows.proofs.Allowed.{fresh_later}
use Rattle.qu_frames.specs.declared.frame.Body.TheVariants as body
use Rattle.qu_trace.specs.declared.trace.Trace.{Trace}
use Rattle.qu_world.specs.Run.{IsRun}
use Rattle.qu_claims.specs.Grounds.{IsGround, Accepts, Performs, IsFound, IsMade, IsPlanned, Mends, MendsOn}
use Rattle.qu_claims.specs.Parts.{Names}
use Rattle.qu_claims.specs.RunSetting.{setting}
use Rattle.qu_claims.specs.Setting.{acceptors, IsEstablished, IsAttested, IsNew}
use Rattle.qu_chain.specs.Laws.{IsLinked}
use Rattle.qu_links.specs.Copying.{View, Skips, CopyStep}
use Rattle.qu_links.specs.Listing.{IsListed}
use Rattle.qu_links.specs.Over.{RestsAt}
use Rattle.qu_runs.specs.Plain.{ArePlain}
use Rattle.qu_grounds.proofs.Formed.{AreGrouped}
use Rattle.qu_grounds.proofs.Grounds.{above_base, base_not_below, IsBase, is_base}
use Rattle.qu_grounds.proofs.Together.{IsMemberAt, member_at, fresh_listed, added_together}
use Rattle.qu_accepts.proofs.Accepting.{Acceptance}
use Rattle.qu_laws.proofs.ShownWhenAccepted.{not_above_shown, sizes, held_before, bounds_then, formed_then, grouped_then, shown_accepted, established_is_shown}
use Rattle.qu_laws.proofs.CopiedTogether.{IsCopy, each_copied}
use Rattle.qu_laws.proofs.SetsTell.{member_has, may_of_shown, shown_of_may, reads_member, read_from, read_known, chosen_may, IsSkippedAt, not_below_chosen}
use Rattle.qu_laws.proofs.PlanTells.{IsPlannedOn, named_planned, planned_copy, planned_seen, planned_joined, planned_covered}

-- the links of a version
abbrev pub link_of : ObjState → ObjectId → Option Stamp
link_of version other = link_in version.links other

-- what the plan of a target sees: what the sets show, and what the versions of the replica tell
abbrev pub view_of : ReplicaState → List SetOf → ObjectId → View
view_of state sets target = record {
  method = λ object. method_at state.keys.bounds (entries_of object sets);
  repairable = λ object candidate. is_repairable state.keys.bounds sets object candidate;
  link = λ object other.
      link_from (linking_of state) other object (method_at state.keys.bounds (entries_of object sets));
  reads = λ object. is_read state.keys.bounds sets target object;
}

listed_names : {X : Type 0} (parts : List (ObjectId × X)) (object : ObjectId) → IsListed (objects_of parts) object
    → Names parts object
unfolding IsListed
listed_names [] object none = none
listed_names (part ∷ later) object (inl same) = inl same
listed_names (part ∷ later) object (inr there) = inr (listed_names later object there)

pub names_listed : {X : Type 0} (parts : List (ObjectId × X)) (object : ObjectId) → Names parts object
    → IsListed (objects_of parts) object
unfolding IsListed
names_listed [] object none = none
names_listed (part ∷ later) object (inl same) = inl same
names_listed (part ∷ later) object (inr there) = inr (names_listed later object there)

-- ---- at an event of a run

module _ (trace : Trace) (is_run : IsRun trace) (have : ArePlain trace) (time : ℕ)
    (within : time < length trace.entries) (object : ObjectId) (place : ℕ) (candidate : Candidate)
    (accepted : Acceptance trace time object place candidate) where
  abbrev mid : ReplicaState
  mid = ((accepted.delivered).handles).mid

  abbrev upon : Accepts mid accepted.new ((accepted.delivered).handles).carried
  upon = (accepted.delivered).accepts

  same_bounds : mid.keys.bounds ≡ trace.setup.bounds
  same_bounds = bounds_then trace is_run have time within object place candidate accepted

  module _ (asked : Asked) (same_sets : asked.sets ≡ upon.sets) where
    abbrev shown : ObjectId → List ObjectHistory
    shown of = entries_of of asked.sets

    formed : (of : ObjectId) → AreWellFormed mid.keys.bounds (shown of)
    formed of =
        subst (λ (sets : List SetOf). AreWellFormed mid.keys.bounds (entries_of of sets)) (sym same_sets)
        (subst (λ (bounds : ℕ). AreWellFormed bounds (entries_of of upon.sets)) (sym same_bounds)
        (formed_then trace is_run have time within object place candidate accepted of))

    grouped : (of : ObjectId) → AreGrouped (shown of)
    grouped of =
        subst (λ (sets : List SetOf). AreGrouped (entries_of of sets)) (sym same_sets)
        (grouped_then trace is_run have time within object place candidate accepted of)

    as_many : (of : ObjectId) (other : Candidate)
        → order_of other (shown of) ≤ acceptors (setting trace) time of other + (setting trace).faults
    as_many of other =
        subst (λ (sets : List SetOf). order_of other (entries_of of sets)
        ≤ acceptors (setting trace) time of other + (setting trace).faults) (sym same_sets)
        (shown_accepted trace is_run have time within object place candidate accepted of other)

    -- what so many show that it may be repaired is attested
    attested_by : (of : ObjectId) (other : Candidate) → repair mid.keys.bounds ≤ order_of other (shown of)
        → IsAttested (setting trace) time of other
    unfolding setting
    attested_by of other enough =
        let counted : order_of other (shown of) ≤ acceptors (setting trace) time of other + (setting trace).faults =
        as_many of other in
        let least : repair trace.setup.bounds ≤ order_of other (shown of) =
        subst (λ (bounds : ℕ). repair bounds ≤ order_of other (shown of)) same_bounds enough in
        omega (arith, counted, least)

    -- and what a quorum shows is established
    established_by : (of : ObjectId) (other : Candidate) → quorum mid.keys.bounds ≤ order_of other (shown of)
        → IsEstablished (setting trace) time of other
    unfolding setting
    established_by of other enough =
        let counted : order_of other (shown of) ≤ acceptors (setting trace) time of other + (setting trace).faults =
        as_many of other in
        let least : quorum trace.setup.bounds ≤ order_of other (shown of) =
        subst (λ (bounds : ℕ). quorum bounds ≤ order_of other (shown of)) same_bounds enough in
        let few : (setting trace).faults ≤ trace.setup.bounds = (sizes trace is_run have).borne in
        omega (arith, counted, least, few)

    -- what is established below a barrier that a quorum shows is shown
    shown_by : (of : ObjectId) (barrier other : Candidate) → quorum mid.keys.bounds ≤ order_of barrier (shown of)
        → IsEstablished (setting trace) (setting trace).last of other
        → is_below other.stamp barrier.stamp ≡ true → repair mid.keys.bounds ≤ order_of other (shown of)
    shown_by of barrier other full established below =
        subst (λ (sets : List SetOf). repair mid.keys.bounds ≤ order_of other (entries_of of sets)) (sym same_sets)
        (subst (λ (bounds : ℕ). repair bounds ≤ order_of other (entries_of of upon.sets)) (sym same_bounds)
        (established_is_shown trace is_run have time within object place candidate accepted of barrier other
        (subst (λ (bounds : ℕ). quorum bounds ≤ order_of barrier (entries_of of upon.sets)) same_bounds
        (subst (λ (sets : List SetOf). quorum mid.keys.bounds ≤ order_of barrier (entries_of of sets)) same_sets full))
        established below))

    -- ---- an act

    linked_of_act : (parts : List (ObjectId × Method)) → Performs mid accepted.new asked parts upon.candidates
        → Names parts object → IsLinked (setting trace) time object place (upon.candidates object)
    unfolding setting
    linked_of_act parts performs names =
        let base : Candidate = performs.bases object in
        let why : IsGround mid asked (objects_of parts) object (upon.candidates object) base =
        performs.grounds object names in
        let is : IsBase mid.keys.bounds (shown object) base = is_base mid.keys.bounds (shown object) base why.method in
        let thresholds : AreThresholds trace.setup.bounds =
        are_thresholds trace.setup.bounds (is_run.setup).some_faults in
        let established : IsEstablished (setting trace) time object base = established_by object base is.of_quorum in
        let counted : order_of base (shown object)
        ≤ acceptors (setting trace) time object base + (setting trace).faults = as_many object base in
        let full : quorum trace.setup.bounds ≤ order_of base (shown object) =
        subst (λ (bounds : ℕ). quorum bounds ≤ order_of base (shown object)) same_bounds is.of_quorum in
        record {
          base = base;
          plain_base = ap not (method_at_plain mid.keys.bounds (shown object) base why.method);
          prior = why.prior;
          below = above_base why;
          attested = omega arith;
          settled = λ is_act. established;
          not_below = λ other plain established before.
              base_not_below why other
              (held_before trace is_run have time object object place candidate other accepted before);
        }

    -- ---- a repair

    -- what is found is attested
    pub found_attested : (found : Candidate) → IsFound mid.keys.bounds asked object found
        → IsAttested (setting trace) time object found
    found_attested found it = attested_by object found it.order

    module _ (target : ObjectId) (plan : CopyPlan) (planned : IsPlanned mid asked target plan) where
      abbrev chosen : ObjectId → Candidate
      chosen of = chosen_on mid.keys.bounds asked.sets (linking_of mid) of

      abbrev view : View
      view = view_of mid asked.sets target

      class_there : (of : ObjectId) → Names plan.joint of → class_in mid.keys.bounds asked.sets of ≡ Copy
      class_there of names =
          planned_copy mid.keys.bounds asked.sets (linking_of mid) target plan planned.copy planned.is of names

      may_there : (of : ObjectId) → class_in mid.keys.bounds asked.sets of ≡ Copy
          → MayBeRepaired mid.keys.bounds (shown of) false (chosen of)
      may_there of copy = chosen_may mid.keys.bounds asked.sets (linking_of mid) of (formed of) copy

      part_there : (of : ObjectId) → Names plan.joint of
          → IsPlannedOn mid.keys.bounds asked.sets (linking_of mid) target of
      part_there of names =
          named_planned mid.keys.bounds asked.sets (linking_of mid) target plan planned.is
          (grouped target (chosen target) (held_if_repairable mid.keys.bounds (shown target) (formed target)
          (chosen target) (may_there target planned.copy).order)).whole of names

      -- a copy rests on what is chosen
      pub rests_there : (of : ObjectId) (copy : Candidate) → Names plan.joint of
          → IsMade asked (chosen of) (objects_of plan.joint) of copy
          → RestsAt (setting trace) time of (chosen of) copy
      rests_there of copy names made =
          let may : MayBeRepaired mid.keys.bounds (shown of) false (chosen of) =
          may_there of (class_there of names) in
          record {
            prior = made.prior;
            below = fresh_later (latest_of (shown of)) (chosen of).stamp copy.stamp
                (ap (λ (it : Stamp). it.time) made.stamp)
                (not_above_shown (shown of) (chosen of)
                (held_if_repairable mid.keys.bounds (shown of) (formed of) (chosen of) may.order));
            attested = attested_by of (chosen of) may.order;
          }

      -- what may be repaired there was accepted together with what is read
      reads_there : (of : ObjectId) → Names plan.joint of → (other : Candidate)
          → is_repairable mid.keys.bounds asked.sets of other ≡ true → (besides : ObjectId) (stamp : Stamp)
          → member_on other besides ≡ Some stamp → is_read mid.keys.bounds asked.sets target besides ≡ true
      reads_there of names other may besides stamp is_member =
          read_from mid.keys.bounds asked.sets target of besides
          (copy_in_sets mid.keys.bounds asked.sets of (class_there of names))
          (planned_seen mid.keys.bounds asked.sets (linking_of mid) target of (class_there of names)
          (part_there of names))
          (reads_member mid.keys.bounds asked.sets of besides other (formed of) may
          (member_has other besides stamp is_member))

      skips_there : (of : ObjectId) (other : Candidate)
          → IsSkippedAt mid.keys.bounds asked.sets (linking_of mid) of other → Skips (setting trace) view of other
      unfolding setting link_from
      skips_there of other it = record {
        other = it.other;
        stamp = it.stamp;
        version = it.version;
        apart = it.apart;
        is_member = it.is_member;
        is_method = it.is_method;
        above = it.above;
        passed = λ own given. it.passed own
            (sym (ap (link_from (linking_of mid) of it.other) it.is_method) ∙ given);
      }

      -- what is left out is read and covered
      abbrev IsLeftOut : ObjectId → Stamp → Type 0
      IsLeftOut other stamp = (version : Candidate) × (view.method other ≡ Some version) × (view.reads other ≡ true)
          × (view.link other target ≡ Some stamp)

      left_out : (of : ObjectId) → Names plan.joint of → (other : ObjectId) (stamp : Stamp)
          → member_on (chosen of) other ≡ Some stamp → Names plan.joint other ⊎ IsLeftOut other stamp
      unfolding link_from
      left_out of names other stamp is_member =
          elim (planned_covered mid.keys.bounds asked.sets (linking_of mid) target plan planned.is of other stamp
          (part_there of names) is_member) [
            | inl also ↦ inl also
            | inr it ↦
                inr (
                  it.version,
                  it.is_method,
                  reads_there of names (chosen of)
                      (shown_of_may mid.keys.bounds asked.sets of (chosen of) (may_there of (class_there of names)))
                      other stamp is_member,
                  ap (link_from (linking_of mid) target other) it.is_method ∙ it.is_link,
                )
          ]

      -- ---- what its view shows

      pub view_plain : (of : ObjectId) (version : Candidate) → view.method of ≡ Some version
          → (setting trace).plain version ≡ true
      unfolding setting
      view_plain of version is = ap not (method_at_plain mid.keys.bounds (shown of) version is)

      pub view_established : (of : ObjectId) (version : Candidate) → view.method of ≡ Some version
          → IsEstablished (setting trace) time of version
      view_established of version is =
          established_by of version (is_base mid.keys.bounds (shown of) version is).of_quorum

      pub view_attested : (of : ObjectId) (other : Candidate) → view.repairable of other ≡ true
          → IsAttested (setting trace) time of other
      view_attested of other may =
          attested_by of other (may_of_shown mid.keys.bounds asked.sets of other may).order

      -- the replica has the versions whose links are read
      pub view_held : (of : ObjectId) (version : Candidate) → view.method of ≡ Some version → view.reads of ≡ true
          → (state : ObjState) × (version_at of version.stamp mid.versions ≡ Some state)
          × (view.link of ≡ link_of state)
      unfolding link_from
      view_held of version is_method is_read_one =
          let known : not (has_version of version.stamp mid.versions) ≡ false =
          read_known mid.keys.bounds asked.sets
          (λ (key : ObjectId × Stamp). not (has_version key.0 key.1 mid.versions)) target of version planned.known
          is_read_one is_method in
          let it : (state : ObjState) × (version_at of version.stamp mid.versions ≡ Some state) =
          some_found (version_at of version.stamp mid.versions)
          (not-false (has_version of version.stamp mid.versions) known) in (
            it.0,
            it.1,
            λ i other. (ap (link_from (linking_of mid) other of) is_method
                ∙ ap (option_and_then (λ (state : ObjState). link_in state.links other)) it.1) i,
          )

      -- ---- the step

      module _ (no_act : asked.act ≡ None) (group : List (ObjectId × ℕ))
          (mends : Mends mid accepted.new asked target group upon.candidates)
          (news : (of : ObjectId) → MendsOn target group of
          → IsNew (setting trace) time of place (upon.candidates of))
          (first : ObjectId) (named : Names plan.joint first) (mended : MendsOn target group first)
          (is_copy : IsCopy mid asked plan first (upon.candidates first)) where
        all_copied : (of : ObjectId) → Names plan.joint of
            → MendsOn target group of × IsCopy mid asked plan of (upon.candidates of)
        all_copied =
            each_copied mid accepted.new asked target group upon.candidates mends plan planned first named mended
            is_copy

        unlike : (one other : Candidate) → one.stamp.barrier ≡ true → other.stamp.barrier ≡ false
            → same_stamp one.stamp other.stamp ≡ false
        unlike one other barrier plain = elim (cases_Bool (same_stamp one.stamp other.stamp)) [
          | inl alike ↦
              absurd (false≢true (sym plain
              ∙ ap (λ (it : Stamp). it.barrier) (sym (equal_by_same_stamp one.stamp other.stamp alike)) ∙ barrier))
          | inr differs ↦ differs
        ]

        -- what is established, and the replica had, is shown: it is below the latest, a barrier that a quorum shows
        had_is_shown : (of : ObjectId) → Names plan.joint of → (other : Candidate) → other.stamp.barrier ≡ false
            → IsEstablished (setting trace) (setting trace).last of other
            → (setting trace).accepted time of place other ≡ true
            → is_repairable mid.keys.bounds asked.sets of other ≡ true
        had_is_shown of names other plain established before =
            let it : MendsOn target group of × IsCopy mid asked plan of (upon.candidates of) = all_copied of names in
            let latest : Candidate = it.1.latest in
            let not_above : is_below latest.stamp other.stamp ≡ false =
            ap (λ (stamp : Stamp). is_below stamp other.stamp) it.1.is_latest
            ∙ is_below-not_chain (latest_of (shown of)) (own_latest mid of) other.stamp (mends.current of it.0)
            (not_below_latest (own_candidates mid of) other
            (held_before trace is_run have time object of place candidate other accepted before)) in
            let under : is_below other.stamp latest.stamp ≡ true =
            is_below-other latest.stamp other.stamp not_above (unlike latest other it.1.barrier plain) in
            shown_of_may mid.keys.bounds asked.sets of other (record {
              kind = plain;
              order = shown_by of latest other it.1.full established under;
            })

        member_copied : (of other : ObjectId) (stamp : Stamp) → Names plan.joint of
            → member_on (upon.candidates of) other ≡ Some stamp → Names plan.joint other
        member_copied of other stamp names is_member =
            let it : IsMemberAt (upon.candidates of) other stamp =
            member_at (upon.candidates of) other stamp is_member in
            (fresh_listed asked plan.joint other it.time
            (ap (listed_time other) (sym ((all_copied of names).1.made).group) ∙ it.listed)).0

        abbrev on : List ObjectId
        on = objects_of plan.joint

        named_on : (of : ObjectId) → IsListed on of → Names plan.joint of
        named_on of listed = listed_names plan.joint of listed

        pub step : CopyStep (setting trace) time place view
        unfolding setting
        step = record {
          target = target;
          on = on;
          chosen = chosen;
          made = upon.candidates;
          plain = λ of listed. ap not (may_there of (class_there of (named_on of listed))).kind;
          repairable = λ of listed. shown_of_may mid.keys.bounds asked.sets of (chosen of)
              (may_there of (class_there of (named_on of listed)));
          greatest = λ of listed other plain may.
              elim (not_below_chosen mid.keys.bounds asked.sets (linking_of mid) of (formed of) (grouped of) other
              may) [
                | inl not_below ↦ inl not_below
                | inr skipped ↦ inr (skips_there of other skipped)
              ];
          read = λ of listed other may besides stamp apart is_member version is_method.
              reads_there of (named_on of listed) other may besides stamp is_member;
          joined = λ of other listed also apart.
              planned_joined mid.keys.bounds asked.sets (linking_of mid) target of other
              (part_there of (named_on of listed)) (part_there other (named_on other also)) apart;
          covered = λ of other stamp listed apart is_member.
              elim (left_out of (named_on of listed) other stamp is_member) [
                | inl also ↦ inl (names_listed plan.joint other also)
                | inr it ↦ inr it
              ];
          prior = λ of listed. ((all_copied of (named_on of listed)).1.made).prior;
          below = λ of listed. (rests_there of (upon.candidates of) (named_on of listed)
              (all_copied of (named_on of listed)).1.made).below;
          no_act = λ of listed. ap (λ (act : Option Digest). is_some act)
              (ap (λ (it : Stamp). it.act) ((all_copied of (named_on of listed)).1.made).stamp ∙ no_act);
          new = λ of listed. news of (all_copied of (named_on of listed)).0;
          group = λ of other listed also apart.
              added_together mid accepted.new asked group upon.candidates (body.Mend target) mends of other
              (all_copied of (named_on of listed)).0 (all_copied other (named_on other also)).0 apart;
          group_only = λ of other stamp listed apart is_member.
              names_listed plan.joint other (member_copied of other stamp (named_on of listed) is_member);
          shown = λ of listed other plain established before.
              had_is_shown of (named_on of listed) other (not-true other.stamp.barrier plain) established before;
        }

        pub step_lists : IsListed step.on first
        unfolding step
        step_lists = names_listed plan.joint first named

        pub step_makes : step.made first ≡ upon.candidates first
        unfolding step
        step_makes = refl

  -- an act rests on an established candidate
  pub act_linked : (asked : Asked) (parts : List (ObjectId × Method)) → asked.sets ≡ upon.sets
      → Performs mid accepted.new asked parts upon.candidates → Names parts object
      → IsLinked (setting trace) time object place (upon.candidates object)
  act_linked asked parts same_sets performs names = linked_of_act asked same_sets parts performs names

  -- a copy on the object on which it is accepted rests on what is chosen there
  pub copy_rests : (asked : Asked) (target : ObjectId) (plan : CopyPlan) {copy : Candidate} → asked.sets ≡ upon.sets
      → IsPlanned mid asked target plan → Names plan.joint object
      → IsMade asked (chosen_on mid.keys.bounds asked.sets (linking_of mid) object) (objects_of plan.joint) object copy
      → quorum mid.keys.bounds ≤ length (entries_of object asked.sets)
      → RestsAt (setting trace) time object (chosen_on mid.keys.bounds asked.sets (linking_of mid) object) copy
  copy_rests asked target plan {copy} same_sets planned names made enough =
      rests_there asked same_sets target plan planned object copy names made
