-- How a step of a run adds a candidate without barrier: it was attested, an act made it upon what is established, or it
-- is a copy by a plan that read versions which were stored by then.
use Rattle.std.proofs.Common.{◌≡◌, ◌<◌, ℕ, true, false, List, length, None, Some, refl, ap, subst, ◌∙◌, inl, inr}
use Rattle.std.specs.Prelude.{is_some}
use Rattle.std.proofs.lemmas.Bool.{not-true}
use Rattle.qu_base.specs.declared.party.ClientId.{ClientId}
use Rattle.qu_base.specs.declared.party.ObjectId.{ObjectId}
use Rattle.qu_stamp.specs.declared.stamp.Stamp.{Stamp}
use Rattle.qu_stamp.specs.declared.candidate.Candidate.{Candidate}
use Rattle.qu_objects.specs.declared.state.ObjState.{ObjState}
use Rattle.qu_versions.specs.Versions.{version_at}
use Rattle.qu_plan.specs.declared.plan.CopyPlan.{CopyPlan}
use Rattle.qu_rows.specs.Rows.{Asked, asked_of}
use Rattle.qu_rows.specs.State.{ReplicaState}
use Rattle.qu_frames.specs.declared.frame.Body.{Body}
use Rattle.qu_frames.specs.declared.frame.Body.TheVariants as body
use Rattle.qu_trace.specs.declared.trace.Trace.{Trace}
use Rattle.qu_world.specs.Run.{IsRun}
use Rattle.qu_claims.specs.Grounds.{Accepts, AddsTo, IsPlanned, Mends, MendsOn, Reasons}
use Rattle.qu_claims.specs.Handling.{Handles}
use Rattle.qu_claims.specs.RunSetting.{setting}
use Rattle.qu_claims.specs.Setting.{IsNew}
use Rattle.qu_links.specs.Closing.{IsSeen, HowAdded}
use Rattle.qu_links.specs.Closing.HowAdded.{inline, by_act, by_copy}
use Rattle.qu_runs.specs.Plain.{ArePlain}
use Rattle.qu_accepts.proofs.Accepting.{Acceptance}
use Rattle.qu_laws.proofs.ShownWhenAccepted.{acceptance_of}
use Rattle.qu_laws.proofs.Laws.{new_accepted}
use Rattle.qu_laws.proofs.CopiedTogether.{how_mended}
use Rattle.qu_laws.proofs.CopySteps.{link_of, view_of, act_linked, found_attested, view_plain, view_established, view_attested, view_held, step, step_lists, step_makes}

module _ (trace : Trace) (is_run : IsRun trace) (have : ArePlain trace)
    -- what a replica finds when it handles a request is stored by then
    (Stored : ℕ → ObjectId → Stamp → ObjState → Type 0)
    (upon : (time : ℕ) → time < length trace.entries → (place : ℕ) (old new : ReplicaState)
    (handles : Handles trace time place old new) → (object : ObjectId) (stamp : Stamp) (version : ObjState)
    → version_at object stamp (handles.mid).versions ≡ Some version → Stored time object stamp version) where
  module _ (time : ℕ) (within : time < length trace.entries) (object : ObjectId) (place : ℕ) (candidate : Candidate)
      (accepted : Acceptance trace time object place candidate) where
    abbrev handles : Handles trace time place accepted.old accepted.new
    handles = (accepted.delivered).handles

    abbrev mid : ReplicaState
    mid = handles.mid

    abbrev one : Accepts mid accepted.new handles.carried
    one = (accepted.delivered).accepts

    abbrev IsAddedSo : Candidate → Type 0
    IsAddedSo added = HowAdded (setting trace) ObjState link_of Stored time object place added

    -- what the plan of a target sees
    seen_then : (asked : Asked) → asked.sets ≡ one.sets → (target : ObjectId) (plan : CopyPlan)
        → IsPlanned mid asked target plan
        → IsSeen (setting trace) ObjState link_of Stored time (view_of mid asked.sets target)
    seen_then asked same_sets target plan planned = record {
      plain = view_plain trace is_run have time within object place candidate accepted asked same_sets target plan
          planned;
      established = view_established trace is_run have time within object place candidate accepted asked same_sets
          target plan planned;
      attested = view_attested trace is_run have time within object place candidate accepted asked same_sets target
          plan planned;
      held = λ of version is_method is_read.
          let it : (state : ObjState) × (version_at of version.stamp mid.versions ≡ Some state)
          × ((view_of mid asked.sets target).link of ≡ link_of state) =
          view_held trace is_run have time within object place candidate accepted asked same_sets target plan planned
          of version is_method is_read in (
            it.0,
            upon time within place accepted.old accepted.new handles of version.stamp it.0 it.1,
            it.2,
          );
    }

    -- upon a request that mends
    added_by_mending : (asked : Asked) → asked.sets ≡ one.sets → asked.act ≡ None → (target : ObjectId)
        (group : List (ObjectId × ℕ)) → Mends mid accepted.new asked target group one.candidates
        → ((of : ObjectId) → MendsOn target group of → IsNew (setting trace) time of place (one.candidates of))
        → MendsOn target group object → (one.candidates object).stamp.barrier ≡ false
        → IsAddedSo (one.candidates object)
    added_by_mending asked same_sets no_act target group mends news mended plain =
        elim (how_mended mid asked target object (one.candidates object) (mends.versions object) plain
        (mends.remedy object mended)) [
          | inl found ↦
              inline (found_attested trace is_run have time within object place candidate accepted asked same_sets
              (one.candidates object) found)
          | inr it ↦
              by_copy (view_of mid asked.sets target) (seen_then asked same_sets target it.plan it.planned)
              (step trace is_run have time within object place candidate accepted asked same_sets target it.plan
              it.planned no_act group mends news object it.names mended it.is_copy)
              (step_lists trace is_run have time within object place candidate accepted asked same_sets target it.plan
              it.planned no_act group mends news object it.names mended it.is_copy)
              (step_makes trace is_run have time within object place candidate accepted asked same_sets target it.plan
              it.planned no_act group mends news object it.names mended it.is_copy)
        ]

    -- whatever the request asks for
    added_by : (client : ClientId) (number : ℕ) (asks : Body) (group : List (ObjectId × ℕ))
        → Reasons mid accepted.new (asked_of client number one.sets asks) asks group one.candidates
        → ((of : ObjectId) → AddsTo asks group of → IsNew (setting trace) time of place (one.candidates of))
        → AddsTo asks group object → (setting trace).plain (one.candidates object) ≡ true
        → IsAddedSo (one.candidates object)
    unfolding setting
    added_by client number (body.Act parts) group reasons news names plain =
        by_act (ap (λ (it : Stamp). is_some it.act) (reasons.grounds object names).stamp)
        (act_linked trace is_run have time within object place candidate accepted
        (asked_of client number one.sets (body.Act parts)) parts refl reasons names)
    added_by client number (body.Ask parts) group reasons news never plain = absurd never
    added_by client number (body.Mend target) group reasons news mended plain =
        added_by_mending (asked_of client number one.sets (body.Mend target)) refl refl target group reasons news mended
        (not-true (one.candidates object).stamp.barrier plain)

    added_then : (setting trace).plain candidate ≡ true → IsAddedSo candidate
    added_then plain =
        subst IsAddedSo accepted.candidate_is
        (added_by one.client one.number one.asks one.group one.reasons
        (λ of adds. new_accepted trace is_run have time within place accepted.old accepted.new of
        (record { handles = handles; accepts = one; adds = adds }))
        (accepted.delivered).adds (ap (setting trace).plain accepted.candidate_is ∙ plain))

  pub how_added : (time : ℕ) (object : ObjectId) (replica : ℕ) (candidate : Candidate)
      → (setting trace).plain candidate ≡ true → IsNew (setting trace) time object replica candidate
      → HowAdded (setting trace) ObjState link_of Stored time object replica candidate
  unfolding setting
  how_added time object replica candidate plain new =
      added_then time new.step object replica candidate
      (acceptance_of trace is_run have time object replica candidate new) plain
