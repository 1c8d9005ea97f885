-- What a reply adds under a stamp, where a version was found there before, is that version.
use Rattle.std.proofs.Common.{◌≡◌, ℕ, ◌<◌, ◌+◌, List, [], ◌∷◌, length, Some, sym, ap, subst, ◌∙◌, arith}
use Rattle.std.specs.List.{AllByRecursion}
use Rattle.qu_base.specs.declared.party.ClientId.{ClientId}
use Rattle.qu_base.specs.declared.party.ObjectId.{ObjectId}
use Rattle.qu_stamp.specs.declared.stamp.Stamp.{Stamp}
use Rattle.qu_stamp.specs.declared.candidate.Candidate.{Candidate}
use Rattle.qu_objects.specs.declared.state.ObjState.{ObjState}
use Rattle.qu_verdicts.specs.declared.verdict.Verdict.{Verdict}
use Rattle.qu_versions.specs.declared.stored.Stored.{Stored}
use Rattle.qu_versions.specs.Versions.{version_at}
use Rattle.qu_rows.specs.State.{ReplicaState}
use Rattle.qu_fitting.specs.Holding.{stored_all}
use Rattle.qu_fitting.proofs.AcceptingAll.{accept_all-is}
use Rattle.qu_trace.specs.declared.trace.Trace.{Trace}
use Rattle.qu_world.specs.Run.{IsRun}
use Rattle.qu_chain.specs.Laws.{Laws}
use Rattle.qu_chain.specs.Joint.{Joint}
use Rattle.qu_claims.specs.RunSetting.{setting}
use Rattle.qu_claims.specs.Truth.{IsVersionOf}
use Rattle.qu_claims.specs.Values.{HasVersion}
use Rattle.qu_runs.specs.Plain.{ArePlain}
use Rattle.qu_replies.specs.Replies.{IsReplyTo}
use Rattle.qu_replies.proofs.RepliesInRuns.{reply_accepts}
use Rattle.qu_replies.proofs.Retries.{AddsWhatIsFound}
use Rattle.qu_values.proofs.Updating.UpdateFacts.{UpdateFacts}
use Rattle.qu_values.proofs.Updating.Updates.{same_accepted}
use Rattle.qu_values.proofs.Versions.EverAccepted.{once_accepted}
use Rattle.qu_values.proofs.Versions.StoredValues.{found_upon, added_of_stamps}

module _ (trace : Trace) (is_run : IsRun trace) (have : ArePlain trace) (laws : Laws (setting trace))
    (joint : Joint (setting trace)) (facts : UpdateFacts trace) (at : ℕ) (below : at < length trace.entries) where
  -- the versions of one stamp are one
  one_of_stamp : (object : ObjectId) (stamp : Stamp) (before after : ObjState)
      → IsVersionOf trace at object stamp before → IsVersionOf trace (at + 1) object stamp after → before ≡ after
  one_of_stamp object stamp before after one other =
      let same : one.candidate ≡ other.candidate =
      same_accepted trace laws joint object one.candidate other.candidate
      (once_accepted trace laws at (omega arith) object one.candidate one.accepted)
      (once_accepted trace laws (at + 1) (omega arith) object other.candidate other.accepted)
      (one.under ∙ sym other.under) in
      facts.one_version object other.candidate before after
      (subst (λ (it : Candidate). HasVersion trace object it before) same one.has) other.has

  module _ (replica : ℕ) (client : ClientId) (number round : ℕ) (given : Verdict)
      (reply : IsReplyTo trace at replica client number round given) where
    each_once : (more : List Stored)
        → AllByRecursion (λ (it : Stored). IsVersionOf trace (at + 1) it.object it.stamp it.state) more
        → AllByRecursion (λ (it : Stored). (before : ObjState)
        → version_at it.object it.stamp (reply.handles).mid.versions ≡ Some before → before ≡ it.state) more
    each_once [] all = tt
    each_once (it ∷ later) all = (
      λ before found. one_of_stamp it.object it.stamp before it.state
          (found_upon trace laws joint is_run have at below replica reply.old reply.new reply.handles it.object it.stamp
          before found) all.0,
      each_once later all.1,
    )

    pub adds_what_is_found : AddsWhatIsFound (reply.handles).mid reply.accepted
    adds_what_is_found =
        let mid : ReplicaState = (reply.handles).mid in
        each_once (stored_all reply.accepted)
        (added_of_stamps trace laws joint is_run have at below replica reply.old reply.new reply.handles
        (stored_all reply.accepted)
        ((reply_accepts trace is_run have at below replica client number round given reply).versions
        ∙ ap (λ (it : ReplicaState). it.versions) (accept_all-is mid reply.accepted)))
