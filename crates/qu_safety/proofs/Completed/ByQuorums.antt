-- In every run a quorum stands behind the answer of each completed operation.
use Rattle.std.proofs.Common.{◌≡◌, ℕ, ◌-◌, true, false, List, refl, sym, ap, subst, ◌∙◌}
use Rattle.std.specs.Prelude.{Contains}
use Rattle.std.proofs.lemmas.List.Elements.{All-weaker}
use Rattle.qu_base.specs.declared.party.ObjectId.{ObjectId}
use Rattle.qu_stamp.specs.declared.stamp.Stamp.{Stamp}
use Rattle.qu_stamp.specs.declared.candidate.Candidate.{Candidate}
use Rattle.qu_stamp.specs.Stamp.{is_below}
use Rattle.qu_chain.specs.Laws.{Laws}
use Rattle.qu_chain.specs.Joint.{Joint}
use Rattle.qu_history.specs.History.{holds}
use Rattle.qu_objects.specs.declared.answer.Answer.{Answer}
use Rattle.qu_objects.specs.declared.op.Op.{Op}
use Rattle.qu_objects.specs.declared.op.Op.TheVariants as op
use Rattle.qu_objects.specs.declared.query.Ask.{Ask}
use Rattle.qu_machine.specs.declared.record.OpRecord.{OpRecord}
use Rattle.qu_machine.specs.Serial.{Completes}
use Rattle.qu_rows.specs.State.{own_candidates}
use Rattle.qu_trace.specs.declared.trace.Trace.{Trace}
use Rattle.qu_trace.specs.Operation.{operations_of}
use Rattle.qu_world.specs.Run.{IsRun}
use Rattle.qu_objects.specs.declared.act.Method.{Method}
use Rattle.qu_objects.proofs.PartLaws.{same_parts}
use Rattle.qu_replies.specs.Replies.{culled_in, HasTold}
use Rattle.qu_claims.specs.Handling.{Handles}
use Rattle.qu_accepts.proofs.Handling.{mid_candidates}
use Rattle.qu_claims.specs.Completions.{IsCompleted}
use Rattle.qu_claims.specs.RunSetting.{setting}
use Rattle.qu_claims.specs.Quorums.{ActOfQuorum, ToldFrom, QueryOfQuorum, IsOfQuorum, CompletesByQuorums}
use Rattle.qu_runs.specs.Plain.{ArePlain}
use Rattle.qu_safety.proofs.Completed.ToldParts.{CompletedAct}
use Rattle.qu_safety.proofs.Completed.CompletedActs.{completed_act}
use Rattle.qu_safety.proofs.Completed.ToldAnswers.{ToldBefore}
use Rattle.qu_safety.proofs.Completed.QueryRounds.{ToldRound, told_round}
use Rattle.qu_values.proofs.Requests.ClientFacts.{ClientFacts}
use Rattle.qu_safety.proofs.Completed.Along.{objects_in, all_beside}
use Rattle.qu_values.proofs.Updating.UpdateFacts.{UpdateFacts}
use Rattle.qu_verdicts.specs.declared.verdict.Verdict.{Verdict}

module _ (trace : Trace) (is_run : IsRun trace) (have : ArePlain trace) (clients : ClientFacts trace)
    (laws : Laws (setting trace)) (joint : Joint (setting trace)) (facts : UpdateFacts trace) where
  told_from : (operation : OpRecord) (reply round : ℕ) (answer : Answer) (stamps : List (ObjectId × Stamp))
      → (replica : ℕ)
      → ToldBefore trace operation.client operation.number round (reply - 1) stamps answer replica
      → ToldFrom trace operation reply round stamps answer replica
  told_from operation reply round answer stamps replica tells = record {
    at = tells.at;
    earlier = tells.earlier;
    told = tells.said;
    state = (tells.reply).old;
    is_state = ((tells.reply).handles).is_old;
    nothing_above = all_beside (HasTold handles.mid (culled_in handles.mid (tells.reply).sets)) Highest
        stamps (tells.tells).values
        (λ told value has held holding. ap (λ (it : Stamp). is_below it held.stamp) (sym has.is_told)
        ∙ has.nothing_above held (ap (holds held)
        (mid_candidates trace tells.at (tells.reply).old handles.mid handles.learns told.0) ∙ holding))
        (tells.tells).each;
  }
    where
      handles : Handles trace tells.at replica (tells.reply).old (tells.reply).new
      handles = (tells.reply).handles

      Highest : ObjectId × Stamp → Type 0
      Highest told = (held : Candidate) → holds held (own_candidates (tells.reply).old told.0) ≡ true
          → is_below told.1 held.stamp ≡ false

  query_of_quorum : (operation : OpRecord) → Contains (operations_of trace) operation
      → (reply : ℕ) (answer : Answer) → IsCompleted trace operation reply answer
      → (query : List (ObjectId × Ask)) → operation.op ≡ op.Query query
      → QueryOfQuorum trace operation query reply answer
  query_of_quorum operation among reply answer done query is =
      let told : ToldRound trace operation query done.round (reply - 1) answer done.members =
      told_round trace is_run have clients operation among query is reply answer done in
      record {
        round = done.round;
        stamps = told.stamps;
        of_parts = ((told.tells).tells).of_parts ∙ ap objects_in told.asked;
        members = done.members;
        different = done.different;
        within = done.within;
        correct = done.correct;
        enough = done.enough;
        told = All-weaker
            (ToldBefore trace operation.client operation.number done.round (reply - 1) told.stamps answer)
            (ToldFrom trace operation reply done.round told.stamps answer)
            (told_from operation reply done.round answer told.stamps) done.members told.all;
      }

  act_of_quorum : (operation : OpRecord) (reply : ℕ) (told : Verdict) (answer : Answer)
      → CompletedAct trace operation reply told answer
      → (act : List (ObjectId × Method)) → operation.op ≡ op.Act act → ActOfQuorum trace operation act reply told
  act_of_quorum operation reply told answer done act is =
      subst (λ (parts : List (ObjectId × Method)). ActOfQuorum trace operation parts reply told)
      (same_parts done.parts act (sym done.is_act ∙ is)) done.of_quorum

  of_quorum : (operation : OpRecord) (reply : ℕ) (answer : Answer)
      → Contains (operations_of trace) operation → Completes operation reply answer
      → (done : IsCompleted trace operation reply answer)
      → (what : Op) → operation.op ≡ what → IsOfQuorum trace operation reply done.verdict answer what
  of_quorum operation reply answer among completes done (op.Act act) is =
      act_of_quorum operation reply done.verdict answer
      (completed_act trace is_run have clients laws joint facts operation among reply answer completes done act is) act
      is
  of_quorum operation reply answer among completes done (op.Query query) is =
      query_of_quorum operation among reply answer done query is

  pub completes_by_quorums : CompletesByQuorums trace
  completes_by_quorums operation reply answer among completes = (
    clients.completes operation among reply answer completes,
    of_quorum operation reply answer among completes (clients.completes operation among reply answer completes)
        operation.op refl,
  )
