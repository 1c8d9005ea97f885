-- What the replies of a run say is true of the replicas that sent them.
use Rattle.std.proofs.Common.{◌≡◌, ℕ, ◌<◌, ◌≤◌, true, List, [], ◌∷◌, length, IsTrue, refl, sym, subst, ap, ◌∙◌, arith, None, Some}
use Rattle.std.proofs.lemmas.Bool.{false≢true}
use Rattle.qu_base.specs.declared.party.ClientId.{ClientId}
use Rattle.qu_base.specs.declared.party.ObjectId.{ObjectId}
use Rattle.qu_stamp.specs.declared.stamp.Stamp.{Stamp}
use Rattle.qu_history.specs.declared.sets.SetOf.{SetOf}
use Rattle.qu_objects.specs.declared.act.Method.{Method}
use Rattle.qu_objects.specs.declared.answer.Answer.{Answer}
use Rattle.qu_objects.specs.declared.query.Ask.{Ask}
use Rattle.qu_objects.specs.Digesting.{act_digest}
use Rattle.qu_frames.specs.declared.frame.Body.{Body}
use Rattle.qu_frames.specs.declared.frame.Body.TheVariants as body
use Rattle.qu_verdicts.specs.declared.verdict.Verdict.{Verdict}
use Rattle.qu_verdicts.specs.declared.verdict.Verdict.TheVariants as verdict
use Rattle.qu_mends.specs.declared.accepted.Accepted.{Accepted}
use Rattle.qu_rows.specs.declared.decision.Decision.{Decision}
use Rattle.qu_rows.specs.declared.decision.Decision.TheVariants.{Answers}
use Rattle.qu_rows.specs.State.{ReplicaState}
use Rattle.qu_fitting.specs.Holding.{accept_all}
use Rattle.qu_rows.specs.Allowed.{has_parts}
use Rattle.qu_rows.specs.Rows.{Asked, asked_of, asked_at, row_unknown, objects_of, decision_on}
use Rattle.qu_replica.specs.Step.{replica_on_frame, carried_out}
use Rattle.qu_trace.specs.declared.trace.Trace.{Trace}
use Rattle.qu_world.specs.Run.{IsRun}
use Rattle.qu_replies.proofs.Replying.{reply_parts}
use Rattle.qu_accepts.proofs.KnownObjects.{culled_had, not_unknown, known_sent}
use Rattle.qu_accepts.proofs.Handled.{handled_upon}
use Rattle.qu_claims.specs.Handled.{IsHandled}
use Rattle.qu_replies.specs.Replies.{culled_in, HasDone, TellsDone, TellsAlready, TellsQuery, IsOfUpdate, IsReplyTo}
use Rattle.qu_runs.specs.Plain.{ArePlain}
use Rattle.qu_replies.proofs.QueryReplies.{told_is_true, query_is_no_update, mend_is_not_told, mend_is_no_update}
use Rattle.qu_replies.proofs.EachOf.{first_weaker}
use Rattle.qu_replies.proofs.Retries.{AddsWhatIsFound, HasVersions}
use Rattle.qu_replies.proofs.TrueReplies.{done_is_true, already_is_true, act_is_not_told, update_is_known}
use Rattle.qu_claims.specs.Carried.{Brings}
use Rattle.qu_claims.specs.Handled.{is_of_setup}
use Rattle.qu_claims.specs.Handling.{Handles}
use Rattle.qu_grounds.proofs.ActAcceptance.{alike_candidates}
use Rattle.std.specs.List.{list_all}
use Rattle.std.proofs.lemmas.List.Elements.{All-weaker}
use Rattle.qu_base.specs.declared.party.Digest.{Digest}
use Rattle.qu_base.proofs.Items.{contains_at}
use Rattle.qu_history.specs.History.{holds}
use Rattle.qu_versions.specs.Versions.{version_at}
use Rattle.qu_frames.specs.declared.frame.Frame.{Frame}
use Rattle.qu_frames.specs.declared.frame.Frame.TheVariants as frame
use Rattle.qu_replica.specs.Growth.{HoldsAlike}
use Rattle.qu_waiting.specs.Waiting.{TakenRequest}

-- ---- bodies

-- the body of a request of which an update is told: an act with some parts
pub record IsActOn (body_is : Body) : Type 0 where
  pub parts : List (ObjectId × Method)
  pub is_act : body_is ≡ body.Act parts
  pub some : 1 ≤ length parts

-- the body of a request to which an answer is told
pub record IsAskOf (body_is : Body) : Type 0 where
  pub query : List (ObjectId × Ask)
  pub is_ask : body_is ≡ body.Ask query

-- what is told of an act or of a query, whatever number of parts a request may have
module _ (state : ReplicaState) (client : ClientId) (number : ℕ) (sets : List SetOf) (accepted : List Accepted) where
  abbrev Decides : Body → Verdict → Type 0
  Decides asks given = decision_on state (asked_of client number sets asks) asks ≡ Answers given accepted

  some_parts : (parts : List (ObjectId × Method)) → IsTrue (has_parts (body.Act parts)) → 1 ≤ length parts
  some_parts [] some = absurd (false≢true some)
  some_parts (part ∷ later) some = omega arith

  update_to_act : (given : Verdict) → IsOfUpdate given → (asks : Body) → IsTrue (has_parts asks) → Decides asks given
      → IsActOn asks
  update_to_act given of_update (body.Act parts) some decided =
      record { parts = parts; is_act = refl; some = some_parts parts some }
  update_to_act given of_update (body.Ask query) some decided =
      absurd (query_is_no_update state client number sets query accepted given of_update decided)
  update_to_act given of_update (body.Mend target) some decided =
      absurd (mend_is_no_update state client number sets target accepted given of_update decided)

  told_to_ask : (stamps : List (ObjectId × Stamp)) (answer : Answer) (asks : Body) → IsTrue (has_parts asks)
      → Decides asks (verdict.Told stamps answer) → IsAskOf asks
  told_to_ask stamps answer (body.Act parts) some decided =
      absurd (act_is_not_told state client number sets parts some accepted answer stamps decided)
  told_to_ask stamps answer (body.Ask query) some decided = record { query = query; is_ask = refl }
  told_to_ask stamps answer (body.Mend target) some decided =
      absurd (mend_is_not_told state client number sets target accepted stamps answer decided)

-- ---- replies

-- what a replica that tells Done has it has in each state that holds the same
has_alike : (new other : ReplicaState) → HoldsAlike new other → (client : ClientId) (number : ℕ) (act : Digest)
    (kept : Answer) (told : ObjectId × Stamp) → HasDone other client number act kept told
    → HasDone new client number act kept told
has_alike new other alike client number act kept told it = record {
  candidate = it.candidate;
  is_told = it.is_told;
  held = ap (holds it.candidate) (alike_candidates new other alike told.0) ∙ it.held;
  of_client = it.of_client;
  of_act = it.of_act;
  version = it.version;
  of_candidate = ap (version_at told.0 it.candidate.stamp) alike.versions ∙ it.of_candidate;
  keeps = it.keeps;
}

done_alike : (new other : ReplicaState) → HoldsAlike new other → (client : ClientId) (number : ℕ) (act : Digest)
    (parts : List (ObjectId × Method)) (stamps : List (ObjectId × Stamp)) (answer : Answer)
    → TellsDone other client number act parts stamps answer → TellsDone new client number act parts stamps answer
done_alike new other alike client number act parts stamps answer done = record {
  of_parts = done.of_parts;
  each = All-weaker (λ (told : ObjectId × Stamp). (kept : Answer) × HasDone other client number act kept told)
      (λ (told : ObjectId × Stamp). (kept : Answer) × HasDone new client number act kept told)
      (λ told it. (it.0, has_alike new other alike client number act it.0 told it.1)) stamps done.each;
  first = first_weaker (HasDone other client number act answer) (HasDone new client number act answer)
      (has_alike new other alike client number act answer) stamps done.first;
}

module _ (trace : Trace) (is_run : IsRun trace) (have : ArePlain trace) (at : ℕ)
    (below : at < length trace.entries) (replica : ℕ) (client : ClientId) (number round : ℕ) where
  body_has_parts : (given : Verdict) (reply : IsReplyTo trace at replica client number round given)
      → IsTrue (has_parts reply.body)
  body_has_parts given reply = reply_parts trace is_run have at below replica client number round given reply

  -- what the replica becomes
  pub reply_accepts : (given : Verdict) (reply : IsReplyTo trace at replica client number round given)
      → HoldsAlike reply.new (accept_all (reply.handles).mid reply.accepted)
  reply_accepts given reply =
      let mid : ReplicaState = (reply.handles).mid in
      let request : TakenRequest = record {
        client = client;
        number = number;
        round = round;
        sets = reply.sets;
        body = reply.body;
        mac = reply.mac;
      } in
      subst (HoldsAlike reply.new)
      (ap (λ (it : Frame). (replica_on_frame mid it).0) reply.is_request
      ∙ ap (λ (it : Decision). (carried_out mid request it).0) reply.decided)
      (reply.handles).made

  module _ (given : Verdict) (of_update : IsOfUpdate given)
      (reply : IsReplyTo trace at replica client number round given) where
    -- that an update is done, now or before, is told to an act
    pub act_of_update : IsActOn reply.body
    act_of_update =
        update_to_act (reply.handles).mid client number (culled_in (reply.handles).mid reply.sets) reply.accepted given
        of_update reply.body
        (body_has_parts given reply) reply.decided

    decided_act : Decides (reply.handles).mid client number (culled_in (reply.handles).mid reply.sets) reply.accepted
        (body.Act act_of_update.parts) given
    decided_act =
        ap (λ (it : Body).
        decision_on (reply.handles).mid (asked_at (reply.handles).mid client number reply.sets it) it)
        (sym act_of_update.is_act) ∙ reply.decided

    act_has_parts : IsTrue (has_parts (body.Act act_of_update.parts))
    act_has_parts = subst (λ (it : Body). IsTrue (has_parts it)) act_of_update.is_act (body_has_parts given reply)

    -- the setup has all objects of the request
    pub update_known : list_all (is_of_setup trace.setup) reply.sets ≡ true
    update_known =
        let mid : ReplicaState = (reply.handles).mid in
        let parts : List (ObjectId × Method) = act_of_update.parts in
        let asked : Asked = asked_at mid client number reply.sets (body.Act parts) in
        let known : row_unknown mid asked ≡ None =
        update_is_known mid asked parts (objects_of parts) given reply.accepted of_update decided_act in
        known_sent trace at replica reply.old mid (reply.handles).is_old (reply.handles).learns reply.sets
        (sym (culled_had mid mid.keys mid.me reply.sets) ∙ not_unknown mid asked known)

    pub update_brings : Brings (reply.handles).receiver (reply.handles).text
        (frame.Request client number round reply.sets (body.Act act_of_update.parts) reply.mac)
    update_brings =
        (reply.handles).brings ∙ ap (λ (it : Frame). Some it) reply.is_request
        ∙ ap (λ (it : Body). Some (frame.Request client number round reply.sets it reply.mac)) act_of_update.is_act

    -- the replica handled the request
    pub update_handled : IsHandled trace client number act_of_update.parts
    update_handled =
        let handles : Handles trace at replica reply.old reply.new = reply.handles in
        handled_upon trace is_run handles.since (omega (arith, below, handles.came)) handles.entry
        (contains_at trace.entries handles.since handles.entry handles.is_entry)
        replica handles.receiver handles.is_receiver handles.text handles.is_handed client number round reply.sets
        act_of_update.parts reply.mac update_brings update_known

  module _ (stamps : List (ObjectId × Stamp)) (answer : Answer) where
    -- where Done is told the replica has the act's candidates afterwards
    pub done_in_run : (reply : IsReplyTo trace at replica client number round (verdict.Done stamps answer))
        → HasVersions (reply.handles).mid → AddsWhatIsFound (reply.handles).mid reply.accepted
        → TellsDone reply.new client number
        (act_digest client number (act_of_update (verdict.Done stamps answer) tt reply).parts)
        (act_of_update (verdict.Done stamps answer) tt reply).parts stamps answer
    done_in_run reply has adds =
        let given : Verdict = verdict.Done stamps answer in
        let mid : ReplicaState = (reply.handles).mid in
        let act : IsActOn reply.body = act_of_update given tt reply in
        done_alike reply.new (accept_all mid reply.accepted) (reply_accepts given reply) client number
        (act_digest client number act.parts) act.parts stamps answer
        (done_is_true mid client number (culled_in mid reply.sets) act.parts (act_has_parts given tt reply)
        reply.accepted answer has adds stamps (decided_act given tt reply))

    -- an answer is told to a query, from what the replica has
    pub ask_of_told : (reply : IsReplyTo trace at replica client number round (verdict.Told stamps answer))
        → IsAskOf reply.body
    ask_of_told reply =
        told_to_ask (reply.handles).mid client number (culled_in (reply.handles).mid reply.sets) reply.accepted
        stamps answer reply.body
        (body_has_parts (verdict.Told stamps answer) reply) reply.decided

    pub told_in_run : (reply : IsReplyTo trace at replica client number round (verdict.Told stamps answer))
        → TellsQuery (reply.handles).mid (culled_in (reply.handles).mid reply.sets) (ask_of_told reply).query stamps
        answer
    told_in_run reply =
        let asked : IsAskOf reply.body = ask_of_told reply in
        told_is_true (reply.handles).mid client number (culled_in (reply.handles).mid reply.sets) asked.query
        reply.accepted stamps answer
        (ap (λ (it : Body).
        decision_on (reply.handles).mid (asked_at (reply.handles).mid client number reply.sets it) it)
        (sym asked.is_ask)
        ∙ reply.decided)

  -- where Already is told versions that the replica has keep the act
  pub already_in_run : (answer : Answer)
      (reply : IsReplyTo trace at replica client number round (verdict.Already answer))
      → TellsAlready (reply.handles).mid client number
      (act_digest client number (act_of_update (verdict.Already answer) tt reply).parts)
      (culled_in (reply.handles).mid reply.sets) (act_of_update (verdict.Already answer) tt reply).parts answer
  already_in_run answer reply =
      let given : Verdict = verdict.Already answer in
      already_is_true (reply.handles).mid client number (culled_in (reply.handles).mid reply.sets)
      (act_of_update given tt reply).parts (act_has_parts given tt reply) reply.accepted answer
      (decided_act given tt reply)
