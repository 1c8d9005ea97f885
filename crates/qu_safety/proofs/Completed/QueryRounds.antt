-- What the round that completed a query asked, and what was told in it: each of its requests is the query, whatever
-- other requests its client sent under the number.
use Rattle.std.proofs.Common.{◌≡◌, ℕ, ◌+◌, ◌-◌, ◌<◌, ◌≤◌, List, length, sym, ap, subst, ◌∙◌, arith, All, Contains}
use Rattle.std.proofs.lemmas.List.Elements.{All-weaker}
use Rattle.qu_base.specs.declared.party.ClientId.{ClientId}
use Rattle.qu_base.specs.declared.party.ObjectId.{ObjectId}
use Rattle.qu_base.specs.Bounds.{quorum}
use Rattle.qu_stamp.specs.declared.stamp.Stamp.{Stamp}
use Rattle.qu_history.specs.declared.sets.SetOf.{SetOf}
use Rattle.qu_objects.specs.declared.answer.Answer.{Answer}
use Rattle.qu_objects.specs.declared.op.Op.{Op}
use Rattle.qu_objects.specs.declared.op.Op.TheVariants as op
use Rattle.qu_objects.specs.declared.query.Ask.{Ask}
use Rattle.qu_frames.specs.declared.frame.Body.{Body}
use Rattle.qu_frames.specs.declared.frame.Body.TheVariants as body
use Rattle.qu_frames.specs.declared.frame.Letter.{Letter}
use Rattle.qu_verdicts.specs.declared.verdict.Verdict.TheVariants as verdict
use Rattle.qu_frames.specs.Body.{body_of}
use Rattle.qu_client.specs.Verdicts.{fitting}
use Rattle.qu_machine.specs.declared.record.OpRecord.{OpRecord}
use Rattle.qu_trace.specs.declared.trace.Trace.{Trace}
use Rattle.qu_trace.specs.Operation.{operations_of}
use Rattle.qu_world.specs.Run.{IsRun}
use Rattle.qu_claims.specs.Completions.{Replied, IsCompleted}
use Rattle.qu_runs.specs.Plain.{ArePlain}
use Rattle.qu_runs.proofs.Small.{some_member, quorum_outnumbers}
use Rattle.qu_runs.proofs.Worlds.LaterLetters.{letter_later}
use Rattle.qu_client.specs.Sound.{IsFor}
use Rattle.qu_rounds.specs.Invocations.{IsRequestOf}
use Rattle.qu_rounds.proofs.Requesting.{op_for}
use Rattle.qu_points.proofs.Operations.Recorded.{recorded_op}
use Rattle.qu_shown.proofs.AskedLetters.{AskedBy}
use Rattle.qu_values.proofs.Requests.ClientFacts.{IsAskedBy, ClientFacts}
use Rattle.qu_replies.proofs.Replying.{reply_letter}
use Rattle.qu_quick.proofs.MadeBefore.{own_client}
use Rattle.qu_safety.proofs.Completed.ToldAnswers.{IsTold, told_by_fit, ToldBefore, tells_by_reply}

-- what the members of the round told, one of them for all, which was asked the query
pub record ToldRound (trace : Trace) (operation : OpRecord) (query : List (ObjectId × Ask)) (round before : ℕ)
    (answer : Answer) (members : List ℕ) : Type 0 where
  pub stamps : List (ObjectId × Stamp)
  pub all : All (ToldBefore trace operation.client operation.number round before stamps answer) members
  pub member : ℕ
  pub tells : ToldBefore trace operation.client operation.number round before stamps answer member
  pub asked : tells.query ≡ query

same_queries : (first second : List (ObjectId × Ask)) → op.Query first ≡ op.Query second → first ≡ second
same_queries first second same = cc

module _ (trace : Trace) (is_run : IsRun trace) (have : ArePlain trace) (clients : ClientFacts trace)
    (operation : OpRecord) (among : Contains (operations_of trace) operation) (query : List (ObjectId × Ask))
    (is_query : operation.op ≡ op.Query query) where
  -- what a replica was asked that told an answer
  module _ (round before : ℕ) (stamps : List (ObjectId × Stamp)) (answer : Answer) (member : ℕ)
      (tells : ToldBefore trace operation.client operation.number round before stamps answer member) where
    told_letter : AskedBy trace tells.at operation.client operation.number round (tells.reply).sets (tells.reply).body
    told_letter =
        reply_letter trace is_run have tells.at tells.below member operation.client operation.number round
        (verdict.Told stamps answer) tells.reply (own_client trace is_run operation among)

    -- it stays sent
    told_request : IsAskedBy trace (length trace.entries) told_letter.asked told_letter.letter operation.client
        operation.number round (tells.reply).sets (tells.reply).body
    told_request =
        let below : tells.at < length trace.entries = tells.below in
        record {
          within = omega arith;
          is_letter = letter_later trace tells.at (length trace.entries) told_letter.asked told_letter.letter
              (omega arith) (omega arith) told_letter.is_letter;
          is_request = told_letter.is_request;
        }

    -- is the operation's query
    query_asked : tells.query ≡ query
    query_asked =
        let asked : Body = (tells.reply).body in
        let last : ℕ = length trace.entries in
        let request : IsRequestOf trace last operation.client operation.number asked =
        clients.asks last told_letter.asked told_letter.letter operation.client operation.number round
        (tells.reply).sets asked told_request in
        let same : request.operation ≡ operation =
        recorded_op trace request.operation operation request.of_trace among
        (ap (λ (it : ClientId). it.0) request.of_client) request.of_number in
        let is_for : IsFor operation.op (body.Ask tells.query) =
        subst (IsFor operation.op) tells.is_ask (subst (λ (it : OpRecord). IsFor it.op asked) same request.asks) in
        same_queries tells.query query (sym (op_for (op.Query tells.query) operation.op is_for) ∙ is_query)

  module _ (reply : ℕ) (answer : Answer) (done : IsCompleted trace operation reply answer) where
    pub told_round : ToldRound trace operation query done.round (reply - 1) answer done.members
    told_round =
        let told : IsTold done.verdict answer =
        told_by_fit query done.verdict answer (ap (λ (it : Op). fitting (body_of it) done.verdict)
        (sym is_query) ∙ done.fits) in
        let P : ℕ → Type 0 =
        ToldBefore trace operation.client operation.number done.round (reply - 1) told.stamps answer in
        let all : All P done.members =
        All-weaker (Replied trace (reply - 1) operation.client operation.number done.round done.verdict) P
        (tells_by_reply trace is_run have operation.client operation.number done.round (reply - 1) done.verdict answer
        told) done.members done.replied in
        let some : trace.setup.bounds < quorum trace.setup.bounds =
        quorum_outnumbers trace.setup.bounds (is_run.setup).some_faults in
        let enough : quorum trace.setup.bounds ≤ length done.members + trace.setup.bounds = done.enough in
        let one : (member : ℕ) × P member = some_member P done.members (omega (arith, some, enough)) all in
        record {
          stamps = told.stamps;
          all = all;
          member = one.0;
          tells = one.1;
          asked = query_asked done.round (reply - 1) told.stamps answer one.0 one.1;
        }

    -- each request of the round that completed a query is this query: so it is with a correct replica that told the
    -- answer, and a client asks one thing in a round
    pub query_round_asks : (count at : ℕ) (letter : Letter) (sets : List SetOf) (asked : Body)
        → IsAskedBy trace count at letter operation.client operation.number done.round sets asked
        → asked ≡ body.Ask query
    query_round_asks count at letter sets asked it =
        let round : ToldRound trace operation query done.round (reply - 1) answer done.members = told_round in
        let tells : ToldBefore trace operation.client operation.number done.round (reply - 1) round.stamps answer
        round.member = round.tells in
        let other : AskedBy trace tells.at operation.client operation.number done.round (tells.reply).sets
        (tells.reply).body =
        told_letter done.round (reply - 1) round.stamps answer round.member tells in
        let last : ℕ = length trace.entries in
        let one : IsAskedBy trace last at letter operation.client operation.number done.round sets asked = record {
          within = omega arith;
          is_letter = letter_later trace count last at letter it.within (omega arith) it.is_letter;
          is_request = it.is_request;
        } in
        let same : (sets ≡ (tells.reply).sets) × (asked ≡ (tells.reply).body) =
        clients.alike last at other.asked letter other.letter operation.client operation.number done.round sets
        (tells.reply).sets asked (tells.reply).body one
        (told_request done.round (reply - 1) round.stamps answer round.member tells) in
        same.1 ∙ tells.is_ask ∙ ap body.Ask round.asked
