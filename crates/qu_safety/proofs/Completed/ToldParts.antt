-- Replies that tell of an update tell of its parts, and the replicas handled it.
use Rattle.std.proofs.Common.{◌≡◌, ℕ, ◌-◌, ◌<◌, ◌≤◌, true, List, [], ◌∷◌, length, refl, sym, ap, subst, ◌∙◌, arith, inl, inr, All}
use Rattle.std.specs.Prelude.{Contains}
use Rattle.std.proofs.lemmas.Bool.{false≢true, or_cases, eqb-true}
use Rattle.std.proofs.lemmas.List.Elements.{All-head, All-tail}
use Rattle.std.proofs.lemmas.Option.{slice_get_within}
use Rattle.qu_base.specs.declared.party.ClientId.{ClientId}
use Rattle.qu_base.specs.declared.party.ObjectId.{ObjectId}
use Rattle.qu_stamp.specs.declared.stamp.Stamp.{Stamp}
use Rattle.qu_stamp.specs.declared.candidate.Candidate.{Candidate}
use Rattle.qu_claims.specs.Decided.{IsDecided}
use Rattle.qu_objects.specs.declared.act.Method.{Method}
use Rattle.qu_objects.specs.declared.answer.Answer.{Answer}
use Rattle.qu_objects.specs.declared.op.Op.TheVariants as op
use Rattle.qu_objects.specs.declared.state.ObjState.{ObjState}
use Rattle.qu_verdicts.specs.declared.verdict.Verdict.{Verdict}
use Rattle.qu_frames.specs.declared.frame.Body.TheVariants as body
use Rattle.qu_machine.specs.declared.record.OpRecord.{OpRecord}
use Rattle.qu_trace.specs.declared.trace.Trace.{Trace}
use Rattle.qu_trace.specs.Operation.{operations_of}
use Rattle.qu_world.specs.Run.{IsRun}
use Rattle.qu_objects.specs.Digesting.{act_digest}
use Rattle.qu_objects.proofs.PartLaws.{same_parts}
use Rattle.qu_safety.proofs.Completed.Along.{objects_in}
use Rattle.qu_claims.specs.Handled.{IsHandled, IsMadeFor}
use Rattle.qu_claims.specs.Completions.{RepliedAt, Replied}
use Rattle.qu_claims.specs.RunSetting.{setting}
use Rattle.qu_client.specs.Sound.{IsFor}
use Rattle.qu_rounds.specs.Invocations.{IsRequestOf}
use Rattle.qu_rounds.proofs.Requesting.{op_for}
use Rattle.qu_replies.specs.Replies.{HoldsOfFirst, Keeps, IsOfUpdate, IsReplyTo}
use Rattle.qu_claims.specs.Quorums.{ActOfQuorum}
use Rattle.qu_claims.specs.Updates.{IsOf}
use Rattle.qu_claims.specs.Values.{HasVersion}
use Rattle.qu_runs.specs.Plain.{ArePlain}
use Rattle.qu_values.proofs.Requests.ClientFacts.{ClientFacts}
use Rattle.qu_rounds.proofs.Members.{is_among}
use Rattle.qu_points.proofs.Operations.Recorded.{recorded_op}
use Rattle.qu_replies.proofs.RepliesInRuns.{IsActOn, act_of_update, update_handled}
use Rattle.qu_shown.proofs.AskedLetters.{AskedBy}
use Rattle.qu_quick.proofs.MadeBefore.{own_client}
use Rattle.qu_replies.proofs.Replying.{reply_sent, reply_letter}
use Rattle.qu_runs.proofs.Fits.Carrying.{tells_as}

-- what a completed act rests on: a candidate of it, decided in the world before the event of the reply
pub record CompletedAct (trace : Trace) (operation : OpRecord) (reply : ℕ) (told : Verdict) (answer : Answer)
    : Type 0 where
  pub parts : List (ObjectId × Method)
  pub is_act : operation.op ≡ op.Act parts
  pub object : ObjectId
  pub candidate : Candidate
  pub is_of : IsOf trace (record { client = operation.client; number = operation.number; parts = parts }) object
      candidate
  pub version : ObjState
  pub has : HasVersion trace object candidate version
  pub keeps : Keeps operation.client operation.number (act_digest operation.client operation.number parts) answer
      version
  pub decided : IsDecided (setting trace) (reply - 1) object candidate
  pub of_quorum : ActOfQuorum trace operation parts reply told
  pub within : reply ≤ length trace.entries
  pub begins : 1 ≤ reply

-- ---- counts

-- what holds of all members holds of each number among them
pub among_all : (P : ℕ → Type 0) (members : List ℕ) → All P members → (index : ℕ) → is_among members index ≡ true
    → P index
among_all P [] all index among = absurd (false≢true among)
among_all P (member ∷ members) all index among =
    elim (or_cases _ (is_among members index) among) [
      | inl here ↦ subst P (eqb-true member index here) (All-head P member members all)
      | inr later ↦ among_all P members (All-tail P member members all) index later
    ]

-- ---- members

-- on an object of the operation, the replica has a candidate of it after so many events, and its version keeps the
-- answer
pub record HasPart (trace : Trace) (operation : OpRecord) (parts : List (ObjectId × Method)) (answer : Answer)
    (time replica : ℕ) (told : ObjectId × Stamp) : Type 0 where
  pub candidate : Candidate
  pub is_told : candidate.stamp ≡ told.1
  pub made : IsMadeFor trace candidate operation.client operation.number parts
  pub accepted : (setting trace).accepted time told.0 replica candidate ≡ true
  pub version : ObjState
  pub has : HasVersion trace told.0 candidate version
  pub keeps : Keeps operation.client operation.number (act_digest operation.client operation.number parts) answer
      version

-- on each of them one whose version keeps an answer, the first one that which is told
pub record HasAll (trace : Trace) (operation : OpRecord) (parts : List (ObjectId × Method)) (answer : Answer)
    (stamps : List (ObjectId × Stamp)) (time replica : ℕ) : Type 0 where
  pub some : 1 ≤ length parts
  pub of_parts : objects_in stamps ≡ objects_in parts
  pub each : All (λ (told : ObjectId × Stamp). (kept : Answer)
      × HasPart trace operation parts kept time replica told) stamps
  pub first : HoldsOfFirst (HasPart trace operation parts answer time replica) stamps

module _ (trace : Trace) (is_run : IsRun trace) (have : ArePlain trace) (clients : ClientFacts trace)
    (operation : OpRecord) (among : Contains (operations_of trace) operation)
    (parts : List (ObjectId × Method)) (is_act : operation.op ≡ op.Act parts) where
  -- what is told of an update to this client and number is told of its parts
  pub told_parts : (at : ℕ) (below : at < length trace.entries) (replica round : ℕ) (given : Verdict)
      (of_update : IsOfUpdate given)
      (reply : IsReplyTo trace at replica operation.client operation.number round given)
      → (act_of_update trace is_run have at below replica operation.client operation.number round given of_update
      reply).parts ≡ parts
  told_parts at below replica round given of_update reply =
      let client : ClientId = operation.client in
      let number : ℕ = operation.number in
      let asks : IsActOn reply.body =
      act_of_update trace is_run have at below replica client number round given of_update reply in
      let letter : AskedBy trace at client number round reply.sets reply.body =
      reply_letter trace is_run have at below replica client number round given reply
      (own_client trace is_run operation among) in
      let request : IsRequestOf trace at client number reply.body =
      clients.asks at letter.asked letter.letter client number round reply.sets reply.body (record {
        within = omega arith;
        is_letter = letter.is_letter;
        is_request = letter.is_request;
      }) in
      let same : request.operation ≡ operation =
      recorded_op trace request.operation operation request.of_trace among
      (ap (λ (it : ClientId). it.0) request.of_client) request.of_number in
      let is_for : IsFor operation.op (body.Act asks.parts) =
      subst (IsFor operation.op) asks.is_act (subst (λ (it : OpRecord). IsFor it.op reply.body) same request.asks) in
      same_parts asks.parts parts (sym (op_for (op.Act asks.parts) operation.op is_for) ∙ is_act)

  -- and so the replica handled it
  pub told_handled : (at : ℕ) (below : at < length trace.entries) (replica round : ℕ) (given : Verdict)
      (of_update : IsOfUpdate given)
      → IsReplyTo trace at replica operation.client operation.number round given
      → IsHandled trace operation.client operation.number parts
  told_handled at below replica round given of_update reply =
      subst (IsHandled trace operation.client operation.number)
      (told_parts at below replica round given of_update reply)
      (update_handled trace is_run have at below replica operation.client operation.number round given of_update reply)

  -- a reply that was sent with this verdict
  pub reply_of : (before round : ℕ) (given : Verdict) (replica : ℕ)
      (replied : Replied trace before operation.client operation.number round given replica)
      → (replied.replied).told ≡ given
      → IsReplyTo trace replied.at replica operation.client operation.number round given
  reply_of before round given replica replied told =
      let sent : RepliedAt trace replied.at operation.client operation.number round given replica = replied.replied in
      reply_sent trace is_run have replied.at (slice_get_within trace.entries replied.at sent.entry sent.is_entry)
      sent.entry sent.is_entry sent.letter sent.sent (record { 0 = replica })
      operation.client operation.number round given sent.shown
      (tells_as sent.letter (record { 0 = replica }) operation.client operation.client operation.number
      operation.number round round sent.told given sent.shown refl refl refl told sent.is_reply)
