-- What a replica is asked at an event, and that a candidate of an update was made where its request was handled.
use Rattle.qu_accepts.proofs.Handling.{one_handled}
use Rattle.qu_base.specs.declared.party.ClientId.{ClientId}
use Rattle.qu_base.specs.declared.party.ObjectId.{ObjectId}
use Rattle.qu_chain.proofs.Ancestry.{Acceptor, acceptor}
use Rattle.qu_chain.proofs.Counting.{Found, found_at}
use Rattle.qu_claims.specs.Accepted.{accepts}
use Rattle.qu_claims.specs.Grounds.{Accepts}
use Rattle.qu_claims.specs.Handled.{IsMadeFor}
use Rattle.qu_claims.specs.Handling.{Handles}
use Rattle.qu_claims.specs.Origins.{Origin}
use Rattle.qu_claims.specs.RunSetting.{setting}
use Rattle.qu_claims.specs.Setting.{IsAccepted}
use Rattle.qu_claims.specs.Times.{world_after}
use Rattle.qu_frames.specs.declared.frame.Body.{Body}
use Rattle.qu_history.specs.declared.sets.SetOf.{SetOf}
use Rattle.qu_laws.proofs.Origins.{origin}
use Rattle.qu_machine.specs.declared.record.OpRecord.{OpRecord}
use Rattle.qu_objects.specs.declared.act.Method.{Method}
use Rattle.qu_points.proofs.Operations.Correct.{operations_correct}
use Rattle.qu_points.proofs.Operations.Recorded.{recorded_op}
use Rattle.qu_points.specs.Points.{IsOfCorrect}
use Rattle.qu_replies.proofs.Replying.{handled_letter}
use Rattle.qu_rounds.specs.Invocations.{IsRequestOf}
use Rattle.qu_rows.specs.State.{ReplicaState}
use Rattle.qu_runs.specs.Plain.{ArePlain}
use Rattle.qu_shown.proofs.AskedLetters.{AskedBy}
use Rattle.qu_stamp.specs.declared.candidate.Candidate.{Candidate}
use Rattle.qu_trace.specs.Faulty.{is_faulty}
use Rattle.qu_trace.specs.Operation.{operations_of}
use Rattle.qu_trace.specs.declared.trace.Trace.{Trace}
use Rattle.qu_values.proofs.Requests.ClientFacts.{ClientFacts}
use Rattle.qu_values.proofs.Updating.Updates.{opening_no_act}
use Rattle.qu_values.proofs.Updating.UpdatesOfRuns.{made_so, of_act}
use Rattle.qu_world.specs.Run.{IsRun}
use Rattle.std.proofs.Common.{List, ap, arith, false, inl, inr, length, subst, sym, true, ℕ, ◌<◌, ◌∙◌, ◌≡◌, ◌≤◌}
use Rattle.std.proofs.lemmas.List.Elements.{All-contains}
use Rattle.std.specs.Prelude.{Contains}
use Rattle.qu_base.specs.declared.party.Party.TheVariants as party
use Rattle.qu_frames.specs.declared.frame.Frame.TheVariants as frame

-- operations are of correct clients
pub own_client : (trace : Trace) → IsRun trace → (operation : OpRecord)
    → Contains (operations_of trace) operation
    → is_faulty trace.setup (party.Client operation.client) ≡ false
own_client trace is_run operation among =
    All-contains (IsOfCorrect trace.setup) (operations_of trace) operation
    (operations_correct trace) among

-- ---- what an event hands over

-- at the event of the entry with this index a replica handles a request of this client, number and round
pub record IsAskedAt (trace : Trace) (time : ℕ) (client : ClientId) (number round : ℕ) : Type 0 where
  pub within : time < length trace.entries
  pub place : ℕ
  pub old : ReplicaState
  pub new : ReplicaState
  pub handles : Handles trace time place old new
  pub sets : List SetOf
  pub asks : Body
  pub mac : List ℕ
  pub is_request : handles.carried ≡ frame.Request client number round sets asks mac

same_frame : (first second : ClientId) (asked number turn round : ℕ) (sets shown : List SetOf) (asks told : Body)
    (mac seal : List ℕ)
    → frame.Request first asked turn sets asks mac ≡ frame.Request second number round shown told seal
    → (first ≡ second) × (asked ≡ number) × (asks ≡ told)
same_frame first second asked number turn round sets shown asks told mac seal same = (cc, cc, cc)

-- one event makes a replica handle one request
pub one_asked : (trace : Trace) (time : ℕ) (client other : ClientId) (number turn round further : ℕ)
    (one : IsAskedAt trace time client number round) (two : IsAskedAt trace time other turn further)
    → (client ≡ other) × (number ≡ turn) × (one.asks ≡ two.asks)
one_asked trace time client other number turn round further one two =
    let same : (one.place ≡ two.place) × ((one.handles).carried ≡ (two.handles).carried) =
    one_handled trace time one.place two.place one.old one.new two.old two.new one.handles two.handles in
    same_frame client other number turn round further one.sets two.sets one.asks two.asks one.mac two.mac
    (sym one.is_request ∙ same.1 ∙ two.is_request)

-- a correct client sent it
pub asked_by_letter : (trace : Trace) → ArePlain trace → (time : ℕ) (client : ClientId) (number round : ℕ)
    (asked : IsAskedAt trace time client number round) → is_faulty trace.setup (party.Client client) ≡ false
    → AskedBy trace time client number round asked.sets asked.asks
asked_by_letter trace have time client number round asked correct =
    handled_letter trace have time asked.within asked.place asked.old asked.new asked.handles client number round
    asked.sets asked.asks asked.mac asked.is_request correct

-- what is asked under the number of an operation, be it a repair, is asked after it began
pub asked_begun : (trace : Trace) → IsRun trace → ArePlain trace → ClientFacts trace → (time : ℕ) (operation : OpRecord)
    → Contains (operations_of trace) operation → (round : ℕ)
    → IsAskedAt trace time operation.client operation.number round → operation.invoked ≤ time
asked_begun trace is_run have clients time operation of_trace round asked =
    let within : time < length trace.entries = asked.within in
    let letter : AskedBy trace time operation.client operation.number round asked.sets asked.asks =
    asked_by_letter trace have time operation.client operation.number round asked
    (own_client trace is_run operation of_trace) in
    let request : IsRequestOf trace time operation.client operation.number asked.asks =
    clients.asks time letter.asked letter.letter operation.client operation.number round asked.sets asked.asks
    (record { within = omega arith; is_letter = letter.is_letter; is_request = letter.is_request }) in
    let same : request.operation ≡ operation =
    recorded_op trace request.operation operation request.of_trace of_trace
    (ap (λ (it : ClientId). it.0) request.of_client) request.of_number in
    subst (λ (it : OpRecord). it.invoked ≤ time) same request.begun

module _ (trace : Trace) (is_run : IsRun trace) (have : ArePlain trace) where
  -- where an operation's candidate was made, a replica was handed the request of its update
  pub record MakesAct (time : ℕ) (candidate : Candidate) : Type 0 where
    pub client : ClientId
    pub number : ℕ
    pub round : ℕ
    pub parts : List (ObjectId × Method)
    pub asked : IsAskedAt trace time client number round
    pub made : IsMadeFor trace candidate client number parts

  makes_asked : (object : ObjectId) (candidate : Candidate) (count : ℕ) → count ≤ length trace.entries
      → (came : Origin trace count object candidate)
      → (setting trace).is_act candidate ≡ true → MakesAct came.past candidate
  makes_asked object candidate count within came is_act =
      let one : Accepts ((came.delivered).handles).mid came.new ((came.delivered).handles).carried =
      (came.delivered).accepts in
      let earlier : came.past < count = came.earlier in
      record {
        client = one.client;
        number = one.number;
        round = one.round;
        parts = (of_act trace is_run have count within object candidate came is_act).parts;
        asked = record {
          within = omega arith;
          place = came.place;
          old = came.old;
          new = came.new;
          handles = (came.delivered).handles;
          sets = one.sent;
          asks = one.asks;
          mac = one.mac;
          is_request = one.is_request;
        };
        made = made_so trace is_run have count within object candidate came is_act;
      }

  -- an operation's candidate that is accepted by this time was made before
  pub made_before : (time : ℕ) → time ≤ length trace.entries → (object : ObjectId) (candidate : Candidate)
      → IsAccepted (setting trace) time object candidate → (setting trace).is_act candidate ≡ true
      → (past : ℕ) × (past < time) × MakesAct past candidate
  unfolding setting
  made_before time within object candidate accepted is_act =
      let who : Acceptor (setting trace) time object candidate = acceptor (setting trace) time object candidate
      accepted in
      let found : Found (accepts object candidate) (world_after trace time).replicas who.replica =
      found_at (accepts object candidate) (world_after trace time).replicas who.replica who.accepted in
      elim (origin trace is_run have time within who.replica found.item found.is_at object candidate found.passed) [
        | inl begins ↦ absurd (opening_no_act trace candidate begins is_act)
        | inr came ↦ (came.past, came.earlier, makes_asked object candidate time within came is_act)
      ]
