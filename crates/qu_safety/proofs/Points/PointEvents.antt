-- Points are at different events, each after its operation began.
use Rattle.std.proofs.Common.{◌≡◌, ℕ, zero, suc, ◌<◌, ◌≤◌, true, List, length, Option, None, Some, refl, sym, ap, subst, ◌∙◌, arith, inl, inr}
use Rattle.std.specs.Prelude.{slice_get, Contains}
use Rattle.std.proofs.lemmas.Bool.{false≢true}
use Rattle.std.proofs.lemmas.Option.{slice_get_within, same_Some}
use Rattle.qu_base.specs.declared.party.ClientId.{ClientId}
use Rattle.qu_base.specs.declared.party.ObjectId.{ObjectId}
use Rattle.qu_stamp.specs.declared.candidate.Candidate.{Candidate}
use Rattle.qu_objects.specs.declared.op.Op.{Op}
use Rattle.qu_objects.specs.declared.op.Op.TheVariants as op
use Rattle.qu_objects.specs.declared.op.Outcome.{Outcome}
use Rattle.qu_objects.specs.declared.op.Outcome.TheVariants as outcome
use Rattle.qu_claims.specs.Setting.{IsNew}
use Rattle.qu_chain.specs.Laws.{Laws}
use Rattle.qu_chain.specs.Joint.{Joint}
use Rattle.qu_chain.proofs.Ancestry.{accepted_by_decided}
use Rattle.qu_chain.proofs.Tops.{newly}
use Rattle.qu_chain.proofs.Updates.{one_update}
use Rattle.qu_frames.specs.declared.frame.Body.{Body}
use Rattle.qu_frames.specs.declared.frame.Body.TheVariants as body
use Rattle.qu_verdicts.specs.declared.verdict.Verdict.{Verdict}
use Rattle.qu_machine.specs.declared.record.OpRecord.{OpRecord}
use Rattle.qu_machine.specs.declared.record.Point.{Point}
use Rattle.qu_machine.proofs.Equalities.{Passes, passes_from_any}
use Rattle.qu_trace.specs.declared.trace.Entry.{Entry}
use Rattle.qu_trace.specs.declared.trace.Trace.{Trace}
use Rattle.qu_trace.specs.Operation.{operations_of}
use Rattle.qu_world.specs.Run.{IsRun}
use Rattle.qu_objects.specs.declared.act.Method.{Method}
use Rattle.qu_objects.specs.declared.query.Ask.{Ask}
use Rattle.qu_claims.specs.RunSetting.{setting}
use Rattle.qu_claims.specs.Updates.{Update, IsOf}
use Rattle.qu_safety.proofs.Points.ActPoints.{IsTurnOf, turn_at}
use Rattle.qu_values.proofs.Updating.Updates.{last_is, acts, one_of}
use Rattle.qu_values.proofs.Updating.UpdateFacts.{UpdateFacts, NoneIsRepeated}
use Rattle.qu_runs.proofs.Acts.OneAct.{ActsAreOne, one_made_for}
use Rattle.qu_claims.specs.Grounds.{Accepts, IsDelivered, AddsTo}
use Rattle.qu_claims.specs.Order.{AnswersFirst, query_effect}
use Rattle.qu_safety.proofs.Points.OwnedPoints.{IsOperationPoint, IsFaultyPoint, HasOwner}
use Rattle.qu_points.specs.Points.{effect_of}
use Rattle.qu_claims.specs.Answers.{answers, sends_answer, delivered_round}
use Rattle.qu_world.specs.State.{numbered}
use Rattle.qu_objects.specs.declared.answer.Answer.{Answer}
use Rattle.qu_replies.specs.Replies.{IsReplyTo}
use Rattle.qu_runs.specs.Plain.{ArePlain}
use Rattle.qu_accepts.proofs.Accepting.{Acceptance}
use Rattle.qu_laws.proofs.ShownWhenAccepted.{acceptance_of}
use Rattle.qu_values.proofs.Requests.ClientFacts.{IsAskedBy, ClientFacts}
use Rattle.qu_safety.proofs.Completed.QueryRounds.{query_round_asks}
use Rattle.qu_claims.specs.Completions.{IsCompleted}
use Rattle.qu_replies.proofs.Replying.{reply_sent}
use Rattle.qu_shown.proofs.AskedLetters.{AskedBy}
use Rattle.qu_trace.specs.Faulty.{is_faulty}
use Rattle.qu_runs.proofs.Small.{same_point}
use Rattle.qu_base.specs.declared.party.Party.TheVariants as party
use Rattle.qu_safety.proofs.Points.EventRequests.{IsReplyIn, reply_in, one_point}
use Rattle.qu_quick.proofs.MadeBefore.{own_client, IsAskedAt, one_asked, asked_by_letter, asked_begun, MakesAct, made_before}

module _ (trace : Trace) (is_run : IsRun trace) (have : ArePlain trace) (clients : ClientFacts trace) where
  -- ---- queries

  -- a reply is sent where its request is delivered
  asked_by_reply : (time : ℕ) → time < length trace.entries → (replica : ℕ) (client : ClientId) (number round : ℕ)
      (verdict : Verdict)
      → IsReplyTo trace time replica client number round verdict → IsAskedAt trace time client number round
  asked_by_reply time within replica client number round verdict reply = record {
    within = within;
    place = replica;
    old = reply.old;
    new = reply.new;
    handles = reply.handles;
    sets = reply.sets;
    asks = reply.body;
    mac = reply.mac;
    is_request = reply.is_request;
  }

  sends_asked : (client : ClientId) (number round time : ℕ) (found : Option Entry) → slice_get trace.entries time
      ≡ found → sends_answer client number round found ≡ true → IsAskedAt trace time client number round
  sends_asked client number round time None is sends = absurd (false≢true sends)
  sends_asked client number round time (Some entry) is sends =
      let one : Passes (answers client number round) entry.letters =
      passes_from_any (answers client number round) entry.letters sends in
      let it : IsReplyIn client number round one.found = reply_in client number round one.found one.passes in
      asked_by_reply time (slice_get_within trace.entries time entry is) (it.replica).0 client number round it.verdict
      (reply_sent trace is_run have time (slice_get_within trace.entries time entry is) entry is one.found one.of_list
      it.replica client number round it.verdict it.shown it.is_reply)

  answers_asked : (client : ClientId) (number reply event : ℕ)
      → (first : AnswersFirst trace client number reply event)
      → (time : ℕ) × (event ≡ suc time) × IsAskedAt trace time client number first.round
  answers_asked client number reply zero first = absurd (false≢true first.by_then)
  answers_asked client number reply (suc time) first = (
    time,
    refl,
    sends_asked client number first.round time
        (slice_get trace.entries time) refl first.by_then,
  )

  -- ---- updates

  -- what a replica is asked is no query
  abbrev IsNoQuery : Body → Type 0
  IsNoQuery asks = (query : List (ObjectId × Ask)) → asks ≡ body.Ask query → ⊥

  adds_no_query : (asks : Body) (group : List (ObjectId × ℕ)) (object : ObjectId) → AddsTo asks group object
      → IsNoQuery asks
  adds_no_query (body.Act parts) group object names query same = absurd (cc)
  adds_no_query (body.Ask parts) group object never query same = never
  adds_no_query (body.Mend target) group object mended query same = absurd (cc)

  -- where a replica accepts a candidate it is handed the request of an act or of a repair
  record TakesRequest (time : ℕ) : Type 0 where
    client : ClientId
    number : ℕ
    round : ℕ
    asked : IsAskedAt trace time client number round
    no_query : IsNoQuery asked.asks

  accepts_asked : (time : ℕ) (object : ObjectId) (place : ℕ) (candidate : Candidate)
      → IsNew (setting trace) time object place candidate → time < length trace.entries → TakesRequest time
  accepts_asked time object place candidate new within =
      let accepted : Acceptance trace time object place candidate =
      acceptance_of trace is_run have time object place candidate new in
      let delivered : IsDelivered trace time place accepted.old accepted.new object = accepted.delivered in
      let one : Accepts (delivered.handles).mid accepted.new (delivered.handles).carried = delivered.accepts in
      record {
        client = one.client;
        number = one.number;
        round = one.round;
        asked = record {
          within = within;
          place = place;
          old = accepted.old;
          new = accepted.new;
          handles = delivered.handles;
          sets = one.sent;
          asks = one.asks;
          mac = one.mac;
          is_request = one.is_request;
        };
        no_query = adds_no_query one.asks one.group object delivered.adds;
      }

  module _ (one_act : ActsAreOne trace) (laws : Laws (setting trace)) (joint : Joint (setting trace))
      (facts : UpdateFacts trace) (once : NoneIsRepeated trace) where
    abbrev update_of : OpRecord → List (ObjectId × Method) → Update
    update_of operation parts = record { client = operation.client; number = operation.number; parts = parts }

    -- the event of such a step hands over a request that is no query's
    turn_asked : (time : ℕ) (update : Update) → (turn : IsTurnOf trace laws joint one_act facts once time update)
        → TakesRequest time
    turn_asked time update it =
        let within : time < (setting trace).last = (it.turn).within in
        elim (newly (setting trace) laws joint time within it.object it.candidate (it.turn).after) [
          | inl before ↦ absurd ((it.turn).before before)
          | inr under ↦
              accepts_asked time it.object under.replica under.given under.new (omega (arith, last_is trace, within))
        ]

    -- an update began before the step that decides it: before its candidate was made
    turn_begun : (time : ℕ) (operation : OpRecord) → Contains (operations_of trace) operation
        → (parts : List (ObjectId × Method))
        → IsTurnOf trace laws joint one_act facts once time (update_of operation parts) → operation.invoked ≤ time
    turn_begun time operation among parts it =
        let within : time < (setting trace).last = (it.turn).within in
        let made = made_before trace is_run have (suc time) (omega (arith, last_is trace, within)) it.object
        it.candidate (accepted_by_decided (setting trace) laws.lasting (suc time) it.object it.candidate
        (it.turn).after)
        (acts trace (update_of operation parts) it.object it.candidate it.is_of) in
        let past : ℕ = made.0 in
        let earlier : past < suc time = made.1 in
        let upon : MakesAct trace is_run have past it.candidate = made.2 in
        let same =
        one_made_for trace one_act it.candidate upon.client operation.client upon.number operation.number
        upon.parts parts upon.made (it.is_of).made in
        let asked : IsAskedAt trace past operation.client operation.number upon.round =
        subst (λ (who : ClientId). IsAskedAt trace past who operation.number upon.round) same.0
        (subst (λ (number : ℕ). IsAskedAt trace past upon.client number upon.round) same.1 upon.asked) in
        let invoked : operation.invoked ≤ past =
        asked_begun trace is_run have clients past operation among upon.round asked in
        omega arith

    -- ---- points

    -- how an operation takes effect at the event of the entry with this index
    data Takes (time : ℕ) (operation : OpRecord) : Type 0 where
      decided : (parts : List (ObjectId × Method))
          → IsTurnOf trace laws joint one_act facts once time (update_of operation parts) → Takes time operation
      answered : (query : List (ObjectId × Ask)) (round : ℕ)
          (asked : IsAskedAt trace time operation.client operation.number round) → asked.asks ≡ body.Ask query
          → Takes time operation

    record TakesAt (event : ℕ) (operation : OpRecord) : Type 0 where
      time : ℕ
      is_after : event ≡ suc time
      within : time < length trace.entries
      takes : Takes time operation

    module _ (operation : OpRecord) (among : Contains (operations_of trace) operation)
        (query : List (ObjectId × Ask)) (is_query : operation.op ≡ op.Query query) where
      -- what is asked in the round that completed it
      asks_query : (reply : ℕ) (answer : Answer) → operation.reply ≡ Some (reply, outcome.Done answer)
          → (round : ℕ) → delivered_round trace (numbered trace.entries reply) ≡ Some round → (time : ℕ)
          → (asked : IsAskedAt trace time operation.client operation.number round) → asked.asks ≡ body.Ask query
      asks_query reply answer replied round completed time asked =
          let within : time < length trace.entries = asked.within in
          let done : IsCompleted trace operation reply answer =
          clients.completes operation among reply answer replied in
          let letter : AskedBy trace time operation.client operation.number round asked.sets asked.asks =
          asked_by_letter trace have time operation.client operation.number round asked
          (own_client trace is_run operation among) in
          query_round_asks trace is_run have clients operation among query is_query reply answer done time letter.asked
          letter.letter asked.sets asked.asks
          (subst (λ (turn : ℕ). IsAskedBy trace time letter.asked letter.letter operation.client operation.number turn
          asked.sets asked.asks) (same_Some round done.round (sym completed ∙ done.delivered))
          (record { within = omega arith; is_letter = letter.is_letter; is_request = letter.is_request }))

      query_takes : (event : ℕ) (replied : Option (ℕ × Outcome)) → operation.reply ≡ replied
          → query_effect trace operation event replied → TakesAt event operation
      query_takes event None is effect = absurd effect
      query_takes event (Some (reply, outcome.GaveUp)) is effect = absurd effect
      query_takes event (Some (reply, outcome.Done answer)) is effect =
          let first : AnswersFirst trace operation.client operation.number reply event = effect in
          let it : (time : ℕ) × (event ≡ suc time)
          × IsAskedAt trace time operation.client operation.number first.round =
          answers_asked operation.client operation.number reply event first in
          let asked : IsAskedAt trace it.0 operation.client operation.number first.round = it.2 in
          record {
            time = it.0;
            is_after = it.1;
            within = asked.within;
            takes = Takes.answered query first.round asked
                (asks_query reply answer is first.round first.completed it.0 asked);
          }

    takes_at : (operation : OpRecord) → Contains (operations_of trace) operation → (event : ℕ) (what : Op)
        → operation.op ≡ what → effect_of trace operation event what → TakesAt event operation
    takes_at operation among event (op.Act parts) is effect =
        let it : (time : ℕ) × (event ≡ suc time)
        × IsTurnOf trace laws joint one_act facts once time (update_of operation parts) =
        turn_at trace laws joint one_act facts once (update_of operation parts) event effect in
        let within : it.0 < (setting trace).last = ((it.2).turn).within in
        record {
          time = it.0;
          is_after = it.1;
          within = omega (arith, last_is trace, within);
          takes = Takes.decided parts it.2;
        }
    takes_at operation among event (op.Query query) is effect =
        query_takes operation among query is event operation.reply refl effect

    point_takes : (point : Point) → (is : IsOperationPoint trace point) → TakesAt point.event is.operation
    point_takes point is = takes_at is.operation is.of_trace point.event is.operation.op refl is.effect

    begun : (time : ℕ) (operation : OpRecord) → Contains (operations_of trace) operation
        → Takes time operation → operation.invoked ≤ time
    begun time operation among (Takes.decided parts turn) = turn_begun time operation among parts turn
    begun time operation among (Takes.answered query round asked asks) =
        asked_begun trace is_run have clients time operation among round asked

    -- the operation of a point began before
    pub begun_before : (point : Point) → (is : IsOperationPoint trace point) → is.operation.invoked < point.event
    begun_before point is =
        let it : TakesAt point.event is.operation = point_takes point is in
        let event : point.event ≡ suc it.time = it.is_after in
        let before : is.operation.invoked ≤ it.time = begun it.time is.operation is.of_trace it.takes in
        omega arith

    -- an event that decides an update answers no query
    not_both : (time : ℕ) (update : Update) → IsTurnOf trace laws joint one_act facts once time update
        → (client : ClientId) (number round : ℕ) (asked : IsAskedAt trace time client number round)
        → (query : List (ObjectId × Ask)) → asked.asks ≡ body.Ask query → ⊥
    not_both time update turn client number round asked query asks =
        let upon : TakesRequest time = turn_asked time update turn in
        upon.no_query query
        ((one_asked trace time upon.client client upon.number number upon.round round upon.asked asked).2 ∙ asks)

    one_takes : (time : ℕ) (first second : OpRecord) → Contains (operations_of trace) first
        → Contains (operations_of trace) second → Takes time first → Takes time second
        → (first.client ≡ second.client) × (first.number ≡ second.number)
    one_takes time first second one two (Takes.decided parts turn) (Takes.decided others other) =
        let same : update_of first parts ≡ update_of second others =
        one_update (setting trace) laws joint Update (IsOf trace) (one_of trace one_act) facts.shared
        facts.spread once (acts trace) (update_of first parts) (update_of second others)
        time turn.object other.object turn.candidate other.candidate turn.is_of other.is_of turn.turn other.turn in
        (ap (λ (it : Update). it.client) same, ap (λ (it : Update). it.number) same)
    one_takes time first second one two (Takes.decided parts turn) (Takes.answered query round asked asks) =
        absurd (not_both time (update_of first parts) turn second.client second.number round asked query asks)
    one_takes time first second one two (Takes.answered query round asked asks) (Takes.decided parts turn) =
        absurd (not_both time (update_of second parts) turn first.client first.number round asked query asks)
    one_takes time first second one two (Takes.answered query round asked asks)
        (Takes.answered other further besides are) =
        let same =
        one_asked trace time first.client second.client first.number second.number round further asked besides in
        (same.0, same.1)

    -- ---- points of faulty clients

    -- the update of a point of a faulty client
    abbrev update_by : (point : Point) → IsFaultyPoint trace point → Update
    update_by point is = record { client = point.client; number = point.number; parts = is.parts }

    -- it takes effect at the event of the entry with this index
    record TurnsAt (event : ℕ) (update : Update) : Type 0 where
      time : ℕ
      is_after : event ≡ suc time
      within : time < length trace.entries
      turn : IsTurnOf trace laws joint one_act facts once time update

    faulty_turns : (point : Point) → (is : IsFaultyPoint trace point) → TurnsAt point.event (update_by point is)
    faulty_turns point is =
        let it = turn_at trace laws joint one_act facts once (update_by point is) point.event is.effect in
        let within : it.0 < (setting trace).last = ((it.2).turn).within in
        record { time = it.0; is_after = it.1; within = omega (arith, last_is trace, within); turn = it.2 }

    -- a point is at an event of the trace
    pub point_bounds : (point : Point) → HasOwner trace point → (1 ≤ point.event) × (point.event ≤ length trace.entries)
    point_bounds point (inl is) =
        let it : TakesAt point.event is.operation = point_takes point is in
        let event : point.event ≡ suc it.time = it.is_after in
        let within : it.time < length trace.entries = it.within in
        (omega arith, omega arith)
    point_bounds point (inr is) =
        let it : TurnsAt point.event (update_by point is) = faulty_turns point is in
        let event : point.event ≡ suc it.time = it.is_after in
        let within : it.time < length trace.entries = it.within in
        (omega arith, omega arith)

    -- an event that decides an update of a faulty client is where no operation takes effect
    not_of_both : (time : ℕ) (update : Update) → IsTurnOf trace laws joint one_act facts once time update
        → is_faulty trace.setup (party.Client update.client) ≡ true
        → (operation : OpRecord) → Contains (operations_of trace) operation → Takes time operation → ⊥
    not_of_both time update turn declared operation among (Takes.decided parts other) =
        let same : update ≡ update_of operation parts =
        one_update (setting trace) laws joint Update (IsOf trace) (one_of trace one_act) facts.shared
        facts.spread once (acts trace) update (update_of operation parts) time turn.object other.object turn.candidate
        other.candidate turn.is_of other.is_of turn.turn other.turn in
        false≢true (sym (own_client trace is_run operation among)
        ∙ ap (λ (it : Update). is_faulty trace.setup (party.Client it.client)) (sym same) ∙ declared)
    not_of_both time update turn declared operation among (Takes.answered query round asked asks) =
        not_both time update turn operation.client operation.number round asked query asks

    apart_from_faulty : (first second : Point) → (one : IsOperationPoint trace first)
        → (two : IsFaultyPoint trace second)
        → first.event ≡ second.event → ⊥
    apart_from_faulty first second one two same =
        let it : TakesAt first.event one.operation = point_takes first one in
        let its : TurnsAt second.event (update_by second two) = faulty_turns second two in
        let event : first.event ≡ suc it.time = it.is_after in
        let other : second.event ≡ suc its.time = its.is_after in
        let time : it.time ≡ its.time = omega arith in
        not_of_both its.time (update_by second two) its.turn two.declared one.operation one.of_trace
        (subst (λ (at : ℕ). Takes at one.operation) time it.takes)

    -- points of faulty clients with one update are one
    same_faulty : (first second : Point) → (one : IsFaultyPoint trace first) → (two : IsFaultyPoint trace second)
        → first.event ≡ second.event → update_by first one ≡ update_by second two → first ≡ second
    same_faulty first second one two event same =
        same_point first second event (ap (λ (it : Update). it.client) same) (ap (λ (it : Update). it.number) same)
        (one.op ∙ ap (λ (it : Update). op.Act it.parts) same ∙ sym two.op) (one.mark ∙ sym two.mark)

    faulty_apart : (first second : Point) → IsFaultyPoint trace first → IsFaultyPoint trace second
        → first.event ≡ second.event → first ≡ second
    faulty_apart first second one two same =
        let it : TurnsAt first.event (update_by first one) = faulty_turns first one in
        let its : TurnsAt second.event (update_by second two) = faulty_turns second two in
        let event : first.event ≡ suc it.time = it.is_after in
        let other : second.event ≡ suc its.time = its.is_after in
        let time : it.time ≡ its.time = omega arith in
        let here : IsTurnOf trace laws joint one_act facts once its.time (update_by first one) =
        subst (λ (at : ℕ). IsTurnOf trace laws joint one_act facts once at (update_by first one)) time it.turn in
        let there : IsTurnOf trace laws joint one_act facts once its.time (update_by second two) = its.turn in
        same_faulty first second one two same
        (one_update (setting trace) laws joint Update (IsOf trace) (one_of trace one_act) facts.shared
        facts.spread once (acts trace) (update_by first one) (update_by second two) its.time here.object there.object
        here.candidate there.candidate here.is_of there.is_of here.turn there.turn)

    operations_apart : (first second : Point) → IsOperationPoint trace first → IsOperationPoint trace second
        → first.event ≡ second.event → first ≡ second
    operations_apart first second one two same =
        let it : TakesAt first.event one.operation = point_takes first one in
        let its : TakesAt second.event two.operation = point_takes second two in
        let event : first.event ≡ suc it.time = it.is_after in
        let other : second.event ≡ suc its.time = its.is_after in
        let time : it.time ≡ its.time = omega arith in
        let fields : ((one.operation).client ≡ (two.operation).client)
        × ((one.operation).number ≡ (two.operation).number) =
        one_takes its.time one.operation two.operation one.of_trace two.of_trace
        (subst (λ (at : ℕ). Takes at one.operation) time it.takes) its.takes in
        one_point trace first second one two (sym one.client ∙ fields.0 ∙ two.client)
        (sym one.number ∙ fields.1 ∙ two.number)

    -- points differ in their events
    pub points_apart : (first second : Point) → HasOwner trace first → HasOwner trace second
        → first.event ≡ second.event → first ≡ second
    points_apart first second (inl one) (inl two) same = operations_apart first second one two same
    points_apart first second (inl one) (inr two) same = absurd (apart_from_faulty first second one two same)
    points_apart first second (inr one) (inl two) same = absurd (apart_from_faulty second first two one (sym same))
    points_apart first second (inr one) (inr two) same = faulty_apart first second one two same
