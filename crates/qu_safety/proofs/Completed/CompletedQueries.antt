-- A completed query answers from the tops of its objects when a replica first answered its round.
use Rattle.std.proofs.Common.{◌≡◌, ◌≢◌, ℕ, suc, ◌+◌, ◌-◌, ◌<◌, ◌≤◌, Bool, true, false, ◌==◌, List, length, Some, refl, sym, ap, subst, ◌∙◌, arith, inl, inr, slice_get, All, AllPairs, Contains}
use Rattle.std.specs.List.{Any, AllZip}
use Rattle.std.proofs.lemmas.Bool.{false≢true, cases_lt, eqb-true}
use Rattle.std.proofs.lemmas.List.Elements.{All-contains}
use Rattle.std.proofs.lemmas.List.Folds.{Any-from_list_any}
use Rattle.qu_base.specs.declared.party.ClientId.{ClientId}
use Rattle.qu_base.specs.declared.party.Party.TheVariants as party
use Rattle.qu_base.specs.declared.party.ObjectId.{ObjectId}
use Rattle.qu_base.specs.Bounds.{replicas, quorum, AreThresholds}
use Rattle.qu_base.proofs.ThresholdFacts.{are_thresholds}
use Rattle.qu_stamp.specs.declared.stamp.Stamp.{Stamp}
use Rattle.qu_stamp.specs.declared.candidate.Candidate.{Candidate}
use Rattle.qu_stamp.specs.Stamp.{is_below}
use Rattle.qu_stamp.proofs.Order.{is_below-not_chain}
use Rattle.qu_history.specs.declared.sets.SetOf.{SetOf}
use Rattle.qu_history.specs.History.{ObjectHistory, holds}
use Rattle.qu_history.specs.Sets.{entries_of, method_at}
use Rattle.qu_claims.specs.Count.{count, test_at}
use Rattle.qu_claims.specs.Setting.{acceptors, IsEstablished}
use Rattle.qu_chain.specs.Laws.{Laws}
use Rattle.qu_claims.specs.Decided.{IsTop}
use Rattle.qu_chain.specs.Joint.{Joint}
use Rattle.qu_chain.proofs.Ancestry.{Acceptor, acceptor, accepted-later, some-later, accepted_by_attested, attested_by_established}
use Rattle.qu_chain.proofs.Counting.{count-le, Shared, shared, test_at-here}
use Rattle.qu_chain.proofs.Tops.{top}
use Rattle.qu_objects.specs.declared.answer.Answer.{Answer}
use Rattle.qu_objects.specs.declared.op.Op.TheVariants as op
use Rattle.qu_objects.specs.declared.op.Outcome.TheVariants as outcome
use Rattle.qu_objects.specs.declared.kind.Value.{Value}
use Rattle.qu_objects.specs.declared.query.Ask.{Ask}
use Rattle.qu_objects.specs.Performing.{told_answer}
use Rattle.qu_verdicts.specs.declared.verdict.Verdict.TheVariants as verdict
use Rattle.qu_rows.specs.State.{ReplicaState, own_candidates}
use Rattle.qu_machine.specs.declared.record.OpRecord.{OpRecord}
use Rattle.qu_machine.specs.declared.record.Point.{Point}
use Rattle.qu_machine.specs.Serial.{Stands}
use Rattle.qu_trace.specs.declared.trace.Trace.{Trace}
use Rattle.qu_trace.specs.Operation.{operations_of}
use Rattle.qu_world.specs.Run.{IsRun}
use Rattle.qu_claims.specs.Completions.{IsCompleted}
use Rattle.qu_claims.specs.Accepted.{accepts}
use Rattle.qu_claims.specs.RunSetting.{setting}
use Rattle.qu_claims.specs.Answers.{answers_at}
use Rattle.qu_claims.specs.Times.{world_after}
use Rattle.qu_runs.proofs.Worlds.Settings.{acceptors_counted}
use Rattle.qu_claims.specs.Order.{AnswersFirst, query_effect}
use Rattle.qu_safety.proofs.Points.OwnedPoints.{IsOperationPoint}
use Rattle.qu_points.specs.Points.{effect_of, IsOfCorrect, point_at}
use Rattle.qu_points.proofs.Operations.Correct.{operations_correct}
use Rattle.qu_quick.proofs.MadeBefore.{own_client}
use Rattle.qu_claims.specs.Handling.{Handles}
use Rattle.qu_accepts.proofs.Handling.{mid_bounds, mid_candidates}
use Rattle.qu_replies.specs.Replies.{culled_in, HasTold}
use Rattle.qu_claims.specs.Updates.{IsEverAccepted}
use Rattle.qu_claims.specs.Values.{HasVersion}
use Rattle.qu_runs.specs.Plain.{ArePlain}
use Rattle.qu_shown.specs.Views.{AreHeld}
use Rattle.qu_laws.proofs.Acceptors.{method_is_shown}
use Rattle.qu_runs.proofs.Worlds.LaterLetters.{letter_later}
use Rattle.qu_rounds.proofs.Members.{is_among, members_count}
use Rattle.qu_shown.proofs.AskedLetters.{AskedBy}
use Rattle.qu_trace.specs.Faulty.{is_faulty}
use Rattle.qu_replies.proofs.Replying.{reply_letter, reply_sets}
use Rattle.qu_safety.proofs.Completed.Along.{objects_in, zip_along, zip_weaker, zip_at}
use Rattle.qu_values.proofs.Versions.StoredValues.{upon_is}
use Rattle.qu_values.proofs.Updating.UpdateFacts.{HasValue, UpdateFacts}
use Rattle.qu_values.proofs.Requests.ClientFacts.{IsAskedBy, ClientFacts}
use Rattle.qu_safety.proofs.Completed.ToldAnswers.{FirstTrue, first_true, IsAnsweredAt, answered_at, answered_after, ToldBefore}
use Rattle.qu_safety.proofs.Completed.QueryRounds.{ToldRound, told_round}

-- ---- the point of the query

-- on this object a query is answered with the value of the top
pub record HasTopValue (trace : Trace) (time : ℕ) (object : ObjectId) (value : Value) : Type 0 where
  pub base : Candidate
  pub top : IsTop (setting trace) time object base
  pub has : HasValue trace object base value

-- where the query took effect, and the tops before, from whose values it is answered
pub record CompletedQuery (trace : Trace) (operation : OpRecord) (reply : ℕ) (answer : Answer) : Type 0 where
  pub parts : List (ObjectId × Ask)
  pub is_query : operation.op ≡ op.Query parts
  pub event : ℕ
  pub first : AnswersFirst trace operation.client operation.number reply event
  pub time : ℕ
  pub is_after : event ≡ suc time
  pub before : event < reply
  pub values : List Value
  pub each : AllZip (λ (part : ObjectId × Ask) (value : Value). HasTopValue trace time part.0 value) parts values
  pub answer_is : answer ≡ told_answer parts values

-- the point of a completed query is at the event at which it took effect
pub point_of_query : (trace : Trace) (operation : OpRecord) → Contains (operations_of trace) operation
    → IsOfCorrect trace.setup operation → (reply : ℕ) (answer : Answer) → operation.reply
    ≡ Some (reply, outcome.Done answer)
    → (at : CompletedQuery trace operation reply answer)
    → IsOperationPoint trace (point_at trace.setup operation at.event)
    × Stands operation (point_at trace.setup operation at.event)
point_of_query trace operation among own reply answer replied at =
    let effect : query_effect trace operation at.event operation.reply =
    subst (query_effect trace operation at.event) (sym replied) at.first in (
      record {
        operation = operation;
        of_trace = among;
        client = refl;
        number = refl;
        op = refl;
        correct = own;
        mark = own;
        effect = subst (effect_of trace operation at.event) (sym at.is_query) effect;
      },
      record { correct = own; client = refl; number = refl; op = refl },
    )

module _ (trace : Trace) (is_run : IsRun trace) (have : ArePlain trace) (clients : ClientFacts trace)
    (laws : Laws (setting trace)) (joint : Joint (setting trace)) (facts : UpdateFacts trace) where
  -- what was accepted by an event is held at each later one
  held_later : (time at : ℕ) → time ≤ at → (place : ℕ) (state : ReplicaState)
      → slice_get (world_after trace at).replicas place ≡ Some state → (object : ObjectId) (candidate : Candidate)
      → test_at (accepts object candidate) (world_after trace time).replicas place ≡ true
      → holds candidate (own_candidates state object) ≡ true
  unfolding setting
  held_later time at order place state is_state object candidate accepted =
      sym (test_at-here (accepts object candidate) (world_after trace at).replicas place state is_state) ∙
      accepted-later (setting trace) laws.lasting time at order object place candidate accepted

  module _ (client : ClientId) (number round before : ℕ) (stamps : List (ObjectId × Stamp)) (answer : Answer)
      (time : ℕ) where
    abbrev Member : ℕ → Type 0
    Member = ToldBefore trace client number round before stamps answer

    -- a member that accepted the candidate by then
    record Meets (object : ObjectId) (other : Candidate) : Type 0 where
      member : ℕ
      tells : Member member
      accepted : test_at (accepts object other) (world_after trace time).replicas member ≡ true

    -- a quorum and those that accepted an established candidate meet
    meets : (members : List ℕ) → AllPairs (λ (a b : ℕ). a ≢ b) members
        → quorum trace.setup.bounds ≤ length members + trace.setup.bounds
        → All (λ (member : ℕ). member < replicas trace.setup.bounds) members → All Member members
        → (object : ObjectId) (other : Candidate) → IsEstablished (setting trace) time object other
        → Meets object other
    unfolding setting
    meets members different enough within all object other established =
        let bounds : ℕ = trace.setup.bounds in
        let thresholds : AreThresholds bounds = are_thresholds bounds (is_run.setup).some_faults in
        let n : ℕ = replicas bounds in
        let accepted : ℕ → Bool = test_at (accepts object other) (world_after trace time).replicas in
        let told : length members ≤ count n (is_among members) = members_count n members different within in
        let same : acceptors (setting trace) time object other ≡ count n accepted =
        acceptors_counted trace time object other in
        let counted : quorum bounds ≤ count n accepted + bounds = omega (arith, established, same) in
        let most : count n (λ (index : ℕ). true) ≤ n = count-le n (λ (index : ℕ). true) in
        let found : Shared n (is_among members) accepted =
        shared n (is_among members) accepted (λ (index : ℕ). true) (λ index passes. refl) (λ index passes. refl)
        (omega arith) in
        let any : Any (λ (it : ℕ). (it == found.index) ≡ true) members =
        Any-from_list_any (λ (it : ℕ). it == found.index) members found.in_first in
        let same : any.1 ≡ found.index = eqb-true any.1 found.index any.4 in
        record {
          member = found.index;
          tells = subst Member same (All-contains Member members any.1 all (any.0, any.2, any.3));
          accepted = found.in_second;
        }

    -- what a member told of an object
    abbrev TellsOf : (member : ℕ) → Member member → ObjectId × Stamp → Value → Type 0
    TellsOf member tells =
        HasTold ((tells.reply).handles).mid (culled_in ((tells.reply).handles).mid (tells.reply).sets)

    -- what a member accepted by then is not above the base
    not_above : (told : ObjectId × Stamp) → Contains stamps told → (other : Candidate) → (member : ℕ)
        (tells : Member member) → time ≤ tells.at
        → test_at (accepts told.0 other) (world_after trace time).replicas member ≡ true
        → is_below told.1 other.stamp ≡ false
    not_above told among other member tells order accepted =
        let reply = tells.reply in
        let beside : (value : Value) × TellsOf member tells told value =
        zip_at (TellsOf member tells) stamps (tells.tells).values told among (tells.tells).each in
        let has = beside.1 in
        let handles : Handles trace tells.at member reply.old reply.new = reply.handles in
        let held : holds other (own_candidates (handles.mid) told.0) ≡ true =
        ap (holds other) (mid_candidates trace tells.at reply.old handles.mid handles.learns told.0)
        ∙ held_later time tells.at order member reply.old handles.is_old told.0 other accepted in
        ap (λ (it : Stamp). is_below it other.stamp) (sym has.is_told) ∙ has.nothing_above other held

    -- the base was shown in the request that was answered first
    base_shown : is_faulty trace.setup (party.Client client) ≡ false → (member : ℕ)
        (tells : Member member) → time ≤ tells.at
        → (answered : IsAnsweredAt trace client number round time)
        → (told : ObjectId × Stamp) (value : Value) (has : TellsOf member tells told value)
        → (entries : List ObjectHistory) × (method_at trace.setup.bounds entries ≡ Some has.base)
        × (quorum trace.setup.bounds ≤ acceptors (setting trace) time told.0 has.base + (setting trace).faults)
    base_shown correct member tells order answered told value has =
        let at : ℕ = tells.at in
        let object : ObjectId = told.0 in
        let base : Candidate = has.base in
        let mine = tells.reply in
        let first = answered.reply in
        let below : at < length trace.entries = tells.below in
        let within : time ≤ length trace.entries = omega arith in
        let asked : AskedBy trace time client number round first.sets first.body =
        reply_letter trace is_run have time answered.below answered.replica client number round answered.told first
        correct in
        let again : AskedBy trace at client number round mine.sets mine.body =
        reply_letter trace is_run have at below member client number round (verdict.Told stamps answer) mine correct in
        let one : IsAskedBy trace at asked.asked asked.letter client number round first.sets first.body = record {
          within = omega arith;
          is_letter = letter_later trace time at asked.asked asked.letter order (omega arith) asked.is_letter;
          is_request = asked.is_request;
        } in
        let other : IsAskedBy trace at again.asked again.letter client number round mine.sets mine.body = record {
          within = omega arith;
          is_letter = again.is_letter;
          is_request = again.is_request;
        } in
        let same : (first.sets ≡ mine.sets) × (first.body ≡ mine.body) =
        clients.alike at asked.asked again.asked asked.letter again.letter client number round first.sets mine.sets
        first.body mine.body one other in
        let view : AreHeld trace time first.sets =
        clients.held time asked.asked asked.letter client number round first.sets first.body (record {
          within = within;
          is_letter = asked.is_letter;
          is_request = asked.is_request;
        }) in
        let mid : ReplicaState = (mine.handles).mid in
        let bounds : mid.keys.bounds ≡ trace.setup.bounds =
        mid_bounds trace at member mine.old mine.new mine.handles in
        let culled_first : List SetOf = culled_in mid first.sets in
        let method : method_at trace.setup.bounds (entries_of object culled_first) ≡ Some base =
        ap (λ (it : List SetOf). method_at trace.setup.bounds (entries_of object (culled_in mid it))) same.0 ∙
        ap (λ (it : ℕ). method_at it (entries_of object (culled_in mid mine.sets))) (sym bounds) ∙ has.method in (
          entries_of object culled_first,
          method,
          method_is_shown trace time first.sets
              (reply_sets trace is_run have time answered.below answered.replica client number round answered.told
              first)
              view mid.keys bounds mid.me object base method,
        )

    established_by : (object : ObjectId) (base : Candidate)
        → quorum trace.setup.bounds ≤ acceptors (setting trace) time object base + (setting trace).faults
        → IsEstablished (setting trace) time object base
    unfolding setting
    established_by object base enough =
        let few : (setting trace).faults ≤ trace.setup.bounds = laws.lasting.sizes.borne in
        omega (arith, few, enough)

    -- the version of the base is the one that the member stores
    base_version : (member : ℕ) (tells : Member member) (told : ObjectId × Stamp) (value : Value)
        (has : TellsOf member tells told value) → IsEverAccepted trace told.0 has.base
        → HasVersion trace told.0 has.base has.version
    base_version member tells told value has accepted =
        let at : ℕ = tells.at in
        let below : at < length trace.entries = tells.below in
        let object : ObjectId = told.0 in
        let base : Candidate = has.base in
        let mine = tells.reply in
        upon_is trace laws joint is_run have at below member mine.old mine.new mine.handles object base accepted
        has.version has.of_base

  -- what no established candidate is above, no decided one is
  top_by : (time : ℕ) → time ≤ (setting trace).last → (object : ObjectId) (base : Candidate)
      → (setting trace).known object ≡ true → (setting trace).plain base ≡ true
      → IsEstablished (setting trace) time object base
      → ((other : Candidate) → IsEstablished (setting trace) time object other
      → is_below base.stamp other.stamp ≡ false)
      → IsTop (setting trace) time object base
  top_by time within object base known plain established not_over =
      let highest : (it : Candidate) × IsTop (setting trace) time object it =
      top (setting trace) laws joint time within object known in
      record {
        plain_top = plain;
        established = established;
        nothing_above = λ other decided.
            is_below-not_chain base.stamp (highest.0).stamp other.stamp
            (not_over highest.0 (highest.1).established) ((highest.1).nothing_above other decided);
      }

  -- what the members told of an object is the value of its top when the round was first answered
  module _ (client : ClientId) (number round before : ℕ) (stamps : List (ObjectId × Stamp)) (answer : Answer)
      (time : ℕ) (within : time ≤ length trace.entries)
      (correct : is_faulty trace.setup (party.Client client) ≡ false)
      (answered : IsAnsweredAt trace client number round time)
      (not_earlier : (at : ℕ) → answers_at trace client number round (suc at) ≡ true → time ≤ at)
      (members : List ℕ) (different : AllPairs (λ (a b : ℕ). a ≢ b) members)
      (enough : quorum trace.setup.bounds ≤ length members + trace.setup.bounds)
      (below : All (λ (member : ℕ). member < replicas trace.setup.bounds) members)
      (all : All (ToldBefore trace client number round before stamps answer) members) where
    from_top : (member : ℕ) (tells : ToldBefore trace client number round before stamps answer member)
        (told : ObjectId × Stamp) (value : Value) → Contains stamps told
        → HasTold ((tells.reply).handles).mid (culled_in ((tells.reply).handles).mid (tells.reply).sets) told value
        → HasTopValue trace time told.0 value
    unfolding setting
    from_top member tells told value one has =
        let object : ObjectId = told.0 in
        let base : Candidate = has.base in
        let order : time ≤ tells.at = not_earlier tells.at tells.answered in
        let shown : (entries : List ObjectHistory) × (method_at trace.setup.bounds entries ≡ Some base)
        × (quorum trace.setup.bounds ≤ acceptors (setting trace) time object base + (setting trace).faults) =
        base_shown client number round before stamps answer time correct member tells order answered told value
        has in
        let established : IsEstablished (setting trace) time object base =
        established_by client number round before stamps answer time object base shown.2 in
        let accepted : IsEverAccepted trace object base =
        some-later (setting trace) laws.lasting time (length trace.entries) within object base
        (accepted_by_attested (setting trace) laws.lasting time object base
        (attested_by_established (setting trace) laws.lasting time object base established)) in
        let who : Acceptor (setting trace) (length trace.entries) object base =
        acceptor (setting trace) (length trace.entries) object base accepted in
        let is_known : (setting trace).known object ≡ true =
        laws.only_known (length trace.entries) object who.replica base who.good who.within who.accepted in
        record {
          base = base;
          top = top_by time within object base is_known (facts.plain_base object base shown.0 shown.1 accepted)
              established
              (λ other other_established.
              let met : Meets client number round before stamps answer time object other =
              meets client number round before stamps answer time members different enough below all object other
              other_established in
              ap (λ (it : Stamp). is_below it other.stamp) has.is_told ∙
              not_above client number round before stamps answer time told one other met.member met.tells
              (not_earlier (met.tells).at (met.tells).answered) met.accepted);
          has = record {
            version = has.version;
            has = base_version client number round before stamps answer time member tells told value has accepted;
            value_is = has.value_is;
          };
        }

  module _ (operation : OpRecord)
      (among : Contains (operations_of trace) operation) (reply : ℕ) (answer : Answer)
      (replied : operation.reply ≡ Some (reply, outcome.Done answer)) (query : List (ObjectId × Ask))
      (is_query : operation.op ≡ op.Query query) where
    pub completed_query : CompletedQuery trace operation reply answer
    unfolding setting
    completed_query =
        let client : ClientId = operation.client in
        let number : ℕ = operation.number in
        let done : IsCompleted trace operation reply answer = clients.completes operation among reply answer replied in
        let round : ℕ = done.round in
        let told : ToldRound trace operation query round (reply - 1) answer done.members =
        told_round trace is_run have clients operation among query is_query reply answer done in
        let stamps : List (ObjectId × Stamp) = told.stamps in
        let member : ℕ = told.member in
        let tells : ToldBefore trace client number round (reply - 1) stamps answer member = told.tells in
        let first : FirstTrue (answers_at trace client number round) (suc tells.at) =
        first_true (answers_at trace client number round) (suc tells.at) tells.answered in
        let after : (time : ℕ) × (first.first ≡ suc time) =
        answered_after trace client number round first.first first.passed in
        let time : ℕ = after.0 in
        let is_after : first.first ≡ suc time = after.1 in
        let not_after : first.first ≤ suc tells.at = first.within in
        let earlier : tells.at < reply - 1 = tells.earlier in
        let below : tells.at < length trace.entries = tells.below in
        let order : time ≤ tells.at = omega arith in
        let within : time ≤ length trace.entries = omega arith in
        let answered : IsAnsweredAt trace client number round time =
        answered_at trace is_run have client number round time
        (ap (answers_at trace client number round) (sym is_after) ∙ first.passed) in
        record {
          parts = query;
          is_query = is_query;
          event = first.first;
          first = record {
            round = round;
            completed = done.delivered;
            by_then = first.passed;
            not_before = first.not_before;
          };
          time = time;
          is_after = is_after;
          before = omega arith;
          values = (tells.tells).values;
          each = zip_along (HasTopValue trace time) stamps query (tells.tells).values
              ((tells.tells).of_parts ∙ ap objects_in told.asked)
              (zip_weaker (HasTold ((tells.reply).handles).mid
              (culled_in ((tells.reply).handles).mid (tells.reply).sets))
              (λ (told : ObjectId × Stamp) (value : Value). HasTopValue trace time told.0 value) stamps
              (tells.tells).values
              (from_top client number round (reply - 1) stamps answer time within
              (own_client trace is_run operation among) answered
              (not_earlier client number round first.first time is_after first.not_before) done.members done.different
              done.enough done.within told.all member tells) (tells.tells).each);
          answer_is = (tells.tells).answer_is
              ∙ ap (λ (it : List (ObjectId × Ask)). told_answer it (tells.tells).values) told.asked;
        }
      where
        -- no answer is sent before the first
        not_earlier : (client : ClientId) (number round event time : ℕ) → event ≡ suc time
            → ((earlier : ℕ) → earlier < event → answers_at trace client number round earlier ≡ false) → (at : ℕ)
            → answers_at trace client number round (suc at) ≡ true → time ≤ at
        not_earlier client number round event time is_after none at answered =
            elim (cases_lt at time) [
              | inl before ↦ absurd (false≢true (sym (none (suc at) (omega arith)) ∙ answered))
              | inr order ↦ order
            ]

    -- the query has its point at that event
    pub query_has_point : (point : Point) × IsOperationPoint trace point × Stands operation point
        × (point.event < reply)
    query_has_point =
        let at : CompletedQuery trace operation reply answer = completed_query in
        let is : IsOperationPoint trace (point_at trace.setup operation at.event)
        × Stands operation (point_at trace.setup operation at.event) =
        point_of_query trace operation among
        (All-contains (IsOfCorrect trace.setup) (operations_of trace) operation
        (operations_correct trace) among) reply answer replied at in
        (point_at trace.setup operation at.event, is.0, is.1, at.before)
