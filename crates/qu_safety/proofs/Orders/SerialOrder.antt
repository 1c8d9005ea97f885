-- The printed order of a run is a serial order of its operations.
use Rattle.std.proofs.Common.{◌≡◌, ℕ, zero, suc, ◌-◌, ◌<◌, ◌≤◌, List, [], ◌∷◌, length, take, Some, refl, sym, ap, subst, ◌∙◌, arith, inl}
use Rattle.std.specs.Prelude.{slice_get, slice_index_or, Contains}
use Rattle.std.specs.List.{AllZip}
use Rattle.std.proofs.lemmas.List.Elements.{All-contains}
use Rattle.std.proofs.lemmas.Option.{same_Some}
use Rattle.qu_base.specs.declared.party.ObjectId.{ObjectId}
use Rattle.qu_stamp.specs.declared.candidate.Candidate.{Candidate}
use Rattle.qu_chain.specs.Laws.{Laws}
use Rattle.qu_claims.specs.Decided.{IsDecided}
use Rattle.qu_chain.specs.Joint.{Joint}
use Rattle.qu_claims.specs.Groups.{IsOneAct}
use Rattle.qu_chain.proofs.Ancestry.{accepted_by_decided, decided-later}
use Rattle.qu_chain.proofs.Turns.{decided_at_last}
use Rattle.qu_chain.proofs.Updates.{decided_once}
use Rattle.qu_objects.specs.declared.act.Method.{Method}
use Rattle.qu_objects.specs.declared.query.Ask.{Ask}
use Rattle.qu_objects.specs.declared.answer.Answer.{Answer}
use Rattle.qu_objects.specs.declared.kind.Value.{Value}
use Rattle.qu_objects.specs.declared.op.Op.{Op}
use Rattle.qu_objects.specs.declared.op.Op.TheVariants as op
use Rattle.qu_objects.specs.declared.op.Outcome.TheVariants as outcome
use Rattle.qu_objects.specs.declared.state.KeptRow.{KeptRow}
use Rattle.qu_objects.specs.declared.state.ObjState.{ObjState}
use Rattle.qu_objects.specs.Digesting.{act_digest}
use Rattle.qu_kept.specs.Performing.{row_by}
use Rattle.qu_kept.specs.Rows.{row_of}
use Rattle.qu_objects.specs.Performing.{performed_answer, told_answer}
use Rattle.qu_machine.specs.declared.record.OpRecord.{OpRecord}
use Rattle.qu_machine.specs.declared.record.Point.{Point}
use Rattle.qu_machine.specs.Machine.{values_at, act_answer}
use Rattle.qu_machine.specs.Serial.{op_answer, values_after, answer_at, IsRising, Stands, StandsAt, Completes, StandsOnce, StandsAtMostOnce, IsSerial}
use Rattle.qu_trace.specs.declared.trace.Trace.{Trace}
use Rattle.qu_trace.specs.Operation.{operations_of}
use Rattle.qu_world.specs.Run.{IsRun}
use Rattle.qu_runs.specs.Plain.{ArePlain}
use Rattle.qu_claims.specs.RunSetting.{setting}
use Rattle.qu_claims.specs.Order.{DecidesAt}
use Rattle.qu_safety.proofs.Points.OwnedPoints.{IsOperationPoint, IsOwnedOrder}
use Rattle.qu_points.specs.Points.{effect_of, IsOfCorrect, point_at}
use Rattle.qu_points.proofs.Operations.Correct.{operations_correct}
use Rattle.qu_points.proofs.Orders.Rising.{rising_from_order}
use Rattle.qu_replies.specs.Replies.{Keeps}
use Rattle.qu_claims.specs.Updates.{Update, IsOf}
use Rattle.qu_claims.specs.Values.{HasVersion}
use Rattle.qu_safety.proofs.Points.ActPoints.{StandsBefore, IsTurnOf, turn_of, act_has_point, quiet_values, loud_values}
use Rattle.qu_safety.proofs.Completed.ToldParts.{CompletedAct}
use Rattle.qu_safety.proofs.Completed.CompletedActs.{completed_act}
use Rattle.qu_safety.proofs.Completed.CompletedQueries.{CompletedQuery, HasTopValue, completed_query, point_of_query, query_has_point}
use Rattle.qu_points.proofs.Orders.Folding.{fold_along}
use Rattle.qu_values.proofs.Requests.ClientFacts.{ClientFacts}
use Rattle.qu_values.proofs.MachineValues.{IsValues, step_of, first_values, value_of_top, done, Steps, befores_are}
use Rattle.qu_runs.proofs.Acts.OneAct.{ActsAreOne}
use Rattle.qu_safety.proofs.Points.EventRequests.{one_point}
use Rattle.qu_safety.proofs.Points.PointEvents.{point_bounds, points_apart}
use Rattle.qu_safety.proofs.Orders.SerialFields.{is_point_at, point_at_place, points_known, points_faulty, stand_at_most_once, stands_of}
use Rattle.qu_values.proofs.Updating.Updates.{last_is, acts, one_of, one_companion}
use Rattle.qu_values.proofs.Updating.UpdateFacts.{befores, IsPerformed, UpdateFacts, NoneIsRepeated}
use Rattle.qu_claims.specs.Completions.{IsCompleted}

-- a member of a list stands at a place
record PlaceOf (order : List Point) (point : Point) : Type 0 where
  at : ℕ
  there : slice_get order at ≡ Some point

index_in : (order : List Point) (at : ℕ) (point : Point) → at < length order → slice_index_or order at point ≡ point
    → slice_get order at ≡ Some point
index_in [] at point below is = absurd (omega arith)
index_in (first ∷ later) zero point below is = ap Some is
index_in (first ∷ later) (suc at) point below is = index_in later at point (omega arith) is

place_of : (order : List Point) (point : Point) → Contains order point → PlaceOf order point
place_of order point held = record { at = held.0; there = index_in order held.0 point held.1 held.2 }

module _ (trace : Trace) (is_run : IsRun trace) (have : ArePlain trace) (clients : ClientFacts trace)
    (one_act : ActsAreOne trace)
    (laws : Laws (setting trace)) (joint : Joint (setting trace)) (facts : UpdateFacts trace)
    (once : NoneIsRepeated trace) (order : List Point)
    (printed : IsOwnedOrder trace order) where
  -- the client of an operation is correct
  own : (operation : OpRecord) → Contains (operations_of trace) operation → IsOfCorrect trace.setup operation
  own operation among =
      All-contains (IsOfCorrect trace.setup) (operations_of trace) operation (operations_correct trace)
      among

  rising : IsRising order
  rising = rising_from_order order printed.in_order
      (λ first second one two same.
      points_apart trace is_run have clients one_act laws joint facts once first second (printed.sound first one)
      (printed.sound second two) same)

  -- ---- the values of the machine at a point

  abbrev Values : ℕ → List Value → Type 0
  Values time values = IsValues trace laws joint one_act facts once time values

  values_along : (at : ℕ) (point : Point) → slice_get order at ≡ Some point → (time : ℕ) → point.event ≡ suc time
      → Values time (values_after trace.setup.kinds (take at order))
  values_along at point there time same =
      fold_along trace.setup.kinds order (length trace.entries) (IsValues trace laws joint one_act facts once) rising
      (λ it held. point_bounds trace is_run have clients one_act laws joint facts once it (printed.sound it held))
      (first_values trace laws joint one_act facts once)
      (quiet_values trace laws joint one_act facts once is_run have clients order printed)
      (loud_values trace laws joint one_act facts once order printed)
      at point there time same

  -- the values of the objects that a query names
  values_asked : (time : ℕ) → time ≤ length trace.entries → (values : List Value) → Values time values
      → (parts : List (ObjectId × Ask)) (tops : List Value)
      → AllZip (λ (part : ObjectId × Ask) (value : Value). HasTopValue trace time part.0 value) parts tops
      → values_at values parts ≡ tops
  values_asked time within values are [] [] each = refl
  values_asked time within values are [] (value ∷ tops) each = absurd each
  values_asked time within values are (part ∷ parts) [] each = absurd each
  values_asked time within values are (part ∷ parts) (value ∷ tops) each =
      let it : HasTopValue trace time part.0 value = each.0 in
      rw (value_of_top trace laws joint one_act facts once time (omega (arith, last_is trace, within)) values are part.0
      it.base
      value it.top it.has)
      (ap (λ (more : List Value). value ∷ more) (values_asked time within values are parts tops each.1))

  -- ---- points of completed operations

  stands_before : (operation : OpRecord) → Contains (operations_of trace) operation
      → (reply : ℕ) (answer : Answer) → operation.reply ≡ Some (reply, outcome.Done answer)
      → (what : Op) → operation.op ≡ what → StandsBefore trace operation reply
  stands_before operation among reply answer replied (op.Act act) is =
      let quorum_is : IsCompleted trace operation reply answer =
      clients.completes operation among reply answer replied in
      let it : CompletedAct trace operation reply quorum_is.verdict answer =
      completed_act trace is_run have clients laws joint facts operation among reply answer replied quorum_is act is in
      act_has_point trace laws joint one_act facts once operation among (own operation among) it.parts it.is_act reply
      it.begins it.within
      it.object it.candidate it.is_of it.decided
  stands_before operation among reply answer replied (op.Query query) is =
      let found =
      query_has_point trace is_run have clients laws joint facts operation among reply answer replied query is in
      record { point = found.0; is_point = found.1; stands = found.2; before = found.3 }

  completed : (operation : OpRecord) (reply : ℕ) (answer : Answer) → Contains (operations_of trace) operation
      → Completes operation reply answer → StandsOnce operation reply order
  completed operation reply answer among completes =
      let it : StandsBefore trace operation reply =
      stands_before operation among reply answer completes operation.op refl in
      let place : PlaceOf order it.point = place_of order it.point (printed.complete it.point (inl it.is_point)) in
      let at_most : StandsAtMostOnce operation order =
      stand_at_most_once trace order printed is_run have clients one_act laws joint facts once operation among in
      let here : StandsAt operation order place.at it.point = record { there = place.there; stands = it.stands } in
      record {
        at = place.at;
        point = it.point;
        stands = here;
        alone = λ other second there. at_most.alone place.at other it.point second here there;
        after = at_most.after place.at it.point here;
        before = it.before;
      }

  -- ---- answers

  -- the machine's answer to an update at the step that decides it is that kept with each of its candidates
  act_answers_at : (update : Update) (time : ℕ) (values : List Value) → Values time values
      → IsTurnOf trace laws joint one_act facts once time update
      → (object : ObjectId) (candidate : Candidate) → IsOf trace update object candidate
      → IsDecided (setting trace) (setting trace).last object candidate
      → (version : ObjState) → HasVersion trace object candidate version
      → (answer : Answer)
      → Keeps update.client update.number (act_digest update.client update.number update.parts) answer version
      → act_answer values update.parts ≡ answer
  act_answers_at update time values are here object candidate is_of decided version has answer keeps =
      let within : time < (setting trace).last = (here.turn).within in
      let performed : IsPerformed trace update here.object here.candidate =
      done trace laws joint one_act facts once time within values are update here.object here.candidate here.is_of
      here.turn
      in
      let found =
      step_of (Steps trace laws joint one_act facts once time within values are update here.object here.candidate
      here.is_of
      here.turn)
      object update.parts performed.steps performed.each is_of.names in
      let one : IsOneAct (setting trace) here.object object here.candidate candidate =
      decided_once (setting trace) laws joint Update (IsOf trace) (one_of trace one_act) facts.shared
      facts.spread once (acts trace) update here.object object here.candidate candidate
      here.is_of is_of (decided_at_last (setting trace) laws joint time here.object here.candidate here.turn) decided in
      let same : (found.1).companion ≡ candidate =
      one_companion trace laws joint here.object object here.candidate (found.1).companion candidate
      (found.1).is_companion one (found.1).accepted
      (accepted_by_decided (setting trace) laws.lasting (setting trace).last object candidate decided) in
      let versions : (found.1).version ≡ version =
      facts.one_version object candidate (found.1).version version
      (subst (λ (it : Candidate). HasVersion trace object it (found.1).version) same (found.1).has) has in
      ap (performed_answer update.parts)
      (befores_are trace laws joint one_act facts once time within values are update here.object here.candidate
      here.is_of
      here.turn)
      ∙ ap (λ (it : KeptRow). it.answer)
      (same_Some (row_by update.client update.number update.parts (befores performed.steps)) (record {
        client = update.client;
        number = update.number;
        act = act_digest update.client update.number update.parts;
        answer = answer;
      })
      (sym (found.1).row_is ∙ ap (λ (it : ObjState). row_of update.client it.kept) versions ∙ keeps))

  act_answers : (operation : OpRecord) (reply : ℕ) (answer : Answer)
      → Contains (operations_of trace) operation → Completes operation reply answer
      → (act : List (ObjectId × Method)) → operation.op ≡ op.Act act → (at : ℕ) (point : Point)
      → StandsAt operation order at point → (time : ℕ) → point.event ≡ suc time
      → answer_at trace.setup.kinds order at point ≡ answer
  act_answers operation reply answer among completes act is_act at point here time same =
      let it : IsOperationPoint trace point = point_at_place trace order printed operation at point here in
      let quorum_is : IsCompleted trace operation reply answer =
      clients.completes operation among reply answer completes in
      let done : CompletedAct trace operation reply quorum_is.verdict answer =
      completed_act trace is_run have clients laws joint facts operation among reply answer completes quorum_is act
      is_act
      in
      let operations : it.operation ≡ operation = stands_of trace order printed operation among point here.stands it in
      let effect : effect_of trace operation point.event operation.op =
      subst (λ (one : OpRecord). effect_of trace one point.event one.op) operations it.effect in
      let decides : DecidesAt trace operation.client operation.number done.parts (suc time) =
      subst (λ (event : ℕ). DecidesAt trace operation.client operation.number done.parts event) same
      (subst (λ (one : Op). effect_of trace operation point.event one) done.is_act effect) in
      let update : Update = record { client = operation.client; number = operation.number; parts = done.parts } in
      let turn : IsTurnOf trace laws joint one_act facts once time update =
      turn_of trace laws joint one_act facts once update time decides in
      let are : Values time (values_after trace.setup.kinds (take at order)) =
      values_along at point here.there time same in
      let ends : reply ≤ length trace.entries = done.within in
      ap (op_answer (values_after trace.setup.kinds (take at order))) (sym (here.stands).op ∙ done.is_act) ∙
      act_answers_at update time (values_after trace.setup.kinds (take at order)) are turn done.object done.candidate
      done.is_of
      (decided-later (setting trace) laws.lasting (reply - 1) (setting trace).last (omega (arith, last_is trace, ends))
      done.object
      done.candidate done.decided) done.version done.has answer done.keeps

  query_answers : (operation : OpRecord) (reply : ℕ) (answer : Answer)
      → Contains (operations_of trace) operation → Completes operation reply answer
      → (query : List (ObjectId × Ask)) → operation.op ≡ op.Query query → (at : ℕ) (point : Point)
      → StandsAt operation order at point → answer_at trace.setup.kinds order at point ≡ answer
  query_answers operation reply answer among completes query is_query at point here =
      let done : CompletedQuery trace operation reply answer =
      completed_query trace is_run have clients laws joint facts operation among reply answer completes query is_query
      in
      let there : IsOperationPoint trace (point_at trace.setup operation done.event)
      × Stands operation (point_at trace.setup operation done.event) =
      point_of_query trace operation among (own operation among) reply answer completes done in
      let same : point ≡ point_at trace.setup operation done.event =
      one_point trace point (point_at trace.setup operation done.event)
      (point_at_place trace order printed operation at point here)
      there.0 (sym (here.stands).client) (sym (here.stands).number) in
      let event : point.event ≡ suc done.time = ap (λ (it : Point). it.event) same ∙ done.is_after in
      let bounds : (1 ≤ point.event) × (point.event ≤ length trace.entries) =
      point_bounds trace is_run have clients one_act laws joint facts once point
      (is_point_at trace order printed at point here.there) in
      let most : point.event ≤ length trace.entries = bounds.1 in
      let are : Values done.time (values_after trace.setup.kinds (take at order)) =
      values_along at point here.there done.time event in
      ap (op_answer (values_after trace.setup.kinds (take at order))) (sym (here.stands).op ∙ done.is_query) ∙
      ap (told_answer done.parts) (values_asked done.time (omega arith)
      (values_after trace.setup.kinds (take at order)) are done.parts done.values done.each)
      ∙ sym done.answer_is

  answers_of : (operation : OpRecord) (reply : ℕ) (answer : Answer)
      → Contains (operations_of trace) operation → Completes operation reply answer
      → (what : Op) → operation.op ≡ what → (at : ℕ) (point : Point) → StandsAt operation order at point
      → answer_at trace.setup.kinds order at point ≡ answer
  answers_of operation reply answer among completes (op.Act act) is at point here =
      let bounds : (1 ≤ point.event) × (point.event ≤ length trace.entries) =
      point_bounds trace is_run have clients one_act laws joint facts once point
      (is_point_at trace order printed at point here.there) in
      let some : 1 ≤ point.event = bounds.0 in
      act_answers operation reply answer among completes act is at point here (point.event - 1) (omega arith)
  answers_of operation reply answer among completes (op.Query query) is at point here =
      query_answers operation reply answer among completes query is at point here

  pub serial : IsSerial trace.setup.kinds (operations_of trace) order
  serial = record {
    rising = rising;
    completed = completed;
    once = stand_at_most_once trace order printed is_run have clients one_act laws joint facts once;
    known = points_known trace order printed;
    faulty = points_faulty trace order printed;
    answers = λ operation reply answer among completes at point here.
        answers_of operation reply answer among completes operation.op refl at point here;
  }
