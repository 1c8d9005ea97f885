-- The point of an update is at the step that decides it.
use Rattle.std.proofs.Common.{◌≡◌, ℕ, zero, suc, ◌-◌, ◌<◌, ◌≤◌, true, List, [], ◌∷◌, length, refl, sym, subst, ◌∙◌, arith, inl, inr, ap}
use Rattle.std.specs.Prelude.{◌==◌, Contains}
use Rattle.std.specs.List.{list_any}
use Rattle.std.proofs.lemmas.Bool.{false≢true, cases_Bool, or_left, or_right, eq-eqb}
use Rattle.qu_base.specs.declared.party.ObjectId.{ObjectId}
use Rattle.qu_stamp.specs.declared.candidate.Candidate.{Candidate}
use Rattle.qu_stamp.specs.Stamp.{is_below}
use Rattle.qu_stamp.specs.Candidate.{opening}
use Rattle.qu_chain.specs.Laws.{Laws}
use Rattle.qu_claims.specs.Decided.{IsDecided, IsTop, IsDecidedBy}
use Rattle.qu_chain.specs.Joint.{Joint}
use Rattle.qu_chain.proofs.Ancestry.{Acceptor, acceptor, accepted_by_decided, decided-later, some-later}
use Rattle.qu_chain.proofs.Tops.{top, under_top}
use Rattle.qu_chain.proofs.Updates.{first_of}
use Rattle.qu_objects.specs.declared.act.Method.{Method}
use Rattle.qu_objects.specs.declared.kind.Value.{Value}
use Rattle.qu_objects.specs.declared.op.Op.{Op}
use Rattle.qu_objects.specs.declared.op.Op.TheVariants as op
use Rattle.qu_objects.proofs.PartLaws.{same_parts}
use Rattle.qu_machine.specs.declared.record.OpRecord.{OpRecord}
use Rattle.qu_machine.specs.declared.record.Point.{Point}
use Rattle.qu_machine.specs.Machine.{act_values}
use Rattle.qu_machine.specs.Serial.{Stands}
use Rattle.qu_trace.specs.declared.trace.Trace.{Trace}
use Rattle.qu_trace.specs.Operation.{operations_of}
use Rattle.qu_claims.specs.Effects.{TookEffect, is_on}
use Rattle.qu_claims.specs.Handled.{IsHandled, IsMadeFor}
use Rattle.qu_claims.specs.RunSetting.{setting}
use Rattle.qu_runs.specs.Plain.{ArePlain}
use Rattle.qu_rounds.specs.Invocations.{IsRequestOf}
use Rattle.qu_rounds.proofs.Requesting.{op_for}
use Rattle.qu_world.specs.Run.{IsRun}
use Rattle.qu_trace.specs.Faulty.{is_faulty}
use Rattle.qu_base.specs.declared.party.ClientId.{ClientId}
use Rattle.qu_base.specs.declared.party.Party.TheVariants as party
use Rattle.qu_frames.specs.declared.frame.Body.TheVariants as body
use Rattle.qu_claims.specs.Order.{DecidesAt}
use Rattle.qu_safety.proofs.Points.OwnedPoints.{IsOperationPoint, HasOwner, IsOwnedOrder}
use Rattle.qu_points.specs.Points.{effect_of, IsOfCorrect, point_at}
use Rattle.qu_claims.specs.Updates.{Update, IsOf, IsEverAccepted}
use Rattle.qu_claims.specs.Parts.{Names}
use Rattle.qu_points.proofs.Orders.Folding.{IsQuestion}
use Rattle.qu_values.proofs.MachineValues.{IsValues, object_known, known_object, stay, change}
use Rattle.qu_runs.proofs.Acts.OneAct.{ActsAreOne, one_made_for}
use Rattle.qu_values.proofs.Updating.Updates.{last_is, acts, one_of, opening_no_act}
use Rattle.qu_values.proofs.Updating.UpdateFacts.{MadeFor, UpdateFacts, NoneIsRepeated}
use Rattle.qu_values.proofs.Requests.ClientFacts.{ClientFacts}
use Rattle.qu_values.proofs.Requests.SentRequests.{made_for_operation, asked_by_handled}

-- an act is on the objects that its parts name
on_named : (parts : List (ObjectId × Method)) (object : ObjectId) → Names parts object → is_on object parts ≡ true
on_named [] object names = absurd names
on_named (part ∷ parts) object (inl here) =
    or_left ((part.0).0 == object.0) (list_any (λ (it : ObjectId × Method). (it.0).0 == object.0) parts)
    (eq-eqb (part.0).0 object.0 (ap (λ (it : ObjectId). it.0) here))
on_named (part ∷ parts) object (inr there) =
    or_right ((part.0).0 == object.0) (list_any (λ (it : ObjectId × Method). (it.0).0 == object.0) parts)
    (on_named parts object there)

-- the operation has a point, which is before the event of its reply
pub record StandsBefore (trace : Trace) (operation : OpRecord) (reply : ℕ) : Type 0 where
  pub point : Point
  pub is_point : IsOperationPoint trace point
  pub stands : Stands operation point
  pub before : point.event < reply

module _ (trace : Trace) (laws : Laws (setting trace)) (joint : Joint (setting trace)) (one_act : ActsAreOne trace)
    (facts : UpdateFacts trace) (once : NoneIsRepeated trace) where
  accepted_by : (time : ℕ) → time ≤ (setting trace).last → (object : ObjectId) (candidate : Candidate)
      → IsDecided (setting trace) time object candidate → IsEverAccepted trace object candidate
  accepted_by time within object candidate decided =
      some-later (setting trace) laws.lasting time (setting trace).last within object candidate
      (accepted_by_decided (setting trace) laws.lasting time object candidate decided)

  -- a candidate of the update is decided at this time
  pub record HasEffect (time : ℕ) (update : Update) : Type 0 where
    pub object : ObjectId
    pub candidate : Candidate
    pub is_of : IsOf trace update object candidate
    pub decided : IsDecided (setting trace) time object candidate

  effect_by : (time : ℕ) → time ≤ length trace.entries → (update : Update)
      → IsHandled trace update.client update.number update.parts
      → TookEffect trace time update.client update.number update.parts
      → HasEffect time update
  unfolding setting
  effect_by time within update handled took =
      let decided : IsDecided (setting trace) time took.object took.candidate =
      took.is_decided in
      let its : IsMadeFor trace took.candidate update.client update.number update.parts =
      record { handled = handled; of_client = took.of_client; of_act = took.of_act } in
      let made : MadeFor trace took.object took.candidate =
      facts.made took.object took.candidate (accepted_by time within took.object took.candidate decided)
      (rw took.of_act refl) in
      let same =
      one_made_for trace one_act took.candidate (made.update).client update.client (made.update).number
      update.number (made.update).parts update.parts (made.is_of).made its in
      record {
        object = took.object;
        candidate = took.candidate;
        is_of = record {
          made = its;
          names = subst (λ (parts : List (ObjectId × Method)). Names parts took.object) same.2 (made.is_of).names;
        };
        decided = decided;
      }

  -- ---- the step at which it is decided first

  not_at_first : (object : ObjectId) (candidate : Candidate) → (setting trace).is_act candidate ≡ true
      → IsDecided (setting trace) 0 object candidate → ⊥
  unfolding setting
  not_at_first object candidate is_act decided =
      let who : Acceptor (setting trace) 0 object candidate =
      acceptor (setting trace) 0 object candidate
      (accepted_by_decided (setting trace) laws.lasting 0 object candidate decided) in
      let is_opening : candidate ≡ opening = laws.start object who.replica candidate who.good who.within who.accepted in
      opening_no_act trace candidate is_opening is_act

  -- no update takes effect before the first event
  none_at_first : (update : Update) → HasEffect 0 update → ⊥
  none_at_first update it =
      not_at_first it.object it.candidate (acts trace update it.object it.candidate it.is_of)
      it.decided

  -- the step by which it is decided, before this time
  pub record DecidedBefore (end : ℕ) (object : ObjectId) (candidate : Candidate) : Type 0 where
    pub time : ℕ
    pub earlier : time < end
    pub turn : IsDecidedBy (setting trace) time object candidate

  pub decided_first : (end : ℕ) → end ≤ (setting trace).last → (object : ObjectId) (candidate : Candidate)
      → (setting trace).is_act candidate ≡ true → IsDecided (setting trace) end object candidate
      → DecidedBefore end object candidate
  decided_first zero within object candidate is_act decided =
      absurd (not_at_first object candidate is_act decided)
  decided_first (suc end) within object candidate is_act decided =
      let late : IsDecided (setting trace) (setting trace).last object candidate =
      decided-later (setting trace) laws.lasting (suc end) (setting trace).last within object candidate decided in
      let here : (it : Candidate) × IsTop (setting trace) end object it =
      top (setting trace) laws joint end (omega arith) object
      (known_object trace laws joint one_act facts once object
      (object_known trace laws joint one_act facts once object candidate
      (accepted_by (suc end) within object candidate decided))) in
      elim (cases_Bool (is_below (here.0).stamp candidate.stamp)) [
        | inl above ↦ record {
          time = end;
          earlier = omega arith;
          turn = record {
            within = omega arith;
            after = decided;
            before = λ already. false≢true (sym ((here.1).nothing_above candidate already) ∙ above);
          };
        }
        | inr not_above ↦
            let before : DecidedBefore end object candidate =
            decided_first end (omega arith) object candidate is_act
            (under_top (setting trace) laws joint end (omega arith) object here.0 candidate here.1 late not_above) in
            let earlier : before.time < end = before.earlier in
            record { time = before.time; earlier = omega arith; turn = before.turn }
      ]

  -- ---- the event at which an update takes effect is such a step

  -- a step that decides a candidate of the update
  pub record IsTurnOf (time : ℕ) (update : Update) : Type 0 where
    pub object : ObjectId
    pub candidate : Candidate
    pub is_of : IsOf trace update object candidate
    pub turn : IsDecidedBy (setting trace) time object candidate

  pub turn_of : (update : Update) (time : ℕ) → DecidesAt trace update.client update.number update.parts (suc time)
      → IsTurnOf time update
  turn_of update time decides =
      let happened : suc time ≤ length trace.entries = decides.happened in
      let it : HasEffect (suc time) update = effect_by (suc time) happened update decides.handled decides.by_then in
      record {
        object = it.object;
        candidate = it.candidate;
        is_of = it.is_of;
        turn = record {
          within = omega (arith, last_is trace, happened);
          after = it.decided;
          before = λ already. decides.not_before time (omega arith) (record {
            object = it.object;
            named = on_named update.parts it.object (it.is_of).names;
            candidate = it.candidate;
            is_decided = already;
            of_client = ((it.is_of).made).of_client;
            of_act = ((it.is_of).made).of_act;
          });
        };
      }

  pub turn_at : (update : Update) (event : ℕ) → DecidesAt trace update.client update.number update.parts event
      → (time : ℕ) × (event ≡ suc time) × IsTurnOf time update
  turn_at update zero decides =
      absurd (none_at_first update (effect_by 0 decides.happened update decides.handled decides.by_then))
  turn_at update (suc time) decides = (time, refl, turn_of update time decides)

  pub turn_decides : (update : Update) (time : ℕ) (object : ObjectId) (candidate : Candidate)
      → IsOf trace update object candidate → IsDecidedBy (setting trace) time object candidate
      → DecidesAt trace update.client update.number update.parts (suc time)
  turn_decides update time object candidate is_of turn =
      let within : time < (setting trace).last = turn.within in
      record {
        handled = (is_of.made).handled;
        happened = omega (arith, last_is trace, within);
        by_then = record {
          object = object;
          named = on_named update.parts object is_of.names;
          candidate = candidate;
          is_decided = turn.after;
          of_client = (is_of.made).of_client;
          of_act = (is_of.made).of_act;
        };
        not_before = λ earlier before took.
            let it : HasEffect earlier update =
            effect_by earlier (omega (arith, last_is trace, within, before)) update (is_of.made).handled took in
            first_of (setting trace) laws joint Update (IsOf trace) (one_of trace one_act) facts.shared
            facts.spread once (acts trace) update time object candidate is_of turn
            it.object it.candidate it.is_of
            (decided-later (setting trace) laws.lasting earlier time (omega arith) it.object it.candidate it.decided);
      }

  -- the point of an operation at a step that decides its update
  pub turn_point : (operation : OpRecord) → Contains (operations_of trace) operation
      → IsOfCorrect trace.setup operation → (parts : List (ObjectId × Method)) → operation.op ≡ op.Act parts
      → (time : ℕ) (object : ObjectId) (candidate : Candidate)
      → IsOf trace (record { client = operation.client; number = operation.number; parts = parts }) object candidate
      → IsDecidedBy (setting trace) time object candidate → IsOperationPoint trace
      (point_at trace.setup operation (suc time))
  turn_point operation among own parts is_act time object candidate is_of turn = record {
    operation = operation;
    of_trace = among;
    client = refl;
    number = refl;
    op = refl;
    correct = own;
    mark = own;
    effect = subst (λ (it : Op). effect_of trace operation (suc time) it) (sym is_act)
        (turn_decides (record { client = operation.client; number = operation.number; parts = parts }) time object
        candidate is_of turn);
  }

  -- an operation of which a candidate is decided before its reply has a point before it
  pub act_has_point : (operation : OpRecord) → Contains (operations_of trace) operation
      → IsOfCorrect trace.setup operation → (parts : List (ObjectId × Method)) → operation.op ≡ op.Act parts
      → (reply : ℕ) → 1 ≤ reply → reply ≤ length trace.entries → (object : ObjectId) (candidate : Candidate)
      → IsOf trace (record { client = operation.client; number = operation.number; parts = parts }) object candidate
      → IsDecided (setting trace) (reply - 1) object candidate → StandsBefore trace operation reply
  act_has_point operation among own parts is_act reply begins ends object candidate is_of decided =
      let first : DecidedBefore (reply - 1) object candidate =
      decided_first (reply - 1) (omega (arith, last_is trace, ends)) object candidate
      (acts trace
      (record { client = operation.client; number = operation.number; parts = parts }) object candidate is_of) decided
      in
      let earlier : first.time < reply - 1 = first.earlier in
      record {
        point = point_at trace.setup operation (suc first.time);
        is_point = turn_point operation among own parts is_act first.time object candidate is_of first.turn;
        stands = record { correct = own; client = refl; number = refl; op = refl };
        before = omega arith;
      }

  -- ---- points of updates

  -- a point of the run at the event of this step, of the update
  record PointOf (time : ℕ) (update : Update) : Type 0 where
    point : Point
    is_point : HasOwner trace point
    event : point.event ≡ suc time
    is_act : point.op ≡ op.Act update.parts

  -- an update has a point at a step that decides it: of an operation, or of a faulty client
  update_point : IsRun trace → ArePlain trace → ClientFacts trace → (update : Update) (time : ℕ) (object : ObjectId)
      (candidate : Candidate) → IsOf trace update object candidate → IsDecidedBy (setting trace) time object candidate
      → PointOf time update
  update_point is_run have clients update time object candidate is_of turn =
      elim (cases_Bool (is_faulty trace.setup (party.Client update.client))) [
        | inl faulty ↦ record {
          point = record {
            event = suc time;
            client = update.client;
            number = update.number;
            op = op.Act update.parts;
            faulty = true;
          };
          is_point = inr (record {
            parts = update.parts;
            op = refl;
            declared = faulty;
            mark = refl;
            effect = turn_decides update time object candidate is_of turn;
          });
          event = refl;
          is_act = refl;
        }
        | inr correct ↦
            let request : IsRequestOf trace (length trace.entries) update.client update.number
            (body.Act update.parts) =
            asked_by_handled trace is_run have clients update.client update.number update.parts (is_of.made).handled
            correct in
            let asks : (request.operation).op ≡ op.Act update.parts =
            op_for (op.Act update.parts) (request.operation).op request.asks in
            record {
              point = point_at trace.setup request.operation (suc time);
              is_point = inl (turn_point request.operation request.of_trace
                  (ap (λ (who : ClientId). is_faulty trace.setup (party.Client who)) request.of_client ∙ correct)
                  update.parts asks time object candidate (record {
                    made = made_for_operation trace (length trace.entries) candidate update.client update.number
                        update.parts (body.Act update.parts) request is_of.made;
                    names = is_of.names;
                  }) turn);
              event = refl;
              is_act = asks;
            }
      ]

  -- the update of a point
  pub record UpdateAt (point : Point) (parts : List (ObjectId × Method)) : Type 0 where
    pub client : ClientId
    pub number : ℕ
    pub of_client : client ≡ point.client
    pub of_number : number ≡ point.number
    pub decides : DecidesAt trace client number parts point.event

  pub point_update : (point : Point) (parts : List (ObjectId × Method)) → point.op ≡ op.Act parts → HasOwner trace point
      → UpdateAt point parts
  point_update point parts is (inl it) = record {
    client = (it.operation).client;
    number = (it.operation).number;
    of_client = it.client;
    of_number = it.number;
    decides = subst (λ (what : Op). effect_of trace it.operation point.event what) (it.op ∙ is) it.effect;
  }
  point_update point parts is (inr it) = record {
    client = point.client;
    number = point.number;
    of_client = refl;
    of_number = refl;
    decides = subst (λ (its : List (ObjectId × Method)). DecidesAt trace point.client point.number its point.event)
        (same_parts it.parts parts (sym it.op ∙ is)) it.effect;
  }

  -- ---- the values of the machine at points

  no_question : (what : Op) (parts : List (ObjectId × Method)) → what ≡ op.Act parts → IsQuestion what → ⊥
  no_question (op.Act act) parts is question = question
  no_question (op.Query query) parts is question = absurd (cc)

  abbrev Values : ℕ → List Value → Type 0
  Values time values = IsValues trace laws joint one_act facts once time values

  -- an event without a point of an update leaves the values
  pub quiet_values : IsRun trace → ArePlain trace → ClientFacts trace → (order : List Point)
      → IsOwnedOrder trace order
      → (time : ℕ) (values : List Value) → time < length trace.entries → Values time values
      → ((point : Point) → Contains order point → point.event ≡ suc time → IsQuestion point.op)
      → Values (suc time) values
  quiet_values is_run have clients order printed time values within are quiet =
      stay trace laws joint one_act facts once time (omega (arith, last_is trace, within)) values are
      (λ object act is_act turn.
      let made : MadeFor trace object act =
      facts.made object act (accepted_by (suc time) (omega (arith, last_is trace, within)) object act turn.after) is_act
      in
      let it : PointOf time made.update = update_point is_run have clients made.update time object act made.is_of turn
      in
      no_question (it.point).op (made.update).parts it.is_act
      (quiet it.point (printed.complete it.point it.is_point) it.event))

  -- one with such a point does what the update does
  pub loud_values : (order : List Point) → IsOwnedOrder trace order → (time : ℕ) (values : List Value) (point : Point)
      (parts : List (ObjectId × Method)) → time < length trace.entries → Values time values
      → Contains order point → point.event ≡ suc time → point.op ≡ op.Act parts
      → Values (suc time) (act_values values parts)
  loud_values order printed time values point parts within are contained at is =
      let it : UpdateAt point parts = point_update point parts is (printed.sound point contained) in
      let update : Update = record { client = it.client; number = it.number; parts = parts } in
      let here : IsTurnOf time update =
      turn_of update time (subst (λ (event : ℕ). DecidesAt trace it.client it.number parts event) at it.decides) in
      change trace laws joint one_act facts once time (omega (arith, last_is trace, within)) values are update
      here.object
      here.candidate here.is_of here.turn
