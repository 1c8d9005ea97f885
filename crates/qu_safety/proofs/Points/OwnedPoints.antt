-- Whose points stand in the printed order, where the premises hold: the operations of correct clients, and updates of
-- faulty ones.
use Rattle.std.proofs.Common.{◌≡◌, ◌⊎◌, ℕ, true, false, List, length, refl, sym, subst, ◌∙◌, inl, inr}
use Rattle.std.specs.Prelude.{Contains, IsTrue}
use Rattle.std.proofs.lemmas.Bool.{cases_Bool}
use Rattle.qu_base.specs.declared.party.ClientId.{ClientId}
use Rattle.qu_base.specs.declared.party.ObjectId.{ObjectId}
use Rattle.qu_base.specs.declared.party.Party.TheVariants as party
use Rattle.qu_objects.specs.declared.act.Method.{Method}
use Rattle.qu_objects.specs.declared.op.Op.{Op}
use Rattle.qu_objects.specs.declared.op.Op.TheVariants as op
use Rattle.qu_frames.specs.declared.frame.Body.TheVariants as body
use Rattle.qu_machine.specs.declared.record.OpRecord.{OpRecord}
use Rattle.qu_machine.specs.declared.record.Point.{Point}
use Rattle.qu_trace.specs.declared.trace.Trace.{Trace}
use Rattle.qu_trace.specs.Faulty.{is_faulty}
use Rattle.qu_trace.specs.Operation.{operations_of}
use Rattle.qu_world.specs.Run.{IsRun}
use Rattle.qu_claims.specs.Order.{DecidesAt, are_in_order, IsUpdatePoint, IsQueryPoint, IsPoint, IsPrintedOrder}
use Rattle.qu_runs.specs.Plain.{ArePlain}
use Rattle.qu_rounds.specs.Invocations.{IsRequestOf}
use Rattle.qu_rounds.proofs.Requesting.{op_for}
use Rattle.qu_points.specs.Points.{effect_of}
use Rattle.qu_values.proofs.Requests.ClientFacts.{ClientFacts}
use Rattle.qu_values.proofs.Requests.SentRequests.{asked_by_handled}

-- a point of an operation of a correct client, at the event at which it took effect
pub record IsOperationPoint (trace : Trace) (point : Point) : Type 0 where
  pub operation : OpRecord
  pub of_trace : Contains (operations_of trace) operation
  pub client : operation.client ≡ point.client
  pub number : operation.number ≡ point.number
  pub op : operation.op ≡ point.op
  pub correct : is_faulty trace.setup (party.Client point.client) ≡ false
  pub mark : point.faulty ≡ false
  pub effect : effect_of trace operation point.event operation.op

-- a point of an update of a faulty client, at the event at which it took effect
pub record IsFaultyPoint (trace : Trace) (point : Point) : Type 0 where
  pub parts : List (ObjectId × Method)
  pub op : point.op ≡ op.Act parts
  pub declared : is_faulty trace.setup (party.Client point.client) ≡ true
  pub mark : point.faulty ≡ true
  pub effect : DecidesAt trace point.client point.number parts point.event

abbrev pub HasOwner : Trace → Point → Type 0
HasOwner trace point = IsOperationPoint trace point ⊎ IsFaultyPoint trace point

-- an order of these points
pub record IsOwnedOrder (trace : Trace) (order : List Point) : Type 0 where
  pub in_order : IsTrue (are_in_order order)
  pub sound : (point : Point) → Contains order point → HasOwner trace point
  pub complete : (point : Point) → HasOwner trace point → Contains order point

module _ (trace : Trace) where
  of_operation : (point : Point) (it : IsOperationPoint trace point) (what : Op) → (it.operation).op ≡ what
      → IsPoint trace point
  of_operation point it (op.Act parts) is = inl (record {
    parts = parts;
    op = sym it.op ∙ is;
    mark = it.mark ∙ sym it.correct;
    effect = subst (λ (client : ClientId). DecidesAt trace client point.number parts point.event) it.client
        (subst (λ (number : ℕ). DecidesAt trace (it.operation).client number parts point.event) it.number
        (subst (λ (asked : Op). effect_of trace it.operation point.event asked) is it.effect));
  })
  of_operation point it (op.Query parts) is = inr (record {
    operation = it.operation;
    of_trace = it.of_trace;
    client = it.client;
    number = it.number;
    op = it.op;
    parts = parts;
    is_query = is;
    correct = it.correct;
    mark = it.mark;
    effect = subst (λ (asked : Op). effect_of trace it.operation point.event asked) is it.effect;
  })

  to_point : (point : Point) → HasOwner trace point → IsPoint trace point
  to_point point (inl it) = of_operation point it (it.operation).op refl
  to_point point (inr it) = inl (record {
    parts = it.parts;
    op = it.op;
    mark = it.mark ∙ sym it.declared;
    effect = it.effect;
  })

  of_query : (point : Point) → IsQueryPoint trace point → IsOperationPoint trace point
  of_query point it = record {
    operation = it.operation;
    of_trace = it.of_trace;
    client = it.client;
    number = it.number;
    op = it.op;
    correct = it.correct;
    mark = it.mark;
    effect = subst (λ (asked : Op). effect_of trace it.operation point.event asked) (sym it.is_query) it.effect;
  }

  module _ (is_run : IsRun trace) (have : ArePlain trace) (clients : ClientFacts trace) where
    -- an update of a correct client that a replica handled is an operation of this client
    of_correct : (point : Point) (it : IsUpdatePoint trace point)
        → is_faulty trace.setup (party.Client point.client) ≡ false → IsOperationPoint trace point
    of_correct point it correct =
        let request : IsRequestOf trace (length trace.entries) point.client point.number (body.Act it.parts) =
        asked_by_handled trace is_run have clients point.client point.number it.parts (it.effect).handled correct in
        let asks : (request.operation).op ≡ op.Act it.parts =
        op_for (op.Act it.parts) (request.operation).op request.asks in
        record {
          operation = request.operation;
          of_trace = request.of_trace;
          client = request.of_client;
          number = request.of_number;
          op = asks ∙ sym it.op;
          correct = correct;
          mark = it.mark ∙ correct;
          effect = subst (λ (what : Op). effect_of trace request.operation point.event what) (sym asks)
              (subst (λ (client : ClientId). DecidesAt trace client (request.operation).number it.parts point.event)
              (sym request.of_client)
              (subst (λ (number : ℕ). DecidesAt trace point.client number it.parts point.event)
              (sym request.of_number) it.effect));
        }

    from_point : (point : Point) → IsPoint trace point → HasOwner trace point
    from_point point (inr it) = inl (of_query point it)
    from_point point (inl it) =
        elim (cases_Bool (is_faulty trace.setup (party.Client point.client))) [
          | inl faulty ↦ inr (record {
            parts = it.parts;
            op = it.op;
            declared = faulty;
            mark = it.mark ∙ faulty;
            effect = it.effect;
          })
          | inr correct ↦ inl (of_correct point it correct)
        ]

    -- the printed order
    pub owned : (order : List Point) → IsPrintedOrder trace order → IsOwnedOrder trace order
    owned order printed = record {
      in_order = printed.in_order;
      sound = λ point held. from_point point (printed.sound point held);
      complete = λ point it. printed.complete point (to_point point it);
    }
