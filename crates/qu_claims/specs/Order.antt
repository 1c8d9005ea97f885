-- The order of a run's points: where each update and each completed query took effect.
use Rattle.std.specs.Prelude.{◌≡◌, ◌⊎◌, ℕ, Bool, true, false, ◌&&◌, ◌<◌, ◌≤◌, List, [], ◌∷◌, length, Option, None, Some, IsTrue, Contains}
use Rattle.std.specs.declared.cmp.Ordering.{Ordering}
use Rattle.std.specs.Ordering.{nat_cmp, ordering_then, is_lt}
use Rattle.std.specs.Cmp.Lexicographic.{slice_cmp}
use Rattle.qu_base.specs.declared.party.ClientId.{ClientId}
use Rattle.qu_base.specs.declared.party.ObjectId.{ObjectId}
use Rattle.qu_base.specs.declared.party.Party.TheVariants as party
use Rattle.qu_objects.specs.declared.act.Method.{Method}
use Rattle.qu_objects.specs.declared.query.Ask.{Ask}
use Rattle.qu_objects.specs.declared.op.Op.{Op}
use Rattle.qu_objects.specs.declared.op.Op.TheVariants as op
use Rattle.qu_objects.specs.declared.op.Outcome.{Outcome}
use Rattle.qu_objects.specs.declared.op.Outcome.TheVariants as outcome
use Rattle.qu_frames.specs.Body.{body_of}
use Rattle.qu_frames.specs.Formats.{body_form}
use Rattle.qu_machine.specs.declared.record.OpRecord.{OpRecord}
use Rattle.qu_machine.specs.declared.record.Point.{Point}
use Rattle.qu_trace.specs.declared.trace.Trace.{Trace}
use Rattle.qu_trace.specs.Faulty.{is_faulty}
use Rattle.qu_trace.specs.Operation.{operations_of}
use Rattle.qu_world.specs.State.{numbered}
use Rattle.qu_claims.specs.Effects.{TookEffect}
use Rattle.qu_claims.specs.Answers.{delivered_round, answers_at}
use Rattle.qu_claims.specs.Handled.{IsHandled}

-- ---- updates

-- the update was handled, and this is the first event after which it had taken effect
pub record DecidesAt (trace : Trace) (client : ClientId) (number : ℕ) (parts : List (ObjectId × Method))
    (event : ℕ) : Type 0 where
  pub handled : IsHandled trace client number parts
  pub happened : event ≤ length trace.entries
  pub by_then : TookEffect trace event client number parts
  pub not_before : (earlier : ℕ) → earlier < event → ¬ (TookEffect trace earlier client number parts)

-- ---- queries

-- the first event at which a replica answers the round that completed the query
pub record AnswersFirst (trace : Trace) (client : ClientId) (number reply event : ℕ) : Type 0 where
  pub round : ℕ
  pub completed : delivered_round trace (numbered trace.entries reply) ≡ Some round
  pub by_then : IsTrue (answers_at trace client number round event)
  pub not_before : (earlier : ℕ) → earlier < event → answers_at trace client number round earlier ≡ false

-- ---- the order

-- where a query took effect that ended so
abbrev pub completed_effect : Trace → OpRecord → ℕ → ℕ → Outcome → Type 0
completed_effect trace operation event reply (outcome.Done answer) =
    AnswersFirst trace operation.client operation.number reply event
completed_effect trace operation event reply outcome.GaveUp = ⊥

-- a query that did not end has no point
abbrev pub query_effect : Trace → OpRecord → ℕ → Option (ℕ × Outcome) → Type 0
query_effect trace operation event None = ⊥
query_effect trace operation event (Some reply) = completed_effect trace operation event reply.0 reply.1

-- a point of an update that a correct replica handled: at the event at which it took effect. It has a mark where its
-- client is faulty; that another one's is an operation of its client is a theorem
pub record IsUpdatePoint (trace : Trace) (point : Point) : Type 0 where
  pub parts : List (ObjectId × Method)
  pub op : point.op ≡ op.Act parts
  pub mark : point.faulty ≡ is_faulty trace.setup (party.Client point.client)
  pub effect : DecidesAt trace point.client point.number parts point.event

-- a point of a query of a correct client, at the event at which it took effect
pub record IsQueryPoint (trace : Trace) (point : Point) : Type 0 where
  pub operation : OpRecord
  pub of_trace : Contains (operations_of trace) operation
  pub client : operation.client ≡ point.client
  pub number : operation.number ≡ point.number
  pub parts : List (ObjectId × Ask)
  pub is_query : operation.op ≡ op.Query parts
  pub op : operation.op ≡ point.op
  pub correct : is_faulty trace.setup (party.Client point.client) ≡ false
  pub mark : point.faulty ≡ false
  pub effect : query_effect trace operation point.event operation.reply

abbrev pub IsPoint : Trace → Point → Type 0
IsPoint trace point = IsUpdatePoint trace point ⊎ IsQueryPoint trace point

-- the bytes by which a request asks for an operation
abbrev pub op_bytes : Op → List ℕ
op_bytes op = (body_form []).spell (body_of op)

-- by event; points of one event go by client, then number, then the bytes of what is asked for
abbrev pub point_cmp : Point → Point → Ordering
point_cmp a b =
    ordering_then (nat_cmp a.event b.event)
    (ordering_then (nat_cmp (a.client).0 (b.client).0)
    (ordering_then (nat_cmp a.number b.number)
    (slice_cmp nat_cmp (op_bytes a.op) (op_bytes b.op))))

abbrev pub is_earlier : Point → Point → Bool
is_earlier a b = is_lt (point_cmp a b)

unfoldable pub are_in_order : List Point → Bool
are_in_order [] = true
are_in_order (point ∷ []) = true
are_in_order (first ∷ second ∷ later) = is_earlier first second && are_in_order (second ∷ later)

-- the printed order of a trace
pub record IsPrintedOrder (trace : Trace) (order : List Point) : Type 0 where
  pub in_order : IsTrue (are_in_order order)
  pub sound : (point : Point) → Contains order point → IsPoint trace point
  pub complete : (point : Point) → IsPoint trace point → Contains order point
