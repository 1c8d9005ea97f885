-- What it means that a list of points is a serial order of a list of operations.
-- A place in either list is counted from 0.
use Rattle.std.specs.Prelude.{◌≡◌, ⊤, ℕ, ◌<◌, true, false, List, map, fold, take, slice_get, Contains, All, Some}
use Rattle.std.specs.List.Sorted.{IsStrictlyIncreasing}
use Rattle.qu_objects.specs.declared.answer.Answer.{Answer}
use Rattle.qu_objects.specs.declared.kind.KindName.{KindName}
use Rattle.qu_objects.specs.declared.kind.Value.{Value}
use Rattle.qu_objects.specs.declared.op.Op.{Op}
use Rattle.qu_objects.specs.declared.op.Op.TheVariants as op
use Rattle.qu_objects.specs.declared.op.Outcome.TheVariants as outcome
use Rattle.qu_objects.specs.Kind.{fresh_value}
use Rattle.qu_machine.specs.declared.record.OpRecord.{OpRecord}
use Rattle.qu_machine.specs.declared.record.Point.{Point}
use Rattle.qu_machine.specs.Machine.{act_answer, act_values, query_answer}

-- ---- the machine along an order

-- what an operation answers on these values
abbrev pub op_answer : List Value → Op → Answer
op_answer values (op.Act act) = act_answer values act
op_answer values (op.Query query) = query_answer values query

-- the values after an operation
abbrev pub op_values : List Value → Op → List Value
op_values values (op.Act act) = act_values values act
op_values values (op.Query query) = values

-- the values after some points, which are fresh before the first
unfoldable pub values_after : List KindName → List Point → List Value
values_after kinds points = fold (λ values point. op_values values point.op) (map fresh_value kinds) points

-- what the machine answers to the point at a place of an order
abbrev pub answer_at : List KindName → List Point → ℕ → Point → Answer
answer_at kinds order at point = op_answer (values_after kinds (take at order)) point.op

-- ---- what a judge may take for granted

-- the events rise
abbrev pub IsRising : List Point → Type 0
IsRising order = IsStrictlyIncreasing (map (λ point. point.event) order)

-- the operation names objects among so many
abbrev pub HasObjects : ℕ → Op → Type 0
HasObjects count (op.Act act) = All (λ part. (part.0).0 < count) act
HasObjects count (op.Query query) = All (λ part. (part.0).0 < count) query

-- ---- a serial order

-- the point is one of this operation, and not of a faulty client
pub record Stands (operation : OpRecord) (point : Point) : Type 0 where
  pub correct : point.faulty ≡ false
  pub client : operation.client ≡ point.client
  pub number : operation.number ≡ point.number
  pub op : operation.op ≡ point.op

-- the operation stands at this place of the order, which has this point
pub record StandsAt (operation : OpRecord) (order : List Point) (at : ℕ) (point : Point) : Type 0 where
  pub there : slice_get order at ≡ Some point
  pub stands : Stands operation point

-- the operation completed at an event, with an answer; one that gave up did not
abbrev pub Completes : OpRecord → ℕ → Answer → Type 0
Completes operation reply answer = operation.reply ≡ Some (reply, outcome.Done answer)

-- the operation stands in the order exactly once, after its invocation and before its reply
pub record StandsOnce (operation : OpRecord) (reply : ℕ) (order : List Point) : Type 0 where
  pub at : ℕ
  pub point : Point
  pub stands : StandsAt operation order at point
  pub alone : (other : ℕ) (second : Point) → StandsAt operation order other second → other ≡ at
  pub after : operation.invoked < point.event
  pub before : point.event < reply

-- the operation stands in the order at most once, after its invocation
pub record StandsAtMostOnce (operation : OpRecord) (order : List Point) : Type 0 where
  pub alone : (at other : ℕ) (first second : Point) → StandsAt operation order at first
      → StandsAt operation order other second → other ≡ at
  pub after : (at : ℕ) (point : Point) → StandsAt operation order at point → operation.invoked < point.event

-- the point is one of the operations
pub record IsOfOperations (operations : List OpRecord) (point : Point) : Type 0 where
  pub operation : OpRecord
  pub of_list : Contains operations operation
  pub stands : Stands operation point

abbrev pub IsUpdate : Op → Type 0
IsUpdate (op.Act act) = ⊤
IsUpdate (op.Query query) = ⊥

-- the points agree in client, number and operation, and in whether the client is faulty
pub record Agree (first second : Point) : Type 0 where
  pub faulty : first.faulty ≡ second.faulty
  pub client : first.client ≡ second.client
  pub number : first.number ≡ second.number
  pub op : first.op ≡ second.op

-- the point at this place is one of an update, and agrees with that of no other place
pub record IsLoneUpdate (order : List Point) (at : ℕ) (point : Point) : Type 0 where
  pub update : IsUpdate point.op
  pub alone : (other : ℕ) (second : Point) → slice_get order other ≡ Some second → Agree point second → other ≡ at

-- the order is a serial order of the operations
pub record IsSerial (kinds : List KindName) (operations : List OpRecord) (order : List Point) : Type 0 where
  -- the events rise
  pub rising : IsRising order
  -- each completed operation stands in the order exactly once, after its invocation and before its reply
  pub completed : (operation : OpRecord) (reply : ℕ) (answer : Answer) → Contains operations operation
      → Completes operation reply answer → StandsOnce operation reply order
  -- each operation stands in it at most once, after its invocation
  pub once : (operation : OpRecord) → Contains operations operation → StandsAtMostOnce operation order
  -- each point that is not a faulty client's is one of the operations
  pub known : (at : ℕ) (point : Point) → slice_get order at ≡ Some point → point.faulty ≡ false
      → IsOfOperations operations point
  -- each point of a faulty client is one of an update, and no two of these agree
  pub faulty : (at : ℕ) (point : Point) → slice_get order at ≡ Some point → point.faulty ≡ true
      → IsLoneUpdate order at point
  -- the machine, run along the order from fresh values, gives each completed operation its answer
  pub answers : (operation : OpRecord) (reply : ℕ) (answer : Answer) → Contains operations operation
      → Completes operation reply answer → (at : ℕ) (point : Point) → StandsAt operation order at point
      → answer_at kinds order at point ≡ answer
