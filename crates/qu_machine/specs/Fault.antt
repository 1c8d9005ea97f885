-- Why a list of points is no serial order of a list of operations.
-- A place in either list is counted from 0.
use Rattle.std.specs.Prelude.{◌≡◌, ◌≢◌, ◌⊎◌, ⊤, ℕ, ◌<◌, true, false, List, slice_get, Contains, Option, None, Some}
use Rattle.qu_objects.specs.declared.answer.Answer.{Answer}
use Rattle.qu_objects.specs.declared.kind.KindName.{KindName}
use Rattle.qu_objects.specs.declared.op.Outcome.{Outcome}
use Rattle.qu_objects.specs.declared.op.Outcome.TheVariants as outcome
use Rattle.qu_machine.specs.declared.fault.JudgeFault.{JudgeFault}
use Rattle.qu_machine.specs.declared.fault.JudgeFault.TheVariants as fault
use Rattle.qu_machine.specs.declared.record.OpRecord.{OpRecord}
use Rattle.qu_machine.specs.declared.record.Point.{Point}
use Rattle.qu_machine.specs.Serial.{answer_at, Stands, StandsAt, Completes, IsOfOperations, IsUpdate, Agree}

-- the point at this place is that of a completed operation with another answer than the machine's
pub record DiffersAt (kinds : List KindName) (operations : List OpRecord) (order : List Point) (at : ℕ) : Type 0 where
  pub point : Point
  pub operation : OpRecord
  pub of_list : Contains operations operation
  pub stands : StandsAt operation order at point
  pub reply : ℕ
  pub answer : Answer
  pub completes : Completes operation reply answer
  pub differs : answer_at kinds order at point ≢ answer

-- the event is before the end, if that is a completion
abbrev pub IsBeforeEnd : ℕ → ℕ → Outcome → Type 0
IsBeforeEnd event reply (outcome.Done answer) = event < reply
IsBeforeEnd event reply outcome.GaveUp = ⊤

abbrev pub IsBeforeReply : ℕ → Option (ℕ × Outcome) → Type 0
IsBeforeReply event None = ⊤
IsBeforeReply event (Some reply) = IsBeforeEnd event reply.0 reply.1

-- the event is after the invocation, and before the reply of a completed operation
abbrev pub IsBetween : OpRecord → ℕ → Type 0
IsBetween operation event = (operation.invoked < event) × IsBeforeReply event operation.reply

-- the point is one of an operation, and not between its invocation and its reply
pub record IsBeyond (operations : List OpRecord) (point : Point) : Type 0 where
  pub operation : OpRecord
  pub of_list : Contains operations operation
  pub stands : Stands operation point
  pub beyond : ¬ (IsBetween operation point.event)

-- a faulty client's query, a point of no operation, or one that is not between invocation and reply
abbrev pub IsOutside : List OpRecord → Point → Type 0
IsOutside operations point =
    ((point.faulty ≡ true) × ¬ (IsUpdate point.op))
    ⊎ (((point.faulty ≡ false) × ¬ (IsOfOperations operations point)) ⊎ IsBeyond operations point)

pub record OutsideAt (operations : List OpRecord) (order : List Point) (at : ℕ) : Type 0 where
  pub point : Point
  pub there : slice_get order at ≡ Some point
  pub outside : IsOutside operations point

-- the operation of the point at this place stands at an earlier place too
pub record TwiceAt (order : List Point) (at : ℕ) : Type 0 where
  pub point : Point
  pub there : slice_get order at ≡ Some point
  pub earlier : ℕ
  pub before : earlier < at
  pub first : Point
  pub first_there : slice_get order earlier ≡ Some first
  pub agree : Agree first point

-- the operation at this place of the list completed and stands nowhere
pub record AbsentAt (operations : List OpRecord) (order : List Point) (place : ℕ) : Type 0 where
  pub operation : OpRecord
  pub there : slice_get operations place ≡ Some operation
  pub reply : ℕ
  pub answer : Answer
  pub completes : Completes operation reply answer
  pub nowhere : (at : ℕ) (point : Point) → ¬ (StandsAt operation order at point)

-- there is no such place
abbrev pub Nowhere : (ℕ → Type 0) → Type 0
Nowhere IsSuch = (at : ℕ) → ¬ (IsSuch at)

-- it is the first such place
abbrev pub IsFirst : (ℕ → Type 0) → ℕ → Type 0
IsFirst IsSuch at = IsSuch at × ((earlier : ℕ) → earlier < at → ¬ (IsSuch earlier))

-- what a refusal of a judge says: the first place with the first kind of fault that there is
abbrev pub IsFault : List KindName → List OpRecord → List Point → JudgeFault → Type 0
IsFault kinds operations order (fault.Differs at) = IsFirst (DiffersAt kinds operations order) at
IsFault kinds operations order (fault.Outside at) =
    Nowhere (DiffersAt kinds operations order) × IsFirst (OutsideAt operations order) at
IsFault kinds operations order (fault.Twice at) =
    Nowhere (DiffersAt kinds operations order) × Nowhere (OutsideAt operations order) × IsFirst (TwiceAt order) at
IsFault kinds operations order (fault.Absent place) =
    Nowhere (DiffersAt kinds operations order) × Nowhere (OutsideAt operations order) × Nowhere (TwiceAt order)
    × IsFirst (AbsentAt operations order) place
IsFault kinds operations order fault.NoMemory = ⊤
