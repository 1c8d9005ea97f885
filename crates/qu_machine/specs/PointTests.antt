-- The tests of a judge, upon single points and operations.
use Rattle.std.specs.Prelude.{ℕ, Bool, true, false, not, ◌==◌, ◌&&◌, ◌||◌, nat_lt, if◌then◌else◌, List, Option, None, Some}
use Rattle.std.specs.Bool.{beq}
use Rattle.std.specs.List.{list_any}
use Rattle.std.specs.Cmp.Lexicographic.{pointwise}
use Rattle.qu_base.specs.declared.party.ObjectId.{ObjectId}
use Rattle.qu_objects.specs.declared.act.Method.{Method}
use Rattle.qu_objects.specs.declared.act.Method.TheVariants.{Add, Take, Put, Append, Link, Unlink}
use Rattle.qu_objects.specs.declared.query.Ask.{Ask}
use Rattle.qu_objects.specs.declared.query.Ask.TheVariants.{Read, Cat, Find, All}
use Rattle.qu_objects.specs.declared.answer.Answer.{Answer}
use Rattle.qu_objects.specs.declared.op.Op.{Op}
use Rattle.qu_objects.specs.declared.op.Op.TheVariants as op
use Rattle.qu_objects.specs.declared.op.Outcome.{Outcome}
use Rattle.qu_objects.specs.declared.op.Outcome.TheVariants as outcome
use Rattle.qu_objects.specs.Alike.{are_same_bytes, same_answer}
use Rattle.qu_machine.specs.declared.record.OpRecord.{OpRecord}
use Rattle.qu_machine.specs.declared.record.Point.{Point}

-- ---- equal operations

abbrev pub same_method : Method → Method → Bool
same_method (Add first) (Add second) = first == second
same_method (Take first) (Take second) = first == second
same_method (Put first) (Put second) = are_same_bytes first second
same_method (Append first) (Append second) = are_same_bytes first second
same_method (Link first number) (Link second other) = are_same_bytes first second && number == other
same_method (Unlink first) (Unlink second) = are_same_bytes first second
same_method first second = false

abbrev pub same_ask : Ask → Ask → Bool
same_ask Read Read = true
same_ask Cat Cat = true
same_ask (Find first) (Find second) = are_same_bytes first second
same_ask All All = true
same_ask first second = false

abbrev pub same_part : {X : Type 0} → (X → X → Bool) → ObjectId × X → ObjectId × X → Bool
same_part same first second = (first.0).0 == (second.0).0 && same first.1 second.1

abbrev pub same_op : Op → Op → Bool
same_op (op.Act first) (op.Act second) = pointwise (same_part same_method) first second
same_op (op.Act first) (op.Query second) = false
same_op (op.Query first) (op.Act second) = false
same_op (op.Query first) (op.Query second) = pointwise (same_part same_ask) first second

-- ---- one point

abbrev pub stands : OpRecord → Point → Bool
stands operation point =
    not point.faulty
    && ((operation.client).0 == (point.client).0 && (operation.number == point.number && same_op operation.op point.op))

abbrev pub agree : Point → Point → Bool
agree first second =
    beq first.faulty second.faulty
    && ((first.client).0 == (second.client).0 && (first.number == second.number && same_op first.op second.op))

abbrev pub is_update : Op → Bool
is_update (op.Act act) = true
is_update (op.Query query) = false

abbrev pub is_completed : Option (ℕ × Outcome) → Bool
is_completed None = false
is_completed (Some reply) = elim (reply.1) [ outcome.Done answer ↦ true | outcome.GaveUp ↦ false ]

abbrev pub is_before_reply : ℕ → Option (ℕ × Outcome) → Bool
is_before_reply event None = true
is_before_reply event (Some reply) =
    elim (reply.1) [ outcome.Done answer ↦ nat_lt event reply.0 | outcome.GaveUp ↦ true ]

abbrev pub is_between : OpRecord → ℕ → Bool
is_between operation event = nat_lt operation.invoked event && is_before_reply event operation.reply

-- the answer of a completed operation is another one
abbrev pub has_other_answer : Answer → Option (ℕ × Outcome) → Bool
has_other_answer machine None = false
has_other_answer machine (Some reply) =
    elim (reply.1) [ outcome.Done answer ↦ not (same_answer machine answer) | outcome.GaveUp ↦ false ]

-- the operation's point is not between its invocation and its reply
abbrev pub is_misplaced : OpRecord → Point → Bool
is_misplaced operation point = stands operation point && not (is_between operation point.event)

-- the operation's point has another answer by the machine
abbrev pub is_answered_otherwise : OpRecord → Point → Answer → Bool
is_answered_otherwise operation point machine = stands operation point && has_other_answer machine operation.reply

-- ---- one point among the operations

abbrev pub is_of_operations : List OpRecord → Point → Bool
is_of_operations operations point = list_any (λ operation. stands operation point) operations

abbrev pub is_beyond : List OpRecord → Point → Bool
is_beyond operations point = list_any (λ operation. is_misplaced operation point) operations

abbrev pub is_outside : List OpRecord → Point → Bool
is_outside operations point =
    if point.faulty then not (is_update point.op) else (not (is_of_operations operations point)
    || is_beyond operations point)

abbrev pub differs : List OpRecord → Point → Answer → Bool
differs operations point machine =
    list_any (λ operation. is_answered_otherwise operation point machine) operations

-- ---- one operation among the points

abbrev pub is_placed : List Point → OpRecord → Bool
is_placed order operation = list_any (λ point. stands operation point) order

abbrev pub is_absent : List Point → OpRecord → Bool
is_absent order operation = is_completed operation.reply && not (is_placed order operation)
