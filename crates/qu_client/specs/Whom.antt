-- Whom a client asks in a round of an operation.
use Rattle.std.specs.Prelude.{ℕ, Bool, true, false, not}
use Rattle.qu_base.specs.declared.party.ObjectId.{ObjectId}
use Rattle.qu_objects.specs.declared.op.Op.{Op}
use Rattle.qu_client.specs.AskedFirst.{is_preferred}
use Rattle.qu_question.specs.Named.{operation_objects}
use Rattle.qu_question.specs.Question.{lowest_of}
use Rattle.qu_client.specs.declared.whom.Whom.{Whom}
use Rattle.qu_client.specs.declared.whom.Whom.TheVariants.{All, Preferred, Others}
use Rattle.qu_client.specs.declared.work.Phase.{Phase}
use Rattle.qu_client.specs.declared.work.Phase.TheVariants.{Asking, Resting}
use Rattle.qu_client.specs.declared.work.Work.{Work}

-- whether a request goes to the replica with this number
abbrev pub is_asked : ℕ → Whom → ℕ → Bool
is_asked bounds All replica = true
is_asked bounds (Preferred object) replica = is_preferred bounds object (record { 0 = replica })
is_asked bounds (Others object) replica = not (is_preferred bounds object (record { 0 = replica }))

-- the lowest object of an operation: it tells the preferred replicas
abbrev pub first_object : Op → ObjectId
first_object op = lowest_of (operation_objects op)

-- who is asked in a round that is in this phase; in a rest no verdict counts, whoever was asked
abbrev pub whom_in : Op → Phase → Whom
whom_in op (Asking true) = All
whom_in op (Asking false) = Preferred (first_object op)
whom_in op (Resting ticks) = All

-- who was asked so far in the round under way
abbrev pub whom_asked : Work → Whom
whom_asked work = whom_in work.op work.phase
