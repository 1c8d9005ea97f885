-- The operation under way: how it stands as a round begins, and which verdicts count in the round.
use Rattle.std.specs.Prelude.{ℕ, Bool, true, false, not, ◌==◌, ◌&&◌, List, [], ◌∷◌, ◌++◌, Option, None, Some}
use Rattle.qu_base.specs.declared.party.ObjectId.{ObjectId}
use Rattle.qu_base.specs.declared.party.ReplicaId.{ReplicaId}
use Rattle.qu_objects.specs.declared.op.Op.{Op}
use Rattle.qu_verdicts.specs.declared.verdict.Verdict.{Verdict}
use Rattle.qu_question.specs.declared.question.Question.{Question}
use Rattle.qu_client.specs.declared.work.Counted.{Counted}
use Rattle.qu_client.specs.declared.work.Phase.{Phase}
use Rattle.qu_client.specs.declared.work.Phase.TheVariants.{Asking, Resting}
use Rattle.qu_client.specs.declared.work.Work.{Work}
use Rattle.qu_client.specs.Verdicts.{has_replied}

-- an operation in a round that asks this
abbrev pub work_asking : Op → ℕ → ℕ → Question → Work
work_asking op number round question = record {
  op = op;
  number = number;
  round = round;
  phase = Asking question.all;
  named = question.named;
  sets = question.sets;
  body = question.body;
  replies = [];
}

abbrev pub is_asking : Phase → Bool
is_asking (Asking all) = true
is_asking (Resting ticks) = false

-- how many ticks are left of a rest
abbrev pub rest_left : Phase → Option ℕ
rest_left (Asking all) = None
rest_left (Resting ticks) = Some ticks

-- a verdict counts where it is of the round under way, and the first of its replica
abbrev pub counts : Work → ReplicaId → ℕ → ℕ → Bool
counts work replica number round =
    is_asking work.phase && (number == work.number && (round == work.round && not (has_replied work.replies replica.0)))

-- the verdicts that count, with one more
abbrev pub with_reply : List Counted → ReplicaId → Verdict → List (ObjectId × ReplicaId) → List Counted
with_reply replies replica verdict culled =
    replies ++ (record { replica = replica; verdict = verdict; culled = culled }) ∷ []

-- an operation with a verdict more
abbrev pub with_verdict : Work → ReplicaId → Verdict → List (ObjectId × ReplicaId) → Work
with_verdict work replica verdict culled = record work { replies = with_reply work.replies replica verdict culled }
