-- What a completed operation rests upon: the answers of a quorum to one of its rounds, at most b of which are of
-- faulty replicas.
use Rattle.std.specs.Prelude.{◌≡◌, ◌≢◌, ℕ, ◌+◌, ◌-◌, ◌<◌, ◌≤◌, true, List, length, slice_get, Some, All, AllPairs, Contains}
use Rattle.qu_base.specs.declared.party.ClientId.{ClientId}
use Rattle.qu_base.specs.declared.party.Party.TheVariants as party
use Rattle.qu_base.specs.Bounds.{replicas, quorum}
use Rattle.qu_history.specs.declared.sealed.Sealed.{Sealed}
use Rattle.qu_objects.specs.declared.answer.Answer.{Answer}
use Rattle.qu_frames.specs.declared.frame.Letter.{Letter}
use Rattle.qu_verdicts.specs.declared.verdict.Verdict.{Verdict}
use Rattle.qu_verdicts.specs.Verdict.{same_verdict}
use Rattle.qu_frames.specs.Body.{body_of}
use Rattle.qu_client.specs.Verdicts.{fitting}
use Rattle.qu_machine.specs.declared.record.OpRecord.{OpRecord}
use Rattle.qu_trace.specs.declared.trace.Entry.{Entry}
use Rattle.qu_trace.specs.declared.trace.Trace.{Trace}
use Rattle.qu_trace.specs.Faulty.{is_good}
use Rattle.qu_world.specs.State.{numbered}
use Rattle.qu_claims.specs.Carried.{Tells}
use Rattle.qu_claims.specs.Answers.{delivered_round}

-- a replica sent this verdict to this round of the operation, at the event of the entry with this
-- index
pub record RepliedAt (trace : Trace) (at : ℕ) (client : ClientId) (number round : ℕ) (verdict : Verdict)
    (replica : ℕ) : Type 0 where
  pub entry : Entry
  pub is_entry : slice_get trace.entries at ≡ Some entry
  pub letter : Letter
  pub sent : Contains entry.letters letter
  pub from_is : letter.from ≡ party.Replica (record { 0 = replica })
  pub told : Verdict
  pub shown : List Sealed
  pub is_reply : Tells letter (record { 0 = replica }) client number round told shown
  pub same : same_verdict told verdict ≡ true

-- before the event of the entry with this index
pub record Replied (trace : Trace) (before : ℕ) (client : ClientId) (number round : ℕ) (verdict : Verdict)
    (replica : ℕ) : Type 0 where
  pub at : ℕ
  pub earlier : at < before
  pub replied : RepliedAt trace at client number round verdict replica

-- different correct replicas answered the round that completed the operation, all with this verdict; with b more they
-- are a quorum
pub record IsCompleted (trace : Trace) (operation : OpRecord) (event : ℕ) (answer : Answer) : Type 0 where
  pub round : ℕ
  pub verdict : Verdict
  pub fits : fitting (body_of operation.op) verdict ≡ Some answer
  pub delivered : delivered_round trace (numbered trace.entries event) ≡ Some round
  pub members : List ℕ
  pub different : AllPairs (λ (a b : ℕ). a ≢ b) members
  pub enough : quorum trace.setup.bounds ≤ length members + trace.setup.bounds
  pub replied : All (Replied trace (event - 1) operation.client operation.number round verdict) members
  pub within : All (λ (member : ℕ). member < replicas trace.setup.bounds) members
  pub correct : All (λ (member : ℕ). is_good trace.setup member ≡ true) members
