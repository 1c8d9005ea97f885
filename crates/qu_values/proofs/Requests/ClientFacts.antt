-- What is used of correct clients where the printed order is proved to be serial, besides that what they send fits its
-- format: another client has to show these facts, and no law of candidates.
use Rattle.std.specs.Prelude.{◌≡◌, ℕ, ◌≤◌, List, length, Some, Contains}
use Rattle.qu_base.specs.declared.party.ClientId.{ClientId}
use Rattle.qu_history.specs.declared.sets.SetOf.{SetOf}
use Rattle.qu_objects.specs.declared.answer.Answer.{Answer}
use Rattle.qu_objects.specs.declared.op.Outcome.TheVariants as outcome
use Rattle.qu_frames.specs.declared.frame.Body.{Body}
use Rattle.qu_frames.specs.declared.frame.Letter.{Letter}
use Rattle.qu_machine.specs.declared.record.OpRecord.{OpRecord}
use Rattle.qu_trace.specs.declared.trace.Trace.{Trace}
use Rattle.qu_trace.specs.Operation.{operations_of}
use Rattle.qu_world.specs.State.{letter_of}
use Rattle.qu_claims.specs.Carried.{Asks}
use Rattle.qu_claims.specs.Times.{world_after}
use Rattle.qu_shown.specs.Views.{AreHeld}
use Rattle.qu_claims.specs.Completions.{IsCompleted}
use Rattle.qu_rounds.specs.Invocations.{IsRequestOf}

-- a letter that was sent in the first events asks for this
pub record IsAskedBy (trace : Trace) (count at : ℕ) (letter : Letter) (client : ClientId) (number round : ℕ)
    (sets : List SetOf) (body : Body) : Type 0 where
  pub within : count ≤ length trace.entries
  pub is_letter : letter_of (world_after trace count) at ≡ Some letter
  pub is_request : Asks letter client number round sets body

pub record ClientFacts (trace : Trace) : Type 0 where
  -- a request is one of an operation, which began before: it asks for this, or for a repair
  pub asks : (count at : ℕ) (letter : Letter) (client : ClientId) (number round : ℕ) (sets : List SetOf) (body : Body)
      → IsAskedBy trace count at letter client number round sets body → IsRequestOf trace count client number body
  -- in a round a client asks one thing, of whichever replicas and at whichever events
  pub alike : (count first second : ℕ) (a b : Letter) (client : ClientId) (number round : ℕ)
      (sets others : List SetOf) (body other : Body)
      → IsAskedBy trace count first a client number round sets body
      → IsAskedBy trace count second b client number round others other → (sets ≡ others) × (body ≡ other)
  -- what the sets show of correct replicas, these had when the client asked
  pub held : (count at : ℕ) (letter : Letter) (client : ClientId) (number round : ℕ) (sets : List SetOf) (body : Body)
      → IsAskedBy trace count at letter client number round sets body → AreHeld trace count sets
  -- an operation completes by the first answers to one of its rounds, which are a quorum and agree
  pub completes : (operation : OpRecord) → Contains (operations_of trace) operation
      → (event : ℕ) (answer : Answer) → operation.reply ≡ Some (event, outcome.Done answer)
      → IsCompleted trace operation event answer
