-- Requests belong to operations that began before.
use Rattle.std.specs.Prelude.{◌≡◌, ℕ, ◌≤◌, Contains}
use Rattle.qu_base.specs.declared.party.ClientId.{ClientId}
use Rattle.qu_frames.specs.declared.frame.Body.{Body}
use Rattle.qu_client.specs.Sound.{IsFor}
use Rattle.qu_machine.specs.declared.record.OpRecord.{OpRecord}
use Rattle.qu_trace.specs.declared.trace.Trace.{Trace}
use Rattle.qu_trace.specs.Operation.{operations_of}

-- the operation of which a request is one; it began before
pub record IsRequestOf (trace : Trace) (count : ℕ) (client : ClientId) (number : ℕ) (asked : Body) : Type 0 where
  pub operation : OpRecord
  pub of_trace : Contains (operations_of trace) operation
  pub of_client : operation.client ≡ client
  pub of_number : operation.number ≡ number
  -- act or query, as the operation is, or a repair
  pub asks : IsFor operation.op asked
  -- after so many events, of which the invocation is one
  pub begun : operation.invoked ≤ count
