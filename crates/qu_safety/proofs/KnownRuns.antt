-- The facts of the clients of a run.
use Rattle.std.proofs.Common.{◌≡◌, ℕ, Some, ap}
use Rattle.std.specs.Prelude.{Contains}
use Rattle.qu_base.specs.declared.party.ClientId.{ClientId}
use Rattle.qu_objects.specs.declared.answer.Answer.{Answer}
use Rattle.qu_objects.specs.declared.op.Outcome.TheVariants as outcome
use Rattle.qu_frames.specs.Body.{body_of}
use Rattle.qu_machine.specs.declared.record.OpRecord.{OpRecord}
use Rattle.qu_trace.specs.declared.trace.Trace.{Trace}
use Rattle.qu_trace.specs.Operation.{operations_of}
use Rattle.qu_world.specs.Run.{IsRun}
use Rattle.qu_claims.specs.Completions.{IsCompleted}
use Rattle.qu_rounds.specs.Invocations.{IsRequestOf}
use Rattle.qu_runs.specs.Plain.{ArePlain}
use Rattle.qu_rounds.proofs.Completions.{WorkIsRecorded, IsOneRecord, completed}
use Rattle.qu_rounds.proofs.Invocations.{request_of, work_of, op_of}
use Rattle.qu_rounds.proofs.OneRound.{one_round_request}
use Rattle.qu_shown.proofs.Views.{view_of_request}
use Rattle.qu_values.proofs.Requests.ClientFacts.{ClientFacts}
use Rattle.qu_points.proofs.Operations.Recorded.{recorded_op}

-- what a client has under way is an operation of the trace
work_recorded : (trace : Trace) → IsRun trace → ArePlain trace → WorkIsRecorded trace
work_recorded trace is_run have count within client state found work working =
    let request : IsRequestOf trace count client work.number (body_of work.op) =
    work_of trace is_run have count within client state found work working in
    record {
      operation = request.operation;
      of_trace = request.of_trace;
      of_client = request.of_client;
      of_number = request.of_number;
      of_op = op_of trace count client work.number work.op request;
    }

-- a client and a number belong to one operation
one_record : (trace : Trace) → IsOneRecord trace
one_record trace first second one two clients numbers =
    recorded_op trace first second one two (ap (λ (it : ClientId). it.0) clients) numbers

-- an operation that completed was answered by a quorum
completion : (trace : Trace) → IsRun trace → ArePlain trace → (operation : OpRecord) → Contains
    (operations_of trace) operation → (event : ℕ) (answer : Answer) → operation.reply ≡ Some
    (event, outcome.Done answer) → IsCompleted trace operation event answer
completion trace is_run have operation among event answer replied =
    completed trace is_run have (work_recorded trace is_run have) (one_record trace) operation among event answer
    replied

pub client_facts : (trace : Trace) → IsRun trace → ArePlain trace → ClientFacts trace
client_facts trace is_run have = record {
  asks = λ count at letter client number round sets body it.
      request_of trace is_run have count it.within at letter it.is_letter client number round sets body it.is_request;
  alike = λ count first second a b client number round sets others body other one two.
      one_round_request trace is_run have count one.within first second a b one.is_letter two.is_letter client number
      round sets others body other one.is_request two.is_request;
  held = λ count at letter client number round sets body it.
      view_of_request trace is_run have count it.within at letter it.is_letter client number round sets body
      it.is_request;
  completes = completion trace is_run have;
}
