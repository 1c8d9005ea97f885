-- The calls of a run, as its clients begin them one after the other.
use Rattle.std.specs.Prelude.{List, ◌≡◌, ◌==◌, map, filter, take, length, slice_get, Some}
use Rattle.qu_base.specs.declared.party.ClientId.{ClientId}
use Rattle.qu_objects.specs.declared.op.Op.{Op}
use Rattle.qu_frames.specs.declared.input.Input.{Input}
use Rattle.qu_frames.specs.declared.input.Input.TheVariants.{Frame, Tick, Invoke}
use Rattle.qu_replay.specs.declared.kept_step.KeptStep.{KeptStep}
use Rattle.qu_replay.specs.Operations.{begun_operations}

-- the operations that this client is called for, in order
unfoldable pub calls_by : ClientId → List (ClientId × Op) → List Op
calls_by me calls = map (λ (call : ClientId × Op). call.1) (filter (λ (call : ClientId × Op). (call.0).0 == me.0) calls)

-- the operations that these steps began are the first of these calls, in order
abbrev pub AreFirstCalls : List Op → List KeptStep → Type 0
AreFirstCalls calls steps = begun_operations steps ≡ take (length (begun_operations steps)) calls

-- an operation that begins is the next of these calls, after those that these steps began
abbrev pub IsNextCall : List Op → List KeptStep → Input → Type 0
IsNextCall calls steps (Frame name text) = Unit {0}
IsNextCall calls steps Tick = Unit {0}
IsNextCall calls steps (Invoke op) = slice_get calls (length (begun_operations steps)) ≡ Some op
