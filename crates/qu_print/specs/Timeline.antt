-- The lines of the events of a run: at each of them the call, then the points, then the end.
use Rattle.std.specs.Prelude.{ℕ, Bool, true, false, ◌+◌, ◌==◌, List, [], ◌∷◌, ◌++◌, length, map, filter, take, Option, None, Some, codes}
use Rattle.std.specs.List.{flat_map, enumerate_from}
use Rattle.qu_base.specs.declared.party.ClientId.{ClientId}
use Rattle.qu_objects.specs.declared.op.Op.{Op}
use Rattle.qu_objects.specs.declared.op.Outcome.{Outcome}
use Rattle.qu_objects.specs.declared.op.Outcome.TheVariants.{Done, GaveUp}
use Rattle.qu_machine.specs.declared.record.Point.{Point}
use Rattle.qu_trace.specs.declared.event.Event.{Event}
use Rattle.qu_trace.specs.declared.event.Event.TheVariants.{Invoke, Deliver, Tick, Inject}
use Rattle.qu_trace.specs.declared.trace.Entry.{Entry}
use Rattle.qu_trace.specs.Operation.{begun_by}
use Rattle.qu_print.specs.Words.{name_text, op_text, answer_text}

abbrev pub call_line : ClientId → ℕ → Op → List ℕ
call_line client number op = codes "call " ++ name_text client number ++ codes " " ++ op_text op

-- an operation that begins behind these entries is numbered by its client's earlier ones
abbrev pub call_lines : List Entry → Event → List (List ℕ)
call_lines earlier (Invoke client op) = call_line client (begun_by client earlier + 1) op ∷ []
call_lines earlier (Deliver letter) = []
call_lines earlier (Tick client) = []
call_lines earlier (Inject party text) = []

-- an update of a faulty client is told with its point
abbrev pub faulty_text : Bool → Op → List ℕ
faulty_text false op = []
faulty_text true op = codes " faulty " ++ op_text op

abbrev pub point_line : Point → List ℕ
point_line point = codes "point " ++ name_text point.client point.number ++ faulty_text point.faulty point.op

-- the points of an event, in their order
abbrev pub point_lines : ℕ → List Point → List (List ℕ)
point_lines event order = map point_line (filter (λ point. point.event == event) order)

abbrev pub outcome_line : List ℕ → Outcome → List ℕ
outcome_line name (Done answer) = codes "reply " ++ name ++ codes " " ++ answer_text answer
outcome_line name GaveUp = codes "gaveup " ++ name

abbrev pub end_lines : Option (ClientId × ℕ × Outcome) → List (List ℕ)
end_lines None = []
end_lines (Some ended) = outcome_line (name_text ended.0 ended.1) ended.2 ∷ []

-- the event behind these entries has the number that comes next
unfoldable pub event_lines : List Point → List Entry → Entry → List (List ℕ)
event_lines order earlier entry =
    call_lines earlier entry.event ++ point_lines (length earlier + 1) order ++ end_lines entry.ended

unfoldable pub timeline : List Entry → List Point → List (List ℕ)
timeline entries order = flat_map (λ place. event_lines order (take place.0 entries) place.1) (enumerate_from 0 entries)
