-- The lines of the operations that have no end, and the line that counts how operations ended.
use Rattle.std.specs.Prelude.{ℕ, Bool, true, false, ◌==◌, ◌&&◌, List, ◌++◌, length, map, filter, count_by, is_none, codes}
use Rattle.std.specs.Option.{option_map_or}
use Rattle.std.specs.List.{flat_map, range_with_len}
use Rattle.std.specs.Fmt.{decimal}
use Rattle.qu_objects.specs.declared.op.Outcome.{Outcome}
use Rattle.qu_objects.specs.declared.op.Outcome.TheVariants.{Done, GaveUp}
use Rattle.qu_machine.specs.declared.record.OpRecord.{OpRecord}
use Rattle.qu_trace.specs.declared.premises.Premises.{Premises}
use Rattle.qu_trace.specs.declared.premises.Premises.TheVariants.{Hold, Forged, Collide}
use Rattle.qu_print.specs.Words.{name_text}

-- ---- how an operation ended

abbrev pub is_done : Outcome → Bool
is_done (Done answer) = true
is_done GaveUp = false

abbrev pub is_given_up : Outcome → Bool
is_given_up (Done answer) = false
is_given_up GaveUp = true

abbrev pub ended_done : OpRecord → Bool
ended_done operation = option_map_or (λ reply. is_done reply.1) operation.reply false

abbrev pub ended_given_up : OpRecord → Bool
ended_given_up operation = option_map_or (λ reply. is_given_up reply.1) operation.reply false

abbrev pub never_ended : OpRecord → Bool
never_ended operation = is_none operation.reply

-- ---- the lines

abbrev pub open_line : OpRecord → List ℕ
open_line operation = codes "open " ++ name_text operation.client operation.number

-- the open operations of one client, in the order in which they began, which is that of their numbers
unfoldable pub open_lines_of : List OpRecord → ℕ → List (List ℕ)
open_lines_of operations client =
    map open_line (filter (λ operation. (operation.client).0 == client && never_ended operation) operations)

-- the open operations of clients 1, 2, .. up to this one
unfoldable pub open_lines : ℕ → List OpRecord → List (List ℕ)
open_lines clients operations = flat_map (open_lines_of operations) (range_with_len 1 clients)

-- whether the premises hold, and else the events of the first break
unfoldable pub premises_line : Premises → List ℕ
premises_line Hold = codes "premises hold"
premises_line (Forged event) = codes "premises forged " ++ decimal event
premises_line (Collide first second) = codes "premises collide " ++ decimal first ++ codes " " ++ decimal second

-- how many operations there are, and how many of them ended in each way
unfoldable pub counts_text : List OpRecord → List ℕ
counts_text operations =
    codes "calls " ++ decimal (length operations)
    ++ codes " done " ++ decimal (count_by ended_done operations)
    ++ codes " gaveup " ++ decimal (count_by ended_given_up operations)
    ++ codes " open " ++ decimal (count_by never_ended operations)

unfoldable pub end_line : List OpRecord → List ℕ
end_line operations = codes "end " ++ counts_text operations
