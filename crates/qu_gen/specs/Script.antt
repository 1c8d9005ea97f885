-- The script of a number: 400 operations, one after another, of four clients, while one of six replicas lies.
use Rattle.std.specs.Prelude.{ℕ, ◌%◌, ◌==◌, List, [], ◌∷◌, ◌++◌, codes, if◌then◌else◌}
use Rattle.std.specs.Fmt.{decimal}
use Rattle.std.specs.List.{flat_map, range_with_len}
use Rattle.qu_gen.specs.Operation.{operation_at, called}

unfoldable pub numbers_of_setup : ℕ → List (List ℕ)
numbers_of_setup number = codes "bounds 1" ∷ (codes "seed " ++ decimal number) ∷ codes "clients 4" ∷ []

unfoldable pub objects_and_liar : List (List ℕ)
objects_and_liar =
    codes "object 0 counter" ∷ codes "object 1 counter" ∷ codes "object 2 counter"
    ∷ codes "object 3 counter" ∷ codes "object 4 counter" ∷ codes "object 5 counter"
    ∷ codes "object 6 blob" ∷ codes "object 7 dir" ∷ codes "faulty replica 5" ∷ []

unfoldable pub generated_setup : ℕ → List (List ℕ)
generated_setup number = numbers_of_setup number ++ objects_and_liar

-- a line, and behind it a flow of letters
unfoldable pub flowing : List ℕ → List (List ℕ)
flowing line = line ∷ codes "flow" ∷ []

abbrev pub client_line : List ℕ → ℕ → List ℕ
client_line verb client = verb ++ codes " " ++ decimal client

-- a client is called, ticks, is waked and ticks, and letters flow behind each of these, so that the operation ends
unfoldable pub course : ℕ → List ℕ → List (List ℕ)
course client operation =
    flowing (client_line (codes "call") client ++ codes " " ++ operation)
    ++ flowing (client_line (codes "tick") client)
    ++ flowing (client_line (codes "wake") client)
    ++ flowing (client_line (codes "tick") client)

-- behind each tenth operation the faulty replica sends its client a history whose last time is the last that there is
unfoldable pub lie_behind : ℕ → ℕ → List (List ℕ)
lie_behind place client =
    if place % 10 == 0 then (codes "fake 5 " ++ decimal client ++ codes " far") ∷ [] else []

unfoldable pub lines_at : ℕ → ℕ → List (List ℕ)
lines_at number place =
    course ((operation_at number place).client).0 (called (operation_at number place))
    ++ lie_behind place ((operation_at number place).client).0

-- the lines of the first operations, so many
unfoldable pub lines_of_first : ℕ → ℕ → List (List ℕ)
lines_of_first count number = flat_map (lines_at number) (range_with_len 1 count)

abbrev pub generated_lines : ℕ → List (List ℕ)
generated_lines number = generated_setup number ++ lines_of_first 400 number

-- each line ends with a line feed
unfoldable pub ended : List (List ℕ) → List ℕ
ended lines = flat_map (λ line. line ++ 10 ∷ []) lines

abbrev pub generated_script : ℕ → List ℕ
generated_script number = ended (generated_lines number)
