-- The operations of a generated script, and what each is called by.
use Rattle.std.specs.Prelude.{ℕ, ◌+◌, ◌-◌, ◌/◌, ◌%◌, ◌==◌, List, [], ◌∷◌, ◌++◌, codes, if◌then◌else◌}
use Rattle.std.specs.Fmt.{decimal}
use Rattle.qu_notation.specs.Bytes.{bytes_text}
use Rattle.qu_gen.specs.declared.operation.Operation.{Operation}

-- The operation at a place, from 1 on, of the script of a number. They come in turns from 0 on. In a turn clients 1 to
-- 4 are called once each, all for one object; with each turn the next of objects 0 to 7 comes, and behind 7 comes 0.
abbrev pub operation_at : ℕ → ℕ → Operation
operation_at number place =
    record {
      client = record { 0 = 1 + (place - 1) % 4 };
      object = record { 0 = ((place - 1) / 4 + number) % 8 };
      turn = (place - 1) / 4;
    }

-- ---- what is called

-- what clients 1, 2, 3 and 4 call, in a row
abbrev pub by_client : Operation → List ℕ → List ℕ → List ℕ → List ℕ → List ℕ
by_client operation first second third fourth =
    if (operation.client).0 == 1 then first
    else if (operation.client).0 == 2 then second
    else if (operation.client).0 == 3 then third
    else fourth

abbrev pub add_words : Operation → List ℕ
add_words operation = codes "add " ++ decimal (operation.object).0 ++ codes " " ++ decimal (1 + operation.turn % 7)

-- one is taken of a counter and added to the next one; behind counter 5 comes counter 0, whose part stands first
abbrev pub move_words : ℕ → List ℕ
move_words counter =
    if counter == 5 then codes "add 0 1 + take 5 1"
    else codes "take " ++ decimal counter ++ codes " 1 + add " ++ decimal (counter + 1) ++ codes " 1"

unfoldable pub called_on_counter : Operation → List ℕ
called_on_counter operation =
    by_client operation (add_words operation) (add_words operation) (move_words (operation.object).0)
    (codes "read " ++ decimal (operation.object).0)

-- the turn is the one byte that is put or appended
unfoldable pub called_on_blob : Operation → List ℕ
called_on_blob operation =
    by_client operation (codes "put 6 " ++ bytes_text (operation.turn ∷ []))
    (codes "append 6 " ++ bytes_text (operation.turn ∷ [])) (codes "cat 6") (codes "cat 6")

abbrev pub name_of_turn : ℕ → List ℕ
name_of_turn turn = codes "n" ++ decimal turn

unfoldable pub called_on_directory : Operation → List ℕ
called_on_directory operation =
    by_client operation (codes "link 7 " ++ name_of_turn operation.turn ++ codes " " ++ decimal operation.turn)
    (codes "find 7 " ++ name_of_turn operation.turn) (codes "unlink 7 " ++ name_of_turn operation.turn)
    (codes "list 7")

-- objects 0 to 5 are counters, object 6 is a blob and object 7 a directory
unfoldable pub called : Operation → List ℕ
called operation =
    if (operation.object).0 == 6 then called_on_blob operation
    else if (operation.object).0 == 7 then called_on_directory operation
    else called_on_counter operation
