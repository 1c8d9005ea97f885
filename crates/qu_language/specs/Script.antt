-- What a text says: its script, or its first refusal. The whole text is read before anything runs.
use Rattle.std.specs.Prelude.{ℕ, Bool, ◌+◌, nat_lt, List, [], ◌∷◌, length, Result, Err, if◌then◌else◌}
use Rattle.qu_notation.specs.Text.{lines_of}
use Rattle.qu_script_words.specs.declared.bad.Bad.{Bad}
use Rattle.qu_script_words.specs.declared.bad.BadKind.TheVariants.{TooLong}
use Rattle.qu_script_words.specs.Meaning.{then_good, at_line}
use Rattle.qu_script_words.specs.Words.{words_in}
use Rattle.qu_io.specs.declared.limits.TheConstants.{SCRIPT_LIMIT}
use Rattle.qu_language.specs.declared.line.Script.{Script}
use Rattle.qu_language.specs.declared.phase.Phase.{Phase}
use Rattle.qu_language.specs.declared.phase.Phase.TheVariants.{NeedsBounds}
use Rattle.qu_language.specs.Phase.{line_rule, end_rule}

-- the lines of these texts, of which the first has this number, where the script was read so far. What is missing at
-- the end is told with the number of the line that is not there
unfoldable pub lines_rule : Bool → Phase → ℕ → List (List ℕ) → Result Script Bad
lines_rule live phase number [] = at_line number (end_rule phase)
lines_rule live phase number (text ∷ texts) =
    then_good (at_line number (line_rule live phase number (words_in text)))
    (λ phase. lines_rule live phase (number + 1) texts)

-- the script of a text, or its first line that cannot stand, with what is wrong at the line's first bad word; `live`
-- where threads run it
unfoldable pub script_of : Bool → List ℕ → Result Script Bad
script_of live bytes =
    if nat_lt SCRIPT_LIMIT (length bytes) then Err (record { line = 1; kind = TooLong })
    else lines_rule live NeedsBounds 1 (lines_of bytes)
