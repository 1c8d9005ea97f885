-- The command sets of the programs: the lists of words that they know, each with what it asks for.
use Rattle.std.specs.Prelude.{◌≡◌, ⊤, ℕ, nat_le, Bool, List, [], ◌∷◌, ◌++◌, length, take, drop, Option, None, Some, ◌⊎◌, codes, if◌then◌else◌}
use Rattle.std.specs.Cmp.Lexicographic.{pointwise}
use Rattle.std.specs.Option.{option_map}
use Rattle.std.specs.Str.{bytes_eq}
use Rattle.qu_notation.specs.Numbers.{number_of}
use Rattle.qu_notation.specs.declared.command.Command.{Command}
use Rattle.qu_notation.specs.declared.command.Command.TheVariants.{Sim, Live, SimGen, Gen}
use Rattle.qu_notation.specs.declared.command.Telling.TheVariants.{Operations, Events, Digests, Bytes, Summary}

-- the words are those
abbrev pub are_words : List (List ℕ) → List (List ℕ) → Bool
are_words words those = pointwise bytes_eq words those

-- what a command makes without threads
abbrev pub IsAlone : Command → Type 0
IsAlone (Sim telling) = ⊤
IsAlone Live = ⊥
IsAlone (SimGen number) = ⊤
IsAlone (Gen number) = ⊤

-- of a run the operations alone are told
abbrev pub TellsOperations : Command → Type 0
TellsOperations (Sim Operations) = ⊤
TellsOperations (Sim Events) = ⊥
TellsOperations (Sim Digests) = ⊥
TellsOperations (Sim Bytes) = ⊥
TellsOperations (Sim (Summary number)) = ⊤
TellsOperations Live = ⊤
TellsOperations (SimGen number) = ⊤
TellsOperations (Gen number) = ⊤

-- the letters of a run are told, and nothing else
abbrev pub TellsLetters : Command → Type 0
TellsLetters (Sim Operations) = ⊥
TellsLetters (Sim Events) = ⊤
TellsLetters (Sim Digests) = ⊤
TellsLetters (Sim Bytes) = ⊤
TellsLetters (Sim (Summary number)) = ⊥
TellsLetters Live = ⊥
TellsLetters (SimGen number) = ⊥
TellsLetters (Gen number) = ⊥

-- ---- of `qu`

-- the number below 2^64 that a word of 1 to 20 decimal digits writes
abbrev pub short_number : List ℕ → Option ℕ
short_number word = if nat_le (length word) 20 then number_of word else None

-- the command set, but for `live`: exactly these lists of words ask for something. Where there are two, one of them
pub record AsksWithNumber (one other : List ℕ → List (List ℕ)) (words : List (List ℕ)) (number : ℕ) : Type 0 where
  pub digits : List ℕ
  pub writes : short_number digits ≡ Some number
  pub asks : (words ≡ one digits) ⊎ (words ≡ other digits)

abbrev pub AsksFor : List (List ℕ) → Command → Type 0
AsksFor words (Sim Operations) = words ≡ codes "sim" ∷ []
AsksFor words (Sim Events) = ⊥
AsksFor words (Sim Digests) = ⊥
AsksFor words (Sim Bytes) = ⊥
AsksFor words (Sim (Summary number)) = ⊥
AsksFor words Live = ⊥
AsksFor words (SimGen number) =
    AsksWithNumber (λ digits. codes "sim" ∷ codes "--gen" ∷ digits ∷ [])
    (λ digits. codes "sim" ∷ (codes "--gen=" ++ digits) ∷ []) words number
AsksFor words (Gen number) =
    AsksWithNumber (λ digits. codes "gen" ∷ digits ∷ []) (λ digits. codes "gen" ∷ codes "--" ∷ digits ∷ []) words number

-- the same as a function
unfoldable pub joined_number : List ℕ → Option ℕ
joined_number word = if bytes_eq (take 6 word) (codes "--gen=") then short_number (drop 6 word) else None

unfoldable pub two_words : List ℕ → List ℕ → Option Command
two_words first second =
    if bytes_eq first (codes "sim") then option_map SimGen (joined_number second)
    else if bytes_eq first (codes "gen") then option_map Gen (short_number second) else None

unfoldable pub three_words : List ℕ → List ℕ → List ℕ → Option Command
three_words first second third =
    if are_words (first ∷ second ∷ []) (codes "sim" ∷ codes "--gen" ∷ []) then option_map SimGen (short_number third)
    else if are_words (first ∷ second ∷ []) (codes "gen" ∷ codes "--" ∷ []) then option_map Gen (short_number third)
    else None

unfoldable pub alone_command_of : List (List ℕ) → Option Command
alone_command_of [] = None
alone_command_of (word ∷ []) = if bytes_eq word (codes "sim") then Some (Sim Operations) else None
alone_command_of (first ∷ second ∷ []) = two_words first second
alone_command_of (first ∷ second ∷ third ∷ []) = three_words first second third
alone_command_of (first ∷ second ∷ third ∷ fourth ∷ words) = None

abbrev pub live_words : List (List ℕ)
live_words = codes "live" ∷ []

abbrev pub asks_live : List (List ℕ) → Bool
asks_live words = are_words words live_words

-- with threads
unfoldable pub command_of : List (List ℕ) → Option Command
command_of words = if asks_live words then Some Live else alone_command_of words

-- the line that tells which words there are
unfoldable pub usage_text : List ℕ
usage_text = codes "usage: qu sim [--gen N] | live | gen N" ++ 10 ∷ []

-- ---- of `qu-letters`

-- a list of words is listed with a command
abbrev pub Listed : Type 0
Listed = List (List ℕ) × Command

-- what the words ask for: that with which the set lists them
unfoldable pub command_in : List Listed → List (List ℕ) → Option Command
command_in [] words = None
command_in (listed ∷ others) words = if are_words words listed.0 then Some listed.1 else command_in others words

abbrev pub letters_commands : List Listed
letters_commands =
    ([], Sim Events) ∷ (codes "digests" ∷ [], Sim Digests) ∷ (codes "bytes" ∷ [], Sim Bytes) ∷ []

-- the line that tells which words there are
unfoldable pub letters_usage_text : List ℕ
letters_usage_text = codes "usage: qu-letters [digests | bytes]" ++ 10 ∷ []
