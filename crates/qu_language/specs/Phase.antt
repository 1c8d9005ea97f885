-- How far a script was read, and what its next line may be.
use Rattle.std.specs.Prelude.{ℕ, ◌≤◌, ◌==◌, Bool, true, false, ◌&&◌, ◌||◌, List, [], ◌∷◌, ◌++◌, length, Result, Ok, Err, if◌then◌else◌, codes}
use Rattle.std.specs.List.{list_all}
use Rattle.std.specs.Str.{bytes_eq}
use Rattle.qu_base.specs.declared.limits.TheConstants.{LAST_CLIENT, MOST_FAULTS}
use Rattle.qu_base.specs.declared.party.Party.{Party}
use Rattle.qu_objects.specs.declared.kind.KindName.{KindName}
use Rattle.qu_script_words.specs.declared.bad.BadKind.{BadKind}
use Rattle.qu_script_words.specs.declared.bad.BadKind.TheVariants.{NotAscii, ExpectedBounds, ExpectedSeed, ExpectedClients, ExpectedObject, OutOfOrder}
use Rattle.qu_script_words.specs.Meaning.{then_good}
use Rattle.qu_script_words.specs.Rules.{number_rule, ranged_rule}
use Rattle.qu_script_words.specs.Words.{ascii_word, is_ascii_word, only_of}
use Rattle.qu_language.specs.declared.line.Line.{Line}
use Rattle.qu_language.specs.declared.line.Script.{Script}
use Rattle.qu_language.specs.declared.phase.Phase.{Phase}
use Rattle.qu_language.specs.declared.phase.Phase.TheVariants.{NeedsBounds, NeedsSeed, NeedsClients, Body}
use Rattle.qu_language.specs.Event.{event_rule, live_rule}
use Rattle.qu_language.specs.Setup.{IsWithin, object_line, faulty_line}

-- ---- a script line by line

abbrev pub has_none : {X : Type 0} → List X → Bool
has_none [] = true
has_none (x ∷ xs) = false

-- a script of three lines
abbrev pub opening_script : ℕ → ℕ → ℕ → Script
opening_script bounds seed clients = record {
  setup = record { bounds = bounds; seed = seed; clients = clients; kinds = []; liars = [] };
  lines = [];
}

abbrev pub with_kind : Script → KindName → Script
with_kind script kind = record {
  setup = record {
    bounds = script.setup.bounds;
    seed = script.setup.seed;
    clients = script.setup.clients;
    kinds = script.setup.kinds ++ kind ∷ [];
    liars = script.setup.liars;
  };
  lines = script.lines;
}

abbrev pub with_liar : Script → Party → Script
with_liar script who = record {
  setup = record {
    bounds = script.setup.bounds;
    seed = script.setup.seed;
    clients = script.setup.clients;
    kinds = script.setup.kinds;
    liars = script.setup.liars ++ who ∷ [];
  };
  lines = script.lines;
}

abbrev pub with_line : Script → ℕ → Line → Script
with_line script number line = record { setup = script.setup; lines = script.lines ++ (number, line) ∷ [] }

-- ---- the lines behind the first three

-- objects come before faulty parties and events
abbrev pub object_said : Script → List (List ℕ) → Result Script BadKind
object_said script words =
    if has_none script.setup.liars && has_none script.lines
    then then_good (object_line (length script.setup.kinds) words) (λ kind. Ok (with_kind script kind))
    else Err OutOfOrder

-- faulty parties come before events
abbrev pub faulty_said : Script → List (List ℕ) → Result Script BadKind
faulty_said script words =
    if has_none script.lines
    then then_good (faulty_line script.setup words) (λ who. Ok (with_liar script who)) else Err OutOfOrder

-- a line behind those of a script; `live` where threads run it
abbrev pub next_line : Bool → Script → List ℕ → List (List ℕ) → Result Line BadKind
next_line live script word words =
    if live then live_rule script.setup (length script.lines) word words else event_rule script.setup word words

abbrev pub event_said : Bool → Script → ℕ → List ℕ → List (List ℕ) → Result Script BadKind
event_said live script number word words =
    then_good (next_line live script word words) (λ line. Ok (with_line script number line))

-- the words with which the first three lines begin
abbrev pub is_opening_word : List ℕ → Bool
is_opening_word word = bytes_eq word (codes "bounds") || bytes_eq word (codes "seed") || bytes_eq word (codes "clients")

-- a line that lists a faulty party or makes events
unfoldable pub later_rule : Bool → Script → ℕ → List ℕ → List (List ℕ) → Result Script BadKind
later_rule live script number word words =
    if bytes_eq word (codes "faulty") then faulty_said script words
    else (if is_opening_word word then Err OutOfOrder else event_said live script number word words)

-- a line behind the first three, by its first word: there is one object at least
unfoldable pub body_rule : Bool → Script → ℕ → List ℕ → List (List ℕ) → Result Script BadKind
body_rule live script number word words =
    if bytes_eq word (codes "object") then object_said script words
    else (if has_none script.setup.kinds then Err ExpectedObject else later_rule live script number word words)

-- ---- all lines

-- a line that has to begin with this word, and says what stands behind it by a rule
abbrev pub opening_line : List ℕ → BadKind → (List ℕ → Result ℕ BadKind) → List ℕ → List (List ℕ) → Result ℕ BadKind
opening_line first kind rule word words = if bytes_eq word first then only_of rule words else Err kind

-- a line that says something, by its first word and the others
abbrev pub said_rule : Bool → Phase → ℕ → List ℕ → List (List ℕ) → Result Phase BadKind
said_rule live NeedsBounds number word words =
    then_good (opening_line (codes "bounds") ExpectedBounds (ranged_rule 1 MOST_FAULTS) word words)
    (λ bounds. Ok (NeedsSeed bounds))
said_rule live (NeedsSeed bounds) number word words =
    then_good (opening_line (codes "seed") ExpectedSeed number_rule word words) (λ seed. Ok (NeedsClients bounds seed))
said_rule live (NeedsClients bounds seed) number word words =
    then_good (opening_line (codes "clients") ExpectedClients (ranged_rule 1 LAST_CLIENT) word words)
    (λ clients. Ok (Body (opening_script bounds seed clients)))
said_rule live (Body script) number word words =
    then_good (body_rule live script number word words) (λ script. Ok (Body script))

-- whether the first word of a line makes it a comment
abbrev pub is_comment : List ℕ → Bool
is_comment [] = false
is_comment (byte ∷ bytes) = byte == 35

-- a comment may say what it wants, in printable ASCII characters
abbrev pub comment_of : List (List ℕ) → Result (Unit {0}) BadKind
comment_of words = if list_all is_ascii_word words then Ok tt else Err NotAscii

-- the line with this number, by its words: an empty line and a comment are passed over
unfoldable pub line_rule : Bool → Phase → ℕ → List (List ℕ) → Result Phase BadKind
line_rule live phase number [] = Ok phase
line_rule live phase number (word ∷ words) =
    then_good (ascii_word word) (λ word.
    if is_comment word then then_good (comment_of words) (λ done. Ok phase)
    else said_rule live phase number word words)

-- the script, where no line is left
abbrev pub whole_script : Script → Result Script BadKind
whole_script script = if has_none script.setup.kinds then Err ExpectedObject else Ok script

abbrev pub end_rule : Phase → Result Script BadKind
end_rule NeedsBounds = Err ExpectedBounds
end_rule (NeedsSeed bounds) = Err ExpectedSeed
end_rule (NeedsClients bounds seed) = Err ExpectedClients
end_rule (Body script) = whole_script script

-- ---- what was read so far is within the limits

abbrev pub AreFaults : ℕ → Type 0
AreFaults bounds = (1 ≤ bounds) × (bounds ≤ MOST_FAULTS)

abbrev pub IsGood : Phase → Type 0
IsGood NeedsBounds = Unit {0}
IsGood (NeedsSeed bounds) = AreFaults bounds
IsGood (NeedsClients bounds seed) = AreFaults bounds
IsGood (Body script) = IsWithin script.setup
