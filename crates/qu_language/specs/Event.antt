-- The lines behind a setup.
use Rattle.std.specs.Prelude.{ℕ, nat_lt, Bool, ◌||◌, List, [], ◌∷◌, length, None, Some, Result, Ok, Err, if◌then◌else◌, codes}
use Rattle.std.specs.Str.{bytes_eq}
use Rattle.qu_trace.specs.declared.trace.Setup.{Setup}
use Rattle.qu_script_words.specs.declared.bad.BadKind.{BadKind}
use Rattle.qu_script_words.specs.declared.bad.BadKind.TheVariants.{OverLimit, UnknownWord, NotInLive}
use Rattle.qu_script_words.specs.Meaning.{then_good}
use Rattle.qu_script_words.specs.Parties.{replica_rule, correct_client_rule}
use Rattle.qu_script_words.specs.Rules.{number_rule, ranged_rule}
use Rattle.qu_script_words.specs.Words.{next_of, end_of, only_of, some_of}
use Rattle.qu_language.specs.declared.limits.TheConstants.{MOST_CALLS, MOST_TICKS}
use Rattle.qu_language.specs.declared.line.Line.{Line}
use Rattle.qu_language.specs.declared.line.Line.TheVariants.{Call, Deliver, Flow, Hold, Free, Lose, Tick, Wake}
use Rattle.qu_language.specs.Bringing.{inject_rule, fake_rule}
use Rattle.qu_language.specs.Operation.{op_rule}

-- `C OP`, of a correct client
unfoldable pub call_rule : Setup → List (List ℕ) → Result Line BadKind
call_rule setup words =
    then_good (next_of words) (λ next.
    then_good (correct_client_rule setup next.0) (λ client.
    then_good (op_rule (length setup.kinds) next.1) (λ op. Ok (Call client op))))

-- `L L ..`
abbrev pub deliver_rule : List (List ℕ) → Result Line BadKind
deliver_rule words = then_good (some_of number_rule words) (λ letters. Ok (Deliver letters))

-- nothing more, or `N`
unfoldable pub flow_rule : List (List ℕ) → Result Line BadKind
flow_rule [] = Ok (Flow None)
flow_rule (word ∷ words) = then_good (only_of number_rule (word ∷ words)) (λ count. Ok (Flow (Some count)))

-- one tick, or `N` of them
unfoldable pub ticks_rule : List (List ℕ) → Result ℕ BadKind
ticks_rule [] = Ok 1
ticks_rule (word ∷ words) = only_of (ranged_rule 1 MOST_TICKS) (word ∷ words)

-- `C` or `C N`, of a correct client
unfoldable pub tick_rule : Setup → List (List ℕ) → Result Line BadKind
tick_rule setup words =
    then_good (next_of words) (λ next.
    then_good (correct_client_rule setup next.0) (λ client.
    then_good (ticks_rule next.1) (λ count. Ok (Tick client count))))

-- `C`, of a correct client
abbrev pub wake_rule : Setup → List (List ℕ) → Result Line BadKind
wake_rule setup words = then_good (only_of (correct_client_rule setup) words) (λ client. Ok (Wake client))

-- nothing more
abbrev pub lose_rule : List (List ℕ) → Result Line BadKind
lose_rule words = then_good (end_of words) (λ done. Ok Lose)

-- `hold R R ..`, `free R R ..` or `lose`
unfoldable pub outage_rule : Setup → List ℕ → List (List ℕ) → Result Line BadKind
outage_rule setup verb words =
    if bytes_eq verb (codes "hold")
    then then_good (some_of (replica_rule setup.bounds) words) (λ replicas. Ok (Hold replicas))
    else (if bytes_eq verb (codes "free")
    then then_good (some_of (replica_rule setup.bounds) words) (λ replicas. Ok (Free replicas))
    else (if bytes_eq verb (codes "lose") then lose_rule words else Err UnknownWord))

-- a line that brings no event of its own letters
unfoldable pub quiet_rule : Setup → List ℕ → List (List ℕ) → Result Line BadKind
quiet_rule setup verb words =
    if bytes_eq verb (codes "tick") then tick_rule setup words
    else (if bytes_eq verb (codes "wake") then wake_rule setup words else outage_rule setup verb words)

-- a line behind the setup, by its first word
unfoldable pub event_rule : Setup → List ℕ → List (List ℕ) → Result Line BadKind
event_rule setup verb words =
    if bytes_eq verb (codes "call") then call_rule setup words
    else (if bytes_eq verb (codes "deliver") then deliver_rule words
    else (if bytes_eq verb (codes "flow") then flow_rule words
    else (if bytes_eq verb (codes "inject") then inject_rule setup words
    else (if bytes_eq verb (codes "fake") then fake_rule setup words else quiet_rule setup verb words))))

-- ---- for threads

-- the words with which the lines begin that make other events than a call
abbrev pub is_event_word : List ℕ → Bool
is_event_word verb =
    bytes_eq verb (codes "deliver") || bytes_eq verb (codes "flow") || bytes_eq verb (codes "inject")
    || bytes_eq verb (codes "fake") || bytes_eq verb (codes "tick") || bytes_eq verb (codes "wake")
    || bytes_eq verb (codes "hold") || bytes_eq verb (codes "free") || bytes_eq verb (codes "lose")

-- a line behind so many calls, by its first word: a script for threads calls, and has no other events
unfoldable pub live_rule : Setup → ℕ → List ℕ → List (List ℕ) → Result Line BadKind
live_rule setup count verb words =
    if bytes_eq verb (codes "call") then (if nat_lt count MOST_CALLS then call_rule setup words else Err OverLimit)
    else (if is_event_word verb then Err NotInLive else Err UnknownWord)
