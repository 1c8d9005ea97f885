-- The lines of a setup behind the first three: objects, faulty replicas, and then faulty clients.
use Rattle.std.specs.Prelude.{ℕ, ◌≤◌, Bool, nat_eq, nat_lt, ◌||◌, List, length, count_by, Result, Ok, Err, if◌then◌else◌, codes}
use Rattle.std.specs.List.{list_all}
use Rattle.std.specs.Str.{bytes_eq}
use Rattle.qu_base.specs.declared.limits.TheConstants.{LAST_CLIENT, MOST_FAULTS, OBJECT_IDS}
use Rattle.qu_base.specs.declared.party.Party.{Party}
use Rattle.qu_base.specs.declared.party.Party.TheVariants as party
use Rattle.qu_objects.specs.declared.kind.KindName.{KindName}
use Rattle.qu_objects.specs.declared.kind.KindName.TheVariants.{Counter, Blob, Dir}
use Rattle.qu_trace.specs.declared.trace.Setup.{Setup}
use Rattle.qu_trace.specs.Faulty.{is_replica}
use Rattle.qu_script_words.specs.declared.bad.BadKind.{BadKind}
use Rattle.qu_script_words.specs.declared.bad.BadKind.TheVariants.{OutOfOrder, UnknownWord, OverLimit}
use Rattle.qu_script_words.specs.Meaning.{then_good}
use Rattle.qu_script_words.specs.Parties.{replica_by_number, client_by_number}
use Rattle.qu_script_words.specs.Rules.{number_rule}
use Rattle.qu_script_words.specs.Words.{next_of, only_of}

-- what every script that is read keeps to
pub record IsWithin (setup : Setup) : Type 0 where
  pub some_faults : 1 ≤ setup.bounds
  pub few_faults : setup.bounds ≤ MOST_FAULTS
  pub clients : setup.clients ≤ LAST_CLIENT
  pub kinds : length setup.kinds ≤ OBJECT_IDS
  -- at most b replicas are faulty
  pub few : count_by is_replica setup.liars ≤ setup.bounds

-- ---- objects

-- `counter`, `blob` or `dir`
unfoldable pub kind_rule : List ℕ → Result KindName BadKind
kind_rule word =
    if bytes_eq word (codes "counter") then Ok Counter
    else (if bytes_eq word (codes "blob") then Ok Blob
    else (if bytes_eq word (codes "dir") then Ok Dir else Err UnknownWord))

-- the number of the object behind so many
abbrev pub object_in_turn : ℕ → ℕ → Result ℕ BadKind
object_in_turn count number =
    if nat_eq number count then (if nat_lt number OBJECT_IDS then Ok number else Err OverLimit) else Err OutOfOrder

-- `I KIND`, behind so many objects
unfoldable pub object_line : ℕ → List (List ℕ) → Result KindName BadKind
object_line count words =
    then_good (next_of words) (λ next.
    then_good (then_good (number_rule next.0) (object_in_turn count)) (λ number. only_of kind_rule next.1))

-- ---- faulty parties

abbrev pub party_number : Party → ℕ
party_number (party.Replica me) = me.0
party_number (party.Client me) = me.0

-- the number is above those of all these replicas
abbrev pub rises : List Party → ℕ → Bool
rises liars number = list_all (λ (liar : Party). nat_lt (party_number liar) number) liars

-- the number is above those of all clients among these
abbrev pub rises_in_clients : List Party → ℕ → Bool
rises_in_clients liars number =
    list_all (λ (liar : Party). is_replica liar || nat_lt (party_number liar) number) liars

abbrev pub if_room : Setup → Party → Result Party BadKind
if_room setup who = if nat_lt (length setup.liars) setup.bounds then Ok who else Err OverLimit

-- the next faulty replica, where replicas alone are listed: by rising numbers, and no more than may lie
abbrev pub faulty_replica : Setup → ℕ → Result Party BadKind
faulty_replica setup number =
    if rises setup.liars number
    then then_good (replica_by_number setup.bounds number) (λ me. if_room setup (party.Replica me)) else Err OutOfOrder

-- the next faulty client: by rising numbers
abbrev pub faulty_client : Setup → ℕ → Result Party BadKind
faulty_client setup number =
    if rises_in_clients setup.liars number
    then then_good (client_by_number setup.clients number) (λ me. Ok (party.Client me)) else Err OutOfOrder

abbrev pub faulty_replica_rule : Setup → List ℕ → Result Party BadKind
faulty_replica_rule setup word = then_good (number_rule word) (faulty_replica setup)

abbrev pub faulty_client_rule : Setup → List ℕ → Result Party BadKind
faulty_client_rule setup word = then_good (number_rule word) (faulty_client setup)

-- `replica R` or `client C`; no replica stands behind a client
unfoldable pub faulty_line : Setup → List (List ℕ) → Result Party BadKind
faulty_line setup words =
    then_good (next_of words) (λ kind.
    if bytes_eq kind.0 (codes "replica")
    then (if list_all is_replica setup.liars then only_of (faulty_replica_rule setup) kind.1 else Err OutOfOrder)
    else (if bytes_eq kind.0 (codes "client") then only_of (faulty_client_rule setup) kind.1 else Err UnknownWord))
