-- What a word has to be that names a party.
use Rattle.std.specs.Prelude.{ℕ, nat_le, nat_lt, ◌&&◌, List, Result, Ok, Err, if◌then◌else◌, codes}
use Rattle.std.specs.Str.{bytes_eq}
use Rattle.qu_base.specs.declared.limits.TheConstants.{LAST_CLIENT}
use Rattle.qu_base.specs.declared.party.ClientId.{ClientId}
use Rattle.qu_base.specs.declared.party.Party.{Party}
use Rattle.qu_base.specs.declared.party.Party.TheVariants as party
use Rattle.qu_base.specs.declared.party.ReplicaId.{ReplicaId}
use Rattle.qu_base.specs.Bounds.{replicas}
use Rattle.qu_trace.specs.declared.trace.Setup.{Setup}
use Rattle.qu_trace.specs.Faulty.{is_faulty}
use Rattle.qu_script_words.specs.declared.bad.BadKind.{BadKind}
use Rattle.qu_script_words.specs.declared.bad.BadKind.TheVariants.{OverLimit, NoSuchActor, UnknownWord}
use Rattle.qu_script_words.specs.Meaning.{then_good}
use Rattle.qu_script_words.specs.Rules.{number_rule}
use Rattle.qu_script_words.specs.Words.{next_of}

-- ---- numbers of parties

abbrev pub replica_by_number : ℕ → ℕ → Result ReplicaId BadKind
replica_by_number bounds number =
    if nat_lt number (replicas bounds) then Ok (record { 0 = number }) else Err NoSuchActor

abbrev pub client_by_number : ℕ → ℕ → Result ClientId BadKind
client_by_number clients number =
    if nat_le 1 number && nat_le number LAST_CLIENT
    then (if nat_le number clients then Ok (record { 0 = number }) else Err NoSuchActor) else Err OverLimit

-- a replica, where so many may lie
abbrev pub replica_rule : ℕ → List ℕ → Result ReplicaId BadKind
replica_rule bounds word = then_good (number_rule word) (replica_by_number bounds)

-- a client, where there are so many
abbrev pub client_rule : ℕ → List ℕ → Result ClientId BadKind
client_rule clients word = then_good (number_rule word) (client_by_number clients)

-- ---- correct parties

abbrev pub if_correct : {X : Type 0} → Setup → Party → X → Result X BadKind
if_correct setup who me = if is_faulty setup who then Err NoSuchActor else Ok me

abbrev pub correct_replica_rule : Setup → List ℕ → Result ReplicaId BadKind
correct_replica_rule setup word =
    then_good (replica_rule setup.bounds word) (λ me. if_correct setup (party.Replica me) me)

abbrev pub correct_client_rule : Setup → List ℕ → Result ClientId BadKind
correct_client_rule setup word =
    then_good (client_rule setup.clients word) (λ me. if_correct setup (party.Client me) me)

-- ---- either

abbrev pub replica_from : ℕ → List (List ℕ) → Result (Party × List (List ℕ)) BadKind
replica_from bounds words =
    then_good (next_of words) (λ next.
    then_good (replica_rule bounds next.0) (λ me. Ok (party.Replica me, next.1)))

abbrev pub client_from : ℕ → List (List ℕ) → Result (Party × List (List ℕ)) BadKind
client_from clients words =
    then_good (next_of words) (λ next.
    then_good (client_rule clients next.0) (λ me. Ok (party.Client me, next.1)))

-- `replica R` or `client C`, and the words behind it
unfoldable pub party_from : Setup → List (List ℕ) → Result (Party × List (List ℕ)) BadKind
party_from setup words =
    then_good (next_of words) (λ kind.
    if bytes_eq kind.0 (codes "replica") then replica_from setup.bounds kind.1
    else (if bytes_eq kind.0 (codes "client") then client_from setup.clients kind.1 else Err UnknownWord))
