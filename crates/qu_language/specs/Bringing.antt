-- The lines that bring bytes to a party: given ones, or a made reply.
use Rattle.std.specs.Prelude.{ℕ, List, [], ◌∷◌, Option, None, Some, Result, Ok, Err, if◌then◌else◌, codes}
use Rattle.std.specs.Str.{bytes_eq}
use Rattle.qu_base.specs.declared.party.ReplicaId.{ReplicaId}
use Rattle.qu_trace.specs.declared.trace.Setup.{Setup}
use Rattle.qu_script_words.specs.declared.bad.BadKind.{BadKind}
use Rattle.qu_script_words.specs.declared.bad.BadKind.TheVariants.{UnknownWord, WrongCount}
use Rattle.qu_script_words.specs.Meaning.{then_good}
use Rattle.qu_script_words.specs.Parties.{replica_rule, client_rule, correct_replica_rule, party_from}
use Rattle.qu_script_words.specs.Rules.{hex_rule}
use Rattle.qu_script_words.specs.Words.{next_of, only_of, some_of}
use Rattle.qu_language.specs.declared.line.How.{How}
use Rattle.qu_language.specs.declared.line.How.TheVariants as how
use Rattle.qu_language.specs.declared.line.Line.{Line}
use Rattle.qu_language.specs.declared.line.Line.TheVariants.{Inject, Fake}

-- `replica R HEX` or `client C HEX`
unfoldable pub inject_rule : Setup → List (List ℕ) → Result Line BadKind
inject_rule setup words =
    then_good (party_from setup words) (λ who.
    then_good (only_of hex_rule who.1) (λ bytes. Ok (Inject who.0 bytes)))

-- a correct replica, and the words behind it
abbrev pub source_from : Setup → List (List ℕ) → Result (ReplicaId × List (List ℕ)) BadKind
source_from setup words =
    then_good (next_of words) (λ next.
    then_good (correct_replica_rule setup next.0) (λ source. Ok (source, next.1)))

-- `show S`, `echo S` or `far`, and the words behind it
unfoldable pub how_from : Setup → List (List ℕ) → Result (How × List (List ℕ)) BadKind
how_from setup words =
    then_good (next_of words) (λ next.
    if bytes_eq next.0 (codes "show")
    then then_good (source_from setup next.1) (λ source. Ok (how.Show source.0, source.1))
    else (if bytes_eq next.0 (codes "echo")
    then then_good (source_from setup next.1) (λ source. Ok (how.Echo source.0, source.1))
    else (if bytes_eq next.0 (codes "far") then Ok (how.Far, next.1) else Err UnknownWord)))

-- behind HOW stands nothing more, or `for R R ..`: another word is one too many
unfoldable pub good_rule : ℕ → List (List ℕ) → Result (Option (List ReplicaId)) BadKind
good_rule bounds [] = Ok None
good_rule bounds (word ∷ words) =
    then_good (next_of (word ∷ words)) (λ next.
    if bytes_eq next.0 (codes "for")
    then then_good (some_of (replica_rule bounds) next.1) (λ good. Ok (Some good)) else Err WrongCount)

-- `R C HOW` or `R C HOW for R R ..`
unfoldable pub fake_rule : Setup → List (List ℕ) → Result Line BadKind
fake_rule setup words =
    then_good (next_of words) (λ first.
    then_good (replica_rule setup.bounds first.0) (λ me.
    then_good (next_of first.1) (λ second.
    then_good (client_rule setup.clients second.0) (λ client.
    then_good (how_from setup second.1) (λ shows.
    then_good (good_rule setup.bounds shows.1) (λ good. Ok (Fake me client shows.0 good)))))))
