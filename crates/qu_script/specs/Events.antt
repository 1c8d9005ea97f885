-- The run that a script describes: the fold of its lines, each of which is some events in the world
-- in which it stands, or the first line that cannot be.
use Rattle.std.specs.Prelude.{◌≡◌, ⊤, ℕ, zero, suc, ◌+◌, Bool, true, false, List, [], ◌∷◌, length, Option, None, Some, Result, Ok, Err, unwrap_or, option_and_then}
use Rattle.qu_base.specs.Bounds.{replicas}
use Rattle.qu_base.specs.declared.party.ClientId.{ClientId}
use Rattle.qu_base.specs.declared.party.Party.TheVariants as party
use Rattle.qu_base.specs.declared.party.ReplicaId.{ReplicaId}
use Rattle.qu_script.specs.Outage.{OutageState, no_outage, with_marks}
use Rattle.qu_script.specs.Waiting.{waiting_from}
use Rattle.qu_trace.specs.declared.event.Event.{Event}
use Rattle.qu_trace.specs.declared.event.Event.TheVariants as event
use Rattle.qu_trace.specs.declared.trace.Setup.{Setup}
use Rattle.qu_trace.specs.declared.trace.Trace.{Trace}
use Rattle.qu_trace.specs.Letters.{letters_of}
use Rattle.qu_world.specs.declared.fail.WorldFail.{WorldFail}
use Rattle.qu_world.specs.declared.fail.WorldFail.TheVariants as fail
use Rattle.qu_world.specs.declared.fail.TheConstants.{EVENT_LIMIT}
use Rattle.qu_client.specs.declared.state.ClientState.{ClientState}
use Rattle.qu_client.specs.Steps.{rest_of}
use Rattle.qu_world.specs.State.{WorldState, opening_world, correct_client}
use Rattle.qu_world.specs.Step.{world_step}
use Rattle.qu_world.specs.Refusals.{refusal_of}
use Rattle.qu_world.specs.Run.{trace_of}
use Rattle.qu_script_words.specs.declared.bad.Bad.{Bad}
use Rattle.qu_script_words.specs.declared.bad.BadKind.{BadKind}
use Rattle.qu_script_words.specs.declared.bad.BadKind.TheVariants as kind
use Rattle.qu_script_words.specs.declared.bad.ScriptFail.{ScriptFail}
use Rattle.qu_script_words.specs.declared.bad.ScriptFail.TheVariants as fails
use Rattle.qu_script_words.specs.Meaning.{then_good}
use Rattle.qu_language.specs.declared.line.Line.{Line}
use Rattle.qu_language.specs.declared.line.Line.TheVariants.{Call, Deliver, Flow, Hold, Free, Lose, Tick, Wake, Inject, Fake}
use Rattle.qu_script.specs.declared.run.Played.{Played}
use Rattle.qu_script.specs.Fake.{fake_of}
use Rattle.qu_language.specs.declared.line.Script.{Script}
use Rattle.qu_language.specs.Script.{script_of}

-- ---- where a script stands

pub record Playing : Type 0 where
  pub world : WorldState
  pub outage : OutageState

abbrev pub playing_of : WorldState → OutageState → Playing
playing_of world outage = record { world = world; outage = outage }

-- where a script stands at the line that cannot be
pub record Stopped : Type 0 where
  pub playing : Playing
  pub bad : Bad

abbrev pub stopped_at : ℕ → BadKind → Playing → Stopped
stopped_at number kind playing = record { playing = playing; bad = record { line = number; kind = kind } }

-- nothing happened yet
abbrev pub opening_play : Setup → Playing
opening_play setup = playing_of (opening_world setup) (no_outage (replicas setup.bounds))

-- the marks of these replicas are set, or cleared
abbrev pub replicas_marked : Bool → Playing → List ReplicaId → Playing
replicas_marked mark playing those = playing_of playing.world
    (record { held = with_marks mark playing.outage.held those; lost = playing.outage.lost })

-- of the letters that were sent so far, those that no event delivered are lost
abbrev pub letters_lost : Playing → Playing
letters_lost playing = playing_of playing.world
    (record { held = playing.outage.held; lost = length (letters_of playing.world.entries) })

-- ---- one event

-- what is wrong with a line whose event is refused for this; a script that was read names no party
-- that its setup does not have, and calls no faulty client, and a refusal is never want of memory
abbrev pub kind_of : WorldFail → BadKind
kind_of (fail.NoSuchLetter number) = kind.NoSuchLetter
kind_of (fail.NoSuchActor party) = kind.NoSuchActor
kind_of fail.Busy = kind.Busy
kind_of fail.TooManyEvents = kind.TooManyEvents
kind_of fail.TooManyBytes = kind.TooManyBytes
kind_of fail.NoMemory = kind.TooManyBytes

abbrev pub unless_refused : ℕ → Option WorldFail → Playing → Playing → Result Playing Stopped
unless_refused number None playing after = Ok after
unless_refused number (Some fail) playing after = Err (stopped_at number (kind_of fail) playing)

-- an event of the line with this number happens
abbrev pub event_made : ℕ → Playing → Event → Result Playing Stopped
event_made number playing event = unless_refused number (refusal_of playing.world event) playing
    (playing_of (world_step playing.world event) playing.outage)

-- ---- deliveries

-- each of these letters is delivered, in this order
unfoldable pub deliveries_made : ℕ → Playing → List ℕ → Result Playing Stopped
deliveries_made number playing [] = Ok playing
deliveries_made number playing (letter ∷ letters) =
    then_good (event_made number playing (event.Deliver letter)) (λ after. deliveries_made number after letters)

-- ---- flow

-- the lowest letter that flow takes
abbrev pub lowest_waiting : Playing → Option ℕ
lowest_waiting playing = waiting_from playing.world.setup playing.world.entries playing.outage 1
    (length (letters_of playing.world.entries))

abbrev pub if_waiting : Playing → Option ℕ → (ℕ → Result Playing Stopped) → Result Playing Stopped
if_waiting playing None deliver = Ok playing
if_waiting playing (Some letter) deliver = deliver letter

-- the lowest letter that waits is delivered, again and again: so many times at most
unfoldable pub flow_made : ℕ → ℕ → Playing → Result Playing Stopped
flow_made number zero playing = Ok playing
flow_made number (suc count) playing =
    if_waiting playing (lowest_waiting playing) (λ letter.
    then_good (event_made number playing (event.Deliver letter)) (λ after. flow_made number count after))

-- how many deliveries a flow makes at most; one more than a run may have events is no limit
abbrev pub flow_count : Option ℕ → ℕ
flow_count None = EVENT_LIMIT + 1
flow_count (Some count) = count

-- ---- bytes that are injected

-- the bytes of a made reply reach the client, if there are any
abbrev pub fake_made : ℕ → Playing → ClientId → Option (List ℕ) → Result Playing Stopped
fake_made number playing client None = Err (stopped_at number kind.NoRequest playing)
fake_made number playing client (Some text) = event_made number playing (event.Inject (party.Client client) text)

-- ---- time

-- so many ticks of a client's clock
unfoldable pub ticks_made : ℕ → ClientId → ℕ → Playing → Result Playing Stopped
ticks_made number client zero playing = Ok playing
ticks_made number client (suc count) playing =
    then_good (event_made number playing (event.Tick client)) (λ after. ticks_made number client count after)

-- how many ticks are left of a client's rest, none where it does not rest
abbrev pub rest_ticks : Playing → ClientId → ℕ
rest_ticks playing client =
    unwrap_or (option_and_then (λ (state : ClientState). rest_of state.work) (correct_client playing.world client)) 0

-- ---- lines

abbrev pub line_made : ℕ → Playing → Line → Result Playing Stopped
line_made number playing (Call client op) = event_made number playing (event.Invoke client op)
line_made number playing (Deliver letters) = deliveries_made number playing letters
line_made number playing (Flow count) = flow_made number (flow_count count) playing
line_made number playing (Hold those) = Ok (replicas_marked true playing those)
line_made number playing (Free those) = Ok (replicas_marked false playing those)
line_made number playing Lose = Ok (letters_lost playing)
line_made number playing (Tick client count) = ticks_made number client count playing
line_made number playing (Wake client) = ticks_made number client (rest_ticks playing client) playing
line_made number playing (Inject who text) = event_made number playing (event.Inject who text)
line_made number playing (Fake me client how good) =
    fake_made number playing client (fake_of playing.world me client how good)

-- these lines are played, each with its number
unfoldable pub lines_made : Playing → List (ℕ × Line) → Result Playing Stopped
lines_made playing [] = Ok playing
lines_made playing (line ∷ lines) = then_good (line_made line.0 playing line.1) (λ after. lines_made after lines)

-- ---- a script

abbrev pub played : Result Playing Stopped → Played
played (Ok playing) = record { trace = trace_of playing.world; refused = None }
played (Err stopped) = record { trace = trace_of stopped.playing.world; refused = Some stopped.bad }

-- what happens in the run of a script, up to the first line that cannot be, if there is one
unfoldable pub played_of : Script → Played
played_of script = played (lines_made (opening_play script.setup) script.lines)

abbrev pub whole_run : Trace → Option Bad → Result Trace Bad
whole_run trace None = Ok trace
whole_run trace (Some bad) = Err bad

-- the trace of the run of a script, or the first line that cannot be
unfoldable pub run_of : Script → Result Trace Bad
run_of script = whole_run (played_of script).trace (played_of script).refused

-- the trace of the run of the script that a text spells, or the line for which it is refused
unfoldable pub sim_of : List ℕ → Result Trace Bad
sim_of bytes = then_good (script_of false bytes) run_of

-- ---- for the contracts of private functions

abbrev pub StopsAs : ScriptFail → Playing → Result Playing Stopped → Type 0
StopsAs (fails.Bad bad) playing meant = meant ≡ Err (record { playing = playing; bad = bad })
StopsAs fails.NoMemory playing meant = ⊤

-- a call made what was meant of where the script stood, or stopped where it was meant to, unless memory ran out
abbrev pub MakesPlay : Result (Unit {0}) ScriptFail → Playing → Result Playing Stopped → Type 0
MakesPlay (Ok made) playing meant = meant ≡ Ok playing
MakesPlay (Err fail) playing meant = StopsAs fail playing meant
