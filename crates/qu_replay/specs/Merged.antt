-- The steps of all actors in one list, by their tickets, and the entries that are made of it.
use Rattle.std.specs.Prelude.{ℕ, Bool, List, [], ◌∷◌, ◌≡◌, ◌≤◌, ◌<◌, ◌+◌, ◌==◌, ◌&&◌, if◌then◌else◌, map, filter, length, slice_get, Option, None, Some}
use Rattle.std.specs.List.{flat_map, AllByRecursion}
use Rattle.qu_base.specs.declared.party.Party.{Party}
use Rattle.qu_base.specs.declared.party.Party.TheVariants as party
use Rattle.qu_frames.specs.declared.frame.Letter.{Letter}
use Rattle.qu_trace.specs.declared.event.Event.{Event}
use Rattle.qu_trace.specs.declared.event.Event.TheVariants as event
use Rattle.qu_trace.specs.declared.trace.Entry.{Entry}
use Rattle.qu_trace.specs.Faulty.{is_same}
use Rattle.qu_frames.specs.declared.input.LetterName.{LetterName}
use Rattle.qu_replay.specs.declared.kept_step.KeptStep.{KeptStep}
use Rattle.qu_frames.specs.declared.input.Input.{Input}
use Rattle.qu_frames.specs.declared.input.Input.TheVariants.{Frame, Tick, Invoke}
use Rattle.qu_replay.specs.Replays.{own_steps, RisesFrom, AreReplaysOf, actor_at}
use Rattle.qu_trace.specs.declared.trace.Setup.{Setup}
use Rattle.qu_world.specs.Run.{IsSetup, IsRun, run, events_of}
use Rattle.qu_replay.specs.Steps.{Actor}

-- no ticket is below that of a step before it
unfoldable pub AreByTicket : ℕ → List (Party × KeptStep) → Type 0
AreByTicket low [] = Unit {0}
AreByTicket low (x ∷ later) = (low ≤ x.1.ticket) × AreByTicket x.1.ticket later

-- the steps of this ticket, in their order
abbrev pub steps_of_ticket : ℕ → List (Party × KeptStep) → List (Party × KeptStep)
steps_of_ticket ticket xs = filter (λ (x : Party × KeptStep). x.1.ticket == ticket) xs

-- whether this is the step that sent a named letter
abbrev pub is_step_named : LetterName → Party × KeptStep → Bool
is_step_named name x = is_same x.0 name.from && x.1.ticket == name.ticket

-- the index of a named letter among those of all steps
unfoldable pub place_of : List (Party × KeptStep) → LetterName → ℕ
place_of [] name = name.place
place_of (x ∷ later) name =
    if is_step_named name x then name.place else length x.1.letters + place_of later name

-- the named letter, of the steps of its sender
unfoldable pub letter_kept : List KeptStep → ℕ → ℕ → Option Letter
letter_kept [] ticket place = None
letter_kept (step ∷ later) ticket place =
    if step.ticket == ticket then slice_get step.letters place else letter_kept later ticket place

-- a frame is that of a letter which another step with a smaller ticket sent, to this party with these bytes
pub record IsLetter (all : List (Party × KeptStep)) (me : Party) (ticket : ℕ) (name : LetterName) (text : List ℕ)
    : Type 0 where
  pub letter : Letter
  pub before : name.ticket < ticket
  pub found : letter_kept (own_steps name.from all) name.ticket name.place ≡ Some letter
  pub to : letter.to ≡ me
  pub text_is : letter.text ≡ text

-- a replica takes nothing but frames
abbrev pub IsBroughtTo : List (Party × KeptStep) → Party → ℕ → Input → Type 0
IsBroughtTo all me ticket (Frame name text) = IsLetter all me ticket name text
IsBroughtTo all (party.Client me) ticket Tick = Unit {0}
IsBroughtTo all (party.Client me) ticket (Invoke op) = Unit {0}
IsBroughtTo all (party.Replica me) ticket Tick = ⊥
IsBroughtTo all (party.Replica me) ticket (Invoke op) = ⊥

-- what a step takes was brought to its actor
abbrev pub IsBrought : List (Party × KeptStep) → Party × KeptStep → Type 0
IsBrought all x = IsBroughtTo all x.0 x.1.ticket x.1.input

-- the event of an input, where all steps are these; the last two cases do not come
abbrev pub event_of : List (Party × KeptStep) → Party → Input → Event
event_of all me (Frame name text) = event.Deliver (place_of all name + 1)
event_of all (party.Client me) Tick = event.Tick me
event_of all (party.Client me) (Invoke op) = event.Invoke me op
event_of all (party.Replica me) Tick = event.Deliver 0
event_of all (party.Replica me) (Invoke op) = event.Deliver 0

-- the entry that tells a step, where all steps are these
abbrev pub entry_of : List (Party × KeptStep) → Party × KeptStep → Entry
entry_of all x = record { event = event_of all x.0 x.1.input; letters = x.1.letters; ended = x.1.ended }

-- the entries that tell these steps
abbrev pub merged_entries : List (Party × KeptStep) → List Entry
merged_entries all = map (entry_of all) all

-- the letters of all steps, in their order
abbrev pub letters_in : List (Party × KeptStep) → List Letter
letters_in xs = flat_map (λ (x : Party × KeptStep). x.1.letters) xs

-- ---- what is known of the steps of each actor by itself

-- a letter of a step that its sender kept, to this party with these bytes
pub record IsKeptLetter (all : List (Party × KeptStep)) (me : Party) (name : LetterName) (text : List ℕ)
    : Type 0 where
  pub index : ℕ
  pub step : KeptStep
  pub letter : Letter
  pub at : slice_get (own_steps name.from all) index ≡ Some step
  pub ticket : step.ticket ≡ name.ticket
  pub found : slice_get step.letters name.place ≡ Some letter
  pub to : letter.to ≡ me
  pub text_is : letter.text ≡ text

-- a frame is a letter that was kept
abbrev pub IsKeptInput : List (Party × KeptStep) → Party → Input → Type 0
IsKeptInput all me (Frame name text) = IsKeptLetter all me name text
IsKeptInput all me Tick = Unit {0}
IsKeptInput all me (Invoke op) = Unit {0}

-- of each actor the tickets rise, and what it took are letters that were kept
pub record AreKept (all : List (Party × KeptStep)) : Type 0 where
  pub rise : (me : Party) → RisesFrom 0 (own_steps me all)
  pub inputs : (me : Party) → AllByRecursion (λ (step : KeptStep). IsKeptInput all me step.input) (own_steps me all)

-- what the correct parties of a setup kept, in the order of tickets, is a run, and leads to where they are
abbrev pub KeptIsRun : Type 0
KeptIsRun = (setup : Setup) (all : List (Party × KeptStep)) (ends : Party → Option Actor) → IsSetup setup
    → AreReplaysOf setup all ends → AreByTicket 0 all → AreKept all
    → IsRun (record { setup = setup; entries = merged_entries all })
    × ((me : Party) → actor_at (run setup (events_of (merged_entries all))) me ≡ ends me)
