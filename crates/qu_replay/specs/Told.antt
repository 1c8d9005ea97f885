-- Entries that tell kept steps.
use Rattle.std.specs.Prelude.{ℕ, List, [], ◌∷◌, ◌++◌, ◌≡◌, Option, Some, option_map, take}
use Rattle.qu_base.specs.declared.party.Party.{Party}
use Rattle.qu_base.specs.declared.party.Party.TheVariants as party
use Rattle.qu_frames.specs.declared.frame.Letter.{Letter}
use Rattle.qu_trace.specs.declared.event.Event.{Event}
use Rattle.qu_trace.specs.declared.event.Event.TheVariants as event
use Rattle.qu_trace.specs.declared.trace.Entry.{Entry}
use Rattle.qu_trace.specs.declared.trace.Setup.{Setup}
use Rattle.qu_world.specs.State.{WorldState, numbered}
use Rattle.qu_world.specs.Run.{run_from, run, MayHappen, IsSetup, IsRun, events_of}
use Rattle.qu_replay.specs.Steps.{Actor}
use Rattle.qu_replay.specs.declared.kept_step.KeptStep.{KeptStep}
use Rattle.qu_frames.specs.declared.input.Input.{Input}
use Rattle.qu_frames.specs.declared.input.Input.TheVariants.{Frame, Tick, Invoke}
use Rattle.qu_replay.specs.Replays.{actor_at, opening_actor, own_steps, state_after_steps, AreReplaysOf}

-- an event is the delivery of a letter among these, to this party with these bytes
pub record IsDelivery (sent : List Letter) (me : Party) (text : List ℕ) (happened : Event) : Type 0 where
  pub number : ℕ
  pub letter : Letter
  pub event : happened ≡ event.Deliver number
  pub found : numbered sent number ≡ Some letter
  pub to : letter.to ≡ me
  pub text_is : letter.text ≡ text

-- the event of an input, after these letters
abbrev pub IsEventOf : List Letter → Party → Input → Event → Type 0
IsEventOf sent me (Frame name text) happened = IsDelivery sent me text happened
IsEventOf sent (party.Client me) Tick happened = happened ≡ event.Tick me
IsEventOf sent (party.Client me) (Invoke op) happened = happened ≡ event.Invoke me op
IsEventOf sent (party.Replica me) Tick happened = ⊥
IsEventOf sent (party.Replica me) (Invoke op) happened = ⊥

pub record IsEntryOf (sent : List Letter) (me : Party) (step : KeptStep) (entry : Entry) : Type 0 where
  pub event : IsEventOf sent me step.input entry.event
  pub letters : entry.letters ≡ step.letters
  pub ended : entry.ended ≡ step.ended

-- these entries tell these steps, one by one, after these letters
unfoldable pub AreTold : List Letter → List (Party × KeptStep) → List Entry → Type 0
AreTold sent [] [] = Unit {0}
AreTold sent [] (entry ∷ entries) = ⊥
AreTold sent (x ∷ xs) [] = ⊥
AreTold sent (x ∷ xs) (entry ∷ entries) =
    IsEntryOf sent x.0 x.1 entry × AreTold (sent ++ entry.letters) xs entries

-- the events of these entries may happen from this world on, record these entries, and lead to these ends
pub record FollowsFrom (world : WorldState) (later : List Entry) (last : Party → Option Actor) : Type 0 where
  pub entries : (run_from world (events_of later)).entries ≡ world.entries ++ later
  pub may : MayHappen world (events_of later)
  pub ends : (me : Party) → actor_at (run_from world (events_of later)) me ≡ last me

-- ---- laws

-- entries that tell replayed steps of a setup are a run, in whatever order the steps stand, and lead to where these do
abbrev pub ToldIsRun : Type 0
ToldIsRun = (setup : Setup) (xs : List (Party × KeptStep)) (entries : List Entry) (ends : Party → Option Actor)
    → IsSetup setup → AreReplaysOf setup xs ends → AreTold [] xs entries
    → IsRun (record { setup = setup; entries = entries })
    × ((me : Party) → actor_at (run setup (events_of entries)) me ≡ ends me)

-- after so many of the entries each actor is where its own steps among as many lead
abbrev pub ToldUntil : Type 0
ToldUntil = (setup : Setup) (xs : List (Party × KeptStep)) (entries : List Entry) (ends : Party → Option Actor)
    (count : ℕ) (me : Party) → AreReplaysOf setup xs ends → AreTold [] xs entries
    → actor_at (run setup (events_of (take count entries))) me
    ≡ option_map (λ (actor : Actor). state_after_steps me actor (own_steps me (take count xs)))
    (opening_actor setup me)
