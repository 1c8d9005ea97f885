-- Which steps take what steps before them sent to their actors, so that entries can tell them.
use Rattle.std.specs.Prelude.{ℕ, List, [], ◌∷◌, ◌++◌, ◌≡◌, Option, Some, slice_get, take}
use Rattle.qu_base.specs.declared.party.Party.{Party}
use Rattle.qu_base.specs.declared.party.Party.TheVariants as party
use Rattle.qu_frames.specs.declared.frame.Letter.{Letter}
use Rattle.qu_frames.specs.declared.input.LetterName.{LetterName}
use Rattle.qu_frames.specs.declared.input.Input.{Input}
use Rattle.qu_frames.specs.declared.input.Input.TheVariants.{Frame, Tick, Invoke}
use Rattle.qu_replay.specs.declared.kept_step.KeptStep.{KeptStep}
use Rattle.qu_replay.specs.declared.entries.EntriesFail.{EntriesFail}
use Rattle.qu_replay.specs.declared.entries.EntriesFail.TheVariants.{Unsent, NoMemory}
use Rattle.qu_trace.specs.declared.trace.Setup.{Setup}
use Rattle.qu_replay.specs.Steps.{Actor}
use Rattle.qu_replay.specs.Replays.{own_steps, AreReplaysOf}
use Rattle.qu_replay.specs.Merged.{letter_kept, AreByTicket, AreKept}

-- the letter of this name that one of these steps sent
abbrev pub letter_named : List (Party × KeptStep) → LetterName → Option Letter
letter_named xs name = letter_kept (own_steps name.from xs) name.ticket name.place

-- one of these steps sent the letter of this name, to this party with these bytes
pub record IsNamedLetter (before : List (Party × KeptStep)) (me : Party) (name : LetterName) (text : List ℕ)
    : Type 0 where
  pub letter : Letter
  pub found : letter_named before name ≡ Some letter
  pub to : letter.to ≡ me
  pub text_is : letter.text ≡ text

-- these steps sent a party what it takes; a client ticks and begins operations by itself
abbrev pub WasSentBefore : List (Party × KeptStep) → Party → Input → Type 0
WasSentBefore before me (Frame name text) = IsNamedLetter before me name text
WasSentBefore before (party.Client me) Tick = Unit {0}
WasSentBefore before (party.Client me) (Invoke op) = Unit {0}
WasSentBefore before (party.Replica me) Tick = ⊥
WasSentBefore before (party.Replica me) (Invoke op) = ⊥

-- each of the later steps takes what was sent to its actor before it
unfoldable pub WereSentBefore : List (Party × KeptStep) → List (Party × KeptStep) → Type 0
WereSentBefore before [] = Unit {0}
WereSentBefore before (x ∷ later) = WasSentBefore before x.0 x.1.input × WereSentBefore (before ++ x ∷ []) later

-- the step at this place is the first that takes what was not sent to its actor before it
pub record IsFirstUnsent (steps : List (Party × KeptStep)) (at : ℕ) : Type 0 where
  pub step : Party × KeptStep
  pub found : slice_get steps at ≡ Some step
  pub unsent : ¬ (WasSentBefore (take at steps) step.0 step.1.input)
  pub sent : WereSentBefore [] (take at steps)

-- why no entries tell these steps: memory is wanted only where each takes what was sent
abbrev pub IsEntriesFail : List (Party × KeptStep) → EntriesFail → Type 0
IsEntriesFail steps (Unsent at) = IsFirstUnsent steps at
IsEntriesFail steps NoMemory = WereSentBefore [] steps

-- what the correct parties of a setup kept, in the order of tickets, was sent before it was taken
abbrev pub KeptWasSent : Type 0
KeptWasSent = (setup : Setup) (all : List (Party × KeptStep)) (ends : Party → Option Actor)
    → AreReplaysOf setup all ends → AreByTicket 0 all → AreKept all → WereSentBefore [] all
