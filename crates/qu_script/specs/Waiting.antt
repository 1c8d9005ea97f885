-- The letters that a flow takes, the lowest one first, and the search for it.
use Rattle.std.specs.Prelude.{◌≡◌, ◌≤◌, ◌<◌, ℕ, zero, suc, ◌+◌, ◌==◌, nat_le, ◌||◌, ◌&&◌, Bool, true, false, if◌then◌else◌, List, length, take, Option, None, Some}
use Rattle.std.specs.List.{list_any}
use Rattle.qu_trace.specs.declared.event.Event.{Event}
use Rattle.qu_trace.specs.declared.event.Event.TheVariants as event
use Rattle.qu_trace.specs.declared.trace.Entry.{Entry}
use Rattle.qu_trace.specs.declared.trace.Setup.{Setup}
use Rattle.qu_trace.specs.Letters.{letters_of}
use Rattle.qu_world.specs.State.{numbered}
use Rattle.qu_world.specs.Step.{is_to_faulty}
use Rattle.qu_script.specs.Outage.{OutageState, is_held_back}
use Rattle.qu_script.specs.declared.waiting.Begin.{Begin}

abbrev pub delivers : ℕ → Event → Bool
delivers letter (event.Invoke client op) = false
delivers letter (event.Deliver number) = number == letter
delivers letter (event.Tick client) = false
delivers letter (event.Inject party text) = false

-- an event has delivered the letter
unfoldable pub is_delivered : List Entry → ℕ → Bool
is_delivered entries letter = list_any (λ entry. delivers letter entry.event) entries

-- flow passes over a letter for good that was lost, one to a faulty party, and one that an event has delivered
abbrev pub is_passed_over : Setup → List Entry → ℕ → ℕ → Bool
is_passed_over setup entries lost letter =
    nat_le letter lost || (is_to_faulty setup (numbered (letters_of entries) letter) || is_delivered entries letter)

-- flow does not take the letter: it passes over it for good, or a held replica keeps it back
abbrev pub is_left : Setup → List Entry → OutageState → ℕ → Bool
is_left setup entries outage letter =
    is_passed_over setup entries outage.lost letter
    || is_held_back outage.held (numbered (letters_of entries) letter)

-- the lowest of so many letters, from this one on, that flow takes
unfoldable pub waiting_from : Setup → List Entry → OutageState → ℕ → ℕ → Option ℕ
waiting_from setup entries outage letter zero = None
waiting_from setup entries outage letter (suc count) =
    if is_left setup entries outage letter then waiting_from setup entries outage (letter + 1) count else Some letter

-- ---- the search

-- flow passes over every letter below this one
abbrev pub ArePassed : Setup → List Entry → ℕ → ℕ → Type 0
ArePassed setup entries lost next =
    (letter : ℕ) → 1 ≤ letter → letter < next → is_passed_over setup entries lost letter ≡ true

-- flow takes no letter below this one
abbrev pub AreLeft : Setup → List Entry → OutageState → ℕ → Type 0
AreLeft setup entries outage next =
    (letter : ℕ) → 1 ≤ letter → letter < next → is_left setup entries outage letter ≡ true

-- the event delivers this letter or one behind it
abbrev pub delivers_from : ℕ → Event → Bool
delivers_from letter (event.Invoke client op) = false
delivers_from letter (event.Deliver number) = nat_le letter number
delivers_from letter (event.Tick client) = false
delivers_from letter (event.Inject party text) = false

-- events deliver only letters below this one
abbrev pub DeliverBelow : List Entry → ℕ → Type 0
DeliverBelow entries next = (letter : ℕ) → next ≤ letter → is_delivered entries letter ≡ false

abbrev pub begin_at : ℕ → ℕ → Begin
begin_at event letter = record { letter = letter; event = event }

-- a search for a letter that waits may begin here
pub record MayBeginAt (setup : Setup) (entries : List Entry) (lost : ℕ) (begin : Begin) : Type 0 where
  pub is_letter : 1 ≤ begin.letter
  pub passed : ArePassed setup entries lost begin.letter
  pub within : begin.event ≤ length entries
  pub below : DeliverBelow (take begin.event entries) begin.letter

-- a search that has come to this letter, over the events from this one on, has found none, and the next one may begin
-- at `next`
pub record IsSearched (setup : Setup) (entries : List Entry) (outage : OutageState) (event next letter : ℕ)
    : Type 0 where
  pub may : MayBeginAt setup entries outage.lost (begin_at event next)
  pub is_letter : 1 ≤ letter
  pub behind : next ≤ letter
  pub none : AreLeft setup entries outage letter

-- where the next search may begin, which stays where it is while a letter is only held back
abbrev pub begin_behind : Bool → ℕ → ℕ → ℕ → ℕ
begin_behind is_passed next letter after = if is_passed && next == letter then after else next
