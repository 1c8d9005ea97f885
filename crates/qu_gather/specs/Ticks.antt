-- What a client waits for before it ticks: that its letters reach correct parties, and what these send it upon them.
use Rattle.std.specs.Prelude.{ℕ, Bool, true, false, ◌≡◌, ◌<◌, ◌+◌, ◌==◌, if◌then◌else◌, List, [], ◌∷◌, ◌++◌, map, length, take, slice_get, Option, None, Some}
use Rattle.std.specs.Option.{option_or}
use Rattle.qu_base.specs.declared.party.ClientId.{ClientId}
use Rattle.qu_base.specs.declared.party.Party.{Party}
use Rattle.qu_base.specs.declared.party.Party.TheVariants as party
use Rattle.qu_frames.specs.declared.frame.Letter.{Letter}
use Rattle.qu_trace.specs.declared.event.Event.{Event}
use Rattle.qu_trace.specs.declared.event.Event.TheVariants as event
use Rattle.qu_trace.specs.declared.trace.Entry.{Entry}
use Rattle.qu_trace.specs.declared.trace.Setup.{Setup}
use Rattle.qu_trace.specs.Faulty.{is_same, is_faulty}
use Rattle.qu_trace.specs.Letters.{numbered, letters_of}

-- ---- who waits for a letter

abbrev pub asking_client : Option Party → Option ClientId
asking_client None = None
asking_client (Some (party.Replica me)) = None
asking_client (Some (party.Client me)) = Some me

abbrev pub senders_of : List Letter → List Party
senders_of letters = map (λ (letter : Letter). letter.from) letters

-- the client whose letter an event delivers, where these are the senders of the letters so far
abbrev pub asker_of : List Party → Event → Option ClientId
asker_of senders (event.Invoke client op) = None
asker_of senders (event.Deliver letter) = asking_client (numbered senders letter)
asker_of senders (event.Tick client) = None
asker_of senders (event.Inject who text) = None

-- a client waits for what is sent to it upon a letter of its own
abbrev pub answered_client : Option ClientId → Party → Option ClientId
answered_client None to = None
answered_client (Some asker) to = if is_same to (party.Client asker) then Some asker else None

-- and for its own letters to correct parties
abbrev pub waiting_by : Setup → Option ClientId → Party → Party → Option ClientId
waiting_by setup asker to (party.Client me) = if is_faulty setup to then None else Some me
waiting_by setup asker to (party.Replica me) = answered_client asker to

-- the client that waits for a letter, which was sent upon one of this client
abbrev pub waiting_client : Setup → Option ClientId → Letter → Option ClientId
waiting_client setup asker letter = waiting_by setup asker letter.to letter.from

-- the entry at a place sends a letter with this number, for which this client waits
pub record IsAwaited (setup : Setup) (entries : List Entry) (at : ℕ) (me : ClientId) (number : ℕ) : Type 0 where
  pub entry : Entry
  pub place : ℕ
  pub letter : Letter
  pub found : slice_get entries at ≡ Some entry
  pub sends : slice_get entry.letters place ≡ Some letter
  pub number_is : number ≡ length (letters_of (take at entries)) + place + 1
  pub waits : waiting_client setup (asker_of (senders_of (letters_of (take at entries))) entry.event) letter ≡ Some me

-- ---- what is promised of ticks

-- one of these entries delivers the letter with this number
pub record WasDelivered (entries : List Entry) (number : ℕ) : Type 0 where
  pub at : ℕ
  pub entry : Entry
  pub found : slice_get entries at ≡ Some entry
  pub event_is : entry.event ≡ event.Deliver number

-- the entry at a place is a tick of this client
pub record IsTick (entries : List Entry) (at : ℕ) (me : ClientId) : Type 0 where
  pub entry : Entry
  pub found : slice_get entries at ≡ Some entry
  pub event_is : entry.event ≡ event.Tick me

-- a client ticks only once each letter for which it waits was delivered
abbrev pub TicksAnswered : Setup → List Entry → Type 0
TicksAnswered setup entries =
    (at tick : ℕ) (me : ClientId) (number : ℕ) → IsAwaited setup entries at me number → at < tick
    → IsTick entries tick me → WasDelivered (take tick entries) number

-- ---- letters that come too late

abbrev pub is_delivery_of : ℕ → Event → Bool
is_delivery_of number (event.Invoke client op) = false
is_delivery_of number (event.Deliver letter) = letter == number
is_delivery_of number (event.Tick client) = false
is_delivery_of number (event.Inject who text) = false

abbrev pub is_tick_of : ClientId → Event → Bool
is_tick_of me (event.Invoke client op) = false
is_tick_of me (event.Deliver letter) = false
is_tick_of me (event.Tick client) = client.0 == me.0
is_tick_of me (event.Inject who text) = false

-- whether the letter with this number is delivered before the client ticks, if it does
unfoldable pub is_in_time : ClientId → ℕ → List Entry → Bool
is_in_time me number [] = true
is_in_time me number (entry ∷ later) =
    if is_delivery_of number entry.event then true
    else if is_tick_of me entry.event then false else is_in_time me number later

-- the client and the letter's number, where it ticks before the letter is delivered
abbrev pub late_for : Option ClientId → ℕ → List Entry → Option (ClientId × ℕ)
late_for None number later = None
late_for (Some me) number later = if is_in_time me number later then None else Some (me, number)

-- the lowest of these letters, which have the numbers from this one on, that comes too late
unfoldable pub late_among : Setup → Option ClientId → ℕ → List Letter → List Entry → Option (ClientId × ℕ)
late_among setup asker number [] later = None
late_among setup asker number (letter ∷ letters) later =
    option_or (late_for (waiting_client setup asker letter) number later)
    (late_among setup asker (number + 1) letters later)

-- the lowest letter of these entries that comes too late for the client that waits for it, with this client; the
-- letters before have these senders
unfoldable pub late_letter : Setup → List Party → List Entry → Option (ClientId × ℕ)
late_letter setup senders [] = None
late_letter setup senders (entry ∷ later) =
    option_or (late_among setup (asker_of senders entry.event) (length senders + 1) entry.letters later)
    (late_letter setup (senders ++ senders_of entry.letters) later)
