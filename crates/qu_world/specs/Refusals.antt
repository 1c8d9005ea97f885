-- Why an event does not happen: its cause, which no run can have, and else the limits of a run that is being made.
use Rattle.std.specs.Prelude.{ℕ, Bool, nat_le, if◌then◌else◌, List, length, slice_get, Option, None, Some, is_some}
use Rattle.std.specs.Option.{option_or}
use Rattle.qu_base.specs.declared.party.Party.{Party}
use Rattle.qu_base.specs.declared.party.Party.TheVariants as party
use Rattle.qu_frames.specs.declared.frame.Letter.{Letter}
use Rattle.qu_rows.specs.State.{ReplicaState}
use Rattle.qu_client.specs.declared.state.ClientState.{ClientState}
use Rattle.qu_trace.specs.declared.event.Event.{Event}
use Rattle.qu_trace.specs.declared.event.Event.TheVariants.{Invoke, Deliver, Tick, Inject}
use Rattle.qu_trace.specs.declared.trace.Entry.{Entry}
use Rattle.qu_trace.specs.Letters.{bytes_sent}
use Rattle.qu_world.specs.declared.fail.WorldFail.{WorldFail}
use Rattle.qu_world.specs.declared.fail.WorldFail.TheVariants.{NoSuchLetter, NoSuchActor, Busy, TooManyEvents, TooManyBytes}
use Rattle.qu_world.specs.declared.fail.TheConstants.{EVENT_LIMIT, BYTE_LIMIT}
use Rattle.qu_world.specs.State.{WorldState, numbered, letter_of, correct_client}

-- ---- causes

-- a letter to nobody may be delivered, and changes nothing
abbrev pub refused_delivery : ℕ → Option Letter → Option WorldFail
refused_delivery number None = Some (NoSuchLetter number)
refused_delivery number (Some letter) = None

abbrev pub refused_tick : Party → Option ClientState → Option WorldFail
refused_tick who None = Some (NoSuchActor who)
refused_tick who (Some state) = None

abbrev pub refused_invocation : Party → Option ClientState → Option WorldFail
refused_invocation who None = Some (NoSuchActor who)
refused_invocation who (Some state) = if is_some state.work then Some Busy else None

abbrev pub is_party : List ReplicaState → List ClientState → Party → Bool
is_party replicas clients (party.Replica me) = is_some (slice_get replicas me.0)
is_party replicas clients (party.Client me) = is_some (numbered clients me.0)

-- bytes may be injected to each party of the setup
abbrev pub refused_injection : Party → Bool → Option WorldFail
refused_injection who there = if there then None else Some (NoSuchActor who)

-- why an event cannot happen here: no such letter, no such party, no correct client, or one that is busy
abbrev pub cause_of : WorldState → Event → Option WorldFail
cause_of world (Invoke client op) = refused_invocation (party.Client client) (correct_client world client)
cause_of world (Deliver number) = refused_delivery number (letter_of world number)
cause_of world (Tick client) = refused_tick (party.Client client) (correct_client world client)
cause_of world (Inject who text) = refused_injection who (is_party world.replicas world.clients who)

-- ---- limits

-- so many events, or so many bytes of letters, are as many as a run may have that is being made
abbrev pub limit_at : ℕ → ℕ → Option WorldFail
limit_at events bytes =
    if nat_le EVENT_LIMIT events then Some TooManyEvents
    else if nat_le BYTE_LIMIT bytes then Some TooManyBytes
    else None

abbrev pub limit_of : List Entry → Option WorldFail
limit_of entries = limit_at (length entries) (bytes_sent entries)

-- the first that fits: a cause, and else a limit
abbrev pub refusal_of : WorldState → Event → Option WorldFail
refusal_of world event = option_or (cause_of world event) (limit_of world.entries)
