-- A run: the fold of the steps over a list of events, each of which may happen where it comes. It may have any
-- number of events and letters; the limits are those of the call that makes a run.
use Rattle.std.specs.Prelude.{ℕ, ◌≡◌, ◌≤◌, ◌-◌, ◌^◌, if◌then◌else◌, min, List, [], ◌∷◌, map, length, Option, None, count_by}
use Rattle.qu_base.specs.declared.limits.TheConstants.{LAST_CLIENT, MOST_FAULTS, OBJECT_IDS}
use Rattle.qu_base.specs.declared.party.Party.TheVariants as party
use Rattle.qu_trace.specs.declared.event.Event.{Event}
use Rattle.qu_trace.specs.declared.event.Event.TheVariants.{Invoke, Deliver, Tick, Inject}
use Rattle.qu_trace.specs.declared.trace.Entry.{Entry}
use Rattle.qu_trace.specs.declared.trace.Setup.{Setup}
use Rattle.qu_trace.specs.declared.trace.Trace.{Trace}
use Rattle.qu_trace.specs.Faulty.{is_replica}
use Rattle.qu_trace.specs.Letters.{bytes_sent}
use Rattle.qu_world.specs.State.{WorldState, opening_world}
use Rattle.qu_world.specs.declared.fail.WorldFail.{WorldFail}
use Rattle.qu_world.specs.Step.{at_faulty, world_step}
use Rattle.qu_world.specs.Refusals.{cause_of, is_party, refused_injection}

-- the world after these events
unfoldable pub run_from : WorldState → List Event → WorldState
run_from world [] = world
run_from world (event ∷ later) = run_from (world_step world event) later

abbrev pub run : Setup → List Event → WorldState
run setup events = run_from (opening_world setup) events

-- what bars an event at a faulty party: that the setup has no such party
abbrev pub bar_at_faulty : WorldState → Event → Option WorldFail
bar_at_faulty world (Invoke client op) =
    refused_injection (party.Client client) (is_party world.replicas world.clients (party.Client client))
bar_at_faulty world (Deliver number) = None
bar_at_faulty world (Tick client) =
    refused_injection (party.Client client) (is_party world.replicas world.clients (party.Client client))
bar_at_faulty world (Inject who text) = refused_injection who (is_party world.replicas world.clients who)

-- what bars an event from a run: a letter that was not sent, a party that the setup does not have, and at a correct
-- client an operation that is under way. At a faulty party an event makes nothing; who makes a run need not take it
abbrev pub bar_of : WorldState → Event → Option WorldFail
bar_of world event =
    if at_faulty world.setup world.entries event then bar_at_faulty world event else cause_of world event

-- nothing bars an event in the world in which it comes
unfoldable pub MayHappen : WorldState → List Event → Type 0
MayHappen world [] = Unit {0}
MayHappen world (event ∷ later) = (bar_of world event ≡ None) × MayHappen (world_step world event) later

abbrev pub events_of : List Entry → List Event
events_of entries = map (λ entry. entry.event) entries

-- the setup is within the limits
pub record IsSetup (setup : Setup) : Type 0 where
  pub some_faults : 1 ≤ setup.bounds
  pub few_faults : setup.bounds ≤ MOST_FAULTS
  pub clients : setup.clients ≤ LAST_CLIENT
  pub kinds : length setup.kinds ≤ OBJECT_IDS
  -- at most b replicas are faulty
  pub few : count_by is_replica setup.liars ≤ setup.bounds

-- a trace is that of the run of its events
pub record IsRun (trace : Trace) : Type 0 where
  pub setup : IsSetup trace.setup
  pub entries : (run trace.setup (events_of trace.entries)).entries ≡ trace.entries
  pub happened : MayHappen (opening_world trace.setup) (events_of trace.entries)

-- what a world is at any time: the run of the events that it records
pub record IsWorld (world : WorldState) : Type 0 where
  pub setup : IsSetup world.setup
  pub is_run : run world.setup (events_of world.entries) ≡ world
  pub happened : MayHappen (opening_world world.setup) (events_of world.entries)

-- a world, and how many bytes were sent in it, as far as they can be counted in 128 bits
pub record IsCounted (world : WorldState) (sent : ℕ) : Type 0 where
  pub is_world : IsWorld world
  pub all : sent ≡ min (bytes_sent world.entries) (2 ^ 128 - 1)

abbrev pub trace_of : WorldState → Trace
trace_of world = record { setup = world.setup; entries = world.entries }
