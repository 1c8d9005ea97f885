-- The requests that correct replicas handle in a run, and the histories that texts and letters show.
use Rattle.std.specs.Prelude.{◌≡◌, ℕ, Bool, nat_lt, not, ◌&&◌, if◌then◌else◌, List, [], length, Option, None, Some, Result, Ok, Contains}
use Rattle.std.specs.List.{list_all, flat_map}
use Rattle.qu_base.specs.declared.party.ClientId.{ClientId}
use Rattle.qu_base.specs.declared.party.ObjectId.{ObjectId}
use Rattle.qu_base.specs.declared.party.Party.{Party}
use Rattle.qu_base.specs.declared.party.Party.TheVariants as party
use Rattle.qu_base.specs.declared.party.ReplicaId.{ReplicaId}
use Rattle.qu_base.specs.Bounds.{replicas}
use Rattle.qu_base.specs.declared.bad_text.BadText.{BadText}
use Rattle.qu_stamp.specs.declared.candidate.Candidate.{Candidate}
use Rattle.qu_history.specs.declared.sealed.Sealed.{Sealed}
use Rattle.qu_history.specs.declared.sets.SetOf.{SetOf}
use Rattle.qu_history.specs.Culling.{culled}
use Rattle.qu_objects.specs.declared.act.Method.{Method}
use Rattle.qu_objects.specs.Digesting.{act_digest}
use Rattle.qu_frames.specs.declared.frame.Body.{Body}
use Rattle.qu_frames.specs.declared.frame.Body.TheVariants as body
use Rattle.qu_frames.specs.declared.frame.Frame.{Frame}
use Rattle.qu_frames.specs.declared.frame.Frame.TheVariants as frame
use Rattle.qu_frames.specs.declared.frame.Letter.{Letter}
use Rattle.qu_frames.specs.Decoding.{decoded}
use Rattle.qu_frames.specs.Signing.{brought}
use Rattle.qu_trace.specs.declared.event.Event.{Event}
use Rattle.qu_trace.specs.declared.event.Event.TheVariants.{Invoke, Deliver, Tick, Inject}
use Rattle.qu_trace.specs.declared.trace.Entry.{Entry}
use Rattle.qu_trace.specs.declared.trace.Setup.{Setup}
use Rattle.qu_trace.specs.declared.trace.Trace.{Trace}
use Rattle.qu_trace.specs.Faulty.{is_faulty}
use Rattle.qu_trace.specs.Letters.{letters_of}
use Rattle.qu_world.specs.State.{ring_of, numbered}

-- a request as a replica takes it, its sets culled, whatever the round in which it was sent
pub record Request : Type 0 where
  pub client : ClientId
  pub number : ℕ
  pub sets : List SetOf
  pub body : Body

-- the setup has this object
abbrev pub is_of_setup : Setup → SetOf → Bool
is_of_setup setup set = nat_lt (set.object).0 (length setup.kinds)

-- the request that a frame carries to this replica, where no object of its sets is unknown
abbrev pub request_in : Setup → ReplicaId → Frame → Option Request
request_in setup me (frame.Request client number round sets body mac) =
    if list_all (is_of_setup setup) sets then Some
    (record { client = client; number = number; sets = culled (ring_of setup) me sets; body = body }) else None
request_in setup me _ = None

-- the same of a frame that was brought, if there is one
abbrev pub request_brought : Setup → ReplicaId → Option Frame → Option Request
request_brought setup me None = None
request_brought setup me (Some sent) = request_in setup me sent

-- a correct replica of the setup
abbrev pub is_handler : Setup → ReplicaId → Bool
is_handler setup me = nat_lt me.0 (replicas setup.bounds) && not (is_faulty setup (party.Replica me))

-- the request that a text brings to a correct replica of the setup
abbrev pub request_to : Setup → List ℕ → Party → Option Request
request_to setup text (party.Replica me) =
    if is_handler setup me then request_brought setup me
    (brought (ring_of setup) (party.Replica me) text) else None
request_to setup text (party.Client me) = None

abbrev pub request_by : Setup → Option Letter → Option Request
request_by setup None = None
request_by setup (Some letter) = request_to setup letter.text letter.to

-- the request that an event of a trace lets a replica handle
abbrev pub handled_by : Trace → Event → Option Request
handled_by trace (Invoke client op) = None
handled_by trace (Deliver number) = request_by trace.setup (numbered (letters_of trace.entries) number)
handled_by trace (Tick client) = None
handled_by trace (Inject to text) = request_to trace.setup text to

-- a replica handled a request of this act, which has this client and number
pub record IsHandled (trace : Trace) (client : ClientId) (number : ℕ) (parts : List (ObjectId × Method)) : Type 0 where
  pub entry : Entry
  pub of_trace : Contains trace.entries entry
  pub sets : List SetOf
  pub handled : handled_by trace entry.event ≡ Some
      (record { client = client; number = number; sets = sets; body = body.Act parts })

-- the candidate was made for this act: a replica handled it, and the stamp has its client and its digest
pub record IsMadeFor (trace : Trace) (candidate : Candidate) (client : ClientId) (number : ℕ)
    (parts : List (ObjectId × Method)) : Type 0 where
  pub handled : IsHandled trace client number parts
  pub of_client : candidate.stamp.client ≡ client
  pub of_act : candidate.stamp.act ≡ Some (act_digest client number parts)

-- the entries in the sets of a request, where no object of its sets is unknown
abbrev pub entries_in : Setup → Frame → List Sealed
entries_in setup (frame.Request client number round sets body mac) =
    if list_all (is_of_setup setup) sets then flat_map (λ (set : SetOf). set.entries) sets else []
entries_in setup _ = []

abbrev pub entries_brought : Setup → Option Frame → List Sealed
entries_brought setup None = []
entries_brought setup (Some sent) = entries_in setup sent

-- the entries that a text shows to a correct replica of the setup, before it culls them
abbrev pub entries_to : Setup → List ℕ → Party → List Sealed
entries_to setup text (party.Replica me) =
    if is_handler setup me then entries_brought setup (brought (ring_of setup) (party.Replica me) text) else []
entries_to setup text (party.Client me) = []

-- the histories that a decoded reply shows
abbrev pub shown_in : Result Frame BadText → List Sealed
shown_in (Ok (frame.Reply replica client number round verdict left shown mac)) = shown
shown_in _ = []

-- those that a letter shows
abbrev pub shown_by : Letter → List Sealed
shown_by letter = shown_in (decoded letter.text)
