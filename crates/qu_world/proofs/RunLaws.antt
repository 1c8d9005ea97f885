-- A run with one event more, and what holds of every world.
use Rattle.std.proofs.Common.{◌≡◌, ℕ, zero, suc, ◌+◌, ◌-◌, ◌^◌, ◌<◌, ◌≤◌, min, cond, List, [], ◌∷◌, ◌++◌, length, Option, None, Some, refl, sym, ap, subst, ◌∙◌, arith}
use Rattle.std.specs.Prelude.{slice_get, nat_le, is_some, IfSome, IsSomeAnd}
use Rattle.std.specs.List.{AllByRecursion}
use Rattle.std.proofs.lemmas.List.{map-append, length-map}
use Rattle.std.specs.Cmp.{both_ways}
use Rattle.std.proofs.lemmas.Bool.{leb-true, le-leb}
use Rattle.qu_base.specs.declared.party.ClientId.{ClientId}
use Rattle.qu_base.specs.declared.party.ReplicaId.{ReplicaId}
use Rattle.qu_base.specs.declared.party.Party.{Party}
use Rattle.qu_base.specs.declared.party.Party.TheVariants as party
use Rattle.qu_base.proofs.EachItem.{each_weaker}
use Rattle.qu_seal.specs.Keys.{Ring}
use Rattle.qu_frames.specs.declared.frame.Letter.{Letter}
use Rattle.qu_rows.specs.State.{ReplicaState}
use Rattle.qu_client.specs.declared.state.ClientState.{ClientState}
use Rattle.qu_client.specs.State.{Stepped}
use Rattle.qu_client.specs.Steps.{client_invoke, client_step, client_tick}
use Rattle.qu_client.specs.Sound.{NumbersWithin}
use Rattle.qu_client.proofs.Laws.{NumbersWithin-opening, NumbersWithin-step, NumbersWithin-invoke, NumbersWithin-tick, may_invoke, last_within}
use Rattle.qu_trace.specs.declared.event.Event.{Event}
use Rattle.qu_trace.specs.declared.event.Event.TheVariants.{Invoke, Deliver, Tick, Inject}
use Rattle.qu_trace.specs.declared.trace.Entry.{Entry}
use Rattle.qu_trace.specs.declared.trace.Setup.{Setup}
use Rattle.qu_trace.specs.Letters.{letters_of}
use Rattle.qu_client.specs.declared.work.Work.{Work}
use Rattle.qu_world.specs.declared.fail.WorldFail.TheVariants as fails
use Rattle.qu_world.specs.declared.fail.TheConstants.{EVENT_LIMIT, BYTE_LIMIT}
use Rattle.qu_world.specs.State.{WorldState, ring_of, opening_world, opening_clients, numbered, letter_of}
use Rattle.qu_world.proofs.Steps.{step_cases, is_invoked, not_barred}
use Rattle.qu_world.specs.Step.{moved, world_step, at_client, at_replica, received, delivered}
use Rattle.qu_world.specs.Refusals.{cause_of, limit_at, refused_invocation}
use Rattle.qu_world.specs.Parties.{MayBegin, CanBegin}
use Rattle.qu_world.specs.Run.{bar_of, run_from, run, MayHappen, events_of, IsSetup, IsWorld, IsCounted}
use Rattle.qu_world.proofs.Each.{each_with_numbered, each_numbered}

-- ---- one event more

pub run_more : (world : WorldState) (events : List Event) (event : Event)
    → run_from world (events ++ event ∷ []) ≡ world_step (run_from world events) event
unfolding run_from
run_more world [] event = refl
run_more world (first ∷ later) event = run_more (world_step world first) later event

happened_more : (world : WorldState) (events : List Event) (event : Event) → MayHappen world events
    → bar_of (run_from world events) event ≡ None → MayHappen world (events ++ event ∷ [])
unfolding run_from MayHappen
happened_more world [] event happened may = (may, tt)
happened_more world (first ∷ later) event happened may =
    (happened.0, happened_more (world_step world first) later event happened.1 may)

-- ---- what a step records

-- the event was recorded, and the setup stays
pub record Records (old new : WorldState) (event : Event) : Type 0 where
  pub setup : new.setup ≡ old.setup
  pub entry : Entry
  pub of_event : entry.event ≡ event
  pub entries : new.entries ≡ old.entries ++ entry ∷ []

at_replica_records : (world : WorldState) (event : Event) (me : ReplicaId) (text : List ℕ)
    (found : Option ReplicaState) → Records world (at_replica world event me text found) event
at_replica_records world event me text None = record { setup = refl; entry = _; of_event = refl; entries = refl }
at_replica_records world event me text (Some state) =
    record { setup = refl; entry = _; of_event = refl; entries = refl }

at_client_records : (world : WorldState) (event : Event) (me : ClientId) (move : ClientState → Stepped)
    (found : Option ClientState) → Records world (at_client world event me move found) event
at_client_records world event me move None = record { setup = refl; entry = _; of_event = refl; entries = refl }
at_client_records world event me move (Some state) = record { setup = refl; entry = _; of_event = refl; entries = refl }

received_records : (world : WorldState) (event : Event) (to : Party) (text : List ℕ)
    → Records world (received world event to text) event
received_records world event (party.Replica me) text =
    at_replica_records world event me text (slice_get world.replicas me.0)
received_records world event (party.Client me) text =
    at_client_records world event me (λ state. client_step state text) (numbered world.clients me.0)

delivered_records : (world : WorldState) (event : Event) (letter : Option Letter)
    → Records world (delivered world event letter) event
delivered_records world event None = record { setup = refl; entry = _; of_event = refl; entries = refl }
delivered_records world event (Some letter) = received_records world event letter.to letter.text

moved_records : (world : WorldState) (event : Event) → Records world (moved world event) event
moved_records world (Invoke client op) =
    at_client_records world (Invoke client op) client (λ state. client_invoke state op)
    (numbered world.clients client.0)
moved_records world (Deliver number) = delivered_records world (Deliver number) (letter_of world number)
moved_records world (Tick client) =
    at_client_records world (Tick client) client client_tick (numbered world.clients client.0)
moved_records world (Inject who text) = received_records world (Inject who text) who text

pub step_records : (world : WorldState) (event : Event) → Records world (world_step world event) event
step_records world event =
    step_cases (λ (made : WorldState). Records world made event) world event
    (record { setup = refl; entry = _; of_event = refl; entries = refl })
    (λ correct. moved_records world event)

-- ---- worlds

pub IsWorld-opening : (setup : Setup) → IsSetup setup → IsWorld (opening_world setup)
unfolding run_from MayHappen
IsWorld-opening setup limits = record { setup = limits; is_run = refl; happened = tt }

pub counted-opening : (setup : Setup) → IsSetup setup → IsCounted (opening_world setup) 0
unfolding letters_of
counted-opening setup limits = record { is_world = IsWorld-opening setup limits; all = refl }

step_by : (old new : WorldState) (event : Event) → new ≡ world_step old event → Records old new event
    → IsWorld old → cause_of old event ≡ None → IsWorld new
step_by old new event is made world may =
    let events : events_of new.entries ≡ events_of old.entries ++ event ∷ [] =
    ap events_of made.entries ∙ map-append (λ entry. entry.event) old.entries (made.entry ∷ [])
    ∙ ap (λ (last : Event). events_of old.entries ++ last ∷ []) made.of_event in
    let before : run_from (opening_world old.setup) (events_of old.entries) ≡ old = world.is_run in
    record {
      setup = subst IsSetup (sym made.setup) world.setup;
      is_run =
          ap (λ setup. run setup (events_of new.entries)) made.setup
          ∙ ap (λ events. run old.setup events) events
          ∙ run_more (opening_world old.setup) (events_of old.entries) event
          ∙ ap (λ at. world_step at event) before
          ∙ sym is;
      happened =
          let MayFrom : Setup → Type 0 = λ setup. MayHappen (opening_world setup) (events_of new.entries) in
          let May : List Event → Type 0 = λ events. MayHappen (opening_world old.setup) events in
          subst MayFrom (sym made.setup)
          (subst May (sym events)
          (happened_more (opening_world old.setup) (events_of old.entries) event world.happened
          (ap (λ at. bar_of at event) before ∙ not_barred old event may)));
    }

-- an event that may happen makes a world of a world
pub IsWorld-step : (old new : WorldState) (event : Event) → new ≡ world_step old event → IsWorld old
    → cause_of old event ≡ None → IsWorld new
IsWorld-step old new event is world may =
    step_by old new event is (subst (λ at. Records old at event) (sym is) (step_records old event)) world may

-- ---- numbers of operations

more : (most : ℕ) (work : Option Work) → IfSome work (λ work. work.number ≤ most)
    → IfSome work (λ work. work.number ≤ most + 1)
more most None within = tt
more most (Some work) within = omega arith

pub within_more : (most : ℕ) (state : ClientState) → NumbersWithin most state → NumbersWithin (most + 1) state
within_more most state within =
    record { last = last_within most state.last_request within.last; work = more most state.work within.work }

numbers_at : (most : ℕ) (world : WorldState) (event : Event) (me : ClientId) (move : ClientState → Stepped)
    (found : Option ClientState)
    → numbered world.clients me.0 ≡ found
    → ((state : ClientState) → NumbersWithin most state → NumbersWithin (most + 1) (move state).state)
    → AllByRecursion (NumbersWithin most) world.clients → AllByRecursion (NumbersWithin (most + 1))
    (at_client world event me move found).clients
numbers_at most world event me move None is moved all =
    each_weaker (NumbersWithin most) (NumbersWithin (most + 1)) world.clients (within_more most) all
numbers_at most world event me move (Some state) is moved all =
    each_with_numbered (NumbersWithin (most + 1)) world.clients me.0 (move state).state
    (each_weaker (NumbersWithin most) (NumbersWithin (most + 1)) world.clients (within_more most) all)
    (moved state (each_numbered (NumbersWithin most) world.clients me.0 state all is))

numbers_replica : (most : ℕ) (world : WorldState) (event : Event) (me : ReplicaId) (text : List ℕ)
    (found : Option ReplicaState)
    → AllByRecursion (NumbersWithin most) world.clients → AllByRecursion (NumbersWithin (most + 1))
    (at_replica world event me text found).clients
numbers_replica most world event me text None all =
    each_weaker (NumbersWithin most) (NumbersWithin (most + 1)) world.clients (within_more most) all
numbers_replica most world event me text (Some state) all =
    each_weaker (NumbersWithin most) (NumbersWithin (most + 1)) world.clients (within_more most) all

numbers_received : (most : ℕ) (world : WorldState) (event : Event) (to : Party) (text : List ℕ)
    → AllByRecursion (NumbersWithin most) world.clients → AllByRecursion (NumbersWithin (most + 1))
    (received world event to text).clients
numbers_received most world event (party.Replica me) text all =
    numbers_replica most world event me text (slice_get world.replicas me.0) all
numbers_received most world event (party.Client me) text all =
    numbers_at most world event me (λ state. client_step state text) (numbered world.clients me.0) refl
    (λ state within. within_more most (client_step state text).state (NumbersWithin-step most state text within)) all

numbers_delivered : (most : ℕ) (world : WorldState) (event : Event) (letter : Option Letter)
    → AllByRecursion (NumbersWithin most) world.clients → AllByRecursion (NumbersWithin (most + 1))
    (delivered world event letter).clients
numbers_delivered most world event None all =
    each_weaker (NumbersWithin most) (NumbersWithin (most + 1)) world.clients (within_more most) all
numbers_delivered most world event (Some letter) all = numbers_received most world event letter.to letter.text all

numbers_moved : (most : ℕ) (world : WorldState) (event : Event)
    → AllByRecursion (NumbersWithin most) world.clients → AllByRecursion (NumbersWithin (most + 1))
    (moved world event).clients
numbers_moved most world (Invoke client op) all =
    numbers_at most world (Invoke client op) client (λ state. client_invoke state op)
    (numbered world.clients client.0) refl
    (λ state within. NumbersWithin-invoke most state op within) all
numbers_moved most world (Deliver number) all =
    numbers_delivered most world (Deliver number) (letter_of world number) all
numbers_moved most world (Tick client) all =
    numbers_at most world (Tick client) client client_tick (numbered world.clients client.0) refl
    (λ state within. within_more most (client_tick state).state (NumbersWithin-tick most state within)) all
numbers_moved most world (Inject who text) all = numbers_received most world (Inject who text) who text all

-- a step makes the numbers of operations at most one greater
numbers_step : (most : ℕ) (world : WorldState) (event : Event)
    → AllByRecursion (NumbersWithin most) world.clients → AllByRecursion (NumbersWithin (most + 1))
    (world_step world event).clients
numbers_step most world event all =
    step_cases (λ (made : WorldState). AllByRecursion (NumbersWithin (most + 1)) made.clients) world event
    (each_weaker (NumbersWithin most) (NumbersWithin (most + 1)) world.clients (within_more most) all)
    (λ correct. numbers_moved most world event all)

numbers_from : (events : List Event) (most total : ℕ) (world : WorldState) → total ≡ most + length events
    → AllByRecursion (NumbersWithin most) world.clients → AllByRecursion (NumbersWithin total)
    (run_from world events).clients
unfolding run_from
numbers_from [] most total world is all =
    let e : most ≡ total = omega arith in
    let P : ℕ → Type 0 = λ n. AllByRecursion (NumbersWithin n) world.clients in subst P e all
numbers_from (event ∷ later) most total world is all =
    numbers_from later (most + 1) total (world_step world event) (omega arith) (numbers_step most world event all)

numbers_opening : (number count : ℕ) (keys : Ring) → AllByRecursion (NumbersWithin 0)
    (opening_clients number count keys)
unfolding opening_clients
numbers_opening number zero keys = tt
numbers_opening number (suc count) keys =
    (NumbersWithin-opening (record { 0 = number }) keys keys.seed, numbers_opening (number + 1) count keys)

-- the numbers of operations are at most the number of events
pub numbers_world : (world : WorldState) → IsWorld world → AllByRecursion (NumbersWithin (length world.entries))
    world.clients
numbers_world world is =
    let P : WorldState → Type 0 = λ at. AllByRecursion (NumbersWithin (length world.entries)) at.clients in
    let count : length (events_of world.entries) ≡ length world.entries = simp length-map in
    subst P is.is_run
    (numbers_from (events_of world.entries) 0 (length world.entries) (opening_world world.setup) (omega arith)
    (numbers_opening 1 world.setup.clients (ring_of world.setup)))

-- ---- what may happen

pub idle_by : (work : Option Work) → cond (is_some work) (Some fails.Busy) None ≡ None → work ≡ None
idle_by None free = refl
idle_by (Some work) free = absurd cc

can_begin : (clients : List ClientState) (number most : ℕ) (who : Party) (found : Option ClientState)
    → numbered clients number ≡ found → AllByRecursion (NumbersWithin most) clients → most < 2 ^ 64 - 1
    → refused_invocation who found ≡ None → IsSomeAnd found CanBegin
can_begin clients number most who None is all few free = absurd cc
can_begin clients number most who (Some state) is all few free =
    record {
      idle = idle_by state.work free;
      number_left = may_invoke most state (each_numbered (NumbersWithin most) clients number state all is)
          (omega (arith, few));
    }

-- a client that is invoked can begin, where the record of the run has room for one more
pub may_begin : (world : WorldState) (event : Event) → IsWorld world → length world.entries < 2 ^ 64 - 1
    → cause_of world event ≡ None → MayBegin world.clients event
may_begin world (Invoke client op) is few free =
    can_begin world.clients client.0 (length world.entries) (party.Client client)
    (numbered world.clients client.0) refl (numbers_world world is) few (is_invoked world client op free).free
may_begin world (Deliver number) is few free = tt
may_begin world (Tick client) is few free = tt
may_begin world (Inject who text) is few free = tt

-- ---- what was sent, as far as it can be counted

pub sent_more : (sent bytes before after most : ℕ) → sent ≡ min before most → after ≡ before + bytes
    → min (sent + bytes) most ≡ min after most
sent_more sent bytes before after most is more = omega (arith, is, more)

-- the limit is met by the count where it is met by what was sent
pub limit_counted : (events sent all : ℕ) → sent ≡ min all (2 ^ 128 - 1) → limit_at events sent ≡ limit_at events all
limit_counted events sent all is =
    let same : nat_le BYTE_LIMIT sent ≡ nat_le BYTE_LIMIT all =
    both_ways (nat_le BYTE_LIMIT sent) (nat_le BYTE_LIMIT all)
    (λ met. le-leb BYTE_LIMIT all (let met = leb-true BYTE_LIMIT sent met in omega (arith, is, met)))
    (λ met. le-leb BYTE_LIMIT sent (let met = leb-true BYTE_LIMIT all met in omega (arith, is, met))) in
    ap (λ spent. cond (nat_le EVENT_LIMIT events) (Some fails.TooManyEvents)
    (cond spent (Some fails.TooManyBytes) None)) same
