-- What each event of a run recorded, by the party that moved.
use Rattle.qu_world.proofs.Steps.{AtCorrect, step_cases}
use Rattle.std.proofs.Common.{◌≡◌, ℕ, suc, ◌+◌, ◌<◌, ◌≤◌, List, [], ◌∷◌, ◌++◌, length, take, drop, get_or, Option, None, Some, refl, sym, ap, subst, ◌∙◌, append_assoc, arith, slice_get, inl, inr}
use Rattle.std.proofs.lemmas.List.{append-nil, map-append, length-map, length-take-le, take-append-drop, take_at, take_more, same_from_push, take_all}
use Rattle.std.proofs.lemmas.Option.{slice_get_within, get_or_from_slice_get}
use Rattle.qu_base.specs.declared.party.ClientId.{ClientId}
use Rattle.qu_base.specs.declared.party.Party.{Party}
use Rattle.qu_base.specs.declared.party.Party.TheVariants as party
use Rattle.qu_base.specs.declared.party.ReplicaId.{ReplicaId}
use Rattle.qu_objects.specs.declared.op.Op.{Op}
use Rattle.qu_frames.specs.declared.frame.Letter.{Letter}
use Rattle.qu_rows.specs.State.{ReplicaState}
use Rattle.qu_replica.specs.Step.{replica_step}
use Rattle.qu_client.specs.declared.state.ClientState.{ClientState}
use Rattle.qu_client.specs.Steps.{client_invoke, client_step, client_tick}
use Rattle.qu_trace.specs.declared.event.Event.{Event}
use Rattle.qu_trace.specs.declared.event.Event.TheVariants.{Invoke, Deliver, Tick, Inject}
use Rattle.qu_trace.specs.declared.trace.Entry.{Entry}
use Rattle.qu_trace.specs.declared.trace.Trace.{Trace}
use Rattle.qu_world.specs.State.{WorldState, opening_world, numbered, letter_of}
use Rattle.qu_world.specs.Step.{world_step, unchanged, at_replica, at_client, received, delivered, ended_by}
use Rattle.qu_world.specs.Run.{run_from, events_of, IsRun}
use Rattle.qu_world.proofs.RunLaws.{step_records}
use Rattle.qu_claims.specs.Times.{world_after}
use Rattle.qu_runs.proofs.Worlds.WorldGrowth.{world_after-next}
use Rattle.qu_claims.specs.Carried.{handed}
use Rattle.qu_runs.specs.Plain.{IsFrom, IsPlain, ArePlain}
use Rattle.qu_runs.proofs.Events.Handing.{letter_handed, injected_cases}
use Rattle.qu_trace.specs.Letters.{letters_of}
use Rattle.qu_runs.proofs.Worlds.LaterLetters.{letter_later}

-- ---- what a step of a world may be

-- whatever holds of each of these holds of the step
module _ (world : WorldState) (P : WorldState → Type 0)
    (nothing : (event : Event) → P (unchanged world event))
    (replica_moves : (event : Event) (text : List ℕ) (me : ReplicaId) (state : ReplicaState)
    → IsFrom world (party.Replica me) text → handed world event ≡ Some (party.Replica me, text)
    → slice_get world.replicas me.0 ≡ Some state → P (at_replica world event me text (Some state)))
    (invokes : (client : ClientId) (op : Op) (state : ClientState) → numbered world.clients client.0 ≡ Some state
    → P (at_client world (Invoke client op) client (λ (state : ClientState). client_invoke state op) (Some state)))
    (takes : (event : Event) (text : List ℕ) (client : ClientId) (state : ClientState)
    → IsFrom world (party.Client client) text
    → handed world event ≡ Some (party.Client client, text) → numbered world.clients client.0 ≡ Some state
    → P (at_client world event client (λ (state : ClientState). client_step state text) (Some state)))
    (ticks : (client : ClientId) (state : ClientState) → numbered world.clients client.0 ≡ Some state
    → P (at_client world (Tick client) client client_tick (Some state))) where
  replica_found : (event : Event) (text : List ℕ) (me : ReplicaId) → IsFrom world (party.Replica me) text
      → handed world event ≡ Some (party.Replica me, text) → (found : Option ReplicaState)
      → slice_get world.replicas me.0 ≡ found → P (at_replica world event me text found)
  replica_found event text me from hands None is = nothing event
  replica_found event text me from hands (Some state) is = replica_moves event text me state from hands is

  invoke_found : (client : ClientId) (op : Op) (found : Option ClientState)
      → numbered world.clients client.0 ≡ found
      → P (at_client world (Invoke client op) client (λ (state : ClientState). client_invoke state op) found)
  invoke_found client op None is = nothing (Invoke client op)
  invoke_found client op (Some state) is = invokes client op state is

  take_found : (event : Event) (text : List ℕ) (client : ClientId) → IsFrom world (party.Client client) text
      → handed world event ≡ Some (party.Client client, text) → (found : Option ClientState)
      → numbered world.clients client.0 ≡ found
      → P (at_client world event client (λ (state : ClientState). client_step state text) found)
  take_found event text client from hands None is = nothing event
  take_found event text client from hands (Some state) is = takes event text client state from hands is

  tick_found : (client : ClientId) (found : Option ClientState) → numbered world.clients client.0 ≡ found
      → P (at_client world (Tick client) client client_tick found)
  tick_found client None is = nothing (Tick client)
  tick_found client (Some state) is = ticks client state is

  received_by : (event : Event) (to : Party) (text : List ℕ) → IsFrom world to text
      → handed world event ≡ Some (to, text) → P (received world event to text)
  received_by event (party.Replica me) text from hands =
      replica_found event text me from hands (slice_get world.replicas me.0) refl
  received_by event (party.Client me) text from hands =
      take_found event text me from hands (numbered world.clients me.0) refl

  -- a letter was sent
  of_letter : (number : ℕ) (letter : Letter) → letter_of world number ≡ Some letter
      → IsFrom world letter.to letter.text
  of_letter number letter is =
      inl (record { number = number; letter = letter; is_letter = is; to_is = refl; text_is = refl })

  letter_found : (number : ℕ) → AtCorrect world (Deliver number) → (found : Option Letter)
      → letter_of world number ≡ found → P (delivered world (Deliver number) found)
  letter_found number correct None is = nothing (Deliver number)
  letter_found number correct (Some letter) is =
      received_by (Deliver number) letter.to letter.text (of_letter number letter is)
      (letter_handed world number letter correct is)

  pub world_cases : (event : Event) → IsPlain world event → P (world_step world event)
  world_cases (Invoke client op) plain =
      step_cases P world (Invoke client op) (nothing (Invoke client op))
      (λ correct. invoke_found client op (numbered world.clients client.0) refl)
  world_cases (Deliver number) plain =
      step_cases P world (Deliver number) (nothing (Deliver number))
      (λ correct. letter_found number correct (letter_of world number) refl)
  world_cases (Tick client) plain =
      step_cases P world (Tick client) (nothing (Tick client))
      (λ correct. tick_found client (numbered world.clients client.0) refl)
  world_cases (Inject to text) plain =
      injected_cases world to text (λ (event : Event) (new : WorldState). P new) (nothing (Inject to text))
      (λ number letter sent hands.
      received_by (Inject letter.to letter.text) letter.to letter.text (of_letter number letter sent) hands)
      (λ made hands. received_by (Inject to text) to text (inr made) hands) plain

-- ---- the entries of a world of a run

run_entries : (world : WorldState) (events : List Event) → (more : List Entry)
    × ((run_from world events).entries ≡ world.entries ++ more) × (length more ≡ length events)
unfolding run_from
run_entries world [] = ([], sym (append-nil world.entries), refl)
run_entries world (event ∷ later) =
    let made = step_records world event in
    let rest = run_entries (world_step world event) later in (
      made.entry ∷ rest.0,
      rest.1 ∙ ap (λ (entries : List Entry). entries ++ rest.0) made.entries ∙ append_assoc world.entries
          (made.entry ∷ []) rest.0,
      ap suc rest.2,
    )

run_from-append : (world : WorldState) (first second : List Event) → run_from world (first ++ second) ≡ run_from
    (run_from world first) second
unfolding run_from
run_from-append world [] second = refl
run_from-append world (event ∷ first) second = run_from-append (world_step world event) first second

-- the world after so many events recorded these events
pub entries_after : (trace : Trace) → IsRun trace → (count : ℕ) → count ≤ length trace.entries
    → (world_after trace count).entries ≡ take count trace.entries
entries_after trace is count within =
    let first : List Event = events_of (take count trace.entries) in
    let second : List Event = events_of (drop count trace.entries) in
    let opening : WorldState = opening_world trace.setup in
    let events : events_of trace.entries ≡ first ++ second =
    ap events_of (sym (take-append-drop count trace.entries)) ∙ map-append (λ (entry : Entry). entry.event)
    (take count trace.entries) (drop count trace.entries) in
    let more = run_entries (world_after trace count) second in
    let all : trace.entries ≡ (world_after trace count).entries ++ more.0 =
    sym is.entries ∙
    ap (λ (these : List Event). (run_from opening these).entries) events ∙
    ap (λ (world : WorldState). world.entries) (run_from-append opening first second) ∙
    more.1 in
    let begun = run_entries opening first in
    let number : length (world_after trace count).entries ≡ count =
    ap length begun.1 ∙ begun.2 ∙ length-map (take count trace.entries) (λ (entry : Entry). entry.event)
    ∙ length-take-le count trace.entries within in
    sym (take_at (world_after trace count).entries more.0 count number) ∙ ap (take count) (sym all)

-- an event recorded its entry in the world before it
step_entry : (trace : Trace) → IsRun trace → (index : ℕ) (entry : Entry)
    → slice_get trace.entries index ≡ Some entry
    → (world_step (world_after trace index) entry.event).entries ≡ (world_after trace index).entries ++ entry ∷ []
step_entry trace is index entry found =
    let within : index < length trace.entries = slice_get_within trace.entries index entry found in
    let at : get_or trace.entries index entry ≡ entry = get_or_from_slice_get trace.entries index entry entry found in
    ap (λ (held : Entry). (world_step (world_after trace index) held.event).entries) (sym at) ∙
    ap (λ (world : WorldState). world.entries) (sym (world_after-next trace index entry within)) ∙
    entries_after trace is (index + 1) (omega arith) ∙
    take_more trace.entries index entry within ∙
    ap (λ (before : List Entry). before ++ get_or trace.entries index entry ∷ [])
    (sym (entries_after trace is index (omega arith))) ∙
    ap (λ (held : Entry). (world_after trace index).entries ++ held ∷ []) at

-- whatever holds of each of these holds of the entry with this index
module _ (trace : Trace) (is : IsRun trace) (plain : ArePlain trace) (index : ℕ) (entry : Entry)
    (is_entry : slice_get trace.entries index ≡ Some entry) (Q : Entry → Type 0)
    (nothing : (event : Event) → Q (record { event = event; letters = []; ended = None }))
    (replica_moves : (event : Event) (text : List ℕ) (me : ReplicaId) (state : ReplicaState)
    → IsFrom (world_after trace index) (party.Replica me) text → handed (world_after trace index) event ≡ Some
    (party.Replica me, text) → slice_get (world_after trace index).replicas me.0 ≡ Some state
    → Q (record { event = event; letters = (replica_step state text).1; ended = None }))
    (invokes : (client : ClientId) (op : Op) (state : ClientState) → numbered (world_after trace index).clients
    client.0 ≡ Some state
    → Q (record {
      event = Invoke client op;
      letters = (client_invoke state op).letters;
      ended = ended_by client state.work (client_invoke state op).ended;
    }))
    (takes : (event : Event) (text : List ℕ) (client : ClientId) (state : ClientState)
    → IsFrom (world_after trace index) (party.Client client) text → handed (world_after trace index) event ≡ Some
    (party.Client client, text) → numbered (world_after trace index).clients client.0 ≡ Some state
    → Q (record {
      event = event;
      letters = (client_step state text).letters;
      ended = ended_by client state.work (client_step state text).ended;
    }))
    (ticks : (client : ClientId) (state : ClientState) → numbered (world_after trace index).clients
    client.0 ≡ Some state
    → Q (record {
      event = Tick client;
      letters = (client_tick state).letters;
      ended = ended_by client state.work (client_tick state).ended;
    })) where
  abbrev before : WorldState
  before = world_after trace index

  of_last : (made : Entry) → Q made → before.entries ++ made ∷ [] ≡ before.entries ++ entry ∷ [] → Q entry
  of_last made holds same = subst Q (same_from_push before.entries before.entries made entry same).1 holds

  pub entry_cases : Q entry
  entry_cases =
      world_cases before (λ (new : WorldState). new.entries ≡ before.entries ++ entry ∷ [] → Q entry)
      (λ event. of_last _ (nothing event))
      (λ event text me state from hands found. of_last _ (replica_moves event text me state from hands found))
      (λ client op state found. of_last _ (invokes client op state found))
      (λ event text client state from hands found. of_last _ (takes event text client state from hands found))
      (λ client state found. of_last _ (ticks client state found))
      entry.event
      (subst (λ (it : Entry). IsPlain before it.event) (get_or_from_slice_get trace.entries index entry entry is_entry)
      (plain.plain_at index entry (slice_get_within trace.entries index entry is_entry)))
      (step_entry trace is index entry is_entry)

-- a letter has its number in the whole run
pub letter_stays : (trace : Trace) → IsRun trace → (index : ℕ) → index ≤ length trace.entries
    → (number : ℕ) (letter : Letter) → letter_of (world_after trace index) number ≡ Some letter
    → numbered (letters_of trace.entries) number ≡ Some letter
letter_stays trace is index within number letter found =
    let last : ℕ = length trace.entries in
    ap (λ (entries : List Entry). numbered (letters_of entries) number)
    (sym (take_all last trace.entries (omega arith)) ∙ sym (entries_after trace is last (omega arith))) ∙
    letter_later trace index last number letter within (omega arith) found
