-- Each letter that a client of a run sends is signed for its receiver, so that its HMAC is right.
use Rattle.std.proofs.Common.{◌≡◌, ℕ, zero, suc, ◌+◌, ◌<◌, ◌≤◌, true, List, [], ◌∷◌, ◌++◌, length, get_or, Option, None, Some, Ok, refl, sym, ap, subst, ◌∙◌, arith, add-one, inl, inr}
use Rattle.std.specs.Prelude.{slice_get, IfSome}
use Rattle.std.specs.List.{AllByRecursion}
use Rattle.std.specs.Cmp.Lexicographic.{bytes_decides}
use Rattle.std.proofs.lemmas.Bool.{false≢true, and_from, le-leb, lt-ltb}
use Rattle.std.proofs.lemmas.List.{append_cancel_left, take_all}
use Rattle.std.proofs.lemmas.Option.{none-some}
use Rattle.qu_base.specs.Bounds.{replicas}
use Rattle.qu_base.specs.Format.{AreBytes}
use Rattle.qu_base.specs.declared.party.ClientId.{ClientId}
use Rattle.qu_base.specs.declared.party.Party.{Party}
use Rattle.qu_base.specs.declared.party.Party.TheVariants as party
use Rattle.qu_base.specs.declared.party.ReplicaId.{ReplicaId}
use Rattle.qu_base.proofs.EachItem.{each_append, each_weaker}
use Rattle.qu_seal.specs.declared.constants.TheConstants.{FRAME_TAG}
use Rattle.qu_seal.specs.Digesting.{digest_of}
use Rattle.qu_seal.specs.Keys.{Ring, has_party, have_key, seal_of, verifies}
use Rattle.qu_frames.specs.declared.frame.Frame.{Frame}
use Rattle.qu_frames.specs.declared.frame.Letter.{Letter}
use Rattle.qu_frames.specs.Decoding.{decoded}
use Rattle.qu_frames.specs.Formats.{frame_form}
use Rattle.qu_frames.specs.Signing.{sender, mac_of, before_mac, text_digest, signature, signed, is_signed}
use Rattle.qu_frames.proofs.Decoded.{decoded_is_spelled}
use Rattle.qu_frames.proofs.Signed.{fields_of, spelled_fields, without, mac_fits, signature_sized}
use Rattle.qu_rows.specs.State.{ReplicaState}
use Rattle.qu_replica.specs.Step.{replica_step}
use Rattle.qu_client.specs.declared.state.ClientState.{ClientState}
use Rattle.qu_client.specs.declared.whom.Whom.{Whom}
use Rattle.qu_client.specs.declared.work.Work.{Work}
use Rattle.qu_client.specs.Rounds.{request_of, requests}
use Rattle.qu_client.specs.State.{Stepped}
use Rattle.qu_client.specs.Steps.{client_step, client_tick, client_invoke}
use Rattle.qu_client.proofs.Sent.{each_letter}
use Rattle.qu_trace.specs.declared.event.Event.{Event}
use Rattle.qu_trace.specs.declared.event.Event.TheVariants.{Invoke, Deliver, Tick, Inject}
use Rattle.qu_trace.specs.declared.trace.Entry.{Entry}
use Rattle.qu_trace.specs.declared.trace.Trace.{Trace}
use Rattle.qu_trace.specs.Faulty.{is_replica}
use Rattle.qu_trace.specs.Letters.{letters_of, numbered}
use Rattle.qu_trace.proofs.LetterLaws.{letters-push}
use Rattle.qu_world.specs.State.{WorldState, ring_of, letter_of, opening_clients}
use Rattle.qu_world.specs.Step.{world_step, unchanged, moved, at_replica, at_client, received, delivered}
use Rattle.qu_world.specs.Run.{IsRun}
use Rattle.qu_world.proofs.Each.{each_numbered, with_cases}
use Rattle.qu_world.proofs.Steps.{step_cases}
use Rattle.qu_claims.specs.Times.{world_after}
use Rattle.qu_runs.proofs.Events.Recording.{entries_after}
use Rattle.qu_runs.proofs.Fits.ClientLetters.{step_sends, tick_sends, invoke_sends}
use Rattle.qu_runs.proofs.Small.{some_entry}
use Rattle.qu_runs.proofs.Worlds.Keyed.{HasKeys, clients_keyed}
use Rattle.qu_runs.proofs.Worlds.WorldGrowth.{world_after-none, world_after-next}
use Rattle.qu_points.specs.Signed.{IsSignedBy, client_in}
use Rattle.qu_points.proofs.Senders.{IsOfReplica, replica_sends}

-- ---- a text that is signed

-- the HMAC of a signed text is right, whatever is decoded of it
pub own_is_signed : (ring : Ring) (from to : Party) (text : List ℕ) (frame : Frame) → AreBytes text
    → IsSignedBy ring from to text → decoded text ≡ Ok frame → sender frame ≡ from
    → is_signed ring to text frame ≡ true
unfolding signed is_signed text_digest verifies
own_is_signed ring from to text frame bytes it reads is_of =
    let read : frame_form.Fits frame × (text ≡ frame_form.spell frame) = decoded_is_spelled text frame bytes reads in
    let front : List ℕ = before_mac (frame_form.spell it.made) in
    let mac : List ℕ = signature ring to it.made in
    let parts : text ≡ fields_of frame ++ mac_of frame = read.1 ∙ spelled_fields frame in
    let fields : before_mac text ≡ fields_of frame =
    ap before_mac parts ∙ without (fields_of frame) (mac_of frame) (mac_fits frame read.0) in
    let before : before_mac text ≡ front = ap before_mac it.is ∙ without front mac (signature_sized ring to it.made) in
    let same : mac_of frame ≡ mac =
    append_cancel_left front (mac_of frame) mac
    (ap (λ (it : List ℕ). it ++ mac_of frame) (sym before ∙ fields) ∙ sym parts ∙ it.is) in
    let right : mac_of frame ≡ seal_of ring (sender frame) to (text_digest text) =
    same ∙ (λ i. seal_of ring ((it.of ∙ sym is_of) i) to (record { 0 = digest_of FRAME_TAG (sym before i) })) in
    and_from _ _ (ap (λ (who : Party). have_key ring who to) is_of ∙ it.key)
    ((bytes_decides (mac_of frame) (seal_of ring (sender frame) to (text_digest text))).1 right)

-- ---- letters

-- a letter of a client is signed for its receiver
abbrev IsOwn : Ring → Letter → Type 0
IsOwn ring letter = (client : ClientId) → letter.from ≡ party.Client client
    → IsSignedBy ring letter.from letter.to letter.text

-- those of a replica are of no client
replica_own : (ring : Ring) (letter : Letter) → IsOfReplica letter → IsOwn ring letter
replica_own ring letter of client same = absurd (false≢true (sym (ap is_replica same) ∙ of))

push_letters : (ring : Ring) (entries : List Entry) (entry : Entry) → AllByRecursion (IsOwn ring) (letters_of entries)
    → AllByRecursion (IsOwn ring) entry.letters
    → AllByRecursion (IsOwn ring) (letters_of (entries ++ entry ∷ []))
push_letters ring entries entry each here =
    subst (AllByRecursion (IsOwn ring)) (sym (letters-push entries entry))
    (each_append (IsOwn ring) (letters_of entries) entry.letters each here)

-- ---- clients

-- those that there are have numbers of the ring
abbrev AreParties : Ring → List ClientState → Type 0
AreParties ring clients = (number : ℕ) (state : ClientState) → numbered clients number ≡ Some state
    → has_party ring (party.Client (record { 0 = number })) ≡ true

opening_below : (first count : ℕ) (keys : Ring) (place : ℕ) (state : ClientState)
    → slice_get (opening_clients first count keys) place ≡ Some state → place < count
unfolding opening_clients
opening_below first zero keys place state found = absurd (none-some state found)
opening_below first (suc count) keys zero state found = omega arith
opening_below first (suc count) keys (suc place) state found =
    let below : place < count = opening_below (first + 1) count keys place state found in omega (arith, below)

opening_parties : (ring : Ring) → AreParties ring (opening_clients 1 ring.clients ring)
opening_parties ring zero state found = absurd (none-some state found)
opening_parties ring (suc place) state found =
    let below : place < ring.clients = opening_below 1 ring.clients ring place state found in
    and_from _ _ (le-leb 1 (suc place) (omega arith)) (le-leb (suc place) ring.clients (omega (arith, below)))

-- the requests of a client of the ring
requests_own : (ring : Ring) (number : ℕ) (state : ClientState) → HasKeys ring number state
    → has_party ring (party.Client (record { 0 = number })) ≡ true → (work : Work) (whom : Whom)
    → AllByRecursion (IsOwn ring) (requests state.keys state.me work whom)
requests_own ring number state keyed of work whom =
    each_letter state.keys state.me work whom (IsOwn ring) (replicas (state.keys).bounds) 0
    (λ to below asked client same.
    let within : to < 0 + replicas ring.bounds =
    subst (λ (it : Ring). to < 0 + replicas it.bounds) keyed.keys_are below in
    let few : to < replicas ring.bounds = omega (arith, within) in
    record {
      made = request_of state.me work;
      is = ap (λ (it : Ring). signed it (party.Replica (record { 0 = to })) (request_of state.me work)) keyed.keys_are;
      of = refl;
      key = and_from _ _ (ap (λ (it : ClientId). has_party ring (party.Client it)) keyed.me ∙ of)
          (and_from _ _ (lt-ltb to (replicas ring.bounds) few) refl);
    })

-- ---- worlds

record OwnWorld (ring : Ring) (world : WorldState) : Type 0 where
  parties : AreParties ring world.clients
  letters : AllByRecursion (IsOwn ring) (letters_of world.entries)

module _ (ring : Ring) (world : WorldState) (own : OwnWorld ring world)
    (keyed : (number : ℕ) (state : ClientState) → numbered world.clients number ≡ Some state
    → HasKeys ring number state) where
  unchanged_own : (event : Event) → OwnWorld ring (unchanged world event)
  unchanged_own event = record {
    parties = own.parties;
    letters = push_letters ring world.entries (record { event = event; letters = []; ended = None }) own.letters tt;
  }

  -- a move that sends nothing but what requests are
  client_own : (event : Event) (me : ClientId) (move : ClientState → Stepped) (found : Option ClientState)
      → numbered world.clients me.0 ≡ found
      → ((state : ClientState) → ((work : Work) (whom : Whom)
      → AllByRecursion (IsOwn ring) (requests state.keys state.me work whom))
      → AllByRecursion (IsOwn ring) (move state).letters)
      → OwnWorld ring (at_client world event me move found)
  client_own event me move None is sends = unchanged_own event
  client_own event me move (Some old) is sends = record {
    parties = λ number state found. elim (with_cases world.clients me.0 number (move old).state state found) [
      | inl here ↦ subst (λ (it : ℕ). has_party ring (party.Client (record { 0 = it })) ≡ true) (sym here.0)
          (own.parties me.0 old is)
      | inr other ↦ own.parties number state other.1
    ];
    letters = push_letters ring world.entries _ own.letters
        (sends old (requests_own ring me.0 old (keyed me.0 old is) (own.parties me.0 old is)));
  }

  replica_own_step : (event : Event) (me : ReplicaId) (text : List ℕ) (found : Option ReplicaState)
      → OwnWorld ring (at_replica world event me text found)
  replica_own_step event me text None = unchanged_own event
  replica_own_step event me text (Some state) = record {
    parties = own.parties;
    letters = push_letters ring world.entries _ own.letters
        (each_weaker IsOfReplica (IsOwn ring) (replica_step state text).1 (replica_own ring)
        (replica_sends state text));
  }

  received_own : (event : Event) (to : Party) (text : List ℕ) → OwnWorld ring (received world event to text)
  received_own event (party.Replica me) text = replica_own_step event me text (slice_get world.replicas me.0)
  received_own event (party.Client me) text =
      client_own event me (λ (state : ClientState). client_step state text) (numbered world.clients me.0) refl
      (λ state asks. step_sends state (AllByRecursion (IsOwn ring)) tt asks text)

  delivered_own : (event : Event) (found : Option Letter) → OwnWorld ring (delivered world event found)
  delivered_own event None = unchanged_own event
  delivered_own event (Some letter) = received_own event letter.to letter.text

  moved_own : (event : Event) → OwnWorld ring (moved world event)
  moved_own (Invoke client op) =
      client_own (Invoke client op) client (λ (state : ClientState). client_invoke state op)
      (numbered world.clients client.0) refl
      (λ state asks. invoke_sends state (AllByRecursion (IsOwn ring)) tt asks op)
  moved_own (Deliver number) = delivered_own (Deliver number) (letter_of world number)
  moved_own (Tick client) =
      client_own (Tick client) client client_tick (numbered world.clients client.0) refl
      (λ state asks. tick_sends state (AllByRecursion (IsOwn ring)) tt asks)
  moved_own (Inject to text) = received_own (Inject to text) to text

  step_own : (event : Event) → OwnWorld ring (world_step world event)
  step_own event = step_cases (OwnWorld ring) world event (unchanged_own event) (λ correct. moved_own event)

-- ---- runs

own_world : (trace : Trace) (count : ℕ) → count ≤ length trace.entries
    → OwnWorld (ring_of trace.setup) (world_after trace count)
unfolding letters_of
own_world trace zero within =
    subst (OwnWorld (ring_of trace.setup)) (sym (world_after-none trace))
    (record { parties = opening_parties (ring_of trace.setup); letters = tt })
own_world trace (suc count) within =
    let default : Entry = some_entry trace.entries (omega arith) in
    let next : world_after trace (suc count) ≡ world_step (world_after trace count)
    (get_or trace.entries count default).event =
    ap (world_after trace) (sym (add-one count)) ∙ world_after-next trace count default (omega arith) in
    subst (OwnWorld (ring_of trace.setup)) (sym next)
    (step_own (ring_of trace.setup) (world_after trace count) (own_world trace count (omega arith))
    (clients_keyed trace count (omega arith)) (get_or trace.entries count default).event)

letter_own : (trace : Trace) → IsRun trace → (number : ℕ) (letter : Letter)
    → numbered (letters_of trace.entries) number ≡ Some letter → IsOwn (ring_of trace.setup) letter
letter_own trace is_run number letter found =
    let last : ℕ = length trace.entries in
    let all : (world_after trace last).entries ≡ trace.entries =
    entries_after trace is_run last (omega arith) ∙ take_all last trace.entries (omega arith) in
    each_numbered (IsOwn (ring_of trace.setup)) (letters_of trace.entries) number letter
    (subst (λ (entries : List Entry). AllByRecursion (IsOwn (ring_of trace.setup)) (letters_of entries)) all
    (own_world trace last (omega arith)).letters) found

-- the client that sent a letter of a run signed it for its receiver
pub client_signed : (trace : Trace) → IsRun trace → (number : ℕ) (letter : Letter)
    → numbered (letters_of trace.entries) number ≡ Some letter
    → IfSome (client_in letter.from) (λ client. IsSignedBy (ring_of trace.setup) client letter.to letter.text)
client_signed trace is_run number letter found = by letter.from refl
  where
    by : (from : Party) → letter.from ≡ from
        → IfSome (client_in from) (λ client. IsSignedBy (ring_of trace.setup) client letter.to letter.text)
    by (party.Replica me) is = tt
    by (party.Client me) is =
        subst (λ (it : Party). IsSignedBy (ring_of trace.setup) it letter.to letter.text) is
        (letter_own trace is_run number letter found me is)
