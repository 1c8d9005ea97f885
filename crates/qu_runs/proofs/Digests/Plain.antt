-- A trace of operations with parts, into which nothing forged is injected, is plain.
use Rattle.qu_world.proofs.Steps.{step_cases}
use Rattle.std.proofs.Common.{Bool, subst, false, ◌≡◌, ℕ, zero, suc, ◌≤◌, true, List, [], ◌∷◌, length, get_or, Option, None, Some, inl, inr, refl, sym, ap, ◌∙◌, arith, ◌<◌, ◌^◌}
use Rattle.std.specs.Prelude.{slice_get, slice_set, IfSome, nat_lt, not, ◌&&◌, if◌then◌else◌}
use Rattle.std.proofs.lemmas.Bool.{false≢true, cases_Bool}
use Rattle.std.proofs.lemmas.Option.{none-some, same_Some}
use Rattle.qu_base.specs.declared.party.ClientId.{ClientId}
use Rattle.qu_base.specs.declared.party.Party.{Party}
use Rattle.qu_base.specs.declared.party.Party.TheVariants as party
use Rattle.qu_base.specs.declared.party.ReplicaId.{ReplicaId}
use Rattle.qu_seal.specs.Keys.{Ring}
use Rattle.qu_objects.specs.declared.op.Outcome.{Outcome}
use Rattle.qu_frames.specs.declared.frame.Frame.{Frame}
use Rattle.qu_base.specs.Bounds.{replicas}
use Rattle.qu_base.specs.Format.{AreBytes}
use Rattle.qu_frames.specs.declared.frame.Letter.{Letter}
use Rattle.qu_frames.specs.Signing.{sender, brought}
use Rattle.qu_rows.specs.State.{ReplicaState}
use Rattle.qu_replica.specs.Step as replica
use Rattle.qu_client.specs.declared.state.ClientState.{ClientState}
use Rattle.qu_client.specs.State.{Stepped}
use Rattle.qu_client.specs.declared.work.Work.{Work}
use Rattle.qu_client.specs.Steps as client
use Rattle.qu_trace.specs.declared.event.Event.{Event}
use Rattle.qu_trace.specs.declared.event.Event.TheVariants.{Invoke, Deliver, Tick, Inject}
use Rattle.qu_trace.specs.declared.trace.Entry.{Entry}
use Rattle.qu_trace.specs.declared.trace.Trace.{Trace}
use Rattle.qu_world.specs.State.{WorldState, ring_of, numbered, with_numbered}
use Rattle.qu_world.specs.Step.{recorded, unchanged, ended_by, at_replica, at_client, received}
use Rattle.qu_world.proofs.Each.{each_at}
use Rattle.qu_claims.specs.Times.{world_after}
use Rattle.qu_trace.specs.declared.trace.Setup.{Setup}
use Rattle.qu_trace.specs.Faulty.{is_faulty}
use Rattle.qu_claims.specs.Carried.{handed}
use Rattle.qu_claims.specs.Premises.{HasSent, AreUnforged, IsUnforgedAt, IsUnforged}
use Rattle.qu_runs.proofs.Events.Handing.{offered_handed}
use Rattle.qu_runs.specs.Plain.{HasEventParts, HaveParts, IsIgnored, IsPlain, ArePlain}
use Rattle.qu_claims.specs.Handled.{is_handler, request_brought, request_to}
use Rattle.qu_runs.proofs.Worlds.Keyed.{HasKeys, clients_keyed}
use Rattle.qu_runs.proofs.Worlds.OpeningReplicas.{keys_are, me_is}
use Rattle.qu_runs.proofs.Worlds.WorldGrowth.{world_after-none, world_after-grows}

-- ---- bytes that are ignored

set_self : {X : Type 0} (items : List X) (place : ℕ) (item : X) → slice_get items place ≡ Some item
    → slice_set items place item ≡ items
set_self [] place item is = absurd (none-some item is)
set_self (first ∷ later) zero item is = ap (λ it. it ∷ later) (sym (same_Some first item is))
set_self (first ∷ later) (suc place) item is = ap (λ rest. first ∷ rest) (set_self later place item is)

with_self : {X : Type 0} (items : List X) (number : ℕ) (item : X) → numbered items number ≡ Some item
    → with_numbered items number item ≡ items
with_self items zero item is = refl
with_self items (suc place) item is = set_self items place item is

-- a text that changes nothing of the replica is ignored
replica_ignores : (world : WorldState) (event : Event) (me : ReplicaId) (text : List ℕ)
    (found : Option ReplicaState) → slice_get world.replicas me.0 ≡ found
    → ((state : ReplicaState) → found ≡ Some state → replica.replica_step state text ≡ (state, []))
    → at_replica world event me text found ≡ unchanged world event
replica_ignores world event me text None is nothing = refl
replica_ignores world event me text (Some state) is nothing =
    ap (λ (moved : ReplicaState × List Letter). recorded
    (record world { replicas = slice_set world.replicas me.0 moved.0 }) event moved.1 None) (nothing state refl) ∙
    ap (λ (replicas : List ReplicaState). recorded (record world { replicas = replicas }) event [] None)
    (set_self world.replicas me.0 state is)

-- what is no frame with a right HMAC asks for nothing
no_request : (setup : Setup) (text : List ℕ) (me : ReplicaId) (read : Option Frame)
    → brought (ring_of setup) (party.Replica me) text ≡ read → request_brought setup me read ≡ None
    → request_to setup text (party.Replica me) ≡ None
no_request setup text me read is none =
    by (is_handler setup me) (ap (request_brought setup me) is ∙ none)
  where
    by : (test : Bool) → request_brought setup me (brought (ring_of setup) (party.Replica me) text) ≡ None
        → (if test then request_brought setup me (brought (ring_of setup) (party.Replica me) text) else None) ≡ None
    by true is = is
    by false is = refl

-- nothing is asked of a faulty replica
no_handler : (setup : Setup) (text : List ℕ) (to : Party) → is_faulty setup to ≡ true → request_to setup text to ≡ None
no_handler setup text (party.Client me) faulty = refl
no_handler setup text (party.Replica me) faulty =
    by (nat_lt me.0 (replicas setup.bounds)) (is_faulty setup (party.Replica me)) faulty
  where
    by : (inside faulty : Bool) → faulty ≡ true
        → (if inside && not faulty then request_brought setup me
        (brought (ring_of setup) (party.Replica me) text) else None) ≡ None
    by true true is = refl
    by true false is = absurd (false≢true is)
    by false faulty is = refl

not_ended : (me : ClientId) (work : Option Work) → ended_by me work None ≡ None
not_ended me None = refl
not_ended me (Some work) = refl

client_ignores : (world : WorldState) (event : Event) (me : ClientId) (text : List ℕ) (found : Option ClientState)
    → numbered world.clients me.0 ≡ found
    → ((state : ClientState) → found ≡ Some state → brought state.keys (party.Client state.me) text ≡ None)
    → at_client world event me (λ (state : ClientState). client.client_step state text) found ≡ unchanged world event
client_ignores world event me text None is nothing = refl
client_ignores world event me text (Some state) is nothing =
    ap (λ (stepped : Stepped). recorded
    (record world { clients = with_numbered world.clients me.0 stepped.state }) event stepped.letters
    (ended_by me state.work stepped.ended)) (ap (client.client_on_received state) (nothing state refl)) ∙
    ap (λ (ended : Option (ClientId × ℕ × Outcome)). recorded
    (record world { clients = with_numbered world.clients me.0 state }) event [] ended) (not_ended me state.work) ∙
    ap (λ (clients : List ClientState). recorded (record world { clients = clients }) event [] None)
    (with_self world.clients me.0 state is)

-- ---- clients

-- ---- the events of a run

pub setup_after : (trace : Trace) (count : ℕ) → (world_after trace count).setup ≡ trace.setup
setup_after trace count = (world_after-grows trace 0 count (omega arith)).setup
    ∙ ap (λ (world : WorldState). world.setup) (world_after-none trace)

module _ (trace : Trace) (count : ℕ) (within : count ≤ length trace.entries) where
  abbrev world : WorldState
  world = world_after trace count

  -- what the replica at this place reads of a text
  replica_reads : (me : ReplicaId) (text : List ℕ) (read : Option Frame)
      → brought (ring_of world.setup) (party.Replica me) text ≡ read
      → (state : ReplicaState) → slice_get world.replicas me.0 ≡ Some state
      → brought state.keys (party.Replica state.me) text ≡ read
  replica_reads me text read is state found =
      ap (λ (keys : Ring). brought keys (party.Replica state.me) text) (keys_are trace count me.0 state found
      ∙ sym (ap ring_of (setup_after trace count))) ∙
      ap (λ (it : ReplicaId). brought (ring_of world.setup) (party.Replica it) text)
      (me_is trace count me.0 state found) ∙
      is

  client_none : (me : ClientId) (text : List ℕ) → brought (ring_of world.setup) (party.Client me) text ≡ None
      → (state : ClientState) → numbered world.clients me.0 ≡ Some state
      → brought state.keys (party.Client state.me) text ≡ None
  client_none me text none state found =
      let held : HasKeys (ring_of trace.setup) me.0 state = clients_keyed trace count within me.0 state found in
      ap (λ (keys : Ring). brought keys (party.Client state.me) text)
      (held.keys_are ∙ sym (ap ring_of (setup_after trace count))) ∙
      ap (λ (it : ClientId). brought (ring_of world.setup) (party.Client it) text) held.me ∙
      none

  -- ---- an injection

  -- at a correct party
  ignored_by : (to : Party) (text : List ℕ) → request_to world.setup text to ≡ None
      → received world (Inject to text) to text ≡ unchanged world (Inject to text) → IsIgnored world to text
  ignored_by to text nothing same = record {
    nothing = nothing;
    same = step_cases (λ (made : WorldState). made ≡ unchanged world (Inject to text)) world (Inject to text) refl
        (λ correct. same);
  }

  -- of which nothing is read
  ignored_none : (to : Party) (text : List ℕ) → brought (ring_of world.setup) to text ≡ None → IsIgnored world to text
  ignored_none (party.Replica me) text none =
      ignored_by (party.Replica me) text (no_request world.setup text me None none refl)
      (replica_ignores world (Inject (party.Replica me) text) me text (slice_get world.replicas me.0) refl
      (λ state found. ap (replica.replica_on_received state) (replica_reads me text None none state found)))
  ignored_none (party.Client me) text none =
      ignored_by (party.Client me) text refl
      (client_ignores world (Inject (party.Client me) text) me text (numbered world.clients me.0) refl
      (client_none me text none))

  -- to a correct party
  plain_taken : (to : Party) (text : List ℕ) → AreBytes text
      → AreUnforged world to text → (read : Option Frame) → brought (ring_of world.setup) to text ≡ read
      → IsPlain world (Inject to text)
  plain_taken to text bytes true_to None is = inl (ignored_none to text is)
  plain_taken to text bytes true_to (Some frame) is =
      elim (cases_Bool (is_faulty world.setup (sender frame))) [
        | inl faulty ↦ inr (inr (record { bytes = bytes; taken = frame; brings = is; faulty = faulty }))
        | inr correct ↦
            let from : HasSent world (sender frame) to text = true_to.sent frame is correct in
            inr (inl (record {
              number = from.number;
              letter = from.letter;
              is_letter = from.is_letter;
              to_is = from.to_is;
              text_is = from.text_is;
            }))
      ]

  -- to a faulty one
  plain_lost : (to : Party) (text : List ℕ) → is_faulty world.setup to ≡ true → IsPlain world (Inject to text)
  plain_lost to text faulty = inl (record {
    nothing = no_handler world.setup text to faulty;
    same = step_cases (λ (made : WorldState). made ≡ unchanged world (Inject to text)) world (Inject to text) refl
        (λ correct. absurd (false≢true (sym correct ∙ faulty)));
  })

  plain_injection : (to : Party) (text : List ℕ) → AreBytes text
      → IsUnforgedAt world (Inject to text) → IsPlain world (Inject to text)
  plain_injection to text bytes unforged =
      elim (cases_Bool (is_faulty world.setup to)) [
        | inl faulty ↦ plain_lost to text faulty
        | inr correct ↦
            let given : handed world (Inject to text) ≡ Some (to, text) =
            offered_handed world (Inject to text) to text correct refl in
            let true_to : AreUnforged world to text =
            subst (λ (it : Option (Party × List ℕ)). IfSome it (λ (it : Party × List ℕ). AreUnforged world it.0 it.1))
            given unforged in
            plain_taken to text bytes true_to (brought (ring_of world.setup) to text) refl
      ]

  plain_event : (event : Event) → HasEventParts event → IsUnforgedAt world event → IsPlain world event
  plain_event (Invoke client op) parts unforged = parts
  plain_event (Deliver letter) parts unforged = tt
  plain_event (Tick client) parts unforged = tt
  plain_event (Inject to text) parts unforged = plain_injection to text parts unforged

pub plain_from : (trace : Trace) → HaveParts trace.entries → length trace.entries < 2 ^ 63 → IsUnforged trace
    → ArePlain trace
plain_from trace parts few unforged = record {
  typed = record { parts = parts; few = few };
  unforged = unforged;
  plain_at = λ at default below.
      plain_event trace at (omega arith) (get_or trace.entries at default).event
      (each_at (λ (entry : Entry). HasEventParts entry.event) trace.entries at default parts below)
      (unforged at default below);
}
