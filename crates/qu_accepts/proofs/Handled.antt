-- What a replica accepts it handled, and it was made for that act; and a request that was handled was sent.
use Rattle.qu_trace.specs.Faulty.{is_faulty}
use Rattle.qu_claims.specs.Carried.{offered}
use Rattle.qu_runs.proofs.Events.Handing.{handed_offers, handed_correct}
use Rattle.qu_claims.specs.Handled.{is_handler}
use Rattle.qu_runs.proofs.Digests.Plain.{setup_after}
use Rattle.std.proofs.Common.{false}
use Rattle.std.proofs.Common.{◌≡◌, ℕ, ◌<◌, ◌≤◌, Bool, true, not, cond, List, length, Option, None, Some, refl, sym, ap, ◌∙◌, arith}
use Rattle.std.specs.Prelude.{slice_get, nat_lt, Contains, option_map}
use Rattle.std.specs.List.{list_all}
use Rattle.std.proofs.lemmas.Bool.{and_from, lt-ltb}
use Rattle.std.proofs.lemmas.Option.{none-some, slice_get_within, same_Some, get_or_from_slice_get}
use Rattle.qu_base.specs.declared.party.ClientId.{ClientId}
use Rattle.qu_base.specs.declared.party.ObjectId.{ObjectId}
use Rattle.qu_base.specs.declared.party.Party.{Party}
use Rattle.qu_base.specs.declared.party.Party.TheVariants as party
use Rattle.qu_base.specs.Bounds.{replicas}
use Rattle.qu_stamp.specs.declared.candidate.Candidate.{Candidate}
use Rattle.qu_stamp.specs.declared.stamp.Stamp.{Stamp}
use Rattle.qu_history.specs.declared.sets.SetOf.{SetOf}
use Rattle.qu_history.specs.Culling.{culled}
use Rattle.qu_objects.specs.declared.act.Method.{Method}
use Rattle.qu_frames.specs.declared.frame.Body.TheVariants as body
use Rattle.qu_frames.specs.declared.frame.Frame.{Frame}
use Rattle.qu_frames.specs.declared.frame.Frame.TheVariants as frame
use Rattle.qu_frames.specs.declared.frame.Letter.{Letter}
use Rattle.qu_rows.specs.Rows.{asked_of, fresh_stamp}
use Rattle.qu_rows.specs.State.{ReplicaState}
use Rattle.qu_trace.specs.declared.event.Event.{Event}
use Rattle.qu_trace.specs.declared.event.Event.TheVariants.{Invoke, Deliver, Tick, Inject}
use Rattle.qu_trace.specs.declared.trace.Entry.{Entry}
use Rattle.qu_trace.specs.declared.trace.Setup.{Setup}
use Rattle.qu_trace.specs.declared.trace.Trace.{Trace}
use Rattle.qu_world.specs.State.{letter_of, ring_of}
use Rattle.qu_world.specs.Run.{IsRun}
use Rattle.qu_claims.specs.Handled.{Request, is_of_setup, request_to, request_by, handled_by, IsHandled, IsMadeFor, request_brought}
use Rattle.qu_claims.specs.Grounds.{Accepts, IsDelivered, Performs}
use Rattle.qu_claims.specs.Parts.{Names}
use Rattle.qu_claims.specs.Times.{world_after}
use Rattle.qu_runs.proofs.Worlds.OpeningReplicas.{all_replicas, keys_are, me_is}
use Rattle.qu_accepts.proofs.KnownObjects.{delivered_known}
use Rattle.qu_claims.specs.Handling.{Handles}
use Rattle.qu_accepts.proofs.Handling.{same_culled}
use Rattle.qu_runs.proofs.Events.Recording.{letter_stays}
use Rattle.qu_claims.specs.Carried.{Brings, handed}
use Rattle.qu_frames.specs.Signing.{brought}
use Rattle.qu_seal.specs.Keys.{Ring}
use Rattle.qu_base.specs.declared.party.ReplicaId.{ReplicaId}
use Rattle.qu_runs.proofs.Events.Handing.{hand}
use Rattle.qu_frames.specs.declared.frame.Body.{Body}

-- ---- what is accepted was handled

-- the request that an event hands to a replica
request_of_letter : (trace : Trace) → IsRun trace → (time : ℕ) → time ≤ length trace.entries
    → (number : ℕ) (to : Party) (text : List ℕ) (found : Option Letter)
    → letter_of (world_after trace time) number ≡ found → option_map hand found ≡ Some (to, text)
    → handled_by trace (Deliver number) ≡ request_to trace.setup text to
request_of_letter trace is_run time within number to text None sent given = absurd (none-some (to, text) given)
request_of_letter trace is_run time within number to text (Some letter) sent given =
    ap (request_by trace.setup) (letter_stays trace is_run time within number letter sent) ∙
    ap (λ (it : Party × List ℕ). request_to trace.setup it.1 it.0) (same_Some (letter.to, letter.text) (to, text) given)

request_offered : (trace : Trace) → IsRun trace → (time : ℕ) → time ≤ length trace.entries
    → (event : Event) (to : Party) (text : List ℕ) → offered (world_after trace time) event ≡ Some (to, text)
    → handled_by trace event ≡ request_to trace.setup text to
request_offered trace is_run time within (Invoke client op) to text none = absurd (none-some (to, text) none)
request_offered trace is_run time within (Deliver number) to text hands =
    request_of_letter trace is_run time within number to text (letter_of (world_after trace time) number) refl hands
request_offered trace is_run time within (Tick client) to text none = absurd (none-some (to, text) none)
request_offered trace is_run time within (Inject who other) to text hands =
    ap (λ (it : Party × List ℕ). request_to trace.setup it.1 it.0) (same_Some (who, other) (to, text) hands)

-- what is handed to a replica is handed to a correct one
pub handler_at : (trace : Trace) (time : ℕ) (event : Event) (place : ℕ) (old : ReplicaState)
    → slice_get (world_after trace time).replicas place ≡ Some old → (text : List ℕ)
    → handed (world_after trace time) event ≡ Some (party.Replica (record { 0 = place }), text)
    → is_handler trace.setup (record { 0 = place }) ≡ true
handler_at trace time event place old is_old text hands =
    let there : place < length (world_after trace time).replicas =
    slice_get_within (world_after trace time).replicas place old is_old in
    let all : length (world_after trace time).replicas ≡ replicas trace.setup.bounds = all_replicas trace time in
    let among : nat_lt place (replicas trace.setup.bounds) ≡ true = lt-ltb _ _ (omega (arith, there, all)) in
    let correct : is_faulty trace.setup (party.Replica (record { 0 = place })) ≡ false =
    ap (λ (setup : Setup). is_faulty setup (party.Replica (record { 0 = place }))) (sym (setup_after trace time))
    ∙ handed_correct (world_after trace time) event (party.Replica (record { 0 = place })) text hands in
    and_from _ _ among (ap not correct)

-- a replica handles a request that shows it objects that it has, with its sets culled
pub request_handled : (trace : Trace) → IsRun trace → (time : ℕ) → time < length trace.entries → (event : Event)
    → (place : ℕ) (old : ReplicaState) → slice_get (world_after trace time).replicas place ≡ Some old
    → (text : List ℕ) → handed (world_after trace time) event ≡ Some (party.Replica (record { 0 = place }), text)
    → (request : Request) (round : ℕ) (sent : List SetOf) (mac : List ℕ)
    → Brings old text (frame.Request request.client request.number round sent request.body mac)
    → list_all (is_of_setup trace.setup) sent ≡ true → culled old.keys old.me sent ≡ request.sets
    → handled_by trace event ≡ Some request
request_handled trace is_run time within event place old is_old text hands request round sent mac brings known culls =
    let handles : is_handler trace.setup (record { 0 = place }) ≡ true =
    handler_at trace time event place old is_old text hands in
    request_offered trace is_run time (omega arith) event (party.Replica (record { 0 = place })) text
    (handed_offers (world_after trace time) event (party.Replica (record { 0 = place })) text hands) ∙
    ap (λ (test : Bool). cond test
    (request_brought trace.setup (record { 0 = place })
    (brought (ring_of trace.setup) (party.Replica (record { 0 = place })) text)) None) handles ∙
    ap (λ (keys : Ring). request_brought trace.setup (record { 0 = place })
    (brought keys (party.Replica (record { 0 = place })) text))
    (sym (keys_are trace time place old is_old)) ∙
    ap (λ (me : ReplicaId). request_brought trace.setup me (brought old.keys (party.Replica me) text))
    (sym (me_is trace time place old is_old)) ∙
    ap (request_brought trace.setup old.me) brings ∙
    ap (λ (test : Bool). cond test
    (Some (record request { sets = culled (ring_of trace.setup) old.me sent })) None) known ∙
    ap (λ (keys : Ring). Some (record request { sets = culled keys old.me sent }))
    (sym (keys_are trace time place old is_old)) ∙
    ap (λ (sets : List SetOf). Some (record request { sets = sets })) culls

pub handled_upon : (trace : Trace) → IsRun trace → (time : ℕ) → time < length trace.entries → (entry : Entry)
    → Contains trace.entries entry
    → (place : ℕ) (old : ReplicaState) → slice_get (world_after trace time).replicas place ≡ Some old
    → (text : List ℕ) → handed (world_after trace time) entry.event ≡ Some (party.Replica (record { 0 = place }), text)
    → (client : ClientId) (number round : ℕ) (sent : List SetOf) (parts : List (ObjectId × Method)) (mac : List ℕ)
    → Brings old text (frame.Request client number round sent (body.Act parts) mac)
    → list_all (is_of_setup trace.setup) sent ≡ true
    → IsHandled trace client number parts
handled_upon trace is_run time within entry of_trace place old is_old text hands client number round sent
    parts mac brings known =
    let sets : List SetOf = culled old.keys old.me sent in
    record {
      entry = entry;
      of_trace = of_trace;
      sets = sets;
      handled =
          request_handled trace is_run time within entry.event place old is_old text hands
          (record { client = client; number = number; sets = sets; body = body.Act parts }) round sent mac brings known
          refl;
    }

-- the request upon which a replica accepts a candidate
abbrev pub request_upon : (mid new : ReplicaState) (received : Frame) → Accepts mid new received → Request
request_upon mid new received one =
    record { client = one.client; number = one.number; sets = one.sets; body = one.asks }

module _ (trace : Trace) (is_run : IsRun trace) (at : ℕ) (below : at < length trace.entries) (place : ℕ)
    (old new : ReplicaState) (object : ObjectId) (delivered : IsDelivered trace at place old new object) where
  abbrev handles : Handles trace at place old new
  handles = delivered.handles

  abbrev one : Accepts handles.mid new handles.carried
  one = delivered.accepts

  -- what the replica keeps of the sets in culling, it kept when they came
  pub culls_so : culled (handles.receiver).keys (handles.receiver).me one.sent ≡ one.sets
  culls_so = same_culled trace at place old new handles one.sent ∙ one.culls

  -- the replica handled it at the event at which it came
  pub upon_handled : handled_by trace (handles.entry).event ≡ Some (request_upon handles.mid new handles.carried one)
  upon_handled =
      request_handled trace is_run handles.since (omega (arith, below, handles.came)) (handles.entry).event place
      handles.receiver handles.is_receiver handles.text handles.is_handed
      (request_upon handles.mid new handles.carried one) one.round one.sent one.mac
      (handles.brings ∙ ap (λ (it : Frame). Some it) one.is_request)
      (delivered_known trace at place old new object delivered) culls_so

  pub handled : (parts : List (ObjectId × Method)) → one.asks ≡ body.Act parts
      → IsHandled trace one.client one.number parts
  handled parts is_act = record {
    entry = handles.entry;
    of_trace = (
      handles.since,
      slice_get_within trace.entries handles.since handles.entry handles.is_entry,
      get_or_from_slice_get trace.entries handles.since handles.entry handles.entry handles.is_entry,
    );
    sets = one.sets;
    handled = upon_handled ∙ ap (λ (asks : Body). Some (record {
      client = one.client;
      number = one.number;
      sets = one.sets;
      body = asks;
    })) is_act;
  }

-- ---- for which act a candidate was made

-- the stamp of what an act makes is that of the act
pub made_for : (trace : Trace) (old new : ReplicaState) (client : ClientId) (number : ℕ) (sets : List SetOf)
    (parts : List (ObjectId × Method)) (candidates : ObjectId → Candidate) (object : ObjectId)
    → Performs old new (asked_of client number sets (body.Act parts)) parts candidates → Names parts object
    → (candidate : Candidate) → candidates object ≡ candidate
    → IsHandled trace client number parts → IsMadeFor trace candidate client number parts
made_for trace old new client number sets parts candidates object performs names candidate is was =
    let stamp : candidate.stamp ≡ fresh_stamp (asked_of client number sets (body.Act parts)) object =
    ap (λ (it : Candidate). it.stamp) (sym is) ∙ (performs.grounds object names).stamp in
    record {
      handled = was;
      of_client = ap (λ (it : Stamp). it.client) stamp;
      of_act = ap (λ (it : Stamp). it.act) stamp;
    }
