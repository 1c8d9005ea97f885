-- The letter of a replica that is ready for an act, in a run: it is the one letter of its event, and the client to
-- whom it is delivered is brought this reply.
use Rattle.std.proofs.Common.{◌≡◌, ℕ, ◌+◌, ◌<◌, ◌≤◌, Bool, true, false, List, [], ◌∷◌, length, get_or, map, Option, None, Some, IsTrue, refl, sym, ap, subst, ◌∙◌, cond}
use Rattle.std.specs.Prelude.{slice_get, is_none}
use Rattle.std.proofs.lemmas.Bool.{and_from, and_parts}
use Rattle.std.proofs.lemmas.Option.{get_or_from_slice_get}
use Rattle.qu_base.specs.declared.party.ClientId.{ClientId}
use Rattle.qu_base.specs.declared.party.Party.{Party}
use Rattle.qu_base.specs.declared.party.Party.TheVariants as party
use Rattle.qu_base.specs.declared.party.ReplicaId.{ReplicaId}
use Rattle.qu_seal.specs.Keys.{Ring, has_party, have_key, verifies}
use Rattle.qu_stamp.specs.declared.candidate.Candidate.{Candidate}
use Rattle.qu_history.specs.declared.sets.SetOf.{SetOf}
use Rattle.qu_history.specs.Culling.{left_out}
use Rattle.qu_history.specs.Sealing.{sealed_by}
use Rattle.qu_history.proofs.RightSeals.{none_left_out}
use Rattle.qu_objects.specs.declared.act.Method.{Method}
use Rattle.qu_objects.specs.declared.state.ObjState.{ObjState}
use Rattle.qu_objects.specs.Parts.{are_parts}
use Rattle.qu_frames.specs.declared.frame.Frame.{Frame}
use Rattle.qu_frames.specs.declared.frame.Frame.TheVariants as frame
use Rattle.qu_frames.specs.declared.frame.Letter.{Letter}
use Rattle.qu_frames.specs.declared.limits.TheConstants.{TEXT_LIMIT}
use Rattle.qu_verdicts.specs.declared.verdict.Verdict.{Verdict}
use Rattle.qu_frames.specs.Formats.{frame_form}
use Rattle.qu_frames.specs.Signing.{brought, signature, sender, is_signed}
use Rattle.qu_frames.proofs.Signed.{brought_is_signed, signed_is_spelled, signed_is_brought}
use Rattle.qu_mends.specs.declared.accepted.Accepted.{Accepted}
use Rattle.qu_rows.specs.State.{ReplicaState}
use Rattle.qu_fitting.specs.Holding.{accept_all}
use Rattle.qu_rows.specs.Rows.{unknown_in}
use Rattle.qu_waiting.specs.Waiting.{TakenRequest}
use Rattle.qu_rows.specs.Named.{named}
use Rattle.qu_replica.specs.Step.{shown, answer_frame, reply, carried_out, replica_on_received, replica_step}
use Rattle.qu_replica.specs.Growth.{Grows}
use Rattle.qu_replica.proofs.States.Accepting.{accept_all-named}
use Rattle.qu_replica.proofs.States.Growth.{accept_all-grows}
use Rattle.qu_client.specs.declared.state.ClientState.{ClientState}
use Rattle.qu_client.specs.State.{Stepped}
use Rattle.qu_client.specs.Steps.{client_on_frame, client_on_received, client_step}
use Rattle.qu_trace.specs.declared.trace.Entry.{Entry}
use Rattle.qu_trace.specs.declared.trace.Trace.{Trace}
use Rattle.qu_world.specs.State.{WorldState, ring_of, numbered}
use Rattle.qu_world.specs.Step.{world_step, at_replica}
use Rattle.qu_world.specs.Run.{IsRun}
use Rattle.qu_claims.specs.Carried.{handed, Brings}
use Rattle.qu_runs.specs.Plain.{ArePlain}
use Rattle.qu_claims.specs.Times.{world_after}
use Rattle.qu_runs.proofs.Fits.Carrying.{brings_decoded}
use Rattle.qu_runs.proofs.Events.Entries.{entry_recorded}
use Rattle.qu_runs.proofs.Fits.FitParts.{fits_parts}
use Rattle.qu_runs.proofs.Fits.Fitting.{fit_step, handed_fits}
use Rattle.qu_runs.proofs.Events.Handing.{handed_step}
use Rattle.qu_runs.proofs.Worlds.Keyed.{HasKeys, clients_keyed}
use Rattle.qu_runs.proofs.Worlds.OpeningReplicas.{keys_are, me_is}
use Rattle.qu_runs.proofs.Worlds.WorldGrowth.{world_after-next}
use Rattle.qu_known.proofs.Lengths.{reply-short}
use Rattle.qu_frames.specs.declared.frame.Body.TheVariants as body
use Rattle.qu_base.specs.declared.party.ObjectId.{ObjectId}
use Rattle.qu_quick.specs.Done.{done_verdict, IsReady, IsDoneAt}
use Rattle.qu_quick.proofs.DoneRows.{accepted_all, done_forward}

-- whoever is brought a frame shares a key with its sender, and so the other way
key_back : (ring : Ring) (me : ReplicaId) (text : List ℕ) (taken : Frame) (client : ClientId)
    → sender taken ≡ party.Client client → brought ring (party.Replica me) text ≡ Some taken
    → have_key ring (party.Replica me) (party.Client client) ≡ true
unfolding is_signed verifies
key_back ring me text taken client from brings =
    let key : have_key ring (sender taken) (party.Replica me) ≡ true =
    (and_parts _ _ (brought_is_signed ring (party.Replica me) text taken brings)).0 in
    let of_client : have_key ring (party.Client client) (party.Replica me) ≡ true =
    ap (λ (who : Party). have_key ring who (party.Replica me)) (sym from) ∙ key in
    let first = and_parts (has_party ring (party.Client client)) _ of_client in
    let second = and_parts (has_party ring (party.Replica me)) _ first.1 in
    and_from _ _ second.0 (and_from _ _ first.0 refl)

-- a reply that fits is brought to its client
pub reply_brought : (state : ReplicaState) (client : ClientId) (number round : ℕ) (sets : List SetOf)
    (verdict : Verdict)
    → frame_form.Fits (answer_frame state client number round sets verdict)
    → have_key state.keys (party.Replica state.me) (party.Client client) ≡ true
    → brought state.keys (party.Client client) (reply state client number round sets verdict).text
    ≡ Some (frame.Reply state.me client number round verdict (named state sets) (map (sealed_by state.keys)
    (shown state sets))
    (signature state.keys (party.Client client) (answer_frame state client number round sets verdict)))
reply_brought state client number round sets verdict fits key =
    let sent : Frame = answer_frame state client number round sets verdict in
    let mac : List ℕ = signature state.keys (party.Client client) sent in
    let spelled = signed_is_spelled state.keys (party.Client client) sent fits in
    signed_is_brought state.keys (party.Client client) sent fits key
    (subst (λ (text : List ℕ). length text ≤ TEXT_LIMIT) (sym spelled.1)
    (reply-short state.me client number round verdict (named state sets) (map (sealed_by state.keys)
    (shown state sets)) mac
    spelled.0))

-- a replica names none where all entries are right
names_none : (state : ReplicaState) (sets : List SetOf) → left_out state.keys state.me sets ≡ [] → named state sets ≡ []
unfolding named
names_none state sets none = by (is_none (unknown_in state sets))
  where
    by : (test : Bool) → cond test (left_out state.keys state.me sets) [] ≡ []
    by true = none
    by false = refl

module _ (trace : Trace) (is_run : IsRun trace) (have : ArePlain trace) (at : ℕ) (below : at < length trace.entries)
    (entry : Entry) (is_entry : slice_get trace.entries at ≡ Some entry) (place : ℕ) (old : ReplicaState)
    (is_old : slice_get (world_after trace at).replicas place ≡ Some old) (text : List ℕ)
    (is_handed : handed (world_after trace at) entry.event ≡ Some (party.Replica (record { 0 = place }), text)) where
  -- ---- the event

  event_is : (get_or trace.entries at entry).event ≡ entry.event
  event_is = ap (λ (it : Entry). it.event) (get_or_from_slice_get trace.entries at entry entry is_entry)

  world_is : world_after trace (at + 1)
      ≡ at_replica (world_after trace at) entry.event (record { 0 = place }) text (Some old)
  world_is =
      world_after-next trace at entry below ∙
      ap (world_step (world_after trace at)) event_is ∙
      handed_step (world_after trace at) entry.event (party.Replica (record { 0 = place })) text is_handed ∙
      ap (at_replica (world_after trace at) entry.event (record { 0 = place }) text) is_old

  -- the replica's letters are those of the entry, and its state is the next
  pub letters_are : entry.letters ≡ (replica_step old text).1
  letters_are =
      let made : Entry = record { event = entry.event; letters = (replica_step old text).1; ended = None } in
      ap (λ (it : Entry). it.letters)
      (sym (entry_recorded trace is_run at below entry made is_entry (ap (λ (it : WorldState). it.entries) world_is)))

  module _ (client : ClientId) (number round : ℕ) (sets : List SetOf) (parts : List (ObjectId × Method)) (mac : List ℕ)
      (brings : Brings old text (frame.Request client number round sets (body.Act parts) mac)) where
    abbrev asking_so : TakenRequest
    asking_so = record {
      client = client;
      number = number;
      round = round;
      sets = sets;
      body = body.Act parts;
      mac = mac;
    }

    abbrev asking : Frame
    asking = frame.Request client number round sets (body.Act parts) mac

    request_fits : frame_form.Fits asking
    request_fits =
        handed_fits trace is_run have.typed at entry below (party.Replica (record { 0 = place })) text
        (ap (handed (world_after trace at)) event_is ∙ is_handed) asking (brings_decoded old text asking brings)

    pub act_parts : IsTrue (are_parts parts)
    act_parts = fits_parts asking request_fits

    module _ (bases : ObjectId → Candidate) (versions : ObjectId → ObjState)
        (ready : IsReady old client number sets parts bases versions) where
      abbrev verdict_is : Verdict
      verdict_is = done_verdict client number sets parts versions

      accepted_here : List Accepted
      accepted_here = accepted_all old client number sets parts bases versions act_parts ready

      new : ReplicaState
      new = accept_all old accepted_here

      step_is : replica_step old text ≡ (new, reply new client number round sets verdict_is ∷ [])
      unfolding new accepted_here
      step_is =
          ap (replica_on_received old) brings ∙
          ap (carried_out old asking_so)
          (done_forward old client number sets parts bases versions act_parts ready)

      grows : Grows old new
      unfolding new
      grows = accept_all-grows old accepted_here

      answer_fits : frame_form.Fits (answer_frame new client number round sets verdict_is)
      unfolding new accepted_here
      answer_fits =
          (fit_step trace is_run have.typed at below).answers (record { 0 = place }) old is_old asking request_fits
          asking_so refl verdict_is accepted_here
          (done_forward old client number sets parts bases versions act_parts ready)

      key : have_key new.keys (party.Replica new.me) (party.Client client) ≡ true
      key =
          (λ i. have_key (grows.keys i) (party.Replica (grows.me i)) (party.Client client)) ∙
          key_back old.keys old.me text asking client refl brings

      named_none : named new sets ≡ []
      unfolding new
      named_none =
          accept_all-named old accepted_here sets ∙
          names_none old sets (none_left_out old.keys old.me sets ready.right)

      seal : List ℕ
      seal = signature new.keys (party.Client client) (answer_frame new client number round sets verdict_is)

      ring_brought : brought (ring_of trace.setup) (party.Client client)
          (reply new client number round sets verdict_is).text
          ≡ Some (frame.Reply (record { 0 = place }) client number round verdict_is [] (map (sealed_by new.keys)
          (shown new sets))
          seal)
      unfolding seal
      ring_brought =
          let ring : new.keys ≡ ring_of trace.setup = grows.keys ∙ keys_are trace at place old is_old in
          let me : new.me ≡ record { 0 = place } = grows.me ∙ me_is trace at place old is_old in
          ap (λ (it : Ring). brought it (party.Client client) (reply new client number round
          sets verdict_is).text)
          (sym ring) ∙
          reply_brought new client number round sets verdict_is answer_fits key ∙
          (λ i. Some (frame.Reply (me i) client number round verdict_is (named_none i)
          (map (sealed_by new.keys) (shown new sets)) seal))

      -- what the replica of the event does: its one letter is the reply that tells Done
      pub done_at : IsDoneAt trace at place client number round verdict_is
      unfolding accepted_here
      done_at = record {
        entry = entry;
        is_entry = is_entry;
        letter = reply new client number round sets verdict_is;
        letters = letters_are ∙ ap (λ (it : ReplicaState × List Letter). it.1) step_is;
        shown = map (sealed_by new.keys) (shown new sets);
        mac = seal;
        brings = λ count within state is_state.
            let keyed : HasKeys (ring_of trace.setup) client.0 state = clients_keyed trace count within client.0
            state is_state in
            (λ i. brought (keyed.keys_are i) (party.Client (keyed.me i)) (reply new client number round
            sets verdict_is).text) ∙
            ring_brought;
      }

abbrev heard_by : ClientState → Option Frame → Stepped
heard_by state found = client_on_received state found

-- so its client takes this reply, whenever the letter is delivered
pub reply_heard : (trace : Trace) (at place : ℕ) (client : ClientId) (number round : ℕ) (told : Verdict)
    (done : IsDoneAt trace at place client number round told) (count : ℕ) → count ≤ length trace.entries
    → (state : ClientState) → numbered (world_after trace count).clients client.0 ≡ Some state
    → client_step state (done.letter).text
    ≡ client_on_frame state (frame.Reply (record { 0 = place }) state.me number round told [] done.shown done.mac)
reply_heard trace at place client number round told done count within state is_state =
    let me : state.me ≡ client = (clients_keyed trace count within client.0 state is_state).me in
    ap (heard_by state) (done.brings count within state is_state) ∙
    ap (λ (who : ClientId). client_on_frame state (frame.Reply
    (record { 0 = place }) who number round told [] done.shown done.mac))
    (sym me)
