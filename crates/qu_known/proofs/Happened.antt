-- What an event of a world does to its replicas: nothing, and then nobody sends a reply; or one replica takes a text.
use Rattle.std.proofs.Common.{◌≡◌, ◌⊎◌, ℕ, zero, suc, ◌+◌, List, [], ◌∷◌, ◌++◌, Option, None, Some, Result, Ok, inl, inr, refl, sym, ap, ◌∙◌}
use Rattle.std.specs.Prelude.{option_map, slice_get, slice_set}
use Rattle.std.specs.List.{AllByRecursion, cons_option, filter_map}
use Rattle.std.proofs.lemmas.Bool.{cond_both}
use Rattle.qu_base.specs.declared.party.ClientId.{ClientId}
use Rattle.qu_base.specs.declared.party.Party.{Party}
use Rattle.qu_base.specs.declared.party.Party.TheVariants as party
use Rattle.qu_base.specs.declared.party.ReplicaId.{ReplicaId}
use Rattle.qu_base.specs.Bounds.{replicas}
use Rattle.qu_base.specs.declared.bad_text.BadText.{BadText}
use Rattle.qu_base.specs.declared.party.ObjectId.{ObjectId}
use Rattle.qu_seal.specs.Keys.{Ring}
use Rattle.qu_history.specs.declared.sealed.Sealed.{Sealed}
use Rattle.qu_frames.specs.declared.frame.Letter.{Letter}
use Rattle.qu_frames.specs.declared.frame.Frame.{Frame}
use Rattle.qu_frames.specs.declared.frame.Frame.TheVariants as frame
use Rattle.qu_verdicts.specs.declared.verdict.Verdict.{Verdict}
use Rattle.qu_frames.specs.Decoding.{decoded}
use Rattle.qu_frames.specs.Signing.{brought, signature, signed}
use Rattle.qu_rows.specs.State.{ReplicaState}
use Rattle.qu_replica.specs.Step.{replica_step, replica_on_frame, replica_on_received}
use Rattle.qu_fitting.proofs.FitRequests.{blank_sized}
use Rattle.qu_client.specs.declared.state.ClientState.{ClientState}
use Rattle.qu_client.specs.State.{Stepped}
use Rattle.qu_client.specs.declared.work.Work.{Work}
use Rattle.qu_client.specs.declared.whom.Whom.{Whom}
use Rattle.qu_client.specs.Whom.{is_asked}
use Rattle.qu_client.specs.Rounds.{requests_from, requests, request_of}
use Rattle.qu_client.specs.Steps.{client_invoke, client_step, client_tick}
use Rattle.qu_runs.proofs.Fits.ClientLetters.{step_sends, tick_sends, invoke_sends}
use Rattle.qu_trace.specs.declared.event.Event.{Event}
use Rattle.qu_trace.specs.declared.event.Event.TheVariants.{Invoke, Deliver, Tick, Inject}
use Rattle.qu_trace.specs.declared.trace.Entry.{Entry}
use Rattle.qu_world.specs.State.{WorldState, numbered, letter_of}
use Rattle.qu_world.specs.Step.{world_step, unchanged, at_replica, at_client, received, delivered}
use Rattle.qu_world.proofs.Steps.{step_cases}
use Rattle.qu_runs.proofs.Events.Handing.{hand}
use Rattle.qu_claims.specs.Carried.{offered}
use Rattle.qu_runs.proofs.Fits.Carrying.{no_reply, signed_spelled}
use Rattle.qu_runs.proofs.Fits.StepLetters.{CarriesOther, on_frame_each, no_reply_in}
use Rattle.qu_known.specs.declared.answers.Answered.{Answered}
use Rattle.qu_known.specs.Answers.{round_answered, letter_answered, answered_from, letter_told, rounds_told}
use Rattle.qu_known.specs.Known.{Seen, see_letters}

-- no other letters than those of replicas answer
abbrev pub ReplicasAnswer : List Letter → Type 0
ReplicasAnswer letters = rounds_told letters ≡ filter_map letter_answered letters

-- the letters tell nothing of replicas, and answer nothing
abbrev pub TellNothing : List Letter → Type 0
TellNothing letters = ((seen : Seen) → see_letters letters seen ≡ seen) × ReplicasAnswer letters

-- the replicas stay as they are, and nothing is told of them
pub record IsQuiet (old new : WorldState) (entry : Entry) : Type 0 where
  pub replicas : new.replicas ≡ old.replicas
  pub nothing : (seen : Seen) → see_letters entry.letters seen ≡ seen

-- a replica takes a text, and the letters are what it sends
pub record IsTaken (old : WorldState) (event : Event) (new : WorldState) (entry : Entry) : Type 0 where
  pub me : ReplicaId
  pub text : List ℕ
  pub offers : offered old event ≡ Some (party.Replica me, text)
  pub state : ReplicaState
  pub is_state : slice_get old.replicas me.0 ≡ Some state
  pub replicas : new.replicas ≡ slice_set old.replicas me.0 (replica_step state text).0
  pub letters : entry.letters ≡ (replica_step state text).1

-- what an event records, and what it does
pub record Happens (old : WorldState) (event : Event) (new : WorldState) : Type 0 where
  pub entry : Entry
  pub made : new.entries ≡ old.entries ++ entry ∷ []
  pub answers : ReplicasAnswer entry.letters
  pub does : IsQuiet old new entry ⊎ IsTaken old event new entry

-- ---- clients

no_answer : (read : Result Frame BadText)
    → ((replica : ReplicaId) (client : ClientId) (number round : ℕ) (verdict : Verdict)
    (culled : List (ObjectId × ReplicaId)) (shown : List Sealed) (mac : List ℕ)
    → read ≡ Ok (frame.Reply replica client number round verdict culled shown mac) → ⊥)
    → round_answered read ≡ None
no_answer (Ok (frame.Reply replica client number round verdict culled shown mac)) none =
    absurd (none replica client number round verdict culled shown mac refl)
no_answer _ none = refl

request_answers : (keys : Ring) (to : Party) (me : ClientId) (work : Work)
    → round_answered (decoded (signed keys to (request_of me work))) ≡ None
request_answers keys to me work =
    let sent : Frame = request_of me work in
    let letter : Letter = record { from = party.Client me; to = to; text = signed keys to sent } in
    no_answer (decoded (signed keys to sent)) (λ replica client number round verdict culled shown mac carries.
    no_reply letter me work.number work.round work.sets work.body (signature keys to sent)
    (signed_spelled keys to sent blank_sized) replica client number round verdict shown
    (record { culled = culled; mac = mac; carries = carries }))

requests_tell : (keys : Ring) (replica count : ℕ) (me : ClientId) (work : Work) (whom : Whom)
    → TellNothing (requests_from keys replica count me work whom)
unfolding requests_from see_letters rounds_told
requests_tell keys replica zero me work whom = ((λ seen. refl), refl)
requests_tell keys replica (suc count) me work whom =
    let rest : List Letter = requests_from keys (replica + 1) count me work whom in
    let later : TellNothing rest = requests_tell keys (replica + 1) count me work whom in
    cond_both (is_asked keys.bounds whom replica) _ _ TellNothing
    (λ _. (
      (λ seen. later.0 seen),
      later.1
          ∙ ap (λ (found : Option Answered). cons_option found (filter_map letter_answered rest))
          (sym (request_answers keys (party.Replica (record { 0 = replica })) me work)),
    ))
    (λ _. later)

pub none_tells : TellNothing []
unfolding see_letters rounds_told
none_tells = ((λ seen. refl), refl)

-- the letters of a client
asked_tells : (state : ClientState) (work : Work) (whom : Whom)
    → TellNothing (requests state.keys state.me work whom)
asked_tells state = requests_tell state.keys 0 (replicas state.keys.bounds) state.me

-- ---- replicas

-- the letter tells as much of answers as any letter that carries the same
abbrev TellsAnswers : Letter → Type 0
TellsAnswers letter = letter_told letter ≡ letter_answered letter

told_alike : (letters : List Letter) → AllByRecursion TellsAnswers letters → ReplicasAnswer letters
unfolding rounds_told
told_alike [] each = refl
told_alike (letter ∷ later) each = λ i. cons_option (each.0 i) (told_alike later each.1 i)

-- a letter that carries no reply tells nothing, whoever sends it
other_answers : (letter : Letter) → CarriesOther letter → TellsAnswers letter
other_answers letter other =
    let none : round_answered (decoded letter.text) ≡ None =
    no_answer (decoded letter.text) (λ replica client number round verdict culled shown mac carries.
    no_reply_in letter other replica client number round verdict shown
    (record { culled = culled; mac = mac; carries = carries })) in
    by_sender letter.from none
  where
    by_sender : (from : Party) → round_answered (decoded letter.text) ≡ None
        → answered_from from (decoded letter.text) ≡ round_answered (decoded letter.text)
    by_sender (party.Replica me) none = refl
    by_sender (party.Client me) none = sym none

received_answers : (state : ReplicaState) (found : Option Frame) → ReplicasAnswer (replica_on_received state found).1
received_answers state None = none_tells.1
received_answers state (Some taken) =
    told_alike (replica_on_frame state taken).1
    (on_frame_each TellsAnswers other_answers state taken (λ request handles verdict accepted decides. refl))

step_answers : (state : ReplicaState) (text : List ℕ) → ReplicasAnswer (replica_step state text).1
step_answers state text = received_answers state (brought state.keys (party.Replica state.me) text)

-- ---- events

unchanged_happens : (world : WorldState) (event : Event) → Happens world event (unchanged world event)
unchanged_happens world event = record {
  entry = record { event = event; letters = []; ended = None };
  made = refl;
  answers = none_tells.1;
  does = inl (record { replicas = refl; nothing = none_tells.0 });
}

client_happens : (world : WorldState) (event : Event) (me : ClientId) (move : ClientState → Stepped)
    (found : Option ClientState) → ((state : ClientState) → TellNothing (move state).letters)
    → Happens world event (at_client world event me move found)
client_happens world event me move None tells = unchanged_happens world event
client_happens world event me move (Some state) tells =
    record {
      entry = _;
      made = refl;
      answers = (tells state).1;
      does = inl (record { replicas = refl; nothing = (tells state).0 });
    }

replica_happens : (world : WorldState) (event : Event) (me : ReplicaId) (text : List ℕ) (found : Option ReplicaState)
    → offered world event ≡ Some (party.Replica me, text) → slice_get world.replicas me.0 ≡ found
    → Happens world event (at_replica world event me text found)
replica_happens world event me text None offers is = unchanged_happens world event
replica_happens world event me text (Some state) offers is = record {
  entry = _;
  made = refl;
  answers = step_answers state text;
  does = inr (record {
    me = me;
    text = text;
    offers = offers;
    state = state;
    is_state = is;
    replicas = refl;
    letters = refl;
  });
}

received_happens : (world : WorldState) (event : Event) (to : Party) (text : List ℕ)
    → offered world event ≡ Some (to, text) → Happens world event (received world event to text)
received_happens world event (party.Replica me) text offers =
    replica_happens world event me text (slice_get world.replicas me.0) offers refl
received_happens world event (party.Client me) text offers =
    client_happens world event me (λ (state : ClientState). client_step state text)
    (numbered world.clients me.0)
    (λ state. step_sends state TellNothing none_tells (asked_tells state) text)

delivered_happens : (world : WorldState) (number : ℕ) (found : Option Letter) → letter_of world number ≡ found
    → Happens world (Deliver number) (delivered world (Deliver number) found)
delivered_happens world number None is = unchanged_happens world (Deliver number)
delivered_happens world number (Some letter) is =
    received_happens world (Deliver number) letter.to letter.text (ap (option_map hand) is)

pub happens : (world : WorldState) (event : Event) → Happens world event (world_step world event)
happens world (Invoke client op) =
    step_cases (Happens world (Invoke client op)) world (Invoke client op)
    (unchanged_happens world (Invoke client op)) (λ correct.
    client_happens world (Invoke client op) client (λ (state : ClientState). client_invoke state op)
    (numbered world.clients client.0)
    (λ state. invoke_sends state TellNothing none_tells (asked_tells state) op))
happens world (Deliver number) =
    step_cases (Happens world (Deliver number)) world (Deliver number) (unchanged_happens world (Deliver number))
    (λ correct. delivered_happens world number (letter_of world number) refl)
happens world (Tick client) =
    step_cases (Happens world (Tick client)) world (Tick client) (unchanged_happens world (Tick client)) (λ correct.
    client_happens world (Tick client) client client_tick (numbered world.clients client.0)
    (λ state. tick_sends state TellNothing none_tells (asked_tells state)))
happens world (Inject to text) =
    step_cases (Happens world (Inject to text)) world (Inject to text) (unchanged_happens world (Inject to text))
    (λ correct. received_happens world (Inject to text) to text refl)
