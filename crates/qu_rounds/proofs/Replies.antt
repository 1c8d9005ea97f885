-- Replies are sent by replicas, and what is delivered was sent before.
use Rattle.std.proofs.Common.{◌≡◌, ℕ, zero, suc, ◌+◌, ◌-◌, ◌<◌, ◌≤◌, List, [], ◌∷◌, length, take, Some, refl, sym, ap, subst, ◌∙◌, arith, inl, inr, slice_get, All, Contains, None, Option}
use Rattle.std.specs.List.{AllZip}
use Rattle.std.proofs.lemmas.Bool.{cases_lt}
use Rattle.std.proofs.lemmas.List.Elements.{All-nil}
use Rattle.std.proofs.lemmas.Option.{none-some, same_Some, slice_get_within, get_or_from_slice_get}
use Rattle.qu_base.specs.declared.party.ClientId.{ClientId}
use Rattle.qu_base.specs.declared.party.Party.TheVariants as party
use Rattle.qu_base.specs.declared.party.ReplicaId.{ReplicaId}
use Rattle.qu_base.specs.Bounds.{replicas}
use Rattle.qu_history.specs.declared.sets.SetOf.{SetOf}
use Rattle.qu_objects.specs.declared.kind.KindName.{KindName}
use Rattle.qu_frames.specs.declared.frame.Frame.{Frame}
use Rattle.qu_frames.specs.declared.frame.Frame.TheVariants as frame
use Rattle.qu_frames.specs.declared.frame.Letter.{Letter}
use Rattle.qu_verdicts.specs.declared.verdict.Verdict.{Verdict}
use Rattle.qu_rows.specs.State.{ReplicaState}
use Rattle.qu_fitting.specs.Holding.{accept_all}
use Rattle.qu_replica.specs.Growth.{Grows}
use Rattle.qu_replica.specs.Step.{answer_frame, reply, learned, replica_on_frame, replica_on_received}
use Rattle.qu_replica.proofs.States.Growth.{accept_all-me}
use Rattle.qu_replica.proofs.States.Learning.{is_learned}
use Rattle.qu_client.specs.declared.state.ClientState.{ClientState}
use Rattle.qu_client.specs.declared.work.Work.{Work}
use Rattle.qu_client.specs.declared.whom.Whom.{Whom}
use Rattle.qu_client.specs.Rounds.{request_of, requests}
use Rattle.qu_client.proofs.Sent.{all_letters}
use Rattle.qu_runs.proofs.Fits.ClientLetters.{step_sends, tick_sends, invoke_sends}
use Rattle.qu_trace.specs.declared.trace.Entry.{Entry}
use Rattle.qu_trace.specs.declared.trace.Trace.{Trace}
use Rattle.qu_trace.specs.Letters.{letters_of}
use Rattle.qu_world.specs.State.{WorldState, opening_world, opening_replicas, numbered, letter_of, kinds_at, ring_of}
use Rattle.qu_world.specs.Growth.{GrowsTo}
use Rattle.qu_world.specs.Run.{IsRun}
use Rattle.qu_trace.proofs.LetterLaws.{slice_get-append_left, slice_get-append_right}
use Rattle.qu_claims.specs.Times.{world_after}
use Rattle.qu_runs.proofs.Worlds.WorldGrowth.{world_after-none, world_after-grows}
use Rattle.qu_runs.proofs.Events.Recording.{entries_after, entry_cases}
use Rattle.qu_claims.specs.Carried.{Tells}
use Rattle.qu_frames.specs.Formats.{frame_form}
use Rattle.qu_runs.specs.Plain.{ArePlain}
use Rattle.qu_history.specs.declared.sealed.Sealed.{Sealed}
use Rattle.qu_runs.proofs.Fits.Carrying.{AnswersFit, no_reply, signed_spelled, signed_carries, brings_decoded}
use Rattle.qu_runs.proofs.Fits.StepLetters.{on_frame_all, no_reply_in}
use Rattle.qu_runs.proofs.Fits.Fitting.{fit_step, from_fits}
use Rattle.qu_frames.specs.Signing.{brought, signed, signature, with_mac}
use Rattle.qu_seal.specs.Keys.{Ring}
use Rattle.qu_fitting.proofs.FitRequests.{blank_sized}
use Rattle.qu_base.specs.declared.party.Party.{Party}

-- ---- the names of replicas

replica_name : (number count : ℕ) (keys : Ring) (kinds : ℕ → List KindName) (news : List ReplicaState)
    → AllZip Grows (opening_replicas number count keys kinds) news → (place : ℕ) (state : ReplicaState)
    → slice_get news place ≡ Some state → (state.me).0 < number + count
unfolding opening_replicas
replica_name number zero keys kinds [] grows place state found = absurd (none-some state found)
replica_name number zero keys kinds (new ∷ news) grows place state found = absurd grows
replica_name number (suc count) keys kinds [] grows place state found = absurd grows
replica_name number (suc count) keys kinds (new ∷ news) grows zero state found =
    let same : new ≡ state = same_Some new state found in
    let name : (state.me).0 ≡ number = ap (λ (it : ReplicaState). (it.me).0) (sym same)
    ∙ ap (λ (it : ReplicaId). it.0) grows.0.me in
    omega arith
replica_name number (suc count) keys kinds (new ∷ news) grows (suc place) state found =
    let below : (state.me).0 < (number + 1) + count =
    replica_name (number + 1) count keys kinds news grows.1 place state found in
    omega arith

-- a replica's name is below the number of replicas
replica_within : (trace : Trace) (index place : ℕ) (state : ReplicaState)
    → slice_get (world_after trace index).replicas place ≡ Some state → (state.me).0 < replicas trace.setup.bounds
replica_within trace index place state found =
    let grows : GrowsTo (opening_world trace.setup) (world_after trace index) =
    subst (λ (world : WorldState). GrowsTo world (world_after trace index)) (world_after-none trace)
    (world_after-grows trace 0 index (omega arith)) in
    let below : (state.me).0 < 0 + replicas trace.setup.bounds =
    replica_name 0 (replicas trace.setup.bounds) (ring_of trace.setup) (kinds_at trace.setup)
    (world_after trace index).replicas grows.replicas place state found in
    omega arith

-- ---- who sends replies

-- a reply is from the replica that it names, which is below this bound
abbrev pub RepliesWithin : ℕ → Letter → Type 0
RepliesWithin bound letter =
    (replica : ReplicaId) (client : ClientId) (number round : ℕ) (verdict : Verdict) (shown : List Sealed)
    → Tells letter replica client number round verdict shown
    → (replica.0 < bound) × (letter.from ≡ party.Replica replica)

by_replica : (bound : ℕ) (state : ReplicaState) (client : ClientId) (number round : ℕ) (sets : List SetOf)
    (verdict : Verdict) → frame_form.Fits (answer_frame state client number round sets verdict)
    → (state.me).0 < bound → RepliesWithin bound (reply state client number round sets verdict)
by_replica bound state client number round sets verdict fits below = λ replica to asked turn told shown tells.
    let sent : Frame = answer_frame state client number round sets verdict in
    let is : frame.Reply replica to asked turn told tells.culled shown tells.mac ≡ with_mac sent
    (signature state.keys (party.Client client) sent) =
    signed_carries (reply state client number round sets verdict) state.keys (party.Client client) sent _ fits refl
    tells.carries in
    let named : replica ≡ state.me = cc in (
      subst (λ (it : ReplicaId). it.0 < bound) (sym named) below,
      ap (λ (it : ReplicaId). party.Replica it) (sym named),
    )

frame_replies : (bound : ℕ) (state : ReplicaState) (received : Frame) → AnswersFit state received
    → (state.me).0 < bound → All (RepliesWithin bound) (replica_on_frame state received).1
frame_replies bound state received fits below =
    let mid : ReplicaState = learned state received in
    on_frame_all (RepliesWithin bound)
    (λ letter other replica client number round verdict shown tells.
    absurd (no_reply_in letter other replica client number round verdict shown tells)) state received
    (λ request handles verdict accepted decides.
    by_replica bound (accept_all mid accepted) request.client request.number request.round request.sets verdict
    (fits request handles verdict accepted decides)
    (subst (λ (it : ReplicaId). it.0 < bound)
    (sym (accept_all-me mid accepted ∙ (is_learned state received).me)) below))

brought_replies : (bound : ℕ) (state : ReplicaState) (found : Option Frame)
    → ((sent : Frame) → found ≡ Some sent → AnswersFit state sent) → (state.me).0 < bound
    → All (RepliesWithin bound) (replica_on_received state found).1
brought_replies bound state (Some taken) fits below = frame_replies bound state taken (fits taken refl) below
brought_replies bound state None fits below = All-nil (RepliesWithin bound)

-- requests are no replies
asked_replies : (bound : ℕ) (state : ClientState) (work : Work) (whom : Whom)
    → All (RepliesWithin bound) (requests state.keys state.me work whom)
asked_replies bound state work whom =
    let sent : Frame = request_of state.me work in
    all_letters state.keys state.me work whom (RepliesWithin bound) (replicas state.keys.bounds) 0
    (λ replica below asked from client number round verdict shown tells.
    let to : Party = party.Replica (record { 0 = replica }) in
    absurd (no_reply (record { from = party.Client state.me; to = to; text = signed state.keys to sent })
    state.me work.number work.round work.sets work.body (signature state.keys to sent)
    (signed_spelled state.keys to sent blank_sized) from client number round verdict shown tells))

-- each reply among a run's letters is from one of its replicas
pub replies_within : (trace : Trace) → IsRun trace → ArePlain trace → (index : ℕ) (entry : Entry)
    → slice_get trace.entries index ≡ Some entry → All (RepliesWithin (replicas trace.setup.bounds)) entry.letters
replies_within trace is have index entry is_entry =
    let bound : ℕ = replicas trace.setup.bounds in
    let below : index < length trace.entries = slice_get_within trace.entries index entry is_entry in
    let none : All (RepliesWithin bound) [] = All-nil (RepliesWithin bound) in
    entry_cases trace is have index entry is_entry (λ (made : Entry). All (RepliesWithin bound) made.letters)
    (λ event. none)
    (λ event text me state from hands found.
    brought_replies bound state (brought state.keys (party.Replica state.me) text)
    (λ taken brings. (fit_step trace is have.typed index below).answers me state found taken
    (from_fits trace is have.typed index (omega arith) (party.Replica me) text from taken
    (brings_decoded state text taken brings)))
    (replica_within trace index me.0 state found))
    (λ client op state found. invoke_sends state (All (RepliesWithin bound)) none (asked_replies bound state) op)
    (λ event text client state from hands found.
    step_sends state (All (RepliesWithin bound)) none (asked_replies bound state) text)
    (λ client state found. tick_sends state (All (RepliesWithin bound)) none (asked_replies bound state))

-- ---- where a letter was sent

-- the letter is among those of the entry with this index
pub record SentAt (entries : List Entry) (letter : Letter) (at : ℕ) : Type 0 where
  pub entry : Entry
  pub is_entry : slice_get entries at ≡ Some entry
  pub sent : Contains entry.letters letter

pub record SentIn (entries : List Entry) (letter : Letter) : Type 0 where
  pub at : ℕ
  pub there : SentAt entries letter at

sent_later : (first : Entry) (later : List Entry) (letter : Letter) → SentIn later letter
    → SentIn (first ∷ later) letter
sent_later first later letter sent =
    record {
      at = suc sent.at;
      there = record {
        entry = sent.there.entry;
        is_entry = sent.there.is_entry;
        sent = sent.there.sent;
      };
    }

sent_in : (entries : List Entry) (place : ℕ) (letter : Letter) → slice_get (letters_of entries) place ≡ Some
    letter → SentIn entries letter
unfolding letters_of
sent_in [] place letter found = absurd (none-some letter found)
sent_in (entry ∷ later) place letter found =
    elim (cases_lt place (length entry.letters)) [
      | inl here ↦
          let at : slice_get entry.letters place ≡ Some letter =
          sym (slice_get-append_left entry.letters (letters_of later) place here) ∙ found in
          record {
            at = 0;
            there = record {
              entry = entry;
              is_entry = refl;
              sent = (place, here, get_or_from_slice_get entry.letters place letter letter at);
            };
          }
      | inr past ↦
          let rest : ℕ = place - length entry.letters in
          sent_later entry later letter
          (sent_in later rest letter
          (sym (slice_get-append_right entry.letters (letters_of later) place rest (omega arith)) ∙ found))
    ]

sent_numbered : (entries : List Entry) (number : ℕ) (letter : Letter)
    → numbered (letters_of entries) number ≡ Some letter → SentIn entries letter
sent_numbered entries zero letter found = absurd (none-some letter found)
sent_numbered entries (suc place) letter found = sent_in entries place letter found

-- an entry of the first so many
taken_get : {X : Type 0} (count : ℕ) (items : List X) (index : ℕ) (item : X)
    → slice_get (take count items) index ≡ Some item → (index < count) × (slice_get items index ≡ Some item)
taken_get zero items index item found = absurd (none-some item found)
taken_get (suc count) [] index item found = absurd (none-some item found)
taken_get (suc count) (first ∷ later) zero item found = (omega arith, found)
taken_get (suc count) (first ∷ later) (suc index) item found =
    let below : (index < count) × (slice_get later index ≡ Some item) = taken_get count later index item found in
    (omega (arith, below.0), below.1)

-- a letter that may be delivered was sent before
pub record SentBefore (trace : Trace) (before : ℕ) (letter : Letter) : Type 0 where
  pub at : ℕ
  pub earlier : at < before
  pub there : SentAt trace.entries letter at

sent_taken : (trace : Trace) (before : ℕ) (letter : Letter) → SentIn (take before trace.entries) letter
    → SentBefore trace before letter
sent_taken trace before letter sent =
    let found : (sent.at < before) × (slice_get trace.entries sent.at ≡ Some sent.there.entry) =
    taken_get before trace.entries sent.at sent.there.entry sent.there.is_entry in
    record {
      at = sent.at;
      earlier = found.0;
      there = record { entry = sent.there.entry; is_entry = found.1; sent = sent.there.sent };
    }

pub sent_before : (trace : Trace) → IsRun trace → (index : ℕ) → index ≤ length trace.entries
    → (number : ℕ) (letter : Letter) → letter_of (world_after trace index) number ≡ Some letter
    → SentBefore trace index letter
sent_before trace is index within number letter found =
    sent_taken trace index letter
    (sent_numbered (take index trace.entries) number letter
    (ap (λ (entries : List Entry). numbered (letters_of entries) number)
    (sym (entries_after trace is index within)) ∙ found))

-- ---- numbers of letters stay
