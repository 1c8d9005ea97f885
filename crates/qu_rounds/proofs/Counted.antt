-- The verdicts of correct replicas that a client counts were sent by them, to the round that is under way.
use Rattle.std.proofs.Common.{◌≡◌, ◌≢◌, ℕ, zero, suc, ◌+◌, ◌<◌, ◌≤◌, true, false, eqb, List, length, get_or, Option, None, Some, IfSome, refl, sym, ap, subst, ◌∙◌, arith, inl, inr, add-one, slice_get, All, AllPairs, Contains, Ok, not, []}
use Rattle.std.specs.List.{list_any}
use Rattle.std.proofs.lemmas.Bool.{not-true, and_parts, eqb-true, cond_both, ltb-true, false≢true}
use Rattle.std.proofs.lemmas.List.Elements.{All-nil, All-push, All-weaker, All-contains}
use Rattle.std.proofs.lemmas.List.Quantifiers.{all_pairs_push}
use Rattle.std.proofs.lemmas.Option.{none-some}
use Rattle.qu_base.specs.declared.party.ClientId.{ClientId}
use Rattle.qu_base.specs.declared.party.ReplicaId.{ReplicaId}
use Rattle.qu_base.specs.Bounds.{replicas}
use Rattle.qu_objects.specs.declared.op.Op.{Op}
use Rattle.qu_frames.specs.declared.frame.Frame.{Frame}
use Rattle.qu_frames.specs.declared.frame.Frame.TheVariants as frame
use Rattle.qu_frames.specs.declared.frame.Letter.{Letter}
use Rattle.qu_verdicts.specs.declared.verdict.Verdict.{Verdict}
use Rattle.qu_client.specs.declared.state.ClientState.{ClientState}
use Rattle.qu_client.specs.State.{Stepped}
use Rattle.qu_client.specs.declared.work.Counted.{Counted}
use Rattle.qu_client.specs.declared.work.Work.{Work}
use Rattle.qu_client.specs.State.{client_at_start}
use Rattle.qu_question.specs.Kept.{keep_all}
use Rattle.qu_client.specs.Work.{is_asking, counts, with_verdict}
use Rattle.qu_client.specs.Steps.{client_on_frame, client_on_received, client_step, client_invoke, client_tick, next_round, ends_round}
use Rattle.qu_client.specs.Sound.{IsSound}
use Rattle.qu_rounds.proofs.Ticking.{clock_cases}
use Rattle.qu_client.proofs.Cases.{counted_cases, next_cases, ended_cases, invoke_cases}
use Rattle.qu_client.proofs.Laws.{client_step-me, client_step-bounds, client_tick-me, client_tick-bounds, client_invoke-me, client_invoke-bounds, IsSound-opening, IsSound-step, IsSound-tick, IsSound-invoke, other_replica}
use Rattle.qu_trace.specs.declared.event.Event.{Event}
use Rattle.qu_trace.specs.declared.trace.Entry.{Entry}
use Rattle.qu_trace.specs.declared.trace.Trace.{Trace}
use Rattle.qu_world.specs.State.{WorldState, opening_world, numbered, with_numbered, ring_of}
use Rattle.qu_world.specs.Step.{world_step}
use Rattle.qu_world.specs.Run.{IsRun}
use Rattle.qu_claims.specs.Times.{world_after}
use Rattle.qu_runs.proofs.Worlds.WorldGrowth.{world_after-none, world_after-next}
use Rattle.qu_runs.proofs.Events.Recording.{world_cases}
use Rattle.qu_rounds.proofs.Replies.{RepliesWithin, replies_within, SentBefore, sent_before}
use Rattle.qu_runs.proofs.Worlds.Keyed.{opening_client}
use Rattle.qu_runs.proofs.Small.{some_entry}
use Rattle.qu_world.proofs.Each.{with_cases}
use Rattle.qu_claims.specs.Carried.{Tells}
use Rattle.qu_runs.specs.Plain.{IsPlain, ArePlain, IsFrom, IsOfFaulty}
use Rattle.qu_history.specs.declared.sealed.Sealed.{Sealed}
use Rattle.qu_frames.specs.Signing.{brought, sender}
use Rattle.qu_frames.proofs.Signed.{brought_is_decoded, sender_known}
use Rattle.qu_frames.proofs.Decoded.{one_decoded}
use Rattle.qu_base.specs.declared.party.Party.TheVariants as party
use Rattle.qu_base.specs.declared.party.ObjectId.{ObjectId}
use Rattle.qu_trace.specs.Faulty.{is_good, is_faulty}
use Rattle.qu_frames.specs.Decoding.{decoded}
use Rattle.qu_seal.specs.Keys.{has_party}
use Rattle.qu_base.proofs.Numbered.{client_is}
use Rattle.std.specs.Prelude.{nat_lt}
use Rattle.qu_trace.specs.declared.trace.Setup.{Setup}
use Rattle.qu_runs.proofs.Digests.Plain.{setup_after}

-- the verdict was sent by its replica to this round, before the event of the entry with this index
pub record WasTold (trace : Trace) (before : ℕ) (client : ClientId) (number round : ℕ)
    (counted : Counted) : Type 0 where
  pub at : ℕ
  pub earlier : at < before
  pub entry : Entry
  pub is_entry : slice_get trace.entries at ≡ Some entry
  pub letter : Letter
  pub sent : Contains entry.letters letter
  pub from_is : letter.from ≡ party.Replica counted.replica
  pub shown : List Sealed
  pub is_reply : Tells letter counted.replica client number round counted.verdict shown

-- so it was, if its replica is correct
pub record WasAnswered (trace : Trace) (before : ℕ) (client : ClientId) (number round : ℕ)
    (counted : Counted) : Type 0 where
  pub within : (counted.replica).0 < replicas trace.setup.bounds
  pub told : is_good trace.setup (counted.replica).0 ≡ true → WasTold trace before client number round counted

answered_more : (trace : Trace) (before : ℕ) (client : ClientId) (number round : ℕ) (counted : Counted)
    → WasAnswered trace before client number round counted → WasAnswered trace (before + 1) client number round counted
answered_more trace before client number round counted answered = record {
  within = answered.within;
  told = λ good.
      let it : WasTold trace before client number round counted = answered.told good in
      let earlier : it.at < before = it.earlier in
      record {
        at = it.at;
        earlier = omega arith;
        entry = it.entry;
        is_entry = it.is_entry;
        letter = it.letter;
        sent = it.sent;
        from_is = it.from_is;
        shown = it.shown;
        is_reply = it.is_reply;
      };
}

-- a delivered reply was sent so
answered_by : (trace : Trace) → IsRun trace → ArePlain trace → (before : ℕ) (letter : Letter)
    (client : ClientId) (number round : ℕ) (counted : Counted) (shown : List Sealed)
    → SentBefore trace before letter → Tells letter counted.replica client number round counted.verdict shown
    → WasAnswered trace before client number round counted
answered_by trace is have before letter client number round counted shown sent is_reply =
    let entry : Entry = sent.there.entry in
    let replies : All (RepliesWithin (replicas trace.setup.bounds)) entry.letters =
    replies_within trace is have sent.at entry sent.there.is_entry in
    let from : RepliesWithin (replicas trace.setup.bounds) letter =
    All-contains (RepliesWithin (replicas trace.setup.bounds)) entry.letters letter replies sent.there.sent in
    let sent_so = from counted.replica client number round counted.verdict shown is_reply in
    record {
      within = sent_so.0;
      told = λ good. record {
        at = sent.at;
        earlier = sent.earlier;
        entry = entry;
        is_entry = sent.there.is_entry;
        letter = letter;
        sent = sent.there.sent;
        from_is = sent_so.1;
        shown = shown;
        is_reply = is_reply;
      };
    }

-- each reply that the text is was sent so
abbrev pub AreAnswers : Trace → ℕ → List ℕ → Type 0
AreAnswers trace before text =
    (replica : ReplicaId) (client : ClientId) (number round : ℕ) (verdict : Verdict)
    (culled : List (ObjectId × ReplicaId)) (shown : List Sealed) (mac : List ℕ)
    → decoded text ≡ Ok (frame.Reply replica client number round verdict culled shown mac)
    → WasAnswered trace before client number round
    (record { replica = replica; verdict = verdict; culled = culled })

-- the replica of a reply that a faulty one made is within the bounds
known_within : (trace : Trace) (before : ℕ) (replica : ReplicaId)
    → has_party (ring_of (world_after trace before).setup) (party.Replica replica) ≡ true
    → replica.0 < replicas trace.setup.bounds
known_within trace before replica known =
    ltb-true _ _ (ap (λ (setup : Setup). nat_lt replica.0 (replicas setup.bounds)) (sym (setup_after trace before))
    ∙ known)

-- a reply that a faulty replica made is of itself
answers_of_faulty : (trace : Trace) (before : ℕ) (me : ClientId) (text : List ℕ)
    → IsOfFaulty (world_after trace before) (party.Client me) text → AreAnswers trace before text
answers_of_faulty trace before me text made replica client number round verdict culled shown mac is =
    let world : WorldState = world_after trace before in
    let taken : made.taken ≡ frame.Reply replica client number round verdict culled shown mac =
    one_decoded text made.taken (frame.Reply replica client number round verdict culled shown mac)
    (brought_is_decoded (ring_of world.setup) (party.Client me) text made.taken made.brings) is in
    let sent_by : party.Replica replica ≡ sender made.taken = ap sender (sym taken) in
    let faulty : is_faulty trace.setup (party.Replica replica) ≡ true =
    ap (λ (setup : Setup). is_faulty setup (party.Replica replica)) (sym (setup_after trace before))
    ∙ ap (is_faulty world.setup) sent_by ∙ made.faulty in
    record {
      within = known_within trace before replica
          (ap (has_party (ring_of world.setup)) sent_by
          ∙ sender_known (ring_of world.setup) (party.Client me) text made.taken made.brings);
      told = λ good. absurd (false≢true (sym (ap not faulty) ∙ good));
    }

pub answers_from : (trace : Trace) → IsRun trace → ArePlain trace → (before : ℕ) → before ≤ length trace.entries
    → (me : ClientId) (text : List ℕ) → IsFrom (world_after trace before) (party.Client me) text
    → AreAnswers trace before text
answers_from trace is have before within me text (inl sent) replica client number round verdict culled shown mac
    carries =
    answered_by trace is have before sent.letter client number round
    (record { replica = replica; verdict = verdict; culled = culled }) shown
    (sent_before trace is before within sent.number sent.letter sent.is_letter)
    (record { culled = culled; mac = mac; carries = ap decoded sent.text_is ∙ carries })
answers_from trace is have before within me text (inr made) replica client number round verdict culled shown mac
    carries = answers_of_faulty trace before me text made replica client number round verdict culled shown mac carries

-- ---- the verdicts of the operation under way

abbrev pub AreAnswered : Trace → ℕ → ClientId → Work → Type 0
AreAnswered trace before client work = All (WasAnswered trace before client work.number work.round) work.replies

abbrev pub WorkAnswered : Trace → ℕ → ClientId → Option Work → Type 0
WorkAnswered trace before client work = IfSome work (AreAnswered trace before client)

are_more : (trace : Trace) (before : ℕ) (client : ClientId) (work : Work) → AreAnswered trace before client work
    → AreAnswered trace (before + 1) client work
are_more trace before client work are =
    All-weaker (WasAnswered trace before client work.number work.round)
    (WasAnswered trace (before + 1) client work.number work.round)
    (answered_more trace before client work.number work.round) work.replies are

work_more : (trace : Trace) (before : ℕ) (client : ClientId) (work : Option Work)
    → WorkAnswered trace before client work → WorkAnswered trace (before + 1) client work
work_more trace before client None are = tt
work_more trace before client (Some work) are = are_more trace before client work are

pub work_answered : (trace : Trace) (before : ℕ) (client : ClientId) (found : Option Work) (work : Work)
    → found ≡ Some work → WorkAnswered trace before client found → AreAnswered trace before client work
work_answered trace before client found work is are = subst (WorkAnswered trace before client) is are

-- the verdicts with one more that counts
pub with_answered : (trace : Trace) (before : ℕ) (client : ClientId) (work : Work) (replica : ReplicaId)
    (number round : ℕ) (verdict : Verdict) (culled : List (ObjectId × ReplicaId))
    → WasAnswered trace before client number round
    (record { replica = replica; verdict = verdict; culled = culled }) → counts work replica number round ≡ true
    → AreAnswered trace before client work
    → AreAnswered trace before client (with_verdict work replica verdict culled)
with_answered trace before client work replica number round verdict culled answered counting are =
    let first = and_parts (is_asking work.phase) _ counting in
    let second = and_parts (eqb number work.number) _ first.1 in
    let third = and_parts (eqb round work.round) _ second.1 in
    let numbers : number ≡ work.number = eqb-true number work.number second.0 in
    let rounds : round ≡ work.round = eqb-true round work.round third.0 in
    let counted : Counted = record { replica = replica; verdict = verdict; culled = culled } in
    All-push (WasAnswered trace before client work.number work.round) work.replies counted are
    (subst (λ (it : ℕ). WasAnswered trace before client work.number it counted) rounds
    (subst (λ (it : ℕ). WasAnswered trace before client it round counted) numbers answered))

-- ---- what a client makes of them

-- a round that begins has no verdict yet
fresh_answered : (trace : Trace) (before : ℕ) (client : ClientId) (work : Work) → work.replies ≡ []
    → AreAnswered trace before client work
fresh_answered trace before client work fresh =
    subst (All (WasAnswered trace before client work.number work.round)) (sym fresh)
    (All-nil (WasAnswered trace before client work.number work.round))

-- a client after a step has verdicts that were sent so
abbrev StepAnswered : Trace → ℕ → ClientId → Stepped → Type 0
StepAnswered trace before me stepped = WorkAnswered trace before me stepped.state.work

next_answered : (trace : Trace) (before : ℕ) (me : ClientId) (state : ClientState) (work : Work)
    → StepAnswered trace before me (next_round state work)
next_answered trace before me state work =
    next_cases state work (StepAnswered trace before me) (λ spent. tt)
    (λ begun more round. fresh_answered trace before me begun round.fresh)

over_answered : (trace : Trace) (before : ℕ) (me : ClientId) (state : ClientState) (work : Work)
    → StepAnswered trace before me (ends_round state work)
over_answered trace before me state work =
    ended_cases state work (StepAnswered trace before me) (λ left same spent. tt)
    (λ left named same named_more more. All-nil (WasAnswered trace before me work.number work.round))
    (λ left begun same more round. fresh_answered trace before me begun round.fresh)

-- what a text makes of them
answered_frame : (trace : Trace) (before : ℕ) (text : List ℕ) (state : ClientState) → AreAnswers trace before text
    → WorkAnswered trace before state.me state.work → (received : Frame) → decoded text ≡ Ok received
    → WorkAnswered trace (before + 1) state.me (client_on_frame state received).state.work
answered_frame trace before text state answers are
    (frame.Reply replica client number round verdict culled shown mac) is_frame =
    let P : Stepped → Type 0 = StepAnswered trace (before + 1) state.me in
    let same : WorkAnswered trace (before + 1) state.me state.work = work_more trace before state.me state.work are in
    let counted : Counted = record { replica = replica; verdict = verdict; culled = culled } in
    let kept : ClientState = record state { kept = keep_all number round shown state.kept } in
    cond_both (eqb client.0 (state.me).0) _ _ P
    (λ mine.
    let answered : WasAnswered trace before state.me number round counted =
    subst (λ (it : ClientId). WasAnswered trace before it number round counted)
    (client_is client state.me (eqb-true client.0 (state.me).0 mine))
    (answers replica client number round verdict culled shown mac is_frame) in
    counted_cases kept replica number round verdict culled P
    same
    (λ work under_way counting.
    are_more trace before state.me (with_verdict work replica verdict culled)
    (with_answered trace before state.me work replica number round verdict culled answered
    counting (work_answered trace before state.me state.work work under_way are)))
    (λ work answer under_way counting fits enough. tt)
    (λ work under_way counting.
    over_answered trace (before + 1) state.me kept (with_verdict work replica verdict culled)))
    (λ other. same)
answered_frame trace before text state answers are _ is_frame = work_more trace before state.me state.work are

answered_brought : (trace : Trace) (before : ℕ) (text : List ℕ) (state : ClientState) → AreAnswers trace before text
    → WorkAnswered trace before state.me state.work
    → (found : Option Frame) → brought state.keys (party.Client state.me) text ≡ found
    → WorkAnswered trace (before + 1) state.me (client_on_received state found).state.work
answered_brought trace before text state answers are (Some taken) brings =
    answered_frame trace before text state answers are taken
    (brought_is_decoded state.keys (party.Client state.me) text taken brings)
answered_brought trace before text state answers are None brings = work_more trace before state.me state.work are

answered_step : (trace : Trace) (before : ℕ) (text : List ℕ) (state : ClientState) → AreAnswers trace before text
    → WorkAnswered trace before state.me state.work
    → WorkAnswered trace (before + 1) state.me (client_step state text).state.work
answered_step trace before text state answers are =
    answered_brought trace before text state answers are (brought state.keys (party.Client state.me) text) refl

-- what a tick makes of them
answered_tick : (trace : Trace) (before : ℕ) (state : ClientState) → WorkAnswered trace before state.me state.work
    → WorkAnswered trace (before + 1) state.me (client_tick state).state.work
answered_tick trace before state are =
    let same : (work : Work) → state.work ≡ Some work → AreAnswered trace (before + 1) state.me work =
    λ work is. are_more trace before state.me work (work_answered trace before state.me state.work work is are) in
    clock_cases state (StepAnswered trace (before + 1) state.me) (work_more trace before state.me state.work are)
    (λ work is. over_answered trace (before + 1) state.me state work)
    (λ work is. next_answered trace (before + 1) state.me state work)
    (λ work ticks is. same work is) (λ work is. same work is)

answered_invoke : (trace : Trace) (before : ℕ) (state : ClientState) (op : Op)
    → WorkAnswered trace before state.me (client_invoke state op).state.work
answered_invoke trace before state op =
    invoke_cases state op (StepAnswered trace before state.me)
    (λ work first. fresh_answered trace before state.me work first.fresh)

-- ---- every client of a run

-- what holds of the client with this number
pub record Counts (trace : Trace) (before number : ℕ) (state : ClientState) : Type 0 where
  pub me : (state.me).0 ≡ number
  pub bounds : state.keys.bounds ≡ trace.setup.bounds
  pub sound : IsSound state
  pub answered : WorkAnswered trace before state.me state.work

abbrev pub Each : (ℕ → ClientState → Type 0) → List ClientState → Type 0
Each P clients = (number : ℕ) (state : ClientState) → numbered clients number ≡ Some state → P number state

counts_more : (trace : Trace) (before number : ℕ) (state : ClientState) → Counts trace before number state
    → Counts trace (before + 1) number state
counts_more trace before number state holds =
    record {
      me = holds.me;
      bounds = holds.bounds;
      sound = holds.sound;
      answered = work_more trace before state.me
          state.work holds.answered;
    }

counts_moved : (trace : Trace) (before number : ℕ) (old new : ClientState) → new.me ≡ old.me
    → new.keys.bounds ≡ old.keys.bounds → IsSound new → WorkAnswered trace (before + 1) old.me new.work
    → Counts trace before number old → Counts trace (before + 1) number new
counts_moved trace before number old new me bounds sound answered holds = record {
  me = ap (λ (it : ClientId). it.0) me ∙ holds.me;
  bounds = bounds ∙ holds.bounds;
  sound = sound;
  answered = subst (λ (it : ClientId). WorkAnswered trace (before + 1) it new.work) (sym me) answered;
}

each_with : (P : ℕ → ClientState → Type 0) (clients : List ClientState) (number : ℕ) (new : ClientState)
    → Each P clients → P number new → Each P (with_numbered clients number new)
each_with P clients number new each here other state found =
    elim (with_cases clients number other new state found) [
      | inl same ↦ subst (λ (it : ℕ). P it state) (sym same.0) (subst (P number) (sym same.1) here)
      | inr there ↦ each other state there.1
    ]

-- the others stay as they are
counts_with : (trace : Trace) (before number : ℕ) (clients : List ClientState) (new : ClientState)
    → Each (Counts trace before) clients → Counts trace (before + 1) number new → Each (Counts trace (before + 1))
    (with_numbered clients number new)
counts_with trace before number clients new each here =
    each_with (Counts trace (before + 1)) clients number new
    (λ other state found. counts_more trace before other state (each other state found)) here

counts_step : (trace : Trace) → IsRun trace → ArePlain trace → (before : ℕ) → before ≤ length trace.entries
    → Each (Counts trace before) (world_after trace before).clients → (event : Event)
    → IsPlain (world_after trace before) event → Each (Counts trace (before + 1))
    (world_step (world_after trace before) event).clients
counts_step trace is have before within each event plain =
    let clients : List ClientState = (world_after trace before).clients in
    let stay : Each (Counts trace (before + 1)) clients =
    λ number state found. counts_more trace before number state (each number state found) in
    world_cases (world_after trace before) (λ (new : WorldState). Each (Counts trace (before + 1)) new.clients)
    (λ event. stay)
    (λ event text me state from hands found. stay)
    (λ client op state found.
    let holds : Counts trace before client.0 state = each client.0 state found in
    counts_with trace before client.0 clients (client_invoke state op).state each
    (counts_moved trace before client.0 state (client_invoke state op).state (client_invoke-me state op)
    (client_invoke-bounds state op)
    (IsSound-invoke state op) (answered_invoke trace (before + 1) state op) holds))
    (λ event text client state from hands found.
    let holds : Counts trace before client.0 state = each client.0 state found in
    counts_with trace before client.0 clients (client_step state text).state each
    (counts_moved trace before client.0 state (client_step state text).state
    (client_step-me state text) (client_step-bounds state text)
    (IsSound-step state text holds.sound)
    (answered_step trace before text state (answers_from trace is have before within client text from)
    holds.answered) holds))
    (λ client state found.
    let holds : Counts trace before client.0 state = each client.0 state found in
    counts_with trace before client.0 clients (client_tick state).state each
    (counts_moved trace before client.0 state (client_tick state).state (client_tick-me state)
    (client_tick-bounds state) (IsSound-tick state holds.sound)
    (answered_tick trace before state holds.answered) holds))
    event plain

counts_opening : (trace : Trace) → Each (Counts trace 0) (opening_world trace.setup).clients
counts_opening trace zero state found = absurd (none-some state found)
counts_opening trace (suc place) state found =
    let opens : state ≡ client_at_start (record { 0 = 1 + place }) (ring_of trace.setup) trace.setup.seed =
    opening_client 1 trace.setup.clients (ring_of trace.setup) place state found in
    let holds : Counts trace 0 (suc place)
    (client_at_start (record { 0 = 1 + place }) (ring_of trace.setup) trace.setup.seed) =
    record {
      me = omega arith;
      bounds = refl;
      sound = IsSound-opening (record { 0 = 1 + place }) (ring_of trace.setup) trace.setup.seed;
      answered = tt;
    } in
    subst (Counts trace 0 (suc place)) (sym opens) holds

-- in every world of a run each client counts only what was sent to it, or what faulty replicas made
pub counts_world : (trace : Trace) → IsRun trace → ArePlain trace → (count : ℕ) → count ≤ length trace.entries
    → Each (Counts trace count) (world_after trace count).clients
counts_world trace is have zero within =
    subst (λ (world : WorldState). Each (Counts trace 0) world.clients) (sym (world_after-none trace))
    (counts_opening trace)
counts_world trace is have (suc count) within =
    let before : Each (Counts trace count) (world_after trace count).clients =
    counts_world trace is have count (omega arith) in
    let default : Entry = some_entry trace.entries (omega arith) in
    let after : Each (Counts trace (count + 1)) (world_after trace (count + 1)).clients =
    subst (λ (world : WorldState). Each (Counts trace (count + 1)) world.clients)
    (sym (world_after-next trace count default (omega arith)))
    (counts_step trace is have count (omega arith) before (get_or trace.entries count default).event
    (have.plain_at count default (omega arith))) in
    subst (λ (it : ℕ). Each (Counts trace it) (world_after trace it).clients) (add-one count) after

-- ---- the verdicts that count are of different replicas

abbrev pub AreDifferent : List Counted → Type 0
AreDifferent replies = AllPairs (λ (a b : Counted). (a.replica).0 ≢ (b.replica).0) replies

pub different_more : (work : Work) (replica : ReplicaId) (number round : ℕ) (verdict : Verdict)
    (culled : List (ObjectId × ReplicaId)) → counts work replica number round ≡ true → AreDifferent work.replies
    → AreDifferent (with_verdict work replica verdict culled).replies
different_more work replica number round verdict culled counting different =
    let numbered_so = (and_parts (is_asking work.phase) _ counting).1 in
    let of_round = (and_parts (eqb number work.number) _ numbered_so).1 in
    let first : list_any (λ counted. eqb (counted.replica).0 replica.0) work.replies ≡ false =
    not-true _ (and_parts (eqb round work.round) _ of_round).1 in
    all_pairs_push (λ (a b : Counted). (a.replica).0 ≢ (b.replica).0) work.replies
    (record { replica = replica; verdict = verdict; culled = culled }) different
    (λ k d within. other_replica work.replies replica k d first within)
