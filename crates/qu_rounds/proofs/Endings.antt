-- Where the end of an operation is recorded, and what step of its client made it.
use Rattle.std.proofs.Common.{◌≡◌, ℕ, suc, ◌+◌, ◌≤◌, true, eqb, ◌&&◌, List, [], ◌∷◌, ◌++◌, Option, None, Some, refl, ap, ◌∙◌, arith, slice_get, All, Contains}
use Rattle.std.proofs.lemmas.Bool.{and_parts, eqb-true, cond_both}
use Rattle.std.proofs.lemmas.List.Elements.{All-nil, All-cons, All-append, All-weaker, All-contains}
use Rattle.std.proofs.lemmas.Option.{none-some, some_pair_parts, cond_some}
use Rattle.qu_base.specs.declared.party.ClientId.{ClientId}
use Rattle.qu_base.specs.declared.party.ReplicaId.{ReplicaId}
use Rattle.qu_base.specs.Bounds.{quorum}
use Rattle.qu_objects.specs.declared.answer.Answer.{Answer}
use Rattle.qu_objects.specs.declared.op.Outcome.{Outcome}
use Rattle.qu_objects.specs.declared.op.Outcome.TheVariants as outcome
use Rattle.qu_frames.specs.declared.frame.Frame.{Frame}
use Rattle.qu_frames.specs.declared.frame.Frame.TheVariants as frame
use Rattle.qu_verdicts.specs.declared.verdict.Verdict.{Verdict}
use Rattle.qu_client.specs.declared.state.ClientState.{ClientState}
use Rattle.qu_client.specs.State.{Stepped}
use Rattle.qu_client.specs.declared.work.Work.{Work}
use Rattle.qu_question.specs.Kept.{keep_all}
use Rattle.qu_client.specs.Verdicts.{fitting, identical_verdicts}
use Rattle.qu_client.specs.Work.{counts, with_verdict}
use Rattle.qu_client.specs.Steps.{client_on_frame, client_on_received, client_step, client_tick, next_round, ends_round}
use Rattle.qu_rounds.proofs.Ticking.{clock_cases}
use Rattle.qu_client.proofs.Cases.{counted_cases, next_cases, ended_cases}
use Rattle.qu_machine.specs.declared.record.OpRecord.{OpRecord}
use Rattle.qu_trace.specs.declared.event.Event.{Event}
use Rattle.qu_trace.specs.declared.event.Event.TheVariants.{Invoke, Deliver, Tick, Inject}
use Rattle.qu_trace.specs.declared.trace.Entry.{Entry}
use Rattle.qu_trace.specs.declared.trace.Setup.{Setup}
use Rattle.qu_trace.specs.declared.trace.Trace.{Trace}
use Rattle.qu_trace.specs.Faulty.{is_faulty}
use Rattle.qu_trace.specs.Operation.{outcome_in, first_end, end_from, begins_at, begun_by, operations_from, operations_of}
use Rattle.qu_world.specs.Step.{ended_by}
use Rattle.qu_history.specs.declared.sealed.Sealed.{Sealed}
use Rattle.qu_base.specs.declared.party.ObjectId.{ObjectId}
use Rattle.qu_frames.specs.Signing.{brought}
use Rattle.qu_base.specs.declared.party.Party.TheVariants as party
use Rattle.qu_base.proofs.Numbered.{client_is}

-- ---- where the end is recorded

-- an entry of these, the first of which has this number, records the end
pub record EndsAt (entries : List Entry) (at : ℕ) (client : ClientId) (number event : ℕ) (how : Outcome) : Type 0 where
  pub index : ℕ
  pub entry : Entry
  pub is_entry : slice_get entries index ≡ Some entry
  pub is_at : event ≡ at + index
  pub is_end : outcome_in client number entry.ended ≡ Some how

ends_later : (first : Entry) (later : List Entry) (at : ℕ) (client : ClientId) (number event : ℕ) (how : Outcome)
    → EndsAt later (at + 1) client number event how → EndsAt (first ∷ later) at client number event how
ends_later first later at client number event how ends = record {
  index = suc ends.index;
  entry = ends.entry;
  is_entry = ends.is_entry;
  is_at = let is_at : event ≡ (at + 1) + ends.index = ends.is_at in omega arith;
  is_end = ends.is_end;
}

ends_first : (first : Entry) (later : List Entry) (at : ℕ) (client : ClientId) (number event : ℕ) (how : Outcome)
    (found : Option Outcome) (rest : Option (ℕ × Outcome)) → outcome_in client number first.ended ≡ found
    → first_end found at rest ≡ Some (event, how)
    → (rest ≡ Some (event, how) → EndsAt later (at + 1) client number event how)
    → EndsAt (first ∷ later) at client number event how
ends_first first later at client number event how None rest here is there =
    ends_later first later at client number event how (there is)
ends_first first later at client number event how (Some ended) rest here is there =
    let parts : (at ≡ event) × (ended ≡ how) = some_pair_parts at event ended how is in
    record {
      index = 0;
      entry = first;
      is_entry = refl;
      is_at = omega (arith, parts.0);
      is_end = here ∙ ap (λ (it : Outcome). Some it) parts.1;
    }

end_at : (client : ClientId) (number at : ℕ) (entries : List Entry) (event : ℕ) (how : Outcome)
    → end_from client number at entries ≡ Some (event, how) → EndsAt entries at client number event how
unfolding end_from
end_at client number at [] event how is = absurd (none-some (event, how) is)
end_at client number at (entry ∷ later) event how is =
    ends_first entry later at client number event how (outcome_in client number entry.ended)
    (end_from client number (at + 1) later) refl is
    (end_at client number (at + 1) later event how)

-- the record's end is recorded among these entries
abbrev Ends : List Entry → ℕ → OpRecord → Type 0
Ends entries at operation =
    (event : ℕ) (how : Outcome) → operation.reply ≡ Some (event, how)
    → EndsAt entries at operation.client operation.number event how

begins_end : (setup : Setup) (event : Event) (at : ℕ) (earlier entries : List Entry)
    → All (Ends entries at) (begins_at setup event at earlier entries)
begins_end setup (Invoke client op) at earlier entries =
    cond_both (is_faulty setup (party.Client client)) [] _ (All (Ends entries at))
    (λ faulty. All-nil (Ends entries at))
    (λ correct. All-cons (Ends entries at) _ [] (λ event how is. end_at client (begun_by client earlier + 1) at entries
    event how is) (All-nil (Ends entries at)))
begins_end setup (Deliver letter) at earlier entries = All-nil (Ends entries at)
begins_end setup (Tick client) at earlier entries = All-nil (Ends entries at)
begins_end setup (Inject to text) at earlier entries = All-nil (Ends entries at)

operations_end : (setup : Setup) (earlier : List Entry) (at : ℕ) (entries : List Entry)
    → All (Ends entries at) (operations_from setup earlier at entries)
unfolding operations_from
operations_end setup earlier at [] = All-nil (Ends [] at)
operations_end setup earlier at (entry ∷ later) =
    All-append (Ends (entry ∷ later) at) (begins_at setup entry.event at earlier (entry ∷ later))
    (operations_from setup (earlier ++ entry ∷ []) (at + 1) later)
    (begins_end setup entry.event at earlier (entry ∷ later))
    (All-weaker (Ends later (at + 1)) (Ends (entry ∷ later) at)
    (λ operation ends event how is. ends_later entry later at operation.client operation.number event how
    (ends event how is))
    (operations_from setup (earlier ++ entry ∷ []) (at + 1) later)
    (operations_end setup (earlier ++ entry ∷ []) (at + 1) later))

-- the end of an operation of a trace is that of an entry
pub operation_ends : (trace : Trace) (operation : OpRecord) → Contains (operations_of trace) operation
    → (event : ℕ) (how : Outcome) → operation.reply ≡ Some (event, how)
    → EndsAt trace.entries 1 operation.client operation.number event how
operation_ends trace operation among event how is =
    All-contains (Ends trace.entries 1) (operations_of trace) operation
    (operations_end trace.setup [] 1 trace.entries) among event how is

-- ---- what ended

-- a client's step ended the operation that it had under way
pub record EndedBy (client me : ClientId) (number : ℕ) (found : Option Work) (ended : Option Outcome)
    (how : Outcome) : Type 0 where
  pub work : Work
  pub under_way : found ≡ Some work
  pub is_end : ended ≡ Some how
  pub is_me : me ≡ client
  pub is_number : work.number ≡ number

pub ended_so : (client me : ClientId) (number : ℕ) (found : Option Work) (ended : Option Outcome) (how : Outcome)
    → outcome_in client number (ended_by me found ended) ≡ Some how → EndedBy client me number found ended how
ended_so client me number None ended how is = absurd (none-some how is)
ended_so client me number (Some work) None how is = absurd (none-some how is)
ended_so client me number (Some work) (Some ended) how is =
    let found : ((eqb me.0 client.0 && eqb work.number number) ≡ true) × (ended ≡ how) =
    cond_some (eqb me.0 client.0 && eqb work.number number) ended how is in
    let parts : (eqb me.0 client.0 ≡ true) × (eqb work.number number ≡ true) = and_parts _ _ found.0 in
    record {
      work = work;
      under_way = refl;
      is_end = ap (λ (it : Outcome). Some it) found.1;
      is_me = client_is me client (eqb-true me.0 client.0 parts.0);
      is_number = eqb-true work.number number parts.1;
    }

-- ---- the step that completes

-- the frame is a reply that counts, and with it a quorum of verdicts are identical
pub record ReplyCompletes (state : ClientState) (received : Frame) (answer : Answer) : Type 0 where
  pub replica : ReplicaId
  pub number : ℕ
  pub round : ℕ
  pub verdict : Verdict
  pub culled : List (ObjectId × ReplicaId)
  pub shown : List Sealed
  pub mac : List ℕ
  pub is_reply : received ≡ frame.Reply replica state.me number round verdict culled shown mac
  pub work : Work
  pub under_way : state.work ≡ Some work
  pub counting : counts work replica number round ≡ true
  pub fits : fitting work.body verdict ≡ Some answer
  pub enough : quorum state.keys.bounds ≤ identical_verdicts verdict (with_verdict work replica verdict culled).replies

same_answer : (first second : Answer) → Some (outcome.Done first) ≡ Some (outcome.Done second) → first ≡ second
same_answer first second same = cc

gave_up : (answer : Answer) → Some outcome.GaveUp ≡ Some (outcome.Done answer) → ⊥
gave_up answer same = cc

-- a round that ends completes nothing
abbrev CompletesNot : Answer → Stepped → Type 0
CompletesNot answer stepped = stepped.ended ≡ Some (outcome.Done answer) → ⊥

over_completes_not : (state : ClientState) (work : Work) (answer : Answer) → CompletesNot answer (ends_round state work)
over_completes_not state work answer =
    ended_cases state work (CompletesNot answer) (λ left same spent. gave_up answer)
    (λ left named same named_more more. none-some (outcome.Done answer))
    (λ left begun same more round. none-some (outcome.Done answer))

next_completes_not : (state : ClientState) (work : Work) (answer : Answer) → CompletesNot answer (next_round state work)
next_completes_not state work answer =
    next_cases state work (CompletesNot answer) (λ spent. gave_up answer)
    (λ begun more round. none-some (outcome.Done answer))

-- nor does a tick
pub tick_completes_not : (state : ClientState) (answer : Answer) → CompletesNot answer (client_tick state)
tick_completes_not state answer =
    clock_cases state (CompletesNot answer) (none-some (outcome.Done answer))
    (λ work is. over_completes_not state work answer) (λ work is. next_completes_not state work answer)
    (λ work ticks is. none-some (outcome.Done answer)) (λ work is. none-some (outcome.Done answer))

pub frame_completes : (state : ClientState) (received : Frame) (answer : Answer)
    → (client_on_frame state received).ended ≡ Some (outcome.Done answer) → ReplyCompletes state received answer
frame_completes state (frame.Reply replica client number round verdict culled shown mac) answer ends =
    let P : Stepped → Type 0 = λ stepped. stepped.ended ≡ Some (outcome.Done answer)
    → ReplyCompletes state (frame.Reply replica client number round verdict culled shown mac) answer in
    cond_both (eqb client.0 (state.me).0) _ _ P
    (λ mine.
    counted_cases (record state { kept = keep_all number round shown state.kept }) replica number round verdict culled
    P
    (λ ended. absurd (none-some (outcome.Done answer) ended))
    (λ work under_way counting ended. absurd (none-some (outcome.Done answer) ended))
    (λ work given under_way counting fits enough ended. record {
      replica = replica;
      number = number;
      round = round;
      verdict = verdict;
      culled = culled;
      shown = shown;
      mac = mac;
      is_reply = ap (λ (it : ClientId). frame.Reply replica it number round verdict culled shown mac)
          (client_is client state.me (eqb-true client.0 (state.me).0 mine));
      work = work;
      under_way = under_way;
      counting = counting;
      fits = fits ∙ ap (λ (it : Answer). Some it) (same_answer given answer ended);
      enough = enough;
    })
    (λ work under_way counting ended.
    absurd (over_completes_not (record state { kept = keep_all number round shown state.kept })
    (with_verdict work replica verdict culled) answer ended)))
    (λ other ended. absurd (none-some (outcome.Done answer) ended))
    ends
frame_completes state _ answer ended = absurd (none-some (outcome.Done answer) ended)

-- the text brings such a frame
pub record TextCompletes (state : ClientState) (found : Option Frame) (answer : Answer) : Type 0 where
  pub carried : Frame
  pub is_frame : found ≡ Some carried
  pub completes : ReplyCompletes state carried answer

brought_completes : (state : ClientState) (found : Option Frame) (answer : Answer)
    → (client_on_received state found).ended ≡ Some (outcome.Done answer) → TextCompletes state found answer
brought_completes state (Some taken) answer ends =
    record { carried = taken; is_frame = refl; completes = frame_completes state taken answer ends }
brought_completes state None answer ends = absurd (none-some (outcome.Done answer) ends)

pub completes : (state : ClientState) (text : List ℕ) (answer : Answer) → (client_step state text).ended ≡ Some
    (outcome.Done answer) → TextCompletes state (brought state.keys (party.Client state.me) text) answer
completes state text answer ends = brought_completes state (brought state.keys (party.Client state.me) text) answer ends
