-- A completed operation was answered by a quorum.
use Rattle.qu_claims.specs.Carried.{offered}
use Rattle.qu_runs.proofs.Events.Handing.{handed_offers}
use Rattle.std.proofs.Common.{◌≡◌, ◌≢◌, ℕ, suc, ◌+◌, ◌-◌, ◌<◌, ◌≤◌, Bool, true, eqb, List, [], ◌∷◌, length, map, filter, get_or, None, Some, refl, sym, ap, subst, ◌∙◌, arith, slice_get, All, AllPairs, Contains, Ok, Option, not, cond, inl, inr, false, ◌==◌}
use Rattle.std.proofs.lemmas.Bool.{and_parts, eqb-true, cond_both, or_cases, false≢true}
use Rattle.std.proofs.lemmas.List.{length-map, get_or-map}
use Rattle.std.proofs.lemmas.List.Elements.{All-nil, All-cons, All-head, All-tail, All-map}
use Rattle.std.proofs.lemmas.List.Kept.{AllPairs-filter}
use Rattle.std.proofs.lemmas.List.Sums.{length-filter}
use Rattle.std.proofs.lemmas.Option.{none-some, same_Some, slice_get_within}
use Rattle.qu_base.specs.declared.party.ClientId.{ClientId}
use Rattle.qu_base.specs.declared.party.ReplicaId.{ReplicaId}
use Rattle.qu_base.specs.Bounds.{replicas, quorum}
use Rattle.qu_objects.specs.declared.answer.Answer.{Answer}
use Rattle.qu_objects.specs.declared.op.Op.{Op}
use Rattle.qu_objects.specs.declared.op.Outcome.TheVariants as outcome
use Rattle.qu_frames.specs.declared.frame.Body.{Body}
use Rattle.qu_frames.specs.declared.frame.Body.TheVariants as body
use Rattle.qu_frames.specs.Body.{body_of}
use Rattle.qu_frames.specs.declared.frame.Frame.{Frame}
use Rattle.qu_frames.specs.declared.frame.Frame.TheVariants as frame
use Rattle.qu_frames.specs.declared.frame.Letter.{Letter}
use Rattle.qu_verdicts.specs.declared.verdict.Verdict.{Verdict}
use Rattle.qu_verdicts.specs.Verdict.{same_verdict}
use Rattle.qu_client.specs.declared.state.ClientState.{ClientState}
use Rattle.qu_client.specs.declared.work.Counted.{Counted}
use Rattle.qu_client.specs.declared.work.Work.{Work}
use Rattle.qu_client.specs.Verdicts.{fitting, identical_verdicts}
use Rattle.qu_client.specs.Work.{is_asking, counts, with_verdict}
use Rattle.qu_client.specs.Steps.{client_invoke, client_step, client_tick}
use Rattle.qu_client.specs.Sound.{IsFor}
use Rattle.qu_client.proofs.Cases.{invoke_cases}
use Rattle.qu_machine.specs.declared.record.OpRecord.{OpRecord}
use Rattle.qu_trace.specs.declared.event.Event.{Event}
use Rattle.qu_trace.specs.declared.event.Event.TheVariants.{Invoke, Deliver, Tick, Inject}
use Rattle.qu_trace.specs.declared.trace.Entry.{Entry}
use Rattle.qu_trace.specs.declared.trace.Trace.{Trace}
use Rattle.qu_trace.specs.Operation.{outcome_in, operations_of}
use Rattle.qu_world.specs.State.{numbered, letter_of}
use Rattle.qu_world.specs.Run.{IsRun}
use Rattle.qu_claims.specs.Times.{world_after}
use Rattle.qu_claims.specs.Answers.{round_in, round_of, delivered_round}
use Rattle.qu_claims.specs.Completions.{Replied, IsCompleted}
use Rattle.qu_runs.proofs.Events.Recording.{entry_cases, letter_stays}
use Rattle.qu_rounds.proofs.Counted.{WasAnswered, AreDifferent, Counts, counts_world, work_answered, with_answered, different_more, WasTold, answers_from}
use Rattle.qu_rounds.proofs.Endings.{TextCompletes, EndsAt, operation_ends, EndedBy, ended_so, ReplyCompletes, completes, tick_completes_not}
use Rattle.qu_claims.specs.Carried.{handed}
use Rattle.qu_runs.specs.Plain.{ArePlain, IsFrom}
use Rattle.qu_client.proofs.Laws.{sound_work}
use Rattle.qu_frames.specs.Signing.{brought}
use Rattle.qu_frames.proofs.Signed.{brought_is_decoded}
use Rattle.qu_base.specs.declared.party.Party.TheVariants as party
use Rattle.qu_base.specs.declared.party.Party.{Party}
use Rattle.qu_base.proofs.Numbered.{client_is}
use Rattle.std.specs.Prelude.{option_map}
use Rattle.qu_frames.specs.Decoding.{decoded}
use Rattle.qu_trace.specs.Letters.{letters_of}
use Rattle.qu_runs.proofs.Events.Handing.{hand}
use Rattle.qu_trace.specs.Faulty.{is_good}
use Rattle.qu_rounds.proofs.Members.{is_among, members_count}
use Rattle.qu_claims.specs.Count.{count}
use Rattle.qu_chain.proofs.Counting.{count-more}
use Rattle.qu_runs.proofs.Worlds.FewFaults.{few_faulty}

-- ---- what the theorem is given of the records of operations

-- an operation of the trace is the one that a client has under way
pub record RecordedWork (trace : Trace) (client : ClientId) (work : Work) : Type 0 where
  pub operation : OpRecord
  pub of_trace : Contains (operations_of trace) operation
  pub of_client : operation.client ≡ client
  pub of_number : operation.number ≡ work.number
  pub of_op : operation.op ≡ work.op

-- in every world of the run, what a client has under way is an operation of the trace
abbrev pub WorkIsRecorded : Trace → Type 0
WorkIsRecorded trace =
    (count : ℕ) → count ≤ length trace.entries → (client : ClientId) (state : ClientState)
    → numbered (world_after trace count).clients client.0 ≡ Some state → (work : Work)
    → state.work ≡ Some work → RecordedWork trace client work

-- a client and a number belong to one operation of the trace
abbrev pub IsOneRecord : Trace → Type 0
IsOneRecord trace =
    (first second : OpRecord) → Contains (operations_of trace) first
    → Contains (operations_of trace) second → first.client ≡ second.client
    → first.number ≡ second.number → first ≡ second

-- ---- the replicas with one verdict

abbrev agrees : Verdict → Counted → Bool
agrees verdict counted = same_verdict counted.verdict verdict

abbrev name_of : Counted → ℕ
name_of counted = (counted.replica).0

-- the replicas whose verdicts are identical to this one
abbrev agreeing : Verdict → List Counted → List ℕ
agreeing verdict replies = map name_of (filter (agrees verdict) replies)

agreeing_number : (verdict : Verdict) (replies : List Counted) → length (agreeing verdict replies) ≡ identical_verdicts
    verdict replies
unfolding identical_verdicts
agreeing_number verdict replies = length-map (filter (agrees verdict) replies) name_of
    ∙ length-filter (agrees verdict) replies

pairs_map : {X : Type 0} (name : X → ℕ) (items : List X) → AllPairs (λ (a b : X). name a ≢ name b) items
    → AllPairs (λ (a b : ℕ). a ≢ b) (map name items)
pairs_map name [] pairs = λ i j d order within. absurd (omega arith)
pairs_map name (first ∷ later) pairs = λ i j d order within same.
    let count : length (map name (first ∷ later)) ≡ length (first ∷ later) = length-map (first ∷ later) name in
    let at_i : get_or (map name (first ∷ later)) i d ≡ name (get_or (first ∷ later) i first) =
    get_or-map name (first ∷ later) i first d (omega arith) in
    let at_j : get_or (map name (first ∷ later)) j d ≡ name (get_or (first ∷ later) j first) =
    get_or-map name (first ∷ later) j first d (omega arith) in
    pairs i j first order (omega arith) (sym at_i ∙ same ∙ at_j)

agreeing_different : (verdict : Verdict) (replies : List Counted) → AreDifferent replies
    → AllPairs (λ (a b : ℕ). a ≢ b) (agreeing verdict replies)
agreeing_different verdict replies different =
    pairs_map name_of (filter (agrees verdict) replies)
    (AllPairs-filter (λ (a b : Counted). (a.replica).0 ≢ (b.replica).0) (agrees verdict) replies different)

-- what holds of all holds of those that pass, with the test
filtered : {X : Type 0} (P Q : X → Type 0) (test : X → Bool) (items : List X)
    → ((item : X) → P item → test item ≡ true → Q item) → All P items → All Q (filter test items)
filtered P Q test [] each all = All-nil Q
filtered P Q test (item ∷ items) each all =
    let rest : All Q (filter test items) = filtered P Q test items each (All-tail P item items all) in
    cond_both (test item) (item ∷ filter test items) (filter test items) (All Q)
    (λ here. All-cons Q item (filter test items) (each item (All-head P item items all) here) rest) (λ _. rest)

agreeing_within : (trace : Trace) (before : ℕ) (client : ClientId) (number round : ℕ) (verdict : Verdict)
    (replies : List Counted) → All (WasAnswered trace before client number round) replies
    → All (λ (member : ℕ). member < replicas trace.setup.bounds) (agreeing verdict replies)
agreeing_within trace before client number round verdict replies all =
    let P : ℕ → Type 0 = λ member. member < replicas trace.setup.bounds in
    All-map P name_of (filter (agrees verdict) replies)
    (filtered (WasAnswered trace before client number round) (λ counted. P (name_of counted)) (agrees verdict)
    replies (λ counted answered same. answered.within) all)

-- where they are correct they sent it
agreeing_replied : (trace : Trace) (before : ℕ) (client : ClientId) (number round : ℕ) (verdict : Verdict)
    (replies : List Counted) → All (WasAnswered trace before client number round) replies
    → All (λ (member : ℕ). is_good trace.setup member ≡ true
    → Replied trace before client number round verdict member) (agreeing verdict replies)
agreeing_replied trace before client number round verdict replies all =
    let P : ℕ → Type 0 = λ member. is_good trace.setup member ≡ true
    → Replied trace before client number round verdict member in
    All-map P name_of (filter (agrees verdict) replies)
    (filtered (WasAnswered trace before client number round) (λ counted. P (name_of counted)) (agrees verdict) replies
    (λ counted answered same good.
    let it : WasTold trace before client number round counted = answered.told good in
    record {
      at = it.at;
      earlier = it.earlier;
      replied = record {
        entry = it.entry;
        is_entry = it.is_entry;
        letter = it.letter;
        sent = it.sent;
        from_is = it.from_is;
        told = counted.verdict;
        shown = it.shown;
        is_reply = it.is_reply;
        same = same;
      };
    }) all)

-- ---- the correct ones among them

split_length : {X : Type 0} (test : X → Bool) (items : List X)
    → length items ≡ length (filter test items) + length (filter (λ item. not (test item)) items)
split_length test [] = refl
split_length test (item ∷ later) =
    let rest : length later ≡ length (filter test later) + length (filter (λ it. not (test it)) later) =
    split_length test later in
    by (test item) rest
  where
    by : (here : Bool) → length later ≡ length (filter test later) + length (filter (λ it. not (test it)) later)
        → suc (length later) ≡ length (cond here (item ∷ filter test later) (filter test later))
        + length (cond (not here) (item ∷ filter (λ it. not (test it)) later) (filter (λ it. not (test it)) later))
    by true rest = omega arith
    by false rest = omega arith

-- whatever is among filtered numbers passes the test
filtered_passes : (test : ℕ → Bool) (members : List ℕ) (index : ℕ) → is_among (filter test members) index ≡ true
    → test index ≡ true
filtered_passes test [] index among = absurd (false≢true among)
filtered_passes test (member ∷ later) index among =
    by (test member) refl among (λ there. filtered_passes test later index there)
  where
    by : (here : Bool) → test member ≡ here
        → is_among (cond here (member ∷ filter test later) (filter test later)) index ≡ true
        → (is_among (filter test later) index ≡ true → test index ≡ true) → test index ≡ true
    by false is among rest = rest among
    by true is among rest = elim (or_cases (member == index) (is_among (filter test later) index) among) [
      | inl here ↦ ap test (sym (eqb-true member index here)) ∙ is
      | inr there ↦ rest there
    ]

-- of different members below a bound, those that fail a test are at most as many as all that fail it
correct_many : (n : ℕ) (test : ℕ → Bool) (members : List ℕ) → AllPairs (λ (a b : ℕ). a ≢ b) members
    → All (λ (member : ℕ). member < n) members
    → length members ≤ length (filter test members) + count n (λ index. not (test index))
correct_many n test members different within =
    let fails : ℕ → Bool = λ index. not (test index) in
    let split : length members ≡ length (filter test members) + length (filter fails members) =
    split_length test members in
    let few : length (filter fails members) ≤ count n (is_among (filter fails members)) =
    members_count n (filter fails members) (AllPairs-filter (λ (a b : ℕ). a ≢ b) fails members different)
    (filtered (λ (it : ℕ). it < n) (λ (it : ℕ). it < n) fails members (λ it below failing. below) within) in
    let more : count n (is_among (filter fails members)) ≤ count n fails =
    count-more n (is_among (filter fails members)) fails
    (λ index low among. filtered_passes fails members index among) in
    omega (arith, split, few, more)

-- ---- the event that completed

-- a reply gives its round
reply_round : (text : List ℕ) (received : Frame) (round : ℕ) → decoded text ≡ Ok received
    → round_in (Ok received) ≡ Some round → round_in (decoded text) ≡ Some round
reply_round text received round is gives = ap round_in is ∙ gives

-- a verdict that counts is of the round under way
counting_round : (work : Work) (replica : ReplicaId) (number round : ℕ) → counts work replica number round ≡ true
    → round ≡ work.round
counting_round work replica number round counting =
    let first = and_parts (is_asking work.phase) _ counting in
    let second = and_parts (eqb number work.number) _ first.1 in
    let third = and_parts (eqb round work.round) _ second.1 in
    eqb-true round work.round third.0

-- the round of the answer that an event hands over
round_of_letter : (trace : Trace) → IsRun trace → (index : ℕ) → index ≤ length trace.entries
    → (number : ℕ) (to : Party) (text : List ℕ) (found : Option Letter)
    → letter_of (world_after trace index) number ≡ found → option_map hand found ≡ Some (to, text)
    → round_of (numbered (letters_of trace.entries) number) ≡ round_in (decoded text)
round_of_letter trace is index within number to text None sent given = absurd (none-some (to, text) given)
round_of_letter trace is index within number to text (Some letter) sent given =
    ap round_of (letter_stays trace is index within number letter sent) ∙
    ap (λ (it : Party × List ℕ). round_in (decoded it.1)) (same_Some (letter.to, letter.text) (to, text) given)

round_handed : (trace : Trace) → IsRun trace → (index : ℕ) → index ≤ length trace.entries
    → (entry : Entry) (to : Party) (text : List ℕ) → handed (world_after trace index) entry.event ≡ Some
    (to, text) → delivered_round trace (Some entry) ≡ round_in (decoded text)
round_handed trace is index within entry to text given =
    by_event entry.event (handed_offers (world_after trace index) entry.event to text given)
  where
    by_event : (event : Event) → offered (world_after trace index) event ≡ Some (to, text)
        → delivered_round trace (Some (record entry { event = event })) ≡ round_in (decoded text)
    by_event (Invoke client op) none = absurd (none-some (to, text) none)
    by_event (Deliver number) hands =
        round_of_letter trace is index within number to text (letter_of (world_after trace index) number) refl hands
    by_event (Tick client) none = absurd (none-some (to, text) none)
    by_event (Inject who other) hands =
        ap (λ (it : Party × List ℕ). round_in (decoded it.1)) (same_Some (who, other) (to, text) hands)

-- a verdict that fits what was asked in a round of an operation, and tells an answer, fits the operation
fits_operation : (what : Op) (asked : Body) (given : Verdict) (answer : Answer) → IsFor what asked
    → fitting asked given ≡ Some answer → fitting (body_of what) given ≡ Some answer
fits_operation what asked given answer (inl same) fits = ap (λ (it : Body). fitting it given) (sym same) ∙ fits
fits_operation what (body.Act parts) given answer (inr mends) fits = absurd mends
fits_operation what (body.Ask parts) given answer (inr mends) fits = absurd mends
fits_operation what (body.Mend target) given answer (inr mends) fits = absurd (none-some answer fits)

-- the text at this event completed the operation that its client had under way
by_text : (trace : Trace) → IsRun trace → ArePlain trace → WorkIsRecorded trace → IsOneRecord trace
    → (operation : OpRecord) → Contains (operations_of trace) operation → (index : ℕ) (answer : Answer)
    → (text : List ℕ) (client : ClientId) (state : ClientState) (made : Entry)
    → IsFrom (world_after trace index) (party.Client client) text
    → handed (world_after trace index) made.event ≡ Some (party.Client client, text)
    → slice_get trace.entries index ≡ Some made
    → numbered (world_after trace index).clients client.0 ≡ Some state
    → EndedBy operation.client client operation.number state.work (client_step state text).ended
    (outcome.Done answer)
    → (carried : Frame) → decoded text ≡ Ok carried → ReplyCompletes state carried answer
    → IsCompleted trace operation (suc index) answer
by_text trace is have recorded one operation among index answer text client state made from hands is_entry
    found ended carried carries done =
    let below : index < length trace.entries = slice_get_within trace.entries index made is_entry in
    let holds : Counts trace index client.0 state =
    counts_world trace is have index (omega arith) client.0 state found in
    let work : Work = done.work in
    let replies : List Counted = (with_verdict work done.replica done.verdict done.culled).replies in
    let me : state.me ≡ operation.client = client_is state.me client holds.me ∙ ended.is_me in
    let same_work : ended.work ≡ work = same_Some ended.work work (sym ended.under_way ∙ done.under_way) in
    let of_number : work.number ≡ operation.number = ap (λ (it : Work). it.number) (sym same_work) ∙ ended.is_number in
    let record_there : RecordedWork trace client work =
    recorded index (omega arith) client state found work done.under_way in
    let same_record : record_there.operation ≡ operation =
    one record_there.operation operation record_there.of_trace among (record_there.of_client ∙ ended.is_me)
    (record_there.of_number ∙ of_number) in
    let of_op : operation.op ≡ work.op = ap (λ (it : OpRecord). it.op) (sym same_record) ∙ record_there.of_op in
    let is_reply : decoded text ≡ Ok (frame.Reply done.replica state.me done.number done.round done.verdict done.culled
    done.shown done.mac) = carries ∙ ap Ok done.is_reply in
    let answered : All (WasAnswered trace index state.me work.number work.round) replies =
    with_answered trace index state.me work done.replica done.number done.round done.verdict done.culled
    (answers_from trace is have index (omega arith) client text from done.replica state.me done.number done.round
    done.verdict done.culled done.shown done.mac is_reply) done.counting
    (work_answered trace index state.me state.work work done.under_way holds.answered) in
    let answered_me : All (WasAnswered trace index operation.client work.number work.round) replies =
    subst (λ (it : ClientId). All (WasAnswered trace index it work.number work.round) replies) me answered in
    let answered_so : All (WasAnswered trace index operation.client operation.number work.round) replies =
    subst (λ (it : ℕ). All (WasAnswered trace index operation.client it work.round) replies) of_number answered_me in
    let different : AreDifferent replies =
    different_more work done.replica done.number done.round done.verdict done.culled done.counting
    (sound_work state work holds.sound done.under_way).different in
    let before : index ≡ suc index - 1 = omega arith in
    let agree : List ℕ = agreeing done.verdict replies in
    let good : ℕ → Bool = is_good trace.setup in
    let apart : AllPairs (λ (a b : ℕ). a ≢ b) agree = agreeing_different done.verdict replies different in
    let known : All (λ (member : ℕ). member < replicas trace.setup.bounds) agree =
    agreeing_within trace index operation.client operation.number work.round done.verdict replies answered_so in
    let told : All (λ (member : ℕ). good member ≡ true
    → Replied trace index operation.client operation.number work.round done.verdict member) agree =
    agreeing_replied trace index operation.client operation.number work.round done.verdict replies answered_so in
    record {
      round = work.round;
      verdict = done.verdict;
      fits = ap (λ (it : Op). fitting (body_of it) done.verdict) of_op
          ∙ fits_operation work.op work.body done.verdict answer
          (sound_work state work holds.sound done.under_way).asks done.fits;
      delivered =
          ap (delivered_round trace) is_entry ∙
          round_handed trace is index (omega arith) made (party.Client client) text hands ∙
          reply_round text (frame.Reply done.replica state.me done.number done.round done.verdict done.culled
          done.shown done.mac) work.round is_reply
          (ap (λ (it : ℕ). Some it) (counting_round work done.replica done.number done.round done.counting));
      members = filter good agree;
      different = AllPairs-filter (λ (a b : ℕ). a ≢ b) good agree apart;
      enough =
          let enough : quorum state.keys.bounds ≤ identical_verdicts done.verdict replies = done.enough in
          let number_is : length agree ≡ identical_verdicts done.verdict replies = agreeing_number done.verdict
          replies in
          let many : quorum trace.setup.bounds ≤ length agree =
          subst (λ (bounds : ℕ). quorum bounds ≤ length agree) holds.bounds (omega arith) in
          let correct : length agree ≤ length (filter good agree)
          + count (replicas trace.setup.bounds) (λ index. not (good index)) =
          correct_many (replicas trace.setup.bounds) good agree apart known in
          let few : count (replicas trace.setup.bounds) (λ index. not (good index)) ≤ trace.setup.bounds =
          few_faulty trace.setup (replicas trace.setup.bounds) (is.setup).few in
          omega (arith, many, correct, few);
      replied =
          subst (λ (it : ℕ). All (Replied trace it operation.client operation.number work.round done.verdict)
          (filter good agree)) before
          (filtered (λ (member : ℕ). good member ≡ true
          → Replied trace index operation.client operation.number work.round done.verdict member)
          (Replied trace index operation.client operation.number work.round done.verdict) good agree
          (λ member replied is_good. replied is_good) told);
      within = filtered (λ (member : ℕ). member < replicas trace.setup.bounds)
          (λ (member : ℕ). member < replicas trace.setup.bounds) good agree (λ member below is_good. below) known;
      correct = filtered (λ (member : ℕ). member < replicas trace.setup.bounds)
          (λ (member : ℕ). good member ≡ true) good agree (λ member below is_good. is_good) known;
    }

no_end_of_invocation : (state : ClientState) (op : Op) → (client_invoke state op).ended ≡ None
no_end_of_invocation state op = invoke_cases state op (λ stepped. stepped.ended ≡ None)
    (λ work first. refl)

-- the entry that records the end was made by a text
by_entry : (trace : Trace) → IsRun trace → ArePlain trace → WorkIsRecorded trace → IsOneRecord trace
    → (operation : OpRecord) → Contains (operations_of trace) operation → (index : ℕ) (answer : Answer)
    (entry : Entry) → slice_get trace.entries index ≡ Some entry → outcome_in operation.client operation.number
    entry.ended ≡ Some (outcome.Done answer) → IsCompleted trace operation (suc index) answer
by_entry trace is have recorded one operation among index answer entry is_entry =
    let how = outcome.Done answer in
    let Q : Entry → Type 0 = λ made. slice_get trace.entries index ≡ Some made
    → outcome_in operation.client operation.number made.ended ≡ Some how → IsCompleted trace operation
    (suc index) answer in
    entry_cases trace is have index entry is_entry Q
    (λ event there ends. absurd (none-some how ends))
    (λ event text me state from hands found there ends. absurd (none-some how ends))
    (λ client op state found there ends.
    let ended : EndedBy operation.client client operation.number state.work (client_invoke state op).ended how =
    ended_so operation.client client operation.number state.work (client_invoke state op).ended how ends in
    absurd (none-some how (sym (no_end_of_invocation state op) ∙ ended.is_end)))
    (λ event text client state from hands found there ends.
    let ended : EndedBy operation.client client operation.number state.work (client_step state text).ended
    how = ended_so operation.client client operation.number state.work (client_step state text).ended
    how ends in
    let completing : TextCompletes state (brought state.keys (party.Client state.me) text) answer =
    completes state text answer ended.is_end in
    by_text trace is have recorded one operation among index answer text client state _ from hands there
    found ended completing.carried
    (brought_is_decoded state.keys (party.Client state.me) text completing.carried completing.is_frame)
    completing.completes)
    (λ client state found there ends.
    let ended : EndedBy operation.client client operation.number state.work (client_tick state).ended how =
    ended_so operation.client client operation.number state.work (client_tick state).ended how ends in
    absurd (tick_completes_not state answer ended.is_end))
    is_entry

-- a completed operation was answered by so many different correct replicas with one verdict, in one round
pub completed : (trace : Trace) → IsRun trace → ArePlain trace → WorkIsRecorded trace → IsOneRecord trace
    → (operation : OpRecord) → Contains (operations_of trace) operation → (event : ℕ) (answer : Answer)
    → operation.reply ≡ Some (event, outcome.Done answer) → IsCompleted trace operation event answer
completed trace is have recorded one operation among event answer replied =
    let ends : EndsAt trace.entries 1 operation.client operation.number event (outcome.Done answer) =
    operation_ends trace operation among event (outcome.Done answer) replied in
    let at : event ≡ 1 + ends.index = ends.is_at in
    let place : suc ends.index ≡ event = omega arith in
    subst (λ (it : ℕ). IsCompleted trace operation it answer) place
    (by_entry trace is have recorded one operation among ends.index answer ends.entry ends.is_entry ends.is_end)
