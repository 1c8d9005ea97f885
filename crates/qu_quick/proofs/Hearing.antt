-- A client that is handed one reply after another, all with one verdict Done: it waits, sends nothing, and its
-- operation ends at the one that makes a quorum.
use Rattle.std.proofs.Common.{◌≡◌, ◌≢◌, ℕ, zero, suc, ◌+◌, ◌-◌, ◌<◌, ◌≤◌, ◌==◌, ◌||◌, Bool, true, false, List, [], ◌∷◌, ◌++◌, length, get_or, Option, None, Some, refl, sym, ap, subst, ◌∙◌, arith, inl, inr, add-zero}
use Rattle.std.specs.Prelude.{slice_get, ◌⊎◌}
use Rattle.std.specs.List.{All, AllByRecursion}
use Rattle.std.proofs.lemmas.Bool.{cases_order}
use Rattle.std.proofs.lemmas.Bool.Decides.{nat_tests}
use Rattle.std.proofs.lemmas.List.{length-append}
use Rattle.std.proofs.lemmas.List.Elements.{All-nil}
use Rattle.std.proofs.lemmas.List.Folds.{list_any-append}
use Rattle.std.proofs.lemmas.Option.{get_or_from_slice_get, slice_get-get_or, slice_get_within}
use Rattle.qu_base.specs.Bounds.{quorum}
use Rattle.qu_base.specs.declared.party.ClientId.{ClientId}
use Rattle.qu_base.specs.declared.party.ObjectId.{ObjectId}
use Rattle.qu_base.specs.declared.party.Party.TheVariants as party
use Rattle.qu_base.proofs.EachItem.{each_append}
use Rattle.qu_stamp.specs.declared.stamp.Stamp.{Stamp}
use Rattle.qu_history.specs.declared.sealed.Sealed.{Sealed}
use Rattle.qu_objects.specs.declared.act.Method.{Method}
use Rattle.qu_objects.specs.declared.answer.Answer.{Answer}
use Rattle.qu_objects.specs.declared.op.Outcome.TheVariants as outcome
use Rattle.qu_frames.specs.declared.frame.Body.TheVariants as body
use Rattle.qu_frames.specs.declared.frame.Frame.TheVariants as frame
use Rattle.qu_frames.specs.declared.frame.Letter.{Letter}
use Rattle.qu_verdicts.specs.declared.verdict.Verdict.{Verdict}
use Rattle.qu_verdicts.specs.declared.verdict.Verdict.TheVariants as verdict
use Rattle.qu_client.specs.declared.state.ClientState.{ClientState}
use Rattle.qu_client.specs.declared.work.Counted.{Counted}
use Rattle.qu_client.specs.declared.work.Work.{Work}
use Rattle.qu_client.specs.State.{Stepped}
use Rattle.qu_question.specs.Kept.{keep_all}
use Rattle.qu_client.specs.Verdicts.{has_replied}
use Rattle.qu_client.specs.Work.{is_asking, with_reply, with_verdict}
use Rattle.qu_client.specs.Steps.{stays, ends, client_step, client_on_frame}
use Rattle.qu_trace.specs.declared.event.Event.{Event}
use Rattle.qu_trace.specs.declared.trace.Entry.{Entry}
use Rattle.qu_trace.specs.declared.trace.Trace.{Trace}
use Rattle.qu_trace.specs.Operation.{outcome_in}
use Rattle.qu_world.specs.State.{WorldState, numbered}
use Rattle.qu_world.specs.Step.{world_step, at_client, ended_by}
use Rattle.qu_world.specs.Run.{IsRun}
use Rattle.qu_world.proofs.Each.{numbered_here}
use Rattle.qu_claims.specs.Carried.{handed}
use Rattle.qu_claims.specs.Times.{world_after}
use Rattle.qu_runs.specs.Plain.{ArePlain}
use Rattle.qu_runs.proofs.Events.Entries.{entry_recorded}
use Rattle.qu_runs.proofs.Events.Handing.{handed_step}
use Rattle.qu_runs.proofs.Worlds.Keyed.{clients_keyed}
use Rattle.qu_runs.proofs.Worlds.WorldGrowth.{world_after-next}
use Rattle.qu_claims.specs.Quick.{IsElsewhere, RoundTurn, HearsNext, last_heard}
use Rattle.qu_quick.proofs.ClientTells.{AllTell, waits_below, ends_at}
use Rattle.qu_quick.proofs.Elsewhere.{IsNoneOf, still_there, none_there}

-- ---- an event at a client

-- the event of this entry moved the client, as the entry records
pub record IsMoveAt (trace : Trace) (client : ClientId) (at : ℕ) (state : ClientState) (stepped : Stepped)
    (entry : Entry) : Type 0 where
  pub adds : (world_after trace (at + 1)).entries ≡ (world_after trace at).entries ++ entry ∷ []
  pub letters : entry.letters ≡ stepped.letters
  pub ended : entry.ended ≡ ended_by client state.work stepped.ended
  pub next : numbered (world_after trace (at + 1)).clients client.0 ≡ Some stepped.state

pub moved_at : (trace : Trace) → IsRun trace → (client : ClientId) (at : ℕ) (entry : Entry)
    → slice_get trace.entries at ≡ Some entry → (state : ClientState)
    → numbered (world_after trace at).clients client.0 ≡ Some state → (event : Event) (move : ClientState → Stepped)
    → world_step (world_after trace at) entry.event
    ≡ at_client (world_after trace at) event client move (numbered (world_after trace at).clients client.0)
    → IsMoveAt trace client at state (move state) entry
moved_at trace is_run client at entry is_entry state is_state event move steps =
    let below : at < length trace.entries = slice_get_within trace.entries at entry is_entry in
    let world : WorldState = world_after trace at in
    let event_is : (get_or trace.entries at entry).event ≡ entry.event =
    ap (λ (it : Entry). it.event) (get_or_from_slice_get trace.entries at entry entry is_entry) in
    let made : Entry = record {
      event = event;
      letters = (move state).letters;
      ended = ended_by client state.work (move state).ended;
    } in
    let world_is : world_after trace (at + 1) ≡ at_client world event client move (Some state) =
    world_after-next trace at entry below ∙ ap (world_step world) event_is ∙ steps
    ∙ ap (at_client world event client move) is_state in
    let recorded : (world_after trace (at + 1)).entries ≡ (world_after trace at).entries ++ made ∷ [] =
    ap (λ (it : WorldState). it.entries) world_is in
    let same : made ≡ entry = entry_recorded trace is_run at below entry made is_entry recorded in
    record {
      adds = recorded ∙ ap (λ (it : Entry). (world_after trace at).entries ++ it ∷ []) same;
      letters = ap (λ (it : Entry). it.letters) (sym same);
      ended = ap (λ (it : Entry). it.ended) (sym same);
      next = ap (λ (it : WorldState). numbered it.clients client.0) world_is
          ∙ numbered_here world.clients client.0 state (move state).state is_state;
    }

-- ---- from one event to a later one

module _ (trace : Trace) (is_run : IsRun trace) (have : ArePlain trace) (client : ClientId) (number : ℕ) where
  -- nothing of the client is at these events
  abbrev pub IsQuietAt : ℕ → Type 0
  IsQuietAt at = (entry : Entry) → slice_get trace.entries at ≡ Some entry → IsNoneOf client entry.letters entry.ended

  still_until : (from more : ℕ) → from + more ≤ length trace.entries
      → ((at : ℕ) → from ≤ at → at < from + more → IsElsewhere trace client at)
      → numbered (world_after trace (from + more)).clients client.0 ≡ numbered (world_after trace from).clients client.0
  still_until from zero within elsewhere =
      ap (λ (at : ℕ). numbered (world_after trace at).clients client.0) (add-zero from)
  still_until from (suc more) within elsewhere =
      let below : from + more < length trace.entries = omega arith in
      let entry : Entry = some_at trace.entries (from + more) below in
      let count : from + suc more ≡ (from + more) + 1 = omega arith in
      ap (λ (at : ℕ). numbered (world_after trace at).clients client.0) count
      ∙ still_there trace is_run have client (from + more) (elsewhere (from + more) (omega arith) (omega arith))
      (get_or trace.entries (from + more) entry) (slice_get-get_or trace.entries (from + more) entry below)
      ∙ still_until from more (omega arith) (λ at least most. elsewhere at least (omega (arith, most)))
    where
      some_at : (entries : List Entry) (at : ℕ) → at < length entries → Entry
      some_at [] at within = absurd (omega arith)
      some_at (entry ∷ later) at within = entry

  still_from : (from to : ℕ) → from ≤ to → to ≤ length trace.entries
      → ((at : ℕ) → from ≤ at → at < to → IsElsewhere trace client at)
      → numbered (world_after trace to).clients client.0 ≡ numbered (world_after trace from).clients client.0
  still_from from to order within elsewhere =
      let sum : from + (to - from) ≡ to = omega arith in
      ap (λ (at : ℕ). numbered (world_after trace at).clients client.0) (sym sum)
      ∙ still_until from (to - from) (omega arith) (λ at least most. elsewhere at least (omega (arith, most, sum)))

  -- ---- one reply after another

  module _ (parts : List (ObjectId × Method)) (stamps : List (ObjectId × Stamp)) (answer : Answer) where
    abbrev told : Verdict
    told = verdict.Done stamps answer

    -- at the turn's last event the client takes the verdict of its replica
    pub record IsHeard (turn : RoundTurn) : Type 0 where
      pub entry : Entry
      pub is_entry : slice_get trace.entries turn.heard ≡ Some entry
      pub text : List ℕ
      pub hands : handed (world_after trace turn.heard) entry.event ≡ Some (party.Client client, text)
      pub shown : List Sealed
      pub mac : List ℕ
      pub takes : (state : ClientState) → numbered (world_after trace turn.heard).clients client.0 ≡ Some state
          → client_step state text
          ≡ client_on_frame state
          (frame.Reply (record { 0 = turn.replica }) state.me number 1 told [] shown mac)

    -- the client asked for the act, and counts such verdicts alone
    pub record IsWaitingAt (from : ℕ) (work : Work) : Type 0 where
      pub state : ClientState
      pub is_state : numbered (world_after trace from).clients client.0 ≡ Some state
      pub under_way : state.work ≡ Some work
      pub of_number : work.number ≡ number
      pub of_round : work.round ≡ 1
      pub is_act : work.body ≡ body.Act parts
      pub asking : is_asking work.phase ≡ true
      pub all : AllTell told work.replies

    -- the operation ends at this event, and before it nothing of the client happens from that one on
    pub record EndsAfter (from last : ℕ) : Type 0 where
      pub order : from ≤ last
      pub within : last < length trace.entries
      pub quiet : (at : ℕ) → from ≤ at → at < last → IsQuietAt at
      pub entry : Entry
      pub is_entry : slice_get trace.entries last ≡ Some entry
      pub sends_none : entry.letters ≡ []
      pub is_end : outcome_in client number entry.ended ≡ Some (outcome.Done answer)

    abbrev NoneReplied : List Counted → List RoundTurn → Type 0
    NoneReplied replies turns = AllByRecursion (λ (turn : RoundTurn). has_replied replies turn.replica ≡ false) turns

    -- what the client makes of the next reply
    module _ (from : ℕ) (work : Work) (waiting : IsWaitingAt from work) (turn : RoundTurn) (heard : IsHeard turn)
        (order : from ≤ turn.heard)
        (elsewhere : (at : ℕ) → from ≤ at → at < turn.heard → IsElsewhere trace client at)
        (first : has_replied work.replies turn.replica ≡ false) where
      below : turn.heard < length trace.entries
      below = slice_get_within trace.entries turn.heard heard.entry heard.is_entry

      abbrev state : ClientState
      state = waiting.state

      is_state : numbered (world_after trace turn.heard).clients client.0 ≡ Some state
      is_state = still_from from turn.heard order (omega (arith, below)) elsewhere ∙ waiting.is_state

      abbrev kept : ClientState
      kept = record state { kept = keep_all work.number work.round heard.shown state.kept }

      abbrev after : Work
      after = with_verdict work (record { 0 = turn.replica }) told []

      move : IsMoveAt trace client turn.heard state (client_step state heard.text) heard.entry
      move =
          moved_at trace is_run client turn.heard heard.entry heard.is_entry state is_state (heard.entry).event
          (λ (it : ClientState). client_step it heard.text)
          (handed_step (world_after trace turn.heard) (heard.entry).event (party.Client client) heard.text heard.hands)

      takes : client_step state heard.text
          ≡ client_on_frame state
          (frame.Reply (record { 0 = turn.replica }) state.me work.number work.round told [] heard.shown heard.mac)
      takes =
          heard.takes state is_state
          ∙ (λ i. client_on_frame state (frame.Reply (record { 0 = turn.replica }) state.me (sym waiting.of_number i)
          (sym waiting.of_round i) told [] heard.shown heard.mac))

      quiet_before : (at : ℕ) → from ≤ at → at < turn.heard → IsQuietAt at
      quiet_before at least most entry is_entry =
          none_there trace is_run have client at (elsewhere at least most) entry is_entry

      bounds_here : state.keys.bounds ≡ trace.setup.bounds
      bounds_here =
          ap (λ keys. keys.bounds)
          (clients_keyed trace turn.heard (omega (arith, below)) client.0 state is_state).keys_are

      -- below a quorum it waits on
      module _ (few : length work.replies + 1 < quorum trace.setup.bounds) where
        waits : client_step state heard.text ≡ stays (record kept { work = Some after })
        waits =
            takes ∙ waits_below state work parts waiting.is_act waiting.asking waiting.under_way stamps answer
            waiting.all (record { 0 = turn.replica }) first [] heard.shown heard.mac
            (subst (λ (it : ℕ). length work.replies + 1 < quorum it) (sym bounds_here) few)

        waits_on : IsWaitingAt (turn.heard + 1) after
        waits_on = record {
          state = record kept { work = Some after };
          is_state = move.next ∙ ap (λ (it : Stepped). Some it.state) waits;
          under_way = refl;
          of_number = waiting.of_number;
          of_round = waiting.of_round;
          is_act = waiting.is_act;
          asking = waiting.asking;
          all = each_append (λ (counted : Counted). counted.verdict ≡ told) work.replies
              (record { replica = record { 0 = turn.replica }; verdict = told; culled = [] } ∷ []) waiting.all
              (refl, tt);
        }

        quiet_here : IsQuietAt turn.heard
        quiet_here entry is_entry =
            let same : heard.entry ≡ entry = same_entry heard.entry entry (sym heard.is_entry ∙ is_entry) in
            let letters : entry.letters ≡ [] =
            ap (λ (it : Entry). it.letters) (sym same) ∙ move.letters ∙ ap (λ (it : Stepped). it.letters) waits in
            let ended : entry.ended ≡ None =
            ap (λ (it : Entry). it.ended) (sym same) ∙ move.ended
            ∙ ap (λ (it : Stepped). ended_by client state.work it.ended) waits
            ∙ ap (λ (it : Option Work). ended_by client it None) waiting.under_way in
            record {
              others = subst (All (λ (letter : Letter). letter.from ≢ party.Client client)) (sym letters)
                  (All-nil (λ (letter : Letter). letter.from ≢ party.Client client));
              none_ends = λ other. ap (outcome_in client other) ended;
            }
          where
            same_entry : (one other : Entry) → Some one ≡ Some other → one ≡ other
            same_entry one other is = cc

      -- at a quorum the operation ends
      module _ (many : quorum trace.setup.bounds ≤ length work.replies + 1) where
        stops : client_step state heard.text ≡ ends kept (outcome.Done answer)
        stops =
            takes ∙ ends_at state work parts waiting.is_act waiting.asking waiting.under_way stamps answer
            waiting.all (record { 0 = turn.replica }) first [] heard.shown heard.mac
            (subst (λ (it : ℕ). quorum it ≤ length work.replies + 1) (sym bounds_here) many)

        mine : outcome_in client number (Some (client, number, outcome.Done answer)) ≡ Some (outcome.Done answer)
        mine =
            let one : (client.0 == client.0) ≡ true = grind (arith, nat_tests) in
            let two : (number == number) ≡ true = grind (arith, nat_tests) in
            rw (one, two) refl

        ends_here : EndsAfter from turn.heard
        ends_here = record {
          order = order;
          within = below;
          quiet = quiet_before;
          entry = heard.entry;
          is_entry = heard.is_entry;
          sends_none = move.letters ∙ ap (λ (it : Stepped). it.letters) stops;
          is_end = ap (outcome_in client number)
              (move.ended ∙ ap (λ (it : Stepped). ended_by client state.work it.ended) stops
              ∙ ap (λ (it : Option Work). ended_by client it (Some (outcome.Done answer))) waiting.under_way
              ∙ ap (λ (it : ℕ). Some (client, it, outcome.Done answer)) waiting.of_number) ∙ mine;
        }

    -- ---- all of them

    -- each is of another replica than those behind it
    abbrev pub AreApart : List RoundTurn → Type 0
    AreApart [] = Unit {0}
    AreApart (turn ∷ later) =
        AllByRecursion (λ (other : RoundTurn). turn.replica ≢ other.replica) later × AreApart later

    other_number : (one two : ℕ) → one ≢ two → (one == two || false) ≡ false
    other_number one two apart = grind (arith, nat_tests)

    none_more : (replies : List Counted) (turn : RoundTurn) (later : List RoundTurn) → NoneReplied replies later
        → AllByRecursion (λ (other : RoundTurn). turn.replica ≢ other.replica) later
        → NoneReplied (with_reply replies (record { 0 = turn.replica }) told []) later
    none_more replies turn [] none apart = tt
    none_more replies turn (other ∷ later) none apart =
        let counted : Counted = record { replica = record { 0 = turn.replica }; verdict = told; culled = [] } in
        let here : has_replied (with_reply replies (record { 0 = turn.replica }) told []) other.replica ≡ false =
        list_any-append (λ (it : Counted). (it.replica).0 == other.replica) replies (counted ∷ [])
        ∙ ap (λ (test : Bool). test || (turn.replica == other.replica || false)) none.0
        ∙ other_number turn.replica other.replica apart.0 in
        (here, none_more replies turn later none.1 apart.1)

    ends_later : (from : ℕ) (turn : RoundTurn) (last : ℕ) → from ≤ turn.heard
        → ((at : ℕ) → from ≤ at → at < turn.heard → IsQuietAt at) → IsQuietAt turn.heard
        → EndsAfter (turn.heard + 1) last → EndsAfter from last
    ends_later from turn last order before here after =
        let later : turn.heard + 1 ≤ last = after.order in
        record {
          order = omega arith;
          within = after.within;
          quiet = λ at least most. by at least most (cases_order at turn.heard);
          entry = after.entry;
          is_entry = after.is_entry;
          sends_none = after.sends_none;
          is_end = after.is_end;
        }
      where
        by : (at : ℕ) → from ≤ at → at < last → (at ≡ turn.heard) ⊎ ((at < turn.heard) ⊎ (turn.heard < at))
            → IsQuietAt at
        by at least most (inl same) = subst IsQuietAt (sym same) here
        by at least most (inr (inl sooner)) = before at least sooner
        by at least most (inr (inr beyond)) = after.quiet at (omega arith) most

    pub hears_all : (turn : RoundTurn) (later : List RoundTurn) (from : ℕ) (work : Work) → IsWaitingAt from work
        → AllByRecursion IsHeard (turn ∷ later) → HearsNext trace client from (turn ∷ later)
        → NoneReplied work.replies (turn ∷ later) → AreApart (turn ∷ later)
        → length work.replies + length (turn ∷ later) ≡ quorum trace.setup.bounds
        → EndsAfter from (last_heard from (turn ∷ later))
    unfolding HearsNext last_heard
    hears_all turn [] from work waiting heard hears none apart sum =
        ends_here from work waiting turn heard.0 hears.0 hears.1 none.0 (omega arith)
    hears_all turn (next ∷ later) from work waiting heard hears none apart sum =
        let few : length work.replies + 1 < quorum trace.setup.bounds = omega arith in
        let more : Work = with_verdict work (record { 0 = turn.replica }) told [] in
        let counted : length more.replies ≡ length work.replies + 1 =
        length-append work.replies
        (record { replica = record { 0 = turn.replica }; verdict = told; culled = [] } ∷ []) in
        let rest : length more.replies + length (next ∷ later) ≡ quorum trace.setup.bounds = omega arith in
        ends_later from turn (last_heard next.heard later) hears.0
        (quiet_before from work waiting turn heard.0 hears.0 hears.1 none.0)
        (quiet_here from work waiting turn heard.0 hears.0 hears.1 none.0 few)
        (hears_all next later (turn.heard + 1) more
        (waits_on from work waiting turn heard.0 hears.0 hears.1 none.0 few) heard.1 hears.2
        (none_more work.replies turn (next ∷ later) none.1 apart.0) apart.1 rest)
