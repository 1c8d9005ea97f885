-- An act whose client's cached histories are current ends in one round.
use Rattle.std.proofs.Common.{◌≡◌, ◌≢◌, ℕ, zero, suc, ◌+◌, ◌-◌, ◌<◌, ◌≤◌, false, List, [], ◌∷◌, length, take, drop, None, Some, refl, sym, ap, subst, ◌∙◌, arith, inl, inr}
use Rattle.std.specs.Prelude.{slice_get, Contains, ◌⊎◌}
use Rattle.std.specs.List.{All, AllPairs, AllByRecursion}
use Rattle.std.proofs.lemmas.Bool.{cases_order}
use Rattle.std.proofs.lemmas.List.Elements.{All-contains, All-head, All-tail}
use Rattle.std.proofs.lemmas.Option.{none-some, same_Some}
use Rattle.qu_base.specs.Bounds.{quorum}
use Rattle.qu_base.specs.declared.party.ClientId.{ClientId}
use Rattle.qu_base.specs.declared.party.ObjectId.{ObjectId}
use Rattle.qu_base.specs.declared.party.Party.TheVariants as party
use Rattle.qu_stamp.specs.declared.candidate.Candidate.{Candidate}
use Rattle.qu_stamp.specs.declared.stamp.Stamp.{Stamp}
use Rattle.qu_objects.specs.declared.act.Method.{Method}
use Rattle.qu_objects.specs.declared.answer.Answer.{Answer}
use Rattle.qu_objects.specs.declared.op.Outcome.{Outcome}
use Rattle.qu_objects.specs.declared.op.Outcome.TheVariants as outcome
use Rattle.qu_objects.specs.declared.state.ObjState.{ObjState}
use Rattle.qu_frames.specs.declared.frame.Letter.{Letter}
use Rattle.qu_machine.specs.declared.record.OpRecord.{OpRecord}
use Rattle.qu_client.specs.declared.state.ClientState.{ClientState}
use Rattle.qu_client.specs.declared.work.Work.{Work}
use Rattle.qu_client.specs.Verdicts.{has_replied}
use Rattle.qu_trace.specs.declared.trace.Entry.{Entry}
use Rattle.qu_trace.specs.declared.trace.Trace.{Trace}
use Rattle.qu_trace.specs.Operation.{begun_by, end_from, outcome_in}
use Rattle.qu_world.specs.Run.{IsRun}
use Rattle.qu_claims.specs.Parts.{Names}
use Rattle.qu_claims.specs.RunSetting.{setting}
use Rattle.qu_claims.specs.Values.{HasVersion}
use Rattle.qu_chain.specs.Joint.{Joint}
use Rattle.qu_chain.specs.Laws.{Laws}
use Rattle.qu_runs.specs.Plain.{ArePlain}
use Rattle.qu_runs.proofs.Small.{quorum_outnumbers}
use Rattle.qu_values.proofs.Requests.ClientFacts.{ClientFacts}
use Rattle.qu_runs.proofs.Acts.OneAct.{ActsAreOne}
use Rattle.qu_values.proofs.Updating.UpdateFacts.{UpdateFacts}
use Rattle.qu_claims.specs.Quick.{SendsAt, first_sets, RoundTurn, IsQuickTurn, HearsNext, last_heard, IsQuick, EndsInOneRound, QuickIsOneRound}
use Rattle.qu_points.proofs.Operations.Began.{IsBegunIn}
use Rattle.qu_quick.proofs.Hearing.{IsHeard, IsWaitingAt, EndsAfter, AreApart, hears_all}
use Rattle.qu_quick.proofs.Invoked.{began, index_is, first_entry, is_first, work, asked_parties_are, asks_a_quorum, none_ends_first, after_first, number_is}
use Rattle.qu_quick.proofs.Turns.{its_versions, its_version-is, brings, told_stamps, told_answer, turn_heard}

-- ---- the end that a trace shows

drop_at : {X : Type 0} (n : ℕ) (items : List X) (k : ℕ) → slice_get (drop n items) k ≡ slice_get items (n + k)
drop_at zero items k =
    let same : k ≡ zero + k = omega arith in
    ap (slice_get items) same
drop_at (suc n) [] k = refl
drop_at (suc n) (item ∷ later) k =
    let same : suc (n + k) ≡ suc n + k = omega arith in
    drop_at n later k ∙ ap (slice_get (item ∷ later)) same

-- the first end of an operation among these entries
end_found : (entries : List Entry) (client : ClientId) (number at more : ℕ) (how : Outcome) (entry : Entry)
    → ((k : ℕ) → k < more → (it : Entry) → slice_get entries k ≡ Some it → outcome_in client number it.ended ≡ None)
    → slice_get entries more ≡ Some entry → outcome_in client number entry.ended ≡ Some how
    → end_from client number at entries ≡ Some (at + more, how)
unfolding end_from
end_found [] client number at more how entry before is_entry is_end = absurd (none-some entry is_entry)
end_found (first ∷ later) client number at zero how entry before is_entry is_end =
    let same : at ≡ at + zero = omega arith in
    let here : outcome_in client number first.ended ≡ Some how =
    ap (λ (it : Entry). outcome_in client number it.ended) (same_Some first entry is_entry) ∙ is_end in
    rw here (ap (λ (it : ℕ). Some (it, how)) same)
end_found (first ∷ later) client number at (suc more) how entry before is_entry is_end =
    let none : outcome_in client number first.ended ≡ None = before 0 (omega arith) first refl in
    let sum : (at + 1) + more ≡ at + suc more = omega arith in
    let rest : end_from client number (at + 1) later ≡ Some ((at + 1) + more, how) =
    end_found later client number (at + 1) more how entry
    (λ k below it is. before (suc k) (omega (arith, below)) it is) is_entry is_end in
    rw none (rest ∙ ap (λ (it : ℕ). Some (it, how)) sum)

-- ---- turns

each_of : {X : Type 0} (P Q : X → Type 0) → ((item : X) → P item → Q item) → (items : List X) → All P items
    → AllByRecursion Q items
each_of P Q turned [] all = tt
each_of P Q turned (item ∷ later) all =
    (turned item (All-head P item later all), each_of P Q turned later (All-tail P item later all))

module _ (trace : Trace) (is_run : IsRun trace) (have : ArePlain trace) (clients : ClientFacts trace)
    (one_act : ActsAreOne trace) (laws : Laws (setting trace)) (joint : Joint (setting trace))
    (facts : UpdateFacts trace) where
  module _ (operation : OpRecord) (parts : List (ObjectId × Method)) (bases : ObjectId → Candidate) (begin last : ℕ)
      (quick : IsQuick trace operation parts bases begin last) where
    abbrev client : ClientId
    client = operation.client

    abbrev state : ClientState
    state = quick.state

    abbrev IsTurn : RoundTurn → Type 0
    IsTurn turn = IsQuickTurn trace begin operation parts (first_sets state operation.op) bases turn

    -- ---- of the first turn

    module _ (turn : RoundTurn) (first : IsTurn turn) where
      versions : ObjectId → ObjState
      versions =
          its_versions trace is_run have clients one_act laws joint facts operation quick.of_trace begin quick.begins
          state quick.is_state parts quick.is_act bases quick.current quick.in_time
          turn first

      has : (object : ObjectId) → Names parts object → HasVersion trace object (bases object) (versions object)
      unfolding versions
      has =
          its_version-is trace is_run have clients one_act laws joint facts operation quick.of_trace begin quick.begins
          state quick.is_state parts quick.is_act bases quick.current quick.in_time
          turn first

      abbrev stamps : List (ObjectId × Stamp)
      stamps =
          told_stamps trace is_run have clients one_act laws joint facts operation quick.of_trace begin quick.begins
          state quick.is_state parts quick.is_act bases quick.current quick.in_time
          versions has

      abbrev answer : Answer
      answer =
          told_answer trace is_run have clients one_act laws joint facts operation quick.of_trace begin quick.begins
          state quick.is_state parts quick.is_act bases quick.current quick.in_time
          versions has

      abbrev Heard : RoundTurn → Type 0
      Heard other = IsHeard trace is_run have client operation.number parts stamps answer other

      heard_of : (other : RoundTurn) → IsTurn other → Heard other
      heard_of other it =
          turn_heard trace is_run have clients one_act laws joint facts operation quick.of_trace begin quick.begins
          state quick.is_state parts quick.is_act bases quick.current quick.in_time
          versions has other it

      abbrev first_work : Work
      first_work =
          work trace is_run have operation quick.of_trace begin quick.begins state quick.is_state parts
          quick.is_act bases quick.current

      waiting : IsWaitingAt trace is_run have client operation.number parts stamps answer (begin + 1) first_work
      waiting = record {
        state = _;
        is_state = after_first trace is_run have operation quick.of_trace begin quick.begins state quick.is_state parts
            quick.is_act bases quick.current;
        under_way = refl;
        of_number = number_is trace is_run have operation quick.of_trace begin quick.begins state quick.is_state parts
            quick.is_act bases quick.current first.request first.sent first.state first.mac
            (brings trace is_run have clients one_act laws joint facts operation quick.of_trace begin quick.begins
            state quick.is_state parts quick.is_act bases quick.current
            quick.in_time turn first);
        of_round = refl;
        is_act = refl;
        asking = refl;
        all = tt;
      }

      abbrev Apart : List RoundTurn → Type 0
      Apart turns = AreApart trace is_run have client operation.number parts stamps answer turns

      apart_all : (turns : List RoundTurn)
          → AllPairs (λ (one other : RoundTurn). one.replica ≢ other.replica) turns → Apart turns
      apart_all [] pairs = tt
      apart_all (it ∷ later) pairs = (
        each_of (λ (other : RoundTurn). it.replica ≢ other.replica) (λ (other : RoundTurn). it.replica ≢ other.replica)
            (λ other apart. apart) later (λ j default below. pairs 0 (suc j) default (omega arith) (omega
            (arith, below))),
        apart_all later (λ i j default order below. pairs (suc i) (suc j) default (omega (arith, order))
            (omega (arith, below))),
      )

      none_replied : (turns : List RoundTurn)
          → AllByRecursion (λ (it : RoundTurn). has_replied [] it.replica ≡ false) turns
      none_replied [] = tt
      none_replied (it ∷ later) = (refl, none_replied later)

      module _ (later : List RoundTurn) (are : quick.turns ≡ turn ∷ later) where
        ends : EndsAfter trace is_run have client operation.number parts stamps answer (begin + 1) last
        unfolding last_heard
        ends =
            subst (EndsAfter trace is_run have client operation.number parts stamps answer (begin + 1))
            (sym (quick.last_is ∙ ap (last_heard begin) are))
            (hears_all trace is_run have client operation.number parts stamps answer turn later (begin + 1)
            first_work waiting
            (each_of IsTurn Heard heard_of (turn ∷ later) (subst (All IsTurn) are quick.quick))
            (subst (HearsNext trace client (begin + 1)) are quick.hears) (none_replied (turn ∷ later))
            (apart_all (turn ∷ later)
            (subst (AllPairs (λ (one other : RoundTurn). one.replica ≢ other.replica)) are quick.different))
            (sum (ap (λ (turns : List RoundTurn). length turns) (sym are) ∙ quick.quorum_of_turns)))
          where
            sum : {n : ℕ} → length (turn ∷ later) ≡ n → zero + length (turn ∷ later) ≡ n
            sum is = omega (arith, is)

        begun_at : IsBegunIn trace.entries operation
        begun_at =
            began trace is_run have operation quick.of_trace begin quick.begins state quick.is_state

        at_is : begun_at.index ≡ begin
        unfolding begun_at
        at_is = index_is trace is_run have operation quick.of_trace begin quick.begins state quick.is_state

        abbrev entries : List Entry
        entries = drop begin trace.entries

        reply_is : operation.reply ≡ end_from client operation.number (begin + 1) entries
        reply_is =
            ap (λ (it : OpRecord). it.reply) begun_at.record_is
            ∙ (λ i. end_from client (sym number_so i) (at_is i + 1) (drop (at_is i) trace.entries))
          where
            number_so : operation.number ≡ begun_by client (take begun_at.index trace.entries) + 1
            number_so = ap (λ (it : OpRecord). it.number) begun_at.record_is

        -- nothing ends before the last reply
        none_before : (k : ℕ) → k < last - begin → (it : Entry) → slice_get entries k ≡ Some it
            → outcome_in client operation.number it.ended ≡ None
        none_before zero below it is =
            ap (λ (entry : Entry). outcome_in client operation.number entry.ended)
            (same_Some it (first_entry trace is_run have operation quick.of_trace begin quick.begins state
            quick.is_state)
            (sym is ∙ drop_at begin trace.entries zero ∙ ap (slice_get trace.entries) (omega arith)
            ∙ is_first trace is_run have operation quick.of_trace begin quick.begins state quick.is_state))
            ∙ none_ends_first trace is_run have operation quick.of_trace begin quick.begins state quick.is_state parts
            quick.is_act bases quick.current
        none_before (suc k) below it is =
            (ends.quiet (begin + suc k) (omega arith) (omega (arith, below)) it
            (sym (drop_at begin trace.entries (suc k)) ∙ is)).none_ends operation.number

        done : operation.reply ≡ Some (last + 1, outcome.Done answer)
        done =
            let order : begin + 1 ≤ last = ends.order in
            let place : begin + (last - begin) ≡ last = omega arith in
            let event : (begin + 1) + (last - begin) ≡ last + 1 = omega arith in
            reply_is
            ∙ end_found entries client operation.number (begin + 1) (last - begin) (outcome.Done answer) ends.entry
            none_before
            (drop_at begin trace.entries (last - begin) ∙ ap (slice_get trace.entries) place ∙ ends.is_entry)
            ends.is_end
            ∙ ap (λ (it : ℕ). Some (it, outcome.Done answer)) event

        no_more : (at : ℕ) (letter : Letter) → begin < at → at ≤ last → SendsAt trace at letter
            → letter.from ≢ party.Client client
        no_more at letter after most sends = by (cases_order at last)
          where
            at_end : at ≡ last → Contains [] letter
            at_end same =
                subst (λ (letters : List Letter). Contains letters letter)
                (ap (λ (it : Entry). it.letters)
                (same_Some sends.entry ends.entry
                (sym sends.is_entry ∙ ap (slice_get trace.entries) same ∙ ends.is_entry)) ∙ ends.sends_none) sends.sent

            by : (at ≡ last) ⊎ ((at < last) ⊎ (last < at)) → letter.from ≢ party.Client client
            by (inl same) = absurd (omega (arith, (at_end same).1))
            by (inr (inl before)) =
                All-contains (λ (it : Letter). it.from ≢ party.Client client) (sends.entry).letters letter
                (ends.quiet at (omega (arith, after)) before sends.entry sends.is_entry).others sends.sent
            by (inr (inr beyond)) = absurd (omega (arith, most, beyond))

        ends_so : EndsInOneRound trace operation parts bases begin last
        ends_so = record {
          entry = first_entry trace is_run have operation quick.of_trace begin quick.begins state quick.is_state;
          is_entry = is_first trace is_run have operation quick.of_trace begin quick.begins state quick.is_state;
          asked = asked_parties_are trace is_run have operation quick.of_trace begin quick.begins state quick.is_state
              parts quick.is_act bases quick.current;
          letters = asks_a_quorum trace is_run have operation quick.of_trace begin quick.begins state quick.is_state
              parts quick.is_act bases quick.current;
          no_more = no_more;
          versions = versions;
          of_bases = has;
          done = done;
        }

    one_turn : (turns : List RoundTurn) → quick.turns ≡ turns → 1 ≤ length turns
        → EndsInOneRound trace operation parts bases begin last
    one_turn [] are some = absurd (omega arith)
    one_turn (turn ∷ later) are some =
        ends_so turn (All-head IsTurn turn later (subst (All IsTurn) are quick.quick)) later are

    in_one_round : EndsInOneRound trace operation parts bases begin last
    in_one_round =
        let more : trace.setup.bounds < quorum trace.setup.bounds =
        quorum_outnumbers trace.setup.bounds (is_run.setup).some_faults in
        let all : length quick.turns ≡ quorum trace.setup.bounds = quick.quorum_of_turns in
        one_turn quick.turns refl (omega arith)

  -- an act that is quick ends in one round
  pub quick_is_one_round : QuickIsOneRound trace
  quick_is_one_round = in_one_round
