-- Operations of the kept steps and of the entries that tell them.
use Rattle.std.proofs.Common.{◌≡◌, ℕ, zero, suc, ◌+◌, Bool, true, false, cond, List, [], ◌∷◌, ◌++◌, length, Option, None, Some, refl, sym, ap, subst, ◌∙◌, append_assoc, append-nil, arith, inl, inr}
use Rattle.std.specs.Prelude.{option_map, nat_lt}
use Rattle.std.specs.List.{AllByRecursion}
use Rattle.std.proofs.lemmas.Bool.{cases_Bool}
use Rattle.std.proofs.lemmas.List.{length-append}
use Rattle.std.proofs.lemmas.Option.{none-some, same_Some}
use Rattle.std.proofs.lemmas.Grind.{flat_map-append}
use Rattle.qu_base.specs.declared.party.ClientId.{ClientId}
use Rattle.qu_base.specs.declared.party.Party.{Party}
use Rattle.qu_base.specs.declared.party.Party.TheVariants as party
use Rattle.qu_seal.specs.Keys.{Ring}
use Rattle.qu_objects.specs.declared.op.Op.{Op}
use Rattle.qu_objects.specs.declared.op.Outcome.{Outcome}
use Rattle.qu_frames.specs.declared.frame.Letter.{Letter}
use Rattle.qu_client.specs.declared.state.ClientState.{ClientState}
use Rattle.qu_client.specs.State.{Stepped, client_at_start}
use Rattle.qu_client.specs.declared.work.Work.{Work}
use Rattle.qu_client.specs.Steps.{client_invoke, client_step, client_tick}
use Rattle.qu_client.specs.Sound.{NumbersWithin}
use Rattle.qu_client.proofs.Cases.{OfEach, step_cases, tick_cases, invoke_cases}
use Rattle.qu_question.specs.declared.kept.Kept.{Kept}
use Rattle.qu_client.proofs.Laws.{NumbersWithin-opening, NumbersWithin-step, NumbersWithin-tick, NumbersWithin-invoke, client_step-me, client_tick-me, client_invoke-me}
use Rattle.qu_trace.specs.Faulty.{is_same, is_faulty}
use Rattle.qu_trace.specs.declared.trace.Setup.{Setup}
use Rattle.qu_trace.specs.declared.event.Event.{Event}
use Rattle.qu_trace.specs.declared.trace.Entry.{Entry}
use Rattle.qu_world.specs.State.{ring_of}
use Rattle.qu_world.specs.Step.{ended_by}
use Rattle.qu_replay.specs.Steps.{Actor, Replicates, Asks, actor_moved, IsTakenByClient}
use Rattle.qu_replay.specs.declared.kept_step.KeptStep.{KeptStep}
use Rattle.qu_frames.specs.declared.input.Input.{Input}
use Rattle.qu_frames.specs.declared.input.Input.TheVariants.{Frame, Tick, Invoke}
use Rattle.qu_replay.specs.Replays.{IsStepMade, IsReplay, IsReplayOf, own_steps, opening_actor, opening_client}
use Rattle.qu_replay.specs.Told.{AreTold, IsEventOf}
use Rattle.qu_replay.specs.Operations.{begun_operations, begun_in, ended_operations, ended_in, invoked_at, invoked_by, IsNotInjected, under_way, IsBalanced}
use Rattle.qu_replay.proofs.Told.{own_here, own_other}

-- ---- of entries

nothing : (test : Bool) → cond test (begun_in Tick) [] ≡ []
nothing true = refl
nothing false = refl

event_invoked : (sent : List Letter) (who : Party) (input : Input) (happened : Event) (me : ClientId)
    → IsEventOf sent who input happened
    → invoked_at me happened ≡ cond (is_same who (party.Client me)) (begun_in input) []
event_invoked sent who (Frame name text) happened me told =
    ap (invoked_at me) told.event ∙ sym (nothing (is_same who (party.Client me)))
event_invoked sent (party.Replica who) Tick happened me told = absurd told
event_invoked sent (party.Replica who) (Invoke op) happened me told = absurd told
event_invoked sent (party.Client who) Tick happened me told =
    ap (invoked_at me) told ∙ sym (nothing (is_same (party.Client who) (party.Client me)))
event_invoked sent (party.Client who) (Invoke op) happened me told = ap (invoked_at me) told

-- the entries tell the operations that each client began, in their order
pub told_invoked : (sent : List Letter) (xs : List (Party × KeptStep)) (entries : List Entry) (me : ClientId)
    → AreTold sent xs entries → invoked_by me entries ≡ begun_operations (own_steps (party.Client me) xs)
unfolding AreTold own_steps invoked_by begun_operations
told_invoked sent [] [] me told = refl
told_invoked sent [] (entry ∷ entries) me told = absurd told
told_invoked sent (x ∷ xs) [] me told = absurd told
told_invoked sent (x ∷ xs) (entry ∷ entries) me told =
    let rest : invoked_by me entries ≡ begun_operations (own_steps (party.Client me) xs) =
    told_invoked (sent ++ entry.letters) xs entries me told.1 in
    let first = event_invoked sent x.0 x.1.input entry.event me told.0.event in
    elim (cases_Bool (is_same x.0 (party.Client me))) [
      | inl same ↦
          let here : invoked_at me entry.event ≡ begun_in x.1.input =
          first ∙ ap (λ (it : Bool). cond it (begun_in x.1.input) []) same in
          ap (λ (it : List Op). it ++ invoked_by me entries) here
          ∙ ap (λ (it : List Op). begun_in x.1.input ++ it) rest
          ∙ sym (ap begun_operations (own_here x xs (party.Client me) same))
      | inr apart ↦
          let here : invoked_at me entry.event ≡ [] =
          first ∙ ap (λ (it : Bool). cond it (begun_in x.1.input) []) apart in
          ap (λ (it : List Op). it ++ invoked_by me entries) here
          ∙ rest ∙ sym (ap begun_operations (own_other x xs (party.Client me) apart))
    ]

event_sent : (sent : List Letter) (who : Party) (input : Input) (happened : Event) → IsEventOf sent who input happened
    → IsNotInjected happened
event_sent sent who (Frame name text) happened told = subst IsNotInjected (sym told.event) tt
event_sent sent (party.Replica who) Tick happened told = absurd told
event_sent sent (party.Replica who) (Invoke op) happened told = absurd told
event_sent sent (party.Client who) Tick happened told = subst IsNotInjected (sym told) tt
event_sent sent (party.Client who) (Invoke op) happened told = subst IsNotInjected (sym told) tt

pub told_sent : (sent : List Letter) (xs : List (Party × KeptStep)) (entries : List Entry)
    → AreTold sent xs entries → AllByRecursion (λ (entry : Entry). IsNotInjected entry.event) entries
unfolding AreTold
told_sent sent [] [] told = tt
told_sent sent [] (entry ∷ entries) told = absurd told
told_sent sent (x ∷ xs) [] told = absurd told
told_sent sent (x ∷ xs) (entry ∷ entries) told =
    (event_sent sent x.0 x.1.input entry.event told.0.event, told_sent (sent ++ entry.letters) xs entries told.1)

-- ---- of replays

-- what each step keeps holds where a replay ends
pub replay_holds : (P : List KeptStep → Actor → Type 0) (me : Party)
    → ((before : List KeptStep) (actor : Actor) (step : KeptStep) → P before actor → IsStepMade me actor step
    → P (before ++ step ∷ []) (actor_moved me actor step.input).actor)
    → (before : List KeptStep) (first : Actor) (steps : List KeptStep) (last : Actor)
    → IsReplay me first steps last → P before first → P (before ++ steps) last
unfolding IsReplay
replay_holds P me keeps before first [] last replay holds =
    subst (λ (it : List KeptStep). P it last) (sym (append-nil before)) (subst (P before) replay holds)
replay_holds P me keeps before first (step ∷ later) last replay holds =
    subst (λ (it : List KeptStep). P it last) (append_assoc before (step ∷ []) later)
    (replay_holds P me keeps (before ++ step ∷ []) (actor_moved me first step.input).actor later last replay.1
    (keeps before first step holds replay.0))

abbrev Balanced : ClientId → List KeptStep → Actor → Type 0
Balanced me before (Asks state) = IsBalanced me before state
Balanced me before (Replicates state) = Unit {0}

no_end : (me : ClientId) (work : Option Work) → length (ended_in (ended_by me work None)) ≡ 0
no_end me None = refl
no_end me (Some work) = refl

an_end : (me : ClientId) (work : Option Work) (how : Outcome)
    → length (ended_in (ended_by me work (Some how))) ≡ under_way work
an_end me None how = refl
an_end me (Some work) how = refl

-- a step or tick ends what it closes
abbrev Balances : ClientId → ClientState → Stepped → Type 0
Balances me state stepped =
    under_way state.work ≡ length (ended_in (ended_by me state.work stepped.ended)) + under_way stepped.state.work

working : (state : ClientState) (work : Work) → state.work ≡ Some work → under_way state.work ≡ 1
working state work is = ap under_way is

-- of what is kept nothing has to be known
abbrev Any : List Kept → Type 0
Any kept = Unit {0}

balances_each : (me : ClientId) (state : ClientState) → OfEach state Any (Balances me state)
balances_each me state =
    let none : length (ended_in (ended_by me state.work None)) ≡ 0 = no_end me state.work in
    record {
      quiet = record {
        same = omega (arith, none);
        keeps = λ kept held. omega (arith, none);
        counts = λ kept work replica number round verdict culled held is counting.
            let one = working state work is in omega (arith, none, one);
        ends = λ kept work end held is. let some = an_end me state.work end in omega (arith, some);
        rests = λ kept work named held is _ more. let one = working state work is in omega (arith, none, one);
        ticks = λ work ticks is. let one = working state work is in omega (arith, none, one);
      };
      begins = λ kept work held next. let one = working state next.last next.is in omega (arith, none, one);
      asks_others = λ work is stands. let one = working state work is in omega (arith, none, one);
    }

step_balance : (me : ClientId) (state : ClientState) (text : List ℕ) → Balances me state (client_step state text)
step_balance me state text =
    step_cases state Any (Balances me state) (λ _ _ _ held. held) (balances_each me state) text
    (λ _ _ _ _ _ _ _ _ _. tt)

tick_balance : (me : ClientId) (state : ClientState) → Balances me state (client_tick state)
tick_balance me state =
    tick_cases state Any (Balances me state) (λ _ _ _ held. held) (balances_each me state) tt

invoke_opens : (state : ClientState) (op : Op) → under_way (client_invoke state op).state.work ≡ 1
invoke_opens state op =
    invoke_cases state op (λ (stepped : Stepped). under_way stepped.state.work ≡ 1) (λ work first. refl)

begun_push : (before : List KeptStep) (step : KeptStep)
    → length (begun_operations (before ++ step ∷ [])) ≡ length (begun_operations before) + length (begun_in step.input)
unfolding begun_operations
begun_push before step =
    ap length (flat_map-append (λ (it : KeptStep). begun_in it.input) before (step ∷ [])
    ∙ ap (λ (it : List Op). begun_operations before ++ it) (append-nil (begun_in step.input)))
    ∙ length-append (begun_operations before) (begun_in step.input)

ended_push : (before : List KeptStep) (step : KeptStep)
    → length (ended_operations (before ++ step ∷ [])) ≡ length (ended_operations before) + length (ended_in step.ended)
unfolding ended_operations
ended_push before step =
    ap length (flat_map-append (λ (it : KeptStep). ended_in it.ended) before (step ∷ [])
    ∙ ap (λ (it : List (ClientId × ℕ × Outcome)). ended_operations before ++ it) (append-nil (ended_in step.ended)))
    ∙ length-append (ended_operations before) (ended_in step.ended)

-- the balance with one step more
balance : (me : ClientId) (before : List KeptStep) (state new : ClientState) (step : KeptStep)
    (how : Option (ClientId × ℕ × Outcome))
    → IsBalanced me before state → step.ended ≡ how → new.me ≡ state.me
    → NumbersWithin (length (begun_operations before) + length (begun_in step.input)) new
    → length (begun_in step.input) + under_way state.work ≡ length (ended_in how) + under_way new.work
    → IsBalanced me (before ++ step ∷ []) new
balance me before state new step how is ends named numbers more =
    let begins = begun_push before step in
    let finishes = ended_push before step in
    let end : length (ended_in step.ended) ≡ length (ended_in how) =
    ap (λ (it : Option (ClientId × ℕ × Outcome)). length (ended_in it)) ends in
    let old = is.open_or_ended in
    record {
      named = named ∙ is.named;
      numbers = subst (λ (it : ℕ). NumbersWithin it new) (sym begins) numbers;
      open_or_ended = omega (arith, begins, finishes, end, old, more);
    }

balance_input : (me : ClientId) (before : List KeptStep) (state : ClientState) (step : KeptStep) (input : Input)
    → IsBalanced me before state → step.input ≡ input → IsTakenByClient state input
    → step.ended ≡ (actor_moved (party.Client me) (Asks state) input).ended
    → Balanced me (before ++ step ∷ []) (actor_moved (party.Client me) (Asks state) input).actor
balance_input me before state step (Frame name text) is input can ends =
    let none : length (begun_in step.input) ≡ 0 = ap (λ (it : Input). length (begun_in it)) input in
    let same : length (begun_operations before) + length (begun_in step.input) ≡ length (begun_operations before) =
    omega (arith, none) in
    let more = step_balance me state text in
    balance me before state (client_step state text).state step
    (ended_by me state.work (client_step state text).ended) is ends (client_step-me state text)
    (subst (λ (it : ℕ). NumbersWithin it (client_step state text).state) (sym same)
    (NumbersWithin-step (length (begun_operations before)) state text is.numbers))
    (omega (arith, none, more))
balance_input me before state step Tick is input can ends =
    let none : length (begun_in step.input) ≡ 0 = ap (λ (it : Input). length (begun_in it)) input in
    let same : length (begun_operations before) + length (begun_in step.input) ≡ length (begun_operations before) =
    omega (arith, none) in
    let more = tick_balance me state in
    balance me before state (client_tick state).state step (ended_by me state.work (client_tick state).ended) is ends
    (client_tick-me state)
    (subst (λ (it : ℕ). NumbersWithin it (client_tick state).state) (sym same)
    (NumbersWithin-tick (length (begun_operations before)) state is.numbers))
    (omega (arith, none, more))
balance_input me before state step (Invoke op) is input can ends =
    let one : length (begun_in step.input) ≡ 1 = ap (λ (it : Input). length (begun_in it)) input in
    let same : length (begun_operations before) + length (begun_in step.input) ≡ length (begun_operations before) + 1 =
    omega (arith, one) in
    let no = no_end me state.work in
    let idle : under_way state.work ≡ 0 = ap under_way can in
    let opened = invoke_opens state op in
    balance me before state (client_invoke state op).state step (ended_by me state.work None) is ends
    (client_invoke-me state op)
    (subst (λ (it : ℕ). NumbersWithin it (client_invoke state op).state) (sym same)
    (NumbersWithin-invoke (length (begun_operations before)) state op is.numbers))
    (omega (arith, one, no, idle, opened))

balanced_step : (me : ClientId) (before : List KeptStep) (actor : Actor) (step : KeptStep) → Balanced me before actor
    → IsStepMade (party.Client me) actor step
    → Balanced me (before ++ step ∷ []) (actor_moved (party.Client me) actor step.input).actor
balanced_step me before (Replicates state) step is made = absurd made.can
balanced_step me before (Asks state) step is made =
    balance_input me before state step step.input is refl made.can made.ended

pub balanced_replay : (me : ClientId) (first last : ClientState) (steps : List KeptStep)
    → IsReplay (party.Client me) (Asks first) steps (Asks last) → IsBalanced me [] first → IsBalanced me steps last
balanced_replay me first last steps replay is =
    replay_holds (Balanced me) (party.Client me) (balanced_step me) [] (Asks first) steps (Asks last) replay is

-- ---- from the opening on

balanced_opening : (me : ClientId) (keys : Ring) (seed : ℕ) → IsBalanced me [] (client_at_start me keys seed)
unfolding begun_operations ended_operations
balanced_opening me keys seed =
    record { named = refl; numbers = NumbersWithin-opening me keys seed; open_or_ended = refl }

balanced_from : (setup : Setup) (me : ClientId) (faulty : Bool) (found : Option ClientState) (steps : List KeptStep)
    (state : ClientState) → ((first : ClientState) → found ≡ Some first → IsBalanced me [] first)
    → IsReplayOf (party.Client me) (option_map (λ (it : ClientState). Asks it) (cond faulty None found)) steps
    (Some (Asks state)) → IsBalanced me steps state
unfolding IsReplayOf
balanced_from setup me true found steps state opens replay = absurd (none-some (Asks state) (sym replay.1))
balanced_from setup me false None steps state opens replay = absurd (none-some (Asks state) (sym replay.1))
balanced_from setup me false (Some first) steps state opens replay =
    let last : replay.0 ≡ Asks state = sym (same_Some (Asks state) replay.0 replay.1) in
    balanced_replay me first state steps
    (subst (λ (it : Actor). IsReplay (party.Client me) (Asks first) steps it) last replay.2) (opens first refl)

opens_at : (setup : Setup) (number : ℕ) (first : ClientState) → opening_client setup number ≡ Some first
    → IsBalanced (record { 0 = number }) [] first
opens_at setup zero first is = absurd (none-some first is)
opens_at setup (suc before) first is =
    let begins : ClientState = client_at_start (record { 0 = suc before }) (ring_of setup) setup.seed in
    elim (cases_Bool (nat_lt before setup.clients)) [
      | inl there ↦
          let found : Some begins ≡ Some first = sym (ap (λ (it : Bool). cond it (Some begins) None) there) ∙ is in
          subst (IsBalanced (record { 0 = suc before }) []) (same_Some begins first found)
          (balanced_opening (record { 0 = suc before }) (ring_of setup) setup.seed)
      | inr none ↦ absurd (none-some first (sym (ap (λ (it : Bool). cond it (Some begins) None) none) ∙ is))
    ]

pub balanced_from_opening : (setup : Setup) (me : ClientId) (steps : List KeptStep) (state : ClientState)
    → IsReplayOf (party.Client me) (opening_actor setup (party.Client me)) steps (Some (Asks state))
    → IsBalanced me steps state
balanced_from_opening setup me steps state replay =
    balanced_from setup me (is_faulty setup (party.Client me)) (opening_client setup me.0) steps state
    (opens_at setup me.0) replay
