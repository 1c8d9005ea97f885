-- Each operation that a client of a run on threads begins has its end in the record of operations.
use Rattle.std.proofs.Common.{◌≡◌, ℕ, zero, suc, ◌+◌, Bool, true, false, cond, eqb, List, [], ◌∷◌, ◌++◌, length, Option, None, Some, refl, sym, ap, subst, ◌∙◌, append-nil, arith, inl, inr, ◌⊎◌}
use Rattle.std.specs.Prelude.{◌&&◌, ◌||◌, is_some, nat_lt, option_map}
use Rattle.std.specs.List.{AllByRecursion}
use Rattle.std.proofs.lemmas.Bool.{cases_Bool, cond_both, eq-eqb, eqb-true, ne_eqb, or_right, false≢true}
use Rattle.std.proofs.lemmas.Option.{none-some, same_Some}
use Rattle.std.proofs.lemmas.List.Sums.{sum_by_push}
use Rattle.qu_base.specs.declared.party.ClientId.{ClientId}
use Rattle.qu_base.specs.declared.party.Party.{Party}
use Rattle.qu_base.specs.declared.party.Party.TheVariants as party
use Rattle.qu_base.proofs.EachItem.{each_append}
use Rattle.qu_objects.specs.declared.op.Op.{Op}
use Rattle.qu_objects.specs.declared.op.Outcome.{Outcome}
use Rattle.qu_frames.specs.declared.frame.Letter.{Letter}
use Rattle.qu_frames.specs.declared.input.Input.{Input}
use Rattle.qu_frames.specs.declared.input.Input.TheVariants.{Frame, Tick, Invoke}
use Rattle.qu_question.specs.declared.kept.Kept.{Kept}
use Rattle.qu_client.specs.declared.state.ClientState.{ClientState}
use Rattle.qu_client.specs.declared.work.Work.{Work}
use Rattle.qu_client.specs.State.{Stepped}
use Rattle.qu_client.specs.Steps.{client_step, client_tick, client_invoke, next_number}
use Rattle.qu_client.specs.Sound.{IsSound, last_number}
use Rattle.qu_client.proofs.Cases.{OfEach, step_cases, tick_cases}
use Rattle.qu_client.proofs.Laws.{IsSound-step, IsSound-tick, IsSound-invoke, sound_work}
use Rattle.qu_trace.specs.Faulty.{is_same, is_faulty}
use Rattle.qu_trace.specs.declared.event.Event.{Event}
use Rattle.qu_trace.specs.declared.event.Event.TheVariants as event
use Rattle.qu_trace.specs.declared.trace.Entry.{Entry}
use Rattle.qu_trace.specs.declared.trace.Setup.{Setup}
use Rattle.qu_trace.specs.Operation.{invokes, begun_by, outcome_in, first_end, end_from, begins_at, operations_from}
use Rattle.qu_trace.proofs.Parties.{same_self}
use Rattle.qu_world.specs.Step.{ended_by}
use Rattle.qu_replay.specs.Steps.{Actor, Replicates, Asks, actor_moved, IsTakenByClient}
use Rattle.qu_replay.specs.declared.kept_step.KeptStep.{KeptStep}
use Rattle.qu_replay.specs.Replays.{IsStepMade, IsReplay, IsReplayOf, own_steps, opening_actor, opening_client}
use Rattle.qu_replay.specs.Told.{AreTold, IsEventOf}
use Rattle.qu_replay.specs.Operations.{begun_in, begun_operations, invoked_at, invoked_by}
use Rattle.qu_replay.proofs.Told.{own_here, own_other}
use Rattle.qu_replay.proofs.Operations.{told_invoked}
use Rattle.qu_gather.specs.Live.{HasEnd}

-- nothing is under way at a client
abbrev pub IsIdleEnd : Option Actor → Type 0
IsIdleEnd None = Unit {0}
IsIdleEnd (Some (Replicates state)) = Unit {0}
IsIdleEnd (Some (Asks state)) = state.work ≡ None

-- ---- what is kept of the operation under way

-- of what is kept nothing has to be known
abbrev Any : List Kept → Type 0
Any kept = Unit {0}

-- the operation under way goes on, or ends
abbrev Goes : ClientState → Stepped → Type 0
Goes state stepped =
    (work : Work) → state.work ≡ Some work
    → ((next : Work) × (stepped.state.work ≡ Some next) × (next.number ≡ work.number))
    ⊎ ((how : Outcome) × (stepped.ended ≡ Some how))

same_number : (state : ClientState) (one other : Work) → state.work ≡ Some one → state.work ≡ Some other
    → one.number ≡ other.number
same_number state one other is also = ap (λ (it : Work). it.number) (same_Some one other (sym is ∙ also))

goes_each : (state : ClientState) → OfEach state Any (Goes state)
goes_each state = record {
  quiet = record {
    same = λ work is. inl (work, is, refl);
    keeps = λ kept held work is. inl (work, is, refl);
    counts = λ kept last replica number round verdict culled held there counting work is.
        inl (_, refl, same_number state last work there is);
    ends = λ kept last end held there work is. inr (end, refl);
    rests = λ kept last named held there _ more work is. inl (_, refl, same_number state last work there is);
    ticks = λ last ticks there work is. inl (_, refl, same_number state last work there is);
  };
  begins = λ kept begun held next work is.
      inl (begun, refl, next.round.number_is ∙ same_number state next.last work next.is is);
  asks_others = λ last there stands work is. inl (_, refl, same_number state last work there is);
}

step_goes : (state : ClientState) (text : List ℕ) → Goes state (client_step state text)
step_goes state text =
    step_cases state Any (Goes state) (λ _ _ _ held. held) (goes_each state) text (λ _ _ _ _ _ _ _ _ _. tt)

tick_goes : (state : ClientState) → Goes state (client_tick state)
tick_goes state = tick_cases state Any (Goes state) (λ _ _ _ held. held) (goes_each state) tt

-- ---- numbers

-- the number of the last request stays until an operation begins
abbrev StaysNumbered : ClientState → Stepped → Type 0
StaysNumbered state stepped = last_number stepped.state.last_request ≡ last_number state.last_request

stays_each : (state : ClientState) → IsSound state → OfEach state Any (StaysNumbered state)
stays_each state sound = record {
  quiet = record {
    same = refl;
    keeps = λ _ _. refl;
    counts = λ _ _ _ _ _ _ _ _ _ _. refl;
    ends = λ _ _ _ _ _. refl;
    rests = λ _ _ _ _ _ _ _. refl;
    ticks = λ _ _ _. refl;
  };
  begins = λ kept work held next.
      next.round.number_is ∙ sym (ap last_number (sound_work state next.last sound next.is).asked);
  asks_others = λ _ _ _. refl;
}

-- a client has had this many requests' numbers
record IsNumbered (count : ℕ) (state : ClientState) : Type 0 where
  sound : IsSound state
  last : last_number state.last_request ≡ count

abbrev Numbered : ℕ → Actor → Type 0
Numbered count (Asks state) = IsNumbered count state
Numbered count (Replicates state) = ⊥

next_is : (last : Option (ℕ × ℕ)) → next_number last ≡ last_number last + 1
next_is None = refl
next_is (Some last) = refl

none_more : (count : ℕ) → count ≡ count + 0
none_more count = omega arith

moved_numbered : (me : ClientId) (count : ℕ) (state : ClientState) (input : Input) → IsNumbered count state
    → Numbered (count + length (begun_in input)) (actor_moved (party.Client me) (Asks state) input).actor
moved_numbered me count state (Frame name text) is = record {
  sound = IsSound-step state text is.sound;
  last =
      step_cases state Any (StaysNumbered state) (λ _ _ _ held. held) (stays_each state is.sound) text
      (λ _ _ _ _ _ _ _ _ _. tt) ∙ is.last ∙ none_more count;
}
moved_numbered me count state Tick is = record {
  sound = IsSound-tick state is.sound;
  last =
      tick_cases state Any (StaysNumbered state) (λ _ _ _ held. held) (stays_each state is.sound) tt
      ∙ is.last ∙ none_more count;
}
moved_numbered me count state (Invoke op) is = record {
  sound = IsSound-invoke state op;
  last = next_is state.last_request ∙ ap (λ (it : ℕ). it + 1) is.last;
}

-- ---- the end of what is under way

-- whether one of these steps ends the operation of this client with this number
unfoldable pub ends_in : ClientId → ℕ → List KeptStep → Bool
ends_in me number [] = false
ends_in me number (step ∷ later) = is_some (outcome_in me number step.ended) || ends_in me number later

-- the operation with this number is under way
abbrev WorksOn : ℕ → Actor → Type 0
WorksOn number (Asks state) = (work : Work) × (state.work ≡ Some work) × (work.number ≡ number)
WorksOn number (Replicates state) = ⊥

own_end : (me : ClientId) (number : ℕ) (found : Option Work) (ended : Option Outcome) (work : Work) (how : Outcome)
    → found ≡ Some work → work.number ≡ number → ended ≡ Some how
    → is_some (outcome_in me number (ended_by me found ended)) ≡ true
own_end me number found ended work how is number_is end =
    ap (λ (it : Option Work). is_some (outcome_in me number (ended_by me it ended))) is
    ∙ ap (λ (it : Option Outcome). is_some (outcome_in me number (ended_by me (Some work) it))) end
    ∙ ap (λ (it : Bool). is_some (cond (it && eqb work.number number) (Some how) None)) (eq-eqb me.0 me.0 refl)
    ∙ ap (λ (it : Bool). is_some (cond it (Some how) None)) (eq-eqb work.number number number_is)

client_goes : (me : ClientId) (number : ℕ) (state : ClientState) (stepped : Stepped) → Goes state stepped
    → WorksOn number (Asks state)
    → WorksOn number (Asks stepped.state)
    ⊎ (is_some (outcome_in me number (ended_by me state.work stepped.ended)) ≡ true)
client_goes me number state stepped goes works =
    elim (goes works.0 works.1) [
      | inl on ↦ inl (on.0, on.1, on.2 ∙ works.2)
      | inr end ↦ inr (own_end me number state.work stepped.ended works.0 end.0 works.1 works.2 end.1)
    ]

moved_goes : (me : ClientId) (number : ℕ) (state : ClientState) (input : Input) → IsTakenByClient state input
    → WorksOn number (Asks state)
    → WorksOn number (actor_moved (party.Client me) (Asks state) input).actor
    ⊎ (is_some (outcome_in me number (actor_moved (party.Client me) (Asks state) input).ended) ≡ true)
moved_goes me number state (Frame name text) can works =
    client_goes me number state (client_step state text) (step_goes state text) works
moved_goes me number state Tick can works =
    client_goes me number state (client_tick state) (tick_goes state) works
moved_goes me number state (Invoke op) can works = absurd (none-some works.0 (sym can ∙ works.1))

either : (one other : Bool) → one ≡ true → (one || other) ≡ true
either one other is = rw is refl

works_not : (number : ℕ) (actor : Actor) → IsIdleEnd (Some actor) → WorksOn number actor → ⊥
works_not number (Replicates state) idle works = works
works_not number (Asks state) idle works = none-some works.0 (sym idle ∙ works.1)

-- from there on to an end at which nothing is under way it ends
finishes : (me : ClientId) (number : ℕ) (actor : Actor) (steps : List KeptStep) (last : Actor) → IsIdleEnd (Some last)
    → IsReplay (party.Client me) actor steps last → WorksOn number actor → ends_in me number steps ≡ true
unfolding IsReplay ends_in
finishes me number actor [] last idle replay works =
    absurd (works_not number last idle (subst (WorksOn number) replay works))
finishes me number (Replicates state) (step ∷ later) last idle replay works = absurd works
finishes me number (Asks state) (step ∷ later) last idle replay works =
    let made : IsStepMade (party.Client me) (Asks state) step = replay.0 in
    elim (moved_goes me number state step.input made.can works) [
      | inl on ↦ or_right (is_some (outcome_in me number step.ended)) (ends_in me number later)
          (finishes me number (actor_moved (party.Client me) (Asks state) step.input).actor later last idle replay.1 on)
      | inr end ↦ either (is_some (outcome_in me number step.ended)) (ends_in me number later)
          (ap (λ (it : Option (ClientId × ℕ × Outcome)). is_some (outcome_in me number it)) made.ended ∙ end)
    ]

-- ---- each operation that begins

abbrev pub EndsFrom : ClientId → ℕ → Input → List KeptStep → Type 0
EndsFrom me number (Invoke op) steps = ends_in me number steps ≡ true
EndsFrom me number (Frame name text) steps = Unit {0}
EndsFrom me number Tick steps = Unit {0}

-- each operation that begins in these steps, of which the first has the number behind this one, ends in them
unfoldable pub EachEnds : ClientId → ℕ → List KeptStep → Type 0
EachEnds me count [] = Unit {0}
EachEnds me count (step ∷ later) =
    EndsFrom me (count + 1) step.input (step ∷ later) × EachEnds me (count + length (begun_in step.input)) later

invoked_works : (count : ℕ) (state : ClientState) (op : Op) → IsNumbered count state
    → WorksOn (count + 1) (Asks (client_invoke state op).state)
invoked_works count state op is =
    (_, refl, next_is state.last_request ∙ ap (λ (it : ℕ). it + 1) is.last)

first_ends : (me : ClientId) (count : ℕ) (state : ClientState) (step : KeptStep) (later : List KeptStep)
    (last : Actor) (input : Input) → IsIdleEnd (Some last) → IsNumbered count state
    → IsReplay (party.Client me) (actor_moved (party.Client me) (Asks state) input).actor later last
    → EndsFrom me (count + 1) input (step ∷ later)
unfolding ends_in
first_ends me count state step later last (Frame name text) idle is rest = tt
first_ends me count state step later last Tick idle is rest = tt
first_ends me count state step later last (Invoke op) idle is rest =
    or_right (is_some (outcome_in me (count + 1) step.ended)) (ends_in me (count + 1) later)
    (finishes me (count + 1) (Asks (client_invoke state op).state) later last idle rest
    (invoked_works count state op is))

each_ends : (me : ClientId) (count : ℕ) (actor : Actor) (steps : List KeptStep) (last : Actor)
    → IsIdleEnd (Some last) → IsReplay (party.Client me) actor steps last → Numbered count actor
    → EachEnds me count steps
unfolding IsReplay EachEnds
each_ends me count actor [] last idle replay is = tt
each_ends me count (Replicates state) (step ∷ later) last idle replay is = absurd is
each_ends me count (Asks state) (step ∷ later) last idle replay is = (
  first_ends me count state step later last step.input idle is replay.1,
  each_ends me (count + length (begun_in step.input)) (actor_moved (party.Client me) (Asks state) step.input).actor
      later last idle replay.1 (moved_numbered me count state step.input is),
)

-- ---- from the opening on

abbrev OpensNumbered : Option Actor → Type 0
OpensNumbered None = Unit {0}
OpensNumbered (Some actor) = Numbered 0 actor

client_opens : (setup : Setup) (number : ℕ)
    → OpensNumbered (option_map (λ (state : ClientState). Asks state) (opening_client setup number))
client_opens setup zero = tt
client_opens setup (suc before) =
    cond_both (nat_lt before setup.clients) _ None
    (λ (found : Option ClientState). OpensNumbered (option_map (λ (state : ClientState). Asks state) found))
    (λ _. record { sound = tt; last = refl }) (λ _. tt)

opens_numbered : (setup : Setup) (me : ClientId) → OpensNumbered (opening_actor setup (party.Client me))
opens_numbered setup me =
    cond_both (is_faulty setup (party.Client me)) None (opening_client setup me.0)
    (λ (found : Option ClientState). OpensNumbered (option_map (λ (state : ClientState). Asks state) found))
    (λ _. tt) (λ _. client_opens setup me.0)

held_from : (me : ClientId) (first : Option Actor) (steps : List KeptStep) (last : Option Actor)
    → OpensNumbered first → IsReplayOf (party.Client me) first steps last → IsIdleEnd last → EachEnds me 0 steps
unfolding IsReplayOf EachEnds
held_from me None steps last opens replay idle = subst (EachEnds me 0) (sym replay.0) tt
held_from me (Some actor) steps last opens replay idle =
    each_ends me 0 actor steps replay.0 (subst IsIdleEnd replay.1 idle) replay.2 opens

-- each operation that a client begins on its way to an end at which nothing is under way ends
pub held_ends : (setup : Setup) (me : ClientId) (steps : List KeptStep) (last : Option Actor)
    → IsReplayOf (party.Client me) (opening_actor setup (party.Client me)) steps last → IsIdleEnd last
    → EachEnds me 0 steps
held_ends setup me steps last replay idle =
    held_from me (opening_actor setup (party.Client me)) steps last (opens_numbered setup me) replay idle

-- ---- the record of operations

found_first : (found : Option Outcome) (at : ℕ) (rest : Option (ℕ × Outcome)) → is_some found ≡ true
    → is_some (first_end found at rest) ≡ true
found_first None at rest is = absurd cc
found_first (Some how) at rest is = refl

found_later : (found : Option Outcome) (at : ℕ) (rest : Option (ℕ × Outcome)) → is_some rest ≡ true
    → is_some (first_end found at rest) ≡ true
found_later None at rest is = is
found_later (Some how) at rest is = refl

one_of : (one other : Bool) → (one || other) ≡ true → (one ≡ true) ⊎ (other ≡ true)
one_of true other is = inl refl
one_of false other is = inr is

-- an end among a client's own steps is found among the entries of all
end_found : (me : ClientId) (number at : ℕ) (sent : List Letter) (xs : List (Party × KeptStep)) (entries : List Entry)
    → AreTold sent xs entries → ends_in me number (own_steps (party.Client me) xs) ≡ true
    → is_some (end_from me number at entries) ≡ true
unfolding AreTold own_steps end_from ends_in
end_found me number at sent [] [] told ends = absurd cc
end_found me number at sent [] (entry ∷ entries) told ends = absurd told
end_found me number at sent (x ∷ xs) [] told ends = absurd told
end_found me number at sent (x ∷ xs) (entry ∷ entries) told ends =
    let later : ends_in me number (own_steps (party.Client me) xs) ≡ true
    → is_some (first_end (outcome_in me number entry.ended) at (end_from me number (at + 1) entries)) ≡ true =
    λ so.
    found_later (outcome_in me number entry.ended) at (end_from me number (at + 1) entries)
    (end_found me number (at + 1) (sent ++ entry.letters) xs entries told.1 so) in
    elim (cases_Bool (is_same x.0 (party.Client me))) [
      | inl same ↦ elim (one_of (is_some (outcome_in me number x.1.ended))
          (ends_in me number (own_steps (party.Client me) xs))
          (sym (ap (ends_in me number) (own_here x xs (party.Client me) same)) ∙ ends)) [
            | inl here ↦ found_first (outcome_in me number entry.ended) at (end_from me number (at + 1) entries)
                (ap (λ (it : Option (ClientId × ℕ × Outcome)). is_some (outcome_in me number it)) told.0.ended ∙ here)
            | inr rest ↦ later rest
          ]
      | inr apart ↦ later (sym (ap (ends_in me number) (own_other x xs (party.Client me) apart)) ∙ ends)
    ]

-- whose operation an event begins
invoked_so : (sent : List Letter) (who : Party) (input : Input) (me : ClientId) (op : Op)
    → IsEventOf sent who input (event.Invoke me op) → (who ≡ party.Client me) × (input ≡ Invoke op)
invoked_so sent who (Frame name text) me op told = absurd (let is = told.event in cc)
invoked_so sent (party.Replica who) Tick me op told = absurd told
invoked_so sent (party.Replica who) (Invoke other) me op told = absurd told
invoked_so sent (party.Client who) Tick me op told = absurd (cc)
invoked_so sent (party.Client who) (Invoke other) me op told = (cc, cc)

begins_ended : (setup : Setup) (earlier : List Entry) (at : ℕ) (sent : List Letter) (x : Party × KeptStep)
    (xs : List (Party × KeptStep)) (entry : Entry) (entries : List Entry) (happened : Event)
    → ((me : ClientId) → is_faulty setup (party.Client me) ≡ false
    → EachEnds me (begun_by me earlier) (own_steps (party.Client me) (x ∷ xs)))
    → AreTold sent (x ∷ xs) (entry ∷ entries) → IsEventOf sent x.0 x.1.input happened
    → AllByRecursion HasEnd (begins_at setup happened at earlier (entry ∷ entries))
unfolding EachEnds
begins_ended setup earlier at sent x xs entry entries (event.Invoke me op) ends told is =
    cond_both (is_faulty setup (party.Client me)) [] _ (AllByRecursion HasEnd)
    (λ faulty. tt)
    (λ correct.
    let found = invoked_so sent x.0 x.1.input me op is in
    let same : is_same x.0 (party.Client me) ≡ true =
    ap (λ (it : Party). is_same it (party.Client me)) found.0 ∙ same_self (party.Client me) in
    let own : own_steps (party.Client me) (x ∷ xs) ≡ x.1 ∷ own_steps (party.Client me) xs =
    own_here x xs (party.Client me) same in
    let each : EachEnds me (begun_by me earlier) (x.1 ∷ own_steps (party.Client me) xs) =
    subst (EachEnds me (begun_by me earlier)) own (ends me correct) in
    let here : ends_in me (begun_by me earlier + 1) (x.1 ∷ own_steps (party.Client me) xs) ≡ true =
    subst (λ (it : Input). EndsFrom me (begun_by me earlier + 1) it (x.1 ∷ own_steps (party.Client me) xs)) found.1
    each.0 in (
      end_found me (begun_by me earlier + 1) at sent (x ∷ xs) (entry ∷ entries) told
          (ap (ends_in me (begun_by me earlier + 1)) own ∙ here),
      tt,
    ))
begins_ended setup earlier at sent x xs entry entries (event.Deliver number) ends told is = tt
begins_ended setup earlier at sent x xs entry entries (event.Tick me) ends told is = tt
begins_ended setup earlier at sent x xs entry entries (event.Inject who text) ends told is = tt

-- how many a client began, with one entry more
counts_as : (me : ClientId) (happened : Event) → cond (invokes me happened) 1 0 ≡ length (invoked_at me happened)
counts_as me (event.Invoke other op) =
    elim (cases_Bool (eqb other.0 me.0)) [
      | inl same ↦
          ap (λ (it : Bool). cond it 1 0) (eq-eqb me.0 other.0 (sym (eqb-true other.0 me.0 same)))
          ∙ sym (ap (λ (it : Bool). length (cond it (op ∷ []) [])) same)
      | inr apart ↦
          ap (λ (it : Bool). cond it 1 0)
          (ne_eqb me.0 other.0 (λ is. false≢true (sym apart ∙ eq-eqb other.0 me.0 (sym is))))
          ∙ sym (ap (λ (it : Bool). length (cond it (op ∷ []) [])) apart)
    ]
counts_as me (event.Deliver number) = refl
counts_as me (event.Tick other) = refl
counts_as me (event.Inject who text) = refl

begun_push : (me : ClientId) (earlier : List Entry) (entry : Entry)
    → begun_by me (earlier ++ entry ∷ []) ≡ begun_by me earlier + length (invoked_at me entry.event)
unfolding begun_by
begun_push me earlier entry =
    sum_by_push (λ (it : Entry). cond (invokes me it.event) 1 0) earlier entry
    ∙ ap (λ (it : ℕ). begun_by me earlier + it) (counts_as me entry.event)

-- what an event begins is what its step took
begun_here : (sent : List Letter) (x : Party × KeptStep) (entry : Entry) (entries : List Entry)
    (xs : List (Party × KeptStep)) (me : ClientId) → AreTold sent (x ∷ xs) (entry ∷ entries)
    → invoked_at me entry.event ≡ begun_operations (own_steps (party.Client me) (x ∷ []))
unfolding AreTold invoked_by
begun_here sent x entry entries xs me told =
    sym (append-nil (invoked_at me entry.event)) ∙ told_invoked sent (x ∷ []) (entry ∷ []) me (told.0, tt)

later_ends : (sent : List Letter) (earlier : List Entry) (x : Party × KeptStep) (xs : List (Party × KeptStep))
    (entry : Entry) (entries : List Entry) (me : ClientId) → AreTold sent (x ∷ xs) (entry ∷ entries)
    → EachEnds me (begun_by me earlier) (own_steps (party.Client me) (x ∷ xs))
    → EachEnds me (begun_by me (earlier ++ entry ∷ [])) (own_steps (party.Client me) xs)
unfolding EachEnds begun_operations own_steps
later_ends sent earlier x xs entry entries me told ends =
    let more = begun_push me earlier entry in
    let here = begun_here sent x entry entries xs me told in
    elim (cases_Bool (is_same x.0 (party.Client me))) [
      | inl same ↦
          let own : own_steps (party.Client me) (x ∷ xs) ≡ x.1 ∷ own_steps (party.Client me) xs =
          own_here x xs (party.Client me) same in
          let one : begun_operations (own_steps (party.Client me) (x ∷ [])) ≡ begun_in x.1.input =
          ap begun_operations (own_here x [] (party.Client me) same) ∙ append-nil (begun_in x.1.input) in
          let each : EachEnds me (begun_by me earlier) (x.1 ∷ own_steps (party.Client me) xs) =
          subst (EachEnds me (begun_by me earlier)) own ends in
          subst (λ (it : ℕ). EachEnds me it (own_steps (party.Client me) xs))
          (sym (more ∙ ap (λ (it : List Op). begun_by me earlier + length it) (here ∙ one))) each.1
      | inr apart ↦
          let own : own_steps (party.Client me) (x ∷ xs) ≡ own_steps (party.Client me) xs =
          own_other x xs (party.Client me) apart in
          let none : begun_operations (own_steps (party.Client me) (x ∷ [])) ≡ [] =
          ap begun_operations (own_other x [] (party.Client me) apart) in
          subst (λ (it : ℕ). EachEnds me it (own_steps (party.Client me) xs))
          (none_more (begun_by me earlier)
          ∙ sym (more ∙ ap (λ (it : List Op). begun_by me earlier + length it) (here ∙ none)))
          (subst (EachEnds me (begun_by me earlier)) own ends)
    ]

all_ended : (setup : Setup) (earlier : List Entry) (at : ℕ) (sent : List Letter) (xs : List (Party × KeptStep))
    (entries : List Entry)
    → ((me : ClientId) → is_faulty setup (party.Client me) ≡ false
    → EachEnds me (begun_by me earlier) (own_steps (party.Client me) xs))
    → AreTold sent xs entries → AllByRecursion HasEnd (operations_from setup earlier at entries)
unfolding AreTold operations_from
all_ended setup earlier at sent [] [] ends told = tt
all_ended setup earlier at sent [] (entry ∷ entries) ends told = absurd told
all_ended setup earlier at sent (x ∷ xs) [] ends told = absurd told
all_ended setup earlier at sent (x ∷ xs) (entry ∷ entries) ends told =
    each_append HasEnd (begins_at setup entry.event at earlier (entry ∷ entries))
    (operations_from setup (earlier ++ entry ∷ []) (at + 1) entries)
    (begins_ended setup earlier at sent x xs entry entries entry.event ends told told.0.event)
    (all_ended setup (earlier ++ entry ∷ []) (at + 1) (sent ++ entry.letters) xs entries
    (λ me correct. later_ends sent earlier x xs entry entries me told (ends me correct)) told.1)

-- each operation of a run whose clients end with nothing under way has its end
pub operations_ended : (setup : Setup) (xs : List (Party × KeptStep)) (entries : List Entry)
    → ((me : ClientId) → EachEnds me 0 (own_steps (party.Client me) xs)) → AreTold [] xs entries
    → AllByRecursion HasEnd (operations_from setup [] 1 entries)
unfolding begun_by
operations_ended setup xs entries ends told = all_ended setup [] 1 [] xs entries (λ me correct. ends me) told
