-- What a client asks for, step by step: its requests are those of the operation under way.
use Rattle.std.proofs.Common.{◌≡◌, ℕ, ◌+◌, ◌≤◌, List, [], Option, None, Some, sym, ap, subst, ◌∙◌, arith, refl, inl, inr}
use Rattle.std.specs.List.{All}
use Rattle.std.proofs.lemmas.List.Elements.{All-nil, All-weaker}
use Rattle.qu_base.specs.declared.party.ClientId.{ClientId}
use Rattle.qu_objects.specs.declared.op.Op.{Op}
use Rattle.qu_frames.specs.declared.frame.Body.{Body}
use Rattle.qu_frames.specs.declared.frame.Frame.{Frame}
use Rattle.qu_frames.specs.declared.frame.Frame.TheVariants as frame
use Rattle.qu_frames.specs.declared.frame.Letter.{Letter}
use Rattle.qu_frames.specs.Body.{body_of}
use Rattle.qu_rows.specs.State.{ReplicaState}
use Rattle.qu_replica.specs.Step.{replica_step}
use Rattle.qu_client.specs.State.{Stepped}
use Rattle.qu_client.specs.declared.work.Work.{Work}
use Rattle.qu_client.specs.declared.state.ClientState.{ClientState}
use Rattle.qu_objects.specs.declared.op.Op.TheVariants as op
use Rattle.qu_client.specs.declared.whom.Whom.{Whom}
use Rattle.qu_client.specs.declared.whom.Whom.TheVariants.{Others}
use Rattle.qu_client.specs.Whom.{whom_asked, first_object}
use Rattle.qu_client.specs.Rounds.{request_of, asking_all, requests}
use Rattle.qu_client.specs.Steps.{client_step, client_tick, client_invoke, next_number}
use Rattle.qu_client.specs.Sound.{IsFor, IsSound, last_number}
use Rattle.qu_client.proofs.Cases.{OfEach, asked_last, step_cases, tick_cases, invoke_cases}
use Rattle.qu_client.proofs.Laws.{client_step-me, client_tick-me, client_invoke-me, IsSound-step, IsSound-tick, IsSound-invoke, sound_work}
use Rattle.qu_trace.specs.declared.trace.Trace.{Trace}
use Rattle.qu_rounds.specs.Invocations.{IsRequestOf}
use Rattle.qu_rounds.proofs.Asking.{AsksNothing, CarriesOnly, replica_asks, requests_carry}
use Rattle.qu_claims.specs.Carried.{Carries}
use Rattle.qu_frames.specs.Formats.{frame_form}
use Rattle.qu_runs.proofs.Fits.Carrying.{AsksFit}
use Rattle.qu_seal.specs.Keys.{Ring}

-- ---- letters

-- what began before so many events began before more
pub request_later : (trace : Trace) (count more : ℕ) (client : ClientId) (number : ℕ) (asked : Body)
    → count ≤ more → IsRequestOf trace count client number asked → IsRequestOf trace more client number asked
request_later trace count more client number asked order is = record {
  operation = is.operation;
  of_trace = is.of_trace;
  of_client = is.of_client;
  of_number = is.of_number;
  asks = is.asks;
  begun = omega (arith, is.begun);
}

-- a request is one of an operation
abbrev pub IsOfOperation : Trace → ℕ → Frame → Type 0
IsOfOperation trace count (frame.Request client number round sets body mac) = IsRequestOf trace count client number body
IsOfOperation trace count _ = Unit {0}

pub record IsAsked (trace : Trace) (count : ℕ) (letter : Letter) : Type 0 where
  pub asked : (carried : Frame) → Carries letter carried → IsOfOperation trace count carried

of_operation_later : (trace : Trace) (count more : ℕ) (sent : Frame) → count ≤ more
    → IsOfOperation trace count sent → IsOfOperation trace more sent
of_operation_later trace count more (frame.Request client number round sets body mac) order is =
    request_later trace count more client number body order is
of_operation_later trace count more _ order is = tt

pub asked_later : (trace : Trace) (count more : ℕ) (letter : Letter) → count ≤ more → IsAsked trace count letter
    → IsAsked trace more letter
asked_later trace count more letter order is =
    record { asked = λ carried carries. of_operation_later trace count more carried order (is.asked carried carries) }

-- an act or a query is no other operation, and no repair
same_op : (first second : Op) → body_of first ≡ body_of second → first ≡ second
same_op (op.Act parts) (op.Act others) same = cc
same_op (op.Act parts) (op.Query others) same = absurd cc
same_op (op.Query parts) (op.Act others) same = absurd cc
same_op (op.Query parts) (op.Query others) same = cc

-- what asks for an act or a query asks for no other operation, and for no repair
pub op_for : (what other : Op) → IsFor other (body_of what) → other ≡ what
op_for what other (inl same) = same_op other what (sym same)
op_for (op.Act parts) other (inr mends) = absurd mends
op_for (op.Query parts) other (inr mends) = absurd mends

-- whatever may be asked in a round of an operation, where this is one that began
request_for : (trace : Trace) (count : ℕ) (me : ClientId) (number : ℕ) (what : Op) (asked : Body)
    → IsFor what asked → IsRequestOf trace count me number (body_of what) → IsRequestOf trace count me number asked
request_for trace count me number what asked may is = record {
  operation = is.operation;
  of_trace = is.of_trace;
  of_client = is.of_client;
  of_number = is.of_number;
  asks = subst (λ (it : Op). IsFor it asked) (sym (op_for what is.operation.op is.asks)) may;
  begun = is.begun;
}

requests_asked : (trace : Trace) (count : ℕ) (keys : Ring) (me : ClientId) (work : Work) (whom : Whom)
    → frame_form.Fits (request_of me work) → IsRequestOf trace count me work.number work.body
    → All (IsAsked trace count) (requests keys me work whom)
requests_asked trace count keys me work whom fits is =
    All-weaker (CarriesOnly keys (request_of me work)) (IsAsked trace count)
    (λ letter only.
    record { asked = λ carried carries. subst (IsOfOperation trace count) (sym (only carried carries)) is })
    (requests keys me work whom) (requests_carry keys me work whom fits)

nothing_asked : (trace : Trace) (count : ℕ) (letter : Letter) → AsksNothing letter → (carried : Frame)
    → Carries letter carried → IsOfOperation trace count carried
nothing_asked trace count letter none (frame.Request client number round sets body mac) carries =
    absurd (none client number round sets body (record { mac = mac; carries = carries }))
nothing_asked trace count letter none _ carries = tt

pub replica_asked : (trace : Trace) (count : ℕ) (state : ReplicaState) (text : List ℕ) → All (IsAsked trace count)
    (replica_step state text).1
replica_asked trace count state text =
    All-weaker AsksNothing (IsAsked trace count)
    (λ letter none. record { asked = nothing_asked trace count letter none }) (replica_step state text).1
    (replica_asks state text)

-- ---- clients

-- the operation under way is the last one that the client began
pub record IsUnderWay (trace : Trace) (count begun : ℕ) (me : ClientId) (work : Work) : Type 0 where
  pub latest : work.number ≡ begun
  pub request : IsRequestOf trace count me work.number (body_of work.op)

-- a client without work asked last for the last operation that it began
abbrev pub IsAtWork : Trace → ℕ → ℕ → ClientId → Option (ℕ × ℕ) → Option Work → Type 0
IsAtWork trace count begun me last None = last_number last ≡ begun
IsAtWork trace count begun me last (Some work) = IsUnderWay trace count begun me work

-- the client with this number, which began so many operations
pub record IsClientAt (trace : Trace) (count begun number : ℕ) (state : ClientState) : Type 0 where
  pub named : (state.me).0 ≡ number
  pub sound : IsSound state
  pub at_work : IsAtWork trace count begun state.me state.last_request state.work

at_work_later : (trace : Trace) (count more begun : ℕ) (me : ClientId) (last : Option (ℕ × ℕ))
    (work : Option Work) → count ≤ more → IsAtWork trace count begun me last work
    → IsAtWork trace more begun me last work
at_work_later trace count more begun me last None order is = is
at_work_later trace count more begun me last (Some work) order is =
    record {
      latest = is.latest;
      request = request_later trace count more me work.number (body_of work.op) order
          is.request;
    }

pub client_later : (trace : Trace) (count more begun number : ℕ) (state : ClientState) → count ≤ more
    → IsClientAt trace count begun number state → IsClientAt trace more begun number state
client_later trace count more begun number state order is = record {
  named = is.named;
  sound = is.sound;
  at_work = at_work_later trace count more begun state.me state.last_request state.work order is.at_work;
}

-- what a step of a client leaves and sends
pub record IsStepAt (trace : Trace) (count begun : ℕ) (me : ClientId) (stepped : Stepped) : Type 0 where
  pub at_work : IsAtWork trace count begun me stepped.state.last_request stepped.state.work
  pub letters : All (IsAsked trace count) stepped.letters

under_way : (trace : Trace) (count begun : ℕ) (me : ClientId) (last : Option (ℕ × ℕ)) (held : Option Work)
    (work : Work) → held ≡ Some work → IsAtWork trace count begun me last held → IsUnderWay trace count begun me work
under_way trace count begun me last held work is at =
    let P : Option Work → Type 0 = λ found. IsAtWork trace count begun me last found in subst P is at

module _ (trace : Trace) (count begun : ℕ) (state : ClientState) (sound : IsSound state)
    (at : IsAtWork trace count begun state.me state.last_request state.work) where
  none_asked : All (IsAsked trace count) []
  none_asked = All-nil (IsAsked trace count)

  abbrev IsStepIf : Stepped → Type 0
  IsStepIf stepped = AsksFit stepped.state → IsStepAt trace count begun state.me stepped

  working : (work : Work) → state.work ≡ Some work → IsUnderWay trace count begun state.me work
  working work is = under_way trace count begun state.me state.last_request state.work work is at

  -- the last request was one of the operation that is under way
  ended : (work : Work) → state.work ≡ Some work → last_number state.last_request ≡ begun
  ended work is = ap last_number (asked_last state work sound is) ∙ (working work is).latest

  -- the same operation in another round
  goes_on : (last work : Work) → state.work ≡ Some last → work.number ≡ last.number → work.op ≡ last.op
      → IsUnderWay trace count begun state.me work
  goes_on last work is number_is op_is = record {
    latest = number_is ∙ (working last is).latest;
    request = subst (λ (it : ℕ). IsRequestOf trace count state.me it (body_of work.op)) (sym number_is)
        (subst (λ (it : Op). IsRequestOf trace count state.me last.number (body_of it)) (sym op_is)
        (working last is).request);
  }

  asks_for : (work : Work) (whom : Whom) → IsUnderWay trace count begun state.me work → IsFor work.op work.body
      → frame_form.Fits (request_of state.me work)
      → All (IsAsked trace count) (requests state.keys state.me work whom)
  asks_for work whom is may fits =
      requests_asked trace count state.keys state.me work whom fits
      (request_for trace count state.me work.number work.op work.body may is.request)

  each_at : OfEach state (λ kept. Unit {0}) IsStepIf
  each_at = record {
    quiet = record {
      same = λ fits. record { at_work = at; letters = none_asked };
      keeps = λ kept _ fits. record { at_work = at; letters = none_asked };
      counts = λ kept work replica number round verdict culled _ is counting fits.
          record { at_work = goes_on work _ is refl refl; letters = none_asked };
      ends = λ kept work end _ is fits. record { at_work = ended work is; letters = none_asked };
      rests = λ kept work named _ is _ more fits.
          record { at_work = goes_on work _ is refl refl; letters = none_asked };
      ticks = λ work ticks is fits. record { at_work = goes_on work _ is refl refl; letters = none_asked };
    };
    begins = λ kept work _ next fits.
        let round = next.round in
        let here : IsUnderWay trace count begun state.me work =
        goes_on next.last work next.is round.number_is round.op_is in
        record {
          at_work = here;
          letters = asks_for work (whom_asked work) here
              (subst (λ (it : Op). IsFor it work.body) (sym round.op_is) round.asks) (fits work refl);
        };
    asks_others = λ work is preferred fits.
        let here : IsUnderWay trace count begun state.me (asking_all work) =
        goes_on work (asking_all work) is refl refl in
        record {
          at_work = here;
          letters = asks_for (asking_all work) (Others (first_object work.op)) here
              (sound_work state work sound is).asks
              (fits (asking_all work) refl);
        };
  }

  step_at : (text : List ℕ) → IsStepIf (client_step state text)
  step_at text =
      step_cases state (λ kept. Unit {0}) IsStepIf (λ kept marked same _. tt) each_at text
      (λ replica client number round verdict culled shown mac is. tt)

  tick_at : IsStepIf (client_tick state)
  tick_at = tick_cases state (λ kept. Unit {0}) IsStepIf (λ kept marked same _. tt) each_at tt

named_at_work : (trace : Trace) (count begun : ℕ) (old new : ClientId) (last : Option (ℕ × ℕ))
    (work : Option Work) → new ≡ old → IsAtWork trace count begun old last work
    → IsAtWork trace count begun new last work
named_at_work trace count begun old new last work same at = rw same at

-- a client that takes a frame goes on with its operation
pub client_steps : (trace : Trace) (count begun number : ℕ) (state : ClientState) (text : List ℕ)
    → IsClientAt trace count begun number state → AsksFit (client_step state text).state
    → IsClientAt trace count begun number (client_step state text).state
client_steps trace count begun number state text is fits = record {
  named = ap (λ (me : ClientId). me.0) (client_step-me state text) ∙ is.named;
  sound = IsSound-step state text is.sound;
  at_work = named_at_work trace count begun state.me _ (client_step state text).state.last_request _
      (client_step-me state text) (step_at trace count begun state is.sound is.at_work text fits).at_work;
}

pub client_step-asked : (trace : Trace) (count begun number : ℕ) (state : ClientState) (text : List ℕ)
    → IsClientAt trace count begun number state → AsksFit (client_step state text).state
    → All (IsAsked trace count) (client_step state text).letters
client_step-asked trace count begun number state text is fits =
    (step_at trace count begun state is.sound is.at_work text fits).letters

-- and so does one whose clock ticks
pub client_ticks : (trace : Trace) (count begun number : ℕ) (state : ClientState)
    → IsClientAt trace count begun number state → AsksFit (client_tick state).state
    → IsClientAt trace count begun number (client_tick state).state
client_ticks trace count begun number state is fits = record {
  named = ap (λ (me : ClientId). me.0) (client_tick-me state) ∙ is.named;
  sound = IsSound-tick state is.sound;
  at_work = named_at_work trace count begun state.me _ (client_tick state).state.last_request _
      (client_tick-me state) (tick_at trace count begun state is.sound is.at_work fits).at_work;
}

pub client_tick-asked : (trace : Trace) (count begun number : ℕ) (state : ClientState)
    → IsClientAt trace count begun number state → AsksFit (client_tick state).state
    → All (IsAsked trace count) (client_tick state).letters
client_tick-asked trace count begun number state is fits =
    (tick_at trace count begun state is.sound is.at_work fits).letters

next_is : (last : Option (ℕ × ℕ)) (begun : ℕ) → last_number last ≡ begun → next_number last ≡ begun + 1
next_is None begun is = omega arith
next_is (Some last) begun is = omega arith

-- a client without work begins its next operation, which the trace shows by then
module _ (trace : Trace) (count begun : ℕ) (state : ClientState) (op : Op)
    (last : last_number state.last_request ≡ begun)
    (shown : IsRequestOf trace count state.me (begun + 1) (body_of op)) where
  next_request : IsRequestOf trace count state.me (next_number state.last_request) (body_of op)
  next_request =
      subst (λ (number : ℕ). IsRequestOf trace count state.me number (body_of op))
      (sym (next_is state.last_request begun last)) shown

  invoke_at : AsksFit (client_invoke state op).state → IsStepAt trace count (begun + 1) state.me
      (client_invoke state op)
  invoke_at =
      invoke_cases state op (λ stepped. AsksFit stepped.state → IsStepAt trace count (begun + 1) state.me stepped)
      (λ work first fits.
      let here : IsRequestOf trace count state.me work.number (body_of op) =
      subst (λ (it : ℕ). IsRequestOf trace count state.me it (body_of op)) (sym first.number_is) next_request in
      record {
        at_work = record {
          latest = first.number_is ∙ next_is state.last_request begun last;
          request = subst (λ (it : Op). IsRequestOf trace count state.me work.number (body_of it)) (sym first.op_is)
              here;
        };
        letters = requests_asked trace count state.keys state.me work
            (whom_asked work) (fits work refl)
            (request_for trace count state.me work.number op work.body first.asks here);
      })

  pub client_begins : (number : ℕ) → (state.me).0 ≡ number → AsksFit (client_invoke state op).state
      → IsClientAt trace count (begun + 1) number (client_invoke state op).state
  client_begins number named fits = record {
    named = ap (λ (me : ClientId). me.0) (client_invoke-me state op) ∙ named;
    sound = IsSound-invoke state op;
    at_work = named_at_work trace count (begun + 1) state.me (client_invoke state op).state.me
        (client_invoke state op).state.last_request (client_invoke state op).state.work
        (client_invoke-me state op) (invoke_at fits).at_work;
  }

  pub client_begins-asked : AsksFit (client_invoke state op).state → All (IsAsked trace count)
      (client_invoke state op).letters
  client_begins-asked fits = (invoke_at fits).letters
