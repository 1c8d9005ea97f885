-- In every run a client sends one request in a round: its letters of one operation and round have the same
-- sets and body.
use Rattle.std.proofs.Common.{◌≡◌, ℕ, zero, suc, ◌+◌, ◌<◌, ◌≤◌, List, [], ◌∷◌, ◌++◌, length, get_or, Option, None, Some, sym, ap, subst, arith, add-one, inl, inr}
use Rattle.std.specs.List.{Contains}
use Rattle.std.proofs.lemmas.List.Elements.{All-contains, All-nil, Contains-append_cases}
use Rattle.std.proofs.lemmas.Option.{none-some, slice_get_within, get_or_from_slice_get}
use Rattle.qu_base.specs.declared.party.ClientId.{ClientId}
use Rattle.qu_base.proofs.Numbered.{client_is}
use Rattle.qu_history.specs.declared.sets.SetOf.{SetOf}
use Rattle.qu_frames.specs.declared.frame.Body.{Body}
use Rattle.qu_frames.specs.declared.frame.Letter.{Letter}
use Rattle.qu_replica.specs.Step.{replica_step}
use Rattle.qu_client.specs.declared.state.ClientState.{ClientState}
use Rattle.qu_client.specs.State.{Stepped}
use Rattle.qu_client.specs.Steps.{client_invoke, client_step, client_tick}
use Rattle.qu_trace.specs.declared.event.Event.{Event}
use Rattle.qu_trace.specs.declared.event.Event.TheVariants.{Invoke, Tick}
use Rattle.qu_trace.specs.declared.trace.Entry.{Entry}
use Rattle.qu_trace.specs.declared.trace.Setup.{Setup}
use Rattle.qu_trace.specs.declared.trace.Trace.{Trace}
use Rattle.qu_trace.specs.Letters.{letters_of}
use Rattle.qu_world.specs.State.{WorldState, opening_world, numbered, with_numbered, letter_of}
use Rattle.qu_world.specs.Step.{world_step, at_client}
use Rattle.qu_world.specs.Run.{IsRun}
use Rattle.qu_world.proofs.Each.{with_cases, numbered_here}
use Rattle.qu_trace.proofs.LetterLaws.{letters-push}
use Rattle.qu_claims.specs.Carried.{Asks}
use Rattle.qu_runs.specs.Plain.{IsPlain, ArePlain}
use Rattle.qu_claims.specs.Times.{world_after}
use Rattle.qu_runs.proofs.Fits.Carrying.{AsksFit}
use Rattle.qu_runs.proofs.Fits.Fitting.{fit_step}
use Rattle.qu_runs.proofs.Events.Recording.{world_cases}
use Rattle.qu_runs.proofs.Small.{some_entry}
use Rattle.qu_runs.proofs.Worlds.WorldGrowth.{world_after-none, world_after-next}
use Rattle.qu_rounds.proofs.Asking.{AsksNothing, replica_asks}
use Rattle.qu_rounds.proofs.Counted.{Each, Counts, counts_world}
use Rattle.qu_client.specs.declared.work.Work.{Work}
use Rattle.qu_rounds.proofs.RoundSent.{OrNew, AreOneRound, AreUpTo, HasOwn, IsRoundStep, IsRoundIf, before_more, work_more, one_round_more, client_step-round, client_tick-round, client_invoke-round}

-- ---- what holds of all clients and letters

record AreRounds (Sent : Letter → Type 0) (clients : List ClientState) : Type 0 where
  up_to : (client : ClientId) (state : ClientState) → numbered clients client.0 ≡ Some state
      → AreUpTo Sent client state.last_request
  work : (client : ClientId) (state : ClientState) → numbered clients client.0 ≡ Some state
      → HasOwn Sent client state.work
  alike : AreOneRound Sent

abbrev IsRoundWorld : WorldState → Type 0
IsRoundWorld world = AreRounds (Contains (letters_of world.entries)) world.clients

-- fewer letters
own_of : (More Sent : Letter → Type 0) → ((letter : Letter) → Sent letter → More letter) → (client : ClientId)
    (found : Option Work) → HasOwn More client found → HasOwn Sent client found
own_of More Sent either client None has = tt
own_of More Sent either client (Some work) has = λ letter held. has letter (either letter held)

-- the letters of one entry more
pushed : (entries : List Entry) (entry : Entry) (clients : List ClientState)
    → AreRounds (OrNew (Contains (letters_of entries)) entry.letters) clients
    → AreRounds (Contains (letters_of (entries ++ entry ∷ []))) clients
pushed entries entry clients before =
    let either : (letter : Letter) → Contains (letters_of (entries ++ entry ∷ [])) letter
    → OrNew (Contains (letters_of entries)) entry.letters letter =
    λ letter held. Contains-append_cases (letters_of entries) entry.letters letter
    (subst (λ (all : List Letter). Contains all letter) (letters-push entries entry) held) in
    let own : (client : ClientId) (found : Option Work)
    → HasOwn (OrNew (Contains (letters_of entries)) entry.letters) client found
    → HasOwn (Contains (letters_of (entries ++ entry ∷ []))) client found =
    λ client found has. own_of (OrNew (Contains (letters_of entries)) entry.letters)
    (Contains (letters_of (entries ++ entry ∷ []))) either client found has in
    record {
      up_to = λ client state is letter held. before.up_to client state is letter (either letter held);
      work = λ client state is. own client state.work (before.work client state is);
      alike = λ first second one two. before.alike first second (either first one) (either second two);
    }

-- letters that ask for nothing change nothing
replied : (Sent : Letter → Type 0) (new : List Letter) (clients : List ClientState)
    → ((letter : Letter) → Contains new letter → AsksNothing letter) → AreRounds Sent clients
    → AreRounds (OrNew Sent new) clients
replied Sent new clients none before = record {
  up_to = λ client state is.
      before_more Sent new client _ _ (λ letter fresh. none letter fresh client) (before.up_to client state is);
  work = λ client state is.
      work_more Sent new client state.work (λ letter fresh. none letter fresh client) (before.work client state is);
  alike = one_round_more Sent new none before.alike;
}

-- a client that moved, among the others
moved : (Sent : Letter → Type 0) (clients : List ClientState) (me : ClientId) (stepped : Stepped)
    → AreRounds Sent clients → IsRoundStep Sent me stepped
    → AreRounds (OrNew Sent stepped.letters) (with_numbered clients me.0 stepped.state)
moved Sent clients me stepped before step = record {
  up_to = λ client state is. elim (with_cases clients me.0 client.0 stepped.state state is) [
    | inl here ↦
        subst (λ (it : ClientState). AreUpTo (OrNew Sent stepped.letters) client it.last_request) (sym here.1)
        (subst (λ (it : ClientId). AreUpTo (OrNew Sent stepped.letters) it stepped.state.last_request)
        (sym (client_is client me here.0)) step.up_to)
    | inr other ↦
        before_more Sent stepped.letters client _ _
        (λ letter new number round sets asks asked.
        other.0 (ap (λ (it : ClientId). it.0) (step.own letter new client number round sets asks asked)))
        (before.up_to client state other.1)
  ];
  work = λ client state is. elim (with_cases clients me.0 client.0 stepped.state state is) [
    | inl here ↦
        subst (λ (it : ClientState). HasOwn (OrNew Sent stepped.letters) client it.work) (sym here.1)
        (subst (λ (it : ClientId). HasOwn (OrNew Sent stepped.letters) it stepped.state.work)
        (sym (client_is client me here.0)) step.work)
    | inr other ↦
        work_more Sent stepped.letters client state.work
        (λ letter new number round sets asks asked.
        other.0 (ap (λ (it : ClientId). it.0) (step.own letter new client number round sets asks asked)))
        (before.work client state other.1)
  ];
  alike = step.alike before.alike;
}

-- ---- a step of the world

-- what the clients ask for fits
abbrev DoFit : WorldState → Type 0
DoFit world = (number : ℕ) (state : ClientState) → numbered world.clients number ≡ Some state → AsksFit state

module _ (trace : Trace) (count : ℕ) (world : WorldState) (counts : Each (Counts trace count) world.clients)
    (before : IsRoundWorld world) where
  abbrev Sent : Letter → Type 0
  Sent = Contains (letters_of world.entries)

  silent-round : (event : Event) (new : List Letter) → ((letter : Letter) → Contains new letter → AsksNothing letter)
      → IsRoundWorld
      (record world { entries = world.entries ++ (record { event = event; letters = new; ended = None }) ∷ [] })
  silent-round event new none = pushed world.entries _ world.clients (replied Sent new world.clients none before)

  client-round : (event : Event) (me : ClientId) (move : ClientState → Stepped) (state : ClientState)
      → numbered world.clients me.0 ≡ Some state
      → (AreUpTo Sent state.me state.last_request → HasOwn Sent state.me state.work
      → IsRoundIf Sent state.me (move state))
      → DoFit (at_client world event me move (Some state)) → IsRoundWorld (at_client world event me move (Some state))
  client-round event me move state is step fits =
      let named : state.me ≡ me = client_is state.me me (counts me.0 state is).me in
      let up_to : AreUpTo Sent state.me state.last_request =
      subst (λ (it : ClientId). AreUpTo Sent it state.last_request) (sym named) (before.up_to me state is) in
      let work : HasOwn Sent state.me state.work =
      subst (λ (it : ClientId). HasOwn Sent it state.work) (sym named) (before.work me state is) in
      let made : IsRoundStep Sent state.me (move state) =
      step up_to work (fits me.0 (move state).state (numbered_here world.clients me.0 state (move state).state is)) in
      pushed world.entries _ (with_numbered world.clients me.0 (move state).state)
      (moved Sent world.clients me (move state) before
      (subst (λ (it : ClientId). IsRoundStep Sent it (move state)) named made))

  world_step-round : (event : Event) → IsPlain world event → DoFit (world_step world event)
      → IsRoundWorld (world_step world event)
  world_step-round =
      world_cases world (λ (new : WorldState). DoFit new → IsRoundWorld new)
      (λ event fits.
      silent-round event [] (λ letter. All-contains AsksNothing [] letter (All-nil AsksNothing)))
      (λ event text me state from hands found fits.
      silent-round event (replica_step state text).1
      (λ letter. All-contains AsksNothing (replica_step state text).1 letter (replica_asks state text)))
      (λ client operation state found.
      client-round (Invoke client operation) client (λ (it : ClientState). client_invoke it operation) state found
      (λ up_to own. client_invoke-round Sent state operation up_to))
      (λ event text client state from hands found.
      client-round event client (λ (it : ClientState). client_step it text) state found
      (λ up_to own. client_step-round Sent state (counts client.0 state found).sound up_to own text))
      (λ client state found.
      client-round (Tick client) client client_tick state found
      (client_tick-round Sent state (counts client.0 state found).sound))

-- ---- all worlds of a run

no_letters : ((letter : Letter) → Contains [] letter → ⊥) → (client : ClientId) (found : Option Work)
    → HasOwn (Contains []) client found
no_letters none client None = tt
no_letters none client (Some work) = λ letter held. absurd (none letter held)

opening_world-round : (setup : Setup) → IsRoundWorld (opening_world setup)
unfolding letters_of
opening_world-round setup =
    let none : (letter : Letter) → Contains [] letter → ⊥ =
    λ letter. All-contains (λ (it : Letter). ⊥) [] letter (All-nil (λ (it : Letter). ⊥)) in
    let none_own : (client : ClientId) (found : Option Work) → HasOwn (Contains []) client found =
    λ client found. no_letters (λ letter held. none letter held) client found in
    record {
      up_to = λ client state is letter held. absurd (none letter held);
      work = λ client state is. none_own client state.work;
      alike = λ first second one. absurd (none first one);
    }

round_next : (trace : Trace) → IsRun trace → ArePlain trace → (count : ℕ) → count < length trace.entries
    → IsRoundWorld (world_after trace count) → IsRoundWorld (world_after trace (count + 1))
round_next trace is_run have count below before =
    let default : Entry = some_entry trace.entries (omega arith) in
    let event : Event = (get_or trace.entries count default).event in
    subst IsRoundWorld (sym (world_after-next trace count default below))
    (world_step-round trace count (world_after trace count) (counts_world trace is_run have count (omega arith))
    before event (have.plain_at count default below)
    (subst DoFit (world_after-next trace count default below) (fit_step trace is_run have.typed count below).asks))

round_world : (trace : Trace) → IsRun trace → ArePlain trace → (count : ℕ) → count ≤ length trace.entries
    → IsRoundWorld (world_after trace count)
round_world trace is_run have zero within =
    subst IsRoundWorld (sym (world_after-none trace)) (opening_world-round trace.setup)
round_world trace is_run have (suc count) within =
    subst (λ (at : ℕ). IsRoundWorld (world_after trace at)) (add-one count)
    (round_next trace is_run have count (omega arith) (round_world trace is_run have count (omega arith)))

numbered_held : {X : Type 0} (items : List X) (number : ℕ) (item : X) → numbered items number ≡ Some item
    → Contains items item
numbered_held items zero item found = absurd (none-some item found)
numbered_held items (suc place) item found =
    (place, slice_get_within items place item found, get_or_from_slice_get items place item item found)

-- two requests of one operation and round have the same sets and body
pub one_round_request : (trace : Trace) → IsRun trace → ArePlain trace → (count : ℕ)
    → count ≤ length trace.entries → (first second : ℕ) (a b : Letter)
    → letter_of (world_after trace count) first ≡ Some a → letter_of (world_after trace count) second ≡ Some b
    → (client : ClientId) (number round : ℕ) (sets others : List SetOf) (asked other : Body)
    → Asks a client number round sets asked → Asks b client number round others other → (sets ≡ others)
    × (asked ≡ other)
one_round_request trace is_run have count within first second a b one two client number round sets others asked
    other is_a is_b =
    (round_world trace is_run have count within).alike a b
    (numbered_held (letters_of (world_after trace count).entries) first a one)
    (numbered_held (letters_of (world_after trace count).entries) second b two)
    client number round sets others asked other is_a is_b
