-- What an event makes of a world: nothing at a faulty party, and else what the party makes.
use Rattle.std.proofs.Common.{◌≡◌, Bool, true, false, cond, None, refl, sym, ap, ◌∙◌}
use Rattle.std.proofs.lemmas.Bool.{false≢true}
use Rattle.qu_base.specs.declared.party.ClientId.{ClientId}
use Rattle.qu_base.specs.declared.party.Party.TheVariants as party
use Rattle.qu_objects.specs.declared.op.Op.{Op}
use Rattle.qu_trace.specs.Faulty.{is_faulty}
use Rattle.qu_trace.specs.declared.event.Event.{Event}
use Rattle.qu_trace.specs.declared.event.Event.TheVariants.{Invoke, Deliver, Tick, Inject}
use Rattle.qu_world.specs.Refusals.{cause_of, refused_invocation, refused_tick}
use Rattle.qu_world.specs.Run.{bar_at_faulty, bar_of}
use Rattle.qu_world.specs.State.{WorldState, numbered}
use Rattle.qu_world.specs.Step.{unchanged, moved, at_faulty, world_step}

-- the party at which the event happens is not faulty
abbrev pub AtCorrect : WorldState → Event → Type 0
AtCorrect world event = at_faulty world.setup world.entries event ≡ false

-- what holds of both holds of a step
pub step_cases : (P : WorldState → Type 0) (world : WorldState) (event : Event) → P (unchanged world event)
    → (AtCorrect world event → P (moved world event)) → P (world_step world event)
step_cases P world event none step = by (at_faulty world.setup world.entries event) refl
  where
    by : (faulty : Bool) → at_faulty world.setup world.entries event ≡ faulty
        → P (cond faulty (unchanged world event) (moved world event))
    by true is = none
    by false is = step is

-- at a correct party an event makes what the party makes
pub step_moved : (world : WorldState) (event : Event) → AtCorrect world event
    → world_step world event ≡ moved world event
step_moved world event correct = ap (λ (faulty : Bool). cond faulty (unchanged world event) (moved world event)) correct

-- an operation begins at a correct client alone
pub record IsInvoked (world : WorldState) (client : ClientId) (op : Op) : Type 0 where
  pub correct : AtCorrect world (Invoke client op)
  pub free : refused_invocation (party.Client client) (numbered world.clients client.0) ≡ None

pub is_invoked : (world : WorldState) (client : ClientId) (op : Op) → cause_of world (Invoke client op) ≡ None
    → IsInvoked world client op
is_invoked world client op may = by (is_faulty world.setup (party.Client client)) refl may
  where
    by : (faulty : Bool) → is_faulty world.setup (party.Client client) ≡ faulty
        → refused_invocation (party.Client client) (cond faulty None (numbered world.clients client.0)) ≡ None
        → IsInvoked world client op
    by true is free = absurd cc
    by false is free = record { correct = is; free = free }

-- ---- what may happen in a run

-- at a correct party an event is barred where it is refused
pub barred_as_refused : (world : WorldState) (event : Event) → AtCorrect world event
    → bar_of world event ≡ cause_of world event
barred_as_refused world event correct =
    ap (λ (faulty : Bool). cond faulty (bar_at_faulty world event) (cause_of world event)) correct

-- what is not refused at a faulty party is not barred there
free_at_faulty : (world : WorldState) (event : Event) → at_faulty world.setup world.entries event ≡ true
    → cause_of world event ≡ None → bar_at_faulty world event ≡ None
free_at_faulty world (Invoke client op) faulty may =
    absurd (false≢true (sym (is_invoked world client op may).correct ∙ faulty))
free_at_faulty world (Deliver number) faulty may = refl
free_at_faulty world (Tick client) faulty may = by (is_faulty world.setup (party.Client client)) faulty may
  where
    by : (it : Bool) → it ≡ true → refused_tick (party.Client client) (cond it None (numbered world.clients client.0))
        ≡ None → bar_at_faulty world (Tick client) ≡ None
    by true is free = absurd cc
    by false is free = absurd (false≢true is)
free_at_faulty world (Inject who text) faulty may = may

-- what is not refused is not barred
pub not_barred : (world : WorldState) (event : Event) → cause_of world event ≡ None → bar_of world event ≡ None
not_barred world event may = by (at_faulty world.setup world.entries event) refl
  where
    by : (faulty : Bool) → at_faulty world.setup world.entries event ≡ faulty
        → cond faulty (bar_at_faulty world event) (cause_of world event) ≡ None
    by true is = free_at_faulty world event is may
    by false is = may
