-- What the kept steps tell of operations: which of them began and ended.
use Rattle.std.specs.Prelude.{ℕ, List, [], ◌∷◌, ◌≡◌, ◌+◌, ◌==◌, length, if◌then◌else◌, Option, None, Some}
use Rattle.std.specs.List.{flat_map, AllByRecursion}
use Rattle.qu_base.specs.declared.party.ClientId.{ClientId}
use Rattle.qu_base.specs.declared.party.Party.{Party}
use Rattle.qu_base.specs.declared.party.Party.TheVariants as party
use Rattle.qu_objects.specs.declared.op.Op.{Op}
use Rattle.qu_objects.specs.declared.op.Outcome.{Outcome}
use Rattle.qu_client.specs.declared.state.ClientState.{ClientState}
use Rattle.qu_client.specs.declared.work.Work.{Work}
use Rattle.qu_client.specs.Sound.{NumbersWithin}
use Rattle.qu_trace.specs.declared.event.Event.{Event}
use Rattle.qu_trace.specs.declared.event.Event.TheVariants as event
use Rattle.qu_trace.specs.declared.trace.Entry.{Entry}
use Rattle.qu_trace.specs.declared.trace.Setup.{Setup}
use Rattle.qu_replay.specs.declared.kept_step.KeptStep.{KeptStep}
use Rattle.qu_frames.specs.declared.input.Input.{Input}
use Rattle.qu_frames.specs.declared.input.Input.TheVariants.{Frame, Tick, Invoke}
use Rattle.qu_replay.specs.Steps.{Asks}
use Rattle.qu_replay.specs.Replays.{IsReplayOf, opening_actor, own_steps}
use Rattle.qu_replay.specs.Told.{AreTold}

-- the operation that begins in a step, if one does
abbrev pub begun_in : Input → List Op
begun_in (Frame name text) = []
begun_in Tick = []
begun_in (Invoke op) = op ∷ []

-- the operations that an actor began
unfoldable pub begun_operations : List KeptStep → List Op
begun_operations steps = flat_map (λ step. begun_in step.input) steps

-- the end that a step kept, if it kept one
abbrev pub ended_in : Option (ClientId × ℕ × Outcome) → List (ClientId × ℕ × Outcome)
ended_in None = []
ended_in (Some ended) = ended ∷ []

-- the ends that an actor kept
unfoldable pub ended_operations : List KeptStep → List (ClientId × ℕ × Outcome)
ended_operations steps = flat_map (λ step. ended_in step.ended) steps

-- the operation that this client begins at an event, if it begins one
abbrev pub invoked_at : ClientId → Event → List Op
invoked_at me (event.Invoke other op) = if other.0 == me.0 then op ∷ [] else []
invoked_at me (event.Deliver letter) = []
invoked_at me (event.Tick other) = []
invoked_at me (event.Inject party text) = []

-- the operations that a client began, in order
unfoldable pub invoked_by : ClientId → List Entry → List Op
invoked_by me entries = flat_map (λ entry. invoked_at me entry.event) entries

-- no bytes come but those that were sent
abbrev pub IsNotInjected : Event → Type 0
IsNotInjected (event.Invoke other op) = Unit {0}
IsNotInjected (event.Deliver letter) = Unit {0}
IsNotInjected (event.Tick other) = Unit {0}
IsNotInjected (event.Inject party text) = ⊥

-- how many operations are under way
abbrev pub under_way : Option Work → ℕ
under_way None = 0
under_way (Some work) = 1

-- what holds of a client with this name after these steps: its numbers are at most as many as it began operations, and
-- of these all have ended but one that is under way
pub record IsBalanced (me : ClientId) (steps : List KeptStep) (state : ClientState) : Type 0 where
  pub named : state.me ≡ me
  pub numbers : NumbersWithin (length (begun_operations steps)) state
  pub open_or_ended : length (begun_operations steps) ≡ length (ended_operations steps) + under_way state.work

-- ---- laws

-- entries that tell steps have the operations that each client began, in their order, and bring nothing that was not
-- sent
abbrev pub ToldOperations : Type 0
ToldOperations = (xs : List (Party × KeptStep)) (entries : List Entry) → AreTold [] xs entries
    → ((me : ClientId) → invoked_by me entries ≡ begun_operations (own_steps (party.Client me) xs))
    × AllByRecursion (λ (entry : Entry). IsNotInjected entry.event) entries

-- a client of a setup is balanced after the steps that lead to it
abbrev pub KeptIsBalanced : Type 0
KeptIsBalanced = (setup : Setup) (me : ClientId) (steps : List KeptStep) (state : ClientState)
    → IsReplayOf (party.Client me) (opening_actor setup (party.Client me)) steps (Some (Asks state))
    → IsBalanced me steps state
