-- Replays: kept steps are those that the actor's step makes, one after the other.
use Rattle.std.specs.Prelude.{ℕ, zero, suc, List, [], ◌∷◌, ◌≡◌, ◌≤◌, ◌<◌, ◌+◌, Option, None, Some, option_map, if◌then◌else◌, nat_lt}
use Rattle.qu_base.specs.declared.party.Party.{Party}
use Rattle.qu_base.specs.declared.party.Party.TheVariants as party
use Rattle.qu_base.specs.declared.party.ReplicaId.{ReplicaId}
use Rattle.qu_base.specs.Bounds.{replicas}
use Rattle.qu_fitting.specs.Holding as replica
use Rattle.qu_rows.specs.State.{ReplicaState}
use Rattle.qu_client.specs.State as client
use Rattle.qu_client.specs.declared.state.ClientState.{ClientState}
use Rattle.qu_trace.specs.Faulty.{is_same, is_faulty}
use Rattle.qu_trace.specs.declared.trace.Setup.{Setup}
use Rattle.qu_world.specs.State.{WorldState, ring_of, correct_replica, correct_client}
use Rattle.qu_replay.specs.Steps.{Actor, Replicates, Asks, actor_moved, CanTake}
use Rattle.qu_replay.specs.declared.kept_step.KeptStep.{KeptStep}
use Rattle.qu_frames.specs.declared.input.Input.{Input}
use Rattle.qu_frames.specs.declared.input.Input.TheVariants.{Frame, Tick, Invoke}

-- a step is the one that this actor makes of its input
pub record IsStepMade (me : Party) (actor : Actor) (step : KeptStep) : Type 0 where
  pub can : CanTake me actor step.input
  pub letters : step.letters ≡ (actor_moved me actor step.input).letters
  pub ended : step.ended ≡ (actor_moved me actor step.input).ended

-- from this actor these steps lead to that one
unfoldable pub IsReplay : Party → Actor → List KeptStep → Actor → Type 0
IsReplay me actor [] end = actor ≡ end
IsReplay me actor (step ∷ later) end =
    IsStepMade me actor step × IsReplay me (actor_moved me actor step.input).actor later end

-- where these steps lead
unfoldable pub state_after_steps : Party → Actor → List KeptStep → Actor
state_after_steps me actor [] = actor
state_after_steps me actor (step ∷ later) = state_after_steps me (actor_moved me actor step.input).actor later

-- a frame's letter has a smaller ticket than the step that takes it
abbrev pub IsAfterLetter : ℕ → Input → Type 0
IsAfterLetter ticket (Frame name text) = name.ticket < ticket
IsAfterLetter ticket Tick = Unit {0}
IsAfterLetter ticket (Invoke op) = Unit {0}

-- the tickets of one actor's steps rise, from this one on
unfoldable pub RisesFrom : ℕ → List KeptStep → Type 0
RisesFrom low [] = Unit {0}
RisesFrom low (step ∷ later) =
    (low ≤ step.ticket) × IsAfterLetter step.ticket step.input × RisesFrom (step.ticket + 1) later

-- the first ticket that may follow these steps
unfoldable pub first_free_ticket : ℕ → List KeptStep → ℕ
first_free_ticket low [] = low
first_free_ticket low (step ∷ later) = first_free_ticket (step.ticket + 1) later

-- ---- the actors of a world

-- the correct party of this name
abbrev pub actor_at : WorldState → Party → Option Actor
actor_at world (party.Replica me) = option_map (λ (state : ReplicaState). Replicates state) (correct_replica world me)
actor_at world (party.Client me) = option_map (λ (state : ClientState). Asks state) (correct_client world me)

-- the steps of one actor among those of all
unfoldable pub own_steps : Party → List (Party × KeptStep) → List KeptStep
own_steps me [] = []
own_steps me (x ∷ later) = if is_same x.0 me then x.1 ∷ own_steps me later else own_steps me later

-- a party that is faulty, or of no such name, keeps no steps
unfoldable pub IsReplayOf : Party → Option Actor → List KeptStep → Option Actor → Type 0
IsReplayOf me None steps end = (steps ≡ []) × (end ≡ None)
IsReplayOf me (Some actor) steps end = (last : Actor) × (end ≡ Some last) × IsReplay me actor steps last

-- of each correct party its steps lead from its state in this world to this end
abbrev pub AreReplays : WorldState → List (Party × KeptStep) → (Party → Option Actor) → Type 0
AreReplays world xs ends = (me : Party) → IsReplayOf me (actor_at world me) (own_steps me xs) (ends me)

-- ---- the opening

-- how the client with this number begins
abbrev pub opening_client : Setup → ℕ → Option ClientState
opening_client setup zero = None
opening_client setup (suc before) =
    if nat_lt before setup.clients
    then Some (client.client_at_start (record { 0 = suc before }) (ring_of setup) setup.seed) else None

-- how the replica with this name begins
abbrev pub opening_replica : Setup → ReplicaId → Option ReplicaState
opening_replica setup me =
    if nat_lt me.0 (replicas setup.bounds)
    then Some (replica.replica_at_start me (ring_of setup) setup.kinds) else None

-- how the party with this name begins, where it is correct
abbrev pub opening_actor : Setup → Party → Option Actor
opening_actor setup (party.Replica me) =
    option_map (λ (state : ReplicaState). Replicates state)
    (if is_faulty setup (party.Replica me) then None else opening_replica setup me)
opening_actor setup (party.Client me) =
    option_map (λ (state : ClientState). Asks state)
    (if is_faulty setup (party.Client me) then None else opening_client setup me.0)

-- of each correct party of a setup its steps lead from its opening to this end
abbrev pub AreReplaysOf : Setup → List (Party × KeptStep) → (Party → Option Actor) → Type 0
AreReplaysOf setup xs ends = (me : Party) → IsReplayOf me (opening_actor setup me) (own_steps me xs) (ends me)
