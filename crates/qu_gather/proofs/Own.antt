-- The steps of one party among those of all.
use Rattle.std.proofs.Common.{◌≡◌, ℕ, ◌+◌, ◌<◌, ◌≤◌, Bool, true, false, cond, eqb, List, [], ◌∷◌, ◌++◌, map, refl, sym, ap, ◌∙◌, append-nil, arith, inl, inr}
use Rattle.std.specs.List.{flat_map}
use Rattle.std.proofs.lemmas.Bool.{cases_Bool, ne_eqb}
use Rattle.qu_base.specs.declared.party.ClientId.{ClientId}
use Rattle.qu_base.specs.declared.party.ReplicaId.{ReplicaId}
use Rattle.qu_base.specs.declared.party.Party.{Party}
use Rattle.qu_base.specs.declared.party.Party.TheVariants as party
use Rattle.qu_rows.specs.State.{ReplicaState}
use Rattle.qu_client.specs.declared.state.ClientState.{ClientState}
use Rattle.qu_trace.specs.Faulty.{is_same}
use Rattle.qu_replay.specs.declared.kept_step.KeptStep.{KeptStep}
use Rattle.qu_replay.specs.Replays.{own_steps}
use Rattle.qu_gather.specs.Gathered.{steps_of_replica, steps_of_client, all_steps}
use Rattle.qu_gather.proofs.Numbers.{AscendsFrom}

pub own_append : (me : Party) (xs ys : List (Party × KeptStep))
    → own_steps me (xs ++ ys) ≡ own_steps me xs ++ own_steps me ys
unfolding own_steps
own_append me [] ys = refl
own_append me (x ∷ xs) ys =
    elim (cases_Bool (is_same x.0 me)) [
      | inl mine ↦ rw (mine, own_append me xs ys) refl
      | inr other ↦ rw (other, own_append me xs ys) refl
    ]

abbrev named : Party → List KeptStep → List (Party × KeptStep)
named who steps = map (λ (step : KeptStep). (who, step)) steps

own_named : (who me : Party) (steps : List KeptStep)
    → own_steps me (named who steps) ≡ cond (is_same who me) steps []
unfolding own_steps
own_named who me [] = sym (nothing (is_same who me))
  where
    nothing : (test : Bool) → cond {A = List KeptStep} test [] [] ≡ []
    nothing true = refl
    nothing false = refl
own_named who me (step ∷ later) =
    elim (cases_Bool (is_same who me)) [
      | inl mine ↦ rw mine (ap (λ (it : List KeptStep). step ∷ it)
          (own_named who me later ∙ ap (λ (it : Bool). cond it later []) mine))
      | inr other ↦ rw other (own_named who me later ∙ ap (λ (it : Bool). cond it later []) other)
    ]

-- ---- replicas

unfoldable pub replica_steps : ℕ → List (ReplicaState × List KeptStep) → List KeptStep
replica_steps me [] = []
replica_steps me (one ∷ later) = cond (eqb one.0.me.0 me) one.1 [] ++ replica_steps me later

own_replicas : (me : ReplicaId) (held : List (ReplicaState × List KeptStep))
    → own_steps (party.Replica me) (flat_map steps_of_replica held) ≡ replica_steps me.0 held
unfolding replica_steps own_steps
own_replicas me [] = refl
own_replicas me (one ∷ later) =
    own_append (party.Replica me) (steps_of_replica one) (flat_map steps_of_replica later)
    ∙ ap (λ (it : List KeptStep). it ++ own_steps (party.Replica me) (flat_map steps_of_replica later))
    (own_named (party.Replica one.0.me) (party.Replica me) one.1)
    ∙ ap (λ (it : List KeptStep). cond (eqb one.0.me.0 me.0) one.1 [] ++ it) (own_replicas me later)

no_client_there : (me : ClientId) (held : List (ReplicaState × List KeptStep))
    → own_steps (party.Client me) (flat_map steps_of_replica held) ≡ []
unfolding own_steps
no_client_there me [] = refl
no_client_there me (one ∷ later) =
    own_append (party.Client me) (steps_of_replica one) (flat_map steps_of_replica later)
    ∙ ap (λ (it : List KeptStep). it ++ own_steps (party.Client me) (flat_map steps_of_replica later))
    (own_named (party.Replica one.0.me) (party.Client me) one.1)
    ∙ no_client_there me later

pub no_replica_steps : (me low : ℕ) (held : List (ReplicaState × List KeptStep)) → me < low
    → AscendsFrom low (map (λ (one : ReplicaState × List KeptStep). one.0.me.0) held) → replica_steps me held ≡ []
unfolding replica_steps AscendsFrom
no_replica_steps me low [] below rises = refl
no_replica_steps me low (one ∷ later) below rises =
    let first : low ≤ one.0.me.0 = rises.0 in
    let other : eqb one.0.me.0 me ≡ false = ne_eqb one.0.me.0 me (λ same. omega (arith, first, below, same)) in
    rw other (no_replica_steps me (one.0.me.0 + 1) later (omega (arith, first, below)) rises.1)

-- ---- clients

unfoldable pub client_steps : ℕ → List (ClientState × List KeptStep) → List KeptStep
client_steps me [] = []
client_steps me (one ∷ later) = cond (eqb one.0.me.0 me) one.1 [] ++ client_steps me later

own_clients : (me : ClientId) (held : List (ClientState × List KeptStep))
    → own_steps (party.Client me) (flat_map steps_of_client held) ≡ client_steps me.0 held
unfolding client_steps own_steps
own_clients me [] = refl
own_clients me (one ∷ later) =
    own_append (party.Client me) (steps_of_client one) (flat_map steps_of_client later)
    ∙ ap (λ (it : List KeptStep). it ++ own_steps (party.Client me) (flat_map steps_of_client later))
    (own_named (party.Client one.0.me) (party.Client me) one.1)
    ∙ ap (λ (it : List KeptStep). cond (eqb one.0.me.0 me.0) one.1 [] ++ it) (own_clients me later)

no_replica_there : (me : ReplicaId) (held : List (ClientState × List KeptStep))
    → own_steps (party.Replica me) (flat_map steps_of_client held) ≡ []
unfolding own_steps
no_replica_there me [] = refl
no_replica_there me (one ∷ later) =
    own_append (party.Replica me) (steps_of_client one) (flat_map steps_of_client later)
    ∙ ap (λ (it : List KeptStep). it ++ own_steps (party.Replica me) (flat_map steps_of_client later))
    (own_named (party.Client one.0.me) (party.Replica me) one.1)
    ∙ no_replica_there me later

pub no_client_steps : (me low : ℕ) (held : List (ClientState × List KeptStep)) → me < low
    → AscendsFrom low (map (λ (one : ClientState × List KeptStep). one.0.me.0) held) → client_steps me held ≡ []
unfolding client_steps AscendsFrom
no_client_steps me low [] below rises = refl
no_client_steps me low (one ∷ later) below rises =
    let first : low ≤ one.0.me.0 = rises.0 in
    let other : eqb one.0.me.0 me ≡ false = ne_eqb one.0.me.0 me (λ same. omega (arith, first, below, same)) in
    rw other (no_client_steps me (one.0.me.0 + 1) later (omega (arith, first, below)) rises.1)

-- ---- all

pub own_replica : (me : ReplicaId) (held : List (ReplicaState × List KeptStep))
    (others : List (ClientState × List KeptStep))
    → own_steps (party.Replica me) (all_steps held others) ≡ replica_steps me.0 held
own_replica me held others =
    own_append (party.Replica me) (flat_map steps_of_replica held) (flat_map steps_of_client others)
    ∙ ap (λ (it : List KeptStep). own_steps (party.Replica me) (flat_map steps_of_replica held) ++ it)
    (no_replica_there me others)
    ∙ append-nil (own_steps (party.Replica me) (flat_map steps_of_replica held))
    ∙ own_replicas me held

pub own_client : (me : ClientId) (held : List (ReplicaState × List KeptStep))
    (others : List (ClientState × List KeptStep))
    → own_steps (party.Client me) (all_steps held others) ≡ client_steps me.0 others
own_client me held others =
    own_append (party.Client me) (flat_map steps_of_replica held) (flat_map steps_of_client others)
    ∙ ap (λ (it : List KeptStep). it ++ own_steps (party.Client me) (flat_map steps_of_client others))
    (no_client_there me held)
    ∙ own_clients me others
