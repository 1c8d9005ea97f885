-- Whether another actor stands behind a lock.
use Rattle.std.proofs.Common.{◌≡◌, ℕ, ◌+◌, ◌<◌, ◌≤◌, Bool, true, false, cond, eqb, List, [], ◌∷◌, ◌++◌, map, length, get_or, drop, Option, None, Some, refl, sym, ap, ◌∙◌, arith, inl, inr}
use Rattle.std.specs.Option.{option_or}
use Rattle.std.proofs.lemmas.Bool.{cases_Bool, eqb-true}
use Rattle.std.proofs.lemmas.List.{at_drop_more, at_drop_all, get_or-map, get_or_default, length-map}
use Rattle.std.proofs.lemmas.Option.{none-some}
use Rattle.qu_base.specs.declared.party.ClientId.{ClientId}
use Rattle.qu_base.specs.declared.party.ReplicaId.{ReplicaId}
use Rattle.qu_base.specs.declared.party.Party.{Party}
use Rattle.qu_base.specs.declared.party.Party.TheVariants as party
use Rattle.qu_base.specs.Bounds.{replicas}
use Rattle.qu_rows.specs.State.{ReplicaState}
use Rattle.qu_client.specs.declared.state.ClientState.{ClientState}
use Rattle.qu_trace.specs.Faulty.{is_same}
use Rattle.qu_trace.specs.declared.trace.Setup.{Setup}
use Rattle.qu_replay.specs.declared.kept_step.KeptStep.{KeptStep}
use Rattle.qu_gather.specs.Correct.{correct_replicas, correct_clients}
use Rattle.qu_gather.specs.Gathered.{replica_name, client_name}
use Rattle.qu_gather.specs.Torn.{first_moved, replica_locks, client_locks, replicas_behind, clients_behind, moved_actor}

-- ---- one lock after another

-- the first that moved from this place on
pub moved_at : (locks held : List Party) (at : ℕ) (lock here : Party) → at < length locks → at < length held
    → get_or locks at lock ≡ lock → get_or held at here ≡ here
    → first_moved (drop at locks) (drop at held)
    ≡ cond (is_same here lock) (first_moved (drop (at + 1) locks) (drop (at + 1) held)) (Some (lock, here))
unfolding first_moved
moved_at locks held at lock here within_locks within_held lock_is here_is =
    at_drop_more (λ (it : List Party). first_moved it (drop at held)) locks at lock within_locks
    ∙ ap (λ (it : Party). first_moved (it ∷ drop (at + 1) locks) (drop at held)) lock_is
    ∙ at_drop_more (λ (it : List Party). first_moved (lock ∷ drop (at + 1) locks) it) held at here within_held
    ∙ ap (λ (it : Party). first_moved (lock ∷ drop (at + 1) locks) (it ∷ drop (at + 1) held)) here_is

pub moved_end : (locks held : List Party) (at : ℕ) → length locks ≤ at
    → first_moved (drop at locks) (drop at held) ≡ None
unfolding first_moved
moved_end locks held at all = at_drop_all (λ (it : List Party). first_moved it (drop at held)) locks at all

pub next_same : {Y : Type 0} (first next found all : Y) (test : Bool) → first ≡ cond test next found → test ≡ true
    → first ≡ all → next ≡ all
next_same first next found all true is passed so_far = sym is ∙ so_far
next_same first next found all false is passed so_far = absurd cc

pub found_same : {Y : Type 0} (first next found all : Y) (test : Bool) → first ≡ cond test next found → test ≡ false
    → first ≡ all → found ≡ all
found_same first next found all false is failed so_far = sym is ∙ so_far
found_same first next found all true is failed so_far = absurd cc

abbrev any_replica : ReplicaId
any_replica = record { 0 = 0 }

pub replica_moved : (names : List ReplicaId) (held : List (ReplicaState × List KeptStep)) (at : ℕ)
    (one : ReplicaState × List KeptStep) (told : Party) (test : Bool) → at < length held
    → length names ≡ length held → one ≡ get_or held at one → told ≡ party.Replica one.0.me
    → test ≡ is_same told (party.Replica (get_or names at any_replica))
    → first_moved (drop at (replica_locks names)) (drop at (replicas_behind held))
    ≡ cond test (first_moved (drop (at + 1) (replica_locks names)) (drop (at + 1) (replicas_behind held)))
    (Some (party.Replica (get_or names at any_replica), told))
replica_moved names held at one told test within same one_is told_is test_is =
    let name : ReplicaId = get_or names at any_replica in
    let Behind : ReplicaState × List KeptStep → Party = λ it. party.Replica it.0.me in
    let within_names : at < length names = omega (arith, within, same) in
    let locks_are = length-map names (λ (me : ReplicaId). party.Replica me) in
    let behind_are = length-map held Behind in
    let lock_is : get_or (replica_locks names) at (party.Replica name) ≡ party.Replica name =
    get_or-map (λ (me : ReplicaId). party.Replica me) names at name (party.Replica name) within_names
    ∙ ap (λ (me : ReplicaId). party.Replica me) (get_or_default names at name any_replica within_names) in
    let here_is : get_or (replicas_behind held) at told ≡ told =
    get_or-map Behind held at one told within ∙ ap Behind (sym one_is) ∙ sym told_is in
    moved_at (replica_locks names) (replicas_behind held) at (party.Replica name) told
    (omega (arith, locks_are, within_names)) (omega (arith, behind_are, within)) lock_is here_is
    ∙ ap (λ (it : Bool).
    cond it (first_moved (drop (at + 1) (replica_locks names)) (drop (at + 1) (replicas_behind held)))
    (Some (party.Replica name, told))) (sym test_is)

abbrev any_client : ClientId
any_client = record { 0 = 0 }

pub client_moved : (names : List ClientId) (held : List (ClientState × List KeptStep)) (at : ℕ)
    (one : ClientState × List KeptStep) (told : Party) (test : Bool) → at < length held
    → length names ≡ length held → one ≡ get_or held at one → told ≡ party.Client one.0.me
    → test ≡ is_same told (party.Client (get_or names at any_client))
    → first_moved (drop at (client_locks names)) (drop at (clients_behind held))
    ≡ cond test (first_moved (drop (at + 1) (client_locks names)) (drop (at + 1) (clients_behind held)))
    (Some (party.Client (get_or names at any_client), told))
client_moved names held at one told test within same one_is told_is test_is =
    let name : ClientId = get_or names at any_client in
    let Behind : ClientState × List KeptStep → Party = λ it. party.Client it.0.me in
    let within_names : at < length names = omega (arith, within, same) in
    let locks_are = length-map names (λ (me : ClientId). party.Client me) in
    let behind_are = length-map held Behind in
    let lock_is : get_or (client_locks names) at (party.Client name) ≡ party.Client name =
    get_or-map (λ (me : ClientId). party.Client me) names at name (party.Client name) within_names
    ∙ ap (λ (me : ClientId). party.Client me) (get_or_default names at name any_client within_names) in
    let here_is : get_or (clients_behind held) at told ≡ told =
    get_or-map Behind held at one told within ∙ ap Behind (sym one_is) ∙ sym told_is in
    moved_at (client_locks names) (clients_behind held) at (party.Client name) told
    (omega (arith, locks_are, within_names)) (omega (arith, behind_are, within)) lock_is here_is
    ∙ ap (λ (it : Bool).
    cond it (first_moved (drop (at + 1) (client_locks names)) (drop (at + 1) (clients_behind held)))
    (Some (party.Client name, told))) (sym test_is)

-- ---- all locks

abbrev replica_at_number : ℕ → ReplicaId
replica_at_number number = record { 0 = number }

abbrev client_at_number : ℕ → ClientId
client_at_number number = record { 0 = number }

pub replicas_are : (names : List ReplicaId) (held : List (ReplicaState × List KeptStep))
    → length names ≡ length held → first_moved (replica_locks names) (replicas_behind held) ≡ None
    → map replica_name held ≡ names
unfolding first_moved
replicas_are [] [] same none = refl
replicas_are [] (one ∷ held) same none = absurd (omega (arith, same))
replicas_are (name ∷ names) [] same none = absurd (omega (arith, same))
replicas_are (name ∷ names) (one ∷ held) same none =
    elim (cases_Bool (eqb one.0.me.0 name.0)) [
      | inl own ↦
          let rest : first_moved (replica_locks names) (replicas_behind held) ≡ None =
          sym (ap (λ (it : Bool). cond it (first_moved (replica_locks names) (replicas_behind held))
          (Some (party.Replica name, party.Replica one.0.me))) own) ∙ none in
          let is : one.0.me ≡ name = ap replica_at_number (eqb-true one.0.me.0 name.0 own) in
          ap (λ (it : List ReplicaId). one.0.me ∷ it) (replicas_are names held (omega (arith, same)) rest)
          ∙ ap (λ (it : ReplicaId). it ∷ names) is
      | inr other ↦ absurd (none-some (party.Replica name, party.Replica one.0.me)
          (sym none ∙ ap (λ (it : Bool). cond it (first_moved (replica_locks names) (replicas_behind held))
          (Some (party.Replica name, party.Replica one.0.me))) other))
    ]

pub clients_are : (names : List ClientId) (held : List (ClientState × List KeptStep))
    → length names ≡ length held → first_moved (client_locks names) (clients_behind held) ≡ None
    → map client_name held ≡ names
unfolding first_moved
clients_are [] [] same none = refl
clients_are [] (one ∷ held) same none = absurd (omega (arith, same))
clients_are (name ∷ names) [] same none = absurd (omega (arith, same))
clients_are (name ∷ names) (one ∷ held) same none =
    elim (cases_Bool (eqb one.0.me.0 name.0)) [
      | inl own ↦
          let rest : first_moved (client_locks names) (clients_behind held) ≡ None =
          sym (ap (λ (it : Bool). cond it (first_moved (client_locks names) (clients_behind held))
          (Some (party.Client name, party.Client one.0.me))) own) ∙ none in
          let is : one.0.me ≡ name = ap client_at_number (eqb-true one.0.me.0 name.0 own) in
          ap (λ (it : List ClientId). one.0.me ∷ it) (clients_are names held (omega (arith, same)) rest)
          ∙ ap (λ (it : ClientId). it ∷ names) is
      | inr other ↦ absurd (none-some (party.Client name, party.Client one.0.me)
          (sym none ∙ ap (λ (it : Bool). cond it (first_moved (client_locks names) (clients_behind held))
          (Some (party.Client name, party.Client one.0.me))) other))
    ]

moved_append : (locks held locks' held' : List Party) → length locks ≡ length held
    → first_moved (locks ++ locks') (held ++ held') ≡ option_or (first_moved locks held) (first_moved locks' held')
unfolding first_moved
moved_append [] [] locks' held' same = refl
moved_append [] (here ∷ held) locks' held' same = absurd (omega (arith, same))
moved_append (lock ∷ locks) [] locks' held' same = absurd (omega (arith, same))
moved_append (lock ∷ locks) (here ∷ held) locks' held' same =
    elim (cases_Bool (is_same here lock)) [
      | inl own ↦ rw own (moved_append locks held locks' held' (omega (arith, same)))
      | inr other ↦ rw other refl
    ]

-- what was found of the replicas and of the clients is what is found of all
pub all_moved : (setup : Setup) (held : List (ReplicaState × List KeptStep))
    (others : List (ClientState × List KeptStep)) (first second : Option (Party × Party))
    → length held ≡ length (correct_replicas setup (replicas setup.bounds))
    → first ≡ first_moved (replica_locks (correct_replicas setup (replicas setup.bounds))) (replicas_behind held)
    → second ≡ first_moved (client_locks (correct_clients setup setup.clients)) (clients_behind others)
    → moved_actor setup held others ≡ option_or first second
all_moved setup held others first second same first_is second_is =
    let locks = correct_replicas setup (replicas setup.bounds) in
    let locks_are = length-map locks (λ (me : ReplicaId). party.Replica me) in
    let behind_are = length-map held (λ (one : ReplicaState × List KeptStep). party.Replica one.0.me) in
    moved_append (replica_locks locks) (replicas_behind held) (client_locks (correct_clients setup setup.clients))
    (clients_behind others) (omega (arith, same, locks_are, behind_are))
    ∙ ap (λ (it : Option (Party × Party)).
    option_or it (first_moved (client_locks (correct_clients setup setup.clients)) (clients_behind others)))
    (sym first_is)
    ∙ ap (option_or first) (sym second_is)

-- of no lock another actor stands behind it
pub none_found : (locks held : List Party) (at : ℕ) (all : Option (Party × Party)) → length locks ≤ at
    → first_moved (drop at locks) (drop at held) ≡ all → None ≡ all
none_found locks held at all end so_far = sym (moved_end locks held at end) ∙ so_far

pub or_none : (first later : Option (Party × Party)) → option_or first later ≡ None → (first ≡ None) × (later ≡ None)
or_none None later is = (refl, is)
or_none (Some moved) later is = absurd (none-some moved (sym is))
