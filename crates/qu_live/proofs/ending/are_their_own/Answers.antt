-- Behind each lock stands the actor that it was made for, or the first is told of which this is not so.
use Rattle.std.proofs.Common.{◌≡◌, List, sym, ap, ◌∙◌}
use Rattle.qu_base.specs.declared.party.ClientId.{ClientId}
use Rattle.qu_base.specs.declared.party.ReplicaId.{ReplicaId}
use Rattle.qu_base.specs.Bounds.{replicas}
use Rattle.qu_gather.specs.Correct.{correct_replicas, correct_clients}
use Rattle.qu_gather.specs.Torn.{first_moved, replica_locks, client_locks, replicas_behind, clients_behind}
use Rattle.qu_gather.proofs.Moving.{all_moved, or_none, replicas_are, clients_are}
use Rattle.qu_live.proofs.ending.are_their_own.Goals as goal

pub returns-in-Some-clause-moved : goal.returns-in-Some-clause-moved
returns-in-Some-clause-moved g c =
    let setup = c.args.setup.now in
    let replicas_is : c.moved_replica-moved.result
    ≡ first_moved (replica_locks (correct_replicas setup (replicas setup.bounds))) (replicas_behind c.args.held.now) =
    c.moved_replica-moved.ensures
    ∙ ap (λ (it : List ReplicaId). first_moved (replica_locks it) (replicas_behind c.args.held.now))
    (c.as_slice.ensures.value ∙ c.in_ok-replicas.ensures) in
    let clients_is : c.moved_client.result
    ≡ first_moved (client_locks (correct_clients setup setup.clients)) (clients_behind c.args.others.now) =
    c.moved_client.ensures
    ∙ ap (λ (it : List ClientId). first_moved (client_locks it) (clients_behind c.args.others.now))
    (c.as_slice-2.ensures.value ∙ c.in_ok-clients.ensures) in
    all_moved setup c.args.held.now c.args.others.now c.moved_replica-moved.result c.moved_client.result
    c.requires.replicas replicas_is clients_is
    ∙ sym c.or.ensures ∙ c.in-Some.is

pub returns-clause-moved : goal.returns-clause-moved
returns-clause-moved g c =
    let setup = c.args.setup.now in
    let replicas_is : c.moved_replica-moved.result
    ≡ first_moved (replica_locks (correct_replicas setup (replicas setup.bounds))) (replicas_behind c.args.held.now) =
    c.moved_replica-moved.ensures
    ∙ ap (λ (it : List ReplicaId). first_moved (replica_locks it) (replicas_behind c.args.held.now))
    (c.as_slice.ensures.value ∙ c.in_ok-replicas.ensures) in
    let clients_is : c.moved_client.result
    ≡ first_moved (client_locks (correct_clients setup setup.clients)) (clients_behind c.args.others.now) =
    c.moved_client.ensures
    ∙ ap (λ (it : List ClientId). first_moved (client_locks it) (clients_behind c.args.others.now))
    (c.as_slice-2.ensures.value ∙ c.in_ok-clients.ensures) in
    all_moved setup c.args.held.now c.args.others.now c.moved_replica-moved.result c.moved_client.result
    c.requires.replicas replicas_is clients_is
    ∙ sym c.or.ensures ∙ c.in-None.is

pub returns-clause-own : goal.returns-clause-own
returns-clause-own g c =
    let setup = c.args.setup.now in
    let replicas_is : c.moved_replica-moved.result
    ≡ first_moved (replica_locks (correct_replicas setup (replicas setup.bounds))) (replicas_behind c.args.held.now) =
    c.moved_replica-moved.ensures
    ∙ ap (λ (it : List ReplicaId). first_moved (replica_locks it) (replicas_behind c.args.held.now))
    (c.as_slice.ensures.value ∙ c.in_ok-replicas.ensures) in
    let clients_is : c.moved_client.result
    ≡ first_moved (client_locks (correct_clients setup setup.clients)) (clients_behind c.args.others.now) =
    c.moved_client.ensures
    ∙ ap (λ (it : List ClientId). first_moved (client_locks it) (clients_behind c.args.others.now))
    (c.as_slice-2.ensures.value ∙ c.in_ok-clients.ensures) in
    let none = or_none c.moved_replica-moved.result c.moved_client.result (sym c.or.ensures ∙ c.in-None.is) in
    record {
      replicas_are = replicas_are (correct_replicas setup (replicas setup.bounds)) c.args.held.now
          (sym c.requires.replicas) (sym replicas_is ∙ none.0);
      clients_are = clients_are (correct_clients setup setup.clients) c.args.others.now (sym c.requires.clients)
          (sym clients_is ∙ none.1);
    }
