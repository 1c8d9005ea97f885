use Rattle.std.proofs.Common.{◌++◌, [], ◌∷◌, List, map, ap, sym, ◌∙◌, arith}
use Rattle.std.specs.List.{range_with_len}
use Rattle.std.proofs.lemmas.List.{append_assoc}
use Rattle.std.proofs.lemmas.List.FromFn.{map-range_with_len_more}
use Rattle.qu_base.specs.declared.party.Party.{Party}
use Rattle.qu_base.specs.Bounds.{replicas}
use Rattle.qu_post.specs.Actors.{replica_numbered, client_at_place}
use Rattle.qu_post.proofs.actors.parties.Goals as goal

pub loop-replica-preserved : goal.loop-replica-preserved
loop-replica-preserved c =
    let number = c.loop-replica.replica in
    c.in_ok-push.ensures.items
    ∙ ap (λ (front : List Party). front ++ replica_numbered number ∷ []) c.loop-replica.invariant
    ∙ sym (map-range_with_len_more replica_numbered 0 number number (omega arith))

pub loop-client-preserved : goal.loop-client-preserved
loop-client-preserved c =
    let place = c.loop-client.client in
    let front = map replica_numbered (range_with_len 0 (replicas c.args.bounds.now)) in
    c.in_ok-push-2.ensures.items
    ∙ ap (λ (parties : List Party). parties ++ client_at_place place ∷ []) c.loop-client.invariant
    ∙ append_assoc front (map client_at_place (range_with_len 0 place)) (client_at_place place ∷ [])
    ∙ ap (λ (clients : List Party). front ++ clients)
    (sym (map-range_with_len_more client_at_place 0 place place (omega arith)))
