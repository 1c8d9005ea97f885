-- The next client is the one that is named, or another one.
use Rattle.std.proofs.Common.{arith}
use Rattle.std.proofs.lemmas.List.{length-map}
use Rattle.qu_base.specs.declared.party.Party.TheVariants as party
use Rattle.qu_gather.specs.Torn.{client_locks, clients_behind}
use Rattle.qu_gather.proofs.Moving.{client_moved, next_same, found_same, none_found}
use Rattle.qu_gather.proofs.held.moved_client.Goals as goal

pub loop-place-preserved : goal.loop-place-preserved
loop-place-preserved g c =
    next_same _ _ _ _ c.is_same.result
    (client_moved c.args.names.now c.args.held.now c.loop-place.place c.index-held-place.result c.party-here.result
    c.is_same.result c.loop-place-test.true c.requires c.index-held-place.is c.party-here.ensures c.is_same.ensures)
    c.if-not-is_same.false c.loop-place.invariant

pub returns-then-not-is_same : goal.returns-then-not-is_same
returns-then-not-is_same g c =
    found_same _ _ _ _ c.is_same.result
    (client_moved c.args.names.now c.args.held.now c.loop-place.place c.index-held-place.result c.party-here.result
    c.is_same.result c.loop-place-test.true c.requires c.index-held-place.is c.party-here.ensures c.is_same.ensures)
    c.if-not-is_same.true c.loop-place.invariant

pub returns : goal.returns
returns g c =
    let locks = length-map c.args.names.now (λ me. party.Client me) in
    let same = c.requires in
    let end = c.loop-place-test.false in
    none_found (client_locks c.args.names.now) (clients_behind c.args.held.now) c.loop-place.place _
    (omega (arith, locks, same, end)) c.loop-place.invariant
