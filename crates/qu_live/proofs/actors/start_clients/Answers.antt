-- The next correct client begins as the run has it.
use Rattle.std.proofs.Common.{◌≡◌, List, Some, get_or, subst, ◌∙◌}
use Rattle.std.proofs.lemmas.List.{get_or_default}
use Rattle.qu_base.specs.declared.party.Party.TheVariants as party
use Rattle.qu_base.specs.declared.party.ClientId.{ClientId}
use Rattle.qu_trace.specs.declared.trace.Setup.{Setup}
use Rattle.qu_replay.specs.Steps.{Asks}
use Rattle.qu_replay.specs.Replays.{opening_actor}
use Rattle.qu_gather.proofs.Opening.{client_opens}
use Rattle.qu_live.proofs.actors.start_clients.Goals as goal

pub new-requires : goal.new-requires
new-requires g c =
    let correct : List ClientId = c.deref-me-items.result.now in
    let at = c.loop-me.me-index in
    let me : ClientId = get_or correct at (record { 0 = 0 }) in
    subst (λ (it : Setup). opening_actor it (party.Client me) ≡ Some (Asks c.start-client.result))
    c.requires.named
    (client_opens c.args.setup.now c.args.keys correct at me c.start-client.result
    (c.deref-me-items.ensures.value ∙ c.in_ok-correct.ensures) c.loop-me-test.true
    (get_or_default correct at (record { 0 = 0 }) me c.loop-me-test.true) c.requires.keys
    c.start-client.ensures)
