-- The client with this number took the tick.
use Rattle.std.proofs.Common.{◌∙◌, ap, arith}
use Rattle.std.specs.Prelude.{option_map}
use Rattle.qu_client.specs.declared.work.Work.{Work}
use Rattle.qu_client.specs.Steps.{client_tick}
use Rattle.qu_world.specs.Step.{ended_as}
use Rattle.qu_world.proofs.Moving.{client_moved}
use Rattle.qu_world.proofs.parties.tick_client.Goals as goal

pub returns-clause-moves : goal.returns-clause-moves
returns-clause-moves c =
    client_moved _ c.args.me c.in-Some.index c.index_mut-client.result.now c.tick.new.self client_tick _
    c.in-Some.ensures.0 (omega arith) c.index_mut-client.ensures.value c.in_ok-moved.ensures.state
    c.in_ok-moved.ensures.letters
    (c.named.ensures
    ∙ ap (λ number. ended_as c.args.me number c.in_ok-moved.moved.ended) c.working_on-number.ensures
    ∙ ap (λ ended. ended_as c.args.me
    (option_map (λ (under_way : Work). under_way.number) c.index_mut-client.result.now.work) ended)
    c.in_ok-moved.ensures.ended)
