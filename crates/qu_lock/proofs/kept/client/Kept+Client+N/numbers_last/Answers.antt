-- The steps that are in memory bound the number.
use Rattle.std.proofs.Common.{◌≡◌, ◌<◌, ◌-◌, ◌^◌, List, IfSome, length, subst}
use Rattle.qu_client.specs.declared.state.ClientState.{ClientState}
use Rattle.qu_replay.specs.declared.kept_step.KeptStep.{KeptStep}
use Rattle.qu_lock.proofs.Numbers.{last_number_below}
use Rattle.qu_lock.proofs.kept.client.Kept+Client+N.numbers_last.Goals as goal

pub returns : goal.returns
returns g c =
    let steps : List KeptStep = c.self.inside.steps.items in
    let here : c.as_slice.result.now ≡ steps = c.as_slice.ensures.value in
    let few : length c.as_slice.result.now < 2 ^ 63 = c.are_few.ensures in
    let below : length steps < 2 ^ 63 = subst (λ (it : List KeptStep). length it < 2 ^ 63) here few in
    subst (λ (it : ClientState × List KeptStep). IfSome it.0.last_request (λ last. last.0 < 2 ^ 64 - 1)) c.self.view_is
    (last_number_below g.N.RunName.setup c.self.inside.actor steps c.self.invariant.1.well below)
