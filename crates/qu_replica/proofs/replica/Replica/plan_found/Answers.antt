-- Where no request is woken, what is gained is the version that is found.
use Rattle.std.proofs.Common.{rules, ◌≡◌, Bool, Option, None, Some, List, sym, ap, ◌∙◌}
use Rattle.std.specs.Option.{option_map}
use Rattle.qu_waiting.specs.Waiting.{Waiting, TakenRequest, Running}
use Rattle.qu_versions.specs.declared.stored.Stored.{Stored}
use Rattle.qu_versions.specs.Versions.{has_version}
use Rattle.qu_waiting.specs.Slots.{first_waiting, without_fetch}
use Rattle.qu_replica.specs.declared.planned.Gain.{Gain}
use Rattle.qu_replica.specs.State.{with_gain}
use Rattle.qu_replica.specs.Step.{with_found, if_handled}
use Rattle.qu_replica.proofs.States.Gains.{found_gain, gain_is_found}
use Rattle.qu_replica.proofs.replica.Replica.plan_found.Goals as goal

pub returns-in_ok-with_room-in-None-clause-state : goal.returns-in_ok-with_room-in-None-clause-state
returns-in_ok-with_room-in-None-clause-state c =
    let state = c.args.self.now in
    let stored : Stored = record { object = c.args.object; stamp = c.args.stamp; state = c.args.version } in
    let held : Bool = c.is_some-held.result in
    let fetching : List Running = c.in_ok-fetching.fetching in
    let is_held : held ≡ has_version c.args.object c.args.stamp state.versions = search rules in
    let is_fetching : fetching ≡ without_fetch c.args.object c.args.stamp state.fetching = search rules in
    let none : first_waiting c.args.object c.args.stamp state.waiting ≡ None = search rules in
    let grown : c.in_ok-with_room-in-None.field-0 ≡ record (found_gain held stored) { fetching = Some fetching } =
    c.in_ok-with_room-in-None.ensures.value ∙ c.with_fetching-gain.ensures
    ∙ ap (λ (it : Gain). record it { fetching = Some fetching }) c.in_ok-gain_found-in-None.ensures in
    ap (with_gain state) grown
    ∙ gain_is_found state stored held fetching is_held is_fetching None none
    ∙ ap (λ (woken : Option Waiting). (if_handled (with_found state c.args.object c.args.stamp c.args.version)
    (option_map {T = Waiting} {U = TakenRequest} (λ waiting. waiting.request) woken)).0) (sym none)
