-- A version that comes is counted, or completes its fetch.
use Rattle.std.proofs.Common.{rules, ◌≡◌, true, false, List, [], Some, None, sym, ap, ◌∙◌}
use Rattle.std.specs.Prelude.{option_map, slice_get}
use Rattle.std.proofs.lemmas.Result.{IfOk-weaker}
use Rattle.qu_frames.specs.declared.frame.Frame.TheVariants as frame
use Rattle.qu_frames.specs.declared.frame.Letter.{Letter}
use Rattle.qu_objects.specs.States.{state_form}
use Rattle.qu_waiting.specs.Fetching.{completes}
use Rattle.qu_waiting.specs.Waiting.{Waiting, Running}
use Rattle.qu_rows.specs.State.{ReplicaState}
use Rattle.qu_replica.specs.declared.planned.Planned.{Planned}
use Rattle.qu_replica.specs.State.{with_gain}
use Rattle.qu_waiting.specs.Slots.{fetch_under, with_votes, first_waiting}
use Rattle.qu_replica.specs.Step.{has_kind, with_found, if_handled, replica_on_frame}
use Rattle.qu_replica.proofs.States.Learning.{fetched_unasked, fetched_counted, fetched_found}
use Rattle.qu_replica.proofs.replica.Replica.plan_fetched.Goals as goal

pub returns-in_default-clause-state : goal.returns-in_default-clause-state
returns-in_default-clause-state c = λ mac.
    let state : ReplicaState = c.args.self.now in
    let none : fetch_under c.args.object c.args.stamp state.fetching ≡ None = search rules in
    IfOk-weaker c.plan_letters-in_default.result (λ (planned : Planned). with_gain state planned.gain ≡ state)
    (λ (planned : Planned). with_gain state planned.gain ≡ (replica_on_frame state
    (frame.Fetched c.args.replica c.args.object c.args.stamp c.args.version mac)).0)
    (λ planned so. so ∙ ap (λ (it : ReplicaState × List Letter). it.0)
    (sym (fetched_unasked state c.args.replica c.args.object c.args.stamp c.args.version mac none)))
    c.plan_letters-in_default.ensures.state

pub returns-then-completes-clause-state : goal.returns-then-completes-clause-state
returns-then-completes-clause-state c = λ mac.
    let state : ReplicaState = c.args.self.now in
    let running : Running = c.in-Some.running.now in
    let kind : has_kind (slice_get state.kinds c.args.object.0) c.args.version.value ≡ true =
    sym c.has_kind.ensures ∙ search rules in
    let runs : fetch_under c.args.object c.args.stamp state.fetching ≡ Some running = search rules in
    let last : completes running.answers c.args.replica (state_form.spell c.args.version) ≡ true =
    ap (λ (it : Running). completes it.answers c.args.replica (state_form.spell c.args.version)) (sym c.running.view_is)
    ∙ ap (completes c.running.inside.answers c.args.replica) (sym c.in_ok-text.ensures)
    ∙ sym c.completes.ensures ∙ c.if-completes.true in
    let made : ReplicaState × List Letter =
    if_handled (with_found state c.args.object c.args.stamp c.args.version)
    (option_map (λ (waiting : Waiting). waiting.request)
    (first_waiting c.args.object c.args.stamp state.waiting)) in
    IfOk-weaker c.plan_found.result (λ (planned : Planned). with_gain state planned.gain ≡ made.0)
    (λ (planned : Planned). with_gain state planned.gain ≡ (replica_on_frame state
    (frame.Fetched c.args.replica c.args.object c.args.stamp c.args.version mac)).0)
    (λ planned so. so ∙ ap (λ (it : ReplicaState × List Letter). it.0)
    (sym (fetched_found state c.args.replica c.args.object c.args.stamp c.args.version mac running kind runs last)))
    c.plan_found.ensures.state

pub returns-then-completes-clause-letters : goal.returns-then-completes-clause-letters
returns-then-completes-clause-letters c = λ mac.
    let state : ReplicaState = c.args.self.now in
    let running : Running = c.in-Some.running.now in
    let kind : has_kind (slice_get state.kinds c.args.object.0) c.args.version.value ≡ true =
    sym c.has_kind.ensures ∙ search rules in
    let runs : fetch_under c.args.object c.args.stamp state.fetching ≡ Some running = search rules in
    let last : completes running.answers c.args.replica (state_form.spell c.args.version) ≡ true =
    ap (λ (it : Running). completes it.answers c.args.replica (state_form.spell c.args.version)) (sym c.running.view_is)
    ∙ ap (completes c.running.inside.answers c.args.replica) (sym c.in_ok-text.ensures)
    ∙ sym c.completes.ensures ∙ c.if-completes.true in
    let made : ReplicaState × List Letter =
    if_handled (with_found state c.args.object c.args.stamp c.args.version)
    (option_map (λ (waiting : Waiting). waiting.request)
    (first_waiting c.args.object c.args.stamp state.waiting)) in
    IfOk-weaker c.plan_found.result (λ (planned : Planned). planned.letters ≡ made.1)
    (λ (planned : Planned). planned.letters ≡ (replica_on_frame state
    (frame.Fetched c.args.replica c.args.object c.args.stamp c.args.version mac)).1)
    (λ planned so. so ∙ ap (λ (it : ReplicaState × List Letter). it.1)
    (sym (fetched_found state c.args.replica c.args.object c.args.stamp c.args.version mac running kind runs last)))
    c.plan_found.ensures.letters

pub returns-clause-state : goal.returns-clause-state
returns-clause-state c = λ mac.
    let state : ReplicaState = c.args.self.now in
    let running : Running = c.in-Some.running.now in
    let kind : has_kind (slice_get state.kinds c.args.object.0) c.args.version.value ≡ true =
    sym c.has_kind.ensures ∙ search rules in
    let runs : fetch_under c.args.object c.args.stamp state.fetching ≡ Some running = search rules in
    let still : completes running.answers c.args.replica (state_form.spell c.args.version) ≡ false =
    ap (λ (it : Running). completes it.answers c.args.replica (state_form.spell c.args.version)) (sym c.running.view_is)
    ∙ ap (completes c.running.inside.answers c.args.replica) (sym c.in_ok-text.ensures)
    ∙ sym c.completes.ensures ∙ c.if-completes.false in
    let votes : c.in_ok-fetching.fetching
    ≡ with_votes c.args.object c.args.stamp c.args.replica (state_form.spell c.args.version) state.fetching =
    search rules in
    IfOk-weaker c.plan_fetching.result
    (λ (planned : Planned). with_gain state planned.gain ≡ record state { fetching = c.in_ok-fetching.fetching })
    (λ (planned : Planned). with_gain state planned.gain ≡ (replica_on_frame state
    (frame.Fetched c.args.replica c.args.object c.args.stamp c.args.version mac)).0)
    (λ planned so. so ∙ ap (λ (it : List Running). record state { fetching = it }) votes
    ∙ ap (λ (it : ReplicaState × List Letter). it.0)
    (sym (fetched_counted state c.args.replica c.args.object c.args.stamp c.args.version mac running kind runs
    still)))
    c.plan_fetching.ensures.state

pub returns-clause-letters : goal.returns-clause-letters
returns-clause-letters c = λ mac.
    let state : ReplicaState = c.args.self.now in
    let running : Running = c.in-Some.running.now in
    let kind : has_kind (slice_get state.kinds c.args.object.0) c.args.version.value ≡ true =
    sym c.has_kind.ensures ∙ search rules in
    let runs : fetch_under c.args.object c.args.stamp state.fetching ≡ Some running = search rules in
    let still : completes running.answers c.args.replica (state_form.spell c.args.version) ≡ false =
    ap (λ (it : Running). completes it.answers c.args.replica (state_form.spell c.args.version)) (sym c.running.view_is)
    ∙ ap (completes c.running.inside.answers c.args.replica) (sym c.in_ok-text.ensures)
    ∙ sym c.completes.ensures ∙ c.if-completes.false in
    IfOk-weaker c.plan_fetching.result (λ (planned : Planned). planned.letters ≡ [])
    (λ (planned : Planned). planned.letters ≡ (replica_on_frame state
    (frame.Fetched c.args.replica c.args.object c.args.stamp c.args.version mac)).1)
    (λ planned so. so ∙ ap (λ (it : ReplicaState × List Letter). it.1)
    (sym (fetched_counted state c.args.replica c.args.object c.args.stamp c.args.version mac running kind runs
    still)))
    c.plan_fetching.ensures.letters
