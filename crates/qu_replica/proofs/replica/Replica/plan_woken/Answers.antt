-- The request that is woken is decided upon with the version that was found.
use Rattle.qu_rows.specs.Allowed.{MayAcceptAll, MayDecide}
use Rattle.std.proofs.Common.{rules, ◌≡◌, ◌+◌, List, [], ◌∷◌, Some, refl, sym, subst, ap, ◌∙◌}
use Rattle.std.specs.Option.{option_copied}
use Rattle.std.proofs.lemmas.Result.{IfOk-weaker}
use Rattle.qu_base.specs.declared.party.ClientId.{ClientId}
use Rattle.qu_frames.specs.declared.frame.Letter.{Letter}
use Rattle.qu_waiting.specs.Waiting.{TakenRequest, Waiting, Running, taken_by}
use Rattle.qu_rows.specs.State.{ReplicaState, AreHistories}
use Rattle.qu_mends.specs.declared.accepted.Accepted.{Accepted}
use Rattle.qu_rows.specs.declared.decision.Decision.TheVariants as decision
use Rattle.qu_replica.specs.declared.planned.Gain.{Gain}
use Rattle.qu_waiting.specs.declared.next.Next.TheVariants.{Nothing, Lacks}
use Rattle.qu_replica.specs.declared.planned.Planned.{Planned}
use Rattle.qu_fitting.specs.Holding.{accept_all}
use Rattle.qu_replica.specs.State.{with_gain}
use Rattle.qu_waiting.specs.Slots.{with_fetches, AreSlots}
use Rattle.qu_replica.specs.Growth.{HoldsAlike, MayGain}
use Rattle.qu_replica.specs.Step.{reply, with_found, with_waiting, carried_out, decided, fetches_of}
use Rattle.qu_replica.proofs.States.Alike.{rows_found, named_alike, may_alike, decided_so, answer_alike}
use Rattle.qu_replica.proofs.States.Gains.{found_gain, turn_for, gain_is_found, gain_waits_again, turn_again, gain_keeps}
use Rattle.qu_replica.proofs.replica.Replica.plan_woken.Goals as goal

pub plan_answer-requires-clause-named : goal.plan_answer-requires-clause-named
plan_answer-requires-clause-named c =
    let state : ReplicaState = c.args.self.now in
    let found = c.args.found in
    let alike : HoldsAlike c.rows.result (with_found state found.object found.stamp found.state) =
    rows_found c.rows.result state found (option_copied c.unless_held-more.result) c.args.held c.rows.ensures.value
    c.requires.held c.unless_held-more.ensures in
    c.in_ok-named.ensures.named
    ∙ named_alike c.rows.result state alike.me alike.keys alike.histories c.waiting.inside.reading.sets

pub returns-in-Answers-clause-state : goal.returns-in-Answers-clause-state
returns-in-Answers-clause-state c =
    let state : ReplicaState = c.args.self.now in
    let found = c.args.found in
    let mid : ReplicaState = with_found state found.object found.stamp found.state in
    let request : TakenRequest = taken_by c.waiting.inside.reading c.waiting.inside.mac in
    let same : request ≡ c.args.waiting.now.request = ap (λ (it : Waiting). it.request) c.waiting.view_is in
    let alike : HoldsAlike c.rows.result mid =
    rows_found c.rows.result state found (option_copied c.unless_held-more.result) c.args.held c.rows.ensures.value
    c.requires.held c.unless_held-more.ensures in
    let is : decided mid c.args.waiting.now.request
    ≡ carried_out mid request (decision.Answers c.in-Answers.verdict c.in-Answers.accepted) =
    ap (decided mid) (sym same)
    ∙ decided_so c.rows.result mid request c.in_ok-named.field-0.decision alike c.in_ok-named.ensures.decision
    ∙ ap (carried_out mid request) c.in-Answers.is in
    let client : c.client-client.result ≡ c.args.waiting.now.request.client =
    c.client-client.ensures ∙ ap (λ (it : TakenRequest). it.client) same in
    let base : Gain = found_gain c.args.held found in
    let gain : c.with_turn-gain.result
    ≡ record base { turn = turn_for (Some c.args.waiting.now); fetching = Some c.args.fetching } =
    c.with_turn-gain.ensures
    ∙ ap (λ (it : Gain). record it { turn = Some (record { client = c.client-client.result; next = Nothing }) })
    (c.with_fetching.ensures
    ∙ ap (λ (it : Gain). record it { fetching = Some c.args.fetching }) c.in_ok-gain.ensures)
    ∙ ap (λ (it : ClientId). record base {
      turn = Some (record { client = it; next = Nothing });
      fetching = Some c.args.fetching;
    }) client in
    let is_mid : with_gain state c.with_turn-gain.result ≡ mid =
    ap (with_gain state) gain
    ∙ gain_is_found state found c.args.held c.args.fetching c.requires.held c.requires.fetching
    (Some c.args.waiting.now) c.requires.lowest in
    IfOk-weaker c.plan_answer.result
    (λ (planned : Planned). with_gain state planned.gain
    ≡ accept_all (with_gain state c.with_turn-gain.result) c.as_slice.result.now)
    (λ (planned : Planned). with_gain state planned.gain ≡ (decided mid c.args.waiting.now.request).0)
    (λ planned so. so ∙ ap (λ (it : ReplicaState). accept_all it c.as_slice.result.now) is_mid
    ∙ ap (accept_all mid) c.as_slice.ensures ∙ ap (λ (it : ReplicaState × List Letter). it.0) (sym is))
    c.plan_answer.ensures.state

pub returns-in-Answers-clause-letters : goal.returns-in-Answers-clause-letters
returns-in-Answers-clause-letters c =
    let state : ReplicaState = c.args.self.now in
    let found = c.args.found in
    let mid : ReplicaState = with_found state found.object found.stamp found.state in
    let request : TakenRequest = taken_by c.waiting.inside.reading c.waiting.inside.mac in
    let same : request ≡ c.args.waiting.now.request = ap (λ (it : Waiting). it.request) c.waiting.view_is in
    let alike : HoldsAlike c.rows.result mid =
    rows_found c.rows.result state found (option_copied c.unless_held-more.result) c.args.held c.rows.ensures.value
    c.requires.held c.unless_held-more.ensures in
    let is : decided mid c.args.waiting.now.request
    ≡ carried_out mid request (decision.Answers c.in-Answers.verdict c.in-Answers.accepted) =
    ap (decided mid) (sym same)
    ∙ decided_so c.rows.result mid request c.in_ok-named.field-0.decision alike c.in_ok-named.ensures.decision
    ∙ ap (carried_out mid request) c.in-Answers.is in
    let answer : List Accepted → List Letter =
    λ them. reply (accept_all state them) request.client request.number request.round request.sets
    c.in-Answers.verdict ∷ [] in
    IfOk-weaker c.plan_answer.result
    (λ (planned : Planned). planned.letters ≡ answer c.as_slice.result.now)
    (λ (planned : Planned). planned.letters ≡ (decided mid c.args.waiting.now.request).1)
    (λ planned so. so ∙ ap answer c.as_slice.ensures
    ∙ ap (λ (it : Letter). it ∷ []) (answer_alike state mid refl refl refl c.in-Answers.accepted request.client
    request.number request.round request.sets c.in-Answers.verdict)
    ∙ ap (λ (it : ReplicaState × List Letter). it.1) (sym is))
    c.plan_answer.ensures.letters

pub returns-in_ok-gain-in-Waits-clause-state : goal.returns-in_ok-gain-in-Waits-clause-state
returns-in_ok-gain-in-Waits-clause-state c =
    let state : ReplicaState = c.args.self.now in
    let found = c.args.found in
    let mid : ReplicaState = with_found state found.object found.stamp found.state in
    let request : TakenRequest = taken_by c.waiting.inside.reading c.waiting.inside.mac in
    let same : request ≡ c.args.waiting.now.request = ap (λ (it : Waiting). it.request) c.waiting.view_is in
    let alike : HoldsAlike c.rows.result mid =
    rows_found c.rows.result state found (option_copied c.unless_held-more.result) c.args.held c.rows.ensures.value
    c.requires.held c.unless_held-more.ensures in
    let is : decided mid c.args.waiting.now.request
    ≡ carried_out mid request (decision.Waits c.in-Waits.missing) =
    ap (decided mid) (sym same)
    ∙ decided_so c.rows.result mid request c.in_ok-named.field-0.decision alike c.in_ok-named.ensures.decision
    ∙ ap (carried_out mid request) c.in-Waits.is in
    let own_slots : AreSlots state.waiting = search rules in
    let fetches : List Running =
    with_fetches (state.keys.bounds + 1) c.as_slice-in-Waits-2.result.now c.as_slice-in-Waits.result.now in
    let fetches_are : fetches ≡ with_fetches (state.keys.bounds + 1) c.in-Waits.missing c.args.fetching =
    search rules in
    let client : c.client-client.result ≡ c.args.waiting.now.request.client =
    c.client-client.ensures ∙ ap (λ (it : TakenRequest). it.client) same in
    let base : Gain = found_gain c.args.held found in
    let gain : c.with_turn.result ≡ record base {
      turn = Some (record { client = c.args.waiting.now.request.client; next = Lacks c.in-Waits.missing });
      fetching = Some fetches;
    } =
    c.with_turn.ensures
    ∙ ap (λ (it : Gain). record it {
      turn = Some (record { client = c.client-client.result; next = Lacks c.in-Waits.missing });
    }) (c.in_ok-gain-in-Waits.ensures.gain
    ∙ ap (λ (it : Gain). record it { fetching = Some fetches }) c.in_ok-gain.ensures)
    ∙ ap (λ (it : ClientId). record base {
      turn = Some (record { client = it; next = Lacks c.in-Waits.missing });
      fetching = Some fetches;
    }) client in
    ap (with_gain state) gain
    ∙ gain_waits_again state found c.args.held c.args.fetching c.requires.held c.requires.fetching c.args.waiting.now
    own_slots c.requires.lowest c.in-Waits.missing fetches fetches_are
    ∙ ap (λ (it : TakenRequest). with_waiting mid it c.in-Waits.missing) (sym same)
    ∙ ap (λ (it : ReplicaState × List Letter). it.0) (sym is)

pub returns-in_ok-gain-in-Waits-clause-letters : goal.returns-in_ok-gain-in-Waits-clause-letters
returns-in_ok-gain-in-Waits-clause-letters c =
    let state : ReplicaState = c.args.self.now in
    let found = c.args.found in
    let mid : ReplicaState = with_found state found.object found.stamp found.state in
    let request : TakenRequest = taken_by c.waiting.inside.reading c.waiting.inside.mac in
    let same : request ≡ c.args.waiting.now.request = ap (λ (it : Waiting). it.request) c.waiting.view_is in
    let alike : HoldsAlike c.rows.result mid =
    rows_found c.rows.result state found (option_copied c.unless_held-more.result) c.args.held c.rows.ensures.value
    c.requires.held c.unless_held-more.ensures in
    let is : decided mid c.args.waiting.now.request
    ≡ carried_out mid request (decision.Waits c.in-Waits.missing) =
    ap (decided mid) (sym same)
    ∙ decided_so c.rows.result mid request c.in_ok-named.field-0.decision alike c.in_ok-named.ensures.decision
    ∙ ap (carried_out mid request) c.in-Waits.is in
    c.in_ok-gain-in-Waits.ensures.letters
    ∙ ap (fetches_of state.keys state.me) (search rules)
    ∙ ap (λ (it : ReplicaState × List Letter). it.1) (sym is)

pub returns-in_ok-gain-in-Waits-clause-may : goal.returns-in_ok-gain-in-Waits-clause-may
returns-in_ok-gain-in-Waits-clause-may c =
    let state : ReplicaState = c.args.self.now in
    let found = c.args.found in
    let own : AreHistories state = search rules in
    let slots : AreSlots state.waiting = search rules in
    let request : TakenRequest = taken_by c.waiting.inside.reading c.waiting.inside.mac in
    let same : request ≡ c.args.waiting.now.request = ap (λ (it : Waiting). it.request) c.waiting.view_is in
    let client : c.client-client.result ≡ c.args.waiting.now.request.client =
    c.client-client.ensures ∙ ap (λ (it : TakenRequest). it.client) same in
    let gain : Gain = record c.in_ok-gain-in-Waits.field-0.gain {
      turn = Some (record { client = c.args.waiting.now.request.client; next = Lacks c.in-Waits.missing });
    } in
    let is_gain : c.with_turn.result ≡ gain =
    c.with_turn.ensures
    ∙ ap (λ (it : ClientId). record c.in_ok-gain-in-Waits.field-0.gain {
      turn = Some (record { client = it; next = Lacks c.in-Waits.missing });
    }) client in
    let none : gain.histories ≡ [] =
    ap (λ (it : Gain). it.histories) c.in_ok-gain-in-Waits.ensures.gain
    ∙ ap (λ (it : Gain). it.histories) c.in_ok-gain.ensures in
    subst (MayGain state) (sym is_gain)
    (gain_keeps state gain none own slots
    (turn_again state found c.args.held c.args.fetching c.requires.held c.requires.fetching c.args.waiting.now slots
    c.requires.lowest c.in-Waits.missing) c.in_ok-gain-in-Waits.ensures.room)

pub plan_answer-requires-clause-may : goal.plan_answer-requires-clause-may
plan_answer-requires-clause-may c =
    let state : ReplicaState = c.args.self.now in
    let found = c.args.found in
    let alike : HoldsAlike c.rows.result (with_found state found.object found.stamp found.state) =
    rows_found c.rows.result state found (option_copied c.unless_held-more.result) c.args.held c.rows.ensures.value
    c.requires.held c.unless_held-more.ensures in
    subst (MayAcceptAll state) (sym c.as_slice.ensures)
    (subst (MayDecide state) c.in-Answers.is
    (may_alike c.rows.result state alike.me alike.keys alike.histories c.in_ok-named.field-0.decision
    c.in_ok-named.ensures.may))
