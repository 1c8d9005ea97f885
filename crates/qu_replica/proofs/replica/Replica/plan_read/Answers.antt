-- A request is decided upon as the replica holds it.
use Rattle.qu_rows.specs.Allowed.{MayAcceptAll, MayDecide}
use Rattle.std.proofs.Common.{rules, ◌≡◌, [], ◌∷◌, List, Some, sym, subst, ap, ◌∙◌}
use Rattle.std.proofs.lemmas.Result.{IfOk-weaker}
use Rattle.qu_base.specs.declared.party.Party.TheVariants as party
use Rattle.qu_frames.specs.Reading.{own_mac, request_with}
use Rattle.qu_frames.specs.Signing.{brought}
use Rattle.qu_frames.specs.declared.frame.Letter.{Letter}
use Rattle.qu_waiting.specs.Waiting.{TakenRequest, taken_by}
use Rattle.qu_rows.specs.State.{ReplicaState}
use Rattle.qu_rows.specs.declared.decision.Decision.TheVariants.{Answers, Waits}
use Rattle.qu_mends.specs.declared.accepted.Accepted.{Accepted}
use Rattle.qu_replica.specs.declared.planned.Planned.{Planned}
use Rattle.qu_fitting.specs.Holding.{accept_all}
use Rattle.qu_replica.specs.State.{with_gain}
use Rattle.qu_replica.specs.Growth.{HoldsAlike}
use Rattle.qu_replica.specs.Step.{reply, carried_out, replica_step, with_waiting, fetches_of}
use Rattle.qu_replica.proofs.States.Alike.{rows_alike, named_alike, may_alike, decided_so}
use Rattle.qu_replica.proofs.States.Gains.{gain_is_nothing}
use Rattle.qu_replica.proofs.States.Stepped.{step_of_frame}
use Rattle.qu_replica.proofs.replica.Replica.plan_read.Goals as goal

pub plan_answer-requires-clause-named : goal.plan_answer-requires-clause-named
plan_answer-requires-clause-named c =
    let alike : HoldsAlike c.rows.result c.args.self.now =
    rows_alike c.rows.result c.args.self.now c.rows.ensures.value in
    c.in_ok-named.ensures.named
    ∙ named_alike c.rows.result c.args.self.now alike.me alike.keys alike.histories c.args.reading.now.sets

pub returns-in-Answers-clause-state : goal.returns-in-Answers-clause-state
returns-in-Answers-clause-state c =
    let state : ReplicaState = c.args.self.now in
    let request : TakenRequest = taken_by c.args.reading.now (own_mac c.args.text.now) in
    let alike : HoldsAlike c.rows.result state = rows_alike c.rows.result state c.rows.ensures.value in
    let brings : brought state.keys (party.Replica state.me) c.args.text.now
    ≡ Some (request_with c.args.reading.now (own_mac c.args.text.now)) = search rules in
    let is : replica_step state c.args.text.now ≡ carried_out state request c.in_ok-named.field-0.decision =
    step_of_frame state c.args.text.now (request_with c.args.reading.now (own_mac c.args.text.now)) brings
    ∙ decided_so c.rows.result state request c.in_ok-named.field-0.decision alike c.in_ok-named.ensures.decision in
    let none = c.nothing-gain.ensures in
    let nothing : with_gain state c.nothing-gain.result ≡ state =
    gain_is_nothing state c.nothing-gain.result none.histories none.found none.versions none.turn none.fetching in
    let answers : carried_out state request c.in_ok-named.field-0.decision
    ≡ carried_out state request (Answers c.in-Answers.verdict c.in-Answers.accepted) =
    ap (carried_out state request) c.in-Answers.is in
    IfOk-weaker c.plan_answer.result
    (λ (planned : Planned). with_gain state planned.gain
    ≡ accept_all (with_gain state c.nothing-gain.result) c.as_slice.result.now)
    (λ (planned : Planned). with_gain state planned.gain ≡ (replica_step state c.args.text.now).0)
    (λ planned so. so ∙ ap (λ (it : ReplicaState). accept_all it c.as_slice.result.now) nothing
    ∙ ap (accept_all state) c.as_slice.ensures ∙ ap (λ (it : ReplicaState × List Letter). it.0) (sym (is ∙ answers)))
    c.plan_answer.ensures.state

pub returns-in-Answers-clause-letters : goal.returns-in-Answers-clause-letters
returns-in-Answers-clause-letters c =
    let state : ReplicaState = c.args.self.now in
    let request : TakenRequest = taken_by c.args.reading.now (own_mac c.args.text.now) in
    let alike : HoldsAlike c.rows.result state = rows_alike c.rows.result state c.rows.ensures.value in
    let brings : brought state.keys (party.Replica state.me) c.args.text.now
    ≡ Some (request_with c.args.reading.now (own_mac c.args.text.now)) = search rules in
    let is : replica_step state c.args.text.now ≡ carried_out state request c.in_ok-named.field-0.decision =
    step_of_frame state c.args.text.now (request_with c.args.reading.now (own_mac c.args.text.now)) brings
    ∙ decided_so c.rows.result state request c.in_ok-named.field-0.decision alike c.in_ok-named.ensures.decision in
    let answers : carried_out state request c.in_ok-named.field-0.decision
    ≡ carried_out state request (Answers c.in-Answers.verdict c.in-Answers.accepted) =
    ap (carried_out state request) c.in-Answers.is in
    let answer : List Accepted → List Letter =
    λ them. reply (accept_all state them) request.client request.number request.round request.sets
    c.in-Answers.verdict ∷ [] in
    IfOk-weaker c.plan_answer.result
    (λ (planned : Planned). planned.letters ≡ answer c.as_slice.result.now)
    (λ (planned : Planned). planned.letters ≡ (replica_step state c.args.text.now).1)
    (λ planned so. so ∙ ap answer c.as_slice.ensures
    ∙ ap (λ (it : ReplicaState × List Letter). it.1) (sym (is ∙ answers)))
    c.plan_answer.ensures.letters

pub returns-in-Waits-clause-state : goal.returns-in-Waits-clause-state
returns-in-Waits-clause-state c =
    let state : ReplicaState = c.args.self.now in
    let request : TakenRequest = taken_by c.args.reading.now (own_mac c.args.text.now) in
    let alike : HoldsAlike c.rows.result state = rows_alike c.rows.result state c.rows.ensures.value in
    let brings : brought state.keys (party.Replica state.me) c.args.text.now
    ≡ Some (request_with c.args.reading.now (own_mac c.args.text.now)) = search rules in
    let is : replica_step state c.args.text.now ≡ carried_out state request (Waits c.in-Waits.missing) =
    step_of_frame state c.args.text.now (request_with c.args.reading.now (own_mac c.args.text.now)) brings
    ∙ decided_so c.rows.result state request c.in_ok-named.field-0.decision alike c.in_ok-named.ensures.decision
    ∙ ap (carried_out state request) c.in-Waits.is in
    IfOk-weaker c.plan_waiting.result
    (λ (planned : Planned). with_gain state planned.gain ≡ with_waiting state request c.in-Waits.missing)
    (λ (planned : Planned). with_gain state planned.gain ≡ (replica_step state c.args.text.now).0)
    (λ planned so. so ∙ ap (λ (it : ReplicaState × List Letter). it.0) (sym is))
    c.plan_waiting.ensures.state

pub returns-in-Waits-clause-letters : goal.returns-in-Waits-clause-letters
returns-in-Waits-clause-letters c =
    let state : ReplicaState = c.args.self.now in
    let request : TakenRequest = taken_by c.args.reading.now (own_mac c.args.text.now) in
    let alike : HoldsAlike c.rows.result state = rows_alike c.rows.result state c.rows.ensures.value in
    let brings : brought state.keys (party.Replica state.me) c.args.text.now
    ≡ Some (request_with c.args.reading.now (own_mac c.args.text.now)) = search rules in
    let is : replica_step state c.args.text.now ≡ carried_out state request (Waits c.in-Waits.missing) =
    step_of_frame state c.args.text.now (request_with c.args.reading.now (own_mac c.args.text.now)) brings
    ∙ decided_so c.rows.result state request c.in_ok-named.field-0.decision alike c.in_ok-named.ensures.decision
    ∙ ap (carried_out state request) c.in-Waits.is in
    IfOk-weaker c.plan_waiting.result
    (λ (planned : Planned). planned.letters ≡ fetches_of state.keys state.me c.in-Waits.missing)
    (λ (planned : Planned). planned.letters ≡ (replica_step state c.args.text.now).1)
    (λ planned so. so ∙ ap (λ (it : ReplicaState × List Letter). it.1) (sym is))
    c.plan_waiting.ensures.letters

pub plan_answer-requires-clause-may : goal.plan_answer-requires-clause-may
plan_answer-requires-clause-may c =
    let state : ReplicaState = c.args.self.now in
    let alike : HoldsAlike c.rows.result state = rows_alike c.rows.result state c.rows.ensures.value in
    subst (MayAcceptAll state) (sym c.as_slice.ensures)
    (subst (MayDecide state) c.in-Answers.is
    (may_alike c.rows.result state alike.me alike.keys alike.histories c.in_ok-named.field-0.decision
    c.in_ok-named.ensures.may))
