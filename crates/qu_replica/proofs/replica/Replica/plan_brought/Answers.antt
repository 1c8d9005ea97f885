-- A version that comes is handled as the frame that carries it.
use Rattle.std.proofs.Common.{◌≡◌, List, Some, sym, ap, ◌∙◌}
use Rattle.std.proofs.lemmas.Bool.{true≢false}
use Rattle.std.proofs.lemmas.Result.{IfOk-weaker}
use Rattle.qu_base.specs.declared.party.Party.TheVariants as party
use Rattle.qu_frames.specs.Reading.{is_request}
use Rattle.qu_frames.specs.Signing.{brought}
use Rattle.qu_frames.specs.declared.frame.Frame.{Frame}
use Rattle.qu_frames.specs.declared.frame.Frame.TheVariants as frame
use Rattle.qu_frames.specs.declared.frame.Letter.{Letter}
use Rattle.qu_frames.proofs.Signed.{brought_is_decoded}
use Rattle.qu_rows.specs.State.{ReplicaState}
use Rattle.qu_replica.specs.declared.planned.Planned.{Planned}
use Rattle.qu_replica.specs.State.{with_gain}
use Rattle.qu_replica.specs.Step.{replica_on_frame, replica_step}
use Rattle.qu_fitting.proofs.FitRequests.{sender-fits}
use Rattle.qu_replica.proofs.States.Stepped.{step_of_frame}
use Rattle.qu_replica.proofs.replica.Replica.plan_brought.Goals as goal

pub plan_fetched-requires : goal.plan_fetched-requires
plan_fetched-requires c =
    let it = c.in-Fetched in
    let state : ReplicaState = c.args.self.now in
    let version = c.in_ok-copy-in-Fetched in
    let sent : Frame = frame.Fetched it.replica it.object it.stamp version.field-0 it.mac in
    let brings : brought state.keys (party.Replica state.me) c.args.text.now ≡ Some sent =
    c.requires.brought ∙ ap Some it.is
    ∙ (λ i. Some (frame.Fetched it.replica it.object it.stamp (sym version.ensures i) it.mac)) in
    sender-fits state.keys (party.Replica state.me) c.args.text.now it.replica it.object it.stamp
    version.field-0 it.mac c.are_bytes.ensures brings

pub returns-in_ok-copy-in-Fetched-clause-state : goal.returns-in_ok-copy-in-Fetched-clause-state
returns-in_ok-copy-in-Fetched-clause-state c =
    let it = c.in-Fetched in
    let state : ReplicaState = c.args.self.now in
    let version = c.in_ok-copy-in-Fetched in
    let sent : Frame = frame.Fetched it.replica it.object it.stamp version.field-0 it.mac in
    let brings : brought state.keys (party.Replica state.me) c.args.text.now ≡ Some sent =
    c.requires.brought ∙ ap Some it.is
    ∙ (λ i. Some (frame.Fetched it.replica it.object it.stamp (sym version.ensures i) it.mac)) in
    IfOk-weaker c.plan_fetched.result
    (λ (planned : Planned). with_gain state planned.gain ≡ (replica_on_frame state sent).0)
    (λ (planned : Planned). with_gain state planned.gain ≡ (replica_step state c.args.text.now).0)
    (λ planned so. so ∙ ap (λ (made : ReplicaState × List Letter). made.0)
    (sym (step_of_frame state c.args.text.now sent brings)))
    (c.plan_fetched.ensures.state it.mac)

pub returns-in_ok-copy-in-Fetched-clause-letters : goal.returns-in_ok-copy-in-Fetched-clause-letters
returns-in_ok-copy-in-Fetched-clause-letters c =
    let it = c.in-Fetched in
    let state : ReplicaState = c.args.self.now in
    let version = c.in_ok-copy-in-Fetched in
    let sent : Frame = frame.Fetched it.replica it.object it.stamp version.field-0 it.mac in
    let brings : brought state.keys (party.Replica state.me) c.args.text.now ≡ Some sent =
    c.requires.brought ∙ ap Some it.is
    ∙ (λ i. Some (frame.Fetched it.replica it.object it.stamp (sym version.ensures i) it.mac)) in
    IfOk-weaker c.plan_fetched.result
    (λ (planned : Planned). planned.letters ≡ (replica_on_frame state sent).1)
    (λ (planned : Planned). planned.letters ≡ (replica_step state c.args.text.now).1)
    (λ planned so. so ∙ ap (λ (made : ReplicaState × List Letter). made.1)
    (sym (step_of_frame state c.args.text.now sent brings)))
    (c.plan_fetched.ensures.letters it.mac)

pub unreachable-requires : goal.unreachable-requires
unreachable-requires c =
    let it = c.in-Request in
    let state : ReplicaState = c.args.self.now in
    let sent : Frame = frame.Request it.client it.number it.round it.sets it.body it.mac in
    let brings : brought state.keys (party.Replica state.me) c.args.text.now ≡ Some sent =
    c.requires.brought ∙ ap Some it.is in
    true≢false (sym (ap is_request (brought_is_decoded state.keys (party.Replica state.me) c.args.text.now sent brings))
    ∙ c.requires.none)
