-- The printed order is a serial order, and what is behind it.
use Rattle.std.proofs.Common.{◌≡◌, ◌<◌, ◌^◌, List, length, ap, subst, ◌∙◌}
use Rattle.std.proofs.lemmas.Result.{IfOk-weaker}
use Rattle.qu_machine.specs.declared.record.Point.{Point}
use Rattle.qu_machine.specs.Serial.{IsSerial}
use Rattle.qu_trace.specs.declared.trace.Entry.{Entry}
use Rattle.qu_trace.specs.declared.trace.Trace.{Trace}
use Rattle.qu_trace.specs.Operation.{operations_of}
use Rattle.qu_runs.specs.Plain.{HaveParts, AreTyped, ArePlain}
use Rattle.qu_claims.specs.Premises.{IsUnforged, MeetsPremises}
use Rattle.qu_runs.proofs.Digests.Plain.{plain_from}
use Rattle.qu_runs.proofs.Fits.Fitting.{replica_fits}
use Rattle.qu_runs.proofs.Worlds.WorldGrowth.{world_after-grows}
use Rattle.qu_accepts.proofs.Together.{are_steps, accepts_together}
use Rattle.qu_claims.specs.Order.{IsPrintedOrder}
use Rattle.qu_laws.proofs.Chained.{is_chained, decides_in_turn, decides_jointly}
use Rattle.qu_quick.proofs.OneTrip.{quick_is_one_round}
use Rattle.qu_values.proofs.Versions.TrueVersions.{true_versions}
use Rattle.qu_safety.proofs.DecidedOnce.{decides_once}
use Rattle.qu_safety.proofs.Completed.ByQuorums.{completes_by_quorums}
use Rattle.qu_laws.proofs.Named.{stamps_name}
use Rattle.qu_safety.proofs.Grounded.{Grounded, grounded}
use Rattle.qu_safety.proofs.Points.OwnedPoints.{owned}
use Rattle.qu_safety.proofs.Orders.SerialOrder.{serial}
use Rattle.qu_safety.proofs.order.order_of.Goals as goal

entries_of : (c : goal.After-printed_order) → c.as_slice.result.now ≡ c.args.trace.now.entries
entries_of c = c.as_slice.ensures ∙ ap (λ (run : Trace). run.entries) c.trace-run.ensures

typed : (c : goal.After-printed_order) → AreTyped c.args.trace.now
typed c = record {
  parts = subst HaveParts (entries_of c) c.have_parts.ensures.parts;
  few = subst (λ (entries : List Entry). length entries < 2 ^ 63) (entries_of c) c.have_parts.ensures.few;
}

plain_run : (c : goal.After-printed_order) → IsUnforged c.args.trace.now → ArePlain c.args.trace.now
plain_run c unforged = plain_from c.args.trace.now (typed c).parts (typed c).few unforged

its_grounds : (c : goal.After-printed_order) → MeetsPremises c.args.trace.now → Grounded c.args.trace.now
its_grounds c premises = grounded c.args.trace.now c.requires (typed c).parts (typed c).few premises

pub returns-clause-serial : goal.returns-clause-serial
returns-clause-serial c =
    IfOk-weaker c.printed_order.result (IsPrintedOrder c.args.trace.now)
    (λ (order : List Point). MeetsPremises c.args.trace.now
    → IsSerial c.args.trace.now.setup.kinds (operations_of c.args.trace.now) order)
    (λ order printed premises.
    let it : Grounded c.args.trace.now = its_grounds c premises in
    serial c.args.trace.now c.requires it.plain it.clients it.one_act it.laws it.joint it.facts it.once order
    (owned c.args.trace.now c.requires it.plain it.clients order printed))
    c.printed_order.ensures

pub returns-clause-rising : goal.returns-clause-rising
returns-clause-rising c =
    λ time within place state found.
    (replica_fits c.args.trace.now c.requires (typed c) time within place state found).own

pub returns-clause-grows : goal.returns-clause-grows
returns-clause-grows c = world_after-grows c.args.trace.now

pub returns-clause-together : goal.returns-clause-together
returns-clause-together c = accepts_together c.args.trace.now (are_steps c.args.trace.now c.requires (typed c))

pub returns-clause-chained : goal.returns-clause-chained
returns-clause-chained c premises =
    is_chained c.args.trace.now c.requires (plain_run c premises.unforged) premises.no_collision

pub returns-clause-named : goal.returns-clause-named
returns-clause-named c premises =
    stamps_name c.args.trace.now c.requires (plain_run c premises.unforged) premises.no_collision

pub returns-clause-jointly : goal.returns-clause-jointly
returns-clause-jointly c premises =
    decides_jointly c.args.trace.now c.requires (plain_run c premises.unforged) premises.no_collision

pub returns-clause-in_turn : goal.returns-clause-in_turn
returns-clause-in_turn c premises =
    decides_in_turn c.args.trace.now c.requires (plain_run c premises.unforged) premises.no_collision

pub returns-clause-once : goal.returns-clause-once
returns-clause-once c premises =
    let it : Grounded c.args.trace.now = its_grounds c premises in
    decides_once c.args.trace.now it.laws it.joint it.one_act it.facts it.once

pub returns-clause-numbers : goal.returns-clause-numbers
returns-clause-numbers c premises = (its_grounds c premises).numbers

pub returns-clause-versions : goal.returns-clause-versions
returns-clause-versions c premises =
    let it : Grounded c.args.trace.now = its_grounds c premises in
    true_versions c.args.trace.now c.requires it.plain it.laws it.joint it.facts it.links

pub returns-clause-one_round : goal.returns-clause-one_round
returns-clause-one_round c premises =
    let it : Grounded c.args.trace.now = its_grounds c premises in
    quick_is_one_round c.args.trace.now c.requires it.plain it.clients it.one_act it.laws it.joint it.facts

pub returns-clause-by_quorums : goal.returns-clause-by_quorums
returns-clause-by_quorums c premises =
    let it : Grounded c.args.trace.now = its_grounds c premises in
    completes_by_quorums c.args.trace.now c.requires it.plain it.clients it.laws it.joint it.facts
