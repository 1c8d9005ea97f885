-- The slot is that of the client that asks.
use Rattle.std.proofs.Common.{rules, ◌≡◌, Some, sym, subst}
use Rattle.qu_rows.specs.State.{AreHistories}
use Rattle.qu_replica.specs.declared.planned.Gain.{Gain}
use Rattle.qu_waiting.specs.declared.next.Next.TheVariants.{Waits}
use Rattle.qu_replica.specs.Growth.{MayGain}
use Rattle.qu_waiting.specs.Slots.{AreSlots}
use Rattle.qu_replica.proofs.States.Gains.{gain_keeps}
use Rattle.qu_replica.proofs.replica.Replica.plan_waiting.Goals as goal

pub returns-clause-may : goal.returns-clause-may
returns-clause-may c =
    let own : AreHistories c.args.self.now = search rules in
    let slots : AreSlots c.args.self.now.waiting = search rules in
    let of_client : ((c.in_ok-waiting.waiting.request).client).0 ≡ c.client-client.result.0 = search rules in
    let gain : Gain = record c.in_ok-gain.field-0.gain {
      turn = Some (record { client = c.client-client.result; next = Waits c.in_ok-waiting.waiting });
    } in
    let none : gain.histories ≡ _ = search rules in
    subst (MayGain c.args.self.now) (sym c.with_turn.ensures)
    (gain_keeps c.args.self.now gain none own slots of_client c.in_ok-gain.ensures.room)
