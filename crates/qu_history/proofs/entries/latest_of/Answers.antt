use Rattle.std.proofs.Common.{◌≡◌, ◌+◌, take, sym, ◌∙◌, ap}
use Rattle.qu_stamp.specs.declared.stamp.Stamp.{Stamp}
use Rattle.qu_stamp.specs.Stamp.{is_below}
use Rattle.qu_history.specs.History.{greater_stamp, latest}
use Rattle.qu_history.specs.Sets.{latest_of, histories}
use Rattle.qu_history.proofs.Method.{latest_of_next}
use Rattle.qu_history.proofs.Stamps.{greater_first, greater_second}
use Rattle.qu_history.proofs.Histories.{histories_within, history_at}
use Rattle.qu_history.proofs.entries.latest_of.Goals as goal
use Rattle.qu_history.proofs.entries.latest_of.Goals.{then-is_below, else-is_below}

pub loop-entry-preserved : goal.loop-entry-preserved
loop-entry-preserved c =
    let so_far : Stamp = c.loop-entry.latest in
    let here : Stamp = latest c.entry-item.result.history.candidates in
    let next : latest_of (take (c.loop-entry.entry-index + 1) (histories c.args.entries.now)) ≡ greater_stamp
    so_far here =
    latest_of_next (histories c.args.entries.now) c.loop-entry.entry-index so_far c.entry-item.result.history
    (histories_within c.args.entries.now _ c.loop-entry-test.true) c.loop-entry.invariant
    (history_at c.args.entries.now _ c.entry-item.result c.loop-entry-test.true c.entry-item.is) in
    let test : is_below so_far here ≡ c.is_below.result = ap (is_below so_far) (sym c.last.ensures.greatest)
    ∙ sym c.is_below.ensures in
    elim c.if-is_below.branch [
      | then-is_below w ↦ w.latest-is ∙ c.last.ensures.greatest
          ∙ sym (greater_second so_far here (test ∙ w.if-is_below.true)) ∙ sym next
      | else-is_below w ↦ w.latest-is ∙ sym (greater_first so_far here (test ∙ w.if-is_below.false)) ∙ sym next
    ]
