-- One tick after another.
use Rattle.std.proofs.Common.{rules, ◌≡◌, ◌∙◌, ◌+◌, ◌-◌, suc, Err, sym, arith}
use Rattle.qu_script.proofs.RunFacts.{stops_with, ticks_more, ticks_stop, ticks_end}
use Rattle.qu_script.proofs.player.Player.tick.Goals as goal

pub returns-in_err-make_event : goal.returns-in_err-make_event
returns-in_err-make_event c =
    let is : c.from_residual.result ≡ Err c.in_err-make_event.field-0.0 = search rules in
    let left : c.args.count - c.loop-index.index ≡ suc (c.args.count - (c.loop-index.index + 1)) = omega arith in
    stops_with c.from_residual.result c.in_err-make_event.field-0.0 c.make_event.new.self _ is
    (ticks_stop c.args.number (c.args.count - (c.loop-index.index + 1)) (c.args.count - c.loop-index.index)
    c.args.client c.loop-index.self c.in_err-make_event.field-0.0 c.make_event.new.self _ left c.loop-index.invariant
    c.in_err-make_event.ensures)

pub loop-index-preserved : goal.loop-index-preserved
loop-index-preserved c =
    let left : c.args.count - c.loop-index.index ≡ suc (c.args.count - (c.loop-index.index + 1)) = omega arith in
    ticks_more c.args.number (c.args.count - (c.loop-index.index + 1)) (c.args.count - c.loop-index.index)
    c.args.client c.loop-index.self c.make_event.new.self left c.in_ok-make_event.ensures
    ∙ c.loop-index.invariant

pub returns : goal.returns
returns c =
    sym c.loop-index.invariant ∙ ticks_end c.args.number (c.args.count - c.loop-index.index) c.args.client
    c.loop-index.self (omega arith)
