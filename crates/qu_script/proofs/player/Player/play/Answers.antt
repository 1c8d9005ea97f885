-- One line after another.
use Rattle.std.proofs.Common.{rules, ◌≡◌, ◌∙◌, Err, sym, arith}
use Rattle.qu_script.proofs.RunFacts.{stops_with, lines_more, lines_stop, lines_end}
use Rattle.qu_script.proofs.player.Player.play.Goals as goal

pub returns-in_err-make_line : goal.returns-in_err-make_line
returns-in_err-make_line c =
    let is : c.from_residual.result ≡ Err c.in_err-make_line.field-0.0 = search rules in
    stops_with c.from_residual.result c.in_err-make_line.field-0.0 c.make_line.new.self _ is
    (lines_stop c.loop-number.self c.args.lines.now c.loop-number.number-index c.loop-number-item.result
    c.in_err-make_line.field-0.0 c.make_line.new.self _ (omega arith) c.loop-number-item.is c.loop-number.invariant
    c.in_err-make_line.ensures)

pub loop-number-preserved : goal.loop-number-preserved
loop-number-preserved c =
    lines_more c.loop-number.self c.make_line.new.self c.args.lines.now c.loop-number.number-index
    c.loop-number-item.result (omega arith) c.loop-number-item.is c.in_ok-make_line.ensures
    ∙ c.loop-number.invariant

pub returns : goal.returns
returns c =
    sym c.loop-number.invariant ∙ lines_end c.loop-number.self c.args.lines.now c.loop-number.number-index (omega arith)
