-- One letter after another.
use Rattle.std.proofs.Common.{rules, ◌≡◌, ◌∙◌, Err, sym, arith}
use Rattle.qu_script.proofs.RunFacts.{stops_with, deliveries_more, deliveries_stop, deliveries_end}
use Rattle.qu_script.proofs.player.Player.deliver_all.Goals as goal

pub returns-in_err-make_event : goal.returns-in_err-make_event
returns-in_err-make_event c =
    let is : c.from_residual.result ≡ Err c.in_err-make_event.field-0.0 = search rules in
    stops_with c.from_residual.result c.in_err-make_event.field-0.0 c.make_event.new.self _ is
    (deliveries_stop c.args.number c.loop-letter.self c.args.letters.now c.loop-letter.letter-index
    c.in_err-make_event.field-0.0 c.make_event.new.self _ (omega arith) c.loop-letter.invariant
    c.in_err-make_event.ensures)

pub loop-letter-preserved : goal.loop-letter-preserved
loop-letter-preserved c =
    deliveries_more c.args.number c.loop-letter.self c.make_event.new.self c.args.letters.now
    c.loop-letter.letter-index (omega arith) c.in_ok-make_event.ensures
    ∙ c.loop-letter.invariant

pub returns : goal.returns
returns c =
    sym c.loop-letter.invariant ∙ deliveries_end c.args.number c.loop-letter.self c.args.letters.now
    c.loop-letter.letter-index (omega arith)
