-- One delivery after another.
use Rattle.std.proofs.Common.{rules, ◌≡◌, ◌∙◌, ◌+◌, ◌-◌, suc, Some, Ok, Err, ap, sym, arith}
use Rattle.qu_script.specs.Events.{Playing, lowest_waiting, flow_made}
use Rattle.qu_script.proofs.RunFacts.{stops_with, flow_more, flow_stop, flow_rests, flow_end}
use Rattle.qu_script.proofs.player.Player.flow.Goals as goal

pub returns-in_default : goal.returns-in_default
returns-in_default c =
    sym c.loop-index.invariant
    ∙ flow_rests c.args.number (c.args.count - c.loop-index.index) c.loop-index.self
    (sym c.in_ok-letter.ensures.found ∙ c.in_default.is)
    ∙ ap (λ (playing : Playing). Ok playing) (sym c.waiting.ensures.same)

pub returns-in_err-make_event : goal.returns-in_err-make_event
returns-in_err-make_event c =
    let is : c.from_residual-in_err-make_event.result ≡ Err c.in_err-make_event.field-0.0 = search rules in
    let left : c.args.count - c.loop-index.index ≡ suc (c.args.count - (c.loop-index.index + 1)) = omega arith in
    let waits : lowest_waiting c.waiting.new.self ≡ Some c.in-Some.letter =
    ap (λ (playing : Playing). lowest_waiting playing) c.waiting.ensures.same
    ∙ sym c.in_ok-letter.ensures.found ∙ c.in-Some.is in
    stops_with c.from_residual-in_err-make_event.result c.in_err-make_event.field-0.0 c.make_event.new.self _ is
    (flow_stop c.args.number (c.args.count - (c.loop-index.index + 1)) (c.args.count - c.loop-index.index)
    c.in-Some.letter c.waiting.new.self c.in_err-make_event.field-0.0 c.make_event.new.self _ left waits
    (ap (λ (playing : Playing). flow_made c.args.number (c.args.count - c.loop-index.index) playing)
    c.waiting.ensures.same ∙ c.loop-index.invariant)
    c.in_err-make_event.ensures)

pub loop-index-preserved : goal.loop-index-preserved
loop-index-preserved c =
    let left : c.args.count - c.loop-index.index ≡ suc (c.args.count - (c.loop-index.index + 1)) = omega arith in
    let waits : lowest_waiting c.waiting.new.self ≡ Some c.in-Some.letter =
    ap (λ (playing : Playing). lowest_waiting playing) c.waiting.ensures.same
    ∙ sym c.in_ok-letter.ensures.found ∙ c.in-Some.is in
    flow_more c.args.number (c.args.count - (c.loop-index.index + 1)) (c.args.count - c.loop-index.index)
    c.in-Some.letter c.waiting.new.self c.make_event.new.self left waits c.in_ok-make_event.ensures
    ∙ ap (λ (playing : Playing). flow_made c.args.number (c.args.count - c.loop-index.index) playing)
    c.waiting.ensures.same
    ∙ c.loop-index.invariant

pub returns : goal.returns
returns c =
    sym c.loop-index.invariant ∙ flow_end c.args.number (c.args.count - c.loop-index.index) c.loop-index.self
    (omega arith)
