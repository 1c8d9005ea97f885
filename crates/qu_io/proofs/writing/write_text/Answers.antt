use Rattle.std.proofs.Common.{◌∙◌, arith, length-take, length-drop}
use Rattle.qu_io.proofs.TransferFacts.{front_more}
use Rattle.qu_io.proofs.writing.write_text.Goals as goal

pub loop-at-preserved : goal.loop-at-preserved
loop-at-preserved g c =
    let known = g.K.Sink.known in
    record {
      within = (let fits = simp (length-take, length-drop) at c.in_ok-at.ensures.writes.fits in omega arith);
      front = front_more (known c.args.output.now).bytes (known c.loop-at.output).bytes
          (known c.write.new.self).bytes c.loop-at.at c.in_ok-at.field-0 c.args.text.now c.loop-at.invariant.front
          c.in_ok-at.ensures.writes.takes;
      calm = c.in_ok-at.ensures.writes.stays ∙ c.loop-at.invariant.calm;
    }
