use Rattle.std.proofs.lemmas.Result.{on_ok_weaker}
use Rattle.qu_frames.proofs.Pieces.{reply_written}
use Rattle.qu_frames.proofs.writing_frame.append_reply.Goals as goal

pub returns : goal.returns
returns c = λ mac.
    let culled = rw c.as_slice.ensures at c.in_ok-append_culled.ensures in
    let shown = rw c.as_slice-2.ensures at (c.write_shown.ensures.ok c.args.replica) in
    on_ok_weaker c.write_shown.result
    (reply_written c.args.replica c.args.client c.args.number c.args.round c.args.verdict.now c.args.culled.now
    c.args.shown.now mac _ _ _ _ _ _ _ c.in_ok-u8.ensures.ok c.in_ok-u8-2.ensures.ok c.in_ok-append_round.ensures
    c.in_ok-write_verdict.ensures.ok culled)
    shown
