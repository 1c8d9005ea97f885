use Rattle.std.proofs.lemmas.Result.{on_ok_weaker}
use Rattle.qu_frames.specs.Formats.{objects_in_sets}
use Rattle.qu_frames.proofs.Pieces.{request_written}
use Rattle.qu_frames.proofs.writing_frame.append_request.Goals as goal

pub returns : goal.returns
returns c = λ mac.
    on_ok_weaker c.append_body.result
    (request_written c.args.client c.args.number c.args.round c.args.sets.now c.args.body.now mac _ _ _ _ _
    c.in_ok-u8.ensures.ok c.in_ok-append_round.ensures c.in_ok-write_sets.ensures.ok)
    (c.append_body.ensures (objects_in_sets c.args.sets.now))
