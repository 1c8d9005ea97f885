use Rattle.std.proofs.Common.{subst}
use Rattle.qu_base.specs.Format.{AreBytes}
use Rattle.qu_frames.proofs.Decoded.{decoded_is_spelled}
use Rattle.qu_frames.proofs.decoding.decode.Goals as goal

pub returns-clause-found : goal.returns-clause-found
returns-clause-found c =
    decoded_is_spelled c.args.text.now c.in_ok-frame.frame (subst AreBytes c.new.ensures.rest c.are_bytes.ensures)
    c.in_ok-frame.ensures
