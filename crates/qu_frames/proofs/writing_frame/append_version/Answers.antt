use Rattle.std.specs.Int.{w8, w16, to_be_bytes}
use Rattle.qu_stamp.specs.Formats.{stamp_with, plain_stamp_form}
use Rattle.qu_frames.proofs.Pieces.{four_pieces}
use Rattle.qu_frames.proofs.writing_frame.append_version.Goals as goal

-- a stamp is spelled so, whether it may be a barrier's or not
pub returns : goal.returns
unfolding stamp_with
returns c =
    four_pieces (to_be_bytes w8 c.args.kind) (to_be_bytes w8 c.args.replica.0) (to_be_bytes w16 c.args.object.0)
    (plain_stamp_form.spell c.args.stamp.now) _ _ _ _ _ c.in_ok-u8.ensures.ok c.in_ok-u8-2.ensures.ok
    c.in_ok-u16.ensures.ok c.in_ok-write_stamp.ensures.ok
