use Rattle.std.specs.Int.{w8, w16, w64, to_be_bytes}
use Rattle.qu_frames.proofs.Pieces.{three_pieces}
use Rattle.qu_frames.proofs.writing_frame.append_round.Goals as goal

pub returns : goal.returns
returns c =
    three_pieces (to_be_bytes w16 c.args.client.0) (to_be_bytes w64 c.args.number) (to_be_bytes w8 c.args.round) _ _ _ _
    c.in_ok-u16.ensures.ok c.in_ok-u64.ensures.ok c.in_ok-u8.ensures.ok
