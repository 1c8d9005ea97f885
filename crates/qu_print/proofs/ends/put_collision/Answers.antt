-- the two events are written in their order
use Rattle.std.proofs.Common.{append_assoc}
use Rattle.qu_print.specs.Lines.{lines_text}
use Rattle.qu_print.specs.Ends.{premises_line}
use Rattle.qu_print.proofs.ends.put_collision.Goals as goal

pub returns : goal.returns
unfolding lines_text premises_line
returns c = rw c.in_ok-writeln.ensures.bytes (rw c.in_ok-write.ensures.bytes (simp (append_assoc)))
