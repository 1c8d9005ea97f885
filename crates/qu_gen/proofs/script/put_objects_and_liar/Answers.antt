-- the pieces are written in their order
use Rattle.std.proofs.Common.{take, drop}
use Rattle.std.specs.Prelude.{string_bytes}
use Rattle.qu_gen.specs.Script.{objects_and_liar, ended}
use Rattle.qu_gen.proofs.LineFacts.{in_a_row}
use Rattle.qu_gen.proofs.script.put_objects_and_liar.Goals as goal

pub returns : goal.returns
unfolding ended objects_and_liar
returns c =
    rw c.in_ok-push_str-3.ensures.bytes (rw c.in_ok-push_str-2.ensures.bytes (rw c.in_ok-push_str.ensures.bytes
    (in_a_row (string_bytes c.args.text.now) (ended (take 3 objects_and_liar))
    (ended (take 3 (drop 3 objects_and_liar))) (ended (drop 6 objects_and_liar)))))
