-- behind every counter but the last one the next one comes
use Rattle.std.proofs.Common.{◌≡◌, ◌==◌, false, append_assoc, arith}
use Rattle.std.proofs.lemmas.Bool.Decides.{nat_tests}
use Rattle.qu_gen.proofs.operation.put_move.Goals as goal

pub returns-in_ok-write : goal.returns-in_ok-write
returns-in_ok-write c =
    let is_not_last : (c.args.counter == 5) ≡ false = grind (arith, nat_tests) in
    rw c.in_ok-write.ensures.bytes (simp (is_not_last, append_assoc))
