use Rattle.std.proofs.Common.{arith}
use Rattle.qu_base.proofs.cursor.hold_bytes.Goals as goal

pub returns : goal.returns
returns c = λ index. omega (arith, c.type_inv.text index)
