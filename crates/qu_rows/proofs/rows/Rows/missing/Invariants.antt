use Rattle.std.proofs.Common.{◌≡◌, take}
use Rattle.qu_rows.specs.Rows.{missing_of}
use Rattle.qu_rows.proofs.rows.Rows.missing.Given as goal

abbrev pub invariant-loop-key : goal.invariant-loop-key
invariant-loop-key l = l.missing ≡ missing_of l.self (take l.key-index l.keys)
