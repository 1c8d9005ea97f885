use Rattle.std.proofs.Common.{◌≡◌, take}
use Rattle.qu_rows.specs.Rows.{base_keys}
use Rattle.qu_rows.proofs.rows.bases.base_keys.Given as goal

abbrev pub invariant-loop-one : goal.invariant-loop-one
invariant-loop-one l = l.keys ≡ base_keys (take l.one-index l.seen)
