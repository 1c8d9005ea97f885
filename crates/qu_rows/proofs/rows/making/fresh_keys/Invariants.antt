use Rattle.std.proofs.Common.{◌≡◌, take}
use Rattle.qu_rows.specs.Rows.{fresh_keys}
use Rattle.qu_rows.proofs.rows.making.fresh_keys.Given as goal

abbrev pub invariant-loop-one : goal.invariant-loop-one
invariant-loop-one l = l.keys ≡ fresh_keys l.asked (take l.one-index l.seen)
