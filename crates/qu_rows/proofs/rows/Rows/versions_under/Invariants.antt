use Rattle.std.proofs.Common.{◌≡◌, take}
use Rattle.qu_rows.specs.Rows.{versions_under}
use Rattle.qu_rows.proofs.rows.Rows.versions_under.Given as goal

abbrev pub invariant-loop-key : goal.invariant-loop-key
invariant-loop-key l = l.versions ≡ versions_under l.self (take l.key-index l.keys)
