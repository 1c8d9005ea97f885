use Rattle.std.proofs.Common.{◌≡◌, take}
use Rattle.qu_rows.specs.Rows.{facts_of}
use Rattle.qu_rows.proofs.rows.Rows.facts.Given as goal

abbrev pub invariant-loop-key : goal.invariant-loop-key
invariant-loop-key l = l.facts ≡ facts_of l.self (take l.key-index l.keys)
