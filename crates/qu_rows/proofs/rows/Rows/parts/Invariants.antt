use Rattle.std.proofs.Common.{◌≡◌, map, take}
use Rattle.qu_rows.specs.Rows.{part_of}
use Rattle.qu_rows.proofs.rows.Rows.parts.Given as goal

abbrev pub invariant-loop-mended : goal.invariant-loop-mended
invariant-loop-mended l = l.parts ≡ map (part_of l.self l.asked) (take l.mended-index l.remedies)
