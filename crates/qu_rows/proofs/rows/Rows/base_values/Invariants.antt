use Rattle.std.proofs.Common.{◌≡◌, take}
use Rattle.qu_kept.specs.Performing.{values_of}
use Rattle.qu_rows.specs.Rows.{base_versions}
use Rattle.qu_rows.proofs.rows.Rows.base_values.Given as goal

abbrev pub invariant-loop-one : goal.invariant-loop-one
invariant-loop-one l = l.values ≡ values_of (base_versions l.self (take l.one-index l.seen))
