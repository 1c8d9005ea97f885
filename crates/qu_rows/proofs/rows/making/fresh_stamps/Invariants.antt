use Rattle.std.proofs.Common.{◌≡◌, length, take}
use Rattle.qu_rows.specs.Rows.{fresh_stamps}
use Rattle.qu_rows.proofs.rows.making.fresh_stamps.Given as goal

abbrev pub invariant-loop-one : goal.invariant-loop-one
invariant-loop-one l = record {
  stamps : l.stamps ≡ fresh_stamps l.asked (take l.one-index l.seen);
  one_each : length l.stamps ≡ l.one-index;
}
