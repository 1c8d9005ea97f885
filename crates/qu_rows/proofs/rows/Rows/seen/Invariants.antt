use Rattle.std.proofs.Common.{◌≡◌, length, take}
use Rattle.qu_rows.specs.Rows.{seen_each, objects_of}
use Rattle.qu_rows.proofs.rows.Rows.seen.Given as goal

abbrev pub invariant-loop-object : goal.invariant-loop-object
invariant-loop-object g l = record {
  seen : l.seen ≡ seen_each l.self l.asked (objects_of (take l.object-index l.parts));
  one_each : length l.seen ≡ l.object-index;
}
