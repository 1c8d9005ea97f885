-- all candidates so far are held
use Rattle.std.proofs.Common.{◌≡◌, true, take}
use Rattle.std.specs.List.{list_all}
use Rattle.qu_rows.specs.Rows.{is_held, fresh_keys}
use Rattle.qu_rows.proofs.rows.Rows.held_keys.Given as goal

abbrev pub invariant-loop-one : goal.invariant-loop-one
invariant-loop-one l = record {
  held : list_all (is_held l.self l.asked l.group) (take l.one-index l.seen) ≡ true;
  keys : l.keys ≡ fresh_keys l.asked (take l.one-index l.seen);
}
