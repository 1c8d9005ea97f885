use Rattle.std.proofs.Common.{◌≡◌, ◌++◌, take}
use Rattle.std.specs.List.{flat_map}
use Rattle.qu_base.specs.Texts.{spelled_name}
use Rattle.qu_base.proofs.texts.put_each_entry.Given as goal

abbrev pub invariant-loop-entry : goal.invariant-loop-entry
invariant-loop-entry l = l.out ≡ l.fn.out ++ flat_map spelled_name (take l.entry-index l.entries)
