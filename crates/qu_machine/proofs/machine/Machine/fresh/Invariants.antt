use Rattle.std.proofs.Common.{◌≡◌, map, take}
use Rattle.qu_objects.specs.Kind.{fresh_value}
use Rattle.qu_machine.proofs.machine.Machine.fresh.Given as goal

abbrev pub invariant-loop-kind : goal.invariant-loop-kind
invariant-loop-kind l = l.values.items ≡ map fresh_value (take l.kind-index l.kinds)
