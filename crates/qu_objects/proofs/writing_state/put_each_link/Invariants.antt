use Rattle.std.proofs.Common.{◌≡◌, ◌++◌, None, take}
use Rattle.std.specs.List.{flat_map}
use Rattle.qu_objects.specs.States.{link_form}
use Rattle.qu_objects.proofs.writing_state.put_each_link.Given as goal

abbrev pub invariant-loop-link : goal.invariant-loop-link
invariant-loop-link l = l.out ≡ l.fn.out ++ flat_map (link_form None).spell (take l.link-index l.links)
