use Rattle.std.proofs.Common.{◌≡◌, ◌++◌, take}
use Rattle.std.specs.List.{flat_map}
use Rattle.qu_objects.specs.Formats.{ask_form, spelled_object}
use Rattle.qu_objects.proofs.writing_parts.put_ask_parts.Given as goal

abbrev pub invariant-loop-part : goal.invariant-loop-part
invariant-loop-part l = l.out ≡ l.fn.out ++ flat_map (spelled_object ask_form) (take l.part-index l.parts)
