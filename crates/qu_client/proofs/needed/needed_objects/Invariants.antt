use Rattle.std.proofs.Common.{◌≡◌, map, filter}
use Rattle.std.specs.List.{range_with_len}
use Rattle.qu_client.specs.Needed.{is_needed, numbered_object}
use Rattle.qu_client.proofs.needed.needed_objects.Given as goal

abbrev pub invariant-loop-number : goal.invariant-loop-number
invariant-loop-number l =
    l.objects ≡ filter (is_needed l.bounds l.replies) (map numbered_object (range_with_len 0 l.number))
