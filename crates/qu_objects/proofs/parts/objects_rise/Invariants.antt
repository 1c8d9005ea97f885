-- The objects so far rise: all do where those from here on do.
use Rattle.std.proofs.Common.{◌≡◌, map, drop}
use Rattle.qu_objects.specs.Parts.{are_objects_from}
use Rattle.qu_objects.proofs.parts.objects_rise.Given as goal

abbrev pub invariant-loop-object : goal.invariant-loop-object
invariant-loop-object g l =
    are_objects_from 0 (map (λ part. part.0) l.parts)
    ≡ are_objects_from l.least (map (λ part. part.0) (drop l.object-index l.parts))
