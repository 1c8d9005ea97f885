use Rattle.std.proofs.Common.{◌≡◌, ◌++◌, map, take}
use Rattle.std.specs.List.{flat_map}
use Rattle.qu_history.specs.Culling.{culled_set, left_of}
use Rattle.qu_history.proofs.culling.cull_all.Given as goal

-- the objects so far, and what of them is left out
abbrev pub invariant-loop-place : goal.invariant-loop-place
invariant-loop-place l =
    (l.objects ≡ map (culled_set l.keys l.me) (take l.place l.sets))
    × (l.left ≡ l.fn.left ++ flat_map (left_of l.keys l.me) (take l.place l.sets))
