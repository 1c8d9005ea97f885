use Rattle.std.proofs.Common.{◌≡◌, ◌++◌, not, map, filter, take}
use Rattle.qu_history.specs.declared.sealed.Sealed.{Sealed}
use Rattle.qu_history.specs.Culling.{is_right}
use Rattle.qu_history.proofs.culling.cull_set.Given as goal

-- the entries so far that stay, and those that do not
abbrev pub invariant-loop-place : goal.invariant-loop-place
invariant-loop-place l =
    (l.entries ≡ filter (is_right l.keys l.me) (take l.place l.all))
    × (l.left ≡ l.fn.left ++ map (λ (sealed : Sealed). (l.set.object, (sealed.history).replica))
    (filter (λ sealed. not (is_right l.keys l.me sealed)) (take l.place l.all)))
