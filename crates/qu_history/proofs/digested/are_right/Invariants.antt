use Rattle.std.proofs.Common.{◌≡◌, drop}
use Rattle.std.specs.List.{list_all}
use Rattle.qu_history.specs.declared.sets.SetOf.{SetOf}
use Rattle.qu_history.specs.Culling.{is_right}
use Rattle.qu_history.proofs.digested.are_right.Given as goal

-- all objects are right where those that are left are
abbrev pub invariant-loop-place : goal.invariant-loop-place
invariant-loop-place l =
    list_all (λ (set : SetOf). list_all (is_right l.keys l.me) set.entries) l.sets
    ≡ list_all (λ (set : SetOf). list_all (is_right l.keys l.me) set.entries) (drop l.place l.sets)
