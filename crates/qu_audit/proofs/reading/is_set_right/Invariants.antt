use Rattle.std.proofs.Common.{◌≡◌, drop}
use Rattle.std.specs.List.{list_all}
use Rattle.qu_history.specs.Culling.{is_right}
use Rattle.qu_audit.proofs.reading.is_set_right.Given as goal

-- the entries so far are right
abbrev pub invariant-loop-place : goal.invariant-loop-place
invariant-loop-place l =
    list_all (is_right l.keys l.me) (drop l.place l.entries) ≡ list_all (is_right l.keys l.me) l.entries
