use Rattle.std.proofs.Common.{◌≡◌, drop}
use Rattle.std.specs.List.{list_all}
use Rattle.qu_history.specs.Culling.{is_right}
use Rattle.qu_history.proofs.digested.entries_right.Given as goal

-- all entries are right where those that are left are
abbrev pub invariant-loop-place : goal.invariant-loop-place
invariant-loop-place l =
    list_all (is_right l.keys l.me) l.entries ≡ list_all (is_right l.keys l.me) (drop l.place l.entries)
