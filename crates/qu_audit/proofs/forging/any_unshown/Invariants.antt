use Rattle.std.proofs.Common.{◌≡◌, drop}
use Rattle.std.specs.List.{list_any}
use Rattle.qu_audit.specs.Forging.{has_unshown}
use Rattle.qu_audit.proofs.forging.any_unshown.Given as goal

-- none of the sets so far has an unshown entry
abbrev pub invariant-loop-set : goal.invariant-loop-set
invariant-loop-set l =
    list_any (has_unshown l.setup l.shown l.me) (drop l.set-index l.set-items) ≡ list_any
    (has_unshown l.setup l.shown l.me) l.set-items
