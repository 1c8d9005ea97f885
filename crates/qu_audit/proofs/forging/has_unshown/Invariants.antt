use Rattle.std.proofs.Common.{◌≡◌, drop}
use Rattle.std.specs.List.{list_any}
use Rattle.qu_audit.specs.Forging.{is_unshown}
use Rattle.qu_audit.proofs.forging.has_unshown.Given as goal

-- none of the entries so far is unshown
abbrev pub invariant-loop-sealed : goal.invariant-loop-sealed
invariant-loop-sealed l =
    list_any (is_unshown l.setup l.shown l.me) (drop l.sealed-index l.sealed-items) ≡ list_any
    (is_unshown l.setup l.shown l.me) l.sealed-items
