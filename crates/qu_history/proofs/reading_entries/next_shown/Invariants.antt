use Rattle.std.proofs.Common.{◌≡◌, ◌-◌}
use Rattle.qu_base.specs.Format.{items_at, put_before}
use Rattle.qu_history.specs.Formats.{sealed_from, object_after}
use Rattle.qu_history.proofs.reading_entries.next_shown.Given as goal

-- what is read of all is what was read so far, before what is read of the rest
abbrev pub invariant-loop-at : goal.invariant-loop-at
invariant-loop-at l =
    items_at (sealed_from l.replica) object_after 0 l.count l.fn.text ≡
    put_before l.shown (items_at (sealed_from l.replica) object_after l.least (l.count - l.at) l.text)
