use Rattle.std.proofs.Common.{◌≡◌, ◌-◌}
use Rattle.qu_base.specs.Format.{items_at, put_before}
use Rattle.qu_history.specs.Formats.{sealed_entry_form, next_entry}
use Rattle.qu_history.proofs.reading_entries.next_entries.Given as goal

-- what is read of all is what was read so far, before what is read of the rest
abbrev pub invariant-loop-at : goal.invariant-loop-at
invariant-loop-at l =
    items_at (sealed_entry_form l.object) next_entry 0 l.count l.fn.text ≡
    put_before l.entries (items_at (sealed_entry_form l.object) next_entry l.least (l.count - l.at) l.text)
