use Rattle.std.proofs.Common.{◌≡◌, ◌+◌, ◌-◌}
use Rattle.qu_base.specs.Format.{items_at, put_before}
use Rattle.qu_history.specs.declared.sets.SetOf.{SetOf}
use Rattle.qu_history.specs.Formats.{set_form}
use Rattle.qu_history.proofs.reading_sets.next_sets.Given as goal

-- what is read of all is what was read so far, before what is read of the rest
abbrev pub invariant-loop-at : goal.invariant-loop-at
invariant-loop-at l =
    items_at set_form (λ (set : SetOf). (set.object).0 + 1) 0 l.count l.fn.text ≡
    put_before l.sets (items_at set_form (λ (set : SetOf). (set.object).0 + 1) l.least (l.count - l.at) l.text)
