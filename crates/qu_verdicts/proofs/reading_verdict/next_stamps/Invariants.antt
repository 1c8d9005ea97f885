use Rattle.std.proofs.Common.{◌≡◌, ◌-◌}
use Rattle.qu_base.specs.Format.{items_at, put_before}
use Rattle.qu_verdicts.specs.Formats.{stamp_from, after_told}
use Rattle.qu_verdicts.proofs.reading_verdict.next_stamps.Given as goal

-- what is read of all is what was read so far, before what is read of the rest
abbrev pub invariant-loop-at : goal.invariant-loop-at
invariant-loop-at l =
    items_at stamp_from after_told 0 l.count l.fn.text ≡ put_before l.stamps
    (items_at stamp_from after_told l.least (l.count - l.at) l.text)
