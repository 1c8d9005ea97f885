use Rattle.std.proofs.Common.{◌≡◌, ◌-◌, None, Some}
use Rattle.qu_base.specs.Format.{items_at, put_before}
use Rattle.qu_frames.specs.Formats.{pair_after}
use Rattle.qu_frames.proofs.reading_frame.next_culled.Given as goal

-- what is read of all is what was read so far, before what is read of the rest
abbrev pub invariant-loop-at : goal.invariant-loop-at
invariant-loop-at l =
    items_at pair_after (λ pair. Some pair) None l.count l.fn.text ≡ put_before l.culled
    (items_at pair_after (λ pair. Some pair) l.before (l.count - l.at) l.text)
