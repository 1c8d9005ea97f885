use Rattle.std.proofs.Common.{◌≡◌, ◌-◌}
use Rattle.qu_base.specs.Format.{items_at, put_before, bytes}
use Rattle.qu_history.proofs.reading_entries.next_macs.Given as goal

-- what is read of all is what was read so far, before what is read of the rest
abbrev pub invariant-loop-at : goal.invariant-loop-at
invariant-loop-at l =
    items_at {K = Unit {0}} (λ before. bytes 32) (λ mac. tt) tt l.count l.fn.text ≡
    put_before l.macs (items_at {K = Unit {0}} (λ before. bytes 32) (λ mac. tt) tt (l.count - l.at) l.text)
