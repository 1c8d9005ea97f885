use Rattle.std.proofs.Common.{◌≡◌, None, Some, ◌-◌}
use Rattle.qu_base.specs.Format.{items_at, put_before}
use Rattle.qu_history.specs.Formats.{next_candidate}
use Rattle.qu_history.proofs.reading.next_candidates.Given as goal

-- the candidates so far, put before what reading the rest gives, are what reading all gives
abbrev pub invariant-loop : goal.invariant-loop
invariant-loop l =
    items_at (next_candidate l.object) (λ candidate. Some candidate.stamp) None l.fn.count l.fn.text
    ≡ put_before l.candidates (items_at (next_candidate l.object) (λ candidate. Some candidate.stamp) l.before
    (l.count - l.counter) l.text)
