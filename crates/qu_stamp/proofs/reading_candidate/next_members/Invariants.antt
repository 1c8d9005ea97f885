use Rattle.std.proofs.Common.{◌≡◌, ◌-◌, length}
use Rattle.qu_base.specs.Format.{items_at, put_before}
use Rattle.qu_stamp.specs.Formats.{member_form, after_member}
use Rattle.qu_stamp.proofs.reading_candidate.next_members.Given as goal

-- the members so far, put before what reading the rest gives, are what reading all gives
abbrev pub invariant-loop-at : goal.invariant-loop-at
invariant-loop-at l =
    (length l.members ≡ l.at)
    × (items_at member_form after_member 0 l.count l.fn.text
    ≡ put_before l.members (items_at member_form after_member l.least (l.count - l.at) l.text))
