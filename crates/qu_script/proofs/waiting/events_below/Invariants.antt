-- The events so far deliver only letters below this one.
use Rattle.std.proofs.Common.{◌≤◌, ◌-◌, length, take}
use Rattle.qu_script.specs.Waiting.{DeliverBelow}
use Rattle.qu_script.proofs.waiting.events_below.Given as goal

abbrev pub invariant-events : goal.invariant-events
invariant-events l = (l.count ≤ length l.entries) × DeliverBelow (take l.count l.entries) l.letter

abbrev pub decreases-events : goal.decreases-events
decreases-events l = length l.entries - l.count
