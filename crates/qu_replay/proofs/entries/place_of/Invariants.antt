-- the letters so far stand before those that are left
use Rattle.std.proofs.Common.{◌≡◌, ◌+◌, ◌-◌, ◌^◌, min, drop}
use Rattle.qu_replay.specs.Merged.{place_of}
use Rattle.qu_replay.proofs.entries.place_of.Given as goal

abbrev pub invariant-loop-step : goal.invariant-loop-step
invariant-loop-step l =
    min (l.before + place_of (drop l.step-index l.steps) l.name) (2 ^ 64 - 1)
    ≡ min (place_of l.steps l.name) (2 ^ 64 - 1)
