-- what the steps that are left tell is what all of them tell
use Rattle.std.proofs.Common.{◌≡◌, drop}
use Rattle.qu_replay.specs.Entries.{letter_named}
use Rattle.qu_replay.proofs.entries.named_letter.Given as goal

abbrev pub invariant-loop-step : goal.invariant-loop-step
invariant-loop-step l = letter_named (drop l.step-index l.steps) l.name ≡ letter_named l.steps l.name
