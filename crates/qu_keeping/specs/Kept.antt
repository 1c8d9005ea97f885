-- A step that is kept.
use Rattle.std.specs.Prelude.{ℕ}
use Rattle.qu_frames.specs.declared.input.Input.{Input}
use Rattle.qu_replay.specs.declared.kept_step.KeptStep.{KeptStep}
use Rattle.qu_replay.specs.Steps.{Moved}

-- a step, as it is kept: its ticket, what was taken, and what that made
abbrev pub kept_as : ℕ → Input → Moved → KeptStep
kept_as ticket input made = record { ticket = ticket; input = input; letters = made.letters; ended = made.ended }
