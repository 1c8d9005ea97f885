-- Tests of whether two steps are equal.
use Rattle.std.specs.Prelude.{ℕ, Bool, true, false, ◌==◌, ◌&&◌, Option, None, Some}
use Rattle.std.specs.Cmp.Lexicographic.{pointwise}
use Rattle.qu_base.specs.declared.party.ClientId.{ClientId}
use Rattle.qu_base.specs.declared.party.Party.{Party}
use Rattle.qu_objects.specs.declared.op.Outcome.{Outcome}
use Rattle.qu_objects.specs.declared.op.Outcome.TheVariants as outcome
use Rattle.qu_objects.specs.Alike.{are_same_bytes, same_answer}
use Rattle.qu_machine.specs.PointTests.{same_op}
use Rattle.qu_frames.specs.declared.frame.Letter.{Letter}
use Rattle.qu_frames.specs.declared.input.LetterName.{LetterName}
use Rattle.qu_frames.specs.declared.input.Input.{Input}
use Rattle.qu_frames.specs.declared.input.Input.TheVariants.{Frame, Tick, Invoke}
use Rattle.qu_trace.specs.Faulty.{is_same}
use Rattle.qu_replay.specs.declared.kept_step.KeptStep.{KeptStep}

abbrev pub same_letter_name : LetterName → LetterName → Bool
same_letter_name one other = is_same one.from other.from && (one.ticket == other.ticket && one.place == other.place)

abbrev pub same_input : Input → Input → Bool
same_input (Frame one text) (Frame other bytes) = same_letter_name one other && are_same_bytes text bytes
same_input (Frame one text) Tick = false
same_input (Frame one text) (Invoke other) = false
same_input Tick (Frame other bytes) = false
same_input Tick Tick = true
same_input Tick (Invoke other) = false
same_input (Invoke one) (Frame other bytes) = false
same_input (Invoke one) Tick = false
same_input (Invoke one) (Invoke other) = same_op one other

abbrev pub same_letter : Letter → Letter → Bool
same_letter one other =
    is_same one.from other.from && (is_same one.to other.to && are_same_bytes one.text other.text)

abbrev pub same_outcome : Outcome → Outcome → Bool
same_outcome (outcome.Done one) (outcome.Done other) = same_answer one other
same_outcome (outcome.Done one) outcome.GaveUp = false
same_outcome outcome.GaveUp (outcome.Done other) = false
same_outcome outcome.GaveUp outcome.GaveUp = true

abbrev pub same_end : Option (ClientId × ℕ × Outcome) → Option (ClientId × ℕ × Outcome) → Bool
same_end None None = true
same_end None (Some other) = false
same_end (Some one) None = false
same_end (Some one) (Some other) =
    (one.0).0 == (other.0).0 && (one.1 == other.1 && same_outcome one.2 other.2)

-- whether two actors' steps are equal, and of one actor
abbrev pub same_step : Party × KeptStep → Party × KeptStep → Bool
same_step one other =
    is_same one.0 other.0
    && (one.1.ticket == other.1.ticket
    && (same_input one.1.input other.1.input
    && (pointwise same_letter one.1.letters other.1.letters && same_end one.1.ended other.1.ended)))
