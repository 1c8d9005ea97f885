-- The lines that are left, behind what was read so far, make what all lines make.
use Rattle.std.proofs.Common.{◌≡◌, ◌+◌, ◌≤◌, length}
use Rattle.qu_notation.specs.Text.{lines_of}
use Rattle.qu_language.specs.declared.phase.Phase.TheVariants.{NeedsBounds}
use Rattle.qu_language.specs.Phase.{IsGood}
use Rattle.qu_language.specs.Script.{lines_rule}
use Rattle.qu_language.proofs.read.read_lines.Given as goal

abbrev pub invariant-lines : goal.invariant-lines
invariant-lines l = record {
  few : l.number + length l.rest ≤ 1 + length l.fn.text;
  good : IsGood l.phase;
  read : lines_rule l.live l.phase l.number (lines_of l.rest) ≡ lines_rule l.live NeedsBounds 1 (lines_of l.fn.text);
}

abbrev pub decreases-lines : goal.decreases-lines
decreases-lines l = length l.rest
