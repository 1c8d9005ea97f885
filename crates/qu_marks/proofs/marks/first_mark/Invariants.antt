use Rattle.std.proofs.Common.{◌≡◌, drop}
use Rattle.qu_trace.specs.Earliest.{earlier_of}
use Rattle.qu_marks.specs.FirstMark.{first_mark}
use Rattle.qu_marks.proofs.marks.first_mark.Given as goal

abbrev pub invariant-loop-candidate : goal.invariant-loop-candidate
invariant-loop-candidate l =
    earlier_of l.first (first_mark l.client l.act l.digest (drop l.candidate-index l.tracked))
    ≡ first_mark l.client l.act l.digest
    l.tracked
