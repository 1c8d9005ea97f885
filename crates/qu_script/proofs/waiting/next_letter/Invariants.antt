-- Each letter below was sent.
use Rattle.std.proofs.Common.{◌+◌, ◌-◌, ◌≤◌, length}
use Rattle.qu_trace.specs.Letters.{letters_of}
use Rattle.qu_script.proofs.waiting.next_letter.Given as goal

abbrev pub invariant-letters : goal.invariant-letters
invariant-letters l = record {
  is_letter : 1 ≤ l.next;
  sent : l.next ≤ length (letters_of l.entries) + 1;
}

abbrev pub decreases-letters : goal.decreases-letters
decreases-letters l = length (letters_of l.entries) + 1 - l.next
