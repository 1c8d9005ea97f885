use Rattle.std.proofs.Common.{◌≡◌, IsTrue, filter, take}
use Rattle.std.specs.List.{All}
use Rattle.qu_history.specs.History.{is_history}
use Rattle.qu_history.specs.Sets.{histories, candidates_of, entries_of, greatest}
use Rattle.qu_class.specs.Repairable.{is_shown_of_kind}
use Rattle.qu_class.proofs.repairable.greatest_of_kind.Given as goal

abbrev pub invariant-loop-entry : goal.invariant-loop-entry
invariant-loop-entry l = record {
  value : l.greatest ≡ greatest
      (filter (is_shown_of_kind l.barrier l.least (entries_of l.object l.sets))
      (candidates_of (take l.entry-index (histories l.entries))));
  histories : All (λ entry. IsTrue (is_history entry.candidates)) (take l.entry-index (histories l.entries));
}
