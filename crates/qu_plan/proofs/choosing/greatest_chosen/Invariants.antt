use Rattle.std.proofs.Common.{◌≡◌, IsTrue, filter, take}
use Rattle.std.specs.List.{All}
use Rattle.qu_history.specs.History.{is_history}
use Rattle.qu_history.specs.Sets.{histories, candidates_of, greatest}
use Rattle.qu_plan.specs.Chosen.{may_be_chosen}
use Rattle.qu_plan.specs.Linking.{linking}
use Rattle.qu_plan.proofs.choosing.greatest_chosen.Given as goal

abbrev pub invariant-loop-entry : goal.invariant-loop-entry
invariant-loop-entry l = record {
  value : l.greatest ≡ greatest
      (filter (may_be_chosen l.known.bounds l.known.sets (linking l.known.facts) l.object)
      (candidates_of (take l.entry-index (histories l.entries))));
  histories : All (λ entry. IsTrue (is_history entry.candidates)) (take l.entry-index (histories l.entries));
}
