-- no part so far is refused: the answer is what the parts so far were told, and then the parts from here on
use Rattle.std.proofs.Common.{◌≡◌, ◌++◌, drop}
use Rattle.qu_objects.specs.Performing.{told_outcomes, refusal_from, items_of}
use Rattle.qu_kept.proofs.values.tell_all.Given as goal

abbrev pub invariant-loop-at : goal.invariant-loop-at
invariant-loop-at l =
    let all = told_outcomes l.query l.values in
    let rest = told_outcomes (drop l.at l.query) (drop l.at l.values) in
    record {
      refusal : refusal_from 0 all ≡ refusal_from l.at rest;
      items : items_of all ≡ l.items ++ items_of rest;
    }
