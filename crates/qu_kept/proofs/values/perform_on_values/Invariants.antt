-- no part so far is refused: the act is what the parts so far made, and then the parts from here on
use Rattle.std.proofs.Common.{◌≡◌, ◌++◌, drop}
use Rattle.qu_objects.specs.Performing.{outcomes, refusal_from, items_of, changed_values}
use Rattle.qu_kept.proofs.values.perform_on_values.Given as goal

abbrev pub invariant-loop-at : goal.invariant-loop-at
invariant-loop-at l =
    let all = outcomes l.act l.values in
    let rest = outcomes (drop l.at l.act) (drop l.at l.values) in
    record {
      refusal : refusal_from 0 all ≡ refusal_from l.at rest;
      items : items_of all ≡ l.items ++ items_of rest;
      changed : changed_values all ≡ l.changed ++ changed_values rest;
    }
