use Rattle.std.proofs.Common.{Option, ◌∙◌, ap}
use Rattle.std.specs.Prelude.{unwrap_or}
use Rattle.qu_stamp.specs.declared.candidate.Candidate.{Candidate}
use Rattle.qu_stamp.specs.Candidate.{opening}
use Rattle.qu_plan.specs.Chosen.{chosen_on}
use Rattle.qu_plan.proofs.choosing.chosen_on.Goals as goal

pub returns-clause-value : goal.returns-clause-value
unfolding chosen_on
returns-clause-value c =
    c.unwrap_or.ensures
    ∙ ap (unwrap_or c.greatest_chosen.result) c.opening.ensures
    ∙ ap (λ (it : Option Candidate). unwrap_or it opening) c.greatest_chosen.ensures.value

pub returns-clause-formed : goal.returns-clause-formed
returns-clause-formed c = record {
  thresholds = c.greatest_chosen.ensures.thresholds;
  histories = c.greatest_chosen.ensures.histories;
}
