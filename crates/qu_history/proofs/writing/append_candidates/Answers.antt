use Rattle.std.proofs.Common.{◌∙◌}
use Rattle.qu_history.proofs.writing.append_candidates.Goals as goal

pub returns-in_err-write_candidate-clause-more : goal.returns-in_err-write_candidate-clause-more
returns-in_err-write_candidate-clause-more c = (_, c.in_err-write_candidate.ensures.err ∙ c.loop-candidate.invariant)
