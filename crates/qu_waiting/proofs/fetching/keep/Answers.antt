use Rattle.qu_waiting.proofs.EqualBytes.{same_as_itself}
use Rattle.qu_waiting.proofs.fetching.keep.Goals as goal

pub returns-in-Ok-clause-counted : goal.returns-in-Ok-clause-counted
returns-in-Ok-clause-counted c = rw (same_as_itself c.args.text) at (c.in-Ok.ensures.counted c.args.text)
