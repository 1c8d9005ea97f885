use Rattle.std.proofs.lemmas.List.{take_min}
use Rattle.qu_post.proofs.letters.with_places.Goals as goal

pub returns-clause-value : goal.returns-clause-value
returns-clause-value c = rw c.min-count.ensures (take_min _ _)
