-- The test decides.
use Rattle.std.specs.Prelude.{map, string_bytes}
use Rattle.qu_notation.proofs.WordFacts.{live_listed}
use Rattle.qu_notation.proofs.service.asks_live.Goals as goal

pub returns-clause-listed : goal.returns-clause-listed
returns-clause-listed c = rw c.are_live-live.ensures (live_listed (map string_bytes c.args.words.now))
