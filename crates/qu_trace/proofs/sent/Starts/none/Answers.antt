-- A run of no entry has no start.
use Rattle.std.proofs.Common.{refl}
use Rattle.qu_trace.specs.Starts.{starts_from, start_after}
use Rattle.qu_trace.proofs.sent.Starts.none.Goals as goal

pub returns : goal.returns
unfolding starts_from start_after
returns c = record { places = c.new.ensures.items; next = refl }
