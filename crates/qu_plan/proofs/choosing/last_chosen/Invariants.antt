use Rattle.std.proofs.Common.{◌≡◌, filter, take}
use Rattle.qu_history.specs.Sets.{greatest}
use Rattle.qu_plan.specs.Chosen.{may_be_chosen}
use Rattle.qu_plan.specs.Linking.{linking}
use Rattle.qu_plan.proofs.choosing.last_chosen.Given as goal

-- none of those behind the place passes
abbrev pub invariant-loop-place : goal.invariant-loop-place
invariant-loop-place l =
    greatest (filter (may_be_chosen l.known.bounds l.known.sets (linking l.known.facts) l.object) l.candidates)
    ≡ greatest
    (filter (may_be_chosen l.known.bounds l.known.sets (linking l.known.facts) l.object) (take l.place l.candidates))
