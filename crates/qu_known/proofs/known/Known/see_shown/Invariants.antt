use Rattle.std.proofs.Common.{◌≡◌, drop}
use Rattle.qu_known.specs.Known.{see_shown}
use Rattle.qu_known.proofs.known.Known.see_shown.Given as goal

abbrev pub invariant-loop-sealed : goal.invariant-loop-sealed
invariant-loop-sealed l = see_shown l.me (drop l.sealed-index l.shown) (l.self, l.news)
    ≡ see_shown l.me l.shown (l.initial.self, l.initial.news)
