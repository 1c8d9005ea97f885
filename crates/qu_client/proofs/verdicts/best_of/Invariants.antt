use Rattle.std.proofs.Common.{◌≡◌, ◌≤◌, length, drop, max}
use Rattle.qu_client.specs.Verdicts.{best_of}
use Rattle.qu_client.proofs.verdicts.best_of.Given as goal

abbrev pub invariant-loop-counted : goal.invariant-loop-counted
invariant-loop-counted l = record {
  so_far : max l.best (best_of l.body (drop l.counted-index l.replies) l.replies) ≡ best_of l.body l.replies l.replies;
  most : l.best ≤ length l.replies;
}
