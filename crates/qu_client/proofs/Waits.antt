-- No wait is longer than the longest.
use Rattle.std.proofs.Common.{ℕ, ◌≤◌, min, arith}
use Rattle.std.proofs.lemmas.Nat.{pow_pos}
use Rattle.std.proofs.Math.Nat.{pow-le-pow_right}
use Rattle.qu_client.specs.declared.limits.TheConstants.{MOST_DOUBLINGS, LONGEST_WAIT}
use Rattle.qu_client.specs.Waits.{longest}

pub longest_some : (round : ℕ) → 1 ≤ longest round
unfolding longest
longest_some round = omega (arith, pow_pos (min round MOST_DOUBLINGS))

pub longest_most : (round : ℕ) → longest round ≤ LONGEST_WAIT
unfolding longest
longest_most round =
    pow-le-pow_right {n = 2} (omega arith) {i = min round MOST_DOUBLINGS} {j = MOST_DOUBLINGS} (omega arith)

pub ruleset wait_laws = (longest_some, longest_most)
