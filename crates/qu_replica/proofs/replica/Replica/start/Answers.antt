-- What a replica begins with fits.
use Rattle.std.proofs.Common.{◌≡◌, ◌+◌, ◌≤◌, ℕ, true, subst, ◌∙◌, arith}
use Rattle.qu_base.specs.declared.limits.TheConstants.{LAST_CLIENT, MOST_FAULTS}
use Rattle.qu_base.specs.Bounds.{replicas, is_replica_count}
use Rattle.qu_base.proofs.ThresholdFacts.{replicas_are_count}
use Rattle.qu_fitting.proofs.FitState.{opening-fits}
use Rattle.qu_waiting.proofs.SlotLaws.{opening_slots}
use Rattle.qu_fitting.proofs.OwnHistories.{are_own_opening}
use Rattle.qu_replica.proofs.replica.Replica.start.Goals as goal

pub invariant_of-result : goal.invariant_of-result
invariant_of-result c = (
  rw c.in_ok-histories.ensures (are_own_opening c.args.me 0 c.args.kinds.now),
  rw c.in_ok-empty_slots.ensures (opening_slots 0 (LAST_CLIENT + 1)),
)

pub returns-clause-fits : goal.returns-clause-fits
returns-clause-fits c = λ within.
    let same : c.b.result ≡ c.args.keys.bounds = c.b.ensures.value ∙ c.bounds.ensures in
    let sized : is_replica_count (replicas c.args.keys.bounds) ≡ true =
    replicas_are_count c.args.keys.bounds
    (subst (λ (b : ℕ). 1 ≤ b) same c.b.ensures.in_range.0)
    (subst (λ (b : ℕ). b ≤ MOST_FAULTS) same c.b.ensures.in_range.1) in
    rw (
      c.in_ok-from_clones.ensures,
      c.in_ok-histories.ensures,
      c.in_ok-fresh.ensures.value,
      c.in_ok-empty_slots.ensures,
      c.new.ensures,
    )
    (opening-fits c.args.me c.args.keys c.args.kinds.now (omega (arith, within)) sized c.requires)
