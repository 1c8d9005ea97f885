-- Each other replica is asked.
use Rattle.std.proofs.Common.{rules, ◌≡◌, ℕ, ◌<◌, ◌≤◌, false, subst}
use Rattle.std.specs.Prelude.{◌==◌}
use Rattle.qu_base.specs.Bounds.{replicas}
use Rattle.qu_replica.proofs.Requests.Fetches.{fetches_other, fetches_end}
use Rattle.qu_replica.proofs.replica.Replica.with_fetches_of.Goals as goal

pub loop-number-preserved : goal.loop-number-preserved
loop-number-preserved c =
    let state = c.args.self.now in
    let many : c.n-number-end.result ≡ replicas state.keys.bounds = search rules in
    let other : (c.loop-number.number == (state.me).0) ≡ false = search rules in
    fetches_other state.keys state.me (c.args.object, c.args.stamp) (replicas state.keys.bounds) c.loop-number.number
    c.loop-number.letters _ c.loop-number.invariant
    (subst (λ (n : ℕ). c.loop-number.number < n) many c.loop-number-test.true) other
    c.in_ok-fetch_letter.field-0 c.push.new.self c.in_ok-fetch_letter.ensures (search rules)

pub returns : goal.returns
returns c =
    let state = c.args.self.now in
    let many : c.n-number-end.result ≡ replicas state.keys.bounds = search rules in
    fetches_end state.keys state.me (c.args.object, c.args.stamp) (replicas state.keys.bounds) c.loop-number.number
    c.loop-number.letters _ c.loop-number.invariant
    (subst (λ (n : ℕ). n ≤ c.loop-number.number) many c.loop-number-test.false)
