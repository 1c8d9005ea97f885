-- A call of another client is passed over, and one of this client is found or counted.
use Rattle.std.proofs.Common.{◌≡◌, ℕ, zero, suc, ◌+◌, ◌<◌, drop, refl, sym, subst, arith}
use Rattle.std.specs.Prelude.{slice_get}
use Rattle.qu_lock.specs.Calls.{calls_by}
use Rattle.qu_lock.proofs.Calling.{call_found, call_passed, call_of_other, no_call}
use Rattle.qu_lock.proofs.kept.client.call_at.Goals.{then-client-me+else-left-eq0, else-client-me}
use Rattle.qu_lock.proofs.kept.client.call_at.Goals as goal

above_none : (left : ℕ) → (left ≡ 0 → ⊥) → 0 < left
above_none zero some = absurd (some refl)
above_none (suc left) some = omega arith

pub returns-then-left-eq0 : goal.returns-then-left-eq0
returns-then-left-eq0 c =
    call_found c.args.me c.args.calls.now c.loop-client.client-index c.loop-client.left c.args.place
    c.loop-client-item.result c.loop-client-test.true c.loop-client-item.is c.loop-client.invariant
    c.if-client-me.true c.if-left-eq0.true

pub loop-client-preserved : goal.loop-client-preserved
loop-client-preserved c =
    let LeftAt : ℕ → Type 0 = λ left.
    slice_get (calls_by c.args.me (drop (c.loop-client.client-index + 1) c.args.calls.now)) left
    ≡ slice_get (calls_by c.args.me c.args.calls.now) c.args.place in
    elim c.if-client-me.branch [
      | then-client-me+else-left-eq0 w ↦
          let some = w.if-left-eq0.false in
          subst LeftAt (sym w.left-is)
          (call_passed c.args.me c.args.calls.now c.loop-client.client-index c.loop-client.left c.args.place
          c.loop-client-item.result c.loop-client-test.true c.loop-client-item.is c.loop-client.invariant
          w.if-client-me.true (above_none c.loop-client.left some))
      | else-client-me w ↦
          subst LeftAt (sym w.left-is)
          (call_of_other c.args.me c.args.calls.now c.loop-client.client-index c.loop-client.left c.args.place
          c.loop-client-item.result c.loop-client-test.true c.loop-client-item.is c.loop-client.invariant
          w.if-client-me.false)
    ]

pub returns : goal.returns
returns c =
    no_call c.args.me c.args.calls.now c.loop-client.client-index c.loop-client.left c.args.place
    c.loop-client-test.false c.loop-client.invariant
