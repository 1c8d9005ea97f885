use Rattle.std.proofs.Common.{◌≡◌, ℕ, true, false, List, arith, ap, sym, ◌∙◌, ◌++◌}
use Rattle.qu_frames.specs.Signing.{before_mac, text_digest}
use Rattle.qu_client.specs.Whom.{is_asked}
use Rattle.qu_client.proofs.Requesting.{requests_from_more, requests_from_less, requests_from_end}
use Rattle.qu_client.proofs.letters.requests_to.Goals as goal
use Rattle.qu_client.proofs.letters.requests_to.Goals.{then-includes+in_ok-text-2+in_ok-push, else-includes}

pub loop-replica-preserved : goal.loop-replica-preserved
loop-replica-preserved c =
    let digested = c.text_digest-digest.ensures ∙ ap text_digest c.as_slice.ensures in
    elim c.if-includes.branch [
      | then-includes+in_ok-text-2+in_ok-push w ↦
          let made = w.in_ok-text-2.ensures ∙ ap (λ (seen : List ℕ). before_mac seen ++ w.seal_for-mac.result)
          w.as_slice-then-includes.ensures in
          let asked : is_asked (c.args.keys.now).bounds c.args.whom c.loop-replica.replica ≡ true =
          sym (rw c.bounds-bounds.ensures at c.includes.ensures) ∙ w.if-includes.true in
          requests_from_more _ _ _ _ _ _ _ _ c.loop-replica.invariant _ _ _ _ _ (omega arith) asked c.in_ok-text.ensures
          digested w.seal_for-mac.ensures made (w.letters-is ∙ w.in_ok-push.ensures.ok)
      | else-includes w ↦
          let other : is_asked (c.args.keys.now).bounds c.args.whom c.loop-replica.replica ≡ false =
          sym (rw c.bounds-bounds.ensures at c.includes.ensures) ∙ w.if-includes.false in
          requests_from_less _ _ _ _ _ _ _ _ c.loop-replica.invariant _ (omega arith) other w.letters-is
    ]

pub returns : goal.returns
returns c = requests_from_end _ _ _ _ _ _ _ _ c.loop-replica.invariant (omega arith)
