use Rattle.std.proofs.Common.{◌∙◌, sym, arith}
use Rattle.qu_client.proofs.Needs.{needed_more, needed_less, needed_all}
use Rattle.qu_client.proofs.needed.needed_objects.Goals as goal
use Rattle.qu_client.proofs.needed.needed_objects.Goals.{then-is_needed+in_ok-push, else-is_needed}

pub loop-number-preserved : goal.loop-number-preserved
loop-number-preserved c =
    elim c.if-is_needed.branch [
      | then-is_needed+in_ok-push w ↦
          needed_more c.args.bounds c.args.replies.now c.loop-number.number c.loop-number.objects
          c.loop-number.invariant _ (sym c.is_needed.ensures ∙ w.if-is_needed.true)
          (w.objects-is ∙ w.in_ok-push.ensures.ok)
      | else-is_needed w ↦
          needed_less c.args.bounds c.args.replies.now c.loop-number.number c.loop-number.objects
          c.loop-number.invariant _ (sym c.is_needed.ensures ∙ w.if-is_needed.false) w.objects-is
    ]

pub returns : goal.returns
returns c =
    needed_all c.args.bounds c.args.replies.now c.loop-number.number c.loop-number.objects c.loop-number.invariant
    (omega (arith, c.loop-number-test.false, c.loop-number.auto.number-end))
