-- No candidate is refused as too early.
use Rattle.std.proofs.Common.{◌∙◌, Err, ap, sym, arith}
use Rattle.qu_stamp.specs.declared.candidate.Candidate.{Candidate}
use Rattle.qu_stamp.specs.declared.stamp.Stamp.{Stamp}
use Rattle.qu_stamp.specs.Stamp.{is_below}
use Rattle.qu_history.specs.declared.history.AddFail.TheVariants.{NotLater}
use Rattle.qu_history.specs.History.{ObjectHistory, latest}
use Rattle.qu_adversary.proofs.Named.{never_early}
use Rattle.qu_adversary.proofs.naming.in_name_of.Goals as goal

pub unreachable-requires : goal.unreachable-requires
unreachable-requires c =
    let same = c.as_slice-candidates.ensures ∙ c.candidates.ensures.value in
    let told = c.in-Err-NotLater.is ∙ ap Err c.in-Err-NotLater.field-0-is in
    let stamp = c.add.ensures.told c.in-Err-NotLater.field-0-0 told in
    let early = c.add.ensures.not_later.0 (told ∙ ap (λ (it : Stamp). Err (NotLater it)) stamp) in
    never_early c.args.history.now.candidates c.as_slice-candidates.result.now c.loop-place.named.candidates
    c.loop-place.place _ (rw (sym c.candidates.ensures.value) c.candidates.ensures.rising) same
    (ap (λ (it : ObjectHistory). it.candidates) c.loop-place.invariant)
    (omega (arith, c.loop-place.auto.place)) (omega (arith, c.loop-place-test.true, c.len-place-end.ensures.value))
    (ap (λ (it : Candidate). is_below (latest c.loop-place.named.candidates) it.stamp)
    (sym c.index-candidates-place.is) ∙ early)
