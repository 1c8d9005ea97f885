-- Letters are the same as far as the loop came, or differ there.
use Rattle.std.proofs.Common.{ap, sym, ◌∙◌, arith}
use Rattle.std.specs.Prelude.{slice_get}
use Rattle.std.proofs.lemmas.Bool.Decides.{Decides-at}
use Rattle.qu_journal.specs.Alike.{same_letter}
use Rattle.qu_journal.proofs.Differing.{unlike_there, same_more, same_all}
use Rattle.qu_journal.proofs.Equal.{decides_letter, equal_letters, other_letters}
use Rattle.qu_journal.proofs.alike.same_letters.Goals as goal

pub returns-then-not-same_letter : goal.returns-then-not-same_letter
returns-then-not-same_letter c =
    let one = c.args.one.now in
    let other = c.args.other.now in
    let place = c.loop-place.place in
    let x = c.index-one-place.result in
    let y = c.index-other-place.result in
    let within = c.loop-place-test.true in
    let same_length = c.loop-place.invariant.0 in
    other_letters one other (λ same.
    unlike_there one other place x y c.same_letter.result within (omega (arith, within, same_length))
    c.index-one-place.is c.index-other-place.is
    (Decides-at c.same_letter.result (same_letter x y) c.same_letter.ensures (decides_letter x y))
    c.if-not-same_letter.true (ap (λ it. slice_get it place) same))

pub loop-place-preserved : goal.loop-place-preserved
loop-place-preserved c =
    let x = c.index-one-place.result in
    let y = c.index-other-place.result in
    let within = c.loop-place-test.true in
    let same_length = c.loop-place.invariant.0 in (
      c.loop-place.invariant.0,
      same_more c.args.one.now c.args.other.now c.loop-place.place x y within (omega (arith, within, same_length))
          c.index-one-place.is c.index-other-place.is
          ((decides_letter x y).0 (sym c.same_letter.ensures ∙ c.if-not-same_letter.false)) c.loop-place.invariant.1,
    )

pub returns : goal.returns
returns c =
    let end = c.loop-place-test.false in
    let same_length = c.loop-place.invariant.0 in
    equal_letters c.args.one.now c.args.other.now
    (same_all c.args.one.now c.args.other.now c.loop-place.place end (omega (arith, end, same_length))
    c.loop-place.invariant.1)
