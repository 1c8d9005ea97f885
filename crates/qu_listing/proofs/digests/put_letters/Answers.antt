-- the lines of the next letter are those that come next in the whole
use Rattle.qu_listed.specs.Digests.{last_text}
use Rattle.qu_listing.proofs.DigestFacts.{letter_step}
use Rattle.qu_listing.proofs.digests.put_letters.Goals as goal

pub loop-index-preserved : goal.loop-index-preserved
loop-index-preserved c =
    letter_step (last_text c.args.last) c.args.first c.args.event c.loop-index.index c.args.letters.now
    c.index-letters-index.result _ _ _ c.loop-index-test.true c.index-letters-index.is c.loop-index.invariant
    c.in_ok-put_letter.ensures
