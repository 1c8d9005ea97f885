-- the lines of the next event are those that come next in the whole
use Rattle.std.proofs.Common.{◌+◌, arith}
use Rattle.qu_listed.specs.Digests.{last_text}
use Rattle.qu_listing.proofs.DigestFacts.{event_step}
use Rattle.qu_listing.proofs.digests.put_lines.Goals as goal

pub loop-index-preserved : goal.loop-index-preserved
loop-index-preserved c = record {
  most = omega (arith, c.loop-index.invariant.most, c.count_of-number.ensures.few);
  so_far = rw c.count_of-number.ensures.value
      (event_step (last_text c.args.last) c.loop-index.number (c.loop-index.index + 1) c.loop-index.index
      c.args.entries.now c.index-entries-index.result c.as_slice-letters.result.now _ _ _ c.loop-index-test.true
      c.index-entries-index.is c.as_slice-letters.ensures c.loop-index.invariant.so_far c.in_ok-put_letters.ensures);
}
