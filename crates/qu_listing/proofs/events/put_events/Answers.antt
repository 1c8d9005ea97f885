-- the lines of the next event are those that come next in the whole, and then it is known too
use Rattle.std.proofs.Common.{refl, take}
use Rattle.qu_listed.specs.Events.{listing}
use Rattle.qu_listing.proofs.EventFacts.{event_step, known_step}
use Rattle.qu_listing.proofs.events.put_events.Goals as goal

pub loop-index-init : goal.loop-index-init
unfolding listing
loop-index-init c = record { text = refl; known = c.in_ok-known.ensures }

pub loop-index-preserved : goal.loop-index-preserved
loop-index-preserved c =
    let entries = c.args.entries.now in
    let index = c.loop-index.index in
    let earlier = take index entries in
    record {
      text = event_step c.args.receivers.now c.args.order.now index entries earlier c.index-entries-index.result _ _ _
          c.loop-index-test.true
          c.index-entries-index.is refl c.loop-index.invariant.text c.in_ok-put_event.ensures.text;
      known = known_step c.args.receivers.now index entries earlier c.index-entries-index.result c.put_event.new.known
          c.loop-index-test.true c.index-entries-index.is refl c.in_ok-put_event.ensures.known;
    }
