use Rattle.std.proofs.lemmas.Iterator.{YieldsList-from_slice, YieldsList-from_zip}
use Rattle.std.proofs.lemmas.Iterator.Adapters.{YieldsList-from_vec}
use Rattle.std.proofs.lemmas.Iterator.Consumers.{YieldsList-at, YieldsList-end}
use Rattle.qu_kept.proofs.versions.states_after.Goals as goal

-- the loop has gone over all parts, each with its stamp, its value and its state
pub returns : goal.returns
returns c =
    let changed = YieldsList-from_zip {s = c.zip-changed.result} (YieldsList-from_vec c.args.values (cc) (cc))
    (YieldsList-from_slice c.args.states.now (cc)) in
    let stamped = YieldsList-from_zip {s = c.zip.result} (YieldsList-from_slice c.args.stamps.now (cc))
    (YieldsList-at c.zip.ensures.second changed) in
    let all = YieldsList-from_zip {s = c.zip-object-items.result} (YieldsList-from_slice c.args.parts.now (cc))
    (YieldsList-at c.zip-object-items.ensures.second stamped) in
    let passed = YieldsList-end (YieldsList-at c.into_iter-object-iterator.ensures.into_iter_gives all)
    c.loop-object.yielded _ c.loop-object.yielded_by _ c.next.new.self c.in-None.is c.next.ensures.steps in
    rw (← passed.0) c.loop-object.invariant
