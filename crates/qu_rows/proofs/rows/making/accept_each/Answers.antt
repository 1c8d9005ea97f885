use Rattle.std.proofs.Common.{rules}
use Rattle.std.proofs.lemmas.Iterator.{YieldsList-from_slice, YieldsList-from_zip}
use Rattle.std.proofs.lemmas.Iterator.Adapters.{YieldsList-from_vec}
use Rattle.std.proofs.lemmas.Iterator.Consumers.{YieldsList-at, YieldsList-end}
use Rattle.qu_rows.proofs.rows.making.accept_each.Goals as goal

-- the loop has gone over all objects, each with its state
pub returns : goal.returns
returns c =
    let all = YieldsList-from_zip {s = c.zip-one-items.result} (YieldsList-from_slice c.args.seen.now (cc))
    (YieldsList-from_vec c.args.states (cc) (search rules)) in
    let passed = YieldsList-end (YieldsList-at c.into_iter-one-iterator.ensures.into_iter_gives all)
    c.loop-one.yielded _ c.loop-one.yielded_by _ c.next.new.self c.in-None.is c.next.ensures.steps in
    rw (← passed.0) c.loop-one.invariant
