-- Stamps rise, so those below one stand in front.
use Rattle.std.proofs.Common.{rules, of_calls}
use Rattle.std.proofs.lemmas.Fn.{always_returns_same}
use Rattle.qu_history.proofs.ByStamp.{is_under, parted_by_stamp}
use Rattle.qu_history.proofs.history.count_below.Goals as goal

pub returns : goal.returns
returns c =
    c.partition_point.ensures.partitioned (is_under c.args.stamp.now)
    (always_returns_same _ _ _ (λ a r q k. search (rules, of_calls)))
    (parted_by_stamp c.args.candidates.now c.args.stamp.now c.requires)
