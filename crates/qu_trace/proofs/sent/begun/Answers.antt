-- Where the starts rise, those at the place or before it stand in front.
use Rattle.std.proofs.Common.{leb, leb-true, arith, rules}
use Rattle.std.proofs.lemmas.Bool.{leb-false}
use Rattle.std.proofs.lemmas.List.Sorted.{IsPartitionPoint-from_clause, IsPartitionedBy-leb}
use Rattle.qu_trace.proofs.sent.begun.Goals as goal

pub returns : goal.returns
returns c =
    let parted = IsPartitionedBy-leb (λ start. start) _ c.args.place c.requires in
    let point = IsPartitionPoint-from_clause (λ start. leb start c.args.place) _ _
    c.partition_point.ensures.partitioned parted (λ a r q k. search rules) in
    record {
      bound = c.partition_point.ensures.bound;
      before = λ k d within. leb-true _ _ (point.0 k d (omega arith) within);
      behind = λ k d from within. leb-false _ _ (point.1 k d from within);
    }
