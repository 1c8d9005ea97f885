-- What the replicas of a run accept over time, as the theory of what is decided speaks of it.
-- Only correct replicas count: a faulty one accepts nothing.
-- Definitions whose comment names no source are this project's own; Query/Update is the paper of SOSP 2005.
use Rattle.std.specs.Prelude.{not, nat_lt, length, is_some}
use Rattle.qu_base.specs.Bounds.{replicas, quorum, repair}
use Rattle.qu_stamp.specs.Candidate.{member}
use Rattle.qu_claims.specs.Count.{count, test_at}
use Rattle.qu_claims.specs.Setting.{Setting}
use Rattle.qu_trace.specs.declared.trace.Trace.{Trace}
use Rattle.qu_trace.specs.Faulty.{is_good}
use Rattle.qu_claims.specs.Accepted.{accepts}
use Rattle.qu_claims.specs.Times.{world_after}

-- times are numbers of events; the last is that after all events
unfoldable pub setting : Trace → Setting
setting trace = record {
  n = replicas trace.setup.bounds;
  faults = count (replicas trace.setup.bounds) (λ replica. not (is_good trace.setup replica));
  b = trace.setup.bounds;
  quorum = quorum trace.setup.bounds;
  repair = repair trace.setup.bounds;
  last = length trace.entries;
  good = is_good trace.setup;
  known = λ object. nat_lt object.0 (length trace.setup.kinds);
  plain = λ candidate. not candidate.stamp.barrier;
  is_act = λ candidate. is_some candidate.stamp.act;
  member = member;
  accepted = λ time object replica candidate.
      test_at (accepts object candidate) (world_after trace time).replicas replica;
}
